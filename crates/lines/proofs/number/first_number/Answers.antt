use Rattle.std.proofs.Common.{List, ℕ, sym, subst}
use Rattle.std.proofs.lemmas.Result.{err_from_is_err_and}
use Rattle.lines.specs.Decimals.{IsDecimal}
use Rattle.lines.proofs.Split.{only}
use Rattle.lines.proofs.number.first_number.Goals as goal

pub returns-in_err-value : goal.returns-in_err-value
returns-in_err-value c =
    let p = err_from_is_err_and c.from_residual-in_err-value.result c.from_residual-in_err-value.ensures.1 in
    let h = c.in_err-value.ensures in
    let digits = c.leading_digits.ensures in
    rw (p.1, p.2) (
      h.0,
      λ n r b. h.1 n (subst (λ (l : List ℕ). IsDecimal l n) (sym c.split_at.ensures.front)
          (only c.args.text.now c.in_ok-rest.rest.now c.leading_digits.result c.in_ok-rest.ensures digits.digits digits.stop n r b)),
    )
