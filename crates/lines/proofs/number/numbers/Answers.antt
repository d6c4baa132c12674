use Rattle.std.proofs.Common.{◌≡◌, ℕ, ◌+◌, ◌<◌, List, [], ◌∷◌, ◌++◌, length, take, set, refl, sym, ap, subst, ◌∙◌, arith, add-one, append-nil, length-take, length-set}
use Rattle.std.proofs.Math.Seq.{take-suc-set}
use Rattle.std.proofs.lemmas.Bool.{both_ways, eq-eqb, eqb-true}
use Rattle.std.proofs.lemmas.List.{take_all, length-replicate}
use Rattle.std.proofs.lemmas.Result.{err_from_is_err_and}
use Rattle.lines.specs.Grammar.{WritesNumbers}
use Rattle.lines.proofs.Split.{Continues, Continues_none, Continues_more, Continues_stop, Continues_past, empty}
use Rattle.lines.proofs.number.numbers.Goals as goal

pub loop-number-init : goal.loop-number-init
loop-number-init g c = record { long = simp length-replicate; on = Continues_none c.args.text.now }

pub loop-number-preserved : goal.loop-number-preserved
loop-number-preserved g c =
    let inv = c.loop-number.invariant in
    let i = c.loop-number.number-index in
    let numbers = c.loop-number.number-items in
    let n = c.in_ok-number.field-0-0 in
    let more : take (i + 1) (set numbers i n) ≡ take i numbers ++ n ∷ [] = ap (λ (k : ℕ). take k (set numbers i n)) (add-one i) ∙ take-suc-set numbers i n (omega (arith, inv.long)) in
    record {
      long = length-set numbers i n ∙ inv.long;
      on = subst (λ (l : List ℕ). Continues c.args.text.now l c.in_ok-number.field-0-1.now) (sym more)
          (Continues_more c.args.text.now (take i numbers) c.loop-number.rest.now c.in_ok-number.field-0-1.now n inv.on c.in_ok-number.ensures);
    }

pub returns-in_err-number : goal.returns-in_err-number
returns-in_err-number g c =
    let p = err_from_is_err_and c.from_residual.result c.from_residual.ensures.1 in
    let h = c.in_err-number.ensures in
    let inv = c.loop-number.invariant in
    let taken = take c.loop-number.number-index c.loop-number.number-items in
    let before : length taken < g.row.N = simp length-take (omega (arith, inv.long)) in
    rw (p.1, p.2) (h.0, Continues_stop c.args.text.now taken c.loop-number.rest.now g.row.N inv.on before h.1)

pub returns-then-not-is_empty : goal.returns-then-not-is_empty
returns-then-not-is_empty g c =
    let inv = c.loop-number.invariant in
    let taken = take c.loop-number.number-index c.loop-number.number-items in
    let all : length taken ≡ g.row.N = simp length-take (omega (arith, inv.long)) in
    (refl, λ ns long. Continues_past c.args.text.now taken c.loop-number.rest.now inv.on (λ none. both_ways _ (sym c.if-not-is_empty.ensures) (eq-eqb (length c.loop-number.rest.now) 0 (ap length none))) ns (long ∙ sym all))

pub returns : goal.returns
returns g c =
    let inv = c.loop-number.invariant in
    let numbers = c.loop-number.number-items in
    let all : take c.loop-number.number-index numbers ≡ numbers = take_all c.loop-number.number-index numbers (omega (arith, inv.long)) in
    let whole = inv.on.whole [] (empty c.loop-number.rest.now (let none = eqb-true (length c.loop-number.rest.now) 0 (sym c.if-not-is_empty.ensures) in omega arith)) in
    (inv.long, subst (WritesNumbers c.args.text.now) (append-nil (take c.loop-number.number-index numbers) ∙ all) whole)
