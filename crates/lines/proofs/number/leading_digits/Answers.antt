use Rattle.std.proofs.Common.{◌≡◌, ℕ, ◌<◌, ◌≤◌, true, length, get_or, arith}
use Rattle.std.proofs.lemmas.Grind.{common_steps}
use Rattle.std.specs.Char.{is_ascii_digit}
use Rattle.lines.proofs.Digits.{digits_below}
use Rattle.lines.proofs.number.leading_digits.Goals as goal

pub returns-clause-digits : goal.returns-clause-digits
returns-clause-digits c =
    let below : (k : ℕ) → k < c.unwrap_or.result → is_ascii_digit (get_or c.args.text.now k 0) ≡ true = λ k h. grind (arith, common_steps) in
    let within : c.unwrap_or.result ≤ length c.args.text.now = grind (arith, common_steps) in
    digits_below c.args.text.now c.unwrap_or.result within below
