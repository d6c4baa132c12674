use Rattle.std.proofs.Common.{◌≡◌, ℕ, ◌<◌, ◌≤◌, true, false, length, get_or, sym, arith}
use Rattle.std.proofs.lemmas.Grind.{common_steps}
use Rattle.std.proofs.lemmas.List.Sums.{position_or_len_is}
use Rattle.lines.specs.Kept.{is_feed}
use Rattle.lines.proofs.input.line_end.Goals as goal

pub returns : goal.returns
returns c =
    let bytes = c.args.bytes.now in
    let end = c.unwrap_or.result in
    let within : end ≤ length bytes = grind (arith, common_steps) in
    let before : (k : ℕ) → k < end → is_feed (get_or bytes k 0) ≡ false = λ k h. grind (arith, common_steps) in
    let found : end < length bytes → is_feed (get_or bytes end 0) ≡ true = λ h. grind (arith, common_steps) in
    sym (position_or_len_is is_feed bytes end 0 within before found)
