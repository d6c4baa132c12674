use Rattle.std.proofs.Common.{◌≡◌, ℕ, ◌<◌, ◌+◌, ◌*◌, ◌/◌, List, [], length, get_or, take, drop, pos, to_z, ap, ◌∙◌, rules, arith, length-drop}
use borrow.Author.Tests.{tests}
use Rattle.std.specs.Int.{w16, cast_signed, from_le_bytes}
use Rattle.std.specs.Simd.{first_chunks}
use Rattle.std.proofs.lemmas.List.{take_all}
use Rattle.std.proofs.lemmas.List.FromFn.{fill_by_all}
use Rattle.machine.specs.Sheet.{two_bytes}
use Rattle.forms.proofs.Chunks.{get_or-chunk}
use Rattle.machine.proofs.Arrays.{from_fn_at}
use Rattle.machine.proofs.row.RowFromRefArrayU8ROWBYTES.from.Goals as goal

pub returns : goal.returns
returns c =
    let bytes = c.args.bytes.now in
    let pairs = c.as_chunks.result.0.now in
    let read = from_fn_at _ _ c.from_fn.result (pos 0) (λ k. cast_signed w16 (from_le_bytes w16 (get_or pairs k []))) 8
    (λ k y q low called. search (rules, tests)) c.from_fn.ensures.items in
    let whole : take 16 (drop 5 bytes) ≡ drop 5 bytes = take_all 16 (drop 5 bytes) (omega (arith, length-drop 5 bytes)) in
    let many : length (drop 5 bytes) / 2 ≡ 8 = omega (arith, length-drop 5 bytes) in
    let cut : pairs ≡ first_chunks 2 8 (drop 5 bytes) =
    c.as_chunks.ensures.front ∙ ap (λ (l : List ℕ). first_chunks 2 (length l / 2) l) whole ∙ ap (λ (n : ℕ). first_chunks 2 n (drop 5 bytes)) many in
    let pair : (k : ℕ) → k < 8 → from_le_bytes w16 (get_or pairs k []) ≡ two_bytes bytes (5 + 2 * k) = λ k h.
    let low = get_or-chunk 2 8 5 bytes k 0 (5 + 2 * k) h (omega arith) (omega arith) in
    let high = get_or-chunk 2 8 5 bytes k 1 (5 + 2 * k + 1) h (omega arith) (omega arith) in
    rw cut (omega (arith, low, high)) in
    let offsets = fill_by_all (λ k. to_z w16 (two_bytes bytes (5 + 2 * k))) c.from_fn.result 8 (pos 0) c.from_fn.ensures.items.long (λ k h. read k h ∙ ap (to_z w16) (pair k h)) in
    λ i. record { atoms = c.from_le_bytes.ensures i; degree = get_or bytes 4 0; offsets = offsets i }
