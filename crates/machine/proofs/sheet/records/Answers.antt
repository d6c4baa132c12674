use Rattle.std.proofs.Common.{◌≡◌, ◌+◌, ◌/◌, ◌≤◌, List, ℕ, length, map, take, drop, get_or, nat_le, nat_lt, ◌==◌, ap, ◌∙◌, arith, rules}
use Rattle.std.proofs.lemmas.Grind.{common_steps}
use Rattle.std.specs.Simd.{first_chunks}
use Rattle.std.proofs.lemmas.Bool.{le-ltb, le-leb, and_from, eq-eqb, cond-true, cond-false}
use Rattle.std.proofs.lemmas.List.{get_or-take}
use Rattle.machine.specs.Sheet.{row_count, row_start}
use Rattle.machine.specs.Rows.{row_of, decoded_rows}
use Rattle.machine.proofs.Decoding.{rows_of_records}
use Rattle.machine.proofs.sheet.records.Goals as goal

pub returns : goal.returns
returns c =
    let bytes = c.args.bytes.now in
    let n = c.from-n.result in
    let count : c.in_ok-count.count.now ≡ take 2 bytes = search rules in
    let some : 1 ≤ n = grind (arith, common_steps) in
    let few : n ≤ 1024 = grind (arith, common_steps) in
    let rest : c.in_ok-count.rows.now ≡ drop 2 bytes = search rules in
    let long : length c.in_ok-count.rows.now + 2 ≡ length bytes = search rules in
    let low = ap (λ (l : List ℕ). get_or l 0 0) count ∙ get_or-take 2 bytes 0 0 (omega arith) in
    let high = ap (λ (l : List ℕ). get_or l 1 0) count ∙ get_or-take 2 bytes 1 0 (omega arith) in
    let told : n ≡ row_count bytes = omega (arith, low, high, c.from_le_bytes.ensures, c.from-n.ensures) in
    let many : length c.in_ok-count.rows.now / 21 ≡ n = omega arith in
    let records : c.as_chunks.result.0.now ≡ first_chunks 21 n (drop 2 bytes) =
    c.as_chunks.ensures.front ∙ ap (λ (k : ℕ). first_chunks 21 k c.in_ok-count.rows.now) many ∙ ap (first_chunks 21 n) rest in
    record {
      some = omega (arith, told);
      few = omega (arith, told);
      long = omega (arith, told, c.as_chunks.ensures.front_len);
      rows = ap (map row_of) records ∙ rows_of_records bytes n ∙ ap (decoded_rows bytes) told;
      fault =
          cond-false (nat_lt (length bytes) 2) _ _ (le-ltb _ _ (omega arith))
          ∙ cond-true _ _ _ (and_from (nat_le 1 (row_count bytes)) (nat_le (row_count bytes) 1024) (le-leb _ _ (omega (arith, told))) (le-leb _ _ (omega (arith, told))))
          ∙ cond-true (length bytes == row_start (row_count bytes)) _ _ (eq-eqb _ _ (omega (arith, told)));
    }
