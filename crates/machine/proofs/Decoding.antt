-- The rows of a body with which nothing is wrong keep a sheet's invariant and mean the machine in the body.
use Rattle.std.proofs.Common.{◌≡◌, ℕ, zero, suc, ◌+◌, ◌*◌, ◌^◌, ◌<◌, ◌≤◌, true, false, cond, ◌&&◌, ltb, List, [], ◌∷◌, map, drop, length, get_or, ℤ, pos, to_z, ◌+ℤ◌, is_some, Some, None, Option, sym, refl, ap, ◌∙◌, subst, ⊎_elim, arith}
use mathlib.Core.Path.{fun_ext}
use Rattle.std.proofs.lemmas.Nat.{pow_pos}
use Rattle.std.proofs.lemmas.List.{length-map, get_or-map}
use Rattle.std.proofs.lemmas.List.FromFn.{length-map-range_with_len, get_or-map-range_with_len, fill_by_all}
use Rattle.std.proofs.lemmas.Bool.{and_left, lt-ltb, le-ltb, cond-true, cond-false, cases_lt, both_ways}
use Rattle.std.specs.Option.{option_map, option_or}
use Rattle.std.specs.Int.{w16}
use Rattle.std.specs.Simd.{first_chunks}
use Rattle.ctl.specs.Model.{Model}
use Rattle.machine.specs.declared.row.Row.{Row}
use Rattle.machine.specs.Sheet.{two_bytes, four_bytes, row_count, row_start, row_atoms, degree, offset, is_row, offset_leads, sheet}
use Rattle.machine.specs.Rows.{decoded_row, row_of, decoded_rows, no_row, target, row_leads, rows_model, IsNarrow}
use Rattle.machine.specs.Faults.{row_fault, rows_fault, IsCut, IsSheet}
use Rattle.forms.proofs.Chunks.{length-first_chunks, get_or-chunk}
use Rattle.machine.proofs.BelowTests.{some_agrees}
use Rattle.machine.specs.RowsSound.{IsClean_row, past_atoms, past_leads}

neither : {X : Type 0} (p q : Option X) → is_some (option_or p q) ≡ false → (is_some p ≡ false) × (is_some q ≡ false)
neither None q none = (refl, none)
neither (Some x) q none = absurd (both_ways true none refl)

unmapped : {X Y : Type 0} (f : X → Y) (p : Option X) → is_some (option_map f p) ≡ false → is_some p ≡ false
unmapped f None none = refl
unmapped f (Some x) none = none

-- where nothing is wrong with rows, the first of which has number i, there is nothing wrong with one
none_at : (n i : ℕ) (rows : List Row) (s k : ℕ) → is_some (rows_fault n i rows) ≡ false → s < length rows → i + s ≡ k → is_some (row_fault n k (get_or rows s no_row)) ≡ false
none_at n i [] s k none h e = absurd (omega arith)
none_at n i (row ∷ rows) zero k none h e =
    let here = unmapped _ (row_fault n i row) (neither _ (rows_fault n (i + 1) rows) none).0 in
    subst (λ (j : ℕ). is_some (row_fault n j row) ≡ false) (let same : i ≡ k = omega arith in same) here
none_at n i (row ∷ rows) (suc s) k none h e = none_at n (i + 1) rows s k (neither _ (rows_fault n (i + 1) rows) none).1 (omega arith) (omega arith)

-- the 21 bytes of a row in a body
module _ (bytes : List ℕ) (n s : ℕ) (below : s < n) where
  abbrev record_at : List ℕ
  record_at = get_or (first_chunks 21 n (drop 2 bytes)) s []

  byte : (j p : ℕ) → j < 21 → 2 + 21 * s + j ≡ p → get_or record_at j 0 ≡ get_or bytes p 0
  byte j p within place = get_or-chunk 21 n 2 bytes s j p below within place

  pair : (j p : ℕ) → j < 20 → 2 + 21 * s + j ≡ p → two_bytes record_at j ≡ two_bytes bytes p
  pair j p within place = let low = byte j p (omega arith) place in let high = byte (j + 1) (p + 1) (omega arith) (omega arith) in omega (arith, low, high)

  offsets_of-record_at : (row_of record_at).offsets ≡ (decoded_row bytes s).offsets
  offsets_of-record_at =
      fill_by_all (offset bytes s) _ 8 (pos 0) (length-map-range_with_len (λ k. to_z w16 (two_bytes record_at (5 + 2 * k))) 0 8)
      (λ k h. get_or-map-range_with_len (λ k. to_z w16 (two_bytes record_at (5 + 2 * k))) 0 8 k k (pos 0) h (omega arith)
      ∙ ap (to_z w16) (pair (5 + 2 * k) (row_start s + 5 + 2 * k) (omega arith) (omega arith)))

  row_of-record_at : row_of record_at ≡ decoded_row bytes s
  row_of-record_at =
      let first = byte 0 (row_start s) (omega arith) (omega arith) in
      let second = byte 1 (row_start s + 1) (omega arith) (omega arith) in
      let third = byte 2 (row_start s + 2) (omega arith) (omega arith) in
      let fourth = byte 3 (row_start s + 3) (omega arith) (omega arith) in
      let atoms : four_bytes record_at 0 ≡ row_atoms bytes s = omega (arith, first, second, third, fourth) in
      let degree = byte 4 (row_start s + 4) (omega arith) (omega arith) in
      λ i. record { atoms = atoms i; degree = degree i; offsets = offsets_of-record_at i }

-- the rows of a body, read from its records
pub rows_of_records : (bytes : List ℕ) (n : ℕ) → map row_of (first_chunks 21 n (drop 2 bytes)) ≡ decoded_rows bytes n
rows_of_records bytes n =
    fill_by_all (decoded_row bytes) _ n no_row (length-map (first_chunks 21 n (drop 2 bytes)) row_of ∙ length-first_chunks 21 n (drop 2 bytes))
    (λ s h. get_or-map row_of (first_chunks 21 n (drop 2 bytes)) s [] no_row (omega (arith, length-first_chunks 21 n (drop 2 bytes))) ∙ row_of-record_at bytes n s h)

module _ (bytes : List ℕ) (n : ℕ) where
  length-decoded_rows : length (decoded_rows bytes n) ≡ n
  length-decoded_rows = length-map-range_with_len (decoded_row bytes) 0 n

  decoded_rows_at : (s : ℕ) → s < n → get_or (decoded_rows bytes n) s no_row ≡ decoded_row bytes s
  decoded_rows_at s h = get_or-map-range_with_len (decoded_row bytes) 0 n s s no_row h (omega arith)

  four_bytes_fit : ((i : ℕ) → get_or bytes i 0 < 256) → (i : ℕ) → four_bytes bytes i < 2 ^ 32
  four_bytes_fit octets i = omega (arith, octets i, octets (i + 1), octets (i + 2), octets (i + 3))

  IsNarrow-decoded_rows : ((i : ℕ) → get_or bytes i 0 < 256) → IsNarrow (decoded_rows bytes n)
  IsNarrow-decoded_rows octets s =
      ⊎_elim
      (λ h. subst (λ (row : Row). row.atoms < 2 ^ 32) (sym (decoded_rows_at s h)) (four_bytes_fit octets (row_start s)))
      (λ h. subst (λ x. x < 2 ^ 32) (sym (past_atoms (decoded_rows bytes n) s (omega (arith, length-decoded_rows)))) (pow_pos 32))
      (cases_lt s n)

  -- the rows of a body with which nothing is wrong keep a sheet's invariant
  pub IsSheet-decoded_rows : 1 ≤ n → n ≤ 1024 → is_some (rows_fault n 0 (decoded_rows bytes n)) ≡ false → ((i : ℕ) → get_or bytes i 0 < 256) → IsSheet (decoded_rows bytes n)
  IsSheet-decoded_rows low few none octets = record {
    inhabited = omega (arith, length-decoded_rows);
    few = omega (arith, length-decoded_rows);
    clean = λ s h. subst (λ m. is_some (row_fault m s (get_or (decoded_rows bytes n) s no_row)) ≡ false) (sym length-decoded_rows) (none_at n 0 (decoded_rows bytes n) s s none h (omega arith));
    narrow = IsNarrow-decoded_rows octets;
  }

  -- a decoded row leads where its bytes say
  row_leads-decoded_row : (s t : ℕ) → degree bytes s ≤ 8 → row_leads (decoded_row bytes s) s t ≡ offset_leads bytes s t
  row_leads-decoded_row s t high =
      some_agrees (degree bytes s) (λ k. is_row t (target (decoded_row bytes s) s k)) (λ k. is_row t (pos s +ℤ offset bytes s k))
      (λ k h. ap (λ (z : ℤ). is_row t (pos s +ℤ z)) (get_or-map-range_with_len (offset bytes s) 0 8 k k (pos 0) (omega arith) (omega arith)))

  atoms_mean : (s : ℕ) → (get_or (decoded_rows bytes n) s no_row).atoms ≡ cond (ltb s n) (row_atoms bytes s) 0
  atoms_mean s =
      ⊎_elim
      (λ h. ap (λ (row : Row). row.atoms) (decoded_rows_at s h) ∙ sym (cond-true _ _ _ (lt-ltb s n h)))
      (λ h. past_atoms (decoded_rows bytes n) s (omega (arith, length-decoded_rows)) ∙ sym (cond-false _ _ _ (le-ltb s n h)))
      (cases_lt s n)

  leads_mean : is_some (rows_fault n 0 (decoded_rows bytes n)) ≡ false → (s t : ℕ) →
      row_leads (get_or (decoded_rows bytes n) s no_row) s t ≡ (ltb s n && offset_leads bytes s t)
  leads_mean none s t =
      ⊎_elim
      (λ h. ap (λ (row : Row). row_leads row s t) (decoded_rows_at s h)
      ∙ (row_leads-decoded_row s t (IsClean_row n s (decoded_row bytes s) (subst (λ (row : Row). is_some (row_fault n s row) ≡ false) (decoded_rows_at s h) (none_at n 0 (decoded_rows bytes n) s s none (omega (arith, length-decoded_rows)) (omega arith)))).high
      ∙ sym (ap (λ b. b && offset_leads bytes s t) (lt-ltb s n h))))
      (λ h. past_leads (decoded_rows bytes n) s t (omega (arith, length-decoded_rows)) ∙ sym (and_left _ _ (le-ltb s n h)))
      (cases_lt s n)

-- models with the same states, atoms and transitions are the same
same_model : (a b : Model) → a.count ≡ b.count → ((s : ℕ) → a.atoms s ≡ b.atoms s) → ((s t : ℕ) → a.leads s t ≡ b.leads s t) → a ≡ b
same_model a b counts labels steps =
    λ i. record {
      count = counts i;
      atoms = fun_ext labels i;
      leads = fun_ext (λ s. fun_ext (steps s)) i;
    }

pub rows_mean : (bytes : List ℕ) → is_some (rows_fault (row_count bytes) 0 (decoded_rows bytes (row_count bytes))) ≡ false → rows_model (decoded_rows bytes (row_count bytes)) ≡ sheet bytes
rows_mean bytes none =
    let n = row_count bytes in
    same_model (rows_model (decoded_rows bytes n)) (sheet bytes) (length-decoded_rows bytes n) (atoms_mean bytes n) (leads_mean bytes n none)

-- nothing is wrong with the rows of a body where nothing is wrong with those of its records
pub none_wrong : (bytes : List ℕ) (records : List (List ℕ)) → IsCut bytes records → rows_fault (length records) 0 (map row_of records) ≡ None →
    rows_fault (row_count bytes) 0 (decoded_rows bytes (row_count bytes)) ≡ None
none_wrong bytes records cut none = ap (rows_fault (row_count bytes) 0) (sym cut.rows) ∙ ap (λ n. rows_fault n 0 (map row_of records)) (sym cut.long) ∙ none
