-- The successors of a row are the row plus each of its offsets.
use Rattle.std.proofs.Common.{◌≡◌, ℕ, Bool, true, ℤ, pos, negsuc, ◌+ℤ◌, sym, refl, ap, subst}
use Rattle.std.proofs.lemmas.Bool.{and_parts, and_from, ltb-true, lt-ltb, eqb-true, eq-eqb, both_ways}
use Rattle.ctl.proofs.Search.{some_found, some_from}
use Rattle.machine.specs.Sheet.{degree, offset, is_row, SuccessorsAreOffsets}

is_row-true : (t : ℕ) (z : ℤ) → is_row t z ≡ true → pos t ≡ z
is_row-true t (pos u) e = ap pos (sym (eqb-true u t e))
is_row-true t (negsuc u) e = absurd (both_ways true (sym e) refl)

is_row_from : (t : ℕ) (z : ℤ) → pos t ≡ z → is_row t z ≡ true
is_row_from t z e = subst (λ (y : ℤ). is_row t y ≡ true) e (eq-eqb t t refl)

pub sheet_successors : SuccessorsAreOffsets
sheet_successors bytes s t =
    let test : ℕ → Bool = λ k. is_row t (pos s +ℤ offset bytes s k) in (
      (λ e.
          let parts = and_parts _ _ e in
          let f = some_found (degree bytes s) test parts.1 in
          (ltb-true _ _ parts.0, (f.0, (f.1.0, is_row-true t _ f.1.1)))),
      (λ r. let k = r.1.0 in and_from _ _ (lt-ltb _ _ r.0) (some_from (degree bytes s) test k r.1.1.0 (is_row_from t _ r.1.1.1))),
    )
