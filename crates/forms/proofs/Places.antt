-- The places of a table's array, once a form is written to one or they are freed.
use Rattle.std.proofs.Common.{◌≡◌, ℕ, suc, ◌+◌, ◌-◌, ◌<◌, ◌≤◌, List, [], ◌∷◌, ◌++◌, length, set, take, replicate, sym, refl, ap, ◌∙◌, arith}
use Rattle.std.proofs.lemmas.List.{length-append, length-take-le, take-append-le, take-take, take_more_set}
use Rattle.forms.specs.declared.form.Form.{Form}
use Rattle.forms.specs.declared.form.Form.TheVariants.{Truth}
use Rattle.forms.specs.Places.{with_free_places}

-- the first free place is written
set_free : (T : List Form) (k : ℕ) (x : Form) → set (T ++ replicate (suc k) Truth) (length T) x ≡ (T ++ x ∷ []) ++ replicate k Truth
set_free [] k x = refl
set_free (y ∷ T) k x = ap (λ (rest : List Form). y ∷ rest) (set_free T k x)

module _ (places : List Form) (n : ℕ) where
  pub places_written : n < 64 → (x : Form) → n ≤ length places → n < length places → places ≡ with_free_places (take n places) → set places n x ≡ with_free_places (take (n + 1) (set places n x))
  places_written few x fits there filled =
      let T = take n places in
      let size = length-take-le n places fits in
      let left : 64 - length T ≡ suc (63 - n) = omega (arith, size) in
      let less : 63 - n ≡ 64 - length (T ++ x ∷ []) = omega (arith, size, length-append T (x ∷ [])) in
      ap (λ (all : List Form). set all n x) (filled ∙ ap (λ (k : ℕ). T ++ replicate k Truth) left)
      ∙ ap (λ (k : ℕ). set (T ++ replicate (suc (63 - n)) Truth) k x) (sym size)
      ∙ set_free T (63 - n) x
      ∙ ap (λ (k : ℕ). (T ++ x ∷ []) ++ replicate k Truth) less
      ∙ ap with_free_places (sym (take_more_set places n x there))

  -- the taken places stay where the others are freed
  pub freed_front : {now : List Form} → n ≤ length places → now ≡ with_free_places (take n places) → take n now ≡ take n places
  freed_front {now} fits freed =
      let size = length-take-le n places fits in
      ap (take n) freed ∙ take-append-le n (take n places) (replicate (64 - length (take n places)) Truth) (omega (arith, size)) ∙ take-take n n places (omega arith)
