-- One bit written in one element of a list.
use Rattle.std.proofs.Common.{◌≡◌, ℕ, ◌+◌, ◌/◌, ◌%◌, ◌^◌, ◌<◌, Bool, false, ◌≢◌, List, length, get_or, set, sym, ap, ◌∙◌, ap₂, ⊎_elim, add-zero, length-set, get_or-set_other, get_or-set_same}
use mathlib.Core.Path.{fun_ext}
use Rattle.std.proofs.lemmas.Bool.{cases_eq}
use Rattle.fixpoint.specs.Sets.{put_at}
use Rattle.fixpoint.proofs.Overlays.{put_at_same, put_at_other}
use Rattle.forms.specs.Sets.{member}
use Rattle.label.specs.Bits.{others, put_bit}
use Rattle.label.specs.Columns.{column, other_bits, Rest, rest_of}
use Rattle.label.proofs.Bitwise.{member-put_bit, others-put_bit, put_bit_high, put_low, has_other}

module _ (xs : List ℕ) (i k : ℕ) (b : Bool) (v : ℕ) (to : v ≡ put_bit (get_or xs i 0) k b) (h : i < length xs) where
  pub column_put : column (set xs i v) k ≡ put_at (column xs k) i b
  column_put = fun_ext (λ j. ⊎_elim (λ s. at j s) (λ ne. off j ne) (cases_eq j i))
    where
      here : column (set xs i v) k i ≡ put_at (column xs k) i b i
      here = ap (λ (w : ℕ). member w k) (rw get_or-set_same to) ∙ member-put_bit (get_or xs i 0) k b ∙ sym (put_at_same (column xs k) i b)

      at : (j : ℕ) → j ≡ i → column (set xs i v) k j ≡ put_at (column xs k) i b j
      at j s = rw s here

      off : (j : ℕ) → (j ≡ i → ⊥) → column (set xs i v) k j ≡ put_at (column xs k) i b j
      off j ne = let away : j ≢ i = ne in ap (λ (w : ℕ). member w k) (rw get_or-set_other) ∙ sym (put_at_other (column xs k) i j b ne)

  others_put : other_bits (set xs i v) k ≡ other_bits xs k
  others_put = fun_ext (λ j. ⊎_elim (λ s. at j s) (λ ne. off j ne) (cases_eq j i))
    where
      here : others (get_or (set xs i v) i 0) k ≡ others (get_or xs i 0) k
      here = ap (λ (w : ℕ). others w k) (rw get_or-set_same to) ∙ others-put_bit (get_or xs i 0) k b

      at : (j : ℕ) → j ≡ i → others (get_or (set xs i v) j 0) k ≡ others (get_or xs j 0) k
      at j s = rw s here

      off : (j : ℕ) → (j ≡ i → ⊥) → others (get_or (set xs i v) j 0) k ≡ others (get_or xs j 0) k
      off j ne = let away : j ≢ i = ne in ap (λ (w : ℕ). others w k) (rw get_or-set_other)

  pub rest_put : (name : ℕ) → rest_of (set xs i v) k name ≡ rest_of xs k name
  rest_put name = ap₂ rest others_put (simp length-set)
    where
      rest : (ℕ → ℕ) → ℕ → Rest
      rest w n = record { form = k; others = w; count = n; name = name }

-- another bit is among what stays
pub member-others : (w k j : ℕ) → (j ≡ k → ⊥) → member w j ≡ member (others w k) j
member-others w k j ne =
    let same : put_bit w k false ≡ others w k = add-zero (others w k) in
    has_other w (others w k) k j ne
    (sym (put_bit_high w k false) ∙ ap (λ (v : ℕ). v / 2 ^ (k + 1)) same) (sym (put_low w k false) ∙ ap (λ (v : ℕ). v % 2 ^ k) same)
