-- What stays true of a set when forms join the table.
use Rattle.std.proofs.Common.{◌≡◌, ℕ, zero, suc, ◌^◌, ◌<◌, ◌≤◌, true, ◌++◌, length, sym, refl, ap, ◌∙◌, subst, arith, pow_mono}
use Rattle.std.proofs.lemmas.List.{length-append}
use Rattle.std.proofs.lemmas.Bool.{ltb-true, lt-ltb}
use Rattle.ctl.specs.Model.{Model}
use Rattle.ctl.specs.Meaning.{Holds}
use Rattle.forms.specs.Forms.{Table, form, IsWellFormed}
use Rattle.forms.specs.Meaning.{reading, formula_at_depth, formula, SetHolds}
use Rattle.forms.specs.Sets.{is_within}
use Rattle.forms.proofs.Reading.{reading_same}
use Rattle.forms.proofs.SetsWithin.{is_within_below}
use Rattle.tableau.proofs.Grow.{form_grows}

pub is_within_grows : (T more : Table) (set : ℕ) → is_within T set ≡ true → is_within (T ++ more) set ≡ true
is_within_grows T more set h =
    let longer : length T ≤ length (T ++ more) = omega (arith, length-append T more) in
    lt-ltb set (2 ^ length (T ++ more)) (omega (arith, ltb-true set (2 ^ length T) h, pow_mono longer))

formula_at_depth_grows : (T more : Table) → IsWellFormed T → (d f : ℕ) → f < length T → formula_at_depth d (T ++ more) f ≡ formula_at_depth d T f
unfolding formula_at_depth
formula_at_depth_grows T more w zero f h = refl
formula_at_depth_grows T more w (suc d) f h =
    ap (reading (formula_at_depth d (T ++ more))) (form_grows T more f h)
    ∙ reading_same (formula_at_depth d (T ++ more)) (formula_at_depth d T) f (λ i l. formula_at_depth_grows T more w d i (omega arith)) (form T f) (w f)

formula_grows : (T more : Table) → IsWellFormed T → (f : ℕ) → f < length T → formula (T ++ more) f ≡ formula T f
unfolding formula
formula_grows T more w f h = formula_at_depth_grows T more w (suc f) f h

module _ (T more : Table) (w : IsWellFormed T) (set : ℕ) (inside : is_within T set ≡ true) (m : Model) (t : ℕ) where
  pub holds_more : SetHolds T m set t → SetHolds (T ++ more) m set t
  holds_more h = (h.0, λ f b. subst (λ φ. Holds m φ t) (sym (formula_grows T more w f (is_within_below T set inside f b))) (h.1 f b))

  pub SetHolds_less : SetHolds (T ++ more) m set t → SetHolds T m set t
  SetHolds_less h = (h.0, λ f b. subst (λ φ. Holds m φ t) (formula_grows T more w f (is_within_below T set inside f b)) (h.1 f b))
