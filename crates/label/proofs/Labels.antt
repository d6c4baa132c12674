-- The states that a labelling gives a form are those at which its formula is true.
use Rattle.std.proofs.Common.{◌≡◌, ℕ, ◌<◌, Bool, false, ◌&&◌, ◌||◌, Some, None, Option, refl, ap₂}
use Rattle.ctl.specs.Model.{Model}
use Rattle.ctl.specs.Formula.{Formula}
use Rattle.ctl.specs.Rounds.{Subset, Same, start, limit}
use Rattle.ctl.specs.Truth.{some_successor, all_successors, truth, form_rounds}
use Rattle.ctl.proofs.Rounds.{Same_round, iterate_agrees, rounds_agree}
use Rattle.ctl.proofs.Successors.{IsMonotone-some_successor, IsMonotone-all_successors}
use Rattle.fixpoint.specs.Sets.{IsSettled}
use Rattle.forms.specs.declared.form.Form.{Form}
use Rattle.forms.specs.declared.form.Form.TheVariants.{And, Or, Next, Until, Release}
use Rattle.forms.specs.declared.form.Quantifier.{Quantifier}
use Rattle.forms.specs.declared.form.Quantifier.TheVariants.{Exists, Every}
use Rattle.forms.specs.Forms.{Earlier}
use Rattle.forms.specs.Meaning.{reading}
use Rattle.label.specs.Growth.{IsMonotone-form_round}
use Rattle.label.specs.Rounds.{follow, form_round, direction, outcome, tally, IsMarked}

-- operands that are known alike give the same states, in as many rounds

follow_alike : (m : Model) (q : Quantifier) (x y : Subset) → Same m.count x y → Same m.count (follow m q x) (follow m q y)
follow_alike m Exists x y = Same_round m.count (some_successor m) (IsMonotone-some_successor m) x y
follow_alike m Every x y = Same_round m.count (all_successors m) (IsMonotone-all_successors m) x y

module _ (m : Model) (g h : ℕ → Subset) (f : ℕ) (alike : (i : ℕ) → i < f → Same m.count (g i) (h i)) where
  form_round_alike : (x : Form) → Earlier f x → (set : Subset) → Same m.count (form_round m g x set) (form_round m h x set)
  form_round_alike (And i j) e set s l = ap₂ ◌&&◌ (alike i e.0 s l) (alike j e.1 s l)
  form_round_alike (Or i j) e set s l = ap₂ ◌||◌ (alike i e.0 s l) (alike j e.1 s l)
  form_round_alike (Next q i) e set s l = follow_alike m q (g i) (h i) (alike i e) s l
  form_round_alike (Until q i j) e set s l = ap₂ (λ (a b : Bool). b || (a && follow m q set s)) (alike i e.0 s l) (alike j e.1 s l)
  form_round_alike (Release q i j) e set s l = ap₂ (λ (a b : Bool). b && (a || follow m q set s)) (alike i e.0 s l) (alike j e.1 s l)
  form_round_alike _ e set s l = refl

  module _ (x : Form) (e : Earlier f x) where
    pub outcome_alike : (d : Option Bool) → Same m.count (outcome m.count (form_round m g x) d) (outcome m.count (form_round m h x) d)
    unfolding limit
    outcome_alike None = form_round_alike x e (start false)
    outcome_alike (Some all) = iterate_agrees m.count _ _ (IsMonotone-form_round m g x) (form_round_alike x e) all m.count

    pub tally_alike : (d : Option Bool) → tally m.count (form_round m g x) d ≡ tally m.count (form_round m h x) d
    tally_alike None = refl
    tally_alike (Some all) = rounds_agree m.count _ _ (IsMonotone-form_round m g x) (form_round_alike x e) all

-- the truth of a form, from that of its operands

module _ (m : Model) (φ : ℕ → Formula) where
  abbrev operands : ℕ → Subset
  operands i = truth m (φ i)

  pub truth-reading : (form : Form) → truth m (reading φ form) ≡ outcome m.count (form_round m operands form) (direction form)
  unfolding truth
  truth-reading (Next Exists i) = refl
  truth-reading (Next Every i) = refl
  truth-reading (Until Exists i j) = refl
  truth-reading (Until Every i j) = refl
  truth-reading (Release Exists i j) = refl
  truth-reading (Release Every i j) = refl
  truth-reading _ = refl

  pub form_rounds-reading : (form : Form) → form_rounds m (reading φ form) ≡ tally m.count (form_round m operands form) (direction form)
  unfolding form_rounds
  form_rounds-reading (Next Exists i) = refl
  form_rounds-reading (Next Every i) = refl
  form_rounds-reading (Until Exists i j) = refl
  form_rounds-reading (Until Every i j) = refl
  form_rounds-reading (Release Exists i j) = refl
  form_rounds-reading (Release Every i j) = refl
  form_rounds-reading _ = refl

-- what a search settles at has the states of its form
pub settled_marks : (m : Model) (given : ℕ → Subset) {form : Form} {all : Bool} {round : Subset → Subset} {x : Subset} {taken : ℕ}
    → IsSettled m.count round all x taken → direction form ≡ Some all → form_round m given form ≡ round → IsMarked m given form x taken
settled_marks m given done way same = record { made = rw way (rw same done.reached); counted = rw way (rw same done.counted) }
