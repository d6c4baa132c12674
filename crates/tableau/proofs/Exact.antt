-- The function that takes a step and the relation of the rules say the same.
use Rattle.std.proofs.Common.{◌≡◌, ℕ, zero, suc, Bool, true, false, cond, not, ◌&&◌, eqb, [], ◌∷◌, Some, None, sym, refl, ap, ◌∙◌, subst}
use Rattle.std.proofs.lemmas.Bool.{eqb-true, eq-eqb, and_parts, and_from, not-true, not_from_false, false≢true}
use Rattle.forms.specs.Sets.{member, is_subset}
use Rattle.forms.specs.declared.form.Quantifier.{Quantifier}
use Rattle.forms.specs.declared.form.Quantifier.TheVariants.{Exists, Every}
use Rattle.forms.specs.declared.form.Form.{Form}
use Rattle.forms.specs.declared.form.Form.TheVariants.{Falsity, Atom, Absent, And, Or, Next, Until, Release}
use Rattle.forms.specs.Forms.{Table, form}
use Rattle.tableau.specs.declared.goals.Focus.{Focus}
use Rattle.tableau.specs.declared.goals.Focus.TheVariants.{At}
use Rattle.tableau.specs.declared.goals.Goal.{Goal}
use Rattle.tableau.specs.declared.goals.Step.{Step}
use Rattle.tableau.specs.declared.goals.Step.TheVariants.{Clash, Absurdity, Split, Choose, Unroll, Refocus, Advance, Repeat}
use Rattle.forms.specs.declared.refusal.Refusal.{Refusal}
use Rattle.forms.specs.declared.refusal.Refusal.TheVariants.{NotInGoal, DoesNotFit, DoesNotClose}
use Rattle.tableau.specs.Steps.{Trail, Outcome, closes, one, two, refused}
use Rattle.tableau.specs.Nexts.{is_same_quantifier, is_next_of, every_operands}
use Rattle.tableau.specs.Ancestors.{repeats, unrolled_focus, took_refocus}
use Rattle.tableau.specs.Rules.{outcome_given, on_clash, on_absurdity, on_split, on_choose, on_unroll, on_refocus, on_exists, on_repeat, outcome}
use Rattle.tableau.specs.Focus.{first_focus, second_focus, focus_after}
use Rattle.tableau.specs.Statements.{Allows, OutcomeIsExact, RefusalIsExact}
use Rattle.tableau.specs.Allowed.{In, all_inside, misfit, blame, Repeats, here, higher, Rule, by_clash, by_absurdity, by_split, by_choose, by_until, by_release, by_refocus, by_advance, by_any, by_repeat}

is_same_quantifier_true : (q r : Quantifier) → is_same_quantifier q r ≡ true → q ≡ r
is_same_quantifier_true Exists Exists e = refl
is_same_quantifier_true Every Every e = refl
is_same_quantifier_true _ _ e = absurd (false≢true e)

is_same_quantifier_refl : (q : Quantifier) → is_same_quantifier q q ≡ true
is_same_quantifier_refl Exists = refl
is_same_quantifier_refl Every = refl

is_next_of_true : (q : Quantifier) (a : ℕ) (x : Form) → is_next_of q a x ≡ true → x ≡ Next q a
is_next_of_true q a (Next r i) e =
    let p : (is_same_quantifier q r ≡ true) × (eqb i a ≡ true) = and_parts (is_same_quantifier q r) (eqb i a) e in
    ap (λ z. Next z i) (sym (is_same_quantifier_true q r p.0)) ∙ ap (Next q) (eqb-true i a p.1)
is_next_of_true q a _ e = absurd (false≢true e)

is_next_of-Next : (q : Quantifier) (a : ℕ) → is_next_of q a (Next q a) ≡ true
is_next_of-Next q a = and_from (is_same_quantifier q q) (eqb a a) (is_same_quantifier_refl q) (eq-eqb a a refl)

Repeats-repeats : (u s n : ℕ) (trail : Trail) → repeats u s n trail ≡ true → Repeats u s n trail
unfolding repeats
Repeats-repeats u s n [] e = absurd (false≢true e)
Repeats-repeats u s zero (x ∷ trail) e = absurd (false≢true e)
Repeats-repeats u s (suc zero) (x ∷ trail) e =
    let p : (unrolled_focus u x ≡ true) × (is_subset x.goal.set s ≡ true) = and_parts (unrolled_focus u x) (is_subset x.goal.set s) e in
    here p.0 p.1
Repeats-repeats u s (suc (suc n)) (x ∷ trail) e =
    let p : (not (took_refocus x) ≡ true) × (repeats u s (suc n) trail ≡ true) = and_parts (not (took_refocus x)) (repeats u s (suc n) trail) e in
    higher (not-true (took_refocus x) p.0) (Repeats-repeats u s (suc n) trail p.1)

repeats-Repeats : (u s n : ℕ) (trail : Trail) → Repeats u s n trail → repeats u s n trail ≡ true
unfolding repeats
repeats-Repeats u s n trail (here {x} un co) = and_from (unrolled_focus u x) (is_subset x.goal.set s) un co
repeats-Repeats u s n trail (higher {n = n'} {x = x} {above = above} nr rest) =
    and_from (not (took_refocus x)) (repeats u s (suc n') above) (not_from_false (took_refocus x) nr) (repeats-Repeats u s (suc n') above rest)

-- the outcome is a rule's, or the refusal for the first fault of the step
abbrev pub IsRuled : Table → Trail → Goal → Step → Outcome → Type 0
IsRuled T trail g st closes = Rule T trail g st closes
IsRuled T trail g st (one c) = Rule T trail g st (one c)
IsRuled T trail g st (two c d) = Rule T trail g st (two c d)
IsRuled T trail g st (refused r) = r ≡ blame g st

module _ (T : Table) (trail : Trail) (g : Goal) where
  IsRuled-outcome_given : (st : Step) (b : Bool) (r : Refusal) (out : Outcome) → (b ≡ false → r ≡ blame g st) → (b ≡ true → IsRuled T trail g st out) → IsRuled T trail g st (outcome_given b r out)
  IsRuled-outcome_given st true r out k h = h refl
  IsRuled-outcome_given st false r out k h = k refl

  -- the first fault, where a named form is not in the goal, and where all are
  unnamed : (st : Step) → all_inside g st ≡ false → NotInGoal ≡ blame g st
  unnamed st e = sym (ap (λ b. cond b (misfit st) NotInGoal) e)

  misfits : (st : Step) → all_inside g st ≡ true → misfit st ≡ blame g st
  misfits st e = sym (ap (λ b. cond b (misfit st) NotInGoal) e)

  IsRuled-Absurdity : (a : ℕ) → In g a → (x : Form) → form T a ≡ x → IsRuled T trail g (Absurdity a) (on_absurdity x)
  IsRuled-Absurdity a ia Falsity e = by_absurdity ia e
  IsRuled-Absurdity a ia _ e = misfits (Absurdity a) ia

  IsRuled-Split : (a : ℕ) → In g a → (x : Form) → form T a ≡ x → IsRuled T trail g (Split a) (on_split g.set a g.focus x)
  IsRuled-Split a ia (And i j) e = by_split ia e
  IsRuled-Split a ia _ e = misfits (Split a) ia

  IsRuled-Choose : (a : ℕ) → In g a → (x : Form) → form T a ≡ x → IsRuled T trail g (Choose a) (on_choose g.set a g.focus x)
  IsRuled-Choose a ia (Or i j) e = by_choose ia e
  IsRuled-Choose a ia _ e = misfits (Choose a) ia

  IsRuled-Unroll : (a b : ℕ) → In g a → (x : Form) → form T a ≡ x
      → IsRuled T trail g (Unroll a b) (on_unroll g.set a b (first_focus a g.focus) (second_focus a b g.focus) x (form T b))
  IsRuled-Unroll a b ia (Until q i j) e = IsRuled-outcome_given (Unroll a b) (is_next_of q a (form T b)) DoesNotFit _ (λ _. misfits (Unroll a b) ia) (λ n. by_until ia e (is_next_of_true q a (form T b) n))
  IsRuled-Unroll a b ia (Release q i j) e = IsRuled-outcome_given (Unroll a b) (is_next_of q a (form T b)) DoesNotFit _ (λ _. misfits (Unroll a b) ia) (λ n. by_release ia e (is_next_of_true q a (form T b) n))
  IsRuled-Unroll a b ia _ e = misfits (Unroll a b) ia

  IsRuled-Refocus : (a : ℕ) → In g a → (x : Form) → form T a ≡ x → IsRuled T trail g (Refocus a) (on_refocus g.set (At a) x)
  IsRuled-Refocus a ia (Until q i j) e = by_refocus ia e
  IsRuled-Refocus a ia _ e = misfits (Refocus a) ia

  IsRuled-Advance : (a : ℕ) → In g a → (x : Form) → form T a ≡ x → IsRuled T trail g (Advance (Some a)) (on_exists (every_operands T 0 g.set) (focus_after T (Some a) g.focus) x)
  IsRuled-Advance a ia (Next Exists i) e = by_advance ia e
  IsRuled-Advance a ia _ e = misfits (Advance (Some a)) ia

  IsRuled-Repeat : (n : ℕ) (f : Focus) → g.focus ≡ f → IsRuled T trail g (Repeat n) (on_repeat trail g.set n f)
  IsRuled-Repeat n (At u) e = IsRuled-outcome_given (Repeat n) (repeats u g.set n trail) DoesNotClose closes (λ _. refl) (λ h. by_repeat e (Repeats-repeats u g.set n trail h))
  IsRuled-Repeat n _ e = refl

  both_inside : (a b : ℕ) → In g a → In g b → all_inside g (Clash a b) ≡ true
  both_inside a b ia ib = and_from (member g.set a) (member g.set b) ia ib

  IsRuled-Clash : (a b : ℕ) → In g a → In g b → (x y : Form) → form T a ≡ x → form T b ≡ y → IsRuled T trail g (Clash a b) (on_clash x y)
  IsRuled-Clash a b ia ib (Atom p) (Absent r) e d = IsRuled-outcome_given (Clash a b) (eqb p r) DoesNotFit closes (λ _. misfits (Clash a b) (both_inside a b ia ib)) (λ h. by_clash ia ib e (d ∙ ap Absent (sym (eqb-true p r h))))
  IsRuled-Clash a b ia ib _ _ e d = misfits (Clash a b) (both_inside a b ia ib)

  -- what the function answers is allowed by a rule
  pub IsRuled-outcome : (st : Step) → IsRuled T trail g st (outcome T trail g st)
  IsRuled-outcome (Clash a b) =
      IsRuled-outcome_given (Clash a b) (member g.set a && member g.set b) NotInGoal _ (unnamed (Clash a b))
      (λ h. let p : In g a × In g b = and_parts (member g.set a) (member g.set b) h in IsRuled-Clash a b p.0 p.1 (form T a) (form T b) refl refl)
  IsRuled-outcome (Absurdity a) = IsRuled-outcome_given (Absurdity a) (member g.set a) NotInGoal _ (unnamed (Absurdity a)) (λ h. IsRuled-Absurdity a h (form T a) refl)
  IsRuled-outcome (Split a) = IsRuled-outcome_given (Split a) (member g.set a) NotInGoal _ (unnamed (Split a)) (λ h. IsRuled-Split a h (form T a) refl)
  IsRuled-outcome (Choose a) = IsRuled-outcome_given (Choose a) (member g.set a) NotInGoal _ (unnamed (Choose a)) (λ h. IsRuled-Choose a h (form T a) refl)
  IsRuled-outcome (Unroll a b) = IsRuled-outcome_given (Unroll a b) (member g.set a) NotInGoal _ (unnamed (Unroll a b)) (λ h. IsRuled-Unroll a b h (form T a) refl)
  IsRuled-outcome (Refocus a) = IsRuled-outcome_given (Refocus a) (member g.set a) NotInGoal _ (unnamed (Refocus a)) (λ h. IsRuled-Refocus a h (form T a) refl)
  IsRuled-outcome (Advance None) = by_any
  IsRuled-outcome (Advance (Some a)) = IsRuled-outcome_given (Advance (Some a)) (member g.set a) NotInGoal _ (unnamed (Advance (Some a))) (λ h. IsRuled-Advance a h (form T a) refl)
  IsRuled-outcome (Repeat n) = IsRuled-Repeat n g.focus refl

  -- a test that passes
  passed : {b : Bool} (r : Refusal) {out : Outcome} → b ≡ true → outcome_given b r out ≡ out
  passed r {out} e = ap (λ z. outcome_given z r out) e

  abbrev unrolled : (a b : ℕ) → (x y : Form) → Outcome
  unrolled a b = on_unroll g.set a b (first_focus a g.focus) (second_focus a b g.focus)

  -- and the function answers what a rule allows
  pub outcome-Rule : (st : Step) (out : Outcome) → Rule T trail g st out → outcome T trail g st ≡ out
  outcome-Rule st out (by_clash {a} {b} {p} ia ib ea eb) =
      passed NotInGoal (both_inside a b ia ib) ∙ ap (λ x. on_clash x (form T b)) ea ∙ ap (on_clash (Atom p)) eb ∙ passed DoesNotFit (eq-eqb p p refl)
  outcome-Rule st out (by_absurdity {a} ia ea) = passed NotInGoal ia ∙ ap on_absurdity ea
  outcome-Rule st out (by_split {a} ia ea) = passed NotInGoal ia ∙ ap (on_split g.set a g.focus) ea
  outcome-Rule st out (by_choose {a} ia ea) = passed NotInGoal ia ∙ ap (on_choose g.set a g.focus) ea
  outcome-Rule st out (by_until {a} {b} {i} {j} {q} ia ea eb) =
      passed NotInGoal ia ∙ ap (λ x. unrolled a b x (form T b)) ea ∙ ap (unrolled a b (Until q i j)) eb ∙ passed DoesNotFit (is_next_of-Next q a)
  outcome-Rule st out (by_release {a} {b} {i} {j} {q} ia ea eb) =
      passed NotInGoal ia ∙ ap (λ x. unrolled a b x (form T b)) ea ∙ ap (unrolled a b (Release q i j)) eb ∙ passed DoesNotFit (is_next_of-Next q a)
  outcome-Rule st out (by_refocus {a} ia ea) = passed NotInGoal ia ∙ ap (on_refocus g.set (At a)) ea
  outcome-Rule st out (by_advance {a} ia ea) = passed NotInGoal ia ∙ ap (on_exists (every_operands T 0 g.set) (focus_after T (Some a) g.focus)) ea
  outcome-Rule st out by_any = refl
  outcome-Rule st out (by_repeat {u} {n} e r) = ap (on_repeat trail g.set n) e ∙ passed DoesNotClose (repeats-Repeats u g.set n trail r)

pub outcome_is_exact : OutcomeIsExact
outcome_is_exact T trail g st out allows = (λ e. by_cases out allows (subst (IsRuled T trail g st) e (IsRuled-outcome T trail g st)), outcome-Rule T trail g st out)
  where
    by_cases : (o : Outcome) → Allows o → IsRuled T trail g st o → Rule T trail g st o
    by_cases (refused x) a r = absurd a
    by_cases _ a r = r

pub refusal_is_exact : RefusalIsExact
refusal_is_exact T trail g st none = by_cases (outcome T trail g st) (IsRuled-outcome T trail g st)
  where
    by_cases : (o : Outcome) → IsRuled T trail g st o → o ≡ refused (blame g st)
    by_cases closes r = absurd (none closes r)
    by_cases (one c) r = absurd (none (one c) r)
    by_cases (two c d) r = absurd (none (two c d) r)
    by_cases (refused x) r = ap refused r
