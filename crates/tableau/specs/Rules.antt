-- The eight step rules of the focus tableau: which step a goal may take, and what it yields.
use Rattle.std.specs.Prelude.{ℕ, Bool, true, false, ◌&&◌, Some, None, Option, ◌==◌}
use Rattle.forms.specs.declared.refusal.Refusal.{Refusal}
use Rattle.forms.specs.declared.refusal.Refusal.TheVariants.{NotInGoal, DoesNotFit, DoesNotClose}
use Rattle.tableau.specs.declared.goals.Focus.{Focus}
use Rattle.tableau.specs.declared.goals.Focus.TheVariants.{At}
use Rattle.tableau.specs.declared.goals.Goal.{Goal}
use Rattle.tableau.specs.declared.goals.Step.{Step}
use Rattle.tableau.specs.declared.goals.Step.TheVariants.{Clash, Absurdity, Split, Choose, Unroll, Refocus, Advance, Repeat}
use Rattle.forms.specs.Sets.{member, set_insert, set_remove}
use Rattle.forms.specs.declared.form.Quantifier.TheVariants.{Exists}
use Rattle.forms.specs.declared.form.Form.{Form}
use Rattle.forms.specs.declared.form.Form.TheVariants.{Falsity, Atom, Absent, And, Or, Next, Until, Release}
use Rattle.forms.specs.Forms.{Table, form}
use Rattle.tableau.specs.Steps.{Trail, Outcome, closes, one, two, refused}
use Rattle.tableau.specs.Nexts.{is_next_of, every_operands}
use Rattle.tableau.specs.Focus.{first_focus, second_focus, focus_after}
use Rattle.tableau.specs.Ancestors.{repeats}

-- the outcome where the test passes, and a refusal where it does not
abbrev pub outcome_given : Bool → Refusal → Outcome → Outcome
outcome_given true r out = out
outcome_given false r out = refused r

-- the goal that a gives way in: to the form i, or to the forms i and j
abbrev pub yield₁ : (set a i : ℕ) → Focus → Goal
yield₁ set a i f = record { set = set_insert (set_remove set a) i; focus = f }

abbrev pub yield₂ : (set a i j : ℕ) → Focus → Goal
yield₂ set a i j f = record { set = set_insert (set_insert (set_remove set a) i) j; focus = f }

-- a form that does not fit the step
abbrev pub unfit_outcome : Outcome
unfit_outcome = refused DoesNotFit

-- Each step on the forms x and y that it names, which are in the goal with the set s; f, or first and second, is the focus of its children.

abbrev pub on_clash : (x y : Form) → Outcome
on_clash (Atom p) (Absent r) = outcome_given (p == r) DoesNotFit closes
on_clash _ _ = unfit_outcome

abbrev pub on_absurdity : Form → Outcome
on_absurdity Falsity = closes
on_absurdity _ = unfit_outcome

abbrev pub on_split : (s a : ℕ) → Focus → Form → Outcome
on_split s a f (And i j) = one (yield₂ s a i j f)
on_split s a f _ = unfit_outcome

abbrev pub on_choose : (s a : ℕ) → Focus → Form → Outcome
on_choose s a f (Or i j) = two (yield₁ s a i f) (yield₁ s a j f)
on_choose s a f _ = unfit_outcome

abbrev pub on_unroll : (s a b : ℕ) → (first second : Focus) → (x y : Form) → Outcome
on_unroll s a b first second (Until q i j) y = outcome_given (is_next_of q a y) DoesNotFit (two (yield₁ s a j first) (yield₂ s a i b second))
on_unroll s a b first second (Release q i j) y = outcome_given (is_next_of q a y) DoesNotFit (two (yield₂ s a i j first) (yield₂ s a j b second))
on_unroll s a b first second _ y = unfit_outcome

abbrev pub on_refocus : (s : ℕ) → Focus → Form → Outcome
on_refocus s f (Until q i j) = one (record { set = s; focus = f })
on_refocus s f _ = unfit_outcome

-- to the successor that x asks for, which gets the set r besides
abbrev pub on_exists : (r : ℕ) → Focus → Form → Outcome
on_exists r f (Next Exists i) = one (record { set = set_insert r i; focus = f })
on_exists r f _ = unfit_outcome

abbrev pub on_repeat : Trail → (s n : ℕ) → Focus → Outcome
on_repeat trail s n (At u) = outcome_given (repeats u s n trail) DoesNotClose closes
on_repeat trail s n _ = refused DoesNotClose

-- the goal with the set r at a successor, by a step 7 that names a
abbrev pub successor_goal : Table → Goal → Option ℕ → ℕ → Goal
successor_goal T g a r = record { set = r; focus = focus_after T a g.focus }

-- the outcome where the form a, which a step names, is in the goal's set
abbrev pub outcome_if_in : (set a : ℕ) → Outcome → Outcome
outcome_if_in set a out = outcome_given (member set a) NotInGoal out

-- step 7, to any successor, or to one that the form a asks for
abbrev pub on_advance : Table → (s : ℕ) → Option ℕ → Focus → Outcome
on_advance T s None f = one (record { set = every_operands T 0 s; focus = f })
on_advance T s (Some a) f = outcome_if_in s a (on_exists (every_operands T 0 s) f (form T a))

-- the outcome of a step at a goal below the trail, with the focus of each child
abbrev pub outcome : Table → Trail → Goal → Step → Outcome
outcome T trail g (Clash a b) = outcome_given (member g.set a && member g.set b) NotInGoal (on_clash (form T a) (form T b))
outcome T trail g (Absurdity a) = outcome_if_in g.set a (on_absurdity (form T a))
outcome T trail g (Split a) = outcome_if_in g.set a (on_split g.set a g.focus (form T a))
outcome T trail g (Choose a) = outcome_if_in g.set a (on_choose g.set a g.focus (form T a))
outcome T trail g (Unroll a b) = outcome_if_in g.set a (on_unroll g.set a b (first_focus a g.focus) (second_focus a b g.focus) (form T a) (form T b))
outcome T trail g (Refocus a) = outcome_if_in g.set a (on_refocus g.set (At a) (form T a))
outcome T trail g (Advance a) = on_advance T g.set a (focus_after T a g.focus)
outcome T trail g (Repeat n) = on_repeat trail g.set n g.focus
