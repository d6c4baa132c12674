-- The step rules as a relation: the outcome that a rule allows for a step at a goal below its trail.
use Rattle.std.specs.Prelude.{◌≡◌, ℕ, suc, Bool, true, false, if◌then◌else◌, ◌&&◌, ◌∷◌, Some, None}
use Rattle.forms.specs.Sets.{member, set_insert, is_subset}
use Rattle.forms.specs.declared.form.Quantifier.{Quantifier}
use Rattle.forms.specs.declared.form.Quantifier.TheVariants.{Exists}
use Rattle.forms.specs.declared.form.Form.TheVariants.{Falsity, Atom, Absent, And, Or, Next, Until, Release}
use Rattle.forms.specs.Forms.{Table, form}
use Rattle.tableau.specs.declared.goals.Focus.TheVariants.{At}
use Rattle.tableau.specs.declared.goals.Goal.{Goal}
use Rattle.tableau.specs.declared.goals.Step.{Step}
use Rattle.tableau.specs.declared.goals.Step.TheVariants.{Clash, Absurdity, Split, Choose, Unroll, Refocus, Advance, Repeat}
use Rattle.tableau.specs.declared.goals.Ancestor.{Ancestor}
use Rattle.forms.specs.declared.refusal.Refusal.{Refusal}
use Rattle.forms.specs.declared.refusal.Refusal.TheVariants.{NotInGoal, DoesNotFit, DoesNotClose}
use Rattle.tableau.specs.Steps.{Trail, Outcome, closes, one, two}
use Rattle.tableau.specs.Nexts.{every_operands}
use Rattle.tableau.specs.Focus.{first_focus, second_focus}
use Rattle.tableau.specs.Ancestors.{took_refocus, unrolled_focus}
use Rattle.tableau.specs.Rules.{yield₁, yield₂, successor_goal}

-- form a is in the goal
abbrev pub In : Goal → ℕ → Type 0
In g a = member g.set a ≡ true

-- So many levels up the trail stands an ancestor that unrolled u in focus and whose set is contained in s, and no step 6 was taken between.
pub data Repeats (u s : ℕ) : ℕ → Trail → Type 0 where
  here : {x : Ancestor} {above : Trail} → unrolled_focus u x ≡ true → is_subset x.goal.set s ≡ true → Repeats u s 1 (x ∷ above)
  higher : {n : ℕ} {x : Ancestor} {above : Trail} → took_refocus x ≡ false → Repeats u s (suc n) above → Repeats u s (suc (suc n)) (x ∷ above)

-- The steps that a goal may take, by their numbers, with what each comes to.
pub data Rule (T : Table) (trail : Trail) (g : Goal) : Step → Outcome → Type 0 where
  -- 1: an atom and its absence
  by_clash : {a b p : ℕ} → In g a → In g b → form T a ≡ Atom p → form T b ≡ Absent p → Rule T trail g (Clash a b) closes
  -- 2: false
  by_absurdity : {a : ℕ} → In g a → form T a ≡ Falsity → Rule T trail g (Absurdity a) closes
  -- 3: a conjunction gives way to both operands
  by_split : {a i j : ℕ} → In g a → form T a ≡ And i j → Rule T trail g (Split a) (one (yield₂ g.set a i j g.focus))
  -- 4: a disjunction gives way to one operand in each child
  by_choose : {a i j : ℕ} → In g a → form T a ≡ Or i j
      → Rule T trail g (Choose a) (two (yield₁ g.set a i g.focus) (yield₁ g.set a j g.focus))
  -- 5: a until i U j is j, or else i and a at the next state; a release i R j is i and j, or else j and a at the next state
  by_until : {a b i j : ℕ} {q : Quantifier} → In g a → form T a ≡ Until q i j → form T b ≡ Next q a
      → Rule T trail g (Unroll a b) (two (yield₁ g.set a j (first_focus a g.focus)) (yield₂ g.set a i b (second_focus a b g.focus)))
  by_release : {a b i j : ℕ} {q : Quantifier} → In g a → form T a ≡ Release q i j → form T b ≡ Next q a
      → Rule T trail g (Unroll a b) (two (yield₂ g.set a i j (first_focus a g.focus)) (yield₂ g.set a j b (second_focus a b g.focus)))
  -- 6: the focus moves to an until of the goal
  by_refocus : {a i j : ℕ} {q : Quantifier} → In g a → form T a ≡ Until q i j → Rule T trail g (Refocus a) (one (record { set = g.set; focus = At a }))
  -- 7: on to a successor, one that the form a asks for, or any
  by_advance : {a i : ℕ} → In g a → form T a ≡ Next Exists i
      → Rule T trail g (Advance (Some a)) (one (successor_goal T g (Some a) (set_insert (every_operands T 0 g.set) i)))
  by_any : Rule T trail g (Advance None) (one (successor_goal T g None (every_operands T 0 g.set)))
  -- 8: the goal repeats an ancestor, and its until was in focus all the way
  by_repeat : {u n : ℕ} → g.focus ≡ At u → Repeats u g.set n trail → Rule T trail g (Repeat n) closes

-- all forms that the step names are in the goal; the second form of step 5 need not be
abbrev pub all_inside : Goal → Step → Bool
all_inside g (Clash a b) = member g.set a && member g.set b
all_inside g (Absurdity a) = member g.set a
all_inside g (Split a) = member g.set a
all_inside g (Choose a) = member g.set a
all_inside g (Unroll a b) = member g.set a
all_inside g (Refocus a) = member g.set a
all_inside g (Advance None) = true
all_inside g (Advance (Some a)) = member g.set a
all_inside g (Repeat n) = true

-- the refusal of a step whose forms are in the goal
abbrev pub misfit : Step → Refusal
misfit (Repeat n) = DoesNotClose
misfit _ = DoesNotFit

-- why a step that no rule allows is refused
abbrev pub blame : Goal → Step → Refusal
blame g step = if all_inside g step then misfit step else NotInGoal
