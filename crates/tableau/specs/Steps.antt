-- The steps of the focus tableau by their numbers, and what a step can come to.
use Rattle.std.specs.Prelude.{ℕ, if◌then◌else◌, List, [], ◌∷◌, Some, None, Option, ◌==◌, slice_index_or}
use Rattle.forms.specs.declared.refusal.Refusal.{Refusal}
use Rattle.tableau.specs.declared.goals.Goal.{Goal}
use Rattle.tableau.specs.declared.goals.Step.{Step}
use Rattle.tableau.specs.declared.goals.Step.TheVariants.{Clash, Absurdity, Split, Choose, Unroll, Refocus, Advance, Repeat}
use Rattle.tableau.specs.declared.goals.Ancestor.{Ancestor}

-- the trail of a goal: its ancestors from the parent up to the root, with their steps
abbrev pub Trail : Type 0
Trail = List Ancestor

-- what a step comes to: it closes the goal, yields one child or two, or is refused
pub data Outcome : Type 0 where
  closes : Outcome
  one : Goal → Outcome
  two : (first second : Goal) → Outcome
  refused : Refusal → Outcome

-- a step by its number; unused operands are ignored, and 255 in step 7 names no form
abbrev pub step_of : (number a b : ℕ) → Option Step
step_of number a b =
    slice_index_or
    (None
    ∷ Some (Clash a b)
    ∷ Some (Absurdity a)
    ∷ Some (Split a)
    ∷ Some (Choose a)
    ∷ Some (Unroll a b)
    ∷ Some (Refocus a)
    ∷ Some (Advance (if a == 255 then None else Some a))
    ∷ Some (Repeat a)
    ∷ [])
    number
    None

-- the numbers of a step
unfoldable pub numbers_of : Step → ℕ × ℕ × ℕ
numbers_of (Clash a b) = (1, a, b)
numbers_of (Absurdity a) = (2, a, 0)
numbers_of (Split a) = (3, a, 0)
numbers_of (Choose a) = (4, a, 0)
numbers_of (Unroll a b) = (5, a, b)
numbers_of (Refocus a) = (6, a, 0)
numbers_of (Advance None) = (7, 255, 0)
numbers_of (Advance (Some a)) = (7, a, 0)
numbers_of (Repeat n) = (8, n, 0)
