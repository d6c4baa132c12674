-- What is proved of the rules and the walk.
use Rattle.std.specs.Prelude.{◌≡◌, ℕ, ◌<◌, ◌≤◌, true, not, ◌&&◌, ◌||◌, ◌⊎◌, ◌↔◌, List, [], ◌∷◌, ◌++◌, length, Some, ◌==◌, ⊤}
use Rattle.ctl.specs.Model.{Model, IsSerial}
use Rattle.forms.specs.Sets.{member, set_insert, set_remove, is_subset}
use Rattle.forms.specs.declared.form.Quantifier.TheVariants.{Every}
use Rattle.forms.specs.declared.form.Form.TheVariants.{Next}
use Rattle.forms.specs.Forms.{Table, form, IsWellFormed}
use Rattle.forms.specs.Meaning.{SetHolds}
use Rattle.tableau.specs.declared.goals.Goal.{Goal}
use Rattle.tableau.specs.declared.goals.Focus.TheVariants.{Nowhere}
use Rattle.tableau.specs.declared.goals.Step.{Step}
use Rattle.tableau.specs.Steps.{Trail, Outcome, refused, step_of, numbers_of}
use Rattle.tableau.specs.Nexts.{every_operands}
use Rattle.tableau.specs.Rules.{outcome}
use Rattle.tableau.specs.Allowed.{Rule, blame}
use Rattle.tableau.specs.Walk.{Walk, closed, start, waiting_goals, Run}
use Rattle.tableau.specs.Tree.{Tree, root, Obeys, ClosesEveryBranch, steps}

-- Insertion, removal and containment, by the forms in the sets.
abbrev pub SetLaws : Type 0
SetLaws =
    ((s f g : ℕ) → member (set_insert s f) g ≡ (member s g || f == g))
    × ((s f g : ℕ) → member (set_remove s f) g ≡ (member s g && not (f == g)))
    × ((r s : ℕ) → (is_subset r s ≡ true) ↔ ((f : ℕ) → member r f ≡ true → member s f ≡ true))

-- The set after step 7, the form that the step names apart, has just the operands of the forms of all successors in the goal.
abbrev pub EveryOperandsAreExact : Type 0
EveryOperandsAreExact =
    (T : Table) (s i : ℕ) → (member (every_operands T 0 s) i ≡ true) ↔ ((f : ℕ) × (member s f ≡ true) × (form T f ≡ Next Every i))

-- an outcome that is no refusal
abbrev pub Allows : Outcome → Type 0
Allows (refused r) = ⊥
Allows _ = ⊤

-- A step has just the outcome that a rule allows.
abbrev pub OutcomeIsExact : Type 0
OutcomeIsExact = (T : Table) (trail : Trail) (g : Goal) (step : Step) (out : Outcome) → Allows out → (outcome T trail g step ≡ out) ↔ Rule T trail g step out

-- Where no rule allows one, the step is refused for its first fault.
abbrev pub RefusalIsExact : Type 0
RefusalIsExact =
    (T : Table) (trail : Trail) (g : Goal) (step : Step) → ((out : Outcome) → Rule T trail g step out → ⊥) → outcome T trail g step ≡ refused (blame g step)

-- P of some goal of the list
abbrev pub Among : (Goal → Type 0) → List Goal → Type 0
Among P [] = ⊥
Among P (g ∷ goals) = P g ⊎ Among P goals

-- If the set that a walk started from holds at some state of a model, then the set of some goal that waits holds at some state of the same model.
-- Where the walk is closed no goal waits, so there is no such state.
abbrev pub WalkKeeps : Type 0
WalkKeeps =
    (T : Table) → IsWellFormed T → (m : Model) → IsSerial m → (set : ℕ) (sts : List Step) (walk : Walk) → Run T (start set) sts walk
    → (s : ℕ) → SetHolds T m set s → Among (λ g. (t : ℕ) × SetHolds T m g.set t) (waiting_goals walk)

-- A closed walk refutes its set on every model.
abbrev pub ClosedRefutes : Type 0
ClosedRefutes =
    (T : Table) → IsWellFormed T → (set : ℕ) (sts : List Step) → Run T (start set) sts closed → (m : Model) → IsSerial m → (s : ℕ) → SetHolds T m set s → ⊥

-- All members of the set are forms of the table.
abbrev pub InTable : Table → ℕ → Type 0
InTable T set = (f : ℕ) → member set f ≡ true → f < length T

-- Forms that join the table during a walk change none of its steps.
abbrev pub RunGrows : Type 0
RunGrows =
    (T : Table) → IsWellFormed T → (more : Table) (set : ℕ) → InTable T set → (sts : List Step) (walk : Walk) → Run T (start set) sts walk → Run (T ++ more) (start set) sts walk

-- A tree that obeys the rules and closes every branch is taken whole.
abbrev pub TreeIsTaken : Type 0
TreeIsTaken =
    (T : Table) (set : ℕ) (t : Tree) → root t ≡ record { set = set; focus = Nowhere } → Obeys T [] t → ClosesEveryBranch t → Run T (start set) (steps t) closed

-- And only such trees are: accepted steps that close a walk are those of a tree that obeys the rules and closes every branch.
abbrev pub ClosedIsTree : Type 0
ClosedIsTree =
    (T : Table) (set : ℕ) (sts : List Step) → Run T (start set) sts closed
    → (t : Tree) × (root t ≡ record { set = set; focus = Nowhere }) × Obeys T [] t × ClosesEveryBranch t × (steps t ≡ sts)

-- the three numbers of the step are bytes, and are read as that step
abbrev pub InBytes : Step → Type 0
InBytes step =
    ((numbers_of step).0 < 256) × ((numbers_of step).1 < 256) × ((numbers_of step).2 < 256) × (step_of (numbers_of step).0 (numbers_of step).1 (numbers_of step).2 ≡ Some step)

abbrev pub AllInBytes : List Step → Type 0
AllInBytes [] = ⊤
AllInBytes (step ∷ sts) = InBytes step × AllInBytes sts

-- Over a table of at most 64 forms, each step of a tree that obeys the rules can be written in three bytes.
abbrev pub TreeIsInBytes : Type 0
TreeIsInBytes = (T : Table) → length T ≤ 64 → (t : Tree) → Obeys T [] t → AllInBytes (steps t)
