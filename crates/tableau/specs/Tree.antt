-- Trees of goals, what it is for one to obey the rules and close every branch, and its steps in order.
use Rattle.std.specs.Prelude.{◌+◌, ◌≤◌, List, [], ◌∷◌, ◌++◌, length, ⊤}
use Rattle.forms.specs.Forms.{Table}
use Rattle.tableau.specs.declared.goals.Goal.{Goal}
use Rattle.tableau.specs.declared.goals.Step.{Step}
use Rattle.tableau.specs.Steps.{Trail, closes, one, two}
use Rattle.tableau.specs.Allowed.{Rule}
use Rattle.tableau.specs.Walk.{longest_path}

-- a goal that has no step, or a step and under it the goals that this yields
pub data Tree : Type 0 where
  bare : Goal → Tree
  leaf : Goal → Step → Tree
  stem : Goal → Step → Tree → Tree
  fork : Goal → Step → (first second : Tree) → Tree

-- the goal at the top
abbrev pub root : Tree → Goal
root (bare g) = g
root (leaf g st) = g
root (stem g st t) = g
root (fork g st t u) = g

-- every step is allowed by a rule, the goals under it are those that it yields, and no path is too long
unfoldable pub Obeys : Table → Trail → Tree → Type 0
Obeys T trail (bare g) = ⊤
Obeys T trail (leaf g st) = Rule T trail g st closes
Obeys T trail (stem g st t) = Rule T trail g st (one (root t)) × (length trail + 2 ≤ longest_path) × Obeys T (record { goal = g; step = st } ∷ trail) t
Obeys T trail (fork g st t u) =
    Rule T trail g st (two (root t) (root u)) × (length trail + 2 ≤ longest_path) × Obeys T (record { goal = g; step = st } ∷ trail) t × Obeys T (record { goal = g; step = st } ∷ trail) u

-- no goal lacks a step
unfoldable pub ClosesEveryBranch : Tree → Type 0
ClosesEveryBranch (bare g) = ⊥
ClosesEveryBranch (leaf g st) = ⊤
ClosesEveryBranch (stem g st t) = ClosesEveryBranch t
ClosesEveryBranch (fork g st t u) = ClosesEveryBranch t × ClosesEveryBranch u

-- a parent's step before its children's, a first child and all below it before the second
unfoldable pub steps : Tree → List Step
steps (bare g) = []
steps (leaf g st) = st ∷ []
steps (stem g st t) = st ∷ steps t
steps (fork g st t u) = st ∷ (steps t ++ steps u)
