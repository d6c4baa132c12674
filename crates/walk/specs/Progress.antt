-- A walk as a register has it: absent, under way or closed; and what a step does to it.
use Rattle.std.specs.Prelude.{ℕ, List, [], reverse, length, Ok, Err, Result}
use Rattle.forms.specs.declared.refusal.Refusal.{Refusal}
use Rattle.forms.specs.declared.refusal.Refusal.TheVariants.{NoWalk, WalkPresent, GoalsWait}
use Rattle.forms.specs.Forms.{Table}
use Rattle.tableau.specs.declared.goals.Goal.{Goal}
use Rattle.tableau.specs.declared.goals.Frame.{Frame}
use Rattle.walk.specs.declared.walk.Phase.{Phase}
use Rattle.walk.specs.declared.walk.Phase.TheVariants.{Absent, UnderWay, Closed}
use Rattle.tableau.specs.Walk.{Walk, under_way, closed, start, waiting_goals, Node, accepted, denied, node_bytes}

-- no walk, or one from the root set
pub data Progress : Type 0 where
  absent : Progress
  present : (root : ℕ) → Walk → Progress

-- the walk of a phase and a path, which is kept with the root first
abbrev pub progress_of : Phase → List Frame → Progress
progress_of Absent path = absent
progress_of (UnderWay root goal) path = present root (under_way goal (reverse path))
progress_of (Closed root) path = present root closed

-- what a walk is, without its path
abbrev pub phase_of : Progress → Phase
phase_of absent = Absent
phase_of (present root (under_way goal path)) = UnderWay root goal
phase_of (present root closed) = Closed root

abbrev pub progress_result : ℕ → Node → Result Progress Refusal
progress_result root (accepted walk) = Ok (present root walk)
progress_result root (denied r) = Err r

-- a step by its numbers
abbrev pub step_result : Table → Progress → (number a b : ℕ) → Result Progress Refusal
step_result T absent number a b = Err NoWalk
step_result T (present root walk) number a b = progress_result root (node_bytes T walk number a b)

-- a walk starts where there is none
abbrev pub open_result : Progress → ℕ → Result Progress Refusal
open_result absent set = Ok (present set (start set))
open_result (present root walk) set = Err WalkPresent

-- a walk ends, closed or not
abbrev pub abandon_result : Progress → Result Progress Refusal
abandon_result absent = Err NoWalk
abandon_result (present root walk) = Ok absent

-- the root set of a closed walk
abbrev pub finish_result : Progress → Result ℕ Refusal
finish_result absent = Err NoWalk
finish_result (present root (under_way goal frames)) = Err GoalsWait
finish_result (present root closed) = Ok root

-- the goals that wait
abbrev pub waiting_in : Progress → List Goal
waiting_in absent = []
waiting_in (present root walk) = waiting_goals walk

-- the reply of such a call, and the walk after it
abbrev pub reply : Result Progress Refusal → Result ℕ Refusal
reply (Ok after) = Ok (length (waiting_in after))
reply (Err r) = Err r

abbrev pub next : Progress → Result Progress Refusal → Progress
next before (Ok after) = after
next before (Err r) = before
