-- The walk through a tree of goals: the present goal, and above it the goals that took a step, each with its second child while that waits.
use Rattle.std.specs.Prelude.{◌≡◌, ℕ, ◌+◌, Bool, true, false, List, [], ◌∷◌, length, Some, None, map, nat_le}
use Rattle.std.specs.List.{filter_map}
use Rattle.forms.specs.Forms.{Table}
use Rattle.tableau.specs.declared.goals.Focus.TheVariants.{Nowhere}
use Rattle.tableau.specs.declared.goals.Goal.{Goal}
use Rattle.tableau.specs.declared.goals.Step.{Step}
use Rattle.forms.specs.declared.refusal.Refusal.{Refusal}
use Rattle.forms.specs.declared.refusal.Refusal.TheVariants.{NoSuchStep, WalkClosed, PathTooLong}
use Rattle.tableau.specs.declared.goals.Frame.{Frame}
use Rattle.tableau.specs.Steps.{Trail, Outcome, closes, one, two, refused, step_of}
use Rattle.tableau.specs.Rules.{outcome}

-- under way at the present goal, below its frames, nearest first; closed when no goal waits
pub data Walk : Type 0 where
  under_way : (present : Goal) (frames : List Frame) → Walk
  closed : Walk

-- the trail that the frames keep
abbrev pub trail_of : List Frame → Trail
trail_of = map (λ frame. frame.ancestor)

-- a walk starts at a set with no focus
abbrev pub start : ℕ → Walk
start set = under_way (record { set = set; focus = Nowhere }) []

-- the second children that wait
abbrev pub seconds : List Frame → List Goal
seconds = filter_map (λ frame. frame.second)

-- the goals that wait, in the order in which they are treated
abbrev pub waiting_goals : Walk → List Goal
waiting_goals (under_way present frames) = present ∷ seconds frames
waiting_goals closed = []

-- on with the nearest second child that waits; where none does, the walk is closed
abbrev pub resume : List Frame → Walk
resume [] = closed
resume (x ∷ frames) = elim x.second [ None ↦ resume frames | Some g ↦ under_way g (record { ancestor = x.ancestor; second = None } ∷ frames) ]

-- a step is taken, and then the walk is so; or it is denied
pub data Node : Type 0 where
  accepted : Walk → Node
  denied : Refusal → Node

-- the most goals on a path from the root, both ends counted
abbrev pub longest_path : ℕ
longest_path = 256

-- a child of the present goal below these frames is on a path of frames + 2 goals
abbrev pub room_below : List Frame → Bool
room_below frames = nat_le (length frames + 2) longest_path

-- a walk on, where the path has room
abbrev pub node_if_room : Bool → Walk → Node
node_if_room true walk = accepted walk
node_if_room false walk = denied PathTooLong

-- the walk after what a step came to
abbrev pub follow : Goal → Step → List Frame → Outcome → Node
follow g step frames closes = accepted (resume frames)
follow g step frames (one c) = node_if_room (room_below frames) (under_way c (record { ancestor = record { goal = g; step = step }; second = None } ∷ frames))
follow g step frames (two c d) = node_if_room (room_below frames) (under_way c (record { ancestor = record { goal = g; step = step }; second = Some d } ∷ frames))
follow g step frames (refused r) = denied r

-- one step at the present goal
abbrev pub node : Table → Walk → Step → Node
node T closed step = denied WalkClosed
node T (under_way g frames) step = follow g step frames (outcome T (trail_of frames) g step)

-- the same by the numbers of the step
abbrev pub node_bytes : Table → Walk → (number a b : ℕ) → Node
node_bytes T closed number a b = denied WalkClosed
node_bytes T (under_way g frames) number a b = elim (step_of number a b) [ None ↦ denied NoSuchStep | Some step ↦ node T (under_way g frames) step ]

-- a run of steps, each accepted
pub data Run (T : Table) : Walk → List Step → Walk → Type 0 where
  done : {walk : Walk} → Run T walk [] walk
  then : {walk later end : Walk} {step : Step} {steps : List Step} → node T walk step ≡ accepted later → Run T later steps end → Run T walk (step ∷ steps) end
