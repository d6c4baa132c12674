-- A path that is kept with the root first: the trail above its goal, and what a step there comes to.
use Rattle.std.specs.Prelude.{◌≡◌, List, reverse, Some, None, Ok, Err, Option, Result, ⊤}
use Rattle.forms.specs.declared.refusal.Refusal.{Refusal}
use Rattle.tableau.specs.declared.goals.Goal.{Goal}
use Rattle.tableau.specs.declared.goals.Frame.{Frame}
use Rattle.tableau.specs.Steps.{Trail}
use Rattle.tableau.specs.Walk.{Walk, under_way, closed, trail_of, Node, accepted, denied}

abbrev pub trail_above : List Frame → Trail
trail_above path = trail_of (reverse path)

-- the walk at the goal that is next, if one is
abbrev pub walk_at : Option Goal → List Frame → Walk
walk_at None path = closed
walk_at (Some goal) path = under_way goal (reverse path)

-- what a step at the present goal came to: the goal that is next and the path above it, or a refusal
abbrev pub node_of : Result (Option Goal) Refusal → List Frame → Node
node_of (Ok goal) path = accepted (walk_at goal path)
node_of (Err r) path = denied r

-- a refusal leaves the path
abbrev pub KeptIfRefused : Result (Option Goal) Refusal → (before after : List Frame) → Type 0
KeptIfRefused (Ok goal) before after = ⊤
KeptIfRefused (Err r) before after = after ≡ before
