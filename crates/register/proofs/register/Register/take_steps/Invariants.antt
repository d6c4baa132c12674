use Rattle.std.proofs.Common.{◌≡◌, map, drop}
use Rattle.protocol.specs.State.{with_walk}
use Rattle.protocol.specs.Calls.{in_turn, node_on}
use Rattle.register.specs.Loads.{record_of}
use Rattle.register.proofs.register.Register.take_steps.Given as goal

-- the steps that are left, from the register that the others led to, come to what all do
abbrev pub invariant-loop-at : goal.invariant-loop-at
invariant-loop-at l =
    (in_turn node_on l.initial.self 0 (map record_of l.steps) ≡ in_turn node_on l.self l.at (map record_of (drop l.at l.steps)))
    × (l.self ≡ with_walk l.initial.self l.self.walk)
