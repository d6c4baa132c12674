use Rattle.std.proofs.Common.{◌≡◌}
use Rattle.fixpoint.specs.Sets.{overlay}
use Rattle.fixpoint.proofs.search.make.Given as goal

abbrev pub invariant-loop-i : goal.invariant-loop-i
invariant-loop-i g l =
    let set = g.S.IndexSet in
    let next = g.S.TwoSets.next in
    record {
      made : next l.sets ≡ overlay l.i (g.R.Round.step l.round l.initial.sets (set.members l.initial.sets)) (next l.initial.sets);
      current : set.members l.sets ≡ set.members l.initial.sets;
      rest : set.rest l.sets ≡ set.rest l.initial.sets;
    }
