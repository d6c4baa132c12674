use Rattle.std.proofs.Common.{◌≡◌}
use Rattle.fixpoint.specs.Sets.{differ, overlay}
use Rattle.fixpoint.proofs.search.take_next.Given as goal

abbrev pub invariant-loop-i : goal.invariant-loop-i
invariant-loop-i g l =
    let set = g.S.IndexSet in
    let next = g.S.TwoSets.next in
    record {
      compared : l.changed ≡ differ l.i (set.members l.initial.sets) (next l.initial.sets);
      taken : set.members l.sets ≡ overlay l.i (next l.initial.sets) (set.members l.initial.sets);
      next : next l.sets ≡ next l.initial.sets;
      rest : set.rest l.sets ≡ set.rest l.initial.sets;
    }
