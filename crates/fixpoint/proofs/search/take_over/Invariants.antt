use Rattle.std.proofs.Common.{◌≡◌}
use Rattle.fixpoint.specs.Sets.{differ, overlay}
use Rattle.fixpoint.proofs.search.take_over.Given as goal

abbrev pub invariant-loop-i : goal.invariant-loop-i
invariant-loop-i g l =
    let set = g.C.IndexSet in
    let next = g.N.IndexSet.members l.next in
    record {
      compared : l.changed ≡ differ l.i (set.members l.initial.current) next;
      taken : set.members l.current ≡ overlay l.i next (set.members l.initial.current);
      rest : set.rest l.current ≡ set.rest l.initial.current;
    }
