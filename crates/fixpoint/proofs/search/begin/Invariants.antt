use Rattle.std.proofs.Common.{◌≡◌}
use Rattle.ctl.specs.Rounds.{start}
use Rattle.fixpoint.specs.Sets.{overlay, starts_full}
use Rattle.fixpoint.proofs.search.begin.Given as goal

abbrev pub invariant-loop-i : goal.invariant-loop-i
invariant-loop-i g l =
    let set = g.S.IndexSet in
    let next = g.S.TwoSets.next in
    record {
      begun : set.members l.sets ≡ overlay l.i (start (starts_full l.wanted)) (set.members l.initial.sets);
      next : next l.sets ≡ next l.initial.sets;
      rest : set.rest l.sets ≡ set.rest l.initial.sets;
    }
