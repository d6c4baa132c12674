use Rattle.std.proofs.Common.{◌≡◌, ◌-◌}
use Rattle.fixpoint.specs.Sets.{SameFrom, starts_full}
use Rattle.fixpoint.proofs.Settles.{Progress}
use Rattle.fixpoint.proofs.search.repeat_round.Given as goal

abbrev pub invariant-loop-wanted : goal.invariant-loop-wanted
invariant-loop-wanted g l =
    let set = g.S.IndexSet in
    let pair = g.S.TwoSets in
    let n = g.R.Round.size l.round in
    record {
      progress : Progress n (g.R.Round.step l.round l.fn.sets) (starts_full l.wanted) (set.members l.sets) l.changes;
      beyond : SameFrom n (set.members l.sets) (set.members l.fn.sets);
      next_beyond : SameFrom n (pair.next l.sets) (pair.next l.fn.sets);
      rest : set.rest l.sets ≡ set.rest l.fn.sets;
    }

abbrev pub decreases-loop-wanted : goal.decreases-loop-wanted
decreases-loop-wanted g l = g.R.Round.size l.round - l.changes
