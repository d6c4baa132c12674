use Rattle.std.proofs.Common.{◌≡◌, ℕ, ◌<◌}
use Rattle.fixpoint.specs.Sets.{SameFrom}
use Rattle.fixpoint.proofs.search.fill.Given as goal

abbrev pub invariant-loop-i : goal.invariant-loop-i
invariant-loop-i g l =
    let set = g.S.IndexSet in
    record {
      filled : (k : ℕ) → k < l.i → goal.X-post g l.inside k (set.members l.set k);
      beyond : SameFrom l.n (set.members l.set) (set.members l.initial.set);
      rest : set.rest l.set ≡ set.rest l.initial.set;
    }
