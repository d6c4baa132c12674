use Rattle.std.proofs.Common.{◌≡◌, ℕ, ◌<◌, slice_index}
use Rattle.label.specs.Show.{mark_below, rounds_below}
use Rattle.label.proofs.mark.mark_table.Given as goal

abbrev pub invariant-loop-f : goal.invariant-loop-f
invariant-loop-f g l =
    let m = g.M.Machine.model l.machine in
    record {
      marked : (t : ℕ) → t < m.count → slice_index l.marks t ≡ mark_below l.f l.table m t;
      counted : l.rounds ≡ rounds_below l.f l.table m;
    }
