use Rattle.std.proofs.Common.{length, arith}
use Rattle.std.proofs.lemmas.Bool.{and_from, le-leb}
use Rattle.label.proofs.Marks.{labelled}
use Rattle.label.proofs.labelling.label.Goals as goal

pub returns : goal.returns
returns g c =
    let m = g.M.Machine.model c.args.machine.now in (
      and_from _ _ (le-leb m.count (length c.args.marks.now) (omega arith)) (le-leb m.count (length c.args.scratch.now) (omega arith)),
      rw (← c.as_slice.ensures.items) (labelled _ m (g.met.M.Machine.sound c.args.machine.now).total.serial _ _ _ _ _ _ c.count-n.ensures c.mark_table.ensures.marks c.mark_table.ensures.scratch c.mark_table.ensures.counted),
    )
