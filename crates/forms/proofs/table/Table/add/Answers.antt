use Rattle.forms.proofs.Joining.{after_formed}
use Rattle.forms.proofs.table.Table.add.Goals as goal

pub invariant_of-self : goal.invariant_of-self
invariant_of-self c =
    (c.append.ensures.few, after_formed _ c.args.kind c.args.a c.args.b c.append.ensures.after c.self.invariant.1, c.append.ensures.free c.self.invariant.2)
