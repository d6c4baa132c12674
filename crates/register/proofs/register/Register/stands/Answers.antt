use Rattle.protocol.proofs.Kept.{promises}
use Rattle.register.proofs.Kept.{seen, StandsTruly_standing}
use Rattle.register.proofs.register.Register.stands.Goals as goal

pub returns : goal.returns
returns c = rw (← c.self.view_is) (record {
  value = cc;
  truth = StandsTruly_standing (seen c.self.inside) c.args.set c.standing.result (cc) c.self.invariant;
  promises = promises;
})
