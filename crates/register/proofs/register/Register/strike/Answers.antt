use Rattle.std.proofs.Common.{◌≡◌}
use Rattle.protocol.specs.State.{with_book}
use Rattle.protocol.specs.Calls.{strike, state_after}
use Rattle.register.proofs.Kept.{seen, kept_by, state_of-on_strike}
use Rattle.register.proofs.register.Register.strike.Goals as goal

pub invariant_of-self : goal.invariant_of-self
invariant_of-self c =
    let s = seen c.self.inside in
    let moved = state_of-on_strike s c.args.line in
    let later : with_book s (c.strike.new.self) ≡ state_after s (strike c.args.line) = cc in
    kept_by s _ (strike c.args.line) tt later c.self.invariant
