use Rattle.ctl.proofs.rounds_tell_meaning.Goals as goal
use Rattle.ctl.proofs.Rounds.{rounds_settle}
use Rattle.ctl.proofs.Successors.{rounds_are_monotone}
use Rattle.ctl.proofs.Truth.{form_rounds_bounded, DecidesBelow-truth, Dec-Holds}

-- src/lib.rt:13:1
pub returns : goal.returns
returns c = record {
  settle = rounds_settle;
  monotone = rounds_are_monotone;
  bounded = form_rounds_bounded;
  meaning = DecidesBelow-truth;
  decidable = Dec-Holds;
}
