use Rattle.protocol.proofs.Kept.{promises}
use Rattle.protocol.proofs.Marks.{held_tells}
use Rattle.protocol.proofs.promises_kept.Goals as goal

pub returns : goal.returns
returns c = record {
  promises = promises;
  held = held_tells;
}
