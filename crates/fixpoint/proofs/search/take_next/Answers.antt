use Rattle.std.proofs.Common.{arith, rules}
use Rattle.std.proofs.lemmas.Grind.{common_steps}
use Rattle.fixpoint.specs.Sets.{differ}
use Rattle.fixpoint.proofs.Differences.{differ_next}
use Rattle.fixpoint.proofs.search.take_next.Goals as goal

pub loop-i-init : goal.loop-i-init
unfolding differ
loop-i-init g c = grind (arith, common_steps)

pub loop-i-preserved : goal.loop-i-preserved
loop-i-preserved g c = record { compared = grind (arith, common_steps, differ_next); taken = search rules; next = cc; rest = cc }
