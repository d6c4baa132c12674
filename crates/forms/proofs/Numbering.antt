-- A refusal is told by its number.
use Rattle.std.proofs.Common.{arith}
use Rattle.forms.specs.Refusals.{NumbersDiffer}

pub numbers_differ : NumbersDiffer
numbers_differ e f same = grind arith
