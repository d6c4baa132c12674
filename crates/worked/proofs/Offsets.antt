-- Offsets and operands that are refused or just inside, computed.
use Rattle.std.proofs.Common.{refl}
use Rattle.ctl.specs.Search.{some, every}
use Rattle.worked.specs.Examples.{BeforeRow0, Row1023Reaches0, Operand5InForm5}

pub before_row_0 : BeforeRow0
unfolding every
before_row_0 = (refl, refl)

pub row_1023_reaches_0 : Row1023Reaches0
unfolding some every
row_1023_reaches_0 = (refl, refl)

pub operand_5_in_form_5 : Operand5InForm5
operand_5_in_form_5 = (refl, refl)
