-- The calls that bring the table and the refutation, computed.
use Rattle.std.proofs.Common.{refl}
use Rattle.forms.specs.Sets.{set_insert, set_remove, is_subset}
use Rattle.tableau.specs.Nexts.{every_operands}
use Rattle.tableau.specs.Ancestors.{repeats}
use Rattle.worked.specs.Examples.{TableIsFilled, Set48IsRefuted}

pub table_is_filled : TableIsFilled
table_is_filled = refl

pub set_48_is_refuted : Set48IsRefuted
unfolding repeats every_operands set_insert set_remove is_subset
set_48_is_refuted = (refl, refl, refl, refl)
