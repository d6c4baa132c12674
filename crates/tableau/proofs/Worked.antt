-- The worked refutation, computed.
use Rattle.std.proofs.Common.{refl}
use Rattle.forms.specs.Sets.{set_insert, set_remove, is_subset}
use Rattle.tableau.specs.Nexts.{every_operands}
use Rattle.tableau.specs.Ancestors.{repeats}
use Rattle.tableau.specs.Worked.{replies, table, unfocused_steps, SetIsRefuted, NeedsFocus}

pub set_is_refuted : SetIsRefuted
unfolding replies table unfocused_steps repeats every_operands set_insert set_remove is_subset
set_is_refuted = refl

pub needs_focus : NeedsFocus
unfolding replies table unfocused_steps repeats every_operands set_insert set_remove is_subset
needs_focus = refl
