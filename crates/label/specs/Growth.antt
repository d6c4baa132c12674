-- The round of a form is monotone.
use Rattle.std.specs.Prelude.{ℕ}
use Rattle.ctl.specs.Model.{Model}
use Rattle.ctl.specs.Rounds.{Subset, IsMonotone}
use Rattle.ctl.proofs.Successors.{rounds_are_monotone}
use Rattle.forms.specs.declared.form.Form.{Form}
use Rattle.forms.specs.declared.form.Form.TheVariants.{Until, Release}
use Rattle.forms.specs.declared.form.Quantifier.TheVariants.{Exists, Every}
use Rattle.label.specs.Rounds.{form_round}

pub IsMonotone-form_round : (m : Model) (given : ℕ → Subset) (form : Form) → IsMonotone m.count (form_round m given form)
IsMonotone-form_round m given (Until Exists i j) x y inside s h e = (rounds_are_monotone m (given i) (given j)).EU_round x y inside s h e
IsMonotone-form_round m given (Until Every i j) x y inside s h e = (rounds_are_monotone m (given i) (given j)).AU_round x y inside s h e
IsMonotone-form_round m given (Release Exists i j) x y inside s h e = (rounds_are_monotone m (given i) (given j)).ER_round x y inside s h e
IsMonotone-form_round m given (Release Every i j) x y inside s h e = (rounds_are_monotone m (given i) (given j)).AR_round x y inside s h e
IsMonotone-form_round m given _ x y inside s h e = e
