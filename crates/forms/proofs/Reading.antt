-- In a table whose operands are earlier forms, a form stands for its shape over the formulas of its operands.
use Rattle.std.proofs.Common.{◌≡◌, ℕ, zero, suc, ◌<◌, refl, ap, ◌∙◌, ap₂, arith}
use Rattle.ctl.specs.Formula.{Formula, both, either, EX, AX, EU, AU, ER, AR}
use Rattle.forms.specs.declared.form.Form.{Form}
use Rattle.forms.specs.declared.form.Form.TheVariants.{Truth, Falsity, Atom, Absent, And, Or, Next, Until, Release}
use Rattle.forms.specs.declared.form.Quantifier.TheVariants.{Exists, Every}
use Rattle.forms.specs.Forms.{Table, form, Earlier, IsWellFormed}
use Rattle.forms.specs.Meaning.{reading, formula_at_depth, formula}

pub reading_same : (φ ψ : ℕ → Formula) (f : ℕ) → ((i : ℕ) → i < f → φ i ≡ ψ i) → (x : Form) → Earlier f x → reading φ x ≡ reading ψ x
reading_same φ ψ f e Truth o = refl
reading_same φ ψ f e Falsity o = refl
reading_same φ ψ f e (Atom p) o = refl
reading_same φ ψ f e (Absent p) o = refl
reading_same φ ψ f e (And i j) o = ap₂ both (e i o.0) (e j o.1)
reading_same φ ψ f e (Or i j) o = ap₂ either (e i o.0) (e j o.1)
reading_same φ ψ f e (Next Exists i) o = ap EX (e i o)
reading_same φ ψ f e (Next Every i) o = ap AX (e i o)
reading_same φ ψ f e (Until Exists i j) o = ap₂ EU (e i o.0) (e j o.1)
reading_same φ ψ f e (Until Every i j) o = ap₂ AU (e i o.0) (e j o.1)
reading_same φ ψ f e (Release Exists i j) o = ap₂ ER (e i o.0) (e j o.1)
reading_same φ ψ f e (Release Every i j) o = ap₂ AR (e i o.0) (e j o.1)

formula_at_depth_same : (T : Table) → IsWellFormed T → (d e f : ℕ) → f < d → f < e → formula_at_depth d T f ≡ formula_at_depth e T f
unfolding formula_at_depth
formula_at_depth_same T w zero e f h k = absurd (omega arith)
formula_at_depth_same T w (suc d) zero f h k = absurd (omega arith)
formula_at_depth_same T w (suc d) (suc e) f h k = reading_same (formula_at_depth d T) (formula_at_depth e T) f (λ i l. formula_at_depth_same T w d e i (omega arith) (omega arith)) (form T f) (w f)

pub formula-reading : (T : Table) → IsWellFormed T → (f : ℕ) → formula T f ≡ reading (formula T) (form T f)
unfolding formula formula_at_depth
formula-reading T w f = reading_same (formula_at_depth f T) (formula T) f (λ i l. formula_at_depth_same T w f (suc i) i l (omega arith)) (form T f) (w f)

-- the formula of a form whose shape is known
pub formula_of : (T : Table) → IsWellFormed T → (f : ℕ) {x : Form} → form T f ≡ x → formula T f ≡ reading (formula T) x
formula_of T w f e = formula-reading T w f ∙ ap (reading (formula T)) e
