-- What the forms of a table mean: the formula of each, and where a set of them holds.
use Rattle.std.specs.Prelude.{◌≡◌, ℕ, zero, suc, ◌<◌, true}
use Rattle.ctl.specs.Formula.{Formula, verum, falsum, atom, absent, both, either, EX, AX, EU, AU, ER, AR}
use Rattle.ctl.specs.Model.{Model}
use Rattle.ctl.specs.Meaning.{Holds}
use Rattle.forms.specs.declared.form.Quantifier.TheVariants.{Exists, Every}
use Rattle.forms.specs.declared.form.Form.{Form}
use Rattle.forms.specs.declared.form.Form.TheVariants.{Truth, Falsity, Atom, Absent, And, Or, Next, Until, Release}
use Rattle.forms.specs.Forms.{Table, form}
use Rattle.forms.specs.Sets.{member}

-- the formula that a form stands for, given those of its operands
abbrev pub reading : (ℕ → Formula) → Form → Formula
reading φ Truth = verum
reading φ Falsity = falsum
reading φ (Atom p) = atom p
reading φ (Absent p) = absent p
reading φ (And i j) = both (φ i) (φ j)
reading φ (Or i j) = either (φ i) (φ j)
reading φ (Next Exists i) = EX (φ i)
reading φ (Next Every i) = AX (φ i)
reading φ (Until Exists i j) = EU (φ i) (φ j)
reading φ (Until Every i j) = AU (φ i) (φ j)
reading φ (Release Exists i j) = ER (φ i) (φ j)
reading φ (Release Every i j) = AR (φ i) (φ j)

-- the formula of form f, read d operands deep
unfoldable pub formula_at_depth : ℕ → Table → ℕ → Formula
formula_at_depth zero T f = verum
formula_at_depth (suc d) T f = reading (formula_at_depth d T) (form T f)

-- operand numbers fall, so f + 1 is deep enough
unfoldable pub formula : Table → ℕ → Formula
formula T f = formula_at_depth (suc f) T f

-- every form of the set holds at the state s of m
abbrev pub SetHolds : Table → Model → ℕ → ℕ → Type 0
SetHolds T m set s = (s < m.count) × ((f : ℕ) → member set f ≡ true → Holds m (formula T f) s)
