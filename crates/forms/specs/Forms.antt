-- Forms: CTL formulas in negation normal form, whose operands are numbers of earlier forms, kept in a table.
use Rattle.std.specs.Prelude.{ℕ, ◌<◌, ◌≤◌, Bool, true, ◌&&◌, List, [], ◌∷◌, length, Some, None, Option, nat_le, nat_lt, slice_index_or, ⊤}
use Rattle.forms.specs.declared.form.Quantifier.TheVariants.{Exists, Every}
use Rattle.forms.specs.declared.form.Form.{Form}
use Rattle.forms.specs.declared.form.Form.TheVariants.{Truth, Falsity, Atom, Absent, And, Or, Next, Until, Release}

-- the form of a kind, by the kind's number; operands that the kind does not use are ignored
abbrev pub form_of : (kind a b : ℕ) → Option Form
form_of kind a b =
    slice_index_or
    (Some Truth
    ∷ Some Falsity
    ∷ Some (Atom a)
    ∷ Some (Absent a)
    ∷ Some (And a b)
    ∷ Some (Or a b)
    ∷ Some (Next Exists a)
    ∷ Some (Next Every a)
    ∷ Some (Until Exists a b)
    ∷ Some (Until Every a b)
    ∷ Some (Release Exists a b)
    ∷ Some (Release Every a b)
    ∷ [])
    kind
    None

abbrev pub Table : Type 0
Table = List Form

-- form f of the table; past its end there is nothing to hold, so `Truth`
abbrev pub form : Table → ℕ → Form
form T f = slice_index_or T f Truth

-- the atom that a form names is one of the 32
abbrev pub atom_fits : Form → Bool
atom_fits (Atom p) = nat_le p 31
atom_fits (Absent p) = nat_le p 31
atom_fits _ = true

-- the operands of a form are numbers below n
abbrev pub operands_below : ℕ → Form → Bool
operands_below n (And i j) = nat_lt i n && nat_lt j n
operands_below n (Or i j) = nat_lt i n && nat_lt j n
operands_below n (Next q i) = nat_lt i n
operands_below n (Until q i j) = nat_lt i n && nat_lt j n
operands_below n (Release q i j) = nat_lt i n && nat_lt j n
operands_below n _ = true

-- the same as a statement: the operands of the form numbered f are numbers of earlier forms
abbrev pub Earlier : ℕ → Form → Type 0
Earlier f (And i j) = (i < f) × (j < f)
Earlier f (Or i j) = (i < f) × (j < f)
Earlier f (Next q i) = i < f
Earlier f (Until q i j) = (i < f) × (j < f)
Earlier f (Release q i j) = (i < f) × (j < f)
Earlier f _ = ⊤

abbrev pub IsWellFormed : Table → Type 0
IsWellFormed T = (f : ℕ) → Earlier f (form T f)

-- a table of the register: well-formed, of at most 64 forms
abbrev pub IsLawfulTable : Table → Type 0
IsLawfulTable T = IsWellFormed T × (length T ≤ 64)

-- a form other than `Truth`, which is what a place past the table reads as
abbrev pub IsNotTruth : Form → Type 0
IsNotTruth Truth = ⊥
IsNotTruth _ = ⊤
