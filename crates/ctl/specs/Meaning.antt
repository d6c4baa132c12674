-- What a formula means at a state, by paths.
use Rattle.std.specs.Prelude.{◌≡◌, ℕ, ◌/◌, ◌%◌, ◌^◌, ◌<◌, true, ◌⊎◌}
use Rattle.ctl.specs.Model.{Model, Path}
use Rattle.ctl.specs.Formula.{Formula, verum, falsum, atom, absent, both, either, EX, AX, EU, AU, ER, AR}

-- bit k of n is set
abbrev pub HasBit : ℕ → ℕ → Type 0
HasBit n k = (n / (2 ^ k)) % 2 ≡ 1

abbrev pub LacksBit : ℕ → ℕ → Type 0
LacksBit n k = (n / (2 ^ k)) % 2 ≡ 0

-- q at some place, and p at every earlier one
abbrev pub Until : (p q : ℕ → Type 0) → (ℕ → ℕ) → Type 0
Until p q x = (i : ℕ) × (q (x i) × ((j : ℕ) → j < i → p (x j)))

-- at each place q, or p at some earlier one
abbrev pub Release : (p q : ℕ → Type 0) → (ℕ → ℕ) → Type 0
Release p q x = (i : ℕ) → q (x i) ⊎ ((j : ℕ) × ((j < i) × p (x j)))

unfoldable pub Holds : Model → Formula → ℕ → Type 0
Holds m verum s = Unit {0}
Holds m falsum s = ⊥
Holds m (atom a) s = HasBit (m.atoms s) a
Holds m (absent a) s = LacksBit (m.atoms s) a
Holds m (both p q) s = Holds m p s × Holds m q s
Holds m (either p q) s = Holds m p s ⊎ Holds m q s
Holds m (EX p) s = (t : ℕ) × ((m.leads s t ≡ true) × Holds m p t)
Holds m (AX p) s = (t : ℕ) → m.leads s t ≡ true → Holds m p t
Holds m (EU p q) s = (x : Path m s) × Until (Holds m p) (Holds m q) x.at
Holds m (AU p q) s = (x : Path m s) → Until (Holds m p) (Holds m q) x.at
Holds m (ER p q) s = (x : Path m s) × Release (Holds m p) (Holds m q) x.at
Holds m (AR p q) s = (x : Path m s) → Release (Holds m p) (Holds m q) x.at
