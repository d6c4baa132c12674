-- Rounds for the tests of searches: the goals are the given set 0.
use Rattle.std.specs.Prelude.{◌≡◌, ℕ, ◌-◌, Bool, true, false, ◌||◌, refl}
use Rattle.std.proofs.Common.{arith}
use Rattle.ctl.specs.Rounds.{Subset, IsMonotone}

-- the goals, and each index whose predecessor is in the set; that of 0 is 0
abbrev pub after : (ℕ → Subset) → Subset → Subset
after given x i = given 0 i || x (i - 1)

-- the goals, whatever the set
abbrev pub alone : (ℕ → Subset) → Subset → Subset
alone given x = given 0

or_grows : (g a b : Bool) → (a ≡ true → b ≡ true) → (g || a) ≡ true → (g || b) ≡ true
or_grows true a b kept e = refl
or_grows false a b kept e = kept e

pub IsMonotone-after : (n : ℕ) (given : ℕ → Subset) → IsMonotone n (after given)
IsMonotone-after n given x y inside i h = or_grows (given 0 i) (x (i - 1)) (y (i - 1)) (inside (i - 1) (omega arith))
