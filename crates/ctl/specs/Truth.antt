-- The states at which a formula is true, computed by rounds.
use Rattle.std.specs.Prelude.{◌≡◌, ℕ, suc, ◌/◌, ◌%◌, ◌^◌, ◌<◌, ◌≤◌, Bool, true, false, not, ◌&&◌, ◌||◌, ◌==◌}
use Rattle.ctl.specs.Model.{Model, IsSerial}
use Rattle.ctl.specs.Formula.{Formula, verum, falsum, atom, absent, both, either, EX, AX, EU, AU, ER, AR}
use Rattle.ctl.specs.Meaning.{Holds}
use Rattle.ctl.specs.Search.{some, every}
use Rattle.ctl.specs.Rounds.{Subset, IsMonotone, limit, rounds, Settles}

-- the states with some successor in the set
abbrev pub some_successor : Model → Subset → Subset
some_successor m set s = some m.count (λ t. m.leads s t && set t)

-- the states with all successors in the set
abbrev pub all_successors : Model → Subset → Subset
all_successors m set s = every m.count (λ t. not (m.leads s t) || set t)

-- One round of U and of R, from the states with p and with q; `follow` is one of the two above.
abbrev pub until_round : (follow : Subset → Subset) (p q : Subset) → Subset → Subset
until_round follow p q set s = q s || (p s && follow set s)

abbrev pub release_round : (follow : Subset → Subset) (p q : Subset) → Subset → Subset
release_round follow p q set s = q s && (p s || follow set s)

unfoldable pub truth : Model → Formula → ℕ → Bool
truth m verum s = true
truth m falsum s = false
truth m (atom a) s = (m.atoms s / (2 ^ a)) % 2 == 1
truth m (absent a) s = (m.atoms s / (2 ^ a)) % 2 == 0
truth m (both p q) s = truth m p s && truth m q s
truth m (either p q) s = truth m p s || truth m q s
truth m (EX p) s = some_successor m (truth m p) s
truth m (AX p) s = all_successors m (truth m p) s
truth m (EU p q) s = limit m.count (until_round (some_successor m) (truth m p) (truth m q)) false s
truth m (AU p q) s = limit m.count (until_round (all_successors m) (truth m p) (truth m q)) false s
truth m (ER p q) s = limit m.count (release_round (some_successor m) (truth m p) (truth m q)) true s
truth m (AR p q) s = limit m.count (release_round (all_successors m) (truth m p) (truth m q)) true s

-- how many rounds a form takes by itself, its operands known
unfoldable pub form_rounds : Model → Formula → ℕ
form_rounds m verum = 0
form_rounds m falsum = 0
form_rounds m (atom a) = 0
form_rounds m (absent a) = 0
form_rounds m (both p q) = 0
form_rounds m (either p q) = 0
form_rounds m (EX p) = 0
form_rounds m (AX p) = 0
form_rounds m (EU p q) = rounds m.count (until_round (some_successor m) (truth m p) (truth m q)) false
form_rounds m (AU p q) = rounds m.count (until_round (all_successors m) (truth m p) (truth m q)) false
form_rounds m (ER p q) = rounds m.count (release_round (some_successor m) (truth m p) (truth m q)) true
form_rounds m (AR p q) = rounds m.count (release_round (all_successors m) (truth m p) (truth m q)) true

-- a test tells where a statement on states holds
abbrev pub DecidesBelow : ℕ → Subset → (ℕ → Type 0) → Type 0
DecidesBelow n test P = (s : ℕ) → s < n → (test s ≡ true → P s) × (P s → test s ≡ true)

-- ---- What is claimed.

-- the rounds of any monotone operator settle
abbrev pub RoundsSettle : Type 0
RoundsSettle = (n : ℕ) (round : Subset → Subset) → IsMonotone n round → (full : Bool) → Settles n round full

-- each of the four rounds is monotone
pub record RoundsAreMonotone (m : Model) (p q : Subset) : Type 0 where
  pub EU_round : IsMonotone m.count (until_round (some_successor m) p q)
  pub AU_round : IsMonotone m.count (until_round (all_successors m) p q)
  pub ER_round : IsMonotone m.count (release_round (some_successor m) p q)
  pub AR_round : IsMonotone m.count (release_round (all_successors m) p q)

abbrev pub FourAreMonotone : Type 0
FourAreMonotone = (m : Model) (p q : Subset) → RoundsAreMonotone m p q

-- no form takes more rounds than there are states, and one
abbrev pub RoundsAreBounded : Type 0
RoundsAreBounded = (m : Model) (φ : Formula) → form_rounds m φ ≤ suc m.count

-- what the rounds compute is what the paths say
abbrev pub TruthIsMeaning : Type 0
TruthIsMeaning = (m : Model) → IsSerial m → (φ : Formula) → DecidesBelow m.count (truth m φ) (Holds m φ)

-- so it can be decided
abbrev pub MeaningIsDecidable : Type 0
MeaningIsDecidable = (m : Model) → IsSerial m → (φ : Formula) (s : ℕ) → s < m.count → Dec (Holds m φ s)
