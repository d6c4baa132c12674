-- Two machines side by side.
use Rattle.std.specs.Prelude.{◌≡◌, ℕ, ◌+◌, ◌*◌, ◌/◌, ◌%◌, ◌<◌, ◌≤◌, Bool, true, if◌then◌else◌, ◌&&◌, Ok, Err, Decides, Result, bit_or, nat_le, nat_lt}
use Rattle.ctl.specs.Model.{Model}
use Rattle.forms.specs.declared.refusal.Refusal.{Refusal}
use Rattle.forms.specs.declared.refusal.Refusal.TheVariants.{ProductSize}

-- the pairs of states of a and b: state p * n + q stands for p on the left and q on the right, where n is the right side's count;
-- a pair has an atom where either side has it; `rule p q r t` says whether (p, q) leads to (r, t)
abbrev pub grid : (a b : Model) (rule : ℕ → ℕ → ℕ → ℕ → Bool) → Model
grid a b rule = record {
  count = a.count * b.count;
  atoms = λ s. if nat_lt s (a.count * b.count) then bit_or (a.atoms (s / b.count)) (b.atoms (s % b.count)) else 0;
  leads = λ s t.
      nat_lt s (a.count * b.count)
      && (nat_lt t (a.count * b.count) && rule (s / b.count) (s % b.count) (t / b.count) (t % b.count));
}

-- both sides step at once
abbrev pub synchronous_rule : (a b : Model) → ℕ → ℕ → ℕ → ℕ → Bool
synchronous_rule a b p q r t = a.leads p r && b.leads q t

-- whether the pairs of states stay within the limit
abbrev pub is_within_limit : (a b : Model) → Bool
is_within_limit a b = nat_le (a.count * b.count) 1024

-- the synchronous product; over the limit it means its left side alone
abbrev pub product : (a b : Model) → Model
product a b = if is_within_limit a b then grid a b (synchronous_rule a b) else a

-- a number of pairs, or the refusal where there are too many
abbrev pub limited_pairs : ℕ → Result ℕ Refusal
limited_pairs pairs = if nat_le pairs 1024 then Ok pairs else Err ProductSize

-- the number of pairs of states, if it is within the limit
abbrev pub pair_count : (a b : Model) → Result ℕ Refusal
pair_count a b = limited_pairs (a.count * b.count)

-- ---- What is claimed.

-- the state of the product that stands for p on the left and q on the right
abbrev pub pair : (b : Model) → ℕ → ℕ → ℕ
pair b p q = p * b.count + q

-- p is a state on the left and q on the right
pub record Sides (a b : Model) (p q : ℕ) : Type 0 where
  pub left : p < a.count
  pub right : q < b.count

-- the states of m are the pairs; they step together, and an atom holds where it holds on either side
pub record IsPairwise (a b m : Model) : Type 0 where
  pub states : (p q : ℕ) → Sides a b p q → pair b p q < m.count
  pub no_other : (s : ℕ) → s < m.count → (p : ℕ) × ((q : ℕ) × (Sides a b p q × (s ≡ pair b p q)))
  pub steps : (p q r t : ℕ) → Sides a b p q → Sides a b r t →
      Decides (m.leads (pair b p q) (pair b r t)) ((a.leads p r ≡ true) × (b.leads q t ≡ true))
  pub labels : (p q : ℕ) → Sides a b p q → m.atoms (pair b p q) ≡ bit_or (a.atoms p) (b.atoms q)

abbrev pub ProductIsPairwise : Type 0
ProductIsPairwise = (a b : Model) → a.count * b.count ≤ 1024 → IsPairwise a b (product a b)
