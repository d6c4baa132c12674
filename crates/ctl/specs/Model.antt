-- A finite transition system with labelled states (a Kripke structure).
use Rattle.std.specs.Prelude.{◌≡◌, ℕ, suc, ◌<◌, ◌≤◌, Bool, true}

-- the states are the numbers below `count`; `atoms s` has bit a where atom a holds at s; `leads s t` says that t is a successor of s
pub record Model : Type 0 where
  pub count : ℕ
  pub atoms : ℕ → ℕ
  pub leads : ℕ → ℕ → Bool

-- at least one state, every state has a successor, and only states lead anywhere or are led to
pub record IsSerial (m : Model) : Type 0 where
  pub inhabited : 1 ≤ m.count
  pub successor : (s : ℕ) → s < m.count → (t : ℕ) × ((t < m.count) × (m.leads s t ≡ true))
  pub within : (s t : ℕ) → m.leads s t ≡ true → (s < m.count) × (t < m.count)

-- and what is no state has no atoms
pub record IsTotal (m : Model) : Type 0 where
  pub serial : IsSerial m
  pub blank : (s : ℕ) → m.count ≤ s → m.atoms s ≡ 0

-- an endless run of states from s, each leading to the next
pub record Path (m : Model) (s : ℕ) : Type 0 where
  pub at : ℕ → ℕ
  pub starts : at 0 ≡ s
  pub goes : (i : ℕ) → m.leads (at i) (at (suc i)) ≡ true
