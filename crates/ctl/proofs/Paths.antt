-- Paths: the first state put before one or taken off, and a path that goes where it is wanted.
use Rattle.std.proofs.Common.{◌≡◌, ℕ, zero, suc, ◌<◌, true, refl, inl, inr, ⊎_elim, arith}
use Rattle.std.proofs.lemmas.Bool.{both_ways, cases_Bool}
use Rattle.ctl.specs.Model.{Model, IsSerial, Path}
use Rattle.ctl.specs.Meaning.{Until, Release}
use Rattle.ctl.specs.Rounds.{Subset}
use Rattle.ctl.specs.Truth.{some_successor}
use Rattle.ctl.proofs.Successors.{some_successor_found}

-- ---- the first state of a path

-- s, and then the states of x
abbrev pub before : ℕ → (ℕ → ℕ) → ℕ → ℕ
before s x zero = s
before s x (suc i) = x i

abbrev pub prepend : {m : Model} (s : ℕ) {t : ℕ} → m.leads s t ≡ true → Path m t → Path m s
prepend {m} s leads x =
    record {
      at = before s x.at;
      starts = refl;
      goes = elim [ zero ↦ rw x.starts leads | suc i ↦ x.goes i ];
    }

abbrev pub rest : {m : Model} {s : ℕ} (x : Path m s) → Path m (x.at 1)
rest x = record { at = λ i. x.at (suc i); starts = refl; goes = λ i. x.goes (suc i) }

pub first_step : {m : Model} {s : ℕ} (x : Path m s) → m.leads s (x.at 1) ≡ true
first_step {m} x = rw x.starts at (x.goes 0)

module _ (p q : ℕ → Type 0) (x : ℕ → ℕ) where
  pub Until_now : q (x 0) → Until p q x
  Until_now h = (0, (h, λ j k. absurd (omega arith)))

  pub Until_later : p (x 0) → Until p q (λ i. x (suc i)) → Until p q x
  Until_later h u = (suc u.0, (u.1.0, elim [ zero ↦ λ _. h | suc j ↦ λ k. u.1.1 j (omega arith) ]))

  pub Release_now : Release p q x → q (x 0)
  Release_now r = ⊎_elim (λ h. h) (λ h. absurd (omega (arith, h.1.0))) (r 0)

  pub Release_later : (p (x 0) → ⊥) → Release p q x → Release p q (λ i. x (suc i))
  Release_later fails r i = ⊎_elim inl (λ h. inr (earlier h.0 h.1.0 h.1.1)) (r (suc i))
    where
      earlier : (j : ℕ) → j < suc i → p (x j) → (k : ℕ) × ((k < i) × p (x (suc k)))
      earlier zero h e = absurd (fails e)
      earlier (suc j) h e = (j, (omega arith, e))

-- ---- a path that goes to a wanted state wherever it can

module _ (m : Model) (serial : IsSerial m) (wanted : Subset) where
  record Step (s : ℕ) : Type 0 where
    next : ℕ
    within : next < m.count
    leads : m.leads s next ≡ true
    best : some_successor m wanted s ≡ true → wanted next ≡ true

  step : (s : ℕ) → s < m.count → Step s
  step s h =
      ⊎_elim
      (λ e. let r = some_successor_found m wanted s e in
      record { next = r.0; within = r.1.0; leads = r.1.1.0; best = λ _. r.1.1.1 })
      (λ e. let r = serial.successor s h in
      record { next = r.0; within = r.1.0; leads = r.1.1; best = λ can. absurd (both_ways (some_successor m wanted s) e can) })
      (cases_Bool (some_successor m wanted s))

  walk : (s : ℕ) → s < m.count → ℕ → (t : ℕ) × (t < m.count)
  walk s h zero = (s, h)
  walk s h (suc i) = let here = walk s h i in let r = step here.0 here.1 in (r.next, r.within)

  pub toward : (s : ℕ) → s < m.count → (x : Path m s) × ((i : ℕ) → some_successor m wanted (x.at i) ≡ true → wanted (x.at (suc i)) ≡ true)
  unfolding walk
  toward s h = (
    record { at = λ i. (walk s h i).0; starts = refl; goes = λ i. (step (walk s h i).0 (walk s h i).1).leads },
    λ i. (step (walk s h i).0 (walk s h i).1).best,
  )

pub any_path : (m : Model) → IsSerial m → (s : ℕ) → s < m.count → Path m s
any_path m serial s h = (toward m serial (λ _. true) s h).0

-- each place of a path is a state
pub on_path : {m : Model} → IsSerial m → {s : ℕ} (x : Path m s) (i : ℕ) → x.at i < m.count
on_path serial x i = (serial.within (x.at i) (x.at (suc i)) (x.goes i)).0
