-- Some and all successors of a state, and the four rounds: what they say, and that they are monotone.
use Rattle.std.proofs.Common.{◌≡◌, ℕ, ◌<◌, true, false, not, ◌&&◌, ◌||◌, ◌⊎◌, inl, inr, ⊎_elim}
use Rattle.std.proofs.lemmas.Bool.{both_ways, and_parts, and_from, or_cases, or_parts, or_left, or_right, cases_Bool, not-false, not-true, not_from_false}
use Rattle.ctl.specs.Model.{Model}
use Rattle.ctl.specs.Rounds.{Subset, IsMonotone}
use Rattle.ctl.specs.Truth.{some_successor, all_successors, until_round, release_round, RoundsAreMonotone}
use Rattle.ctl.proofs.Search.{some_found, some_from, every_at, every_from, every_or}

module _ (m : Model) (set : Subset) (s : ℕ) where
  pub some_successor_found : some_successor m set s ≡ true → (t : ℕ) × ((t < m.count) × ((m.leads s t ≡ true) × (set t ≡ true)))
  some_successor_found e =
      let r = some_found m.count (λ t. m.leads s t && set t) e in
      (r.0, (r.1.0, and_parts (m.leads s r.0) (set r.0) r.1.1))

  pub some_successor_from : (t : ℕ) → t < m.count → m.leads s t ≡ true → set t ≡ true → some_successor m set s ≡ true
  some_successor_from t h goes e = some_from m.count (λ t. m.leads s t && set t) t h (and_from (m.leads s t) (set t) goes e)

  pub all_successors_at : all_successors m set s ≡ true → (t : ℕ) → t < m.count → m.leads s t ≡ true → set t ≡ true
  all_successors_at e t h goes =
      ⊎_elim
      (λ stays. absurd (both_ways (m.leads s t) (not-true (m.leads s t) stays) goes))
      (λ there. there)
      (or_cases (not (m.leads s t)) (set t) (every_at m.count (λ t. not (m.leads s t) || set t) e t h))

  pub all_successors_from : ((t : ℕ) → t < m.count → m.leads s t ≡ true → set t ≡ true) → all_successors m set s ≡ true
  all_successors_from f =
      every_from m.count (λ t. not (m.leads s t) || set t)
      (λ t h. ⊎_elim
      (λ goes. or_right (not (m.leads s t)) (set t) (f t h goes))
      (λ stays. or_left (not (m.leads s t)) (set t) (not_from_false (m.leads s t) stays))
      (cases_Bool (m.leads s t)))

  -- all successors are in the set, or one is known outside it
  pub all_successors_or : (all_successors m set s ≡ true) ⊎ ((t : ℕ) × ((t < m.count) × ((m.leads s t ≡ true) × (set t ≡ false))))
  all_successors_or =
      ⊎_elim
      inl
      (λ r. let parts = or_parts (not (m.leads s r.0)) (set r.0) r.1.1 in
      inr (r.0, (r.1.0, (not-false (m.leads s r.0) parts.0, parts.1))))
      (every_or m.count (λ t. not (m.leads s t) || set t))

pub IsMonotone-some_successor : (m : Model) → IsMonotone m.count (some_successor m)
IsMonotone-some_successor m a c f s h e =
    let r = some_successor_found m a s e in
    some_successor_from m c s r.0 r.1.0 r.1.1.0 (f r.0 r.1.0 r.1.1.1)

pub IsMonotone-all_successors : (m : Model) → IsMonotone m.count (all_successors m)
IsMonotone-all_successors m a c f s h e = all_successors_from m c s (λ t k goes. f t k (all_successors_at m a s e t k goes))

-- ---- one round, for either way to follow

module _ (follow : Subset → Subset) (p q : Subset) where
  pub until_round_parts : (set : Subset) (s : ℕ) → until_round follow p q set s ≡ true → (q s ≡ true) ⊎ ((p s ≡ true) × (follow set s ≡ true))
  until_round_parts set s e = ⊎_elim inl (λ r. inr (and_parts (p s) (follow set s) r)) (or_cases (q s) (p s && follow set s) e)

  pub until_round_now : (set : Subset) (s : ℕ) → q s ≡ true → until_round follow p q set s ≡ true
  until_round_now set s e = or_left (q s) (p s && follow set s) e

  pub until_round_later : (set : Subset) (s : ℕ) → p s ≡ true → follow set s ≡ true → until_round follow p q set s ≡ true
  until_round_later set s e f = or_right (q s) (p s && follow set s) (and_from (p s) (follow set s) e f)

  pub release_round_parts : (set : Subset) (s : ℕ) → release_round follow p q set s ≡ true → (q s ≡ true) × ((p s ≡ true) ⊎ (follow set s ≡ true))
  release_round_parts set s e =
      let parts = and_parts (q s) (p s || follow set s) e in
      (parts.0, or_cases (p s) (follow set s) parts.1)

  pub release_round_from : (set : Subset) (s : ℕ) → q s ≡ true → (p s ≡ true) ⊎ (follow set s ≡ true) → release_round follow p q set s ≡ true
  release_round_from set s e r =
      and_from (q s) (p s || follow set s) e
      (⊎_elim (or_left (p s) (follow set s)) (or_right (p s) (follow set s)) r)

  module _ (n : ℕ) (monotone : IsMonotone n follow) where
    pub IsMonotone-until_round : IsMonotone n (until_round follow p q)
    IsMonotone-until_round a c f s h e =
        ⊎_elim
        (until_round_now c s)
        (λ r. until_round_later c s r.0 (monotone a c f s h r.1))
        (until_round_parts a s e)

    pub IsMonotone-release_round : IsMonotone n (release_round follow p q)
    IsMonotone-release_round a c f s h e =
        let parts = release_round_parts a s e in
        release_round_from c s parts.0 (⊎_elim inl (λ r. inr (monotone a c f s h r)) parts.1)

pub rounds_are_monotone : (m : Model) (p q : Subset) → RoundsAreMonotone m p q
rounds_are_monotone m p q =
    record {
      EU_round = IsMonotone-until_round (some_successor m) p q m.count (IsMonotone-some_successor m);
      AU_round = IsMonotone-until_round (all_successors m) p q m.count (IsMonotone-all_successors m);
      ER_round = IsMonotone-release_round (some_successor m) p q m.count (IsMonotone-some_successor m);
      AR_round = IsMonotone-release_round (all_successors m) p q m.count (IsMonotone-all_successors m);
    }
