-- What the rounds compute is what the paths say.
use Rattle.std.proofs.Common.{◌≡◌, ℕ, zero, suc, ◌/◌, ◌%◌, ◌^◌, ◌<◌, ◌≤◌, true, false, not, ◌⊎◌, sym, refl, ◌∙◌, inl, inr, ⊎_elim, arith}
use Rattle.std.proofs.lemmas.Bool.{both_ways, and_parts, and_from, or_cases, or_left, or_right, cases_Bool, not-true, not_from_false, eqb-true, eq-eqb}
use Rattle.ctl.specs.Model.{Model, IsSerial, Path}
use Rattle.ctl.specs.Formula.{Formula, verum, falsum, atom, absent, both, either, EX, AX, EU, AU, ER, AR}
use Rattle.ctl.specs.Meaning.{Until, Release, Holds}
use Rattle.ctl.specs.Rounds.{Subset, Same, iterate, limit}
use Rattle.ctl.specs.Truth.{some_successor, all_successors, until_round, release_round, truth, form_rounds, DecidesBelow, RoundsAreMonotone}
use Rattle.ctl.proofs.Rounds.{rounds_settle}
use Rattle.ctl.proofs.Successors
use Rattle.ctl.proofs.Paths

module _ (m : Model) (serial : IsSerial m) (p q : Subset) (P Q : ℕ → Type 0)
    (decides_p : DecidesBelow m.count p P) (decides_q : DecidesBelow m.count q Q) where
  -- ---- some path with p until q

  EU_path : (k s : ℕ) → s < m.count → iterate (until_round (some_successor m) p q) false k s ≡ true → (x : Path m s) × Until P Q x.at
  unfolding iterate
  EU_path zero s h e = absurd (both_ways false refl e)
  EU_path (suc k) s h e =
      let set = iterate (until_round (some_successor m) p q) false k in
      ⊎_elim
      (λ now. let x = Paths.any_path m serial s h in
      (x, Paths.Until_now P Q x.at (rw x.starts ((decides_q s h).0 now))))
      (λ later.
      let r = Successors.some_successor_found m set s later.1 in
      let y = EU_path k r.0 r.1.0 r.1.1.1 in
      let x = Paths.prepend {m = m} s r.1.1.0 y.0 in
      (x, Paths.Until_later P Q x.at ((decides_p s h).0 later.0) y.1))
      (Successors.until_round_parts (some_successor m) p q set s e)

  EU_member : (set : Subset) → Same m.count (until_round (some_successor m) p q set) set
      → (i s : ℕ) → s < m.count → (x : Path m s) → Q (x.at i) → ((j : ℕ) → j < i → P (x.at j)) → set s ≡ true
  EU_member set fixed zero s h x last along =
      sym (fixed s h) ∙ Successors.until_round_now (some_successor m) p q set s ((decides_q s h).1 (rw x.starts at last))
  EU_member set fixed (suc i) s h x last along =
      let next = Paths.on_path serial x 1 in
      sym (fixed s h) ∙ Successors.until_round_later (some_successor m) p q set s
      ((decides_p s h).1 (rw x.starts at (along 0 (omega arith))))
      (Successors.some_successor_from m set s (x.at 1) next (Paths.first_step x)
      (EU_member set fixed i (x.at 1) next (Paths.rest x) last (λ j k. along (suc j) (omega arith))))

  -- ---- all paths with p until q

  AU_paths : (k s : ℕ) → s < m.count → iterate (until_round (all_successors m) p q) false k s ≡ true → (x : Path m s) → Until P Q x.at
  unfolding iterate
  AU_paths zero s h e x = absurd (both_ways false refl e)
  AU_paths (suc k) s h e x =
      let set = iterate (until_round (all_successors m) p q) false k in
      let next = Paths.on_path serial x 1 in
      ⊎_elim
      (λ now. Paths.Until_now P Q x.at (rw x.starts ((decides_q s h).0 now)))
      (λ later. Paths.Until_later P Q x.at
      (rw x.starts ((decides_p s h).0 later.0))
      (AU_paths k (x.at 1) next (Successors.all_successors_at m set s later.1 (x.at 1) next (Paths.first_step x)) (Paths.rest x)))
      (Successors.until_round_parts (all_successors m) p q set s e)

  -- from outside the set a path stays outside for as long as p holds
  AU_outside : (set : Subset) → Same m.count (until_round (all_successors m) p q set) set
      → (s : ℕ) → set s ≡ false → (x : Path m s)
      → ((i : ℕ) → some_successor m (λ t. not (set t)) (x.at i) ≡ true → not (set (x.at (suc i))) ≡ true)
      → (i : ℕ) → ((j : ℕ) → j < i → P (x.at j)) → set (x.at i) ≡ false
  AU_outside set fixed s out x best zero along = rw x.starts out
  AU_outside set fixed s out x best (suc i) along =
      let here = x.at i in
      let h = Paths.on_path serial x i in
      ⊎_elim
      (λ all. absurd (both_ways (set here)
      (AU_outside set fixed s out x best i (λ j k. along j (omega arith)))
      (sym (fixed here h) ∙ Successors.until_round_later (all_successors m) p q set here ((decides_p here h).1 (along i (omega arith))) all)))
      (λ r. not-true (set (x.at (suc i))) (best i
      (Successors.some_successor_from m (λ t. not (set t)) here r.0 r.1.0 r.1.1.0 (not_from_false (set r.0) r.1.1.1))))
      (Successors.all_successors_or m set here)

  AU_member : (set : Subset) → Same m.count (until_round (all_successors m) p q set) set
      → (s : ℕ) → s < m.count → ((x : Path m s) → Until P Q x.at) → set s ≡ true
  AU_member set fixed s h every =
      ⊎_elim
      (λ inside. inside)
      (λ out.
      let walk = Paths.toward m serial (λ t. not (set t)) s h in
      let x = walk.0 in
      let u = every x in
      let there = x.at u.0 in
      let k = Paths.on_path serial x u.0 in
      absurd (both_ways (set there)
      (AU_outside set fixed s out x walk.1 u.0 u.1.1)
      (sym (fixed there k) ∙ Successors.until_round_now (all_successors m) p q set there ((decides_q there k).1 u.1.0))))
      (cases_Bool (set s))

  -- ---- q until released by p

  -- a path that stays in the set for as long as p has not released it
  release_round_along : (follow : Subset → Subset) (set : Subset) → Same m.count (release_round follow p q set) set
      → (s : ℕ) → set s ≡ true → (x : Path m s)
      → ((i : ℕ) → follow set (x.at i) ≡ true → set (x.at (suc i)) ≡ true)
      → (i : ℕ) → (set (x.at i) ≡ true) ⊎ ((j : ℕ) × ((j < i) × P (x.at j)))
  release_round_along follow set fixed s inside x stays zero = inl (rw x.starts inside)
  release_round_along follow set fixed s inside x stays (suc i) =
      let here = x.at i in
      let h = Paths.on_path serial x i in
      ⊎_elim
      (λ e. ⊎_elim
      (λ frees. inr (i, (omega arith, (decides_p here h).0 frees)))
      (λ on. inl (stays i on))
      (Successors.release_round_parts follow p q set here (fixed here h ∙ e)).1)
      (λ r. inr (r.0, (omega (arith, r.1.0), r.1.1)))
      (release_round_along follow set fixed s inside x stays i)

  released : (follow : Subset → Subset) (set : Subset) → Same m.count (release_round follow p q set) set
      → (s : ℕ) → set s ≡ true → (x : Path m s)
      → ((i : ℕ) → follow set (x.at i) ≡ true → set (x.at (suc i)) ≡ true)
      → Release P Q x.at
  released follow set fixed s inside x stays i =
      let here = x.at i in
      let h = Paths.on_path serial x i in
      ⊎_elim
      (λ e. inl ((decides_q here h).0 (Successors.release_round_parts follow p q set here (fixed here h ∙ e)).0))
      inr
      (release_round_along follow set fixed s inside x stays i)

  ER_path : (set : Subset) → Same m.count (release_round (some_successor m) p q set) set
      → (s : ℕ) → s < m.count → set s ≡ true → (x : Path m s) × Release P Q x.at
  ER_path set fixed s h inside =
      let walk = Paths.toward m serial set s h in
      (walk.0, released (some_successor m) set fixed s inside walk.0 walk.1)

  AR_paths : (set : Subset) → Same m.count (release_round (all_successors m) p q set) set
      → (s : ℕ) → set s ≡ true → (x : Path m s) → Release P Q x.at
  AR_paths set fixed s inside x =
      released (all_successors m) set fixed s inside x
      (λ i all. Successors.all_successors_at m set (x.at i) all (x.at (suc i)) (Paths.on_path serial x (suc i)) (x.goes i))

  ER_member : (k s : ℕ) → s < m.count → (x : Path m s) → Release P Q x.at → iterate (release_round (some_successor m) p q) true k s ≡ true
  unfolding iterate
  ER_member zero s h x r = refl
  ER_member (suc k) s h x r =
      let set = iterate (release_round (some_successor m) p q) true k in
      let next = Paths.on_path serial x 1 in
      Successors.release_round_from (some_successor m) p q set s
      ((decides_q s h).1 (rw x.starts at (Paths.Release_now P Q x.at r)))
      (⊎_elim
      inl
      (λ fails. inr (Successors.some_successor_from m set s (x.at 1) next (Paths.first_step x)
      (ER_member k (x.at 1) next (Paths.rest x)
      (Paths.Release_later P Q x.at (λ e. both_ways (p s) fails ((decides_p s h).1 (rw x.starts at e))) r))))
      (cases_Bool (p s)))

  AR_member : (k s : ℕ) → s < m.count → ((x : Path m s) → Release P Q x.at) → iterate (release_round (all_successors m) p q) true k s ≡ true
  unfolding iterate
  AR_member zero s h every = refl
  AR_member (suc k) s h every =
      let set = iterate (release_round (all_successors m) p q) true k in
      let x = Paths.any_path m serial s h in
      Successors.release_round_from (all_successors m) p q set s
      ((decides_q s h).1 (rw x.starts at (Paths.Release_now P Q x.at (every x))))
      (⊎_elim
      inl
      (λ fails. inr (Successors.all_successors_from m set s (λ t below leads.
      AR_member k t below (λ y.
      let longer = Paths.prepend {m = m} s leads y in
      Paths.Release_later P Q longer.at (λ e. both_ways (p s) fails ((decides_p s h).1 e)) (every longer)))))
      (cases_Bool (p s)))

  -- ---- the four limits

  monotone : RoundsAreMonotone m p q
  monotone = Successors.rounds_are_monotone m p q

  pub EU_decides : DecidesBelow m.count (limit m.count (until_round (some_successor m) p q) false) (λ s. (x : Path m s) × Until P Q x.at)
  unfolding limit
  EU_decides s h =
      let round = until_round (some_successor m) p q in (
        EU_path m.count s h,
        λ r. EU_member (limit m.count round false) (rounds_settle m.count round monotone.EU_round false).unchanged r.1.0 s h r.0 r.1.1.0 r.1.1.1,
      )

  pub AU_decides : DecidesBelow m.count (limit m.count (until_round (all_successors m) p q) false) (λ s. (x : Path m s) → Until P Q x.at)
  unfolding limit
  AU_decides s h =
      let round = until_round (all_successors m) p q in (
        AU_paths m.count s h,
        AU_member (limit m.count round false) (rounds_settle m.count round monotone.AU_round false).unchanged s h,
      )

  pub ER_decides : DecidesBelow m.count (limit m.count (release_round (some_successor m) p q) true) (λ s. (x : Path m s) × Release P Q x.at)
  unfolding limit
  ER_decides s h =
      let round = release_round (some_successor m) p q in (
        ER_path (limit m.count round true) (rounds_settle m.count round monotone.ER_round true).unchanged s h,
        λ r. ER_member m.count s h r.0 r.1,
      )

  pub AR_decides : DecidesBelow m.count (limit m.count (release_round (all_successors m) p q) true) (λ s. (x : Path m s) → Release P Q x.at)
  unfolding limit
  AR_decides s h =
      let round = release_round (all_successors m) p q in (
        AR_paths (limit m.count round true) (rounds_settle m.count round monotone.AR_round true).unchanged s,
        AR_member m.count s h,
      )

-- ---- every formula

pub DecidesBelow-truth : (m : Model) → IsSerial m → (φ : Formula) → DecidesBelow m.count (truth m φ) (Holds m φ)
unfolding truth Holds
DecidesBelow-truth m serial verum s h = (λ _. tt, λ _. refl)
DecidesBelow-truth m serial falsum s h = (λ e. both_ways false refl e, λ e. absurd e)
DecidesBelow-truth m serial (atom a) s h = (eqb-true ((m.atoms s / (2 ^ a)) % 2) 1, eq-eqb ((m.atoms s / (2 ^ a)) % 2) 1)
DecidesBelow-truth m serial (absent a) s h = (eqb-true ((m.atoms s / (2 ^ a)) % 2) 0, eq-eqb ((m.atoms s / (2 ^ a)) % 2) 0)
DecidesBelow-truth m serial (both p q) s h =
    let dp = DecidesBelow-truth m serial p s h in
    let dq = DecidesBelow-truth m serial q s h in (
      λ e. let parts = and_parts (truth m p s) (truth m q s) e in (dp.0 parts.0, dq.0 parts.1),
      λ r. and_from (truth m p s) (truth m q s) (dp.1 r.0) (dq.1 r.1),
    )
DecidesBelow-truth m serial (either p q) s h =
    let dp = DecidesBelow-truth m serial p s h in
    let dq = DecidesBelow-truth m serial q s h in (
      λ e. ⊎_elim (λ r. inl (dp.0 r)) (λ r. inr (dq.0 r)) (or_cases (truth m p s) (truth m q s) e),
      ⊎_elim (λ r. or_left (truth m p s) (truth m q s) (dp.1 r)) (λ r. or_right (truth m p s) (truth m q s) (dq.1 r)),
    )
DecidesBelow-truth m serial (EX p) s h =
    let dp = DecidesBelow-truth m serial p in (
      λ e. let r = Successors.some_successor_found m (truth m p) s e in (r.0, (r.1.1.0, (dp r.0 r.1.0).0 r.1.1.1)),
      λ r. let k = (serial.within s r.0 r.1.0).1 in
          Successors.some_successor_from m (truth m p) s r.0 k r.1.0 ((dp r.0 k).1 r.1.1),
    )
DecidesBelow-truth m serial (AX p) s h =
    let dp = DecidesBelow-truth m serial p in (
      λ e t leads. let k = (serial.within s t leads).1 in (dp t k).0 (Successors.all_successors_at m (truth m p) s e t k leads),
      λ f. Successors.all_successors_from m (truth m p) s (λ t k leads. (dp t k).1 (f t leads)),
    )
DecidesBelow-truth m serial (EU p q) s h = EU_decides m serial (truth m p) (truth m q) (Holds m p) (Holds m q) (DecidesBelow-truth m serial p) (DecidesBelow-truth m serial q) s h
DecidesBelow-truth m serial (AU p q) s h = AU_decides m serial (truth m p) (truth m q) (Holds m p) (Holds m q) (DecidesBelow-truth m serial p) (DecidesBelow-truth m serial q) s h
DecidesBelow-truth m serial (ER p q) s h = ER_decides m serial (truth m p) (truth m q) (Holds m p) (Holds m q) (DecidesBelow-truth m serial p) (DecidesBelow-truth m serial q) s h
DecidesBelow-truth m serial (AR p q) s h = AR_decides m serial (truth m p) (truth m q) (Holds m p) (Holds m q) (DecidesBelow-truth m serial p) (DecidesBelow-truth m serial q) s h

pub Dec-Holds : (m : Model) → IsSerial m → (φ : Formula) (s : ℕ) → s < m.count → Dec (Holds m φ s)
Dec-Holds m serial φ s h =
    let d = DecidesBelow-truth m serial φ s h in
    ⊎_elim
    (λ e. yes (d.0 e))
    (λ e. no (λ r. both_ways (truth m φ s) e (d.1 r)))
    (cases_Bool (truth m φ s))

pub form_rounds_bounded : (m : Model) (φ : Formula) → form_rounds m φ ≤ suc m.count
unfolding form_rounds
form_rounds_bounded m verum = omega arith
form_rounds_bounded m falsum = omega arith
form_rounds_bounded m (atom a) = omega arith
form_rounds_bounded m (absent a) = omega arith
form_rounds_bounded m (both p q) = omega arith
form_rounds_bounded m (either p q) = omega arith
form_rounds_bounded m (EX p) = omega arith
form_rounds_bounded m (AX p) = omega arith
form_rounds_bounded m (EU p q) =
    let p₁ = truth m p in let q₁ = truth m q in
    (rounds_settle m.count (until_round (some_successor m) p₁ q₁) (Successors.rounds_are_monotone m p₁ q₁).EU_round false).bounded
form_rounds_bounded m (AU p q) =
    let p₁ = truth m p in let q₁ = truth m q in
    (rounds_settle m.count (until_round (all_successors m) p₁ q₁) (Successors.rounds_are_monotone m p₁ q₁).AU_round false).bounded
form_rounds_bounded m (ER p q) =
    let p₁ = truth m p in let q₁ = truth m q in
    (rounds_settle m.count (release_round (some_successor m) p₁ q₁) (Successors.rounds_are_monotone m p₁ q₁).ER_round true).bounded
form_rounds_bounded m (AR p q) =
    let p₁ = truth m p in let q₁ = truth m q in
    (rounds_settle m.count (release_round (all_successors m) p₁ q₁) (Successors.rounds_are_monotone m p₁ q₁).AR_round true).bounded
