-- Until by rounds: the states that reach their end within so many rounds are those where the until holds.
use Rattle.std.proofs.Common.{◌≡◌, ℕ, zero, suc, ◌<◌, true, false, ◌⊎◌, ◌↔◌, refl, inl, inr, ⊎_elim}
use Rattle.std.proofs.lemmas.Bool.{both_ways}
use Rattle.ctl.specs.Model.{Model, IsSerial, Path}
use Rattle.ctl.specs.Formula.{Formula, EU, AU}
use Rattle.ctl.specs.Meaning.{Until, Holds}
use Rattle.ctl.specs.Rounds.{Subset, iterate, limit}
use Rattle.ctl.specs.Truth.{some_successor, all_successors, until_round, truth, DecidesBelow}
use Rattle.ctl.proofs.Truth.{DecidesBelow-truth}
use Rattle.ctl.proofs.Successors
use Rattle.ctl.proofs.Paths
use Rattle.forms.specs.declared.form.Quantifier.{Quantifier}
use Rattle.forms.specs.declared.form.Quantifier.TheVariants.{Exists, Every}

-- P at some successor of s, or at all of them
abbrev pub AtSuccessors : Model → Quantifier → (ℕ → Type 0) → ℕ → Type 0
AtSuccessors m Exists P s = (t : ℕ) × ((m.leads s t ≡ true) × P t)
AtSuccessors m Every P s = (t : ℕ) → m.leads s t ≡ true → P t

-- s is in the k-th iterate of the round of P until Q, which starts from no state
abbrev pub Reach : Model → Quantifier → (P Q : ℕ → Type 0) → ℕ → ℕ → Type 0
Reach m q P Q zero s = ⊥
Reach m q P Q (suc k) s = Q s ⊎ (P s × AtSuccessors m q (Reach m q P Q k) s)

module _ (m : Model) (serial : IsSerial m) (P Q : ℕ → Type 0) where
  -- ---- within k rounds there is a path, or all are such

  Reach_path : (k s : ℕ) → s < m.count → Reach m Exists P Q k s → (x : Path m s) × Until P Q x.at
  Reach_path zero s h r = absurd r
  Reach_path (suc k) s h (inl now) = let x = Paths.any_path m serial s h in (x, Paths.Until_now P Q x.at (rw x.starts now))
  Reach_path (suc k) s h (inr r) =
      let t = r.1.0 in
      let y = Reach_path k t (serial.within s t r.1.1.0).1 r.1.1.1 in
      let x = Paths.prepend {m = m} s r.1.1.0 y.0 in
      (x, Paths.Until_later P Q x.at r.0 y.1)

  Reach_paths : (k s : ℕ) → Reach m Every P Q k s → (x : Path m s) → Until P Q x.at
  Reach_paths zero s r x = absurd r
  Reach_paths (suc k) s (inl now) x = Paths.Until_now P Q x.at (rw x.starts now)
  Reach_paths (suc k) s (inr r) x =
      Paths.Until_later P Q x.at (rw x.starts r.0) (Reach_paths k (x.at 1) (r.1 (x.at 1) (Paths.first_step x)) (Paths.rest x))

  module _ (p q : Subset) (decides_p : DecidesBelow m.count p P) (decides_q : DecidesBelow m.count q Q) where
    -- ---- the k-th iterate is within k rounds

    iterate_some : (k s : ℕ) → s < m.count → iterate (until_round (some_successor m) p q) false k s ≡ true → Reach m Exists P Q k s
    unfolding iterate
    iterate_some zero s h e = both_ways false refl e
    iterate_some (suc k) s h e =
        let set = iterate (until_round (some_successor m) p q) false k in
        ⊎_elim
        (λ now. inl ((decides_q s h).0 now))
        (λ on. let r = Successors.some_successor_found m set s on.1 in
        inr ((decides_p s h).0 on.0, (r.0, (r.1.1.0, iterate_some k r.0 r.1.0 r.1.1.1))))
        (Successors.until_round_parts (some_successor m) p q set s e)

    iterate_every : (k s : ℕ) → s < m.count → iterate (until_round (all_successors m) p q) false k s ≡ true → Reach m Every P Q k s
    unfolding iterate
    iterate_every zero s h e = both_ways false refl e
    iterate_every (suc k) s h e =
        let set = iterate (until_round (all_successors m) p q) false k in
        ⊎_elim
        (λ now. inl ((decides_q s h).0 now))
        (λ on. inr (
          (decides_p s h).0 on.0,
          λ t leads.
              let l = (serial.within s t leads).1 in iterate_every k t l (Successors.all_successors_at m set s on.1 t l leads),
        ))
        (Successors.until_round_parts (all_successors m) p q set s e)

module _ (m : Model) (serial : IsSerial m) (φ ψ : Formula) (s : ℕ) (h : s < m.count) where
  pub Holds-exists_until : Holds m (EU φ ψ) s ↔ ((k : ℕ) × Reach m Exists (Holds m φ) (Holds m ψ) k s)
  unfolding Holds truth limit
  Holds-exists_until = (
    λ r. (m.count, iterate_some m serial (Holds m φ) (Holds m ψ) (truth m φ) (truth m ψ) (DecidesBelow-truth m serial φ) (DecidesBelow-truth m serial ψ) m.count s h ((DecidesBelow-truth m serial (EU φ ψ) s h).1 r)),
    λ r. Reach_path m serial (Holds m φ) (Holds m ψ) r.0 s h r.1,
  )

  pub Holds-every_until : Holds m (AU φ ψ) s ↔ ((k : ℕ) × Reach m Every (Holds m φ) (Holds m ψ) k s)
  unfolding Holds truth limit
  Holds-every_until = (
    λ r. (m.count, iterate_every m serial (Holds m φ) (Holds m ψ) (truth m φ) (truth m ψ) (DecidesBelow-truth m serial φ) (DecidesBelow-truth m serial ψ) m.count s h ((DecidesBelow-truth m serial (AU φ ψ) s h).1 r)),
    λ r. Reach_paths m serial (Holds m φ) (Holds m ψ) r.0 s r.1,
  )
