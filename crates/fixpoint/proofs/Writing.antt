-- A set written one index further.
use Rattle.std.proofs.Common.{◌≡◌, ℕ, ◌+◌, ◌<◌, Bool, sym, subst, ⊎_elim, arith}
use Rattle.std.proofs.lemmas.Bool.{cases_eq}
use Rattle.ctl.specs.Rounds.{Subset}
use Rattle.fixpoint.specs.Sets.{put_at}
use Rattle.fixpoint.proofs.Overlays.{put_at_same, put_at_other}

-- what holds of each answer that is written below i, and of the one written at i
pub written_more : (P : ℕ → Bool → Type 0) (i : ℕ) (old new : Subset) (b : Bool) → new ≡ put_at old i b
    → ((k : ℕ) → k < i → P k (old k)) → P i b → (k : ℕ) → k < i + 1 → P k (new k)
written_more P i old new b to before here k h =
    ⊎_elim
    (λ at. subst (λ (x : Subset). P k (x k)) (sym to) (subst (λ (j : ℕ). P j (put_at old i b j)) (sym at) (subst (P i) (sym (put_at_same old i b)) here)))
    (λ off. subst (λ (x : Subset). P k (x k)) (sym to) (subst (P k) (sym (put_at_other old i k b off)) (before k (omega (arith, off)))))
    (cases_eq k i)
