-- A release holds at s only where its second operand does, and then its first does too or the release holds at a successor (some or all of them).
use Rattle.std.proofs.Common.{ℕ, ◌<◌, ◌⊎◌, subst, inl, inr}
use Rattle.ctl.specs.Model.{Model, IsSerial}
use Rattle.ctl.specs.Formula.{Formula, EX, AX, ER, AR}
use Rattle.ctl.specs.Meaning.{Holds}
use Rattle.ctl.proofs.Paths.{any_path, prepend, rest, first_step, Release_now, Release_later}
use Rattle.ctl.proofs.Truth.{Dec-Holds}

module _ (m : Model) (serial : IsSerial m) (φ ψ : Formula) (s : ℕ) (l : s < m.count) where
  pub Holds-exists_release : Holds m (ER φ ψ) s → Holds m ψ s × (Holds m φ s ⊎ Holds m (EX (ER φ ψ)) s)
  unfolding Holds
  Holds-exists_release (x, r) = (subst (Holds m ψ) x.starts (Release_now (Holds m φ) (Holds m ψ) x.at r), by_cases (Dec-Holds m serial φ s l))
    where
      by_cases : Dec (Holds m φ s) → Holds m φ s ⊎ Holds m (EX (ER φ ψ)) s
      by_cases (yes h) = inl h
      by_cases (no f) = inr (x.at 1, (first_step x, (rest x, Release_later (Holds m φ) (Holds m ψ) x.at (λ h. f (subst (Holds m φ) x.starts h)) r)))

  pub Holds-every_release : Holds m (AR φ ψ) s → Holds m ψ s × (Holds m φ s ⊎ Holds m (AX (AR φ ψ)) s)
  unfolding Holds
  Holds-every_release h =
      let x = any_path m serial s l in
      (subst (Holds m ψ) x.starts (Release_now (Holds m φ) (Holds m ψ) x.at (h x)), by_cases (Dec-Holds m serial φ s l))
    where
      by_cases : Dec (Holds m φ s) → Holds m φ s ⊎ Holds m (AX (AR φ ψ)) s
      by_cases (yes k) = inl k
      by_cases (no f) = inr (λ t k y. Release_later (Holds m φ) (Holds m ψ) (prepend {m = m} s k y).at f (h (prepend {m = m} s k y)))
