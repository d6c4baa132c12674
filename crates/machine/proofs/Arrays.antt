-- Arrays that are made by a call for each place.
use Rattle.std.proofs.Common.{◌≡◌, ℕ, zero, suc, ◌+◌, ◌<◌, ◌≤◌, List, get_or, sym, ap, ◌∙◌, subst, inl, inr, arith}
use Rattle.std.specs.Array.{IsFromFnResult, IsFromFnResultFrom}
use Rattle.std.specs.Fn.{Called, Mut}
use Rattle.std.proofs.lemmas.Bool.{cases_lt}

-- calls that leave the closure as it was and give h at each place make the list of h
module _ {F B : Type 0} (g : Mut F (ℕ × Unit {0}) B) (f : F) (ys : List B) (d : B) (h : ℕ → B) (m : ℕ) (gives : (k : ℕ) (y : B) (q : F) → k < m → Called g f (k, tt) y q → (q ≡ f) × (y ≡ h k)) where
  made_at : (n i : ℕ) → i + n ≤ m → IsFromFnResultFrom g f ys i n → (k : ℕ) → i ≤ k → k < i + n → get_or ys k d ≡ h k
  made_at zero i fits r k low high = absurd (omega arith)
  made_at (suc n) i fits r k low high =
      let one = gives i r.1 r.0 (omega arith) r.3 in
      elim (cases_lt i k) [
        | inl later ↦ made_at n (i + 1) (omega arith) (subst (λ (q : F). IsFromFnResultFrom g q ys (i + 1) n) one.0 r.4) k (omega arith) (omega arith)
        | inr here ↦ (let same : k ≡ i = omega arith in ap (λ (j : ℕ). get_or ys j d) same ∙ r.2.1 d ∙ one.1 ∙ ap h (sym same))
      ]

  pub from_fn_at : IsFromFnResult g f ys m → (k : ℕ) → k < m → get_or ys k d ≡ h k
  from_fn_at r k below = made_at m 0 (omega arith) r.each k (omega arith) (omega arith)
