-- On a finite model it is decided whether some state meets a set within so many rounds of an until, so there is a least number of rounds.
use Rattle.std.proofs.Common.{◌≡◌, ℕ, zero, suc, ◌<◌, ◌≤◌, true, ◌⊎◌, length, sym, subst, inl, inr, le_refl, arith}
use mathlib.Core.Bool.{Bool-discrete}
use Rattle.std.proofs.lemmas.List.{get_or_past}
use Rattle.std.proofs.lemmas.Bool.{cases_lt, cases_order}
use Rattle.ctl.specs.Model.{Model, IsSerial}
use Rattle.ctl.specs.Meaning.{Holds}
use Rattle.ctl.proofs.Truth.{Dec-Holds}
use Rattle.forms.specs.Sets.{member}
use Rattle.forms.specs.declared.form.Quantifier.{Quantifier}
use Rattle.forms.specs.declared.form.Quantifier.TheVariants.{Exists, Every}
use Rattle.forms.specs.declared.form.Form.{Form}
use Rattle.forms.specs.declared.form.Form.TheVariants.{Truth, Until}
use Rattle.forms.specs.Forms.{Table, IsWellFormed, form}
use Rattle.forms.specs.Meaning.{formula, SetHolds}
use Rattle.tableau.proofs.Untils.{AtSuccessors, Reach}
use Rattle.forms.proofs.Reading.{formula_of}
use Rattle.tableau.proofs.Live.{Has, Within, WithinForm, Beyond}

Dec-× : {A B : Type 0} → Dec A → Dec B → Dec (A × B)
Dec-× (yes a) (yes b) = yes (a, b)
Dec-× (yes a) (no f) = no (λ p. f p.1)
Dec-× (no f) e = no (λ p. f p.0)

Dec-⊎ : {A B : Type 0} → Dec A → Dec B → Dec (A ⊎ B)
Dec-⊎ (yes a) e = yes (inl a)
Dec-⊎ (no f) (yes b) = yes (inr b)
Dec-⊎ {A} {B} (no f) (no g) = no neither
  where
    neither : A ⊎ B → ⊥
    neither (inl a) = f a
    neither (inr b) = g b

Dec-→ : {A B : Type 0} → Dec A → Dec B → Dec (A → B)
Dec-→ (yes a) (yes b) = yes (λ _. b)
Dec-→ (yes a) (no f) = no (λ h. f (h a))
Dec-→ (no f) e = yes (λ a. absurd (f a))

Dec_map : {A B : Type 0} → (A → B) → (B → A) → Dec A → Dec B
Dec_map f g (yes a) = yes (f a)
Dec_map f g (no n) = no (λ b. n (g b))

Dec_all : (n : ℕ) (P : ℕ → Type 0) → ((i : ℕ) → i < n → Dec (P i)) → Dec ((i : ℕ) → i < n → P i)
Dec_all zero P d = yes (λ i h. absurd (omega arith))
Dec_all (suc n) P d = Dec_map join (λ h. ((λ i k. h i (omega arith)), h n (le_refl (suc n)))) (Dec-× (Dec_all n P (λ i h. d i (omega arith))) (d n (le_refl (suc n))))
  where
    last : (i : ℕ) → P n → (i ≡ n) ⊎ ((i < n) ⊎ (n < i)) → ((i : ℕ) → i < n → P i) → i < suc n → P i
    last i p (inl e) before h = subst P (sym e) p
    last i p (inr (inl l)) before h = before i l
    last i p (inr (inr l)) before h = absurd (omega arith)

    join : ((i : ℕ) → i < n → P i) × P n → (i : ℕ) → i < suc n → P i
    join p i h = last i p.1 (cases_order i n) p.0 h

Dec_some : (n : ℕ) (P : ℕ → Type 0) → ((i : ℕ) → i < n → Dec (P i)) → Dec ((i : ℕ) × ((i < n) × P i))
Dec_some zero P d = no (λ p. absurd (let h : p.0 < 0 = p.1.0 in omega arith))
Dec_some (suc n) P d = Dec_map out back (Dec-⊎ (Dec_some n P (λ i h. d i (omega arith))) (d n (le_refl (suc n))))
  where
    out : ((i : ℕ) × ((i < n) × P i)) ⊎ P n → (i : ℕ) × ((i < suc n) × P i)
    out (inl p) = let h : p.0 < n = p.1.0 in (p.0, (omega arith, p.1.1))
    out (inr p) = (n, (le_refl (suc n), p))

    sort : (i : ℕ) → i < suc n → P i → (i ≡ n) ⊎ ((i < n) ⊎ (n < i)) → ((i : ℕ) × ((i < n) × P i)) ⊎ P n
    sort i h p (inl e) = inr (subst P e p)
    sort i h p (inr (inl l)) = inl (i, (l, p))
    sort i h p (inr (inr l)) = absurd (omega arith)

    back : (i : ℕ) × ((i < suc n) × P i) → ((i : ℕ) × ((i < n) × P i)) ⊎ P n
    back p = sort p.0 p.1.0 p.1.1 (cases_order p.0 n)

module _ (T : Table) (w : IsWellFormed T) (m : Model) (serial : IsSerial m) where
  Dec-AtSuccessors : (q : Quantifier) (P : ℕ → Type 0) → ((t : ℕ) → t < m.count → Dec (P t)) → (s : ℕ) → Dec (AtSuccessors m q P s)
  Dec-AtSuccessors Exists P d s =
      Dec_map (λ p. (p.0, p.1.1)) (λ p. (p.0, ((serial.within s p.0 p.1.0).1, p.1)))
      (Dec_some m.count (λ t. (m.leads s t ≡ true) × P t) (λ t h. Dec-× (Bool-discrete (m.leads s t) true) (d t h)))
  Dec-AtSuccessors Every P d s =
      Dec_map (λ h t l. h t (serial.within s t l).1 l) (λ h t b l. h t l)
      (Dec_all m.count (λ t. m.leads s t ≡ true → P t) (λ t h. Dec-→ (Bool-discrete (m.leads s t) true) (d t h)))

  dec_has : (f s : ℕ) → s < m.count → Dec (Has T m f s)
  dec_has f s h = Dec-Holds m serial (formula T f) s h

  Dec-Reach : (q : Quantifier) (i j k s : ℕ) → s < m.count → Dec (Reach m q (Has T m i) (Has T m j) k s)
  Dec-Reach q i j zero s h = no (λ e. e)
  Dec-Reach q i j (suc k) s h =
      Dec-⊎ (dec_has j s h) (Dec-× (dec_has i s h) (Dec-AtSuccessors q (Reach m q (Has T m i) (Has T m j) k) (λ t l. Dec-Reach q i j k t l) s))

  Dec-WithinForm : (x : Form) (k s : ℕ) → s < m.count → Dec (WithinForm T m x k s)
  Dec-WithinForm (Until q i j) k s h = Dec-Reach q i j k s h
  Dec-WithinForm _ k s h = no (λ e. e)

  -- what is past the table holds everywhere
  past : (f s : ℕ) → length T ≤ f → Has T m f s
  unfolding Holds
  past f s h = subst (λ φ. Holds m φ s) (sym (formula_of T w f (get_or_past T f Truth h))) tt

  Dec-SetHolds : (set s : ℕ) → s < m.count → Dec (SetHolds T m set s)
  Dec-SetHolds set s h =
      Dec_map (λ d. (h, λ f. all d f (cases_lt f (length T)))) (λ p f l. p.1 f)
      (Dec_all (length T) (λ f. member set f ≡ true → Has T m f s) (λ f l. Dec-→ (Bool-discrete (member set f) true) (dec_has f s h)))
    where
      all : ((f : ℕ) → f < length T → member set f ≡ true → Has T m f s) → (f : ℕ) → (f < length T) ⊎ (length T ≤ f) → member set f ≡ true → Has T m f s
      all d f (inl l) b = d f l b
      all d f (inr l) b = past f s l

  -- some state that meets the set is in the k-th iterate of u
  Near : ℕ → ℕ → ℕ → Type 0
  Near set u k = (s : ℕ) × (SetHolds T m set s × Within T m u k s)

  Dec-Near : (set u k : ℕ) → Dec (Near set u k)
  unfolding Near
  Dec-Near set u k =
      Dec_map (λ p. (p.0, p.1.1)) (λ p. (p.0, (p.1.0.0, p.1)))
      (Dec_some m.count (λ s. SetHolds T m set s × Within T m u k s) (λ s h. Dec-× (Dec-SetHolds set s h) (Dec-WithinForm (form T u) k s h)))

  none_yet : (x : Form) (s : ℕ) → WithinForm T m x zero s → ⊥
  none_yet (Until q i j) s e = e
  none_yet _ s e = e

  -- a state that meets the set in the fewest rounds
  pub least : (set u k s : ℕ) → SetHolds T m set s → Within T m u k s
      → (j : ℕ) × ((suc j ≤ k) × (((t : ℕ) × (SetHolds T m set t × Within T m u (suc j) t)) × Beyond T m set u j))
  unfolding Near
  least set u zero s h near = absurd (none_yet (form T u) s near)
  least set u (suc k) s h near = by_cases (Dec-Near set u k) (λ t p n. least set u k t p n)
    where
      Least : ℕ → Type 0
      Least n = (j : ℕ) × ((suc j ≤ n) × (((t : ℕ) × (SetHolds T m set t × Within T m u (suc j) t)) × Beyond T m set u j))

      by_cases : Dec (Near set u k) → ((t : ℕ) → SetHolds T m set t → Within T m u k t → Least k) → Least (suc k)
      by_cases (yes p) ih = let r : Least k = ih p.0 p.1.0 p.1.1 in let l : suc r.0 ≤ k = r.1.0 in (r.0, (omega arith, r.1.1))
      by_cases (no f) ih = (k, (le_refl (suc k), ((s, (h, near)), λ t p n. f (t, (p, n)))))
