-- The set after step 7, the form that the step names apart: just the operands of the forms of all successors in the goal.
use Rattle.std.proofs.Common.{◌≡◌, ℕ, zero, suc, ◌+◌, Bool, true, eqb, ◌⊎◌, List, [], ◌∷◌, get_or, sym, refl, ap, ◌∙◌, subst, ap₂, inl, inr, arith}
use Rattle.std.proofs.lemmas.Bool.{eq-eqb, or_left, or_right}
use Rattle.forms.specs.Sets.{member}
use Rattle.forms.specs.declared.form.Quantifier.TheVariants.{Every}
use Rattle.forms.specs.declared.form.Form.{Form}
use Rattle.forms.specs.declared.form.Form.TheVariants.{Truth, Next}
use Rattle.forms.specs.Forms.{form}
use Rattle.tableau.specs.Nexts.{join_every, every_operands}
use Rattle.tableau.specs.Statements.{EveryOperandsAreExact}
use Rattle.tableau.proofs.SetLaws.{member-set_insert, inserted, member-zero}

-- a member of the set after step 7 is the operand of a form of all successors in the set before
member-join_every : (x : Form) (b : Bool) (r g : ℕ) → member (join_every x b r) g ≡ true → (member r g ≡ true) ⊎ ((b ≡ true) × (x ≡ Next Every g))
member-join_every (Next Every i) true r g h = by_cases (inserted r i g h)
  where
    by_cases : (member r g ≡ true) ⊎ (g ≡ i) → (member r g ≡ true) ⊎ ((true ≡ true) × (Next Every i ≡ Next Every g))
    by_cases (inl e) = inl e
    by_cases (inr e) = inr (refl, ap (Next Every) (sym e))
member-join_every _ b r g h = inl h

pub member-every_operands : (L : List Form) (n s g : ℕ) → member (every_operands L n s) g ≡ true → (y : ℕ) × ((member s (n + y) ≡ true) × (get_or L y Truth ≡ Next Every g))
unfolding every_operands
member-every_operands [] n s g h = absurd (member-zero g h)
member-every_operands (x ∷ rest) n s g h = by_cases (member-join_every x (member s n) (every_operands rest (suc n) s) g h) (λ k. member-every_operands rest (suc n) s g k)
  where
    Found : Type 0
    Found = (y : ℕ) × ((member s (n + y) ≡ true) × (get_or (x ∷ rest) y Truth ≡ Next Every g))

    by_cases : (member (every_operands rest (suc n) s) g ≡ true) ⊎ ((member s n ≡ true) × (x ≡ Next Every g))
        → (member (every_operands rest (suc n) s) g ≡ true → (y : ℕ) × ((member s (suc n + y) ≡ true) × (get_or rest y Truth ≡ Next Every g))) → Found
    by_cases (inl k) ih =
        let r : (y : ℕ) × ((member s (suc n + y) ≡ true) × (get_or rest y Truth ≡ Next Every g)) = ih k in
        let e : suc n + r.0 ≡ n + suc r.0 = omega arith in
        (suc r.0, (subst (λ y. member s y ≡ true) e r.1.0, r.1.1))
    by_cases (inr p) ih = let e : n ≡ n + 0 = omega arith in (0, (subst (λ y. member s y ≡ true) e p.0, p.1))

-- nothing leaves the set when a form joins
still_member : (x : Form) (b : Bool) (r i : ℕ) → member r i ≡ true → member (join_every x b r) i ≡ true
still_member (Next Every j) true r i h = member-set_insert r j i ∙ or_left (member r i) (eqb j i) h
still_member _ b r i h = h

every_operands_member : (L : List Form) (n s i y : ℕ) → member s (n + y) ≡ true → get_or L y Truth ≡ Next Every i → member (every_operands L n s) i ≡ true
unfolding every_operands
every_operands_member [] n s i y h e = cc
every_operands_member (x ∷ L) n s i zero h e =
    let inside : member s n ≡ true = subst (λ k. member s k ≡ true) (omega arith) h in
    let r : ℕ = every_operands L (suc n) s in
    ap (λ z. member z i) (ap₂ (λ y b. join_every y b r) e inside) ∙ member-set_insert r i i ∙ or_right (member r i) (eqb i i) (eq-eqb i i refl)
every_operands_member (x ∷ L) n s i (suc y) h e =
    still_member x (member s n) (every_operands L (suc n) s) i (every_operands_member L (suc n) s i y (subst (λ k. member s k ≡ true) (omega arith) h) e)

pub every_operands_lem : EveryOperandsAreExact
every_operands_lem T s i = (
  λ h. let r : (y : ℕ) × ((member s (0 + y) ≡ true) × (form T y ≡ Next Every i)) = member-every_operands T 0 s i h in (r.0, subst (λ k. member s k ≡ true) (omega arith) r.1.0, r.1.1),
  λ p. every_operands_member T 0 s i p.0 (subst (λ k. member s k ≡ true) (omega arith) p.1) p.2,
)
