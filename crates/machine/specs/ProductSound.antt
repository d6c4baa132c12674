-- Two machines side by side: under a rule that gives every pair a successor they are a machine again, whose states are the pairs.
use Rattle.std.specs.Prelude.{◌≡◌, ℕ, ◌*◌, ◌/◌, ◌%◌, ◌^◌, ◌<◌, ◌≤◌, Bool, true, cond, ◌⊎◌, nat_lt, refl}
use Rattle.std.proofs.Common.{sym, subst, ◌∙◌, inl, inr, ⊎_elim, mul-zero, div-add-mod', arith}
use Rattle.std.proofs.lemmas.Nat.{mul-le, mul-add-lt, div-mul-add, mod-mul-add, div_below, mod_below, or_lt, pow_pos}
use Rattle.std.proofs.lemmas.Bool.{and_parts, and_from, ltb-true, lt-ltb, le-ltb, cond-false, cond-true, cond_both, leb-true, le-leb, cases_lt}
use Rattle.ctl.specs.Model.{Model, IsSerial, IsTotal}
use Rattle.machine.specs.Interface.{IsSoundMachine}
use Rattle.machine.specs.Product.{grid, synchronous_rule, is_within_limit, product, pair, Sides, IsPairwise}

-- what a rule owes: a successor of every pair
abbrev pub Follows : (a b : Model) (rule : ℕ → ℕ → ℕ → ℕ → Bool) → Type 0
Follows a b rule = (p q : ℕ) → Sides a b p q → (r : ℕ) × ((t : ℕ) × (Sides a b r t × (rule p q r t ≡ true)))

module _ (a b : Model) (rule : ℕ → ℕ → ℕ → ℕ → Bool) where
  pair_below : (p q : ℕ) → Sides a b p q → pair b p q < a.count * b.count
  pair_below p q h = omega (arith, mul-add-lt p b.count q a.count h.left h.right)

  -- (p, q) leads to (r, t) by the rule
  pair_leads : (p q r t : ℕ) → Sides a b p q → Sides a b r t → (grid a b rule).leads (pair b p q) (pair b r t) ≡ rule p q r t
  pair_leads p q r t from to =
      rw (
        lt-ltb _ _ (pair_below p q from),
        lt-ltb _ _ (pair_below r t to),
        div-mul-add p b.count q from.right,
        mod-mul-add p b.count q from.right,
        div-mul-add r b.count t to.right,
        mod-mul-add r b.count t to.right,
      ) refl

  -- the sides of a state
  sides : 1 ≤ b.count → (s : ℕ) → s < a.count * b.count → Sides a b (s / b.count) (s % b.count)
  sides some s h = record { left = div_below s b.count a.count some h; right = mod_below s b.count some }

  pub IsTotal-grid : IsTotal a → IsTotal b → Follows a b rule → IsTotal (grid a b rule)
  IsTotal-grid left right follows = record {
    serial = record {
      inhabited = mul-le 1 1 a.count b.count left.serial.inhabited right.serial.inhabited;
      successor = λ s h.
          let f = follows (s / b.count) (s % b.count) (sides right.serial.inhabited s h) in
          let to = f.1.1.0 in
          let below = pair_below f.0 f.1.0 to in (
            pair b f.0 f.1.0,
            (
              below,
              and_from _ _ (lt-ltb _ _ h)
                  (and_from _ _ (lt-ltb _ _ below)
                  (rw (div-mul-add f.0 b.count f.1.0 to.right, mod-mul-add f.0 b.count f.1.0 to.right) f.1.1.1)),
            ),
          );
      within = λ s t e.
          let u = and_parts _ _ e in
          (ltb-true _ _ u.0, ltb-true _ _ (and_parts _ _ u.1).0);
    };
    blank = λ s h. cond-false (nat_lt s (a.count * b.count)) _ _ (le-ltb _ _ h);
  }

  -- the grid of two machines within the limit, the left one alone over it
  pub IsSoundMachine_limited : IsSoundMachine a → IsSoundMachine b → Follows a b rule → IsSoundMachine (cond (is_within_limit a b) (grid a b rule) a)
  IsSoundMachine_limited left right follows =
      cond_both (is_within_limit a b) (grid a b rule) a IsSoundMachine
      (λ e. record {
        total = IsTotal-grid left.total right.total follows;
        bounded = leb-true _ _ e;
        fits = λ s. cond_both (nat_lt s (a.count * b.count)) _ 0 (λ x. x < 2 ^ 32)
            (λ _. or_lt 32 _ _ (left.fits (s / b.count)) (right.fits (s % b.count))) (λ _. pow_pos 32);
      })
      (λ _. left)

module _ (a b : Model) where
  Follows-synchronous_rule : IsSerial a → IsSerial b → Follows a b (synchronous_rule a b)
  Follows-synchronous_rule left right p q h =
      let f = left.successor p h.left in
      let g = right.successor q h.right in
      (f.0, (g.0, (record { left = f.1.0; right = g.1.0 }, and_from _ _ f.1.1 g.1.1)))

  pub IsSoundMachine-product : IsSoundMachine a → IsSoundMachine b → IsSoundMachine (product a b)
  IsSoundMachine-product left right =
      IsSoundMachine_limited a b (synchronous_rule a b) left right (Follows-synchronous_rule left.total.serial right.total.serial)

  -- a grid with a state has a state on the right
  right_inhabited : (s : ℕ) → s < a.count * b.count → 1 ≤ b.count
  right_inhabited s h =
      ⊎_elim (λ none. absurd (below_none b.count none h)) (λ some. some) (zero_or_more b.count)
    where
      below_none : (n : ℕ) → n ≡ 0 → s < a.count * n → ⊥
      below_none n e k = let none : a.count * n ≡ 0 = rw (e, mul-zero) refl in omega arith

      zero_or_more : (n : ℕ) → (n ≡ 0) ⊎ (1 ≤ n)
      zero_or_more n = ⊎_elim (λ h. inl (omega arith)) inr (cases_lt n 1)

  IsPairwise-grid : IsPairwise a b (grid a b (synchronous_rule a b))
  IsPairwise-grid = let rule = synchronous_rule a b in record {
    states = pair_below a b rule;
    no_other = λ s h.
        let some = right_inhabited s h in
        (s / b.count, (s % b.count, (sides a b rule some s h, sym (div-add-mod' s b.count))));
    steps = λ p q r t from to.
        let same = pair_leads a b rule p q r t from to in
        ((λ e. and_parts _ _ (sym same ∙ e)), (λ both. same ∙ and_from _ _ both.0 both.1));
    labels = λ p q h.
        cond-true _ _ _ (lt-ltb _ _ (pair_below a b rule p q h))
        ∙ rw (div-mul-add p b.count q h.right, mod-mul-add p b.count q h.right) refl;
  }

  pub product_is_pairwise : a.count * b.count ≤ 1024 → IsPairwise a b (product a b)
  product_is_pairwise few = subst (IsPairwise a b) (sym (cond-true (is_within_limit a b) _ _ (le-leb _ _ few))) IsPairwise-grid
