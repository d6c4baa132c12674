-- What is in a set after an insertion or a removal, and what containment says.
use Rattle.std.proofs.Common.{◌≡◌, ℕ, zero, suc, ◌+◌, ◌-◌, ◌/◌, ◌%◌, ◌^◌, ◌<◌, Bool, true, false, not, ◌&&◌, ◌||◌, eqb, ◌⊎◌, sym, refl, ap, ◌∙◌, subst, inl, inr, pow-suc, arith}
use native.Mathlib.Nat.{div_self, div-eq_of_lt, mul-mod_left}
use lib.Bits.{bit_and, bit_or, bit_xor}
use Rattle.std.proofs.lemmas.Nat.{and_shr, or_shr, xor_shr, and_mod, or_mod, xor_mod, shl-shr, shr-shr, shr_below, and_le_l, pow-add, pow_pos, pow_below, mod_below}
use Rattle.std.proofs.lemmas.Bool.{eqb-true, eq-eqb, ne_eqb, cases_order, or_cases, and_parts, both_ways, true≢false, false≢true}
use Rattle.tableau.specs.Statements.{SetLaws}
use Rattle.forms.specs.Sets.{member, set_insert, set_remove, is_subset}

-- the last bit of a number
bit : ℕ → Bool
bit n = eqb (n % 2) 1

-- a rule for the last bits of two numbers below 2, computed at the four pairs
at_bits : (P : ℕ → ℕ → Type 0) → P 0 0 → P 0 1 → P 1 0 → P 1 1 → (a b : ℕ) → a < 2 → b < 2 → P a b
at_bits P p q r s zero zero h k = p
at_bits P p q r s zero (suc zero) h k = q
at_bits P p q r s (suc zero) zero h k = r
at_bits P p q r s (suc zero) (suc zero) h k = s
at_bits P p q r s zero (suc (suc b)) h k = absurd (omega arith)
at_bits P p q r s (suc zero) (suc (suc b)) h k = absurd (omega arith)
at_bits P p q r s (suc (suc a)) b h k = absurd (omega arith)

bit-bit_or : (a b : ℕ) → bit (bit_or a b) ≡ (bit a || bit b)
unfolding bit
bit-bit_or a b =
    ap (λ n. eqb n 1) (or_mod a b 1) ∙ at_bits (λ x y. eqb (bit_or x y) 1 ≡ (eqb x 1 || eqb y 1)) refl refl refl refl (a % 2) (b % 2) (mod_below a 2 (omega arith)) (mod_below b 2 (omega arith))

bit-bit_and : (a b : ℕ) → bit (bit_and a b) ≡ (bit a && bit b)
unfolding bit
bit-bit_and a b =
    ap (λ n. eqb n 1) (and_mod a b 1) ∙ at_bits (λ x y. eqb (bit_and x y) 1 ≡ (eqb x 1 && eqb y 1)) refl refl refl refl (a % 2) (b % 2) (mod_below a 2 (omega arith)) (mod_below b 2 (omega arith))

bit_remove : (a b : ℕ) → bit (bit_xor a (bit_and a b)) ≡ (bit a && not (bit b))
unfolding bit
bit_remove a b =
    ap (λ n. eqb n 1) (xor_mod a (bit_and a b) 1 ∙ ap (λ n. bit_xor (a % 2) n) (and_mod a b 1))
    ∙ at_bits (λ x y. eqb (bit_xor x (bit_and x y)) 1 ≡ (eqb x 1 && not (eqb y 1))) refl refl refl refl (a % 2) (b % 2) (mod_below a 2 (omega arith)) (mod_below b 2 (omega arith))

-- the number whose only form is f
bit_power : (f g : ℕ) → bit (2 ^ f / 2 ^ g) ≡ eqb f g
unfolding bit
bit_power f g = by_cases (cases_order f g)
  where
    halved : (d : ℕ) → f ≡ suc d + g → 2 ^ f / 2 ^ g % 2 ≡ 0
    halved d e =
        ap (λ n. 2 ^ n / 2 ^ g % 2) e ∙ ap (λ n. n / 2 ^ g % 2) (pow-add 2 (suc d) g) ∙ ap (λ n. n % 2) (shl-shr (2 ^ suc d) g) ∙ ap (λ n. n % 2) (pow-suc 2 d)
        ∙ mul-mod_left (2 ^ d) 2

    by_cases : (f ≡ g) ⊎ ((f < g) ⊎ (g < f)) → eqb (2 ^ f / 2 ^ g % 2) 1 ≡ eqb f g
    by_cases (inl e) = ap (λ n. eqb (n % 2) 1) (ap (λ n. 2 ^ n / 2 ^ g) e ∙ div_self (pow_pos g)) ∙ sym (eq-eqb f g e)
    by_cases (inr (inl h)) = ap (λ n. eqb (n % 2) 1) (div-eq_of_lt (pow_below f g h)) ∙ sym (ne_eqb f g (λ e. omega arith))
    by_cases (inr (inr h)) = ap (λ n. eqb n 1) (halved (f - suc g) (omega arith)) ∙ sym (ne_eqb f g (λ e. omega arith))

pub member-set_insert : (s f g : ℕ) → member (set_insert s f) g ≡ (member s g || eqb f g)
unfolding set_insert bit
member-set_insert s f g = ap bit (or_shr s (2 ^ f) g) ∙ bit-bit_or (s / 2 ^ g) (2 ^ f / 2 ^ g) ∙ ap (λ b. member s g || b) (bit_power f g)

pub member-set_remove : (s f g : ℕ) → member (set_remove s f) g ≡ (member s g && not (eqb f g))
unfolding set_remove bit
member-set_remove s f g =
    ap bit (xor_shr s (bit_and s (2 ^ f)) g ∙ ap (λ n. bit_xor (s / 2 ^ g) n) (and_shr s (2 ^ f) g)) ∙ bit_remove (s / 2 ^ g) (2 ^ f / 2 ^ g)
    ∙ ap (λ b. member s g && not b) (bit_power f g)

pub inserted : (s f g : ℕ) → member (set_insert s f) g ≡ true → (member s g ≡ true) ⊎ (g ≡ f)
inserted s f g e = by_cases (or_cases (member s g) (eqb f g) (sym (member-set_insert s f g) ∙ e))
  where
    by_cases : (member s g ≡ true) ⊎ (eqb f g ≡ true) → (member s g ≡ true) ⊎ (g ≡ f)
    by_cases (inl h) = inl h
    by_cases (inr h) = inr (sym (eqb-true f g h))

pub kept : (s f g : ℕ) → member (set_remove s f) g ≡ true → member s g ≡ true
kept s f g e = (and_parts (member s g) (not (eqb f g)) (sym (member-set_remove s f g) ∙ e)).0

pub member-bit_and : (r s f : ℕ) → member (bit_and r s) f ≡ (member r f && member s f)
unfolding bit
member-bit_and r s f = ap bit (and_shr r s f) ∙ bit-bit_and (r / 2 ^ f) (s / 2 ^ f)

pub member-is_subset : (r s f : ℕ) → is_subset r s ≡ true → member r f ≡ true → member s f ≡ true
unfolding is_subset bit
member-is_subset r s f c e =
    (and_parts (member r f) (member s f) (sym (bit-bit_and (r / 2 ^ f) (s / 2 ^ f)) ∙ ap bit (sym (and_shr r s f)) ∙ ap (λ n. member n f) (eqb-true (bit_and r s) r c) ∙ e)).1

pub member-zero : (f : ℕ) → member 0 f ≡ true → ⊥
member-zero f e = both_ways (member 0 f) (ap (λ n. eqb (n % 2) 1) (div-eq_of_lt (pow_pos f))) e

below_power : (n : ℕ) → n < 2 ^ n
below_power zero = pow_pos 0
below_power (suc n) = let ih : n < 2 ^ n = below_power n in omega (arith, pow-suc 2 n)

-- numbers with the same bits are the same
same_bits : (n a b : ℕ) → a < 2 ^ n → b < 2 ^ n → ((f : ℕ) → member a f ≡ member b f) → a ≡ b
same_bits zero a b h k same = omega arith
same_bits (suc n) a b h k same =
    let halves : a / 2 ≡ b / 2 = same_bits n (a / 2) (b / 2) (half a h) (half b k) (λ f. shifted a f ∙ same (1 + f) ∙ sym (shifted b f)) in
    let ends : a % 2 ≡ b % 2 = last (a % 2) (b % 2) (mod_below a 2 (omega arith)) (mod_below b 2 (omega arith)) (whole a ∙ same 0 ∙ sym (whole b)) in
    omega arith
  where
    half : (x : ℕ) → x < 2 ^ suc n → x / 2 < 2 ^ n
    half x l = shr_below x n 1 (subst (λ e. x < 2 ^ e) (omega arith) l)

    shifted : (x f : ℕ) → member (x / 2) f ≡ member x (1 + f)
    shifted x f = ap (λ z. eqb (z % 2) 1) (shr-shr x 1 f)

    whole : (x : ℕ) → eqb (x % 2) 1 ≡ member x 0
    whole x = ap (λ z. eqb (z % 2) 1) (omega arith)

    last : (x y : ℕ) → x < 2 → y < 2 → eqb x 1 ≡ eqb y 1 → x ≡ y
    last = at_bits (λ x y. eqb x 1 ≡ eqb y 1 → x ≡ y) (λ _. refl) (λ e. absurd (false≢true e)) (λ e. absurd (true≢false e)) (λ _. refl)

pub is_subset-member : (r s : ℕ) → ((f : ℕ) → member r f ≡ true → member s f ≡ true) → is_subset r s ≡ true
unfolding is_subset bit
is_subset-member r s h =
    eq-eqb (bit_and r s) r (same_bits r (bit_and r s) r (omega (arith, and_le_l r s, below_power r)) (below_power r)
    (λ f. ap bit (and_shr r s f) ∙ bit-bit_and (r / 2 ^ f) (s / 2 ^ f) ∙ both (member r f) (member s f) (h f)))
  where
    both : (x y : Bool) → (x ≡ true → y ≡ true) → (x && y) ≡ x
    both true y k = k refl
    both false y k = refl

pub set_laws : SetLaws
set_laws = (member-set_insert, member-set_remove, λ r s. ((λ c f b. member-is_subset r s f c b), is_subset-member r s))
