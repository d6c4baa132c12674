-- A number with one bit changed.
use Rattle.std.proofs.Common.{◌≡◌, ℕ, ◌+◌, ◌-◌, ◌*◌, ◌/◌, ◌%◌, ◌^◌, ◌<◌, ◌≤◌, Bool, true, false, cond, eqb, sym, refl, ap, ◌∙◌, ap₂, ⊎_elim, add-zero, add_assoc, add_comm, arith, pow-add}
use native.Mathlib.Nat.{div-eq_of_lt}
use Rattle.std.proofs.lemmas.Nat.{pow_pos, shr_split, shr-shr, mod-pow-add, field_of, div-mul-add, mod-mul-add, mod_below, or_shr, or_mod, xor_shr, xor_mod, and_shr, and_mod}
use Rattle.std.proofs.lemmas.Bool.{eqb-true, eqb-false, cases_lt}
use Rattle.std.specs.Int.Bits.{bit_and, bit_or, bit_xor, or_zero_r, xor_zero_r, and_zero_r}
use Rattle.std.proofs.Math.Nat.{mod_self}
use Rattle.std.specs.Int.{bit_at}
use Rattle.std.proofs.lemmas.Nat.Bits.{bit_at_or, bit_at_xor, bit_at_and, bit_at-pow_same, bit_at-lt}
use Rattle.forms.specs.Sets.{member, set_insert, set_remove}
use Rattle.label.specs.Bits.{others, put_bit}

twice : (k : ℕ) → 2 ^ (k + 1) ≡ 2 * 2 ^ k
twice k = pow-add 2 k 1 ∙ omega arith

digit : Bool → ℕ
digit b = cond b 1 0

-- a number of its bits above k, bit k and the bits below
pub of_parts : (h d l k : ℕ) → ℕ
of_parts h d l k = (h * 2 + d) * 2 ^ k + l

module _ (h d l k : ℕ) (small : d < 2) (low : l < 2 ^ k) where
  of_parts_mid : of_parts h d l k / 2 ^ k ≡ h * 2 + d
  unfolding of_parts
  of_parts_mid = div-mul-add (h * 2 + d) (2 ^ k) l low

  parts_low : of_parts h d l k % 2 ^ k ≡ l
  unfolding of_parts
  parts_low = mod-mul-add (h * 2 + d) (2 ^ k) l low

  of_parts_high : of_parts h d l k / 2 ^ (k + 1) ≡ h
  of_parts_high = sym (shr-shr (of_parts h d l k) k 1) ∙ ap (λ (m : ℕ). m / 2) of_parts_mid ∙ div-mul-add h 2 d small

  of_parts_bit : of_parts h d l k / 2 ^ k % 2 ≡ d
  of_parts_bit = ap (λ (m : ℕ). m % 2) of_parts_mid ∙ mod-mul-add h 2 d small

put_bit-of_parts : (w k : ℕ) (b : Bool) → put_bit w k b ≡ of_parts (w / 2 ^ (k + 1)) (digit b) (w % 2 ^ k) k
unfolding of_parts digit
put_bit-of_parts w k true = omega (arith, ap (λ (p : ℕ). w / 2 ^ (k + 1) * p) (twice k))
put_bit-of_parts w k false = omega (arith, ap (λ (p : ℕ). w / 2 ^ (k + 1) * p) (twice k))

digit_small : (b : Bool) → digit b < 2
unfolding digit
digit_small true = omega arith
digit_small false = omega arith

digit_has : (b : Bool) → eqb (digit b) 1 ≡ b
unfolding digit
digit_has true = refl
digit_has false = refl

pub member-put_bit : (w k : ℕ) (b : Bool) → member (put_bit w k b) k ≡ b
member-put_bit w k b =
    let low : w % 2 ^ k < 2 ^ k = mod_below w (2 ^ k) (pow_pos k) in
    ap (λ (v : ℕ). member v k) (put_bit-of_parts w k b)
    ∙ ap (λ (v : ℕ). eqb v 1) (of_parts_bit (w / 2 ^ (k + 1)) (digit b) (w % 2 ^ k) k (digit_small b) low)
    ∙ digit_has b

-- the bits but k stay
module _ (w k : ℕ) (b : Bool) where
  low_bits : w % 2 ^ k < 2 ^ k
  low_bits = mod_below w (2 ^ k) (pow_pos k)

  pub put_bit_high : put_bit w k b / 2 ^ (k + 1) ≡ w / 2 ^ (k + 1)
  put_bit_high =
      ap (λ (v : ℕ). v / 2 ^ (k + 1)) (put_bit-of_parts w k b) ∙ of_parts_high (w / 2 ^ (k + 1)) (digit b) (w % 2 ^ k) k (digit_small b) low_bits

  pub put_low : put_bit w k b % 2 ^ k ≡ w % 2 ^ k
  put_low = ap (λ (v : ℕ). v % 2 ^ k) (put_bit-of_parts w k b) ∙ parts_low (w / 2 ^ (k + 1)) (digit b) (w % 2 ^ k) k (digit_small b) low_bits

  pub others-put_bit : others (put_bit w k b) k ≡ others w k
  others-put_bit = ap₂ (λ (h l : ℕ). h * 2 ^ (k + 1) + l) put_bit_high put_low

-- putting in the bit that is there
pub put_bit_same : (w k : ℕ) → w ≡ put_bit w k (member w k)
put_bit_same w k = sym (shr_split w (k + 1)) ∙ ap (λ (m : ℕ). w / 2 ^ (k + 1) * 2 ^ (k + 1) + m) (cut ∙ bit (member w k) refl) ∙ sym (add_assoc _ _ _)
  where
    cut : w % 2 ^ (k + 1) ≡ (w / 2 ^ k % 2) * 2 ^ k + w % 2 ^ k
    cut = ap (λ (j : ℕ). w % 2 ^ j) (add_comm k 1) ∙ mod-pow-add w 1 k

    bit : (b : Bool) → member w k ≡ b → (w / 2 ^ k % 2) * 2 ^ k + w % 2 ^ k ≡ w % 2 ^ k + cond b (2 ^ k) 0
    bit true e = omega (arith, ap (λ (d : ℕ). d * 2 ^ k) (eqb-true (w / 2 ^ k % 2) 1 e))
    bit false e =
        let none : w / 2 ^ k % 2 ≡ 0 = omega (arith, eqb-false (w / 2 ^ k % 2) 1 e) in
        omega (arith, ap (λ (d : ℕ). d * 2 ^ k) none)

pub when_clear : (w k : ℕ) → member w k ≡ false → w ≡ others w k
when_clear w k e = put_bit_same w k ∙ ap (put_bit w k) e ∙ add-zero (others w k)

-- the other bits are the same where the bits above k and those below are
pub has_other : (v w k j : ℕ) → (j ≡ k → ⊥) → v / 2 ^ (k + 1) ≡ w / 2 ^ (k + 1) → v % 2 ^ k ≡ w % 2 ^ k → member v j ≡ member w j
has_other v w k j ne high low = ap (λ (d : ℕ). eqb d 1) (⊎_elim below above (cases_lt j k))
  where
    cut : (n : ℕ) → j < k → n % 2 ^ k % 2 ^ (1 + j) ≡ n % 2 ^ (1 + j)
    cut n h =
        let size : k ≡ k - (1 + j) + (1 + j) = omega arith in
        ap (λ (i : ℕ). n % 2 ^ i % 2 ^ (1 + j)) size
        ∙ ap (λ (m : ℕ). m % 2 ^ (1 + j)) (mod-pow-add n (k - (1 + j)) (1 + j))
        ∙ mod-mul-add _ (2 ^ (1 + j)) (n % 2 ^ (1 + j)) (mod_below n (2 ^ (1 + j)) (pow_pos (1 + j)))

    from_low : (n : ℕ) → j < k → n / 2 ^ j % 2 ≡ n % 2 ^ k % 2 ^ (1 + j) / 2 ^ j
    from_low n h = sym (ap (λ (m : ℕ). m / 2 ^ j) (cut n h) ∙ field_of n 1 j)

    below : j < k → v / 2 ^ j % 2 ≡ w / 2 ^ j % 2
    below h = from_low v h ∙ ap (λ (m : ℕ). m % 2 ^ (1 + j) / 2 ^ j) low ∙ sym (from_low w h)

    from_high : (n : ℕ) → k < j → n / 2 ^ j ≡ n / 2 ^ (k + 1) / 2 ^ (j - (k + 1))
    from_high n h =
        let size : k + 1 + (j - (k + 1)) ≡ j = omega arith in
        sym (shr-shr n (k + 1) (j - (k + 1)) ∙ ap (λ (i : ℕ). n / 2 ^ i) size)

    above : k ≤ j → v / 2 ^ j % 2 ≡ w / 2 ^ j % 2
    above h =
        let past : k < j = omega (arith, ne) in
        ap (λ (m : ℕ). m % 2) (from_high v past ∙ ap (λ (m : ℕ). m / 2 ^ (j - (k + 1))) high ∙ sym (from_high w past))

-- bit k and the others make up the number
pub whole : (v w k : ℕ) → others v k ≡ others w k → member v k ≡ member w k → v ≡ w
whole v w k rest bit = put_bit_same v k ∙ ap₂ (λ (o : ℕ) (b : Bool). o + cond b (2 ^ k) 0) rest bit ∙ sym (put_bit_same w k)

-- setting or clearing bit k leaves the bits above it and those below
power-high : (k : ℕ) → 2 ^ k / 2 ^ (k + 1) ≡ 0
power-high k = div-eq_of_lt (omega (arith, twice k, pow_pos k))

others-insert : (w k : ℕ) → others (set_insert w k) k ≡ others w k
unfolding set_insert
others-insert w k =
    ap₂ (λ (h l : ℕ). h * 2 ^ (k + 1) + l)
    (or_shr w (2 ^ k) (k + 1) ∙ ap (bit_or (w / 2 ^ (k + 1))) (power-high k) ∙ or_zero_r _)
    (or_mod w (2 ^ k) k ∙ ap (bit_or (w % 2 ^ k)) (mod_self (2 ^ k)) ∙ or_zero_r _)

others-remove : (w k : ℕ) → others (set_remove w k) k ≡ others w k
unfolding set_remove
others-remove w k =
    ap₂ (λ (h l : ℕ). h * 2 ^ (k + 1) + l)
    (xor_shr w (bit_and w (2 ^ k)) (k + 1) ∙ ap (bit_xor (w / 2 ^ (k + 1))) (and_shr w (2 ^ k) (k + 1) ∙ ap (bit_and (w / 2 ^ (k + 1))) (power-high k) ∙ and_zero_r _) ∙ xor_zero_r _)
    (xor_mod w (bit_and w (2 ^ k)) k ∙ ap (bit_xor (w % 2 ^ k)) (and_mod w (2 ^ k) k ∙ ap (bit_and (w % 2 ^ k)) (mod_self (2 ^ k)) ∙ and_zero_r _) ∙ xor_zero_r _)

has-insert : (w k : ℕ) → member (set_insert w k) k ≡ true
unfolding set_insert
has-insert w k =
    let one : bit_at (bit_or w (2 ^ k)) k ≡ 1 = omega (arith, bit_at_or w (2 ^ k) k, bit_at-pow_same k, bit_at-lt w k) in
    ap (λ (d : ℕ). eqb d 1) one

has-remove : (w k : ℕ) → member (set_remove w k) k ≡ false
unfolding set_remove
has-remove w k =
    let cut = bit_at_and w (2 ^ k) k in
    let zero : bit_at (bit_xor w (bit_and w (2 ^ k))) k ≡ 0 =
    omega (arith, bit_at_xor w (bit_and w (2 ^ k)) k, cut, bit_at-pow_same k, bit_at-lt w k) in
    ap (λ (d : ℕ). eqb d 1) zero

-- a bit set or cleared is that bit put in
pub set_put : (w k : ℕ) (b : Bool) → b ≡ true → set_insert w k ≡ put_bit w k b
set_put w k b e = whole (set_insert w k) (put_bit w k b) k (others-insert w k ∙ sym (others-put_bit w k b)) (has-insert w k ∙ sym (member-put_bit w k b ∙ e))

pub clear_put : (w k : ℕ) (b : Bool) → b ≡ false → set_remove w k ≡ put_bit w k b
clear_put w k b e = whole (set_remove w k) (put_bit w k b) k (others-remove w k ∙ sym (others-put_bit w k b)) (has-remove w k ∙ sym (member-put_bit w k b ∙ e))
