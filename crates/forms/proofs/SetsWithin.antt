-- Each form of a set within a table is a number of the table.
use Rattle.std.proofs.Common.{◌≡◌, ℕ, ◌+◌, ◌-◌, ◌/◌, ◌%◌, ◌^◌, ◌<◌, ◌≤◌, true, false, eqb, ltb, ◌⊎◌, pow_mono, List, length, sym, ap, ◌∙◌, inl, inr, arith}
use native.Mathlib.Nat.{div-eq_of_lt}
use Rattle.std.proofs.lemmas.Nat.{shr-shr, pow_pos}
use Rattle.std.proofs.lemmas.Bool.{cases_lt, both_ways, le-ltb, ltb-true}
use Rattle.forms.specs.declared.form.Form.{Form}
use Rattle.forms.specs.Sets.{member, is_within}

pub is_within_below : (T : List Form) (set : ℕ) → is_within T set ≡ true → (f : ℕ) → member set f ≡ true → f < length T
is_within_below T set e f b = by_order (cases_lt f (length T))
  where
    by_order : (f < length T) ⊎ (length T ≤ f) → f < length T
    by_order (inl l) = l
    by_order (inr l) =
        let split : f ≡ length T + (f - length T) = omega arith in
        let out : set / 2 ^ length T ≡ 0 = div-eq_of_lt (ltb-true set (2 ^ length T) e) in
        let gone : set / 2 ^ f ≡ 0 =
        ap (λ (n : ℕ). set / 2 ^ n) split ∙ sym (shr-shr set (length T) (f - length T)) ∙ ap (λ (n : ℕ). n / 2 ^ (f - length T)) out ∙ div-eq_of_lt (pow_pos (f - length T)) in
        absurd (both_ways (member set f) (ap (λ (n : ℕ). eqb (n % 2) 1) gone) b)

-- a number that fits has no bit past its width
pub none_above : (width w k : ℕ) → w < 2 ^ width → width ≤ k → member w k ≡ false
none_above width w k fits past =
    let small : w < 2 ^ k = omega (arith, pow_mono past) in
    ap (λ (d : ℕ). eqb (d % 2) 1) (div-eq_of_lt small)

pub past_the_last : (set f : ℕ) → set < 2 ^ 64 → 64 ≤ f → ltb f 64 ≡ member set f
past_the_last set f fits past = le-ltb f 64 past ∙ sym (none_above 64 set f fits past)
