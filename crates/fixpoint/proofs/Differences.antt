-- Whether two sets differ below an index.
use Rattle.std.proofs.Common.{◌≡◌, ℕ, zero, suc, ◌+◌, Bool, true, false, not, ◌||◌, sym, refl, ap₂, ⊎_elim, add-one, arith}
use mathlib.Core.Bool.{beq}
use Rattle.std.proofs.lemmas.Bool.{cases_eq, or_parts, or_from, both_ways}
use Rattle.ctl.specs.Rounds.{Subset, Same}
use Rattle.fixpoint.specs.Sets.{differ, overlay}
use Rattle.fixpoint.proofs.Overlays.{overlay_below}

beq_same : (a b : Bool) → a ≡ b → not (beq a b) ≡ false
beq_same true true e = refl
beq_same false false e = refl
beq_same true false e = absurd (both_ways true e refl)
beq_same false true e = absurd (both_ways false refl e)

beq_agrees : (a b : Bool) → not (beq a b) ≡ false → a ≡ b
beq_agrees true true e = refl
beq_agrees false false e = refl
beq_agrees true false e = e
beq_agrees false true e = sym e

-- a turn of a loop that has compared x and y below i, and compares them at i
pub differ_next : (i : ℕ) (x y : Subset) (so_far a b : Bool) → so_far ≡ differ i x y → a ≡ x i → b ≡ y i → (so_far || not (beq a b)) ≡ differ (i + 1) x y
unfolding differ
differ_next i x y so_far a b e p q = rw (add-one, e, p, q)

pub differ_never : (n : ℕ) (x y : Subset) → differ n x y ≡ false → Same n x y
unfolding differ
differ_never zero x y e i h = absurd (omega arith)
differ_never (suc n) x y e i h =
    let parts = or_parts (differ n x y) (not (beq (x n) (y n))) e in
    ⊎_elim (λ s. rw s (beq_agrees (x n) (y n) parts.1)) (λ ne. differ_never n x y parts.0 i (omega (arith, ne))) (cases_eq i n)

pub differ_none : (n : ℕ) (x y : Subset) → Same n x y → differ n x y ≡ false
unfolding differ
differ_none zero x y same = refl
differ_none (suc n) x y same = or_from _ _ (differ_none n x y (λ i h. same i (omega arith))) (beq_same (x n) (y n) (same n (omega arith)))

pub differ_agree : (n : ℕ) (x y z : Subset) → Same n y z → differ n x y ≡ differ n x z
unfolding differ
differ_agree zero x y z same = refl
differ_agree (suc n) x y z same =
    ap₂ (λ (d a : Bool). d || not (beq (x n) a)) (differ_agree n x y z (λ i h. same i (omega arith))) (same n (omega arith))

-- what takes the place of x below n differs from x there as much as x then does
pub differ_overlay : (n : ℕ) (x y : Subset) → differ n x y ≡ differ n x (overlay n y x)
differ_overlay n x y = differ_agree n x y (overlay n y x) (λ i h. sym (overlay_below n y x i h))
