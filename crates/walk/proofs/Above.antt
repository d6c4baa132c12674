-- The trail above a goal, from the last frame of its path up, and what step 8 finds there.
use Rattle.std.proofs.Common.{◌≡◌, ℕ, zero, suc, ◌-◌, ◌<◌, ◌≤◌, true, false, not, ◌&&◌, List, [], ◌∷◌, ◌++◌, reverse, length, get_or, take, None, sym, refl, ap, ◌∙◌, arith}
use lib.Seq.{split_at}
use Rattle.std.proofs.lemmas.List.{drop_all, reverse-append}
use Rattle.tableau.specs.declared.goals.Focus.TheVariants.{Nowhere}
use Rattle.tableau.specs.declared.goals.Step.TheVariants.{Clash}
use Rattle.tableau.specs.declared.goals.Ancestor.{Ancestor}
use Rattle.tableau.specs.declared.goals.Frame.{Frame}
use Rattle.forms.specs.Sets.{is_subset}
use Rattle.tableau.specs.Steps.{Trail}
use Rattle.tableau.specs.Ancestors.{took_refocus, unrolled_focus, repeats}
use Rattle.tableau.specs.Walk.{trail_of}
use Rattle.walk.specs.Path.{trail_above}

-- what a read past an array's end gives
abbrev pub blank : Frame
blank = record { ancestor = record { goal = record { set = 0; focus = Nowhere }; step = Clash 0 0 }; second = None }

pub reverse_last : (path : List Frame) → 0 < length path → reverse path ≡ get_or path (length path - 1) blank ∷ reverse (take (length path - 1) path)
reverse_last path h =
    let k : ℕ = length path - 1 in
    let whole : path ≡ take k path ++ get_or path k blank ∷ [] =
    split_at path k blank (omega arith) ∙ ap (λ rest. take k path ++ get_or path k blank ∷ rest) (drop_all (suc k) path (omega arith)) in
    ap reverse whole ∙ reverse-append (take k path) (get_or path k blank ∷ [])

no_frames : (path : List Frame) → length path ≤ 0 → path ≡ []
no_frames [] h = refl
no_frames (x ∷ path) h = absurd (omega arith)

module _ (u s : ℕ) (x : Ancestor) (trail : Trail) where
  at_none : (n : ℕ) → n ≡ 0 → repeats u s n (x ∷ trail) ≡ false
  unfolding repeats
  at_none zero e = refl
  at_none (suc n) e = absurd (omega arith)

  repeats_at_parent : (n : ℕ) → n ≡ 1 → repeats u s n (x ∷ trail) ≡ (unrolled_focus u x && is_subset x.goal.set s)
  unfolding repeats
  repeats_at_parent n e = ap (λ k. repeats u s k (x ∷ trail)) e

  repeats_at_higher : (n : ℕ) → 2 ≤ n → repeats u s n (x ∷ trail) ≡ (not (took_refocus x) && repeats u s (n - 1) trail)
  unfolding repeats
  repeats_at_higher zero h = absurd (omega arith)
  repeats_at_higher (suc zero) h = absurd (omega arith)
  repeats_at_higher (suc (suc n)) h = let e : suc n ≡ suc (suc n) - 1 = omega arith in ap (λ k. not (took_refocus x) && repeats u s k trail) e

-- step 8 on a path, by its levels
module _ (path : List Frame) (u s n : ℕ) where
  abbrev nearest : Ancestor
  nearest = (get_or path (length path - 1) blank).ancestor

  abbrev above : List Frame
  above = take (length path - 1) path

  pub above_root : length path ≤ 0 → false ≡ repeats u s n (trail_above path)
  unfolding repeats
  above_root h = sym (ap (λ p. repeats u s n (trail_above p)) (no_frames path h))

  from_last : 0 < length path → repeats u s n (trail_above path) ≡ repeats u s n (nearest ∷ trail_above above)
  from_last h = ap (λ p. repeats u s n (trail_of p)) (reverse_last path h)

  pub no_level : 0 < length path → n ≡ 0 → false ≡ repeats u s n (trail_above path)
  no_level h e = sym (from_last h ∙ at_none u s nearest (trail_above above) n e)

  pub parent_level : 0 < length path → n ≡ 1 → (unrolled_focus u nearest && is_subset nearest.goal.set s) ≡ repeats u s n (trail_above path)
  parent_level h e = sym (from_last h ∙ repeats_at_parent u s nearest (trail_above above) n e)

  pub across_refocus : 0 < length path → 2 ≤ n → true ≡ took_refocus nearest → false ≡ repeats u s n (trail_above path)
  across_refocus h k e = ap (λ b. not b && repeats u s (n - 1) (trail_above above)) e ∙ sym (from_last h ∙ repeats_at_higher u s nearest (trail_above above) n k)

  pub next_level : 0 < length path → 2 ≤ n → false ≡ took_refocus nearest → repeats u s (n - 1) (trail_above above) ≡ repeats u s n (trail_above path)
  next_level h k e = ap (λ b. not b && repeats u s (n - 1) (trail_above above)) e ∙ sym (from_last h ∙ repeats_at_higher u s nearest (trail_above above) n k)
