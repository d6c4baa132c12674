-- What step 8 looks for above a goal.
use Rattle.std.specs.Prelude.{ℕ, zero, suc, Bool, true, false, not, ◌&&◌, [], ◌∷◌, ◌==◌}
use Rattle.tableau.specs.declared.goals.Step.TheVariants.{Unroll, Refocus}
use Rattle.tableau.specs.declared.goals.Ancestor.{Ancestor}
use Rattle.forms.specs.Sets.{is_subset}
use Rattle.tableau.specs.Steps.{Trail}
use Rattle.tableau.specs.Focus.{is_focused_at}

-- took step 6
abbrev pub took_refocus : Ancestor → Bool
took_refocus x = elim x.step [ Refocus a ↦ true | _ ↦ false ]

-- took step 5 on u with the focus at u
abbrev pub unrolled_focus : ℕ → Ancestor → Bool
unrolled_focus u x = elim x.step [ Unroll a b ↦ (a == u) && is_focused_at u x.goal.focus | _ ↦ false ]

-- the ancestor so many levels up, 1 being the parent, unrolled u in focus; no step 6 was taken between; and its set is contained in s
unfoldable pub repeats : ℕ → ℕ → ℕ → Trail → Bool
repeats u s n [] = false
repeats u s zero (x ∷ trail) = false
repeats u s (suc zero) (x ∷ trail) = unrolled_focus u x && is_subset x.goal.set s
repeats u s (suc (suc n)) (x ∷ trail) = not (took_refocus x) && repeats u s (suc n) trail
