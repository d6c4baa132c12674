-- A form that joins a well-formed table.
use Rattle.std.proofs.Common.{◌≡◌, ◌+◌, ◌<◌, ◌⊎◌, [], ◌∷◌, ◌++◌, length, sym, ap, ◌∙◌, subst, inl, inr, arith}
use Rattle.std.proofs.lemmas.List.{length-append, get_or_append_left, get_or-append-add, get_or_past}
use Rattle.std.proofs.lemmas.Bool.{cases_order}
use Rattle.forms.specs.declared.form.Form.{Form}
use Rattle.forms.specs.declared.form.Form.TheVariants.{Truth}
use Rattle.forms.specs.Forms.{Table, Earlier, IsWellFormed, form}

-- a form with earlier operands joins
pub IsWellFormed_grown : (T : Table) (x : Form) → IsWellFormed T → Earlier (length T) x → IsWellFormed (T ++ x ∷ [])
IsWellFormed_grown T x w e f = by_order (cases_order f (length T))
  where
    here : form (T ++ x ∷ []) (length T) ≡ x
    here = let e : length T ≡ length T + 0 = omega arith in ap (form (T ++ x ∷ [])) e ∙ get_or-append-add T (x ∷ []) 0 Truth

    by_order : (f ≡ length T) ⊎ ((f < length T) ⊎ (length T < f)) → Earlier f (form (T ++ x ∷ []) f)
    by_order (inl same) = subst (λ n. Earlier n (form (T ++ x ∷ []) n)) (sym same) (subst (Earlier (length T)) (sym here) e)
    by_order (inr (inl l)) = subst (Earlier f) (sym (get_or_append_left T (x ∷ []) Truth f l)) (w f)
    by_order (inr (inr l)) = subst (Earlier f) (sym (get_or_past (T ++ x ∷ []) f Truth (omega (arith, length-append T (x ∷ []))))) tt
