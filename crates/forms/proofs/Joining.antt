-- A table once a form was brought to it.
use Rattle.std.proofs.Common.{◌≡◌, ℕ, List, [], ◌∷◌, ◌++◌, length, Ok, Err, Result, sym, refl, ap, ◌∙◌, subst}
use Rattle.forms.specs.declared.form.Form.{Form}
use Rattle.forms.specs.declared.refusal.Refusal.{Refusal}
use Rattle.forms.specs.Forms.{IsWellFormed}
use Rattle.forms.specs.Tables.{accepted_form, form_number, joined_forms, add_answer, forms_after_add}
use Rattle.forms.proofs.Accepting.{Earlier_accepted}
use Rattle.forms.proofs.Formed.{IsWellFormed_grown}

-- what is answered of a form that is accepted, and the table with it
pub joins : (T : List Form) (n kind a b : ℕ) → length T ≡ n → (form : Form) → Ok form ≡ accepted_form n kind a b
    → (Ok n ≡ add_answer T kind a b) × (T ++ form ∷ [] ≡ forms_after_add T kind a b)
joins T n kind a b size form e =
    let same = ap (λ (k : ℕ). accepted_form k kind a b) size in
    (ap Ok (sym size) ∙ ap (form_number T) (e ∙ sym same), ap (joined_forms T) (e ∙ sym same))

pub after_formed : (T : List Form) (kind a b : ℕ) {after : List Form} → after ≡ forms_after_add T kind a b → IsWellFormed T → IsWellFormed after
after_formed T kind a b same w = subst IsWellFormed (sym same) (joined (accepted_form (length T) kind a b) refl)
  where
    joined : (r : Result Form Refusal) → accepted_form (length T) kind a b ≡ r → IsWellFormed (joined_forms T r)
    joined (Ok x) e = IsWellFormed_grown T x w (Earlier_accepted (length T) kind a b x e)
    joined (Err why) e = w
