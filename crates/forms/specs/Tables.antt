-- What joins the forms of a table.
use Rattle.std.specs.Prelude.{ℕ, Bool, true, false, List, [], ◌∷◌, ◌++◌, length, Some, None, Ok, Err, Option, Result, nat_lt}
use Rattle.forms.specs.declared.form.Form.{Form}
use Rattle.forms.specs.declared.refusal.Refusal.{Refusal}
use Rattle.forms.specs.declared.refusal.Refusal.TheVariants.{KindAbove11, AtomAbove31, OperandNotEarlier, TableFull}
use Rattle.forms.specs.Forms.{form_of, atom_fits, operands_below}

abbrev pub most_forms : ℕ
most_forms = 64

-- a result that is there under a condition, or else refused
abbrev pub result_given : {X : Type 0} → Bool → Refusal → Result X Refusal → Result X Refusal
result_given true why result = result
result_given false why result = Err why

-- a form, if a table of n forms takes it, or else the first reason why not
abbrev pub taken_form : ℕ → Option Form → Result Form Refusal
taken_form n None = Err KindAbove11
taken_form n (Some form) =
    result_given (atom_fits form) AtomAbove31
    (result_given (operands_below n form) OperandNotEarlier
    (result_given (nat_lt n most_forms) TableFull (Ok form)))

-- the same of the form of a kind
abbrev pub accepted_form : (n kind a b : ℕ) → Result Form Refusal
accepted_form n kind a b = taken_form n (form_of kind a b)

-- an accepted form has the next number, and joins at the end; a refusal leaves the table
abbrev pub form_number : List Form → Result Form Refusal → Result ℕ Refusal
form_number T (Ok form) = Ok (length T)
form_number T (Err why) = Err why

abbrev pub joined_forms : List Form → Result Form Refusal → List Form
joined_forms T (Ok form) = T ++ form ∷ []
joined_forms T (Err why) = T

-- what is answered where the form of a kind is brought to a table, and the table then
abbrev pub add_answer : List Form → (kind a b : ℕ) → Result ℕ Refusal
add_answer T kind a b = form_number T (accepted_form (length T) kind a b)

abbrev pub forms_after_add : List Form → (kind a b : ℕ) → List Form
forms_after_add T kind a b = joined_forms T (accepted_form (length T) kind a b)
