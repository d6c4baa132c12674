-- A forms body brought to a table: each of its records joins in turn, or none does.
use Rattle.std.specs.Prelude.{ℕ, suc, cond, List, [], ◌∷◌, ◌++◌, length, Ok, Err, Result}
use Rattle.forms.specs.declared.form.Form.{Form}
use Rattle.forms.specs.declared.refusal.Refusal.TheVariants.{BodyLength}
use Rattle.forms.specs.declared.refusal.Rejected.{Rejected}
use Rattle.forms.specs.Bodies.{Record, records, has_forms_length}
use Rattle.forms.specs.Refusals.{rejected_at}
use Rattle.forms.specs.Tables.{accepted_form}

-- the table after the records, the first of which is record i; one that is not accepted ends it
abbrev pub records_result : List Form → ℕ → List Record → Result (List Form) Rejected
records_result T i [] = Ok T
records_result T i (r ∷ rest) = elim (accepted_form (length T) r.0 r.1 r.2) [ Ok form ↦ records_result (T ++ form ∷ []) (suc i) rest | Err why ↦ Err (rejected_at why i) ]

-- the table after a body
abbrev pub body_result : List Form → List ℕ → Result (List Form) Rejected
body_result T body = cond (has_forms_length body) (records_result T 0 (records body)) (Err (rejected_at BodyLength 0))

-- a body that is taken is answered by the number of forms; a refusal leaves the table
abbrev pub counted_forms : Result (List Form) Rejected → Result ℕ Rejected
counted_forms (Ok after) = Ok (length after)
counted_forms (Err why) = Err why

abbrev pub kept_forms : List Form → Result (List Form) Rejected → List Form
kept_forms T (Ok after) = after
kept_forms T (Err why) = T

-- what is answered where a body is brought to a table, and the table then
abbrev pub load_answer : List Form → List ℕ → Result ℕ Rejected
load_answer T body = counted_forms (body_result T body)

abbrev pub forms_after_load : List Form → List ℕ → List Form
forms_after_load T body = kept_forms T (body_result T body)
