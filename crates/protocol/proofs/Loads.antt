-- A forms body does to a register what it does to a table alone.
use Rattle.std.proofs.Common.{◌≡◌, ℕ, suc, Bool, true, false, cond, List, [], ◌∷◌, ◌++◌, length, Ok, Err, Result, refl, ap, ◌∙◌}
use Rattle.forms.specs.declared.form.Form.{Form}
use Rattle.forms.specs.declared.refusal.Refusal.{Refusal}
use Rattle.forms.specs.declared.refusal.Refusal.TheVariants.{BodyLength}
use Rattle.forms.specs.declared.refusal.Rejected.{Rejected}
use Rattle.forms.specs.Bodies.{Record, records, has_forms_length}
use Rattle.forms.specs.Forms.{Table}
use Rattle.forms.specs.Loading.{records_result, body_result, counted_forms, kept_forms, load_answer, forms_after_load}
use Rattle.forms.specs.Refusals.{rejected_at}
use Rattle.forms.specs.Tables.{accepted_form}
use Rattle.protocol.specs.State.{State, with_table}
use Rattle.protocol.specs.Bodies.{forms_body}
use Rattle.protocol.specs.Calls.{Outcome, taken, declined, outcome_given, form_outcome, at_record, and_then, in_turn, form_on, count_forms, on_load, Answer, ok, refused, answer_of, state_of}

-- the outcome for a register, from the table that a body leaves
abbrev pub outcome_from : State → Result Table Rejected → Outcome
outcome_from s (Ok T) = taken (length T ∷ []) (with_table s T)
outcome_from s (Err why) = declined why.refusal why.at

-- the register's answer, from the table's
abbrev pub answer_from : Result ℕ Rejected → Answer
answer_from (Ok n) = ok (n ∷ [])
answer_from (Err why) = refused why.refusal why.at

and_then-in_turn : (s : State) (i : ℕ) (rs : List Record) → and_then (in_turn form_on s i rs) count_forms ≡ outcome_from s (records_result s.table i rs)
unfolding in_turn
and_then-in_turn s i [] = refl
and_then-in_turn s i (r ∷ rs) = by_cases (accepted_form (length s.table) r.0 r.1 r.2) (λ x. and_then-in_turn (with_table s (s.table ++ x ∷ [])) (suc i) rs)
  where
    by_cases : (o : Result Form Refusal)
        → ((x : Form) → and_then (in_turn form_on (with_table s (s.table ++ x ∷ [])) (suc i) rs) count_forms ≡ outcome_from s (records_result (s.table ++ x ∷ []) (suc i) rs))
        → and_then (and_then (at_record i (form_outcome s o)) (λ later. in_turn form_on later (suc i) rs)) count_forms
        ≡ outcome_from s (elim o [ Ok x ↦ records_result (s.table ++ x ∷ []) (suc i) rs | Err why ↦ Err (rejected_at why i) ])
    by_cases (Ok x) on = on x
    by_cases (Err why) on = refl

-- the call, whole
pub loads : (s : State) (bytes : List ℕ) → on_load s (forms_body bytes) ≡ outcome_from s (body_result s.table bytes)
loads s bytes = sized (has_forms_length bytes)
  where
    sized : (b : Bool) → outcome_given b BodyLength (and_then (in_turn form_on s 0 (records bytes)) count_forms) ≡ outcome_from s (cond b (records_result s.table 0 (records bytes)) (Err (rejected_at BodyLength 0)))
    sized true = and_then-in_turn s 0 (records bytes)
    sized false = refl

-- its answer is the table's answer,
pub answer_of-on_load : (s : State) (bytes : List ℕ) → answer_of (on_load s (forms_body bytes)) ≡ answer_from (load_answer s.table bytes)
answer_of-on_load s bytes = ap answer_of (loads s bytes) ∙ by_cases (body_result s.table bytes)
  where
    by_cases : (o : Result Table Rejected) → answer_of (outcome_from s o) ≡ answer_from (counted_forms o)
    by_cases (Ok T) = refl
    by_cases (Err why) = refl

-- and the register then has the table that the body leaves
pub state_of-on_load : (s : State) (bytes : List ℕ) → state_of s (on_load s (forms_body bytes)) ≡ with_table s (forms_after_load s.table bytes)
state_of-on_load s bytes = ap (state_of s) (loads s bytes) ∙ by_cases (body_result s.table bytes)
  where
    by_cases : (o : Result Table Rejected) → state_of s (outcome_from s o) ≡ with_table s (kept_forms s.table o)
    by_cases (Ok T) = refl
    by_cases (Err why) = refl
