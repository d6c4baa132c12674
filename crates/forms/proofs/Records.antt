-- The records of a body, brought to a table one by one.
use Rattle.std.proofs.Common.{◌≡◌, ℕ, suc, ◌+◌, ◌-◌, ◌%◌, ◌<◌, ◌≤◌, Bool, true, false, cond, eqb, List, [], ◌∷◌, ◌++◌, length, get_or, take, drop, Ok, Err, Result, sym, refl, ap, ◌∙◌, subst, ap₂, add-one, arith}
use Rattle.std.proofs.lemmas.List.{take_rest, take-take}
use Rattle.forms.specs.declared.form.Form.{Form}
use Rattle.forms.specs.declared.refusal.Refusal.{Refusal}
use Rattle.forms.specs.declared.refusal.Refusal.TheVariants.{BodyLength}
use Rattle.forms.specs.declared.refusal.Rejected.{Rejected}
use Rattle.forms.specs.Bodies.{Record, records}
use Rattle.forms.specs.Forms.{IsWellFormed}
use Rattle.forms.specs.Loading.{records_result, body_result, kept_forms, forms_after_load}
use Rattle.forms.specs.Refusals.{rejected_at}
use Rattle.forms.specs.Tables.{accepted_form, form_number, joined_forms, add_answer, forms_after_add}
use Rattle.forms.proofs.Accepting.{Earlier_accepted}
use Rattle.forms.proofs.Formed.{IsWellFormed_grown}

-- the record that a body begins with
abbrev first : List ℕ → Record
first bs = (get_or bs 0 0, get_or bs 1 0, get_or bs 2 0)

records_more : (bs : List ℕ) → 3 ≤ length bs → records bs ≡ first bs ∷ records (drop 3 bs)
records_more [] h = absurd (omega arith)
records_more (x ∷ []) h = absurd (omega arith)
records_more (x ∷ y ∷ []) h = absurd (omega arith)
records_more (x ∷ y ∷ z ∷ bs) h = refl

records_none : (bs : List ℕ) → length bs < 3 → records bs ≡ []
records_none [] h = refl
records_none (x ∷ []) h = refl
records_none (x ∷ y ∷ []) h = refl
records_none (x ∷ y ∷ z ∷ bs) h = absurd (omega arith)

-- on from a record, by what its form met
abbrev onward : List Form → ℕ → List Record → Result Form Refusal → Result (List Form) Rejected
onward T i rest r = elim r [ Ok form ↦ records_result (T ++ form ∷ []) (suc i) rest | Err why ↦ Err (rejected_at why i) ]

pub no_more : (T : List Form) (i : ℕ) (rest : List ℕ) → length rest < 3 → records_result T i (records rest) ≡ Ok T
no_more T i rest h = ap (records_result T i) (records_none rest h)

module _ (T : List Form) (i : ℕ) (rest : List ℕ) (three : 3 ≤ length rest) where
  pub turn : {after : List Form} {n : ℕ} → Ok n ≡ add_answer T (get_or rest 0 0) (get_or rest 1 0) (get_or rest 2 0) → after ≡ forms_after_add T (get_or rest 0 0) (get_or rest 1 0) (get_or rest 2 0)
      → records_result after (i + 1) (records (take (length rest - 3) (drop 3 rest))) ≡ records_result T i (records rest)
  turn {after} {n} e grown =
      ap (λ (bs : List ℕ). records_result after (i + 1) (records bs)) (take_rest rest 3)
      ∙ ap₂ (λ (U : List Form) (k : ℕ). records_result U k (records (drop 3 rest))) grown (add-one i)
      ∙ by_taken (accepted_form (length T) (get_or rest 0 0) (get_or rest 1 0) (get_or rest 2 0)) e
      ∙ sym (ap (records_result T i) (records_more rest three))
    where
      by_taken : (r : Result Form Refusal) → Ok n ≡ form_number T r → records_result (joined_forms T r) (suc i) (records (drop 3 rest)) ≡ onward T i (records (drop 3 rest)) r
      by_taken (Ok form) e = refl
      by_taken (Err why) e = absurd (let z : ◌≡◌ {A = ℕ} 0 1 = cc in omega arith)

  pub turned_down : {why : Refusal} → Err why ≡ add_answer T (get_or rest 0 0) (get_or rest 1 0) (get_or rest 2 0) → records_result T i (records rest) ≡ Err (rejected_at why i)
  turned_down {why} e = ap (records_result T i) (records_more rest three) ∙ by_refused (accepted_form (length T) (get_or rest 0 0) (get_or rest 1 0) (get_or rest 2 0)) e
    where
      by_refused : (r : Result Form Refusal) → Err why ≡ form_number T r → onward T i (records (drop 3 rest)) r ≡ Err (rejected_at why i)
      by_refused (Ok form) e = absurd (let z : ◌≡◌ {A = ℕ} 0 1 = cc in omega arith)
      by_refused (Err other) e = let same : other ≡ why = cc in ap (λ (w : Refusal). Err (rejected_at w i)) same

-- a body of whole records
pub forms_after_body_whole : (T : List Form) (body : List ℕ) {out : Result (List Form) Rejected} → length body % 3 ≡ 0 → records_result T 0 (records body) ≡ out → body_result T body ≡ out
forms_after_body_whole T body whole e = ap (λ (n : ℕ). cond (eqb n 0) (records_result T 0 (records body)) (Err (rejected_at BodyLength 0))) whole ∙ e

-- the forms of before stay while others are written behind them
pub front_kept : (T now later : List Form) (n len : ℕ) → n ≤ len → take n now ≡ T → take len later ≡ take len now → take n later ≡ T
front_kept T now later n len h front same = sym (take-take n len later h) ∙ ap (take n) same ∙ take-take n len now h ∙ front

-- what holds of a table, where one is there
abbrev IsFormed : Result (List Form) Rejected → Type 0
IsFormed (Ok T) = IsWellFormed T
IsFormed (Err why) = Unit {0}

IsFormed-records_result : (T : List Form) (i : ℕ) (rs : List Record) → IsWellFormed T → IsFormed (records_result T i rs)
IsFormed-records_result T i [] w = w
IsFormed-records_result T i (r ∷ rs) w = on_from (accepted_form (length T) r.0 r.1 r.2) refl (λ x v. IsFormed-records_result (T ++ x ∷ []) (suc i) rs v)
  where
    on_from : (o : Result Form Refusal) → accepted_form (length T) r.0 r.1 r.2 ≡ o → ((x : Form) → IsWellFormed (T ++ x ∷ []) → IsFormed (records_result (T ++ x ∷ []) (suc i) rs)) → IsFormed (onward T i rs o)
    on_from (Ok x) e on = on x (IsWellFormed_grown T x w (Earlier_accepted (length T) r.0 r.1 r.2 x e))
    on_from (Err why) e on = tt

pub load_formed : (T : List Form) (body : List ℕ) {after : List Form} → after ≡ forms_after_load T body → IsWellFormed T → IsWellFormed after
load_formed T body same w = subst IsWellFormed (sym same) (kept_formed (body_result T body) (sized (eqb (length body % 3) 0)))
  where
    sized : (b : Bool) → IsFormed (cond b (records_result T 0 (records body)) (Err (rejected_at BodyLength 0)))
    sized true = IsFormed-records_result T 0 (records body) w
    sized false = tt

    kept_formed : (o : Result (List Form) Rejected) → IsFormed o → IsWellFormed (kept_forms T o)
    kept_formed (Ok after) v = v
    kept_formed (Err why) v = w
