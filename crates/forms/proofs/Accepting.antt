-- What is known of a form that a table takes.
use Rattle.std.proofs.Common.{◌≡◌, ℕ, ◌<◌, Bool, true, false, ltb, Some, None, Ok, Err, Option, Result, sym, refl, ap, ◌∙◌, arith}
use Rattle.std.proofs.lemmas.Bool.{and_parts, ltb-true}
use Rattle.forms.specs.declared.form.Form.{Form}
use Rattle.forms.specs.declared.form.Form.TheVariants.{Truth, Falsity, Atom, Absent, And, Or, Next, Until, Release}
use Rattle.forms.specs.declared.refusal.Refusal.{Refusal}
use Rattle.forms.specs.declared.refusal.Refusal.TheVariants.{KindAbove11}
use Rattle.forms.specs.Forms.{form_of, atom_fits, operands_below, Earlier}
use Rattle.forms.specs.Tables.{most_forms, result_given, taken_form, accepted_form}

Earlier-operands_below : (n : ℕ) (x : Form) → operands_below n x ≡ true → Earlier n x
Earlier-operands_below n Truth e = tt
Earlier-operands_below n Falsity e = tt
Earlier-operands_below n (Atom p) e = tt
Earlier-operands_below n (Absent p) e = tt
Earlier-operands_below n (And i j) e = let p = and_parts (ltb i n) (ltb j n) e in (ltb-true i n p.0, ltb-true j n p.1)
Earlier-operands_below n (Or i j) e = let p = and_parts (ltb i n) (ltb j n) e in (ltb-true i n p.0, ltb-true j n p.1)
Earlier-operands_below n (Next q i) e = ltb-true i n e
Earlier-operands_below n (Until q i j) e = let p = and_parts (ltb i n) (ltb j n) e in (ltb-true i n p.0, ltb-true j n p.1)
Earlier-operands_below n (Release q i j) e = let p = and_parts (ltb i n) (ltb j n) e in (ltb-true i n p.0, ltb-true j n p.1)

refused_not_taken : (why : Refusal) (x : Form) → Err why ≡ Ok x → ⊥
refused_not_taken why x e = let z : ◌≡◌ {A = ℕ} 0 1 = cc in omega arith

-- a result that is there passed its test
passed : (b : Bool) (why : Refusal) (r : Result Form Refusal) (x : Form) → result_given b why r ≡ Ok x → (b ≡ true) × (r ≡ Ok x)
passed true why r x e = (refl, e)
passed false why r x e = absurd (refused_not_taken why x e)

taken_form_from : (n : ℕ) (o : Option Form) (x : Form) → taken_form n o ≡ Ok x → (o ≡ Some x) × (operands_below n x ≡ true) × (n < 64)
taken_form_from n None x e = absurd (refused_not_taken KindAbove11 x e)
taken_form_from n (Some form) x e =
    let p = passed (atom_fits form) _ _ x e in
    let q = passed (operands_below n form) _ _ x p.1 in
    let r = passed (ltb n most_forms) _ _ x q.1 in
    let same : form ≡ x = let t = r.1 in cc in
    (ap Some same, ap (operands_below n) (sym same) ∙ q.0, ltb-true n most_forms r.0)

module _ (n kind a b : ℕ) (x : Form) (e : accepted_form n kind a b ≡ Ok x) where
  pub form_of_accepted : form_of kind a b ≡ Some x
  form_of_accepted = (taken_form_from n (form_of kind a b) x e).0

  pub Earlier_accepted : Earlier n x
  Earlier_accepted = Earlier-operands_below n x (taken_form_from n (form_of kind a b) x e).1

  pub accepted_room : n < 64
  accepted_room = (taken_form_from n (form_of kind a b) x e).2
