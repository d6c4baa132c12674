-- The operands that join at a table's form, from its last form back.
use Rattle.std.proofs.Common.{◌≡◌, ℕ, suc, ◌-◌, ◌<◌, ◌≤◌, length, drop, sym, ap, ◌∙◌, arith, drop-cons}
use Rattle.std.proofs.lemmas.List.{drop_all}
use Rattle.forms.specs.declared.form.Form.TheVariants.{Truth}
use Rattle.forms.specs.Forms.{Table, form}
use Rattle.forms.specs.Sets.{member}
use Rattle.tableau.specs.Nexts.{join_every, every_operands}

-- past the last form nothing joins
pub past_the_last_form : (T : Table) (n s : ℕ) → length T ≤ n → 0 ≡ every_operands (drop n T) n s
unfolding every_operands
past_the_last_form T n s h = sym (ap (λ L. every_operands L n s) (drop_all n T h))

every_operands-drop : (T : Table) (f s : ℕ) → f < length T → every_operands (drop f T) f s ≡ join_every (form T f) (member s f) (every_operands (drop (suc f) T) (suc f) s)
unfolding every_operands
every_operands-drop T f s h = ap (λ L. every_operands L f s) (drop-cons T f Truth h)

pub every_operands_from : (T : Table) (n s : ℕ) → 0 < n → n ≤ length T
    → every_operands (drop (n - 1) T) (n - 1) s ≡ join_every (form T (n - 1)) (member s (n - 1)) (every_operands (drop n T) n s)
every_operands_from T n s pos h =
    let step : suc (n - 1) ≡ n = omega arith in
    every_operands-drop T (n - 1) s (omega arith) ∙ ap (λ m. join_every (form T (n - 1)) (member s (n - 1)) (every_operands (drop m T) m s)) step
