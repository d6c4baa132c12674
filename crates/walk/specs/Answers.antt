-- What the code answers for an outcome: the first child and perhaps a second, nothing where the goal closes, or the refusal.
use Rattle.std.specs.Prelude.{ℕ, Some, None, Ok, Err, Option, Result}
use Rattle.forms.specs.declared.form.Form.{Form}
use Rattle.forms.specs.declared.refusal.Refusal.{Refusal}
use Rattle.forms.specs.Forms.{form}
use Rattle.tableau.specs.declared.goals.Goal.{Goal}
use Rattle.tableau.specs.Steps.{Outcome, closes, one, two, refused}
use Rattle.tableau.specs.Rules.{outcome_if_in}
use Rattle.walk.specs.declared.goal_forms.GoalForms.{GoalForms}

abbrev pub answer : Outcome → Result (Option (Goal × Option Goal)) Refusal
answer closes = Ok None
answer (one first) = Ok (Some (first, None))
answer (two first second) = Ok (Some (first, Some second))
answer (refused r) = Err r

-- what it answers for a rule on the form a, which has to be in the goal
abbrev pub answer_on : GoalForms → (a : ℕ) → (Form → Outcome) → Result (Option (Goal × Option Goal)) Refusal
answer_on g a rule = answer (outcome_if_in g.set a (rule (form g.table.now a)))
