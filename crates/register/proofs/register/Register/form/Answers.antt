use Rattle.std.proofs.Common.{List, ap, ◌∙◌, length, rules}
use Rattle.forms.specs.declared.form.Form.{Form}
use Rattle.forms.specs.Tables.{accepted_form}
use Rattle.protocol.specs.State.{with_table}
use Rattle.protocol.specs.Calls.{form}
use Rattle.register.specs.Answers.{number_answer}
use Rattle.register.proofs.Kept.{seen, kept_by, state_of-form_outcome, formed-answer}
use Rattle.register.proofs.register.Register.form.Goals as goal

pub returns : goal.returns
returns c =
    let s = seen c.self.inside in
    let taken = accepted_form (length s.table) c.args.kind c.args.a c.args.b in
    rw (← c.self.view_is) (record {
      answer = ap number_answer c.add.ensures.number ∙ formed-answer s taken;
      after = ap (λ (T : List Form). with_table s T) c.add.ensures.after ∙ state_of-form_outcome s taken;
    })

pub invariant_of-self : goal.invariant_of-self
invariant_of-self c =
    let s = seen c.self.inside in
    let after = ap (λ (T : List Form). with_table s T) c.add.ensures.after ∙ state_of-form_outcome s (accepted_form (length s.table) c.args.kind c.args.a c.args.b) in
    kept_by s _ (form c.args.kind c.args.a c.args.b) (search rules, search rules, search rules) after c.self.invariant
