use Rattle.std.proofs.Common.{List, sym, ap, ◌∙◌}
use Rattle.forms.specs.declared.form.Form.{Form}
use Rattle.protocol.specs.State.{with_table}
use Rattle.protocol.specs.Bodies.{forms_body}
use Rattle.protocol.specs.Calls.{load}
use Rattle.protocol.proofs.Loads.{answer_of-on_load, state_of-on_load}
use Rattle.register.specs.Loads.{loaded_answer}
use Rattle.register.proofs.Kept.{seen, kept_by}
use Rattle.register.proofs.TreeLoad.{AreBytes_all, loaded_answer-answer_from}
use Rattle.register.proofs.register.Register.load_forms.Goals as goal

pub invariant_of-self : goal.invariant_of-self
invariant_of-self c =
    let s = seen c.self.inside in
    let bytes = c.args.bytes.now in
    let after = ap (λ (T : List Form). with_table s T) c.load.ensures.after ∙ sym (state_of-on_load s bytes) in
    kept_by s _ (load (forms_body bytes)) (AreBytes_all bytes c.type_inv.bytes) after c.self.invariant

pub returns : goal.returns
returns c =
    let s = seen c.self.inside in
    let bytes = c.args.bytes.now in
    rw (← c.self.view_is) (record {
      answer = ap loaded_answer c.load.ensures.answer ∙ loaded_answer-answer_from _ ∙ sym (answer_of-on_load s bytes);
      after = ap (λ (T : List Form). with_table s T) c.load.ensures.after ∙ sym (state_of-on_load s bytes);
    })
