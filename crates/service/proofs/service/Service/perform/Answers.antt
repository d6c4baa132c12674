use Rattle.std.proofs.Common.{sym, ap, ◌∙◌}
use Rattle.lines.specs.declared.command.Command.{Command}
use Rattle.protocol.specs.State.{State}
use Rattle.service.specs.Kept.{with_register}
use Rattle.service.specs.Meaning.{reply_of, reply_to}
use Rattle.service.specs.View.{kept_of}
use Rattle.service.proofs.service.Service.perform.Goals as goal

pub returns-in-Form : goal.returns-in-Form
returns-in-Form c =
    let k = kept_of c.args.self.now in
    let file = c.args.file.now in (
      c.number_reply.ensures ∙ ap reply_of c.form.ensures.answer ∙ ap (λ (x : Command). (reply_to k file x).0) (sym c.in-Form.is),
      ap (λ (s : State). with_register k s) c.form.ensures.after ∙ ap (λ (x : Command). (reply_to k file x).1) (sym c.in-Form.is),
    )
