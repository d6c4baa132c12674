use Rattle.std.proofs.Common.{rules}
use Rattle.forms.proofs.Numbering.{numbers_differ}
use Rattle.lines.proofs.Lines.{line_determines_reply, reads_back, written}
use Rattle.lines.proofs.reply.put_reply.Goals as goal

pub returns-clause-bytes : goal.returns-clause-bytes
returns-clause-bytes c = written c.write.result _ _ c.args.reply c.write.ensures.bytes (search rules)

pub returns-clause-determined : goal.returns-clause-determined
returns-clause-determined c = line_determines_reply

pub returns-clause-numbers_differ : goal.returns-clause-numbers_differ
returns-clause-numbers_differ c = numbers_differ

pub returns-clause-read_back : goal.returns-clause-read_back
returns-clause-read_back c = reads_back
