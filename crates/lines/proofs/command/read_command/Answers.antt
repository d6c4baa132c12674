use Rattle.std.proofs.Common.{length, refl, arith, rules}
use Rattle.std.proofs.lemmas.Slice.{first_rest}
use Rattle.std.specs.List.{between}
use Rattle.lines.proofs.Asking.{sayable_is_askable}
use Rattle.lines.proofs.Letters.{at_most_one}
use Rattle.lines.proofs.Split.{understood_line, too_long, nothing_asked}
use Rattle.lines.proofs.command.read_command.Goals as goal

pub returns-then-line-gt-LONGEST : goal.returns-then-line-gt-LONGEST
returns-then-line-gt-LONGEST c = record { command = (refl, too_long c.args.line.now (omega arith)); alone = at_most_one c.args.line.now; all = sayable_is_askable }

pub returns-in-empty : goal.returns-in-empty
returns-in-empty c = record { command = (refl, nothing_asked c.args.line.now (search rules)); alone = at_most_one c.args.line.now; all = sayable_is_askable }

pub returns-in-len1-up : goal.returns-in-len1-up
returns-in-len1-up c = record {
  command = understood_line c.args.line.now c.from.result (between 1 (length c.args.line.now) c.args.line.now) c.lettered.result
      (let e = first_rest c.args.line.now 0 (search rules) in rw c.from.ensures e) (omega arith) c.lettered.ensures;
  alone = at_most_one c.args.line.now;
  all = sayable_is_askable;
}
