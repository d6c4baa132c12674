use Rattle.std.proofs.Common.{◌≡◌, length, take}
use Rattle.lines.proofs.Split.{Continues}
use Rattle.lines.proofs.number.numbers.Given as goal

-- the numbers so far, and what follows them
abbrev pub invariant-loop-number : goal.invariant-loop-number
invariant-loop-number g l = record { long : length l.number-items ≡ g.row.N; on : Continues l.text (take l.number-index l.number-items) l.rest }
