use Rattle.std.proofs.Common.{◌≤◌, vec_items, vec_len}
use Rattle.lines.proofs.Pieces.{Begun}
use Rattle.lines.proofs.input.next_line.Given as goal

-- what was read of the line so far
abbrev pub invariant-loop : goal.invariant-loop
invariant-loop g l = record {
  short : vec_len l.line ≤ 101;
  read : Begun (g.R.Read.remaining l.fn.input) (g.R.Read.remaining l.input) (vec_items l.line) l.begun;
}
