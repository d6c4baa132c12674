use Rattle.std.proofs.Common.{◌≡◌, length, map, drop}
use Rattle.machine.specs.Rows.{row_of}
use Rattle.machine.specs.Faults.{rows_fault}
use Rattle.machine.proofs.sheet.check_rows.Given as goal

-- what is wrong with the rows is what is wrong with those that are left
abbrev pub invariant-loop-s : goal.invariant-loop-s
invariant-loop-s l = rows_fault (length l.records) 0 (map row_of l.records) ≡ rows_fault (length l.records) l.s (map row_of (drop l.s l.records))
