use Rattle.std.proofs.Common.{◌≡◌, ◌+◌, ◌*◌, ◌≤◌, length, take}
use Rattle.forms.specs.Bodies.{records}
use Rattle.forms.specs.Loading.{records_result}
use Rattle.forms.specs.Places.{with_free_places}
use Rattle.forms.proofs.table.Table.load.Given as goal

abbrev pub invariant-loop-rest : goal.invariant-loop-rest
invariant-loop-rest l = record {
  grown : l.before ≤ l.guard.count.now.len;
  few : l.guard.count.now.len ≤ 64;
  sized : length l.self-inside.1.0 ≡ 64;
  free : l.self-inside.1.0 ≡ with_free_places (take l.guard.count.now.len l.self-inside.1.0);
  front : take l.before l.self-inside.1.0 ≡ l.fn.self;
  whole : 3 * l.record + length l.rest ≡ length l.body;
  same_end : records_result (take l.guard.count.now.len l.self-inside.1.0) l.record (records l.rest) ≡ records_result l.fn.self 0 (records l.body);
}

abbrev pub decreases-loop-rest : goal.decreases-loop-rest
decreases-loop-rest l = length l.rest
