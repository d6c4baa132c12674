use Rattle.std.proofs.Common.{◌≡◌, ◌+◌, ◌*◌, ◌≤◌}
use Rattle.modefile.specs.Contents.{place_at}
use Rattle.modefile.proofs.contents.end.Given as goal

abbrev pub invariant-loop-line : goal.invariant-loop-line
invariant-loop-line l = (l.place ≡ place_at l.bytes l.line-index) × (l.place ≤ 1276 + 4294967296 * l.line-index)
