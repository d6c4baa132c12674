use Rattle.std.proofs.Common.{◌≡◌, ◌-◌, ◌≤◌}
use Rattle.modefile.specs.Contents.{count}
use Rattle.service.specs.Files.{take_from}
use Rattle.service.specs.View.{kept_of}
use Rattle.service.proofs.service.Service.take_parts.Given as goal

-- the parts that are left, from what the others led to, come to what all do
abbrev pub invariant-loop-part : goal.invariant-loop-part
invariant-loop-part l =
    let file = l.initial.listed.bytes.now in
    (take_from (kept_of l.initial.self) file 0 (count file) ≡ take_from (kept_of l.self) file l.taken (count file - l.taken))
    × (l.listed.bytes.now ≡ file)
    × (l.listed.next ≡ l.taken)
    × (l.taken ≤ count file)

abbrev pub decreases-loop-part : goal.decreases-loop-part
decreases-loop-part l = count l.initial.listed.bytes.now - l.taken
