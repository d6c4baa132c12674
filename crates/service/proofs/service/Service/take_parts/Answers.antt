use Rattle.std.proofs.Common.{◌-◌, Result, sym, ap, ◌∙◌, subst, arith}
use Rattle.std.specs.declared.alloc.AllocError.{AllocError}
use Rattle.lines.specs.declared.reply.Reply.{Reply}
use Rattle.modefile.specs.Contents.{count}
use Rattle.modefile.specs.Parts.{told_of}
use Rattle.service.specs.Kept.{Kept}
use Rattle.service.specs.Files.{take_from, HasSheet}
use Rattle.service.specs.Meaning.{Performed}
use Rattle.service.specs.View.{kept_of}
use Rattle.service.proofs.PartsTaken.{reader_there, reader_done, reader_moves, part_taken, part_stopped, take_end, count_few}
use Rattle.service.proofs.service.Service.take_parts.Goals as goal

pub overflow_add-taken : goal.overflow_add-taken
overflow_add-taken c =
    let file = c.args.listed.bytes.now in
    let there = reader_there _ file _ c.loop-part.taken c.loop-part.invariant.1 c.loop-part.invariant.2 (told_of c.in-Ok.part) c.in-Ok.ensures.part in
    omega (arith, there.below, count_few file c.args.listed.in_order)

pub loop-part-smaller : goal.loop-part-smaller
loop-part-smaller c =
    let file = c.args.listed.bytes.now in
    let there = reader_there _ file _ c.loop-part.taken c.loop-part.invariant.1 c.loop-part.invariant.2 (told_of c.in-Ok.part) c.in-Ok.ensures.part in
    omega (arith, there.below)

pub loop-part-preserved : goal.loop-part-preserved
loop-part-preserved c =
    let file = c.args.listed.bytes.now in
    let i = c.loop-part.taken in
    let inv = c.loop-part.invariant in
    let t = told_of c.in-Ok.part in
    let there = reader_there _ file _ i inv.1 inv.2 t c.in-Ok.ensures.part in (
      inv.0 ∙ part_taken (kept_of c.loop-part.self) file i t there (kept_of c.take_part.new.self) c.in_default-take_part.ensures,
      c.in-Ok.ensures.file ∙ inv.1,
      reader_moves _ file _ i inv.1 inv.2 t _ there c.in-Ok.ensures.moved,
      omega (arith, there.below),
    )

pub returns-in-Err : goal.returns-in-Err
returns-in-Err c =
    let file = c.args.listed.bytes.now in
    let i = c.loop-part.taken in
    let inv = c.loop-part.invariant in
    let t = told_of c.in-Ok.part in
    let there = reader_there _ file _ i inv.1 inv.2 t c.in-Ok.ensures.part in
    let later = kept_of c.take_part.new.self in
    let due = part_stopped (kept_of c.loop-part.self) file i t there c.in-Err.why later c.in-Err.ensures in
    let said = subst (λ (r : Result Reply AllocError). Performed (take_from (kept_of c.loop-part.self) file i (count file - i)) (HasSheet file) r later) (sym c.stopped.ensures) due in
    subst (λ (p : Reply × Kept). Performed p (HasSheet file) c.stopped.result later) (sym inv.0) said

pub returns : goal.returns
returns c =
    let file = c.args.listed.bytes.now in
    let i = c.loop-part.taken in
    let inv = c.loop-part.invariant in
    let done = reader_done _ file _ i inv.1 inv.2 c.in_default.field-0 c.args.listed.in_order c.in_default.ensures.part in
    let due = inv.0 ∙ take_end (kept_of c.loop-part.self) file i done inv.3 in
    (ap (λ (p : Reply × Kept). p.0) (sym due), ap (λ (p : Reply × Kept). p.1) (sym due))
