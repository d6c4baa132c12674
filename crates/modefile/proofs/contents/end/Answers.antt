use Rattle.std.proofs.Common.{ℕ, List, [], get_or, ap, arith, ◌∙◌}
use Rattle.modefile.specs.Contents.{length_of}
use Rattle.modefile.proofs.Order.{place_at_more, length_of_line}
use Rattle.modefile.proofs.contents.end.Goals as goal

pub loop-line-preserved : goal.loop-line-preserved
loop-line-preserved c =
    let i = c.loop-line.line-index in
    let bytes = c.args.bytes.now in
    let long = c.length_of-place.ensures.value ∙ ap (λ (l : List (List ℕ)). length_of (get_or l i [])) c.lines-lines.ensures.value ∙ length_of_line bytes i (omega (arith, c.lines-lines.ensures.len)) in
    (omega (arith, place_at_more bytes i, long), omega (arith, c.length_of-place.ensures.bound))
