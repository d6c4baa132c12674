use Rattle.std.proofs.Common.{◌≡◌, ◌-◌, ◌/◌, ℕ, List, length, take, drop, ap, ◌∙◌, arith, length-drop}
use Rattle.std.specs.Simd.{first_chunks}
use Rattle.std.proofs.lemmas.List.{take_all}
use Rattle.modefile.specs.Contents.{count, lines_of}
use Rattle.forms.proofs.Chunks.{take-first_chunks, length-first_chunks}
use Rattle.modefile.proofs.contents.lines.Goals as goal

pub returns : goal.returns
returns c =
    let bytes = c.args.bytes.now in
    let whole : take (length bytes - 1) (drop 1 bytes) ≡ drop 1 bytes = take_all (length bytes - 1) (drop 1 bytes) (omega (arith, length-drop 1 bytes)) in
    let cut = c.as_chunks.ensures.front ∙ ap (λ (l : List ℕ). first_chunks 5 (length l / 5) l) whole in
    let value : take c.from.result c.as_chunks.result.0.now ≡ lines_of bytes =
    ap (λ (k : ℕ). take k c.as_chunks.result.0.now) c.from.ensures ∙ ap (take (count bytes)) cut ∙ take-first_chunks 5 (count bytes) (length (drop 1 bytes) / 5) (drop 1 bytes) (omega (arith, length-drop 1 bytes)) in
    record { value = value; len = ap length value ∙ length-first_chunks 5 (count bytes) (drop 1 bytes) }
