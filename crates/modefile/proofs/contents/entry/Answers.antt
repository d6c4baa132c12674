use Rattle.std.proofs.Common.{◌≡◌, ◌<◌, ℕ, List, [], get_or, ap, sym, subst, ◌∙◌, arith}
use Rattle.std.specs.Result.{IsOk}
use Rattle.modefile.specs.Contents.{count, lines_of, kind_of}
use Rattle.modefile.proofs.Order.{IsEntry_line, IsOk-kind_of, kind_of_line}
use Rattle.modefile.proofs.contents.entry.Goals as goal

pub unwrap-requires : goal.unwrap-requires
unwrap-requires c =
    let bytes = c.args.bytes.now in
    let i = c.args.i in
    let below : i < count bytes = omega (arith, c.in_ok-line.ensures.lookup.3.0, c.lines.ensures.len) in
    let line : c.in_ok-line.line.now ≡ get_or (lines_of bytes) i [] = c.in_ok-line.ensures.lookup.3.1 [] ∙ ap (λ (l : List (List ℕ)). get_or l i []) c.lines.ensures.value in
    subst IsOk (sym (c.try_from.ensures ∙ ap (λ (l : List ℕ). kind_of (get_or l 0 0)) line ∙ ap kind_of (kind_of_line bytes i below))) (IsOk-kind_of bytes i c.requires below)

pub returns : goal.returns
returns c =
    let bytes = c.args.bytes.now in
    let i = c.args.i in
    let below : i < count bytes = omega (arith, c.in_ok-line.ensures.lookup.3.0, c.lines.ensures.len) in
    let line : c.in_ok-line.line.now ≡ get_or (lines_of bytes) i [] = c.in_ok-line.ensures.lookup.3.1 [] ∙ ap (λ (l : List (List ℕ)). get_or l i []) c.lines.ensures.value in
    let long = c.length_of.ensures.value in
    let entry = IsEntry_line bytes c.in_ok-line.line.now i c.unwrap.result c.requires below line (sym c.unwrap.ensures ∙ c.try_from.ensures) in
    rw long entry
