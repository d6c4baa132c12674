use Rattle.std.proofs.Common.{ℕ, List, sym, ◌∙◌, rules}
use borrow.Author.Tests.{tests}
use Rattle.std.specs.List.{slice_index}
use Rattle.std.specs.Result.{is_err}
use Rattle.std.proofs.lemmas.Iterator.{YieldsList-from_slice}
use Rattle.std.proofs.lemmas.Iterator.Search.{position_from_yields_List}
use Rattle.std.proofs.lemmas.Iterator.Adapters.{position_from-zero}
use Rattle.modefile.specs.Contents.{count, lines_of, kind_of}
use Rattle.modefile.proofs.Order.{unknown_from_lines}
use Rattle.modefile.proofs.contents.unknown_kind.Goals as goal

pub returns : goal.returns
returns c =
    let bytes = c.args.bytes.now in
    let unknown = λ (line : List ℕ). is_err (kind_of (slice_index line 0)) in
    position_from_yields_List unknown _ _ c.position.result c.position.ensures.ran (YieldsList-from_slice (lines_of bytes) cc) (λ x b q k. search (rules, tests))
    ∙ position_from-zero unknown (lines_of bytes)
    ∙ sym (unknown_from_lines bytes 0 (count bytes))
