use Rattle.std.proofs.Common.{ℤ, pos, ◌+ℤ◌, take, ◌∙◌, rules, arith}
use borrow.Author.Tests.{tests}
use Rattle.std.proofs.lemmas.Iterator.{YieldsList-from_slice}
use Rattle.std.proofs.lemmas.Iterator.Search.{any_from_yields_List}
use Rattle.machine.specs.Sheet.{is_row}
use Rattle.machine.proofs.BelowTests.{list_any-some}
use Rattle.machine.proofs.row.Row.leads.Goals as goal

pub returns : goal.returns
returns c =
    let row = c.args.self.now in
    let leads = λ (offset : ℤ). is_row c.args.t (pos c.args.s +ℤ offset) in
    any_from_yields_List leads _ _ c.any.result c.any.ensures.ran (YieldsList-from_slice (take row.degree row.offsets) cc) (λ x b q k. search (rules, tests))
    ∙ list_any-some leads row.offsets (pos 0) row.degree (omega arith)
