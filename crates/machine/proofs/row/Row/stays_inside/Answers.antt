use Rattle.std.proofs.Common.{ℤ, pos, ◌+ℤ◌, take, ◌∙◌, rules, arith}
use borrow.Author.Tests.{tests}
use Rattle.std.proofs.lemmas.Iterator.{YieldsList-from_slice}
use Rattle.std.proofs.lemmas.Iterator.Search.{all_from_yields_List}
use Rattle.machine.specs.Faults.{is_inside}
use Rattle.machine.proofs.BelowTests.{list_all-every}
use Rattle.machine.proofs.row.Row.stays_inside.Goals as goal

pub returns : goal.returns
returns c =
    let row = c.args.self.now in
    let stays = λ (offset : ℤ). is_inside c.args.n (pos c.args.s +ℤ offset) in
    all_from_yields_List stays _ _ c.all.result c.all.ensures.ran (YieldsList-from_slice (take row.degree row.offsets) cc) (λ x b q k. search (rules, tests))
    ∙ list_all-every stays row.offsets (pos 0) row.degree (omega arith)
