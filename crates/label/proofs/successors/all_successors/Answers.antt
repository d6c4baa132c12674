use Rattle.std.proofs.Common.{ℕ, ◌||◌, not, true, false, rules, arith}
use borrow.Author.Tests.{tests}
use Rattle.std.proofs.lemmas.Iterator.{YieldsList-from_range, cases_from_all, serves_from_Range}
use Rattle.label.proofs.AnyAndAll.{Passes, all_below}
use Rattle.label.proofs.successors.all_successors.Goals as goal

pub all-requires-clause-callable : goal.all-requires-clause-callable
all-requires-clause-callable g c = serves_from_Range (λ x q k. search rules) (λ x low high. c.requires x (omega arith))

pub returns : goal.returns
returns g c set tells =
    let m = g.M.Machine.model c.args.machine.now in
    let test = λ (t : ℕ). not (m.leads c.args.s t) || set t in
    all_below m.count test c.all.result
    (cases_from_all _ _ _ (Passes m.count test true) (Passes m.count test false) c.all.ensures.ran
    (YieldsList-from_range 0 m.count m.count (cc) (omega arith)) (λ x q k. search (rules, tests)) (λ x q k. search (rules, tests)))
