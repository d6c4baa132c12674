use Rattle.std.proofs.Common.{ℕ, ◌&&◌, true, false, rules, arith}
use borrow.Author.Tests.{tests}
use Rattle.std.proofs.lemmas.Iterator.{YieldsList-from_range, cases_from_any, serves_from_Range}
use Rattle.label.proofs.AnyAndAll.{Passes, any_below}
use Rattle.label.proofs.successors.some_successor.Goals as goal

pub any-requires-clause-callable : goal.any-requires-clause-callable
any-requires-clause-callable g c = serves_from_Range (λ x q k. search rules) (λ x low high. c.requires x (omega arith))

pub returns : goal.returns
returns g c set tells =
    let m = g.M.Machine.model c.args.machine.now in
    let test = λ (t : ℕ). m.leads c.args.s t && set t in
    any_below m.count test c.any.result
    (cases_from_any _ _ _ (Passes m.count test true) (Passes m.count test false) c.any.ensures.ran
    (YieldsList-from_range 0 m.count m.count (cc) (omega arith)) (λ x q k. search (rules, tests)) (λ x q k. search (rules, tests)))
