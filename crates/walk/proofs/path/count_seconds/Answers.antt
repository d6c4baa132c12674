use Rattle.std.proofs.Common.{rules, arith, ◌^◌, ◌≤◌, length}
use Rattle.std.proofs.lemmas.Iterator.{YieldsList-from_slice}
use Rattle.std.proofs.lemmas.Iterator.Adapters.{fits_from_length, at_most_from_yields_List}
use Rattle.walk.proofs.Stack.{count_waiting, few_wait}
use Rattle.walk.proofs.path.count_seconds.Goals as goal

-- each frame adds one at most
pub sum-requires-clause-fits : goal.sum-requires-clause-fits
sum-requires-clause-fits c =
    let few : length c.args.path.now ≤ 2 ^ 62 = search rules in
    fits_from_length _ _ (2 ^ 62) (2 ^ 64) (at_most_from_yields_List (YieldsList-from_slice c.args.path.now cc) few) c.map.ensures.closure (omega arith) (λ x r q k. search rules)

pub returns-clause-count : goal.returns-clause-count
returns-clause-count c = search (rules, count_waiting)

pub returns-clause-few : goal.returns-clause-few
returns-clause-few c = omega (arith, returns-clause-count c, few_wait c.args.path.now)
