use Rattle.std.proofs.Common.{rules, length, Some, refl}
use Rattle.std.specs.Bool.{⊤}
use Rattle.std.proofs.lemmas.Fn.{serves_by}
use Rattle.std.proofs.lemmas.Iterator.{YieldsList-from_slice}
use Rattle.std.proofs.lemmas.Iterator.Consumers.{YieldsList-turn}
use Rattle.lines.proofs.Digits.{digit_at, value_folded, IsValue_folded}
use Rattle.lines.proofs.number.value.Goals as goal

-- each byte that the closure is given is a digit
pub try_fold-requires-clause-callable : goal.try_fold-requires-clause-callable
try_fold-requires-clause-callable c = serves_by _ (λ _ _. ⊤) (λ _ _ _ _ _ _. tt) _ _ _ _ tt (λ xs t _ x u y s _.
    let turn = YieldsList-turn (YieldsList-from_slice c.args.digits.now cc) xs t y (Some x) u x refl s in
    let low = digit_at c.args.digits.now (length xs) x.now turn.0 c.requires in
    search rules)

pub returns : goal.returns
returns c =
    let digits = c.args.digits.now in
    let folded = value_folded _ (λ n x m k. search rules) (λ n x k. search rules) digits _ _ (YieldsList-from_slice digits cc) c.try_fold.result c.try_fold.ensures.ran in
    rw c.ok_or.ensures.value (IsValue_folded digits c.try_fold.result c.requires (search rules) (search rules) folded)
