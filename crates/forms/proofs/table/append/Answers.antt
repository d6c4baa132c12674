use Rattle.std.proofs.Common.{◌<◌, length, take, ◌∙◌, arith, rules}
use Rattle.std.proofs.lemmas.List.{length-take-le, take_more_set, take-set}
use Rattle.forms.proofs.Joining.{joins}
use Rattle.forms.proofs.Places.{places_written}
use Rattle.forms.proofs.table.append.Goals as goal

pub returns : goal.returns
returns c =
    let forms = c.args.forms.now in
    let len = c.args.count.now.len in
    let form = c.in_ok-form.form in
    let here : len < length forms = search rules in
    let h = joins (take len forms) len c.args.kind c.args.a c.args.b (length-take-le len forms (omega arith)) form c.in_ok-form.ensures.value in
    record { number = h.0; after = take_more_set forms len form here ∙ h.1; grown = omega arith; few = omega arith; before = take-set forms len form; sized = search rules; free = places_written forms len (omega arith) form (omega arith) here }
