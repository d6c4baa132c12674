-- The marks of the table on two machines, computed.
use Rattle.std.proofs.Common.{refl}
use Rattle.ctl.specs.Search.{some, every, first}
use Rattle.ctl.specs.Rounds.{iterate, limit, rounds}
use Rattle.ctl.specs.Truth.{truth, form_rounds}
use Rattle.forms.specs.Meaning.{formula_at_depth, formula}
use Rattle.label.specs.Show.{mark, mark_below, rounds_of, rounds_below}
use Rattle.protocol.specs.Calls.{held_part}
use Rattle.worked.specs.Examples.{TwoRowsAnswer, TimerOfThree}

pub two_rows_answer : TwoRowsAnswer
unfolding held_part mark mark_below rounds_of rounds_below formula formula_at_depth truth form_rounds rounds first limit iterate some every
two_rows_answer = (refl, refl, refl, refl, refl, refl, refl, refl)

pub timer_of_three : TimerOfThree
unfolding mark mark_below rounds_of rounds_below formula formula_at_depth truth form_rounds rounds first limit iterate some every
timer_of_three = (refl, refl, refl, refl, refl, refl, refl)
