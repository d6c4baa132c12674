-- Set 0 holds at every state, so an accepted show of it enters it.
use Rattle.std.proofs.Common.{ℕ, ◌<◌, not, ◌&&◌, ◌||◌, ltb, leb, [], ◌∷◌, length, subst, arith}
use Rattle.std.proofs.lemmas.Bool.{both_ways, ltb-true}
use Rattle.ctl.specs.Model.{Model}
use Rattle.forms.specs.declared.refusal.Refusal.TheVariants.{SetBeyondTable, StateBeyondMachine, BuffersTooShort, BookFull}
use Rattle.forms.specs.Sets.{member, is_within}
use Rattle.forms.proofs.SetsWithin.{none_above}
use Rattle.label.specs.Show.{rounds_of}
use Rattle.protocol.specs.State.{State, most_lines, standing, is_free}
use Rattle.protocol.specs.Calls.{show, Outcome, taken, outcome_given, held_part, state_after_show, answer, answer_of}
use Rattle.protocol.specs.Runs.{IsAccepted, reached_state}
use Rattle.protocol.proofs.Outcomes.{passed}
use Rattle.protocol.proofs.Kept.{promises}
use Rattle.worked.specs.Examples.{Set0IsEntered}

-- an accepted show is at a state of the machine
at_a_state : (s : State) (set t : ℕ) (m : Model) (marks scratch : ℕ) → IsAccepted (answer s (show set t m marks scratch)) → t < m.count
at_a_state s set t m marks scratch a =
    let last : Outcome = taken (held_part s.table m set t ∷ rounds_of s.table m ∷ []) (state_after_show s set (held_part s.table m set t)) in
    let booked : Outcome = outcome_given (not (is_free (standing s.book set)) || ltb (length s.book) most_lines) BookFull last in
    let lent : Outcome = outcome_given (leb m.count marks && leb m.count scratch) BuffersTooShort booked in
    let within_table = passed (is_within s.table set) SetBeyondTable (outcome_given (ltb t m.count) StateBeyondMachine lent) a in
    ltb-true t m.count (passed (ltb t m.count) StateBeyondMachine lent (subst (λ o. IsAccepted (answer_of o)) within_table.1 a)).0

pub set_0_is_entered : Set0IsEntered
set_0_is_entered calls lawful t m marks scratch sound a =
    (promises calls lawful).shown_is_possible 0 t m marks scratch (omega arith, sound) a
    (at_a_state (reached_state calls) 0 t m marks scratch a, λ f e. absurd (both_ways (member 0 f) (none_above 0 0 f (omega arith) (omega arith)) e))
