-- The calls of the register: what each answers, when it is refused, and the register after it.
use Rattle.std.specs.Prelude.{ℕ, suc, Bool, true, false, if◌then◌else◌, not, ◌&&◌, ◌||◌, List, [], ◌∷◌, ◌++◌, length, Ok, Err, Result, ◌==◌, bit_and, nat_le, nat_lt}
use Rattle.ctl.specs.Model.{Model}
use Rattle.forms.specs.declared.form.Form.{Form}
use Rattle.forms.specs.declared.refusal.Refusal.{Refusal}
use Rattle.forms.specs.declared.refusal.Refusal.TheVariants.{SetBeyondTable, StateBeyondMachine, BuffersTooShort, BodyLength, BookFull, SetStands, NoSuchLine}
use Rattle.forms.specs.Bodies.{Record, records, has_forms_length}
use Rattle.forms.specs.Forms.{Table}
use Rattle.forms.specs.Sets.{is_within}
use Rattle.forms.specs.Tables.{accepted_form}
use Rattle.label.specs.Show.{mark, rounds_of}
use Rattle.walk.specs.Progress.{Progress, absent, open_result, step_result, abandon_result, finish_result, waiting_in}
use Rattle.protocol.specs.declared.line.Standing.TheVariants.{Impossible, Possible}
use Rattle.protocol.specs.State.{State, made_state, most_lines, standing, is_free, with_table, with_book, with_walk, with_line, without}
use Rattle.protocol.specs.Bodies.{Body, forms_body, tree_body, set_of, steps_of, has_tree_length}

-- the nine calls, each with what the caller brings; of the marks and the scratch that a show is lent, their lengths count
pub data Call : Type 0 where
  form : (kind a b : ℕ) → Call
  open_at : (set : ℕ) → Call
  node : (number a b : ℕ) → Call
  enter : Call
  abandon : Call
  show : (set state : ℕ) (machine : Model) (marks scratch : ℕ) → Call
  strike : (line : ℕ) → Call
  clear : Call
  load : Body → Call

-- a call is taken, with the numbers that it answers and the register after it, or declined for a reason, in a body at a record
pub data Outcome : Type 0 where
  taken : (numbers : List ℕ) → State → Outcome
  declined : Refusal → (at : ℕ) → Outcome

abbrev pub outcome_given : Bool → Refusal → Outcome → Outcome
outcome_given true why outcome = outcome
outcome_given false why outcome = declined why 0

-- a form that the table takes joins it, and is answered by its number
abbrev pub form_outcome : State → Result Form Refusal → Outcome
form_outcome s (Ok x) = taken (length s.table ∷ []) (with_table s (s.table ++ x ∷ []))
form_outcome s (Err why) = declined why 0

abbrev pub on_form : State → (kind a b : ℕ) → Outcome
on_form s kind a b = form_outcome s (accepted_form (length s.table) kind a b)

-- a change of the walk is answered by how many goals then wait
abbrev pub walk_outcome : State → Result Progress Refusal → Outcome
walk_outcome s (Ok walk) = taken (length (waiting_in walk) ∷ []) (with_walk s walk)
walk_outcome s (Err why) = declined why 0

abbrev pub on_open : State → ℕ → Outcome
on_open s set = outcome_given (is_within s.table set) SetBeyondTable (walk_outcome s (open_result s.walk set))

abbrev pub on_node : State → (number a b : ℕ) → Outcome
on_node s number a b = walk_outcome s (step_result s.table s.walk number a b)

abbrev pub on_abandon : State → Outcome
on_abandon s = walk_outcome s (abandon_result s.walk)

-- the root set of a closed walk is entered as impossible, and the walk ends; the line is answered
abbrev pub enter_outcome : State → Result ℕ Refusal → Outcome
enter_outcome s (Err why) = declined why 0
enter_outcome s (Ok root) =
    outcome_given (is_free (standing s.book root)) SetStands
    (outcome_given (nat_lt (length s.book) most_lines) BookFull
    (taken (length s.book ∷ []) (with_walk (with_line s root Impossible) absent)))

abbrev pub on_enter : State → Outcome
on_enter s = enter_outcome s (finish_result s.walk)

-- the part of the set that holds at the state t
unfoldable pub held_part : Table → Model → (set t : ℕ) → ℕ
held_part T m set t = bit_and set (mark T m t)

-- after a show that found this part of the set
abbrev pub state_after_show : State → (set part : ℕ) → State
state_after_show s set part = if part == set && is_free (standing s.book set) then with_line s set Possible else s

abbrev pub on_show : State → (set state : ℕ) → Model → (marks scratch : ℕ) → Outcome
on_show s set state m marks scratch =
    outcome_given (is_within s.table set) SetBeyondTable
    (outcome_given (nat_lt state m.count) StateBeyondMachine
    (outcome_given (nat_le m.count marks && nat_le m.count scratch) BuffersTooShort
    (outcome_given (not (is_free (standing s.book set)) || nat_lt (length s.book) most_lines) BookFull
    (taken (held_part s.table m set state ∷ rounds_of s.table m ∷ []) (state_after_show s set (held_part s.table m set state))))))

abbrev pub on_strike : State → ℕ → Outcome
on_strike s line = outcome_given (nat_lt line (length s.book)) NoSuchLine (taken (line ∷ []) (with_book s (without line s.book)))

-- what is declined is declined at record i
abbrev pub at_record : ℕ → Outcome → Outcome
at_record i (taken numbers s) = taken numbers s
at_record i (declined why at) = declined why i

-- on from the register that a call leaves; a refusal ends it
abbrev pub and_then : Outcome → (State → Outcome) → Outcome
and_then (taken numbers s) more = more s
and_then (declined why at) more = declined why at

-- a call for each record in turn, the first of which is record i
unfoldable pub in_turn : (State → Record → Outcome) → State → ℕ → List Record → Outcome
in_turn call s i [] = taken [] s
in_turn call s i (r ∷ rest) = and_then (at_record i (call s r)) (λ later. in_turn call later (suc i) rest)

abbrev pub form_on : State → Record → Outcome
form_on s r = on_form s r.0 r.1 r.2

abbrev pub node_on : State → Record → Outcome
node_on s r = on_node s r.0 r.1 r.2

-- a forms body is answered by the number of forms in the table
abbrev pub count_forms : State → Outcome
count_forms s = taken (length s.table ∷ []) s

abbrev pub load_forms : State → List Record → Outcome
load_forms s forms = and_then (in_turn form_on s 0 forms) count_forms

-- a tree body is open, its steps and enter: the first step is record 0, as is open; enter comes one after the last step
abbrev pub load_tree : State → ℕ → List Record → Outcome
load_tree s set steps = and_then (on_open s set) (λ begun. and_then (in_turn node_on begun 0 steps) (λ ended. at_record (length steps) (on_enter ended)))

abbrev pub on_load : State → Body → Outcome
on_load s (forms_body bytes) = outcome_given (has_forms_length bytes) BodyLength (load_forms s (records bytes))
on_load s (tree_body bytes) = outcome_given (has_tree_length bytes) BodyLength (load_tree s (set_of bytes) (steps_of bytes))

abbrev pub outcome : State → Call → Outcome
outcome s (form kind a b) = on_form s kind a b
outcome s (open_at set) = on_open s set
outcome s (node number a b) = on_node s number a b
outcome s enter = on_enter s
outcome s abandon = on_abandon s
outcome s (show set state machine marks scratch) = on_show s set state machine marks scratch
outcome s (strike line) = on_strike s line
outcome s clear = taken (0 ∷ []) made_state
outcome s (load body) = on_load s body

-- what a call answers: numbers, or a refusal, in a body at a record
pub data Answer : Type 0 where
  ok : (numbers : List ℕ) → Answer
  refused : Refusal → (at : ℕ) → Answer

abbrev pub answer_of : Outcome → Answer
answer_of (taken numbers s) = ok numbers
answer_of (declined why at) = refused why at

-- a refused call leaves the register as it was
abbrev pub state_of : State → Outcome → State
state_of before (taken numbers s) = s
state_of before (declined why at) = before

abbrev pub answer : State → Call → Answer
answer s call = answer_of (outcome s call)

abbrev pub state_after : State → Call → State
state_after s call = state_of s (outcome s call)
