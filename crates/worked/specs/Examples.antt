-- Examples worked by hand: a table, a sheet of two rows, a timer, a refutation, and what is refused.
use Rattle.std.specs.Prelude.{◌≡◌, ℕ, ◌-◌, true, List, [], ◌∷◌, ◌++◌, length, take, replicate, Some, None}
use Rattle.ctl.specs.Model.{Model}
use Rattle.forms.specs.declared.form.Form.TheVariants.{Truth, Falsity, Atom, Absent, Next, Until, Release}
use Rattle.forms.specs.declared.form.Quantifier.TheVariants.{Exists, Every}
use Rattle.forms.specs.declared.refusal.Refusal.TheVariants.{OperandNotEarlier, DoesNotClose, RowOffset}
use Rattle.forms.specs.Forms.{Table}
use Rattle.forms.specs.Refusals.{rejected_at, number_of}
use Rattle.forms.specs.Sets.{member}
use Rattle.machine.specs.declared.row.Row.{Row}
use Rattle.machine.specs.Interface.{IsSoundMachine}
use Rattle.machine.specs.Timer.{timer}
use Rattle.machine.specs.Sheet.{sheet}
use Rattle.machine.specs.Rows.{decoded_row, row_leads}
use Rattle.machine.specs.Faults.{row_fault, sheet_fault}
use Rattle.label.specs.Show.{mark, rounds_of}
use Rattle.protocol.specs.declared.line.Standing.TheVariants.{Impossible, Possible}
use Rattle.protocol.specs.State.{State}
use Rattle.protocol.specs.Calls.{Call, form, open_at, node, enter, show, Answer, ok, refused, answer, state_after}
use Rattle.protocol.specs.Runs.{AllLawful, IsAccepted, state_from, reached_state}
use Rattle.protocol.specs.Promises.{StandsAs}

-- what each of the calls answers, one after the other
abbrev pub answers : State → List Call → List Answer
answers s [] = []
answers s (call ∷ calls) = answer s call ∷ answers (state_after s call) calls

-- "on all paths atom 0 comes" (form 4), "on some path it never does" (form 5), and the next forms of both
abbrev pub example_table : Table
example_table = Truth ∷ Falsity ∷ Atom 0 ∷ Absent 0 ∷ Until Every 0 2 ∷ Release Exists 1 3 ∷ Next Every 4 ∷ Next Exists 5 ∷ []

abbrev pub forming_calls : List Call
forming_calls = form 0 0 0 ∷ form 1 0 0 ∷ form 2 0 0 ∷ form 3 0 0 ∷ form 9 0 2 ∷ form 10 1 3 ∷ form 7 4 0 ∷ form 6 5 0 ∷ []

-- a register that was made and brought these forms
abbrev pub filled_state : State
filled_state = reached_state forming_calls

abbrev pub TableIsFilled : Type 0
TableIsFilled = filled_state.table ≡ example_table

-- the bytes of a row of a sheet: atoms up to 7, the degree, and the bytes of the offsets that are not 0
abbrev pub row : (atoms degree : ℕ) → (offsets : List ℕ) → List ℕ
row atoms degree offsets = atoms ∷ 0 ∷ 0 ∷ 0 ∷ degree ∷ (offsets ++ replicate (16 - length offsets) 0)

-- row 0 has no atom and leads to itself and to row 1; row 1 has atom 0 and leads to itself
abbrev pub two_rows : List ℕ
two_rows = 2 ∷ 0 ∷ (row 0 2 (0 ∷ 0 ∷ 1 ∷ 0 ∷ []) ++ row 1 1 [])

-- the sheet is accepted; its marks and rounds, and what shows of sets 48 and 16 answer and leave
abbrev pub TwoRowsAnswer : Type 0
TwoRowsAnswer =
    (sheet_fault two_rows ≡ None)
    × (mark example_table (sheet two_rows) 0 ≡ 169)
    × (mark example_table (sheet two_rows) 1 ≡ 85)
    × (rounds_of example_table (sheet two_rows) ≡ 4)
    × (answer filled_state (show 48 0 (sheet two_rows) 2 2) ≡ ok (32 ∷ 4 ∷ []))
    × (state_after filled_state (show 48 0 (sheet two_rows) 2 2) ≡ filled_state)
    × (answer filled_state (show 16 1 (sheet two_rows) 2 2) ≡ ok (16 ∷ 4 ∷ []))
    × StandsAs (state_after filled_state (show 16 1 (sheet two_rows) 2 2)) 16 Possible

-- form 4 holds at all three states
abbrev pub TimerOfThree : Type 0
TimerOfThree =
    (mark example_table (timer 3 0) 0 ≡ 89)
    × (mark example_table (timer 3 0) 1 ≡ 89)
    × (mark example_table (timer 3 0) 2 ≡ 85)
    × (member (mark example_table (timer 3 0) 0) 4 ≡ true)
    × (member (mark example_table (timer 3 0) 1) 4 ≡ true)
    × (member (mark example_table (timer 3 0) 2) 4 ≡ true)
    × (rounds_of example_table (timer 3 0) ≡ 8)

-- the steps of a refutation of forms 4 and 5, after the first, which brings the focus to form 4
abbrev pub unfocused_calls : List Call
unfocused_calls = node 5 5 7 ∷ node 2 1 0 ∷ node 5 4 6 ∷ node 1 2 3 ∷ node 7 7 0 ∷ node 5 5 7 ∷ node 2 1 0 ∷ node 8 3 0 ∷ []

abbrev pub refutation_calls : List Call
refutation_calls = open_at 48 ∷ node 6 4 0 ∷ (unfocused_calls ++ enter ∷ [])

-- with its first step it is taken whole; without, its last step does not close its goal
abbrev pub Set48IsRefuted : Type 0
Set48IsRefuted =
    (answers filled_state refutation_calls
    ≡ ok (1 ∷ []) ∷ ok (1 ∷ []) ∷ ok (2 ∷ []) ∷ ok (1 ∷ []) ∷ ok (2 ∷ []) ∷ ok (1 ∷ []) ∷ ok (1 ∷ []) ∷ ok (2 ∷ []) ∷ ok (1 ∷ []) ∷ ok (0 ∷ [])
    ∷ ok (0 ∷ []) ∷ [])
    × StandsAs (state_from filled_state refutation_calls) 48 Impossible
    × (answers filled_state (open_at 48 ∷ unfocused_calls)
    ≡ ok (1 ∷ []) ∷ ok (2 ∷ []) ∷ ok (1 ∷ []) ∷ ok (2 ∷ []) ∷ ok (1 ∷ []) ∷ ok (1 ∷ []) ∷ ok (2 ∷ []) ∷ ok (1 ∷ []) ∷ refused DoesNotClose 0 ∷ [])
    × (number_of DoesNotClose ≡ 9)

-- an offset of -1 in row 0 leads outside: it is 255, 255 in two's complement, low byte first
abbrev pub BeforeRow0 : Type 0
BeforeRow0 = (sheet_fault (1 ∷ 0 ∷ row 0 1 (255 ∷ 255 ∷ [])) ≡ Some (rejected_at RowOffset 0)) × (number_of RowOffset ≡ 12)

-- a row with an offset of -1,023, which is 1, 252
abbrev pub far_back_row : Row
far_back_row = decoded_row (1 ∷ 0 ∷ row 0 1 (1 ∷ 252 ∷ [])) 0

-- as row 1,023 of 1,024 it is accepted, and leads to row 0
abbrev pub Row1023Reaches0 : Type 0
Row1023Reaches0 = (row_fault 1024 1023 far_back_row ≡ None) × (row_leads far_back_row 1023 0 ≡ true)

-- form 5 cannot have operand 5
abbrev pub Operand5InForm5 : Type 0
Operand5InForm5 = (answer (reached_state (take 5 forming_calls)) (form 4 0 5) ≡ refused OperandNotEarlier 0) × (number_of OperandNotEarlier ≡ 3)

-- on every run, an accepted show of set 0 leaves it standing as possible: it holds at every state
abbrev pub Set0IsEntered : Type 0
Set0IsEntered =
    (calls : List Call) → AllLawful calls → (t : ℕ) (m : Model) (marks scratch : ℕ) → IsSoundMachine m
    → IsAccepted (answer (reached_state calls) (show 0 t m marks scratch)) → StandsAs (state_after (reached_state calls) (show 0 t m marks scratch)) 0 Possible
