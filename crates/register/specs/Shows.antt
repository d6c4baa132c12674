-- What a show answers, and what it leaves in the lent buffers.
use Rattle.std.specs.Prelude.{◌≡◌, ℕ, ◌&&◌, List, [], ◌∷◌, Ok, Err, Result, nat_le, nat_lt}
use Rattle.ctl.specs.Model.{Model}
use Rattle.forms.specs.declared.refusal.Refusal.{Refusal}
use Rattle.forms.specs.declared.refusal.Refusal.TheVariants.{SetBeyondTable, StateBeyondMachine, BuffersTooShort, BookFull}
use Rattle.forms.specs.Forms.{Table}
use Rattle.forms.specs.Sets.{is_within}
use Rattle.forms.specs.Tables.{result_given}
use Rattle.label.specs.Show.{IsLabelled}
use Rattle.protocol.specs.State.{State}
use Rattle.protocol.specs.Calls.{Answer, ok, refused}
use Rattle.register.specs.declared.showing.Shown.{Shown}
use Rattle.register.specs.Books.{room_for}

abbrev pub shown_answer : Result Shown Refusal → Answer
shown_answer (Ok x) = ok (x.held ∷ x.rounds ∷ [])
shown_answer (Err why) = refused why 0

-- an accepted show leaves the labelling in the buffers; a refused one leaves them as they were
abbrev pub Buffers : Table → Model → Result Shown Refusal → (marks marks' scratch scratch' : List ℕ) → Type 0
Buffers T m (Ok x) marks marks' scratch scratch' = IsLabelled T m x.rounds marks marks' scratch scratch'
Buffers T m (Err why) marks marks' scratch scratch' = (marks' ≡ marks) × (scratch' ≡ scratch)

-- whether a show on a machine of n states is taken, or else the first reason why not
abbrev pub showable_in : State → (set state n marks scratch : ℕ) → Result Unit Refusal
showable_in s set state n marks scratch =
    result_given (is_within s.table set) SetBeyondTable
    (result_given (nat_lt state n) StateBeyondMachine
    (result_given (nat_le n marks && nat_le n scratch) BuffersTooShort
    (result_given (room_for s.book set) BookFull (Ok tt))))
