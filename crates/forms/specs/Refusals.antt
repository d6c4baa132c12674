-- The number of each refusal, and refusals with a place.
use Rattle.std.specs.Prelude.{◌≡◌, ℕ}
use Rattle.forms.specs.declared.refusal.Refusal.{Refusal}
use Rattle.forms.specs.declared.refusal.Refusal.TheVariants.{KindAbove11, AtomAbove31, OperandNotEarlier, SetBeyondTable, StateBeyondMachine, NoSuchStep, NotInGoal, DoesNotFit, DoesNotClose, RowCount, RowDegree, RowOffset, BuffersTooShort, FileShape, PartKind, PartLengths, BodyLength, ProductSize, TimerShape, BadLine, TableFull, BookFull, NoWalk, WalkPresent, GoalsWait, WalkClosed, PathTooLong, SetStands, NoSuchLine, NoPartLeft, NoSheet}
use Rattle.forms.specs.declared.refusal.Rejected.{Rejected}

abbrev pub number_of : Refusal → ℕ
number_of KindAbove11 = 1
number_of AtomAbove31 = 2
number_of OperandNotEarlier = 3
number_of SetBeyondTable = 4
number_of StateBeyondMachine = 5
number_of NoSuchStep = 6
number_of NotInGoal = 7
number_of DoesNotFit = 8
number_of DoesNotClose = 9
number_of RowCount = 10
number_of RowDegree = 11
number_of RowOffset = 12
number_of BuffersTooShort = 13
number_of FileShape = 14
number_of PartKind = 15
number_of PartLengths = 16
number_of BodyLength = 17
number_of ProductSize = 18
number_of TimerShape = 19
number_of BadLine = 20
number_of TableFull = 21
number_of BookFull = 22
number_of NoWalk = 23
number_of WalkPresent = 24
number_of GoalsWait = 25
number_of WalkClosed = 26
number_of PathTooLong = 27
number_of SetStands = 28
number_of NoSuchLine = 29
number_of NoPartLeft = 30
number_of NoSheet = 31

-- no two refusals have one number
abbrev pub NumbersDiffer : Type 0
NumbersDiffer = (e f : Refusal) → number_of e ≡ number_of f → e ≡ f

-- a refusal at a record of a body, or at a contents line of a file
abbrev pub rejected_at : Refusal → ℕ → Rejected
rejected_at why at = record { refusal = why; at = at }
