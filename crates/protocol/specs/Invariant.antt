-- What holds of a register after any calls.
use Rattle.std.specs.Prelude.{◌≡◌, ℕ, ◌≤◌, true, List, [], ◌∷◌, length, None, ⊤}
use Rattle.forms.specs.Forms.{Table, IsLawfulTable}
use Rattle.forms.specs.Sets.{is_within}
use Rattle.tableau.specs.declared.goals.Step.{Step}
use Rattle.tableau.specs.Walk.{start, Run}
use Rattle.walk.specs.Progress.{Progress, absent, present}
use Rattle.protocol.specs.declared.line.Standing.{Standing}
use Rattle.protocol.specs.declared.line.Standing.TheVariants.{Impossible, Possible}
use Rattle.protocol.specs.declared.line.Line.{Line}
use Rattle.protocol.specs.State.{Book, State, most_lines, standing}
use Rattle.protocol.specs.Promises.{HoldsNowhere, HoldsSomewhere}

-- what a line says of its set
abbrev pub Tells : Table → ℕ → Standing → Type 0
Tells T set Impossible = HoldsNowhere T set
Tells T set Possible = HoldsSomewhere T set

-- the line's set is of the table's forms, and what it says of the set is so
abbrev pub IsTrueLine : Table → Line → Type 0
IsTrueLine T line = (is_within T line.set ≡ true) × Tells T line.set line.standing

abbrev pub AllLines : (Line → Type 0) → Book → Type 0
AllLines P [] = ⊤
AllLines P (line ∷ book) = P line × AllLines P book

-- no set has two lines
abbrev pub HasNoSetTwice : Book → Type 0
HasNoSetTwice [] = ⊤
HasNoSetTwice (line ∷ book) = (standing book line.set ≡ None) × HasNoSetTwice book

-- the walk came from its root set by accepted steps over the present table
abbrev pub IsWalked : Table → Progress → Type 0
IsWalked T absent = ⊤
IsWalked T (present root walk) = (is_within T root ≡ true) × ((sts : List Step) × Run T (start root) sts walk)

pub record IsSound (s : State) : Type 0 where
  pub lawful : IsLawfulTable s.table
  pub short : length s.book ≤ most_lines
  pub distinct : HasNoSetTwice s.book
  pub lines : AllLines (IsTrueLine s.table) s.book
  pub walked : IsWalked s.table s.walk
