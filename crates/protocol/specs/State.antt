-- What the register keeps: a table of forms, a book of lines, and a walk.
use Rattle.std.specs.Prelude.{ℕ, suc, Bool, true, false, List, [], ◌∷◌, ◌++◌, take, drop, find, Some, None, Option, ◌==◌}
use Rattle.std.specs.Option.{option_map}
use Rattle.forms.specs.Forms.{Table}
use Rattle.walk.specs.Progress.{Progress, absent}
use Rattle.protocol.specs.declared.line.Standing.{Standing}
use Rattle.protocol.specs.declared.line.Line.{Line}

-- lines in the order in which they came
abbrev pub Book : Type 0
Book = List Line

pub record State : Type 0 where
  pub table : Table
  pub book : Book
  pub walk : Progress

-- as it is made
abbrev pub made_state : State
made_state = record { table = []; book = []; walk = absent }

abbrev pub most_lines : ℕ
most_lines = 64

-- how the set stands, by the first line of the book that is its own
abbrev pub standing : Book → ℕ → Option Standing
standing book set = option_map (λ line. line.standing) (find (λ line. line.set == set) book)

-- it stands neither way
abbrev pub is_free : Option Standing → Bool
is_free None = true
is_free (Some how) = false

-- the book with a line more, or without one
abbrev pub joined_by : Book → Line → Book
joined_by book line = book ++ line ∷ []

abbrev pub without : ℕ → Book → Book
without line book = take line book ++ drop (suc line) book

-- the register with one part replaced
abbrev pub with_table : State → Table → State
with_table s table = record { table = table; book = s.book; walk = s.walk }

abbrev pub with_book : State → Book → State
with_book s book = record { table = s.table; book = book; walk = s.walk }

abbrev pub with_walk : State → Progress → State
with_walk s walk = record { table = s.table; book = s.book; walk = walk }

abbrev pub with_line : State → ℕ → Standing → State
with_line s set how = with_book s (joined_by s.book (record { set = set; standing = how }))
