-- The lines that a book keeps, and what joins or leaves them.
use Rattle.std.specs.Prelude.{ℕ, Bool, if◌then◌else◌, not, ◌&&◌, ◌||◌, List, [], ◌∷◌, ◌++◌, length, Ok, Err, Result, ◌==◌, nat_lt}
use Rattle.forms.specs.declared.refusal.Refusal.{Refusal}
use Rattle.forms.specs.declared.refusal.Refusal.TheVariants.{BookFull, NoSuchLine}
use Rattle.protocol.specs.declared.line.Line.{Line}
use Rattle.protocol.specs.declared.line.Standing.TheVariants.{Possible}
use Rattle.protocol.specs.State.{most_lines, standing, is_free, without}

-- a line joins at the end where there is room
abbrev pub add_result : List Line → Result ℕ Refusal
add_result lines = if nat_lt (length lines) most_lines then Ok (length lines) else Err BookFull

abbrev pub lines_after_add : List Line → Line → List Line
lines_after_add lines line = if nat_lt (length lines) most_lines then lines ++ line ∷ [] else lines

-- a line that is there goes
abbrev pub strike_result : List Line → ℕ → Result ℕ Refusal
strike_result lines at = if nat_lt at (length lines) then Ok at else Err NoSuchLine

abbrev pub lines_after_strike : List Line → ℕ → List Line
lines_after_strike lines at = if nat_lt at (length lines) then without at lines else lines

-- the set has a line, or a line is free
abbrev pub room_for : List Line → ℕ → Bool
room_for lines set = not (is_free (standing lines set)) || nat_lt (length lines) most_lines

-- the set joins as possible, if all of it is held and it does not stand
abbrev pub lines_after_note : List Line → (set part : ℕ) → List Line
lines_after_note lines set part = if part == set && is_free (standing lines set) then lines_after_add lines (record { set = set; standing = Possible }) else lines
