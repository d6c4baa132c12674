-- What the program answers to a line of its input.
use Rattle.std.specs.Prelude.{◌≡◌, ℕ, ◌⊎◌, List, [], Ok, Result, ⊤}
use Rattle.std.specs.declared.alloc.AllocError.{AllocError}
use Rattle.forms.specs.declared.refusal.Refusal.{Refusal}
use Rattle.lines.specs.declared.command.Command.{Command}
use Rattle.lines.specs.declared.command.Command.TheVariants.{Read}
use Rattle.lines.specs.Grammar.{Asks, IsCommandResult}
use Rattle.service.specs.Kept.{Kept}
use Rattle.service.specs.Meaning.{Answered}

-- what was read of a line is a command to read a file
abbrev pub IsToRead : Result Command Refusal → Type 0
IsToRead (Ok (Read name)) = ⊤
IsToRead _ = ⊥

-- the line is answered as the service answers it, with the bytes of some file, of which no contract can say more; there are none
-- unless the line asks to read a file
abbrev pub AnsweredFromDisk : (line : List ℕ) (before : Kept) → Result Unit AllocError → (bytes : List ℕ) (later : Kept) → Type 0
AnsweredFromDisk line before result bytes later =
    (file : List ℕ)
    × Answered line file before result bytes later
    × ((file ≡ []) ⊎ ((read : Result Command Refusal) × IsCommandResult (Asks line) read × IsToRead read))
