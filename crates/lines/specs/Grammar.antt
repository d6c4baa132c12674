-- The language of lines: which command a line asks for.
use Rattle.std.specs.Prelude.{◌≡◌, ℕ, ◌^◌, ◌<◌, ◌≤◌, List, [], ◌∷◌, ◌++◌, length, Ok, Err, codes, Result, slice_index, ⊤}
use Prim.Native.String.{String}
use Rattle.forms.specs.declared.refusal.Refusal.{Refusal}
use Rattle.forms.specs.declared.refusal.Refusal.TheVariants.{BadLine}
use Rattle.lines.specs.declared.command.Command.{Command}
use Rattle.lines.specs.declared.command.Command.TheVariants.{Form, Open, Node, Enter, Abandon, Strike, Clear, Stands, Read, Show}
use Rattle.lines.specs.Decimals.{IsDecimal}

-- a text is these numbers, each in digits after one space
abbrev pub WritesNumbers : List ℕ → List ℕ → Type 0
WritesNumbers text [] = text ≡ []
WritesNumbers text (n ∷ ns) = (digits : List ℕ) × (rest : List ℕ) × (text ≡ codes " " ++ (digits ++ rest)) × IsDecimal digits n × WritesNumbers rest ns

abbrev pub AreThreeBytes : ℕ → ℕ → ℕ → Type 0
AreThreeBytes x a b = (x < 256) × (a < 256) × (b < 256)

-- the byte of a letter
abbrev pub byte_of : String → ℕ
byte_of letter = slice_index (codes letter) 0

-- a letter and what follows it ask for the command
abbrev pub Says : ℕ → List ℕ → Command → Type 0
Says letter rest (Form kind a b) = (letter ≡ byte_of "F") × WritesNumbers rest (kind ∷ a ∷ b ∷ []) × AreThreeBytes kind a b
Says letter rest (Open set) = (letter ≡ byte_of "O") × WritesNumbers rest (set ∷ [])
Says letter rest (Node number a b) = (letter ≡ byte_of "N") × WritesNumbers rest (number ∷ a ∷ b ∷ []) × AreThreeBytes number a b
Says letter rest Enter = (letter ≡ byte_of "E") × WritesNumbers rest []
Says letter rest Abandon = (letter ≡ byte_of "A") × WritesNumbers rest []
Says letter rest (Strike at) = (letter ≡ byte_of "S") × WritesNumbers rest (at ∷ [])
Says letter rest Clear = (letter ≡ byte_of "C") × WritesNumbers rest []
Says letter rest (Stands set) = (letter ≡ byte_of "Q") × WritesNumbers rest (set ∷ [])
Says letter rest (Read name) = (letter ≡ byte_of "R") × (rest ≡ codes " " ++ name.now)
Says letter rest (Show set state) = (letter ≡ byte_of "H") × WritesNumbers rest (set ∷ state ∷ [])

-- a line of at most 100 bytes asks for the command
abbrev pub Asks : List ℕ → Command → Type 0
Asks [] _ = ⊥
Asks (letter ∷ rest) c = (length (letter ∷ rest) ≤ 100) × Says letter rest c

-- the command that is asked for, or the refusal where there is none
abbrev pub IsCommandResult : (Command → Type 0) → Result Command Refusal → Type 0
IsCommandResult asks (Ok c) = asks c
IsCommandResult asks (Err e) = (e ≡ BadLine) × ((c : Command) → asks c → ⊥)

-- what tells a command from another: its letter, and its numbers or the bytes of its name
abbrev pub key_of : Command → ℕ × List ℕ
key_of (Form kind a b) = (byte_of "F", kind ∷ a ∷ b ∷ [])
key_of (Open set) = (byte_of "O", set ∷ [])
key_of (Node number a b) = (byte_of "N", number ∷ a ∷ b ∷ [])
key_of Enter = (byte_of "E", [])
key_of Abandon = (byte_of "A", [])
key_of (Strike at) = (byte_of "S", at ∷ [])
key_of Clear = (byte_of "C", [])
key_of (Stands set) = (byte_of "Q", set ∷ [])
key_of (Read name) = (byte_of "R", name.now)
key_of (Show set state) = (byte_of "H", set ∷ state ∷ [])

-- a line asks for at most one command
abbrev pub AsksAtMostOne : List ℕ → Type 0
AsksAtMostOne line = (c d : Command) → Asks line c → Asks line d → key_of c ≡ key_of d

-- a command whose numbers are of 64 bits or of a byte, and whose name is of 98 bytes at most
abbrev pub IsSayable : Command → Type 0
IsSayable (Form kind a b) = AreThreeBytes kind a b
IsSayable (Open set) = set < 2 ^ 64
IsSayable (Node number a b) = AreThreeBytes number a b
IsSayable (Strike at) = at < 2 ^ 64
IsSayable (Stands set) = set < 2 ^ 64
IsSayable (Read name) = length name.now ≤ 98
IsSayable (Show set state) = (set < 2 ^ 64) × (state < 2 ^ 64)
IsSayable _ = ⊤

-- every such command has a line that asks for it
abbrev pub SayableIsAskable : Type 0
SayableIsAskable = (c : Command) → IsSayable c → (line : List ℕ) × Asks line c
