-- What is read of a line at once, and kept of it.
use Rattle.std.specs.Prelude.{◌≡◌, ◌≢◌, ℕ, ◌<◌, List, [], ◌∷◌, ◌++◌, length, take, All, Option}
use Rattle.std.specs.Io.KnownBytes.{Consumes, IsAtEnd}
use Rattle.lines.specs.declared.input.Piece.{Piece}
use Rattle.lines.specs.declared.input.Piece.TheVariants.{Inner, Last, End}

-- what is kept of a line, its first 101 bytes, goes on by a part of it
abbrev pub IsKept : (was is part : List ℕ) → Type 0
IsKept was is part = (before : List ℕ) → was ≡ take 101 before → is ≡ take 101 (before ++ part)

-- a part of a line, with no line feed in it, joins what was kept of the line before it; `read` is what the input lost
pub record Joins (old new : Option (List ℕ)) (was is part read : List ℕ) : Type 0 where
  pub consumed : Consumes old new read
  pub clean : All (λ b. b ≢ 10) part
  pub kept : IsKept was is part

-- what a reading of a line did to an input's bytes, where they are known, and to what is kept of the line
abbrev pub IsRead : (old new : Option (List ℕ)) (was is : List ℕ) → Piece → Type 0
IsRead old new was is Inner = (part : List ℕ) × Joins old new was is part part × (0 < length part)
IsRead old new was is Last = (part : List ℕ) × Joins old new was is part (part ++ 10 ∷ [])
IsRead old new was is End = Joins old new was is [] [] × IsAtEnd old
