-- What the readers of a line's numbers answer.
use Rattle.std.specs.Prelude.{◌≡◌, ℕ, ◌<◌, ◌≤◌, List, [], ◌∷◌, ◌++◌, length, Ok, Err, codes, Result, ◌≢◌}
use Rattle.std.specs.Borrow.{Bor}
use Rattle.forms.specs.declared.refusal.Refusal.{Refusal}
use Rattle.forms.specs.declared.refusal.Refusal.TheVariants.{BadLine}
use Rattle.lines.specs.Decimals.{IsDecimal, NoDigit}
use Rattle.lines.specs.Grammar.{WritesNumbers, AreThreeBytes}

-- a text is a space, digits that write n, and the rest, which does not go on with a digit
abbrev pub Begins : List ℕ → ℕ → List ℕ → Type 0
Begins text n rest = (digits : List ℕ) × (text ≡ codes " " ++ (digits ++ rest)) × IsDecimal digits n × NoDigit rest

-- the first number of a text and what follows it, if it begins with one
abbrev pub IsFirstNumberResult : List ℕ → Result (ℕ × Bor (List ℕ)) Refusal → Type 0
IsFirstNumberResult text (Ok p) = Begins text p.0 p.1.now
IsFirstNumberResult text (Err e) = (e ≡ BadLine) × ((n : ℕ) (rest : List ℕ) → Begins text n rest → ⊥)

-- digits write the number of the answer, or none of 64 bits
abbrev pub IsValueResult : List ℕ → Result ℕ Refusal → Type 0
IsValueResult digits (Ok n) = IsDecimal digits n
IsValueResult digits (Err e) = (e ≡ BadLine) × ((n : ℕ) → IsDecimal digits n → ⊥)

-- a text is the numbers of the answer and no more, or not as many numbers
abbrev pub IsNumbersResult : (count : ℕ) → List ℕ → Result (List ℕ) Refusal → Type 0
IsNumbersResult count text (Ok ns) = (length ns ≡ count) × WritesNumbers text ns
IsNumbersResult count text (Err e) = (e ≡ BadLine) × ((ns : List ℕ) → length ns ≡ count → WritesNumbers text ns → ⊥)

-- the same for three numbers of a byte each
abbrev pub IsBytesResult : List ℕ → Result (List ℕ) Refusal → Type 0
IsBytesResult text (Ok ns) = (x : ℕ) × (a : ℕ) × (b : ℕ) × (ns ≡ x ∷ a ∷ b ∷ []) × WritesNumbers text (x ∷ a ∷ b ∷ []) × AreThreeBytes x a b
IsBytesResult text (Err e) = (e ≡ BadLine) × ((x a b : ℕ) → WritesNumbers text (x ∷ a ∷ b ∷ []) → AreThreeBytes x a b → ⊥)

-- the same number as a byte, if it is one
abbrev pub IsByteResult : ℕ → Result ℕ Refusal → Type 0
IsByteResult n (Ok b) = (b ≡ n) × (n < 256)
IsByteResult n (Err e) = (e ≡ BadLine) × (256 ≤ n)

-- what follows the space that a text begins with
abbrev pub IsAfterSpaceResult : List ℕ → Result (Bor (List ℕ)) Refusal → Type 0
IsAfterSpaceResult text (Ok rest) = text ≡ codes " " ++ rest.now
IsAfterSpaceResult text (Err e) = (e ≡ BadLine) × ((rest : List ℕ) → text ≢ codes " " ++ rest)
