-- The bodies that a register loads; a tree body has its steps, records of three bytes, after a set of eight.
use Rattle.std.specs.Prelude.{ℕ, ◌+◌, ◌-◌, ◌*◌, ◌%◌, Bool, ◌&&◌, List, [], ◌∷◌, length, take, drop, ◌==◌, nat_le}
use Rattle.forms.specs.Bodies.{Record, records}

-- the bytes of a forms body or of a tree body
pub data Body : Type 0 where
  forms_body tree_body : List ℕ → Body

-- bytes as a number, low byte first
abbrev pub low_first : List ℕ → ℕ
low_first [] = 0
low_first (x ∷ rest) = x + 256 * low_first rest

-- the set and the steps of a tree body
abbrev pub set_of : List ℕ → ℕ
set_of bytes = low_first (take 8 bytes)

abbrev pub steps_of : List ℕ → List Record
steps_of bytes = records (drop 8 bytes)

-- whether a tree body can have its length
abbrev pub has_tree_length : List ℕ → Bool
has_tree_length bytes = nat_le 8 (length bytes) && (length bytes - 8) % 3 == 0
