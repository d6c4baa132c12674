-- Records of three bytes, of which a forms body is a run.
use Rattle.std.specs.Prelude.{ℕ, ◌%◌, Bool, List, [], ◌∷◌, length, ◌==◌}

-- in a forms body: kind, a, b
abbrev pub Record : Type 0
Record = ℕ × ℕ × ℕ

-- the records of three bytes, as far as they go
abbrev pub records : List ℕ → List Record
records [] = []
records (x ∷ []) = []
records (x ∷ y ∷ []) = []
records (x ∷ y ∷ z ∷ rest) = (x, y, z) ∷ records rest

-- whether a forms body can have its length
abbrev pub has_forms_length : List ℕ → Bool
has_forms_length bytes = length bytes % 3 == 0
