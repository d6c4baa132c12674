-- The sheet: a machine written out row by row in the bytes of a modes body.
-- A body is a two-byte row count n, then n rows of 21 bytes: atoms in four bytes, a count d, and eight signed two-byte offsets, of which
-- the first d are read. Numbers are low byte first. The successors of row s are s plus each of its offsets.
use Rattle.std.specs.Prelude.{◌≡◌, ℕ, ◌+◌, ◌*◌, ◌<◌, Bool, false, if◌then◌else◌, ◌&&◌, List, ℤ, pos, negsuc, ◌+ℤ◌, Decides, ◌==◌, nat_lt, slice_index}
use Rattle.std.specs.Int.{w16, cast_signed}
use Rattle.ctl.specs.Model.{Model}
use Rattle.ctl.specs.Search.{some}

-- the two-byte number at place i
abbrev pub two_bytes : List ℕ → ℕ → ℕ
two_bytes bytes i = slice_index bytes i + slice_index bytes (i + 1) * 256

-- the four-byte number at place i
abbrev pub four_bytes : List ℕ → ℕ → ℕ
four_bytes bytes i = slice_index bytes i + slice_index bytes (i + 1) * 256 + slice_index bytes (i + 2) * 65536 + slice_index bytes (i + 3) * 16777216

-- how many rows there are
abbrev pub row_count : List ℕ → ℕ
row_count bytes = two_bytes bytes 0

-- where row s begins
abbrev pub row_start : ℕ → ℕ
row_start s = 2 + 21 * s

-- the atoms of row s, bit a for atom a
abbrev pub row_atoms : List ℕ → ℕ → ℕ
row_atoms bytes s = four_bytes bytes (row_start s)

-- how many offsets of row s are read
abbrev pub degree : List ℕ → ℕ → ℕ
degree bytes s = slice_index bytes (row_start s + 4)

-- offset k of row s, a 16-bit number in two's complement
abbrev pub offset : List ℕ → ℕ → ℕ → ℤ
offset bytes s k = cast_signed w16 (two_bytes bytes (row_start s + 5 + 2 * k))

-- z is the number t
abbrev pub is_row : ℕ → ℤ → Bool
is_row t (pos u) = u == t
is_row _ (negsuc _) = false

-- row s leads to row t by one of its offsets
abbrev pub offset_leads : List ℕ → ℕ → ℕ → Bool
offset_leads bytes s t = some (degree bytes s) (λ k. is_row t (pos s +ℤ offset bytes s k))

-- the machine in a body
abbrev pub sheet : List ℕ → Model
sheet bytes = record {
  count = row_count bytes;
  atoms = λ s. if nat_lt s (row_count bytes) then row_atoms bytes s else 0;
  leads = λ s t. nat_lt s (row_count bytes) && offset_leads bytes s t;
}

-- ---- What is claimed.

-- t is row s plus one of the offsets that are read
abbrev pub HasOffsetTo : List ℕ → ℕ → ℕ → Type 0
HasOffsetTo bytes s t = (k : ℕ) × ((k < degree bytes s) × (pos t ≡ pos s +ℤ offset bytes s k))

-- the successors of a row are the row plus each of its offsets, and nothing else has any
abbrev pub SuccessorsAreOffsets : Type 0
SuccessorsAreOffsets = (bytes : List ℕ) (s t : ℕ) → Decides ((sheet bytes).leads s t) ((s < row_count bytes) × HasOffsetTo bytes s t)
