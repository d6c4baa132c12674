-- The rows of a sheet, decoded once from the bytes of a modes body.
use Rattle.std.specs.Prelude.{◌≡◌, ℕ, ◌+◌, ◌*◌, ◌^◌, ◌<◌, Bool, List, [], map, length, ℤ, pos, ◌+ℤ◌, slice_index, slice_index_or}
use Rattle.std.specs.List.{range_with_len}
use Rattle.std.specs.Int.{w16, cast_signed}
use Rattle.ctl.specs.Model.{Model}
use Rattle.ctl.specs.Search.{some}
use Rattle.machine.specs.declared.row.Row.{Row}
use Rattle.machine.specs.Sheet.{two_bytes, four_bytes, row_count, row_atoms, degree, offset, is_row, sheet}

-- row s of a body
abbrev pub decoded_row : List ℕ → ℕ → Row
decoded_row bytes s = record { atoms = row_atoms bytes s; degree = degree bytes s; offsets = map (offset bytes s) (range_with_len 0 8) }

-- the row in its own 21 bytes
abbrev pub row_of : List ℕ → Row
row_of bytes = record {
  atoms = four_bytes bytes 0;
  degree = slice_index bytes 4;
  offsets = map (λ k. cast_signed w16 (two_bytes bytes (5 + 2 * k))) (range_with_len 0 8);
}

-- the first n rows of a body
abbrev pub decoded_rows : List ℕ → ℕ → List Row
decoded_rows bytes n = map (decoded_row bytes) (range_with_len 0 n)

-- what stands for a row where there is none
abbrev pub no_row : Row
no_row = record { atoms = 0; degree = 0; offsets = [] }

-- where offset k leads from a row with number s, perhaps outside
abbrev pub target : Row → ℕ → ℕ → ℤ
target row s k = pos s +ℤ slice_index_or row.offsets k (pos 0)

-- a row with number s leads to row t
abbrev pub row_leads : Row → ℕ → ℕ → Bool
row_leads row s t = some row.degree (λ k. is_row t (target row s k))

-- the machine in a list of rows
abbrev pub rows_model : List Row → Model
rows_model rows = record {
  count = length rows;
  atoms = λ s. (slice_index_or rows s no_row).atoms;
  leads = λ s t. row_leads (slice_index_or rows s no_row) s t;
}

-- no row has an atom above 31
abbrev pub IsNarrow : List Row → Type 0
IsNarrow rows = (s : ℕ) → (slice_index_or rows s no_row).atoms < 2 ^ 32

-- the rows are those of a body, and mean the machine in it
pub record Decodes (bytes : List ℕ) (rows : List Row) : Type 0 where
  pub items : rows ≡ decoded_rows bytes (row_count bytes)
  pub means : rows_model rows ≡ sheet bytes
