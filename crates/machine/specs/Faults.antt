-- What is wrong with a modes body.
use Rattle.std.specs.Prelude.{◌≡◌, ℕ, ◌+◌, ◌<◌, ◌≤◌, Bool, false, if◌then◌else◌, ◌&&◌, List, [], ◌∷◌, length, map, ℤ, pos, negsuc, is_some, Some, None, Ok, Err, Option, Result, ◌==◌, nat_le, nat_lt, slice_index_or}
use Rattle.std.specs.Option.{option_map, option_or}
use Rattle.ctl.specs.Search.{every}
use Rattle.forms.specs.declared.refusal.Refusal.{Refusal}
use Rattle.forms.specs.declared.refusal.Refusal.TheVariants.{RowCount, RowDegree, RowOffset, BodyLength}
use Rattle.forms.specs.declared.refusal.Rejected.{Rejected}
use Rattle.forms.specs.Refusals.{rejected_at}
use Rattle.machine.specs.declared.error.BodyError.{BodyError}
use Rattle.machine.specs.declared.error.BodyError.TheVariants.{Refused, OutOfMemory}
use Rattle.machine.specs.declared.row.Row.{Row}
use Rattle.machine.specs.Sheet.{row_count, row_start}
use Rattle.machine.specs.Rows.{row_of, decoded_rows, no_row, target, IsNarrow}

-- z is the number of a row, where there are n
abbrev pub is_inside : ℕ → ℤ → Bool
is_inside n (pos t) = nat_lt t n
is_inside n (negsuc _) = false

-- what is wrong with a row with number s, among n
abbrev pub row_fault : ℕ → ℕ → Row → Option Refusal
row_fault n s row =
    if nat_le 1 row.degree && nat_le row.degree 8
    then (if every row.degree (λ k. is_inside n (target row s k)) then None else Some RowOffset)
    else Some RowDegree

-- nothing is wrong with any of the rows
abbrev pub IsFaultless : List Row → Type 0
IsFaultless rows = (s : ℕ) → s < length rows → is_some (row_fault (length rows) s (slice_index_or rows s no_row)) ≡ false

-- rows that are a machine: 1 to 1,024 of them, with nothing wrong and no atom above 31
pub record IsSheet (rows : List Row) : Type 0 where
  pub inhabited : 1 ≤ length rows
  pub few : length rows ≤ 1024
  pub clean : IsFaultless rows
  pub narrow : IsNarrow rows

-- what is wrong with the first bad row, where the first of the rows has number s among n
abbrev pub rows_fault : (n s : ℕ) → List Row → Option Rejected
rows_fault _ _ [] = None
rows_fault n s (row ∷ rows) = option_or (option_map (λ why. rejected_at why s) (row_fault n s row)) (rows_fault n (s + 1) rows)

-- what is wrong with a body: its length for a count, then its count, its length for its rows, and its rows in their order
abbrev pub sheet_fault : List ℕ → Option Rejected
sheet_fault bytes =
    if nat_lt (length bytes) 2 then Some (rejected_at BodyLength 0)
    else if nat_le 1 (row_count bytes) && nat_le (row_count bytes) 1024
    then (if length bytes == row_start (row_count bytes)
    then rows_fault (row_count bytes) 0 (decoded_rows bytes (row_count bytes))
    else Some (rejected_at BodyLength 0))
    else Some (rejected_at RowCount 0)

-- a body with nothing wrong but perhaps in its rows is cut into them
pub record IsCut (bytes : List ℕ) (records : List (List ℕ)) : Type 0 where
  pub some : 1 ≤ row_count bytes
  pub few : row_count bytes ≤ 1024
  pub long : length records ≡ row_count bytes
  pub rows : map row_of records ≡ decoded_rows bytes (row_count bytes)
  pub fault : sheet_fault bytes ≡ rows_fault (row_count bytes) 0 (decoded_rows bytes (row_count bytes))

-- how the reading of a sheet ends, by what is wrong with its body: P holds of what was read; memory is asked for only where nothing is wrong
abbrev pub IsReadResult : {X : Type 0} → Option Rejected → Result X BodyError → (X → Type 0) → Type 0
IsReadResult fault (Ok x) P = (fault ≡ None) × P x
IsReadResult fault (Err (Refused why)) P = fault ≡ Some why
IsReadResult fault (Err OutOfMemory) P = fault ≡ None
