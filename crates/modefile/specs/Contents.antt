-- The contents of a file: a count byte, then for each part a line of a kind byte and a length of four bytes, low byte first. The bodies follow in that order.
use Rattle.std.specs.Prelude.{ℕ, zero, suc, ◌+◌, ◌*◌, Bool, if◌then◌else◌, ◌&&◌, List, length, drop, Some, None, Ok, Err, Option, Result, ◌==◌, nat_le, nat_lt, slice_index}
use Rattle.std.specs.Simd.{first_chunks}
use Rattle.forms.specs.declared.refusal.Refusal.{Refusal}
use Rattle.forms.specs.declared.refusal.Refusal.TheVariants.{FileShape, PartKind, PartLengths}
use Rattle.forms.specs.declared.refusal.Rejected.{Rejected}
use Rattle.forms.specs.Refusals.{rejected_at}
use Rattle.modefile.specs.declared.part.Kind.{Kind}
use Rattle.modefile.specs.declared.part.Kind.TheVariants.{Forms, Modes, Tree}

-- four bytes from i on as a number
abbrev pub word : List ℕ → ℕ → ℕ
word bs i = slice_index bs i + 256 * slice_index bs (i + 1) + 65536 * slice_index bs (i + 2) + 16777216 * slice_index bs (i + 3)

-- how many parts the contents tell of
abbrev pub count : List ℕ → ℕ
count bs = slice_index bs 0

-- the contents lines, and the body's length in one
abbrev pub lines_of : List ℕ → List (List ℕ)
lines_of bs = first_chunks 5 (count bs) (drop 1 bs)

abbrev pub length_of : List ℕ → ℕ
length_of line = word line 1

-- the kind and the body's length in contents line i
abbrev pub kind_at : List ℕ → ℕ → ℕ
kind_at bs i = slice_index bs (1 + 5 * i)

abbrev pub length_at : List ℕ → ℕ → ℕ
length_at bs i = word bs (2 + 5 * i)

-- where body i begins: after the contents and the bodies before it
abbrev pub place_at : List ℕ → ℕ → ℕ
place_at bs zero = 1 + 5 * count bs
place_at bs (suc i) = place_at bs i + length_at bs i

-- a file of 1 to 65,536 bytes, with 1 to 16 contents lines, all there
abbrev pub is_shaped : List ℕ → Bool
is_shaped bs = nat_lt 0 (length bs) && (nat_le (length bs) 65536 && (nat_lt 0 (count bs) && (nat_le (count bs) 16 && nat_le (1 + 5 * count bs) (length bs))))

-- 1 forms, 2 modes, 3 tree
abbrev pub is_known : ℕ → Bool
is_known kind = nat_le 1 kind && nat_le kind 3

-- the kind of a number
abbrev pub kind_of : ℕ → Result Kind Refusal
kind_of number = if number == 1 then Ok Forms else if number == 2 then Ok Modes else if number == 3 then Ok Tree else Err PartKind

abbrev pub kind_number : Kind → ℕ
kind_number Forms = 1
kind_number Modes = 2
kind_number Tree = 3

-- of n contents lines from line i on, the first with an unknown kind
abbrev pub unknown_from : List ℕ → ℕ → ℕ → Option ℕ
unknown_from _ _ zero = None
unknown_from bs i (suc n) = if is_known (kind_at bs i) then unknown_from bs (i + 1) n else Some i

-- an unknown kind, or else bodies that do not just fill the file
abbrev pub filling_fault : List ℕ → Option ℕ → Option Rejected
filling_fault _ (Some line) = Some (rejected_at PartKind line)
filling_fault bs None = if place_at bs (count bs) == length bs then None else Some (rejected_at PartLengths 0)

-- why a file is refused, if it is
abbrev pub fault : List ℕ → Option Rejected
fault bs = if is_shaped bs then filling_fault bs (unknown_from bs 0 (count bs)) else Some (rejected_at FileShape 0)
