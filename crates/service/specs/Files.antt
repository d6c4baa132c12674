-- Reading a file: its parts are taken in order, up to a refusal; earlier parts stay.
use Rattle.std.specs.Prelude.{◌≡◌, ℕ, zero, suc, if◌then◌else◌, List, take, drop, Some, None, Ok, Err, Option, Result, ◌==◌}
use Rattle.forms.specs.declared.refusal.Rejected.{Rejected}
use Rattle.lines.specs.declared.reply.Reply.{Reply}
use Rattle.lines.specs.declared.reply.Reply.TheVariants.{Number, RefusedAt}
use Rattle.machine.specs.Faults.{sheet_fault}
use Rattle.machine.specs.Mask.{masked_model}
use Rattle.machine.specs.Sheet.{sheet}
use Rattle.modefile.specs.Contents.{count, kind_at, length_at, place_at, fault}
use Rattle.protocol.specs.Bodies.{forms_body, tree_body}
use Rattle.protocol.specs.Calls.{Outcome, taken, declined, outcome, load}
use Rattle.service.specs.Kept.{Kept, with_register, with_sheet}

-- every atom of a sheet shows
abbrev pub all_atoms : ℕ
all_atoms = 4294967295

-- a forms or tree body is loaded into the register
abbrev pub load_result : Kept → Outcome → Result Kept Rejected
load_result k (taken numbers s) = Ok (with_register k s)
load_result k (declined why at) = Err (record { refusal = why; at = at })

-- a modes body whose rows are in order becomes the sheet
abbrev pub sheet_result : Kept → List ℕ → Option Rejected → Result Kept Rejected
sheet_result k body None = Ok (with_sheet k (Some (masked_model (sheet body) all_atoms)))
sheet_result k body (Some why) = Err why

-- a part by its kind: 1 forms, 2 modes, 3 tree
abbrev pub take_part : Kept → (kind : ℕ) (body : List ℕ) → Result Kept Rejected
take_part k kind body =
    if kind == 1 then load_result k (outcome k.register (load (forms_body body)))
    else if kind == 2 then sheet_result k body (sheet_fault body)
    else load_result k (outcome k.register (load (tree_body body)))

abbrev pub body_at : List ℕ → ℕ → List ℕ
body_at file i = take (length_at file i) (drop (place_at file i) file)

-- on with the rest where part i was taken, or the refusal with part and record
abbrev pub reply_onward : Kept → ℕ → Result Kept Rejected → (Kept → Reply × Kept) → Reply × Kept
reply_onward k i (Ok later) more = more later
reply_onward k i (Err e) more = (RefusedAt e.refusal i e.at, k)

-- n parts from part i on
unfoldable pub take_from : Kept → List ℕ → (i n : ℕ) → Reply × Kept
take_from k file i zero = (Number i, k)
take_from k file i (suc n) = reply_onward k i (take_part k (kind_at file i) (body_at file i)) (λ later. take_from later file (suc i) n)

-- a file whose contents are in order has its parts taken; the sheet of an earlier file is forgotten
abbrev pub take_all : Kept → List ℕ → Option Rejected → Reply × Kept
take_all k file None = take_from k file 0 (count file)
take_all k file (Some e) = (RefusedAt e.refusal e.at 0, k)

abbrev pub reading : Kept → (file : List ℕ) → Reply × Kept
reading k file = take_all (with_sheet k None) file (fault file)

-- the file has a modes part whose rows are in order
abbrev pub HasSheet : (file : List ℕ) → Type 0
HasSheet file = (i : ℕ) × ((kind_at file i ≡ 2) × (sheet_fault (body_at file i) ≡ None))
