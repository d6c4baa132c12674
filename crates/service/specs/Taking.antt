-- How the taking of a part ends.
use Rattle.std.specs.Prelude.{◌≡◌, ℕ, List, None, Ok, Err, Result}
use Rattle.forms.specs.declared.refusal.Rejected.{Rejected}
use Rattle.std.specs.declared.alloc.AllocError.{AllocError}
use Rattle.lines.specs.declared.reply.Reply.{Reply}
use Rattle.lines.specs.declared.reply.Reply.TheVariants.{RefusedAt}
use Rattle.machine.specs.Faults.{sheet_fault}
use Rattle.machine.specs.declared.error.BodyError.{BodyError}
use Rattle.machine.specs.declared.error.BodyError.TheVariants.{Refused, OutOfMemory}
use Rattle.service.specs.Kept.{Kept}

-- as is due; a refusal leaves what was kept before, and memory is wanted only where there is something to want it for
abbrev pub Took : (due : Result Kept Rejected) (Wants : Type 0) → Result Unit BodyError → (before later : Kept) → Type 0
Took due Wants (Ok x) before later = due ≡ Ok later
Took due Wants (Err (Refused e)) before later = (due ≡ Err e) × (later ≡ before)
Took due Wants (Err OutOfMemory) before later = Wants

-- a part is a modes body whose rows are in order
abbrev pub IsSheetPart : (kind : ℕ) (body : List ℕ) → Type 0
IsSheetPart kind body = (kind ≡ 2) × (sheet_fault body ≡ None)

-- the reply where a part was not taken
abbrev pub part_reply : BodyError → (part : ℕ) → Result Reply AllocError
part_reply (Refused e) part = Ok (RefusedAt e.refusal part e.at)
part_reply OutOfMemory part = Err (record {})
