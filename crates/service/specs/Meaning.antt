-- What the service answers to a line, and what it keeps after it.
use Rattle.std.specs.Prelude.{◌≡◌, ℕ, ◌⊎◌, List, [], ◌∷◌, Some, None, Ok, Err, Option, Result}
use Rattle.std.specs.declared.alloc.AllocError.{AllocError}
use Rattle.ctl.specs.Model.{Model}
use Rattle.forms.specs.declared.refusal.Refusal.{Refusal}
use Rattle.forms.specs.declared.refusal.Refusal.TheVariants.{NoSheet}
use Rattle.lines.specs.declared.command.Command.{Command}
use Rattle.lines.specs.declared.command.Command.TheVariants.{Form, Open, Node, Enter, Abandon, Strike, Clear, Stands, Read, Show}
use Rattle.lines.specs.declared.reply.Reply.{Reply}
use Rattle.lines.specs.declared.reply.Reply.TheVariants.{Number, Numbers, Refused}
use Rattle.lines.specs.Grammar.{Asks, IsCommandResult}
use Rattle.lines.specs.Replies.{reply_line}
use Rattle.protocol.specs.declared.line.Standing.{Standing}
use Rattle.protocol.specs.declared.line.Standing.TheVariants.{Impossible, Possible}
use Rattle.protocol.specs.State.{standing}
use Rattle.protocol.specs.Calls.{Call, form, open_at, node, enter, abandon, show, strike, clear, Answer, ok, refused, answer, state_after}
use Rattle.service.specs.Kept.{Kept, with_register}
use Rattle.service.specs.Files.{HasSheet, reading}

-- the reply that tells an answer of the register
abbrev pub reply_of : Answer → Reply
reply_of (ok []) = Number 0
reply_of (ok (n ∷ [])) = Number n
reply_of (ok (n ∷ m ∷ more)) = Numbers n m
reply_of (refused why at) = Refused why

-- how a set stands, as a number
abbrev pub standing_number : Option Standing → ℕ
standing_number None = 0
standing_number (Some Impossible) = 1
standing_number (Some Possible) = 2

-- a call of the register is made, and its answer is told
abbrev pub call_reply : Kept → Call → Reply × Kept
call_reply k call = (reply_of (answer k.register call), with_register k (state_after k.register call))

-- a show on the sheet that is kept, with room for 1,024 states
abbrev pub on_sheet : Kept → (set state : ℕ) → Option Model → Reply × Kept
on_sheet k set state None = (Refused NoSheet, k)
on_sheet k set state (Some m) = call_reply k (show set state m 1024 1024)

-- the reply to a command and what is kept then; `file` has the bytes of the file that a command to read names, none where it cannot be opened
abbrev pub reply_to : Kept → (file : List ℕ) → Command → Reply × Kept
reply_to k file (Form kind a b) = call_reply k (form kind a b)
reply_to k file (Open set) = call_reply k (open_at set)
reply_to k file (Node number a b) = call_reply k (node number a b)
reply_to k file Enter = call_reply k enter
reply_to k file Abandon = call_reply k abandon
reply_to k file (Strike line) = call_reply k (strike line)
reply_to k file Clear = call_reply k clear
reply_to k file (Stands set) = (Number (standing_number (standing k.register.book set)), k)
reply_to k file (Read name) = reading k file
reply_to k file (Show set state) = on_sheet k set state k.sheet

-- memory for a sheet is wanted only where the command is to read a file that has one in order
abbrev pub WantsSheet : (file : List ℕ) → Command → Type 0
WantsSheet file (Read name) = HasSheet file
WantsSheet file _ = ⊥

-- the reply is the due one, and so is what is kept then; or memory was wanted
abbrev pub Performed : Reply × Kept → (Wants : Type 0) → Result Reply AllocError → Kept → Type 0
Performed due Wants (Ok reply) later = (reply ≡ due.0) × (later ≡ due.1)
Performed due Wants (Err e) later = Wants

-- the same of a line that was read: its command, or that it has none
abbrev pub reply_for : Kept → (file : List ℕ) → Result Command Refusal → Reply × Kept
reply_for k file (Ok command) = reply_to k file command
reply_for k file (Err why) = (Refused why, k)

-- what was read of a line is answered with these bytes: those of the reply to its command, or of refusal 20 where it has none;
-- where memory was wanted, it was for a sheet, or all was done and only the reply's text found none
abbrev pub Replied : (read : Result Command Refusal) (file : List ℕ) (before : Kept) → Result Unit AllocError → (bytes : List ℕ) (later : Kept) → Type 0
Replied read file before (Ok x) bytes later = (bytes ≡ reply_line (reply_for before file read).0) × (later ≡ (reply_for before file read).1)
Replied read file before (Err e) bytes later = HasSheet file ⊎ (later ≡ (reply_for before file read).1)

-- the same of a line
abbrev pub Answered : (line file : List ℕ) (before : Kept) → Result Unit AllocError → (bytes : List ℕ) (later : Kept) → Type 0
Answered line file before result bytes later = (read : Result Command Refusal) × IsCommandResult (Asks line) read × Replied read file before result bytes later
