-- Runs of calls from the making of a register on.
use Rattle.std.specs.Prelude.{ℕ, ◌^◌, ◌<◌, List, [], ◌∷◌, ◌++◌, ⊤}
use Rattle.std.specs.Option.{option_to_list}
use Rattle.forms.specs.Bodies.{Record, records}
use Rattle.forms.specs.Forms.{Table, form_of}
use Rattle.machine.specs.Interface.{IsSoundMachine}
use Rattle.protocol.specs.State.{State, made_state}
use Rattle.protocol.specs.Bodies.{forms_body, tree_body}
use Rattle.protocol.specs.Calls.{Call, form, open_at, node, show, clear, load, Answer, ok, refused, answer, state_after}

abbrev pub IsByte : ℕ → Type 0
IsByte n = n < 256

abbrev pub IsWord : ℕ → Type 0
IsWord n = n < 2 ^ 64

abbrev pub AreBytes : List ℕ → Type 0
AreBytes [] = ⊤
AreBytes (x ∷ rest) = IsByte x × AreBytes rest

-- what a caller brings has the width of its type, and a machine keeps the interface's law
abbrev pub IsLawfulCall : Call → Type 0
IsLawfulCall (form kind a b) = IsByte kind × IsByte a × IsByte b
IsLawfulCall (open_at set) = IsWord set
IsLawfulCall (node number a b) = IsByte number × IsByte a × IsByte b
IsLawfulCall (show set state machine marks scratch) = IsWord set × IsSoundMachine machine
IsLawfulCall (load (forms_body bytes)) = AreBytes bytes
IsLawfulCall (load (tree_body bytes)) = AreBytes bytes
IsLawfulCall _ = ⊤

abbrev pub AllLawful : List Call → Type 0
AllLawful [] = ⊤
AllLawful (call ∷ calls) = IsLawfulCall call × AllLawful calls

abbrev pub state_from : State → List Call → State
state_from s [] = s
state_from s (call ∷ calls) = state_from (state_after s call) calls

-- the register after the calls, made before the first
abbrev pub reached_state : List Call → State
reached_state calls = state_from made_state calls

-- the calls, each with its answer
abbrev pub History : Type 0
History = List (Call × Answer)

abbrev pub history_from : State → List Call → History
history_from s [] = []
history_from s (call ∷ calls) = (call, answer s call) ∷ history_from (state_after s call) calls

abbrev pub history : List Call → History
history calls = history_from made_state calls

-- every call is accepted
abbrev pub IsAccepted : Answer → Type 0
IsAccepted (ok numbers) = ⊤
IsAccepted (refused why at) = ⊥

abbrev pub AllAccepted : State → List Call → Type 0
AllAccepted s [] = ⊤
AllAccepted s (call ∷ calls) = IsAccepted (answer s call) × AllAccepted (state_after s call) calls

-- a form as it is stored, without the operands that its kind does not use
abbrev pub stored_form : Record → Table
stored_form r = option_to_list (form_of r.0 r.1 r.2)

abbrev pub stored_forms : List Record → Table
stored_forms [] = []
stored_forms (r ∷ rest) = stored_form r ++ stored_forms rest

-- the forms after an accepted call, from those before it
abbrev pub brought_by : Table → Call → Table
brought_by T (form kind a b) = T ++ stored_form (kind, a, b)
brought_by T (load (forms_body bytes)) = T ++ stored_forms (records bytes)
brought_by T clear = []
brought_by T _ = T

abbrev pub brought_if_accepted : Table → Call → Answer → Table
brought_if_accepted T call (ok numbers) = brought_by T call
brought_if_accepted T call (refused why at) = T

abbrev pub brought_after : Table → History → Table
brought_after T [] = T
brought_after T (x ∷ past) = brought_after (brought_if_accepted T x.0 x.1) past

-- what accepted calls of form and load brought since the making or the last clear, in order
abbrev pub brought_forms : History → Table
brought_forms past = brought_after [] past
