-- What a load answers, and how a tree body is taken step by step.
use Rattle.std.specs.Prelude.{◌≡◌, ℕ, true, false, List, [], ◌∷◌, length, slice_index, Ok, Err, Result}
use Rattle.forms.specs.declared.refusal.Refusal.TheVariants.{BodyLength}
use Rattle.forms.specs.Refusals.{rejected_at}
use Rattle.forms.specs.declared.refusal.Rejected.{Rejected}
use Rattle.protocol.specs.Bodies.{Body, forms_body, tree_body, set_of, steps_of, has_tree_length}
use Rattle.protocol.specs.State.{State, with_walk}
use Rattle.forms.specs.Bodies.{Record}
use Rattle.protocol.specs.Calls.{Outcome, taken, declined, and_then, at_record, in_turn, node_on, on_enter, Answer, ok, refused}
use Rattle.register.specs.declared.body.Body.{Body as CodeBody}
use Rattle.register.specs.declared.body.Body.TheVariants.{Forms, Tree}

-- a body by its bytes
abbrev pub body_of : CodeBody → Body
body_of (Forms bytes) = forms_body bytes.now
body_of (Tree bytes) = tree_body bytes.now

abbrev pub loaded_answer : Result ℕ Rejected → Answer
loaded_answer (Ok n) = ok (n ∷ [])
loaded_answer (Err e) = refused e.refusal e.at

-- the step that three bytes are
abbrev pub record_of : List ℕ → Record
record_of bytes = (slice_index bytes 0, slice_index bytes 1, slice_index bytes 2)

-- the set and the steps of a tree body
abbrev pub IsTreeBody : List ℕ → (set : ℕ) → (steps : List Record) → Type 0
IsTreeBody body set steps = (has_tree_length body ≡ true) × (set ≡ set_of body) × (steps ≡ steps_of body)

-- why a body is none of a tree
abbrev pub IsNoTreeBody : List ℕ → Rejected → Type 0
IsNoTreeBody body why = (has_tree_length body ≡ false) × (why ≡ rejected_at BodyLength 0)

-- the steps were taken, all of them or up to one that was refused; only the walk may have changed
abbrev pub Stepped : State → List Record → Result Unit Rejected → State → Type 0
Stepped s steps (Ok x) later = (in_turn node_on s 0 steps ≡ taken [] later) × (later ≡ with_walk s later.walk)
Stepped s steps (Err e) later = (in_turn node_on s 0 steps ≡ declined e.refusal e.at) × (later ≡ with_walk s later.walk)

-- what the steps and enter come to
abbrev pub finish_outcome : State → List Record → Outcome
finish_outcome s steps = and_then (in_turn node_on s 0 steps) (λ walked. at_record (length steps) (on_enter walked))

-- the steps were taken and the set was entered, or one of these was refused, and then only the walk may have changed
abbrev pub Finished : State → List Record → Result ℕ Rejected → State → Type 0
Finished s steps (Ok line) later = finish_outcome s steps ≡ taken (line ∷ []) later
Finished s steps (Err e) later = (finish_outcome s steps ≡ declined e.refusal e.at) × (later ≡ with_walk s later.walk)
