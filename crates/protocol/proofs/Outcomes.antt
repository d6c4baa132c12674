-- What holds of the register that a call leaves, if it is taken.
use Rattle.std.proofs.Common.{◌≡◌, ℕ, suc, Bool, true, false, List, [], ◌∷◌, refl}
use Rattle.forms.specs.declared.refusal.Refusal.{Refusal}
use Rattle.forms.specs.Bodies.{Record}
use Rattle.protocol.specs.State.{State}
use Rattle.protocol.specs.Calls.{Outcome, taken, declined, outcome_given, at_record, and_then, in_turn, answer_of, state_of}
use Rattle.protocol.specs.Runs.{IsAccepted}

module _ (P : State → Type 0) where
  abbrev pub Leaves : Outcome → Type 0
  Leaves (taken numbers s) = P s
  Leaves (declined why at) = Unit {0}

  pub Leaves-outcome_given : (b : Bool) (why : Refusal) (o : Outcome) → (b ≡ true → Leaves o) → Leaves (outcome_given b why o)
  Leaves-outcome_given true why o h = h refl
  Leaves-outcome_given false why o h = tt

  pub leaves_at : (i : ℕ) (o : Outcome) → Leaves o → Leaves (at_record i o)
  leaves_at i (taken numbers s) h = h
  leaves_at i (declined why at) h = tt

  -- the register after a call, taken or declined
  pub Leaves-state_of : (s : State) (o : Outcome) → P s → Leaves o → P (state_of s o)
  Leaves-state_of s (taken numbers later) before h = h
  Leaves-state_of s (declined why at) before h = before

pub Leaves-and_then : (P Q : State → Type 0) (o : Outcome) (more : State → Outcome) → Leaves P o → ((s : State) → P s → Leaves Q (more s)) → Leaves Q (and_then o more)
Leaves-and_then P Q (taken numbers s) more h k = k s h
Leaves-and_then P Q (declined why at) more h k = tt

pub Leaves-in_turn : (P : State → Type 0) (call : State → Record → Outcome) → ((s : State) (r : Record) → P s → Leaves P (call s r))
    → (s : State) (i : ℕ) (rs : List Record) → P s → Leaves P (in_turn call s i rs)
unfolding in_turn
Leaves-in_turn P call h s i [] p = p
Leaves-in_turn P call h s i (r ∷ rs) p =
    Leaves-and_then P P (at_record i (call s r)) (λ later. in_turn call later (suc i) rs) (leaves_at P i (call s r) (h s r p)) (λ later q. Leaves-in_turn P call h later (suc i) rs q)

pub Leaves_map : (P Q : State → Type 0) → ((s : State) → P s → Q s) → (o : Outcome) → Leaves P o → Leaves Q o
Leaves_map P Q f (taken numbers s) h = f s h
Leaves_map P Q f (declined why at) h = tt

-- a call that is accepted passed its test
pub passed : (b : Bool) (why : Refusal) (o : Outcome) → IsAccepted (answer_of (outcome_given b why o)) → (b ≡ true) × (outcome_given b why o ≡ o)
passed true why o h = (refl, refl)
passed false why o h = absurd h
