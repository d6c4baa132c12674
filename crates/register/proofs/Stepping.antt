-- A tree body, step by step.
use Rattle.std.proofs.Common.{◌≡◌, ℕ, suc, ◌<◌, List, [], ◌∷◌, length, ◌*◌, zero, map, get_or, drop, drop-cons, Ok, Err, Result, sym, refl, ap, ◌∙◌, arith}
use Rattle.std.specs.Simd.{first_chunks}
use Rattle.forms.specs.declared.refusal.Refusal.{Refusal}
use Rattle.walk.specs.Progress.{Progress, step_result}
use Rattle.protocol.specs.State.{State, with_walk}
use Rattle.forms.specs.Bodies.{Record, records}
use Rattle.protocol.specs.Calls.{Outcome, taken, declined, and_then, at_record, in_turn, node_on, on_node, walk_outcome, ok, refused, answer_of, state_of}
use Rattle.register.specs.Loads.{record_of}

-- bytes that make k records, by their chunks
pub record_of-first_chunks : (k : ℕ) (bytes : List ℕ) → length bytes ≡ k * 3 → map record_of (first_chunks 3 k bytes) ≡ records bytes
record_of-first_chunks zero [] h = refl
record_of-first_chunks zero (x ∷ bytes) h = absurd (omega arith)
record_of-first_chunks (suc k) [] h = absurd (omega arith)
record_of-first_chunks (suc k) (x ∷ []) h = absurd (omega arith)
record_of-first_chunks (suc k) (x ∷ (y ∷ [])) h = absurd (omega arith)
record_of-first_chunks (suc k) (x ∷ (y ∷ (z ∷ rest))) h = ap (λ (r : List Record). (x, y, z) ∷ r) (record_of-first_chunks k rest (omega arith))

-- the steps from place k on
pub steps_from : (steps : List (List ℕ)) (k : ℕ) → k < length steps → map record_of (drop k steps) ≡ record_of (get_or steps k []) ∷ map record_of (drop (suc k) steps)
steps_from steps k h = ap (map record_of) (drop-cons steps k [] h)

pub accepted_not_refused : (numbers : List ℕ) (why : Refusal) (at : ℕ) → ok numbers ≡ refused why at → ⊥
accepted_not_refused numbers why at e = let z : ◌≡◌ {A = ℕ} 0 1 = cc in omega arith

module _ (s : State) (r : Record) (rest : List Record) (i : ℕ) where
  -- an accepted step leaves the rest to the register after it
  pub step_accepted : (numbers : List ℕ) → ok numbers ≡ answer_of (node_on s r) → in_turn node_on s i (r ∷ rest) ≡ in_turn node_on (state_of s (node_on s r)) (suc i) rest
  unfolding in_turn
  step_accepted numbers e = by_cases (node_on s r) e
    where
      by_cases : (o : Outcome) → ok numbers ≡ answer_of o → and_then (at_record i o) (λ later. in_turn node_on later (suc i) rest) ≡ in_turn node_on (state_of s o) (suc i) rest
      by_cases (taken replied later) k = refl
      by_cases (declined why at) k = absurd (accepted_not_refused numbers why at k)

  -- a refused one ends it
  pub step_refused : (why : Refusal) → refused why 0 ≡ answer_of (node_on s r) → in_turn node_on s i (r ∷ rest) ≡ declined why i
  unfolding in_turn
  step_refused why e = by_cases (node_on s r) e
    where
      by_cases : (o : Outcome) → refused why 0 ≡ answer_of o → and_then (at_record i o) (λ later. in_turn node_on later (suc i) rest) ≡ declined why i
      by_cases (taken replied later) k = absurd (accepted_not_refused replied why 0 (sym k))
      by_cases (declined w at) k = let same : why ≡ w = cc in ap (λ (x : Refusal). declined x i) (sym same)

-- a step changes the walk alone
pub node_walk_alone : (s : State) (number a b : ℕ) → state_of s (on_node s number a b) ≡ with_walk s (state_of s (on_node s number a b)).walk
node_walk_alone s number a b = by_cases (step_result s.table s.walk number a b)
  where
    by_cases : (r : Result Progress Refusal) → state_of s (walk_outcome s r) ≡ with_walk s (state_of s (walk_outcome s r)).walk
    by_cases (Ok walk) = refl
    by_cases (Err why) = refl

-- changes of the walk alone add up to one
pub walk_alone_on : (s mid end : State) → mid ≡ with_walk s mid.walk → end ≡ with_walk mid end.walk → end ≡ with_walk s end.walk
walk_alone_on s mid end e k = k ∙ ap (λ (m : State). with_walk m end.walk) e

-- the register after a step, by what its call ensures
pub step_walk_alone : (s later : State) (r : Record) → later ≡ state_of s (node_on s r) → later ≡ with_walk s later.walk
step_walk_alone s later r e = e ∙ node_walk_alone s r.0 r.1 r.2 ∙ ap (λ (t : State). with_walk s t.walk) (sym e)

pub none_in_turn : (s : State) (i : ℕ) → in_turn node_on s i [] ≡ taken [] s
unfolding in_turn
none_in_turn s i = refl
