-- Loading a body: open, and what the steps and enter come to; what a caller of a forms body brings.
use Rattle.std.proofs.Common.{◌≡◌, ℕ, suc, Bool, true, false, List, [], ◌∷◌, get_or, Ok, Err, Result, sym, refl, ap, ◌∙◌, w8, Fits}
use Rattle.forms.specs.declared.refusal.Rejected.{Rejected}
use Rattle.forms.specs.declared.refusal.Refusal.TheVariants.{BodyLength, SetBeyondTable}
use Rattle.forms.specs.Sets.{is_within}
use Rattle.walk.specs.Progress.{Progress, absent, present, open_result, abandon_result}
use Rattle.protocol.specs.State.{State, with_walk}
use Rattle.protocol.specs.Bodies.{tree_body, set_of, steps_of, has_tree_length}
use Rattle.protocol.specs.Calls.{Outcome, taken, declined, outcome_given, walk_outcome, and_then, on_open, on_abandon, load_tree, on_load, ok, answer_of, state_of}
use Rattle.protocol.specs.Runs.{AreBytes}
use Rattle.protocol.proofs.Loads.{answer_from}
use Rattle.register.specs.Loads.{finish_outcome, loaded_answer}
use Rattle.register.proofs.Stepping.{accepted_not_refused}

module _ (s : State) (bytes : List ℕ) (whole : has_tree_length bytes ≡ true) (set : ℕ) (is : set ≡ set_of bytes) where
  measured : on_load s (tree_body bytes) ≡ load_tree s set (steps_of bytes)
  measured =
      ap (λ (b : Bool). outcome_given b BodyLength (load_tree s (set_of bytes) (steps_of bytes))) whole ∙ ap (λ (x : ℕ). load_tree s x (steps_of bytes)) (sym is)

  -- open is taken
  pub tree_opened : (numbers : List ℕ) → ok numbers ≡ answer_of (on_open s set) → on_load s (tree_body bytes) ≡ finish_outcome (state_of s (on_open s set)) (steps_of bytes)
  tree_opened numbers e = measured ∙ by_cases (on_open s set) e
    where
      by_cases : (o : Outcome) → ok numbers ≡ answer_of o → and_then o (λ t. finish_outcome t (steps_of bytes)) ≡ finish_outcome (state_of s o) (steps_of bytes)
      by_cases (taken replied later) k = refl
      by_cases (declined w at) k = absurd (accepted_not_refused numbers w at k)

-- a walk is opened only where there was none, and nothing else changes
pub open_walk_alone : (s : State) (set : ℕ) (numbers : List ℕ) → ok numbers ≡ answer_of (on_open s set)
    → (s.walk ≡ absent) × (state_of s (on_open s set) ≡ with_walk s (state_of s (on_open s set)).walk)
open_walk_alone s set numbers e = by_cases (is_within s.table set) s.walk refl e
  where
    by_cases : (b : Bool) (p : Progress) → s.walk ≡ p → ok numbers ≡ answer_of (outcome_given b SetBeyondTable (walk_outcome s (open_result p set)))
        → (s.walk ≡ absent)
        × (state_of s (outcome_given b SetBeyondTable (walk_outcome s (open_result p set))) ≡ with_walk s (state_of s (outcome_given b SetBeyondTable (walk_outcome s (open_result p set)))).walk)
    by_cases true absent k h = (k, refl)
    by_cases true (present root walk) k h = absurd (accepted_not_refused numbers _ 0 h)
    by_cases false p k h = absurd (accepted_not_refused numbers SetBeyondTable 0 h)

-- abandon leaves no walk, and nothing else changes
pub abandon_walk_alone : (s : State) → state_of s (on_abandon s) ≡ with_walk s absent
abandon_walk_alone s = by_cases s.walk refl
  where
    by_cases : (p : Progress) → s.walk ≡ p → state_of s (walk_outcome s (abandon_result p)) ≡ with_walk s absent
    by_cases absent e = ap (with_walk s) e
    by_cases (present root walk) e = refl

-- so a walk that was opened, went on and was abandoned leaves the register as it was
pub put_back : (s opened_at later end : State) → s.walk ≡ absent → opened_at ≡ with_walk s opened_at.walk → later ≡ with_walk opened_at later.walk → end ≡ with_walk later absent → end ≡ s
put_back s opened_at later end none e k f =
    f ∙ ap (λ (t : State). with_walk t absent) k ∙ ap (λ (t : State). with_walk t absent) e ∙ ap (with_walk s) (sym none)

-- a slice of bytes brings bytes
pub AreBytes_all : (bytes : List ℕ) → ((i : ℕ) → Fits w8 (get_or bytes i 0)) → AreBytes bytes
AreBytes_all [] h = tt
AreBytes_all (x ∷ rest) h = ((h 0).fits, AreBytes_all rest (λ i. h (suc i)))

-- the answer of the table's load is the register's
pub loaded_answer-answer_from : (r : Result ℕ Rejected) → loaded_answer r ≡ answer_from r
loaded_answer-answer_from (Ok n) = refl
loaded_answer-answer_from (Err e) = refl
