-- The table is what the accepted calls brought.
use Rattle.std.proofs.Common.{◌≡◌, ℕ, suc, List, [], ◌∷◌, ◌++◌, length, sym, refl, ap, ◌∙◌}
use Rattle.std.specs.Option.{option_to_list}
use Rattle.std.proofs.lemmas.List.{append-nil, append_assoc}
use Rattle.forms.specs.Bodies.{Record, records}
use Rattle.forms.specs.Forms.{Table}
use Rattle.forms.proofs.Accepting.{form_of_accepted}
use Rattle.protocol.specs.State.{State, made_state}
use Rattle.protocol.specs.Bodies.{forms_body, tree_body, set_of, steps_of}
use Rattle.protocol.specs.Calls.{Call, form, open_at, node, enter, abandon, show, strike, clear, load, Outcome, taken, declined, on_open, on_node, on_enter, at_record, form_on, count_forms, load_forms, load_tree, in_turn, outcome, answer_of, state_of, state_after}
use Rattle.protocol.specs.Runs.{state_from, reached_state, history_from, history, stored_form, stored_forms, brought_by, brought_if_accepted, brought_after, brought_forms}
use Rattle.protocol.proofs.Outcomes.{Leaves, Leaves-outcome_given, leaves_at, Leaves-and_then, Leaves_map}
use Rattle.protocol.proofs.Successors.{Leaves-on_form, Leaves-on_open, Leaves-on_node, Leaves-on_enter, Leaves-on_abandon, Leaves-on_show, Leaves-on_strike, Leaves-load_tree}

-- the table is T
abbrev Has : Table → State → Type 0
Has T s = s.table ≡ T

form_has : (s : State) (r : Record) → Leaves (Has (s.table ++ stored_form r)) (form_on s r)
form_has s r = Leaves-on_form (Has (s.table ++ stored_form r)) s r.0 r.1 r.2 λ x e. ap (λ o. s.table ++ option_to_list o) (sym (form_of_accepted (length s.table) r.0 r.1 r.2 x e))

forms_have : (s : State) (i : ℕ) (rs : List Record) → Leaves (Has (s.table ++ stored_forms rs)) (in_turn form_on s i rs)
unfolding in_turn
forms_have s i [] = sym (append-nil s.table)
forms_have s i (r ∷ rest) =
    Leaves-and_then (Has (s.table ++ stored_form r)) (Has (s.table ++ stored_forms (r ∷ rest))) (at_record i (form_on s r)) (λ later. in_turn form_on later (suc i) rest)
    (leaves_at (Has (s.table ++ stored_form r)) i (form_on s r) (form_has s r)) λ later e.
    Leaves_map (Has (later.table ++ stored_forms rest)) (Has (s.table ++ stored_forms (r ∷ rest)))
    (λ end k. k ∙ ap (λ T. T ++ stored_forms rest) e ∙ append_assoc s.table (stored_form r) (stored_forms rest))
    (in_turn form_on later (suc i) rest) (forms_have later (suc i) rest)

module _ (T : Table) where
  open_has : (s : State) (set : ℕ) → Has T s → Leaves (Has T) (on_open s set)
  open_has s set h = Leaves-on_open (Has T) s set λ _. h

  node_has : (s : State) (number a b : ℕ) → Has T s → Leaves (Has T) (on_node s number a b)
  node_has s number a b h = Leaves-on_node (Has T) s number a b λ _ _ _ _ _ _. h

  enter_has : (s : State) → Has T s → Leaves (Has T) (on_enter s)
  enter_has s h = Leaves-on_enter (Has T) s λ _ _ _ _. h

outcome_has : (s : State) (call : Call) → Leaves (Has (brought_by s.table call)) (outcome s call)
outcome_has s (form kind a b) = form_has s (kind, a, b)
outcome_has s (open_at set) = open_has s.table s set refl
outcome_has s (node number a b) = node_has s.table s number a b refl
outcome_has s enter = enter_has s.table s refl
outcome_has s abandon = Leaves-on_abandon (Has s.table) s refl
outcome_has s (show set state machine marks scratch) = Leaves-on_show (Has s.table) s set state machine marks scratch refl λ _ _ _ _ _. refl
outcome_has s (strike line) = Leaves-on_strike (Has s.table) s line refl
outcome_has s clear = refl
outcome_has s (load (forms_body bytes)) =
    let P : State → Type 0 = Has (s.table ++ stored_forms (records bytes)) in
    Leaves-outcome_given P _ _ (load_forms s (records bytes)) λ _. Leaves-and_then P P (in_turn form_on s 0 (records bytes)) count_forms (forms_have s 0 (records bytes)) (λ later k. k)
outcome_has s (load (tree_body bytes)) =
    let P : State → Type 0 = Has s.table in
    let set = set_of bytes in
    let sts = steps_of bytes in
    Leaves-outcome_given P _ _ (load_tree s set sts) λ _.
    Leaves-load_tree P (open_has s.table) (λ t r. node_has s.table t r.0 r.1 r.2) (enter_has s.table) s set sts refl

table_after_call : (s : State) (call : Call) (o : Outcome) → Leaves (Has (brought_by s.table call)) o → (state_of s o).table ≡ brought_if_accepted s.table call (answer_of o)
table_after_call s call (taken numbers later) h = h
table_after_call s call (declined why at) h = refl

brought_from : (s : State) (calls : List Call) → (state_from s calls).table ≡ brought_after s.table (history_from s calls)
brought_from s [] = refl
brought_from s (call ∷ calls) =
    brought_from (state_after s call) calls ∙ ap (λ T. brought_after T (history_from (state_after s call) calls)) (table_after_call s call (outcome s call) (outcome_has s call))

pub table_is_brought : (calls : List Call) → (reached_state calls).table ≡ brought_forms (history calls)
table_is_brought calls = brought_from made_state calls
