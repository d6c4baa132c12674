-- Each call keeps what holds of a register.
use Rattle.std.proofs.Common.{◌≡◌, ℕ, ◌<◌, true, [], ◌∷◌, ◌++◌, length, None, subst, arith}
use Rattle.std.proofs.lemmas.List.{length_push}
use Rattle.ctl.specs.Model.{Model}
use Rattle.forms.specs.Bodies.{records}
use Rattle.forms.specs.Forms.{Table, IsWellFormed}
use Rattle.forms.specs.Sets.{is_within}
use Rattle.forms.proofs.Formed.{IsWellFormed_grown}
use Rattle.forms.proofs.Accepting.{Earlier_accepted, accepted_room}
use Rattle.forms.proofs.SetsWithin.{is_within_below}
use Rattle.machine.specs.Interface.{IsSoundMachine}
use Rattle.tableau.specs.Walk as Walk
use Rattle.tableau.specs.Walk.{start, Run}
use Rattle.tableau.proofs.Walking.{Run-append, closed_walk_refutes}
use Rattle.tableau.proofs.Grow.{run_grows}
use Rattle.walk.specs.Progress.{Progress, absent, present}
use Rattle.protocol.specs.declared.line.Standing.{Standing}
use Rattle.protocol.specs.declared.line.Standing.TheVariants.{Impossible, Possible}
use Rattle.protocol.specs.declared.line.Line.{Line}
use Rattle.protocol.specs.State.{State, made_state, most_lines, standing, with_book, with_walk, with_line, without}
use Rattle.protocol.specs.Bodies.{Body, forms_body, tree_body, set_of, steps_of}
use Rattle.protocol.specs.Calls.{Call, form, open_at, node, enter, abandon, show, strike, clear, load, Outcome, on_form, on_open, on_node, on_enter, on_show, load_forms, load_tree, on_load, outcome, state_after}
use Rattle.protocol.specs.Runs.{IsLawfulCall}
use Rattle.protocol.specs.Invariant.{Tells, IsTrueLine, IsWalked, IsSound}
use Rattle.protocol.proofs.Growing.{is_within_grows, holds_more, SetHolds_less}
use Rattle.protocol.proofs.Marks.{held_part-SetHolds}
use Rattle.protocol.proofs.BookLines.{all_push, all_without, AllLines_map, HasNoSetTwice_push, HasNoSetTwice-without, length_without}
use Rattle.protocol.proofs.Outcomes.{Leaves, Leaves-outcome_given, Leaves-state_of}
use Rattle.protocol.proofs.Successors.{Leaves-on_form, Leaves-on_open, Leaves-on_node, Leaves-on_enter, Leaves-on_abandon, Leaves-on_show, Leaves-on_strike, Leaves-load_forms, Leaves-load_tree}

abbrev IsKept : Outcome → Type 0
IsKept = Leaves IsSound

pub IsSound-made_state : IsSound made_state
IsSound-made_state = record { lawful = ((λ f. tt), omega arith); short = omega arith; distinct = tt; lines = tt; walked = tt }

tells_more : (T more : Table) → IsWellFormed T → (set : ℕ) → is_within T set ≡ true → (how : Standing) → Tells T set how → Tells (T ++ more) set how
tells_more T more w set inside Impossible h = λ m serial t k. h m serial t (SetHolds_less T more w set inside m t k)
tells_more T more w set inside Possible h = (h.0, (h.1.0, (h.1.1.0, holds_more T more w set inside h.0 h.1.1.0 h.1.1.1)))

line_more : (T more : Table) → IsWellFormed T → (line : Line) → IsTrueLine T line → IsTrueLine (T ++ more) line
line_more T more w line h = (is_within_grows T more line.set h.0, tells_more T more w line.set h.0 line.standing h.1)

IsWalked_more : (T more : Table) → IsWellFormed T → (p : Progress) → IsWalked T p → IsWalked (T ++ more) p
IsWalked_more T more w absent h = tt
IsWalked_more T more w (present root walk) h =
    (is_within_grows T more root h.0, (h.1.0, run_grows T w more root (is_within_below T root h.0) h.1.0 walk h.1.1))

form_kept : (s : State) (kind a b : ℕ) → IsSound s → IsKept (on_form s kind a b)
form_kept s kind a b h = Leaves-on_form IsSound s kind a b λ x e.
    let T = s.table in
    let w = h.lawful.0 in
    record {
      lawful = (IsWellFormed_grown T x w (Earlier_accepted (length T) kind a b x e), omega (arith, length_push T x, accepted_room (length T) kind a b x e));
      short = h.short;
      distinct = h.distinct;
      lines = AllLines_map (IsTrueLine T) (IsTrueLine (T ++ x ∷ [])) (line_more T (x ∷ []) w) s.book h.lines;
      walked = IsWalked_more T (x ∷ []) w s.walk h.walked;
    }

walk_changed : (s : State) (p : Progress) → IsSound s → IsWalked s.table p → IsSound (with_walk s p)
walk_changed s p h w = record { lawful = h.lawful; short = h.short; distinct = h.distinct; lines = h.lines; walked = w }

open_kept : (s : State) (set : ℕ) → IsSound s → IsKept (on_open s set)
open_kept s set h = Leaves-on_open IsSound s set λ inside. walk_changed s (present set (start set)) h (inside, ([], Walk.done))

node_kept : (s : State) (number a b : ℕ) → IsSound s → IsKept (on_node s number a b)
node_kept s number a b h = Leaves-on_node IsSound s number a b λ root walk st later e k.
    let w : IsWalked s.table (present root walk) = subst (IsWalked s.table) e h.walked in
    walk_changed s (present root later) h (w.0, (w.1.0 ++ st ∷ [], Run-append w.1.1 (Walk.then k Walk.done)))

lined : (s : State) (set : ℕ) (how : Standing) → IsSound s → standing s.book set ≡ None → length s.book < most_lines
    → IsTrueLine s.table (record { set = set; standing = how }) → IsSound (with_line s set how)
lined s set how h free room k =
    let line : Line = record { set = set; standing = how } in
    record {
      lawful = h.lawful;
      short = omega (arith, length_push s.book line);
      distinct = HasNoSetTwice_push s.book line h.distinct free;
      lines = all_push (IsTrueLine s.table) s.book line h.lines k;
      walked = h.walked;
    }

-- the root set of a closed walk is impossible
enter_kept : (s : State) → IsSound s → IsKept (on_enter s)
enter_kept s h = Leaves-on_enter IsSound s λ root e free room.
    let w : IsWalked s.table (present root Walk.closed) = subst (IsWalked s.table) e h.walked in
    walk_changed (with_line s root Impossible) absent
    (lined s root Impossible h free room (w.0, λ m serial t k. closed_walk_refutes s.table h.lawful.0 root w.1.0 w.1.1 m serial t k)) tt

show_kept : (s : State) (set state : ℕ) (m : Model) (marks scratch : ℕ) → IsSoundMachine m → IsSound s → IsKept (on_show s set state m marks scratch)
show_kept s set state m marks scratch sound h = Leaves-on_show IsSound s set state m marks scratch h λ inside below all free room.
    lined s set Possible h free room (inside, (m, (sound, (state, held_part-SetHolds s.table m sound.total.serial set state below all))))

struck : (s : State) (line : ℕ) → IsSound s → IsSound (with_book s (without line s.book))
struck s line h =
    record {
      lawful = h.lawful;
      short = omega (arith, h.short, length_without line s.book);
      distinct = HasNoSetTwice-without line s.book h.distinct;
      lines = all_without (IsTrueLine s.table) line s.book h.lines;
      walked = h.walked;
    }

load_kept : (s : State) (body : Body) → IsSound s → IsKept (on_load s body)
load_kept s (forms_body bytes) h = Leaves-outcome_given IsSound _ _ (load_forms s (records bytes)) λ _. Leaves-load_forms IsSound (λ t r. form_kept t r.0 r.1 r.2) s (records bytes) h
load_kept s (tree_body bytes) h =
    Leaves-outcome_given IsSound _ _ (load_tree s (set_of bytes) (steps_of bytes)) λ _.
    Leaves-load_tree IsSound open_kept (λ t r. node_kept t r.0 r.1 r.2) enter_kept s (set_of bytes) (steps_of bytes) h

outcome_kept : (s : State) (call : Call) → IsLawfulCall call → IsSound s → IsKept (outcome s call)
outcome_kept s (form kind a b) l h = form_kept s kind a b h
outcome_kept s (open_at set) l h = open_kept s set h
outcome_kept s (node number a b) l h = node_kept s number a b h
outcome_kept s enter l h = enter_kept s h
outcome_kept s abandon l h = Leaves-on_abandon IsSound s (walk_changed s absent h tt)
outcome_kept s (show set state machine marks scratch) l h = show_kept s set state machine marks scratch l.1 h
outcome_kept s (strike line) l h = Leaves-on_strike IsSound s line (struck s line h)
outcome_kept s clear l h = IsSound-made_state
outcome_kept s (load body) l h = load_kept s body h

pub IsSound-state_after : (s : State) (call : Call) → IsLawfulCall call → IsSound s → IsSound (state_after s call)
IsSound-state_after s call l h = Leaves-state_of IsSound s (outcome s call) h (outcome_kept s call l h)
