-- The registers that a call can leave: a property of all of them is a property of what the call leaves.
use Rattle.std.proofs.Common.{◌≡◌, ℕ, ◌<◌, Bool, true, false, cond, not, ◌&&◌, ◌||◌, eqb, ltb, leb, List, [], ◌∷◌, ◌++◌, length, Some, None, Ok, Err, Option, Result, refl}
use Rattle.std.proofs.lemmas.Bool.{both_ways, and_parts, eqb-true, ltb-true}
use Rattle.ctl.specs.Model.{Model}
use Rattle.forms.specs.declared.form.Form.{Form}
use Rattle.forms.specs.declared.refusal.Refusal.{Refusal}
use Rattle.forms.specs.declared.refusal.Refusal.TheVariants.{NoSuchStep}
use Rattle.forms.specs.Bodies.{Record}
use Rattle.forms.specs.Forms.{Table}
use Rattle.forms.specs.Sets.{is_within}
use Rattle.forms.specs.Tables.{accepted_form}
use Rattle.tableau.specs.declared.goals.Step.{Step}
use Rattle.tableau.specs.Steps.{step_of}
use Rattle.tableau.specs.Walk as Walk
use Rattle.tableau.specs.Walk.{Walk, start}
use Rattle.walk.specs.Progress.{Progress, absent, present, progress_result, open_result, step_result, abandon_result, finish_result}
use Rattle.protocol.specs.declared.line.Standing.{Standing}
use Rattle.protocol.specs.declared.line.Standing.TheVariants.{Impossible, Possible}
use Rattle.protocol.specs.State.{State, most_lines, standing, is_free, with_table, with_book, with_walk, with_line, without}
use Rattle.protocol.specs.Calls.{form_outcome, on_form, walk_outcome, on_open, on_node, enter_outcome, on_enter, on_abandon, held_part, on_show, on_strike, form_on, node_on, count_forms, load_forms, load_tree, in_turn}
use Rattle.protocol.proofs.Outcomes.{Leaves, Leaves-outcome_given, leaves_at, Leaves-and_then, Leaves-in_turn}

-- a set that has no line
is_free_none : (o : Option Standing) → is_free o ≡ true → o ≡ None
is_free_none None e = refl
is_free_none (Some how) e = absurd (both_ways false refl e)

-- an accepted call of node took some step
abbrev StepFound : Table → Walk → Walk.Node → Type 0
StepFound T walk (Walk.accepted later) = (st : Step) × (Walk.node T walk st ≡ Walk.accepted later)
StepFound T walk (Walk.denied why) = Unit {0}

found : (T : Table) (walk : Walk) (st : Step) (n : Walk.Node) → Walk.node T walk st ≡ n → StepFound T walk n
found T walk st (Walk.accepted later) e = (st, e)
found T walk st (Walk.denied why) e = tt

StepFound_lem : (T : Table) (walk : Walk) (number a b : ℕ) → StepFound T walk (Walk.node_bytes T walk number a b)
StepFound_lem T Walk.closed number a b = tt
StepFound_lem T (Walk.under_way goal frames) number a b = by_cases (step_of number a b)
  where
    by_cases : (o : Option Step) → StepFound T (Walk.under_way goal frames) (elim o [ None ↦ Walk.denied NoSuchStep | Some step ↦ Walk.node T (Walk.under_way goal frames) step ])
    by_cases None = tt
    by_cases (Some st) = found T (Walk.under_way goal frames) st _ refl

module _ (P : State → Type 0) (s : State) where
  pub Leaves-on_form : (kind a b : ℕ) → ((x : Form) → accepted_form (length s.table) kind a b ≡ Ok x → P (with_table s (s.table ++ x ∷ []))) → Leaves P (on_form s kind a b)
  Leaves-on_form kind a b h = by_cases (accepted_form (length s.table) kind a b) refl
    where
      by_cases : (r : Result Form Refusal) → accepted_form (length s.table) kind a b ≡ r → Leaves P (form_outcome s r)
      by_cases (Ok x) e = h x e
      by_cases (Err why) e = tt

  pub Leaves-on_open : (set : ℕ) → (is_within s.table set ≡ true → P (with_walk s (present set (start set)))) → Leaves P (on_open s set)
  Leaves-on_open set h = Leaves-outcome_given P (is_within s.table set) _ _ λ inside. by_cases s.walk (h inside)
    where
      by_cases : (p : Progress) → P (with_walk s (present set (start set))) → Leaves P (walk_outcome s (open_result p set))
      by_cases absent k = k
      by_cases (present root walk) k = tt

  pub Leaves-on_node : (number a b : ℕ)
      → ((root : ℕ) (walk : Walk) (st : Step) (later : Walk) → s.walk ≡ present root walk → Walk.node s.table walk st ≡ Walk.accepted later → P (with_walk s (present root later)))
      → Leaves P (on_node s number a b)
  Leaves-on_node number a b h = at s.walk refl
    where
      to : (root : ℕ) (walk : Walk) → s.walk ≡ present root walk → (n : Walk.Node) → StepFound s.table walk n → Leaves P (walk_outcome s (progress_result root n))
      to root walk e (Walk.accepted later) f = h root walk f.0 later e f.1
      to root walk e (Walk.denied why) f = tt

      at : (p : Progress) → s.walk ≡ p → Leaves P (walk_outcome s (step_result s.table p number a b))
      at absent e = tt
      at (present root walk) e = to root walk e (Walk.node_bytes s.table walk number a b) (StepFound_lem s.table walk number a b)

  pub Leaves-on_enter :
      ((root : ℕ) → s.walk ≡ present root Walk.closed → standing s.book root ≡ None → length s.book < most_lines → P (with_walk (with_line s root Impossible) absent))
      → Leaves P (on_enter s)
  Leaves-on_enter h = at s.walk refl
    where
      at : (p : Progress) → s.walk ≡ p → Leaves P (enter_outcome s (finish_result p))
      at absent e = tt
      at (present root (Walk.under_way goal frames)) e = tt
      at (present root Walk.closed) e =
          Leaves-outcome_given P (is_free (standing s.book root)) _ _ λ free.
          Leaves-outcome_given P (ltb (length s.book) most_lines) _ _ λ room.
          h root e (is_free_none (standing s.book root) free) (ltb-true (length s.book) most_lines room)

  pub Leaves-on_abandon : P (with_walk s absent) → Leaves P (on_abandon s)
  Leaves-on_abandon h = at s.walk
    where
      at : (p : Progress) → Leaves P (walk_outcome s (abandon_result p))
      at absent = tt
      at (present root walk) = h

  pub Leaves-on_show : (set state : ℕ) (m : Model) (marks scratch : ℕ) → P s
      → (is_within s.table set ≡ true → state < m.count → held_part s.table m set state ≡ set → standing s.book set ≡ None → length s.book < most_lines
      → P (with_line s set Possible))
      → Leaves P (on_show s set state m marks scratch)
  Leaves-on_show set state m marks scratch same h =
      Leaves-outcome_given P (is_within s.table set) _ _ λ inside.
      Leaves-outcome_given P (ltb state m.count) _ _ λ below.
      Leaves-outcome_given P (leb m.count marks && leb m.count scratch) _ _ λ _.
      Leaves-outcome_given P (not (is_free (standing s.book set)) || ltb (length s.book) most_lines) _ _ λ room.
      by_cases (eqb part set && free) refl inside below room
    where
      part : ℕ
      part = held_part s.table m set state

      free : Bool
      free = is_free (standing s.book set)

      line_free : (b : Bool) → b ≡ true → (not b || ltb (length s.book) most_lines) ≡ true → length s.book < most_lines
      line_free true e k = ltb-true (length s.book) most_lines k
      line_free false e k = absurd (both_ways false refl e)

      by_cases : (b : Bool) → (eqb part set && free) ≡ b → is_within s.table set ≡ true → ltb state m.count ≡ true
          → (not free || ltb (length s.book) most_lines) ≡ true → P (cond b (with_line s set Possible) s)
      by_cases true e inside below room =
          let k = and_parts (eqb part set) free e in
          h inside (ltb-true state m.count below) (eqb-true part set k.0) (is_free_none (standing s.book set) k.1) (line_free free k.1 room)
      by_cases false e inside below room = same

  pub Leaves-on_strike : (line : ℕ) → P (with_book s (without line s.book)) → Leaves P (on_strike s line)
  Leaves-on_strike line h = Leaves-outcome_given P (ltb line (length s.book)) _ _ λ _. h

module _ (P : State → Type 0) where
  pub Leaves-load_forms : ((s : State) (r : Record) → P s → Leaves P (form_on s r)) → (s : State) (rs : List Record) → P s → Leaves P (load_forms s rs)
  Leaves-load_forms each s rs h = Leaves-and_then P P (in_turn form_on s 0 rs) count_forms (Leaves-in_turn P form_on each s 0 rs h) (λ later k. k)

  pub Leaves-load_tree : ((s : State) (set : ℕ) → P s → Leaves P (on_open s set)) → ((s : State) (r : Record) → P s → Leaves P (node_on s r)) → ((s : State) → P s → Leaves P (on_enter s))
      → (s : State) (set : ℕ) (rs : List Record) → P s → Leaves P (load_tree s set rs)
  Leaves-load_tree opens each enters s set rs h =
      Leaves-and_then P P (on_open s set) _ (opens s set h) λ open_result k.
      Leaves-and_then P P (in_turn node_on open_result 0 rs) _ (Leaves-in_turn P node_on each open_result 0 rs k) λ walk_outcome l.
      leaves_at P (length rs) (on_enter walk_outcome) (enters walk_outcome l)
