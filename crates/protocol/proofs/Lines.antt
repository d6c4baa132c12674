-- A line goes only by a strike of that line, or by clear.
use Rattle.std.proofs.Common.{ℕ, ◌⊎◌, [], ◌∷◌, inl, inr}
use Rattle.forms.specs.Bodies.{records}
use Rattle.protocol.specs.declared.line.Standing.{Standing}
use Rattle.protocol.specs.declared.line.Standing.TheVariants.{Impossible, Possible}
use Rattle.protocol.specs.declared.line.Line.{Line}
use Rattle.protocol.specs.State.{State, with_line, without}
use Rattle.protocol.specs.Bodies.{forms_body, tree_body, set_of, steps_of}
use Rattle.protocol.specs.Calls.{Call, form, open_at, node, enter, abandon, show, strike, clear, load, on_form, on_open, on_node, on_enter, load_forms, load_tree, outcome, state_after}
use Rattle.protocol.specs.Promises.{InBook, Removes}
use Rattle.protocol.proofs.BookLines.{InBook-append, stays_or_struck}
use Rattle.protocol.proofs.Outcomes.{Leaves, Leaves-outcome_given, Leaves-state_of}
use Rattle.protocol.proofs.Successors.{Leaves-on_form, Leaves-on_open, Leaves-on_node, Leaves-on_enter, Leaves-on_abandon, Leaves-on_show, Leaves-on_strike, Leaves-load_forms, Leaves-load_tree}

module _ (line : Line) where
  -- the line is in the book
  abbrev Has : State → Type 0
  Has s = InBook line s.book

  pushed_has : (s : State) (set : ℕ) (how : Standing) → Has s → Has (with_line s set how)
  pushed_has s set how h = InBook-append line s.book (record { set = set; standing = how } ∷ []) h

  form_has : (s : State) (kind a b : ℕ) → Has s → Leaves Has (on_form s kind a b)
  form_has s kind a b h = Leaves-on_form Has s kind a b λ _ _. h

  open_has : (s : State) (set : ℕ) → Has s → Leaves Has (on_open s set)
  open_has s set h = Leaves-on_open Has s set λ _. h

  node_has : (s : State) (number a b : ℕ) → Has s → Leaves Has (on_node s number a b)
  node_has s number a b h = Leaves-on_node Has s number a b λ _ _ _ _ _ _. h

  enter_has : (s : State) → Has s → Leaves Has (on_enter s)
  enter_has s h = Leaves-on_enter Has s λ root _ _ _. pushed_has s root Impossible h

  -- what the call leaves has the line, or the call removes it
  outcome_has : (s : State) (call : Call) → Has s → Leaves Has (outcome s call) ⊎ Removes call line s.book
  outcome_has s (form kind a b) h = inl (form_has s kind a b h)
  outcome_has s (open_at set) h = inl (open_has s set h)
  outcome_has s (node number a b) h = inl (node_has s number a b h)
  outcome_has s enter h = inl (enter_has s h)
  outcome_has s abandon h = inl (Leaves-on_abandon Has s h)
  outcome_has s (show set state machine marks scratch) h = inl (Leaves-on_show Has s set state machine marks scratch h λ _ _ _ _ _. pushed_has s set Possible h)
  outcome_has s (strike n) h = by_cases (stays_or_struck n s.book h.1)
    where
      by_cases : InBook line (without n s.book) ⊎ Removes (strike n) line s.book → Leaves Has (outcome s (strike n)) ⊎ Removes (strike n) line s.book
      by_cases (inl k) = inl (Leaves-on_strike Has s n k)
      by_cases (inr k) = inr k
  outcome_has s clear h = inr tt
  outcome_has s (load (forms_body bytes)) h =
      inl (Leaves-outcome_given Has _ _ (load_forms s (records bytes)) λ _. Leaves-load_forms Has (λ t r. form_has t r.0 r.1 r.2) s (records bytes) h)
  outcome_has s (load (tree_body bytes)) h =
      let set = set_of bytes in
      let sts = steps_of bytes in
      inl (Leaves-outcome_given Has _ _ (load_tree s set sts) λ _. Leaves-load_tree Has open_has (λ t r. node_has t r.0 r.1 r.2) enter_has s set sts h)

  pub lines_stay : (s : State) (call : Call) → Has s → Has (state_after s call) ⊎ Removes call line s.book
  lines_stay s call h = by_cases (outcome_has s call h)
    where
      by_cases : Leaves Has (outcome s call) ⊎ Removes call line s.book → Has (state_after s call) ⊎ Removes call line s.book
      by_cases (inl k) = inl (Leaves-state_of Has s (outcome s call) h k)
      by_cases (inr k) = inr k
