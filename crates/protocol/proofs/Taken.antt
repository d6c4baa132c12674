-- A refutation is taken whole by open, node and enter, and then its set stands as impossible.
use Rattle.std.proofs.Common.{◌≡◌, ℕ, ◌^◌, ◌<◌, ◌≤◌, true, ltb, List, [], ◌∷◌, ◌++◌, map, length, Some, None, sym, refl, ap, ◌∙◌, subst, arith, pow_mono}
use Rattle.std.proofs.lemmas.Bool.{lt-ltb, ltb-true}
use Rattle.forms.specs.declared.refusal.Refusal.TheVariants.{SetBeyondTable, NoSuchStep, SetStands, BookFull}
use Rattle.forms.specs.Sets.{is_within}
use Rattle.tableau.specs.declared.goals.Step.{Step}
use Rattle.tableau.specs.Steps.{step_of, numbers_of}
use Rattle.tableau.specs.Statements.{AllInBytes}
use Rattle.tableau.specs.Walk as Walk
use Rattle.tableau.specs.Walk.{Walk, start, Run}
use Rattle.tableau.specs.Tree.{Tree, steps}
use Rattle.tableau.proofs.Bytes.{tree_is_in_bytes}
use Rattle.tableau.proofs.Walking.{tree_taken}
use Rattle.walk.specs.Progress.{absent, present, progress_result, open_result}
use Rattle.protocol.specs.declared.line.Standing.TheVariants.{Impossible}
use Rattle.protocol.specs.State.{State, most_lines, standing, is_free, with_walk, with_line}
use Rattle.protocol.specs.Calls as Calls
use Rattle.protocol.specs.Calls.{Call, open_at, node, enter, taken, outcome_given, walk_outcome, outcome, answer_of, state_of}
use Rattle.protocol.specs.Runs.{AllLawful, IsAccepted, AllAccepted, state_from}
use Rattle.protocol.specs.Promises.{StandsAs, Brings, whole_calls, IsRefutation}
use Rattle.protocol.proofs.BookLines.{standing_pushed}

-- a step as a call of node
abbrev node_for : Step → Call
node_for st = node (numbers_of st).0 (numbers_of st).1 (numbers_of st).2

nodes_lawful : (sts : List Step) → AllInBytes sts → AllLawful (map node_for sts ++ enter ∷ [])
nodes_lawful [] h = (tt, tt)
nodes_lawful (st ∷ sts) h = ((h.0.0, h.0.1, h.0.2), nodes_lawful sts h.1)

nodes_bring : (sts : List Step) → AllInBytes sts → Brings (map node_for sts) sts
nodes_bring [] h = Brings.no_more
nodes_bring (st ∷ sts) h = Brings.then h.0.3 (nodes_bring sts h.1)

abbrev Leads : State → List Call → State → Type 0
Leads s calls end = AllAccepted s calls × (state_from s calls ≡ end)

leads_on : (s : State) (call : Call) (calls : List Call) (numbers : List ℕ) (mid end : State) → outcome s call ≡ taken numbers mid → Leads mid calls end → Leads s (call ∷ calls) end
leads_on s call calls numbers mid end e h = (
  (subst (λ o. IsAccepted (answer_of o)) (sym e) tt, subst (λ o. AllAccepted (state_of s o) calls) (sym e) h.0),
  ap (λ o. state_from (state_of s o) calls) e ∙ h.1,
)

open_taken : (s : State) (set : ℕ) → is_within s.table set ≡ true → s.walk ≡ absent → outcome s (open_at set) ≡ taken (1 ∷ []) (with_walk s (present set (start set)))
open_taken s set inside none_yet =
    ap (λ b. outcome_given b SetBeyondTable (walk_outcome s (open_result s.walk set))) inside ∙ ap (λ p. walk_outcome s (open_result p set)) none_yet

enter_taken : (s : State) (set : ℕ) → standing s.book set ≡ None → length s.book < most_lines
    → outcome (with_walk s (present set Walk.closed)) enter ≡ taken (length s.book ∷ []) (with_walk (with_line s set Impossible) absent)
enter_taken s set free room =
    let last : Calls.Outcome = taken (length s.book ∷ []) (with_walk (with_line s set Impossible) absent) in
    ap (λ o. outcome_given (is_free o) SetStands (outcome_given (ltb (length s.book) most_lines) BookFull last)) free
    ∙ ap (λ b. outcome_given b BookFull last) (lt-ltb (length s.book) most_lines room)

abbrev Passes : Walk.Node → Type 0
Passes (Walk.accepted walk) = Unit {0}
Passes (Walk.denied why) = ⊥

node_taken : (s : State) (set : ℕ) (walk later : Walk) (number a b : ℕ) (st : Step) → step_of number a b ≡ Some st → Walk.node s.table walk st ≡ Walk.accepted later
    → outcome (with_walk s (present set walk)) (node number a b) ≡ taken (length (Walk.waiting_goals later) ∷ []) (with_walk s (present set later))
node_taken s set Walk.closed later number a b st reads e = absurd (subst Passes (sym e) tt)
node_taken s set (Walk.under_way g frames) later number a b st reads e =
    ap
    (λ o. walk_outcome (with_walk s (present set (Walk.under_way g frames))) (progress_result set (elim o [ None ↦ Walk.denied NoSuchStep | Some step ↦ Walk.node s.table (Walk.under_way g frames) step ])))
    reads
    ∙ ap (λ n. walk_outcome (with_walk s (present set (Walk.under_way g frames))) (progress_result set n)) e

run_leads : (s : State) (set : ℕ) (walk : Walk) (nodes : List Call) (sts : List Step) (end : Walk) (calls : List Call) (final : State) → Brings nodes sts → Run s.table walk sts end
    → Leads (with_walk s (present set end)) calls final → Leads (with_walk s (present set walk)) (nodes ++ calls) final
run_leads s set walk nodes sts end calls final b Walk.done h = none_left nodes b h
  where
    none_left : (nodes : List Call) → Brings nodes [] → Leads (with_walk s (present set end)) calls final → Leads (with_walk s (present set end)) (nodes ++ calls) final
    none_left nodes Brings.no_more k = k
run_leads s set walk nodes sts end calls final b (Walk.then {later = later} {step = st} {steps = rest} e r) h =
    by_cases nodes b (λ more c. run_leads s set later more rest end calls final c r h)
  where
    by_cases : (nodes : List Call) → Brings nodes (st ∷ rest) → ((more : List Call) → Brings more rest → Leads (with_walk s (present set later)) (more ++ calls) final)
        → Leads (with_walk s (present set walk)) (nodes ++ calls) final
    by_cases nodes (Brings.then {number} {a} {b} {nodes = more} reads c) on =
        leads_on (with_walk s (present set walk)) (node number a b) (more ++ calls) (length (Walk.waiting_goals later) ∷ []) (with_walk s (present set later)) final
        (node_taken s set walk later number a b st reads e) (on more c)

module _ (s : State) (set : ℕ) (tree : Tree) (refutes : IsRefutation s.table set tree) where
  pub can_be_brought : length s.table ≤ 64 → (nodes : List Call) × (Brings nodes (steps tree) × AllLawful (whole_calls set nodes))
  can_be_brought small =
      let fit = tree_is_in_bytes s.table small tree refutes.obeys in
      (map node_for (steps tree), (nodes_bring (steps tree) fit, (word (length s.table) small refutes.in_table, nodes_lawful (steps tree) fit)))
    where
      word : (n : ℕ) → n ≤ 64 → ltb set (2 ^ n) ≡ true → set < 2 ^ 64
      word n few h = omega (arith, ltb-true set (2 ^ n) h, pow_mono few)

  module _ (none_yet : s.walk ≡ absent) (free : standing s.book set ≡ None) (room : length s.book < most_lines) (nodes : List Call) (brings : Brings nodes (steps tree)) where
    leads : Leads s (whole_calls set nodes) (with_walk (with_line s set Impossible) absent)
    leads =
        let final : State = with_walk (with_line s set Impossible) absent in
        leads_on s (open_at set) (nodes ++ enter ∷ []) (1 ∷ []) (with_walk s (present set (start set))) final
        (open_taken s set refutes.in_table none_yet)
        (run_leads s set (start set) nodes (steps tree) Walk.closed (enter ∷ []) final brings
        (tree_taken s.table set tree refutes.rooted refutes.obeys refutes.closes)
        (leads_on (with_walk s (present set Walk.closed)) enter [] (length s.book ∷ []) final final (enter_taken s set free room) (tt, refl)))

    pub taken_whole : AllAccepted s (whole_calls set nodes) × StandsAs (state_from s (whole_calls set nodes)) set Impossible
    taken_whole = (leads.0, ap (λ t. standing t.book set) leads.1 ∙ standing_pushed s.book set Impossible free)
