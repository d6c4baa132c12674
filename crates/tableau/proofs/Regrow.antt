-- The steps that close a walk are those of a tree that obeys the rules and closes every branch.
use Rattle.std.proofs.Common.{◌≡◌, ℕ, zero, suc, ◌+◌, ◌≤◌, Bool, true, false, ◌⊎◌, List, [], ◌∷◌, ◌++◌, length, Some, None, Option, sym, refl, ap, ◌∙◌, subst, inl, inr, le_refl, arith}
use Rattle.std.proofs.lemmas.List.{append-nil, append_assoc, length-append}
use Rattle.std.proofs.lemmas.Bool.{leb-true}
use Rattle.forms.specs.Forms.{Table}
use Rattle.tableau.specs.declared.goals.Focus.TheVariants.{Nowhere}
use Rattle.tableau.specs.declared.goals.Goal.{Goal}
use Rattle.tableau.specs.declared.goals.Step.{Step}
use Rattle.tableau.specs.Steps.{Trail, Outcome, closes, one, two, refused}
use Rattle.tableau.specs.Rules.{outcome}
use Rattle.tableau.specs.Allowed.{Rule}
use Rattle.tableau.specs.declared.goals.Frame.{Frame}
use Rattle.tableau.specs.Walk.{Walk, under_way, closed, trail_of, resume, Node, accepted, denied, longest_path, room_below, node_if_room, follow, node, Run, done, then}
use Rattle.tableau.specs.Tree.{Tree, leaf, stem, fork, root, Obeys, ClosesEveryBranch, steps}
use Rattle.tableau.specs.Statements.{ClosedIsTree}
use Rattle.tableau.proofs.Exact.{IsRuled, IsRuled-outcome}
use Rattle.tableau.proofs.Walking.{IsAccepted, length-trail_of}

abbrev Open : Walk → Type 0
Open (under_way g frames) = Unit {0}
Open closed = ⊥

abbrev walk_of : Node → Walk
walk_of (accepted walk) = walk
walk_of (denied r) = closed

room_of : (b : Bool) (walk later : Walk) → node_if_room b walk ≡ accepted later → (b ≡ true) × (walk ≡ later)
room_of true walk later e = (refl, ap walk_of e)
room_of false walk later e = absurd (subst IsAccepted (sym e) tt)

-- a step, those of its first child and those of its second, in turn
in_turn : (st : Step) (sts after first left second rest : List Step) → sts ≡ st ∷ after → after ≡ first ++ left → left ≡ second ++ rest → sts ≡ st ∷ (first ++ second) ++ rest
in_turn st sts after first left second rest e f g = e ∙ ap (λ z. st ∷ z) (f ∙ ap (λ z. first ++ z) g ∙ sym (append_assoc first second rest))

-- a run is at its end, or begins with a step
record Begun (T : Table) (walk : Walk) (sts : List Step) (end : Walk) : Type 0 where
  step : Step
  after : List Step
  later : Walk
  split : sts ≡ step ∷ after
  taken : node T walk step ≡ accepted later
  more : Run T later after end

begun : {T : Table} {walk : Walk} {sts : List Step} {end : Walk} → Run T walk sts end → ((sts ≡ []) × (walk ≡ end)) ⊎ Begun T walk sts end
begun done = inl (refl, refl)
begun (then {later = l} {step = st} {steps = rest} e r) = inr (record { step = st; after = rest; later = l; split = refl; taken = e; more = r })

-- the part of a closing run that treats the present goal and all below it
record Subtree (T : Table) (g : Goal) (frames : List Frame) (sts : List Step) : Type 0 where
  tree : Tree
  left : List Step
  top : root tree ≡ g
  obeys : Obeys T (trail_of frames) tree
  shuts : ClosesEveryBranch tree
  begins : sts ≡ steps tree ++ left
  goes_on : Run T (resume frames) left closed

regrow : (T : Table) (n : ℕ) (g : Goal) (frames : List Frame) (sts : List Step) → length sts ≤ n → Run T (under_way g frames) sts closed → Subtree T g frames sts
unfolding Obeys ClosesEveryBranch steps
regrow T zero g frames sts bound r = by_cases (begun r)
  where
    by_cases : ((sts ≡ []) × (under_way g frames ≡ closed)) ⊎ Begun T (under_way g frames) sts closed → Subtree T g frames sts
    by_cases (inl p) = absurd (subst Open p.1 tt)
    by_cases (inr b) = absurd (let e : length sts ≡ suc (length b.after) = ap length b.split in omega arith)
regrow T (suc n) g frames sts bound r = by_cases (λ c fs rest l run. regrow T n c fs rest l run) (begun r)
  where
    trail : Trail
    trail = trail_of frames

    framed : Step → Option Goal → List Frame
    framed st o = record { ancestor = record { goal = g; step = st }; second = o } ∷ frames

    Later : Type 0
    Later = (c : Goal) (fs : List Frame) (rest : List Step) → length rest ≤ n → Run T (under_way c fs) rest closed → Subtree T c fs rest

    room : room_below frames ≡ true → length trail + 2 ≤ longest_path
    room e = subst (λ k. k + 2 ≤ longest_path) (sym (length-trail_of frames)) (leb-true (length frames + 2) longest_path e)

    shorter : (b : Begun T (under_way g frames) sts closed) → length b.after ≤ n
    shorter b = let e : length sts ≡ suc (length b.after) = ap length b.split in omega arith

    fork_of : (b : Begun T (under_way g frames) sts closed) (c d : Goal) → Rule T trail g b.step (two c d) → length trail + 2 ≤ longest_path
        → (t : Subtree T c (framed b.step (Some d)) b.after) → Subtree T d (framed b.step None) t.left → Subtree T g frames sts
    fork_of b c d rule short t u =
        record {
          tree = fork g b.step t.tree u.tree;
          left = u.left;
          top = refl;
          obeys = (subst (λ z. Rule T trail g b.step (two z (root u.tree))) (sym t.top) (subst (λ z. Rule T trail g b.step (two c z)) (sym u.top) rule), short, t.obeys, u.obeys);
          shuts = (t.shuts, u.shuts);
          begins = in_turn b.step sts b.after (steps t.tree) t.left (steps u.tree) u.left b.split t.begins u.begins;
          goes_on = u.goes_on;
        }

    by : Later → (b : Begun T (under_way g frames) sts closed) (out : Outcome) → IsRuled T trail g b.step out → follow g b.step frames out ≡ accepted b.later → Subtree T g frames sts
    by again b closes rule e =
        record {
          tree = leaf g b.step;
          left = b.after;
          top = refl;
          obeys = rule;
          shuts = tt;
          begins = b.split;
          goes_on = subst (λ z. Run T z b.after closed) (sym (ap walk_of e)) b.more;
        }
    by again b (one c) rule e =
        let k : (room_below frames ≡ true) × (under_way c (framed b.step None) ≡ b.later) = room_of (room_below frames) _ b.later e in
        let t : Subtree T c (framed b.step None) b.after = again c (framed b.step None) b.after (shorter b) (subst (λ z. Run T z b.after closed) (sym k.1) b.more) in
        record {
          tree = stem g b.step t.tree;
          left = t.left;
          top = refl;
          obeys = (subst (λ z. Rule T trail g b.step (one z)) (sym t.top) rule, room k.0, t.obeys);
          shuts = t.shuts;
          begins = b.split ∙ ap (λ z. b.step ∷ z) t.begins;
          goes_on = t.goes_on;
        }
    by again b (two c d) rule e =
        let k : (room_below frames ≡ true) × (under_way c (framed b.step (Some d)) ≡ b.later) = room_of (room_below frames) _ b.later e in
        let t : Subtree T c (framed b.step (Some d)) b.after = again c (framed b.step (Some d)) b.after (shorter b) (subst (λ z. Run T z b.after closed) (sym k.1) b.more) in
        let size : length b.after ≡ length (steps t.tree) + length t.left = ap length t.begins ∙ length-append (steps t.tree) t.left in
        let few : length b.after ≤ n = shorter b in
        let u : Subtree T d (framed b.step None) t.left = again d (framed b.step None) t.left (omega arith) t.goes_on in
        fork_of b c d rule (room k.0) t u
    by again b (refused x) rule e = absurd (subst IsAccepted (sym e) tt)

    step_of : Later → (b : Begun T (under_way g frames) sts closed) → Subtree T g frames sts
    step_of again b = by again b (outcome T trail g b.step) (IsRuled-outcome T trail g b.step) b.taken

    by_cases : Later → ((sts ≡ []) × (under_way g frames ≡ closed)) ⊎ Begun T (under_way g frames) sts closed → Subtree T g frames sts
    by_cases again (inl p) = absurd (subst Open p.1 tt)
    by_cases again (inr b) = step_of again b

nothing_left : (T : Table) (sts : List Step) → Run T closed sts closed → sts ≡ []
nothing_left T sts r = by_cases (begun r)
  where
    by_cases : ((sts ≡ []) × (closed ≡ closed)) ⊎ Begun T closed sts closed → sts ≡ []
    by_cases (inl p) = p.0
    by_cases (inr b) = absurd (subst IsAccepted (sym b.taken) tt)

pub closed_is_tree : ClosedIsTree
closed_is_tree T set sts r =
    let t : Subtree T (record { set = set; focus = Nowhere }) [] sts = regrow T (length sts) (record { set = set; focus = Nowhere }) [] sts (le_refl (length sts)) r in
    (t.tree, t.top, t.obeys, t.shuts, sym (append-nil (steps t.tree)) ∙ ap (λ z. steps t.tree ++ z) (sym (nothing_left T t.left t.goes_on)) ∙ sym t.begins)
