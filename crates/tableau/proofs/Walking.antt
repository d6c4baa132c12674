-- A walk keeps a goal that is met, so a closed walk refutes its set on every model; and the steps of a closed tree are all accepted and close the walk.
use Rattle.std.proofs.Common.{◌≡◌, ℕ, suc, ◌+◌, ◌≤◌, Bool, true, false, ◌⊎◌, List, [], ◌∷◌, ◌++◌, length, Some, None, Option, refl, ap, ◌∙◌, subst, inl, inr}
use Rattle.std.proofs.lemmas.Bool.{le-leb}
use Rattle.ctl.specs.Model.{Model, IsSerial}
use Rattle.forms.specs.Forms.{Table, IsWellFormed}
use Rattle.tableau.specs.declared.goals.Focus.TheVariants.{Nowhere}
use Rattle.tableau.specs.declared.goals.Goal.{Goal}
use Rattle.tableau.specs.declared.goals.Step.{Step}
use Rattle.tableau.specs.Steps.{Trail, Outcome, closes, one, two, refused}
use Rattle.tableau.specs.Rules.{outcome}
use Rattle.tableau.specs.declared.goals.Frame.{Frame}
use Rattle.tableau.specs.Walk.{Walk, under_way, closed, trail_of, start, seconds, waiting_goals, resume, Node, accepted, denied, longest_path, room_below, node_if_room, follow, node, Run, done, then}
use Rattle.tableau.specs.Tree.{Tree, bare, leaf, stem, fork, root, Obeys, ClosesEveryBranch, steps}
use Rattle.tableau.specs.Statements.{Among, WalkKeeps, ClosedRefutes}
use Rattle.forms.specs.Meaning.{SetHolds}
use Rattle.tableau.proofs.Live.{Live}
use Rattle.tableau.proofs.Sound.{step_sound}
use Rattle.tableau.proofs.Exact.{IsRuled, IsRuled-outcome, outcome-Rule}

-- a step that is taken
abbrev pub IsAccepted : Node → Type 0
IsAccepted (accepted walk) = Unit {0}
IsAccepted (denied r) = ⊥

module _ (T : Table) (m : Model) where
  abbrev SecondLive : Option Goal → Trail → Type 0
  SecondLive None trail = ⊥
  SecondLive (Some g) trail = Live T m trail g

  -- some second child that waits is met
  abbrev WaitingLive : List Frame → Type 0
  WaitingLive [] = ⊥
  WaitingLive (x ∷ frames) = SecondLive x.second (trail_of (x ∷ frames)) ⊎ WaitingLive frames

  -- some goal that waits is met at some state of m
  abbrev pub Alive : Walk → Type 0
  Alive (under_way g frames) = Live T m (trail_of frames) g ⊎ WaitingLive frames
  Alive closed = ⊥

  abbrev NodeAlive : Node → Type 0
  NodeAlive (accepted walk) = Alive walk
  NodeAlive (denied r) = Unit {0}

  Alive-resume : (frames : List Frame) → WaitingLive frames → Alive (resume frames)
  Alive-resume [] h = h
  Alive-resume (x ∷ frames) h = by_cases x.second h (λ k. Alive-resume frames k)
    where
      by_cases : (o : Option Goal) → SecondLive o (trail_of (x ∷ frames)) ⊎ WaitingLive frames → (WaitingLive frames → Alive (resume frames))
          → Alive (resume (record { ancestor = x.ancestor; second = o } ∷ frames))
      by_cases None (inl k) ih = absurd k
      by_cases None (inr k) ih = ih k
      by_cases (Some g) (inl k) ih = inl k
      by_cases (Some g) (inr k) ih = inr (inr k)

  NodeAlive-node_if_room : (b : Bool) (walk : Walk) → Alive walk → NodeAlive (node_if_room b walk)
  NodeAlive-node_if_room true walk h = h
  NodeAlive-node_if_room false walk h = tt

module _ (T : Table) (w : IsWellFormed T) (m : Model) (serial : IsSerial m) where
  NodeAlive-follow : (g : Goal) (st : Step) (frames : List Frame) (out : Outcome) → IsRuled T (trail_of frames) g st out → Alive T m (under_way g frames)
      → NodeAlive T m (follow g st frames out)
  NodeAlive-follow g st frames closes r (inl h) = absurd (step_sound T w m serial (trail_of frames) g st closes r h)
  NodeAlive-follow g st frames closes r (inr h) = Alive-resume T m frames h
  NodeAlive-follow g st frames (one c) r (inl h) = NodeAlive-node_if_room T m (room_below frames) _ (inl (step_sound T w m serial (trail_of frames) g st (one c) r h))
  NodeAlive-follow g st frames (one c) r (inr h) = NodeAlive-node_if_room T m (room_below frames) _ (inr (inr h))
  NodeAlive-follow g st frames (two c d) r (inl h) = NodeAlive-node_if_room T m (room_below frames) _ (by_cases (step_sound T w m serial (trail_of frames) g st (two c d) r h))
    where
      below : Trail
      below = record { goal = g; step = st } ∷ trail_of frames

      by_cases : Live T m below c ⊎ Live T m below d → Alive T m (under_way c (record { ancestor = record { goal = g; step = st }; second = Some d } ∷ frames))
      by_cases (inl k) = inl k
      by_cases (inr k) = inr (inl k)
  NodeAlive-follow g st frames (two c d) r (inr h) = NodeAlive-node_if_room T m (room_below frames) _ (inr (inr h))
  NodeAlive-follow g st frames (refused e) r h = tt

  NodeAlive-node : (walk : Walk) (st : Step) → Alive T m walk → NodeAlive T m (node T walk st)
  NodeAlive-node (under_way g frames) st h = NodeAlive-follow g st frames (outcome T (trail_of frames) g st) (IsRuled-outcome T (trail_of frames) g st) h
  NodeAlive-node closed st h = absurd h

  -- every accepted step keeps it
  pub Alive_run : (walk : Walk) (sts : List Step) (later : Walk) → Run T walk sts later → Alive T m walk → Alive T m later
  Alive_run walk sts later done h = h
  Alive_run walk sts later (then {later = middle} {step = st} {steps = rest} e r) h =
      Alive_run middle rest later r (subst (NodeAlive T m) e (NodeAlive-node walk st h))

  Alive-start : (set s : ℕ) → SetHolds T m set s → Alive T m (start set)
  Alive-start set s h = inl (s, (h, tt))

  -- a closed walk refutes its set at every state
  pub closed_refutes : (set : ℕ) (sts : List Step) → Run T (start set) sts closed → (s : ℕ) → SetHolds T m set s → ⊥
  closed_refutes set sts r s h = Alive_run (start set) sts closed r (Alive-start set s h)

pub Run-append : {T : Table} {a b c : Walk} {xs ys : List Step} → Run T a xs b → Run T b ys c → Run T a (xs ++ ys) c
Run-append done s = s
Run-append (then e r) s = then e (Run-append r s)

pub length-trail_of : (frames : List Frame) → length (trail_of frames) ≡ length frames
length-trail_of [] = refl
length-trail_of (x ∷ frames) = ap suc (length-trail_of frames)

module _ (T : Table) where
  room : (frames : List Frame) (walk : Walk) → length (trail_of frames) + 2 ≤ longest_path → node_if_room (room_below frames) walk ≡ accepted walk
  room frames walk h =
      ap (λ b. node_if_room b walk) (le-leb (length frames + 2) longest_path (subst (λ n. n + 2 ≤ longest_path) (length-trail_of frames) h))

  -- the steps of a closed tree below the present goal are accepted, and lead on to the next second child that waits
  Run_tree : (t : Tree) (frames : List Frame) → Obeys T (trail_of frames) t → ClosesEveryBranch t → Run T (under_way (root t) frames) (steps t) (resume frames)
  unfolding Obeys ClosesEveryBranch steps
  Run_tree (bare g) frames o c = absurd c
  Run_tree (leaf g st) frames o c = then (ap (follow g st frames) (outcome-Rule T (trail_of frames) g st closes o)) done
  Run_tree (stem g st t) frames o c =
      then (ap (follow g st frames) (outcome-Rule T (trail_of frames) g st (one (root t)) o.0) ∙ room frames _ o.1)
      (Run_tree t (record { ancestor = record { goal = g; step = st }; second = None } ∷ frames) o.2 c)
  Run_tree (fork g st t u) frames o c =
      then (ap (follow g st frames) (outcome-Rule T (trail_of frames) g st (two (root t) (root u)) o.0) ∙ room frames _ o.1)
      (Run-append (Run_tree t (record { ancestor = record { goal = g; step = st }; second = Some (root u) } ∷ frames) o.2 c.0)
      (Run_tree u (record { ancestor = record { goal = g; step = st }; second = None } ∷ frames) o.3 c.1))

  -- a tree that obeys the rules and closes every branch is taken whole
  pub tree_taken : (set : ℕ) (t : Tree) → root t ≡ record { set = set; focus = Nowhere } → Obeys T [] t → ClosesEveryBranch t → Run T (start set) (steps t) closed
  tree_taken set t e o c = subst (λ g. Run T (under_way g []) (steps t) closed) e (Run_tree t [] o c)

module _ (T : Table) (m : Model) where
  holds_somewhere : (frames : List Frame) → WaitingLive T m frames → Among (λ g. (t : ℕ) × SetHolds T m g.set t) (seconds frames)
  holds_somewhere [] h = h
  holds_somewhere (x ∷ frames) h = by_cases x.second h (λ k. holds_somewhere frames k)
    where
      by_cases : (o : Option Goal) → SecondLive T m o (trail_of (x ∷ frames)) ⊎ WaitingLive T m frames
          → (WaitingLive T m frames → Among (λ g. (t : ℕ) × SetHolds T m g.set t) (seconds frames))
          → Among (λ g. (t : ℕ) × SetHolds T m g.set t) (seconds (record { ancestor = x.ancestor; second = o } ∷ frames))
      by_cases None (inl k) ih = absurd k
      by_cases None (inr k) ih = ih k
      by_cases (Some g) (inl k) ih = inl (k.0, k.1.0)
      by_cases (Some g) (inr k) ih = inr (ih k)

  Alive_holds : (walk : Walk) → Alive T m walk → Among (λ g. (t : ℕ) × SetHolds T m g.set t) (waiting_goals walk)
  Alive_holds (under_way g frames) (inl k) = inl (k.0, k.1.0)
  Alive_holds (under_way g frames) (inr k) = inr (holds_somewhere frames k)
  Alive_holds closed h = h

pub walk_keeps : WalkKeeps
walk_keeps T w m serial set sts walk r s h = Alive_holds T m walk (Alive_run T w m serial (start set) sts walk r (Alive-start T w m serial set s h))

pub closed_walk_refutes : ClosedRefutes
closed_walk_refutes T w set sts r m serial s h = closed_refutes T w m serial set sts r s h
