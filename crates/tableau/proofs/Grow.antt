-- Forms that join the table change no step of a walk whose sets are in the table before.
use Rattle.std.proofs.Common.{◌≡◌, ℕ, suc, ◌+◌, ◌<◌, ◌≤◌, Bool, true, false, cond, ◌||◌, ◌⊎◌, List, [], ◌∷◌, ◌++◌, length, Some, None, Option, sym, refl, ap, ◌∙◌, subst, ap₂, inl, inr, arith}
use Rattle.std.proofs.lemmas.List.{get_or_append_left, get_or_past}
use Rattle.std.proofs.lemmas.Bool.{cases_lt, cases_Bool}
use Rattle.forms.specs.Sets.{member, set_insert, set_remove}
use Rattle.forms.specs.declared.form.Quantifier.TheVariants.{Exists, Every}
use Rattle.forms.specs.declared.form.Form.{Form}
use Rattle.forms.specs.declared.form.Form.TheVariants.{Truth, Next}
use Rattle.forms.specs.Forms.{Table, IsWellFormed, Earlier, IsNotTruth, form}
use Rattle.tableau.specs.declared.goals.Focus.{Focus}
use Rattle.tableau.specs.declared.goals.Focus.TheVariants.{Nowhere, At, Ahead}
use Rattle.tableau.specs.declared.goals.Goal.{Goal}
use Rattle.tableau.specs.declared.goals.Step.{Step}
use Rattle.tableau.specs.declared.goals.Step.TheVariants.{Advance}
use Rattle.tableau.specs.Steps.{Trail, Outcome, closes, one, two, refused}
use Rattle.tableau.specs.Nexts.{is_every, join_every, every_operands}
use Rattle.tableau.specs.Focus.{is_focused_at, first_focus, second_focus, is_named, focus_after}
use Rattle.tableau.specs.Rules.{outcome}
use Rattle.tableau.specs.Allowed.{In, Rule, by_clash, by_absurdity, by_split, by_choose, by_until, by_release, by_refocus, by_advance, by_any, by_repeat}
use Rattle.tableau.specs.declared.goals.Frame.{Frame}
use Rattle.tableau.specs.Walk.{Walk, under_way, closed, trail_of, start, resume, Node, accepted, denied, room_below, node_if_room, follow, node, Run, done, then}
use Rattle.tableau.specs.Statements.{InTable, RunGrows}
use Rattle.tableau.proofs.SetLaws.{inserted, kept}
use Rattle.tableau.proofs.NextSets.{member-every_operands}
use Rattle.tableau.proofs.Exact.{IsRuled, IsRuled-outcome, outcome-Rule}
use Rattle.tableau.proofs.Walking.{IsAccepted}

pub placed : (T : Table) (a : ℕ) {x : Form} → form T a ≡ x → IsNotTruth x → a < length T
placed T a {x} e solid = by_cases (cases_lt a (length T))
  where
    by_cases : (a < length T) ⊎ (length T ≤ a) → a < length T
    by_cases (inl l) = l
    by_cases (inr l) = absurd (subst IsNotTruth (sym e ∙ get_or_past T a Truth l) solid)

pub form_grows : (T more : Table) (a : ℕ) → a < length T → form (T ++ more) a ≡ form T a
form_grows T more a l = get_or_append_left T more Truth a l

same_form : (T more : Table) (a : ℕ) {x : Form} → form T a ≡ x → IsNotTruth x → form (T ++ more) a ≡ x
same_form T more a e solid = form_grows T more a (placed T a e solid) ∙ e

-- where the form is not in the set, nothing joins
no_join : (x : Form) (r : ℕ) → join_every x false r ≡ r
no_join (Next Exists i) r = refl
no_join _ r = refl

no_operands : (L : List Form) (n s : ℕ) → ((f : ℕ) → member s f ≡ true → f < n) → every_operands L n s ≡ 0
unfolding every_operands
no_operands [] n s h = refl
no_operands (x ∷ L) n s h = by_cases (cases_Bool (member s n)) (no_operands L (suc n) s (λ f b. let l : f < n = h f b in omega arith))
  where
    by_cases : (member s n ≡ true) ⊎ (member s n ≡ false) → every_operands L (suc n) s ≡ 0 → join_every x (member s n) (every_operands L (suc n) s) ≡ 0
    by_cases (inl b) ih = absurd (let l : n < n = h n b in omega arith)
    by_cases (inr b) ih = ap₂ (join_every x) b ih ∙ no_join x 0

same_operands : (L more : List Form) (n s : ℕ) → ((f : ℕ) → member s f ≡ true → f < n + length L) → every_operands (L ++ more) n s ≡ every_operands L n s
unfolding every_operands
same_operands [] more n s h = no_operands more n s (λ f b. let l : f < n + 0 = h f b in omega arith)
same_operands (x ∷ L) more n s h = ap (join_every x (member s n)) (same_operands L more (suc n) s (λ f b. let l : f < n + suc (length L) = h f b in omega arith))

-- the forms of the focus are in the table
abbrev FocusInside : Table → Focus → Type 0
FocusInside T Nowhere = Unit {0}
FocusInside T (At u) = u < length T
FocusInside T (Ahead x u) = (x < length T) × (u < length T)

abbrev Inside : Table → Goal → Type 0
Inside T g = InTable T g.set × FocusInside T g.focus

same_focus : (T more : Table) (a : Option ℕ) (f : Focus) → FocusInside T f → focus_after (T ++ more) a f ≡ focus_after T a f
same_focus T more a Nowhere h = refl
same_focus T more a (At u) h = refl
same_focus T more a (Ahead x u) h = ap (λ y. cond (is_named a x || is_every y) (At u) Nowhere) (form_grows T more x h.0)

module _ (T more : Table) (trail : Trail) (g : Goal) (inside : Inside T g) where
  same_every : every_operands (T ++ more) 0 g.set ≡ every_operands T 0 g.set
  same_every = same_operands T more 0 g.set (λ f b. let l : f < length T = inside.0 f b in omega arith)

  Rule_grows : (st : Step) (out : Outcome) → Rule T trail g st out → Rule (T ++ more) trail g st out
  Rule_grows st out (by_clash {a} {b} ia ib ea eb) = by_clash ia ib (same_form T more a ea tt) (same_form T more b eb tt)
  Rule_grows st out (by_absurdity {a} ia ea) = by_absurdity ia (same_form T more a ea tt)
  Rule_grows st out (by_split {a} ia ea) = by_split ia (same_form T more a ea tt)
  Rule_grows st out (by_choose {a} ia ea) = by_choose ia (same_form T more a ea tt)
  Rule_grows st out (by_until {a} {b} ia ea eb) = by_until ia (same_form T more a ea tt) (same_form T more b eb tt)
  Rule_grows st out (by_release {a} {b} ia ea eb) = by_release ia (same_form T more a ea tt) (same_form T more b eb tt)
  Rule_grows st out (by_refocus {a} ia ea) = by_refocus ia (same_form T more a ea tt)
  Rule_grows st out (by_advance {a} {i} ia ea) =
      subst (λ r. Rule (T ++ more) trail g (Advance (Some a)) (one (record { set = set_insert r i; focus = focus_after T (Some a) g.focus }))) same_every
      (subst (λ f. Rule (T ++ more) trail g (Advance (Some a)) (one (record { set = set_insert (every_operands (T ++ more) 0 g.set) i; focus = f }))) (same_focus T more (Some a) g.focus inside.1)
      (by_advance ia (same_form T more a ea tt)))
  Rule_grows st out by_any =
      subst (λ r. Rule (T ++ more) trail g (Advance None) (one (record { set = r; focus = focus_after T None g.focus }))) same_every
      (subst (λ f. Rule (T ++ more) trail g (Advance None) (one (record { set = every_operands (T ++ more) 0 g.set; focus = f }))) (same_focus T more None g.focus inside.1) by_any)
  Rule_grows st out (by_repeat e r) = by_repeat e r

in_insert : (T : Table) (s i : ℕ) → InTable T s → i < length T → InTable T (set_insert s i)
in_insert T s i h l f b = by_cases (inserted s i f b)
  where
    by_cases : (member s f ≡ true) ⊎ (f ≡ i) → f < length T
    by_cases (inl k) = h f k
    by_cases (inr e) = omega arith

in_remove : (T : Table) (s a : ℕ) → InTable T s → InTable T (set_remove s a)
in_remove T s a h f b = h f (kept s a f b)

FocusInside-cond : (T : Table) (b : Bool) (f f' : Focus) → FocusInside T f → FocusInside T f' → FocusInside T (cond b f f')
FocusInside-cond T true f f' h k = h
FocusInside-cond T false f f' h k = k

FocusInside-focus_after : (T : Table) (a : Option ℕ) (f : Focus) → FocusInside T f → FocusInside T (focus_after T a f)
FocusInside-focus_after T a Nowhere h = tt
FocusInside-focus_after T a (At u) h = tt
FocusInside-focus_after T a (Ahead x u) h = FocusInside-cond T (is_named a x || is_every (form T x)) (At u) Nowhere h.1 tt

abbrev ChildrenInside : Table → Outcome → Type 0
ChildrenInside T closes = Unit {0}
ChildrenInside T (one c) = Inside T c
ChildrenInside T (two c d) = Inside T c × Inside T d
ChildrenInside T (refused r) = Unit {0}

module _ (T : Table) (w : IsWellFormed T) (trail : Trail) (g : Goal) (inside : Inside T g) where
  in₁ : (a i : ℕ) → i < length T → InTable T (set_insert (set_remove g.set a) i)
  in₁ a i l = in_insert T (set_remove g.set a) i (in_remove T g.set a inside.0) l

  in₂ : (a i j : ℕ) → i < length T → j < length T → InTable T (set_insert (set_insert (set_remove g.set a) i) j)
  in₂ a i j l k = in_insert T (set_insert (set_remove g.set a) i) j (in₁ a i l) k

  -- operands stand before their form
  both_inside : (a i j : ℕ) → In g a → (i < a) × (j < a) → (i < length T) × (j < length T)
  both_inside a i j ia o = let l : a < length T = inside.0 a ia in (omega arith, omega arith)

  every_inside : InTable T (every_operands T 0 g.set)
  every_inside f b =
      let r : (y : ℕ) × ((member g.set (0 + y) ≡ true) × (form T y ≡ Next Every f)) = member-every_operands T 0 g.set f b in
      let l : r.0 < length T = placed T r.0 r.1.1 tt in
      let k : f < r.0 = subst (Earlier r.0) r.1.1 (w r.0) in
      omega arith

  FocusInside-first_focus : (a : ℕ) → FocusInside T (first_focus a g.focus)
  FocusInside-first_focus a = FocusInside-cond T (is_focused_at a g.focus) Nowhere g.focus tt inside.1

  FocusInside-second_focus : (a b : ℕ) → a < length T → b < length T → FocusInside T (second_focus a b g.focus)
  FocusInside-second_focus a b l k = FocusInside-cond T (is_focused_at a g.focus) (Ahead b a) g.focus (k, l) inside.1

  ChildrenInside_rule : (st : Step) (out : Outcome) → Rule T trail g st out → ChildrenInside T out
  ChildrenInside_rule st out (by_clash ia ib ea eb) = tt
  ChildrenInside_rule st out (by_absurdity ia ea) = tt
  ChildrenInside_rule st out (by_split {a} {i} {j} ia ea) =
      let o : (i < length T) × (j < length T) = both_inside a i j ia (subst (Earlier a) ea (w a)) in (in₂ a i j o.0 o.1, inside.1)
  ChildrenInside_rule st out (by_choose {a} {i} {j} ia ea) =
      let o : (i < length T) × (j < length T) = both_inside a i j ia (subst (Earlier a) ea (w a)) in ((in₁ a i o.0, inside.1), (in₁ a j o.1, inside.1))
  ChildrenInside_rule st out (by_until {a} {b} {i} {j} ia ea eb) =
      let o : (i < length T) × (j < length T) = both_inside a i j ia (subst (Earlier a) ea (w a)) in
      let k : b < length T = placed T b eb tt in
      ((in₁ a j o.1, FocusInside-first_focus a), (in₂ a i b o.0 k, FocusInside-second_focus a b (inside.0 a ia) k))
  ChildrenInside_rule st out (by_release {a} {b} {i} {j} ia ea eb) =
      let o : (i < length T) × (j < length T) = both_inside a i j ia (subst (Earlier a) ea (w a)) in
      let k : b < length T = placed T b eb tt in
      ((in₂ a i j o.0 o.1, FocusInside-first_focus a), (in₂ a j b o.1 k, FocusInside-second_focus a b (inside.0 a ia) k))
  ChildrenInside_rule st out (by_refocus {a} ia ea) = (inside.0, inside.0 a ia)
  ChildrenInside_rule st out (by_advance {a} {i} ia ea) =
      let l : a < length T = inside.0 a ia in
      let k : i < a = subst (Earlier a) ea (w a) in
      (in_insert T (every_operands T 0 g.set) i every_inside (omega arith), FocusInside-focus_after T (Some a) g.focus inside.1)
  ChildrenInside_rule st out by_any = (every_inside, FocusInside-focus_after T None g.focus inside.1)
  ChildrenInside_rule st out (by_repeat e r) = tt

module _ (T : Table) where
  abbrev SecondInside : Option Goal → Type 0
  SecondInside None = Unit {0}
  SecondInside (Some g) = Inside T g

  abbrev FramesInside : List Frame → Type 0
  FramesInside [] = Unit {0}
  FramesInside (x ∷ frames) = SecondInside x.second × FramesInside frames

  abbrev WalkInside : Walk → Type 0
  WalkInside (under_way g frames) = Inside T g × FramesInside frames
  WalkInside closed = Unit {0}

  abbrev NodeInside : Node → Type 0
  NodeInside (accepted walk) = WalkInside walk
  NodeInside (denied r) = Unit {0}

  WalkInside-resume : (frames : List Frame) → FramesInside frames → WalkInside (resume frames)
  WalkInside-resume [] h = tt
  WalkInside-resume (x ∷ frames) h = by_cases x.second h.0 (WalkInside-resume frames h.1)
    where
      by_cases : (o : Option Goal) → SecondInside o → WalkInside (resume frames) → WalkInside (resume (record { ancestor = x.ancestor; second = o } ∷ frames))
      by_cases None k ih = ih
      by_cases (Some g) k ih = (k, (tt, h.1))

  NodeInside-node_if_room : (b : Bool) (walk : Walk) → WalkInside walk → NodeInside (node_if_room b walk)
  NodeInside-node_if_room true walk h = h
  NodeInside-node_if_room false walk h = tt

  NodeInside-follow : (g : Goal) (st : Step) (frames : List Frame) (out : Outcome) → ChildrenInside T out → FramesInside frames → NodeInside (follow g st frames out)
  NodeInside-follow g st frames closes c h = WalkInside-resume frames h
  NodeInside-follow g st frames (one d) c h = NodeInside-node_if_room (room_below frames) _ (c, (tt, h))
  NodeInside-follow g st frames (two d e) c h = NodeInside-node_if_room (room_below frames) _ (c.0, (c.1, h))
  NodeInside-follow g st frames (refused r) c h = tt

module _ (T : Table) (w : IsWellFormed T) (more : Table) where
  -- an accepted step is accepted in the larger table too, with the same walk after it
  node_grows : (walk later : Walk) (st : Step) → WalkInside T walk → node T walk st ≡ accepted later → (node (T ++ more) walk st ≡ accepted later) × WalkInside T later
  node_grows closed later st h e = absurd (subst IsAccepted (sym e) tt)
  node_grows (under_way g frames) later st h e = by_cases (outcome T (trail_of frames) g st) (IsRuled-outcome T (trail_of frames) g st) e
    where
      Both : Type 0
      Both = (node (T ++ more) (under_way g frames) st ≡ accepted later) × WalkInside T later

      by : (out : Outcome) → Rule T (trail_of frames) g st out → follow g st frames out ≡ accepted later → Both
      by out r k = (
        ap (follow g st frames) (outcome-Rule (T ++ more) (trail_of frames) g st out (Rule_grows T more (trail_of frames) g h.0 st out r)) ∙ k,
        subst (NodeInside T) k (NodeInside-follow T g st frames out (ChildrenInside_rule T w (trail_of frames) g h.0 st out r) h.1),
      )

      by_cases : (out : Outcome) → IsRuled T (trail_of frames) g st out → follow g st frames out ≡ accepted later → Both
      by_cases closes r k = by closes r k
      by_cases (one c) r k = by (one c) r k
      by_cases (two c d) r k = by (two c d) r k
      by_cases (refused r') r k = absurd (subst IsAccepted (sym k) tt)

  grow : (walk : Walk) (sts : List Step) (later : Walk) → WalkInside T walk → Run T walk sts later → Run (T ++ more) walk sts later
  grow walk sts later h done = done
  grow walk sts later h (then {later = middle} {step = st} {steps = rest} e r) =
      let p : (node (T ++ more) walk st ≡ accepted middle) × WalkInside T middle = node_grows walk middle st h e in
      then p.0 (grow middle rest later p.1 r)

pub run_grows : RunGrows
run_grows T w more set h sts walk r = grow T w more (start set) sts walk ((h, tt), tt) r
