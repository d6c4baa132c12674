-- Each step rule leads from a goal that is met at some state of a model to one that is met at some state of the same model.
-- One file, since its lemmas are about one table and one model, which a module takes once for all of them.
use Rattle.std.proofs.Common.{◌≡◌, ℕ, zero, suc, ◌+◌, ◌/◌, ◌%◌, ◌^◌, ◌<◌, ◌≤◌, Bool, true, false, cond, ◌||◌, eqb, ◌⊎◌, [], ◌∷◌, Some, None, Option, sym, refl, ap, ◌∙◌, subst, inl, inr, true≢false, arith}
use Rattle.std.proofs.lemmas.Bool.{eqb-true, and_parts, false≢true}
use Rattle.ctl.specs.Model.{Model, IsSerial}
use Rattle.ctl.specs.Formula.{EX, AX, ER, AR}
use Rattle.ctl.specs.Meaning.{Holds}
use Rattle.forms.specs.Sets.{member, set_insert, set_remove}
use Rattle.forms.specs.declared.form.Quantifier.{Quantifier}
use Rattle.forms.specs.declared.form.Quantifier.TheVariants.{Exists, Every}
use Rattle.forms.specs.declared.form.Form.{Form}
use Rattle.forms.specs.declared.form.Form.TheVariants.{Falsity, Atom, Absent, And, Or, Next, Until, Release}
use Rattle.forms.specs.Forms.{Table, IsWellFormed, form}
use Rattle.forms.specs.Meaning.{formula, reading, SetHolds}
use Rattle.tableau.specs.declared.goals.Focus.{Focus}
use Rattle.tableau.specs.declared.goals.Focus.TheVariants.{Nowhere, At, Ahead}
use Rattle.tableau.specs.declared.goals.Goal.{Goal}
use Rattle.tableau.specs.declared.goals.Step.{Step}
use Rattle.tableau.specs.declared.goals.Step.TheVariants.{Split, Choose, Unroll, Refocus, Advance}
use Rattle.tableau.specs.declared.goals.Ancestor.{Ancestor}
use Rattle.tableau.specs.Steps.{Trail, Outcome}
use Rattle.tableau.specs.Nexts.{is_every, every_operands}
use Rattle.tableau.specs.Focus.{is_focused_at, first_focus, second_focus, is_named, focus_after}
use Rattle.tableau.specs.Ancestors.{took_refocus, unrolled_focus}
use Rattle.tableau.specs.Rules.{yield₁, yield₂, successor_goal}
use Rattle.tableau.specs.Allowed.{In, Repeats, here, higher, Rule, by_clash, by_absurdity, by_split, by_choose, by_until, by_release, by_refocus, by_advance, by_any, by_repeat}
use Rattle.tableau.proofs.Untils.{AtSuccessors, Reach, Holds-exists_until, Holds-every_until}
use Rattle.tableau.proofs.NextSets.{member-every_operands}
use Rattle.tableau.proofs.SetLaws.{inserted, kept, member-is_subset}
use Rattle.forms.proofs.Reading.{formula_of}
use Rattle.tableau.proofs.Live.{Has, Within, WithinForm, AheadForm, Beyond, Fresh, FocusMet, Live, SomeLive}
use Rattle.tableau.proofs.Decide.{least}
use Rattle.tableau.proofs.Releases.{Holds-exists_release, Holds-every_release}

-- a goal that unrolled its focus did not move it by step 6
not_both : (u : ℕ) (g : Goal) (st : Step) → unrolled_focus u (record { goal = g; step = st }) ≡ true → took_refocus (record { goal = g; step = st }) ≡ false
not_both u g (Refocus a) h = absurd (false≢true h)
not_both u g _ h = refl

focused : (a : ℕ) (f : Focus) → is_focused_at a f ≡ true → f ≡ At a
focused a Nowhere h = absurd (false≢true h)
focused a (At u) h = ap At (eqb-true u a h)
focused a (Ahead x u) h = absurd (false≢true h)

abbrev NotAhead : Focus → Type 0
NotAhead Nowhere = Unit {0}
NotAhead (At u) = Unit {0}
NotAhead (Ahead x u) = ⊥

-- the form that the focus stands at
abbrev lead : Focus → ℕ
lead Nowhere = 0
lead (At u) = u
lead (Ahead x u) = x

is_every_form : (x : Form) → is_every x ≡ true → (i : ℕ) × (x ≡ Next Every i)
is_every_form (Next Every i) h = (i, refl)
is_every_form _ h = absurd (false≢true h)

module _ (m : Model) where
  next_map : (q : Quantifier) {P Q : ℕ → Type 0} (s : ℕ) → ((t : ℕ) → m.leads s t ≡ true → P t → Q t) → AtSuccessors m q P s → AtSuccessors m q Q s
  next_map Exists s f n = (n.0, (n.1.0, f n.0 n.1.0 n.1.1))
  next_map Every s f n = λ t l. f t l (n t l)

  Reach-le : (q : Quantifier) (P R : ℕ → Type 0) (j k s : ℕ) → j ≤ k → Reach m q P R j s → Reach m q P R k s
  Reach-le q P R zero k s h r = absurd r
  Reach-le q P R (suc j) zero s h r = absurd (omega arith)
  Reach-le q P R (suc j) (suc k) s h (inl r) = inl r
  Reach-le q P R (suc j) (suc k) s h (inr p) = inr (p.0, next_map q s (λ t l r. Reach-le q P R j k t (omega arith) r) p.1)

module _ (T : Table) (w : IsWellFormed T) (m : Model) (serial : IsSerial m) where
  WithinForm-le : (x : Form) (j k s : ℕ) → j ≤ k → WithinForm T m x j s → WithinForm T m x k s
  WithinForm-le (Until q i o) j k s h r = Reach-le m q (Has T m i) (Has T m o) j k s h r
  WithinForm-le _ j k s h r = r

  Fresh-le : (trail : Trail) (u j k : ℕ) → j ≤ k → Fresh T m trail u k → Fresh T m trail u j
  Fresh-le [] u j k h r = tt
  Fresh-le (x ∷ trail) u j k h r = λ e. ((λ b t p n. (r e).0 b t p (WithinForm-le (form T u) j k t h n)), Fresh-le trail u j k h (r e).1)

  -- truth of a form whose shape is known
  read : (f s : ℕ) {x : Form} → form T f ≡ x → Has T m f s → Holds m (reading (formula T) x) s
  read f s e h = subst (λ φ. Holds m φ s) (formula_of T w f e) h

  write : (f s : ℕ) {x : Form} → form T f ≡ x → Holds m (reading (formula T) x) s → Has T m f s
  write f s e h = subst (λ φ. Holds m φ s) (sym (formula_of T w f e)) h

  read_next : (q : Quantifier) (b a s : ℕ) → form T b ≡ Next q a → Has T m b s → AtSuccessors m q (Has T m a) s
  unfolding Holds
  read_next Exists b a s e h = read b s e h
  read_next Every b a s e h = read b s e h

  write_next : (q : Quantifier) (b a s : ℕ) → form T b ≡ Next q a → AtSuccessors m q (Has T m a) s → Has T m b s
  unfolding Holds
  write_next Exists b a s e h = write b s e h
  write_next Every b a s e h = write b s e h

  read_until : (q : Quantifier) (a i j s : ℕ) → form T a ≡ Until q i j → s < m.count → Has T m a s → (k : ℕ) × Reach m q (Has T m i) (Has T m j) k s
  read_until Exists a i j s e l h = (Holds-exists_until m serial (formula T i) (formula T j) s l).0 (read a s e h)
  read_until Every a i j s e l h = (Holds-every_until m serial (formula T i) (formula T j) s l).0 (read a s e h)

  write_until : (q : Quantifier) (a i j k s : ℕ) → form T a ≡ Until q i j → s < m.count → Reach m q (Has T m i) (Has T m j) k s → Has T m a s
  write_until Exists a i j k s e l r = write a s e ((Holds-exists_until m serial (formula T i) (formula T j) s l).1 (k, r))
  write_until Every a i j k s e l r = write a s e ((Holds-every_until m serial (formula T i) (formula T j) s l).1 (k, r))

  read_release : (q : Quantifier) (a b i j s : ℕ) → form T a ≡ Release q i j → form T b ≡ Next q a → s < m.count → Has T m a s
      → Has T m j s × (Has T m i s ⊎ Has T m b s)
  unfolding Holds
  read_release Exists a b i j s e n l h = let r : Holds m (formula T j) s × (Holds m (formula T i) s ⊎ Holds m (EX (ER (formula T i) (formula T j))) s) = Holds-exists_release m serial (formula T i) (formula T j) s l (read a s e h) in (r.0, by_cases r.1)
    where
      by_cases : Holds m (formula T i) s ⊎ Holds m (EX (ER (formula T i) (formula T j))) s → Has T m i s ⊎ Has T m b s
      by_cases (inl p) = inl p
      by_cases (inr p) = inr (write_next Exists b a s n (next_map m Exists s (λ t k x. write a t e x) p))
  read_release Every a b i j s e n l h = let r : Holds m (formula T j) s × (Holds m (formula T i) s ⊎ Holds m (AX (AR (formula T i) (formula T j))) s) = Holds-every_release m serial (formula T i) (formula T j) s l (read a s e h) in (r.0, by_cases r.1)
    where
      by_cases : Holds m (formula T i) s ⊎ Holds m (AX (AR (formula T i) (formula T j))) s → Has T m i s ⊎ Has T m b s
      by_cases (inl p) = inl p
      by_cases (inr p) = inr (write_next Every b a s n (next_map m Every s (λ t k x. write a t e x) p))

  within_has : (u k s : ℕ) (x : Form) → form T u ≡ x → s < m.count → WithinForm T m x k s → Has T m u s
  within_has u k s (Until q i j) e l r = write_until q u i j k s e l r
  within_has u k s _ e l r = absurd r

  SetHolds-set_insert : (set i s : ℕ) → SetHolds T m set s → Has T m i s → SetHolds T m (set_insert set i) s
  SetHolds-set_insert set i s p h = (p.0, λ f b. by_cases f (inserted set i f b))
    where
      by_cases : (f : ℕ) → (member set f ≡ true) ⊎ (f ≡ i) → Has T m f s
      by_cases f (inl b) = p.1 f b
      by_cases f (inr e) = subst (λ n. Has T m n s) (sym e) h

  SetHolds-set_remove : (set a s : ℕ) → SetHolds T m set s → SetHolds T m (set_remove set a) s
  SetHolds-set_remove set a s p = (p.0, λ f b. p.1 f (kept set a f b))

  meets₁ : (set a i s : ℕ) → SetHolds T m set s → Has T m i s → SetHolds T m (set_insert (set_remove set a) i) s
  meets₁ set a i s p h = SetHolds-set_insert (set_remove set a) i s (SetHolds-set_remove set a s p) h

  meets₂ : (set a i j s : ℕ) → SetHolds T m set s → Has T m i s → Has T m j s → SetHolds T m (set_insert (set_insert (set_remove set a) i) j) s
  meets₂ set a i j s p h k = SetHolds-set_insert (set_insert (set_remove set a) i) j s (meets₁ set a i s p h) k

  SetHolds-every_operands : (set s t : ℕ) → SetHolds T m set s → m.leads s t ≡ true → SetHolds T m (every_operands T 0 set) t
  SetHolds-every_operands set s t p l = ((serial.within s t l).1, λ f b. by_cases f (member-every_operands T 0 set f b))
    where
      by_cases : (f : ℕ) → (y : ℕ) × ((member set (0 + y) ≡ true) × (form T y ≡ Next Every f)) → Has T m f t
      by_cases f r =
          let e : 0 + r.0 ≡ r.0 = omega arith in
          read_next Every r.0 f s r.1.1 (p.1 r.0 (subst (λ y. member set y ≡ true) e r.1.0)) t l

  -- the goal x did not unroll a form in focus
  Quiet : Ancestor → Type 0
  Quiet x = (u : ℕ) → unrolled_focus u x ≡ true → ⊥

  longer : (x : Ancestor) (trail : Trail) (u k : ℕ) → Quiet x → Fresh T m trail u k → Fresh T m (x ∷ trail) u k
  unfolding Quiet
  longer x trail u k c h = λ e. ((λ b. absurd (c u b)), h)

  -- the focus passes on to a child at the same state
  passes : (x : Ancestor) (trail : Trail) (f : Focus) (s : ℕ) → Quiet x → FocusMet T m trail f s → FocusMet T m (x ∷ trail) f s
  passes x trail Nowhere s c h = tt
  passes x trail (At u) s c h = (h.0, (h.1.0, longer x trail u h.0 c h.1.1))
  passes x trail (Ahead y u) s c h = (h.0, (h.1.0, longer x trail u h.0 c h.1.1))

  module _ (trail : Trail) (g : Goal) where
    abbrev below : Step → Trail
    below st = record { goal = g; step = st } ∷ trail

    sound_clash : (a b p : ℕ) → In g a → In g b → form T a ≡ Atom p → form T b ≡ Absent p → Live T m trail g → ⊥
    unfolding Holds
    sound_clash a b p ia ib ea eb (s, (M, F)) =
        let present : m.atoms s / 2 ^ p % 2 ≡ 1 = read a s ea (M.1 a ia) in
        let absent : m.atoms s / 2 ^ p % 2 ≡ 0 = read b s eb (M.1 b ib) in
        omega arith

    sound_absurdity : (a : ℕ) → In g a → form T a ≡ Falsity → Live T m trail g → ⊥
    unfolding Holds
    sound_absurdity a ia ea (s, (M, F)) = read a s ea (M.1 a ia)

    sound_split : (a i j : ℕ) → In g a → form T a ≡ And i j → Live T m trail g → Live T m (below (Split a)) (yield₂ g.set a i j g.focus)
    unfolding Holds Quiet
    sound_split a i j ia ea (s, (M, F)) =
        let h : Has T m i s × Has T m j s = read a s ea (M.1 a ia) in
        (s, (meets₂ g.set a i j s M h.0 h.1, passes (record { goal = g; step = Split a }) trail g.focus s (λ u e. false≢true e) F))

    sound_choose : (a i j : ℕ) → In g a → form T a ≡ Or i j → Live T m trail g
        → Live T m (below (Choose a)) (yield₁ g.set a i g.focus) ⊎ Live T m (below (Choose a)) (yield₁ g.set a j g.focus)
    unfolding Holds Quiet
    sound_choose a i j ia ea (s, (M, F)) = by_cases (read a s ea (M.1 a ia))
      where
        focus : FocusMet T m (below (Choose a)) g.focus s
        focus = passes (record { goal = g; step = Choose a }) trail g.focus s (λ u e. false≢true e) F

        by_cases : Has T m i s ⊎ Has T m j s → Live T m (below (Choose a)) (yield₁ g.set a i g.focus) ⊎ Live T m (below (Choose a)) (yield₁ g.set a j g.focus)
        by_cases (inl h) = inl (s, (meets₁ g.set a i s M h, focus))
        by_cases (inr h) = inr (s, (meets₁ g.set a j s M h, focus))

    -- step 5 on a form that is not in focus: the focus passes on at the same state
    Quiet-Unroll : (a b : ℕ) → is_focused_at a g.focus ≡ false → Quiet (record { goal = g; step = Unroll a b })
    unfolding Quiet
    Quiet-Unroll a b e u h =
        let p : (eqb a u ≡ true) × (is_focused_at u g.focus ≡ true) = and_parts (eqb a u) (is_focused_at u g.focus) h in
        false≢true (sym e ∙ ap (λ n. is_focused_at n g.focus) (eqb-true a u p.0) ∙ p.1)

    first_passes : (a b s : ℕ) → is_focused_at a g.focus ≡ false → FocusMet T m trail g.focus s → FocusMet T m (below (Unroll a b)) (first_focus a g.focus) s
    first_passes a b s e F =
        subst (λ c. FocusMet T m (below (Unroll a b)) (cond c Nowhere g.focus) s) (sym e)
        (passes (record { goal = g; step = Unroll a b }) trail g.focus s (Quiet-Unroll a b e) F)

    second_passes : (a b s : ℕ) → is_focused_at a g.focus ≡ false → FocusMet T m trail g.focus s → FocusMet T m (below (Unroll a b)) (second_focus a b g.focus) s
    second_passes a b s e F =
        subst (λ c. FocusMet T m (below (Unroll a b)) (cond c (Ahead b a) g.focus) s) (sym e)
        (passes (record { goal = g; step = Unroll a b }) trail g.focus s (Quiet-Unroll a b e) F)

    -- the rounds of the form in focus
    in_focus : (a s : ℕ) → is_focused_at a g.focus ≡ true → FocusMet T m trail g.focus s → (k : ℕ) × (Within T m a k s × Fresh T m trail a k)
    in_focus a s e F = subst (λ f. FocusMet T m trail f s) (focused a g.focus e) F

    -- one round of an until
    round : (q : Quantifier) (a b i j k s : ℕ) → form T a ≡ Until q i j → form T b ≡ Next q a → Reach m q (Has T m i) (Has T m j) k s
        → Has T m j s ⊎ (Has T m i s × Has T m b s)
    round q a b i j zero s ea eb r = absurd r
    round q a b i j (suc k) s ea eb (inl h) = inl h
    round q a b i j (suc k) s ea eb (inr h) =
        inr (h.0, write_next q b a s eb (next_map m q s (λ t l r. write_until q a i j k t ea (serial.within s t l).1 r) h.1))

    sound_until : (a b i j : ℕ) (q : Quantifier) → In g a → form T a ≡ Until q i j → form T b ≡ Next q a → Live T m trail g
        → Live T m (below (Unroll a b)) (yield₁ g.set a j (first_focus a g.focus)) ⊎ Live T m (below (Unroll a b)) (yield₂ g.set a i b (second_focus a b g.focus))
    sound_until a b i j q ia ea eb (s, (M, F)) = by_cases (is_focused_at a g.focus) refl
      where
        First : Type 0
        First = Live T m (below (Unroll a b)) (yield₁ g.set a j (first_focus a g.focus))

        Second : Type 0
        Second = Live T m (below (Unroll a b)) (yield₂ g.set a i b (second_focus a b g.focus))

        elsewhere : is_focused_at a g.focus ≡ false → Has T m j s ⊎ (Has T m i s × Has T m b s) → First ⊎ Second
        elsewhere e (inl h) = inl (s, (meets₁ g.set a j s M h, first_passes a b s e F))
        elsewhere e (inr h) = inr (s, (meets₂ g.set a i b s M h.0 h.1, second_passes a b s e F))

        -- at a state with the fewest rounds n + 1
        nearest : is_focused_at a g.focus ≡ true → (n t : ℕ) → SetHolds T m g.set t → Reach m q (Has T m i) (Has T m j) (suc n) t → Fresh T m (below (Unroll a b)) a n → First ⊎ Second
        nearest e n t p (inl h) fresh =
            inl (t, (meets₁ g.set a j t p h, subst (λ c. FocusMet T m (below (Unroll a b)) (cond c Nowhere g.focus) t) (sym e) tt))
        nearest e n t p (inr h) fresh =
            let b_holds : Has T m b t = write_next q b a t eb (next_map m q t (λ v l r. write_until q a i j n v ea (serial.within t v l).1 r) h.1) in
            let on : AheadForm T m (form T b) a n t = subst (λ x. AheadForm T m x a n t) (sym eb) (refl, next_map m q t (λ v l r. subst (λ x. WithinForm T m x n v) (sym ea) r) h.1) in
            inr (t, (meets₂ g.set a i b t p h.0 b_holds, subst (λ c. FocusMet T m (below (Unroll a b)) (cond c (Ahead b a) g.focus) t) (sym e) (n, (on, fresh))))

        by_cases : (c : Bool) → is_focused_at a g.focus ≡ c → First ⊎ Second
        by_cases false e = let r : (k : ℕ) × Reach m q (Has T m i) (Has T m j) k s = read_until q a i j s ea M.0 (M.1 a ia) in elsewhere e (round q a b i j r.0 s ea eb r.1)
        by_cases true e =
            let r : (k : ℕ) × (Within T m a k s × Fresh T m trail a k) = in_focus a s e F in
            let best : (n : ℕ) × ((suc n ≤ r.0) × (((t : ℕ) × (SetHolds T m g.set t × Within T m a (suc n) t)) × Beyond T m g.set a n)) = least T w m serial g.set a r.0 s M r.1.0 in
            let l : suc best.0 ≤ r.0 = best.1.0 in
            let t : ℕ = best.1.1.0.0 in
            nearest e best.0 t best.1.1.0.1.0 (subst (λ x. WithinForm T m x (suc best.0) t) ea best.1.1.0.1.1)
            (λ _. ((λ _. best.1.1.1), Fresh-le trail a best.0 r.0 (omega arith) r.1.1))

    sound_release : (a b i j : ℕ) (q : Quantifier) → In g a → form T a ≡ Release q i j → form T b ≡ Next q a → Live T m trail g
        → Live T m (below (Unroll a b)) (yield₂ g.set a i j (first_focus a g.focus)) ⊎ Live T m (below (Unroll a b)) (yield₂ g.set a j b (second_focus a b g.focus))
    sound_release a b i j q ia ea eb (s, (M, F)) = by_cases (is_focused_at a g.focus) refl
      where
        First : Type 0
        First = Live T m (below (Unroll a b)) (yield₂ g.set a i j (first_focus a g.focus))

        Second : Type 0
        Second = Live T m (below (Unroll a b)) (yield₂ g.set a j b (second_focus a b g.focus))

        elsewhere : is_focused_at a g.focus ≡ false → Has T m j s × (Has T m i s ⊎ Has T m b s) → First ⊎ Second
        elsewhere e (h, inl k) = inl (s, (meets₂ g.set a i j s M k h, first_passes a b s e F))
        elsewhere e (h, inr k) = inr (s, (meets₂ g.set a j b s M h k, second_passes a b s e F))

        by_cases : (c : Bool) → is_focused_at a g.focus ≡ c → First ⊎ Second
        by_cases false e = elsewhere e (read_release q a b i j s ea eb M.0 (M.1 a ia))
        by_cases true e = let r : (k : ℕ) × (Within T m a k s × Fresh T m trail a k) = in_focus a s e F in absurd (subst (λ x. WithinForm T m x r.0 s) ea r.1.0)

    sound_refocus : (a i j : ℕ) (q : Quantifier) → In g a → form T a ≡ Until q i j → Live T m trail g → Live T m (below (Refocus a)) (record { set = g.set; focus = At a })
    sound_refocus a i j q ia ea (s, (M, F)) =
        let r : (k : ℕ) × Reach m q (Has T m i) (Has T m j) k s = read_until q a i j s ea M.0 (M.1 a ia) in
        (s, (M, (r.0, (subst (λ x. WithinForm T m x r.0 s) (sym ea) r.1, λ e. absurd (true≢false e)))))

    -- step 7 to any successor t, where the step does not name the form in focus
    focus_any : (a : Option ℕ) (f : Focus) (s t : ℕ) → m.leads s t ≡ true → ((y u : ℕ) → f ≡ Ahead y u → is_named a y ≡ false) → FocusMet T m trail f s
        → FocusMet T m (below (Advance a)) (focus_after T a f) t
    focus_any a Nowhere s t l c F = tt
    focus_any a (At u) s t l c F = tt
    focus_any a (Ahead y u) s t l c F =
        subst (λ b. FocusMet T m (below (Advance a)) (cond (b || is_every (form T y)) (At u) Nowhere) t) (sym (c y u refl)) (by_cases (is_every (form T y)) refl)
      where
        by_cases : (b : Bool) → is_every (form T y) ≡ b → FocusMet T m (below (Advance a)) (cond b (At u) Nowhere) t
        by_cases false e = tt
        by_cases true e =
            let v : (i : ℕ) × (form T y ≡ Next Every i) = is_every_form (form T y) e in
            let on : AheadForm T m (Next Every v.0) u F.0 s = subst (λ x. AheadForm T m x u F.0 s) v.1 F.1.0 in
            (F.0, (on.1 t l, λ _. ((λ b. absurd (false≢true b)), F.1.1)))

    sound_any : Live T m trail g → Live T m (below (Advance None)) (successor_goal T g None (every_operands T 0 g.set))
    sound_any (s, (M, F)) =
        let t : (t : ℕ) × ((t < m.count) × (m.leads s t ≡ true)) = serial.successor s M.0 in
        (t.0, (SetHolds-every_operands g.set s t.0 M t.1.1, focus_any None g.focus s t.0 t.1.1 (λ y u e. refl) F))

    -- the successor that the form a in focus asks for
    focus_named : (a i y u s : ℕ) → form T a ≡ Next Exists i → eqb a y ≡ true → FocusMet T m trail (Ahead y u) s
        → (t : ℕ) × ((m.leads s t ≡ true) × (Has T m i t × FocusMet T m (below (Advance (Some a))) (focus_after T (Some a) (Ahead y u)) t))
    focus_named a i y u s ea e F =
        let shape : form T y ≡ Next Exists i = ap (form T) (sym (eqb-true a y e)) ∙ ea in
        let on : AheadForm T m (Next Exists i) u F.0 s = subst (λ x. AheadForm T m x u F.0 s) shape F.1.0 in
        let t : ℕ = on.1.0 in
        let l : m.leads s t ≡ true = on.1.1.0 in
        let near : Within T m u F.0 t = on.1.1.1 in
        let h : Has T m i t = subst (λ n. Has T m n t) (sym on.0) (within_has u F.0 t (form T u) refl (serial.within s t l).1 near) in (
          t,
          (
            l,
            (
              h,
              subst (λ b. FocusMet T m (below (Advance (Some a))) (cond (b || is_every (form T y)) (At u) Nowhere) t) (sym e)
                  (F.0, (near, λ _. ((λ b. absurd (false≢true b)), F.1.1))),
            ),
          ),
        )

    sound_advance : (a i : ℕ) → In g a → form T a ≡ Next Exists i → Live T m trail g
        → Live T m (below (Advance (Some a))) (successor_goal T g (Some a) (set_insert (every_operands T 0 g.set) i))
    sound_advance a i ia ea (s, (M, F)) = arrive (choose_successor g.focus F)
      where
        Successor : Focus → Type 0
        Successor f = (t : ℕ) × ((m.leads s t ≡ true) × (Has T m i t × FocusMet T m (below (Advance (Some a))) (focus_after T (Some a) f) t))

        arrive : Successor g.focus → Live T m (below (Advance (Some a))) (successor_goal T g (Some a) (set_insert (every_operands T 0 g.set) i))
        arrive r = (r.0, (SetHolds-set_insert (every_operands T 0 g.set) i r.0 (SetHolds-every_operands g.set s r.0 M r.1.0) r.1.1.0, r.1.1.1))

        asked : (f : Focus) → FocusMet T m trail f s → ((y u : ℕ) → f ≡ Ahead y u → eqb a y ≡ false) → Successor f
        asked f G c =
            let r : (t : ℕ) × ((m.leads s t ≡ true) × Has T m i t) = read_next Exists a i s ea (M.1 a ia) in
            (r.0, (r.1.0, (r.1.1, focus_any (Some a) f s r.0 r.1.0 c G)))

        split_focus : (y u : ℕ) → FocusMet T m trail (Ahead y u) s → (b : Bool) → eqb a y ≡ b → Successor (Ahead y u)
        split_focus y u G true e = focus_named a i y u s ea e G
        split_focus y u G false e = asked (Ahead y u) G (λ y' u' p. ap (λ z. eqb a z) (sym (ap lead p)) ∙ e)

        choose_successor : (f : Focus) → FocusMet T m trail f s → Successor f
        choose_successor Nowhere G = asked Nowhere G (λ y u p. absurd (subst NotAhead p tt))
        choose_successor (At v) G = asked (At v) G (λ y u p. absurd (subst NotAhead p tt))
        choose_successor (Ahead y u) G = split_focus y u G (eqb a y) refl

    repeat_closed : (u k n s : ℕ) (t : Trail) → Repeats u g.set n t → Fresh T m t u k → SetHolds T m g.set s → Within T m u k s → ⊥
    repeat_closed u k n s t (here {x} un co) fr M near =
        (fr (not_both u x.goal x.step un)).0 un s (M.0, λ f b. M.1 f (member-is_subset x.goal.set g.set f co b)) near
    repeat_closed u k n s t (higher {n = n'} {above = above} nr rest) fr M near = repeat_closed u k (suc n') s above rest (fr nr).1 M near

    sound_repeat : (u n : ℕ) → g.focus ≡ At u → Repeats u g.set n trail → Live T m trail g → ⊥
    sound_repeat u n e r (s, (M, F)) =
        let h : (k : ℕ) × (Within T m u k s × Fresh T m trail u k) = subst (λ f. FocusMet T m trail f s) e F in
        repeat_closed u h.0 n s trail r h.1.1 M h.1.0

    pub step_sound : (st : Step) (out : Outcome) → Rule T trail g st out → Live T m trail g → SomeLive T m (record { goal = g; step = st } ∷ trail) out
    step_sound st out (by_clash {a} {b} {p} ia ib ea eb) h = sound_clash a b p ia ib ea eb h
    step_sound st out (by_absurdity {a} ia ea) h = sound_absurdity a ia ea h
    step_sound st out (by_split {a} {i} {j} ia ea) h = sound_split a i j ia ea h
    step_sound st out (by_choose {a} {i} {j} ia ea) h = sound_choose a i j ia ea h
    step_sound st out (by_until {a} {b} {i} {j} {q} ia ea eb) h = sound_until a b i j q ia ea eb h
    step_sound st out (by_release {a} {b} {i} {j} {q} ia ea eb) h = sound_release a b i j q ia ea eb h
    step_sound st out (by_refocus {a} {i} {j} {q} ia ea) h = sound_refocus a i j q ia ea h
    step_sound st out (by_advance {a} {i} ia ea) h = sound_advance a i ia ea h
    step_sound st out by_any h = sound_any h
    step_sound st out (by_repeat {u} {n} e r) h = sound_repeat u n e r h
