-- When a goal below its trail is met at a state: its set holds there, and the until in focus is nearer to its end than at any ancestor that unrolled it.
use Rattle.std.proofs.Common.{◌≡◌, ℕ, true, false, ◌⊎◌, [], ◌∷◌}
use Rattle.ctl.specs.Model.{Model}
use Rattle.ctl.specs.Meaning.{Holds}
use Rattle.forms.specs.declared.form.Form.{Form}
use Rattle.forms.specs.declared.form.Form.TheVariants.{Next, Until}
use Rattle.forms.specs.Forms.{Table, form}
use Rattle.forms.specs.Meaning.{formula, SetHolds}
use Rattle.tableau.specs.declared.goals.Focus.{Focus}
use Rattle.tableau.specs.declared.goals.Focus.TheVariants.{Nowhere, At, Ahead}
use Rattle.tableau.specs.declared.goals.Goal.{Goal}
use Rattle.tableau.specs.Steps.{Trail, Outcome, closes, one, two, refused}
use Rattle.tableau.specs.Ancestors.{took_refocus, unrolled_focus}
use Rattle.tableau.proofs.Untils.{AtSuccessors, Reach}

module _ (T : Table) (m : Model) where
  -- form f holds at s
  abbrev pub Has : ℕ → ℕ → Type 0
  Has f s = Holds m (formula T f) s

  -- s is in the k-th iterate of the until form x
  abbrev pub WithinForm : Form → ℕ → ℕ → Type 0
  WithinForm (Until q i j) k s = Reach m q (Has i) (Has j) k s
  WithinForm _ k s = ⊥

  abbrev pub Within : ℕ → ℕ → ℕ → Type 0
  Within u k s = WithinForm (form T u) k s

  -- the successors of s that x, a next form of u, speaks of are in the k-th iterate of u
  abbrev pub AheadForm : Form → ℕ → ℕ → ℕ → Type 0
  AheadForm (Next q i) u k s = (i ≡ u) × AtSuccessors m q (Within u k) s
  AheadForm _ u k s = ⊥

  -- no state that meets the set is in the k-th iterate of u
  abbrev pub Beyond : ℕ → ℕ → ℕ → Type 0
  Beyond set u k = (t : ℕ) → SetHolds T m set t → Within u k t → ⊥

  -- this is so of each ancestor that unrolled u in focus, up to the last step 6
  abbrev pub Fresh : Trail → ℕ → ℕ → Type 0
  Fresh [] u k = Unit {0}
  Fresh (x ∷ trail) u k = took_refocus x ≡ false → (unrolled_focus u x ≡ true → Beyond x.goal.set u k) × Fresh trail u k

  abbrev pub FocusMet : Trail → Focus → ℕ → Type 0
  FocusMet trail Nowhere s = Unit {0}
  FocusMet trail (At u) s = (k : ℕ) × (Within u k s × Fresh trail u k)
  FocusMet trail (Ahead x u) s = (k : ℕ) × (AheadForm (form T x) u k s × Fresh trail u k)

  abbrev pub Met : Trail → Goal → ℕ → Type 0
  Met trail g s = SetHolds T m g.set s × FocusMet trail g.focus s

  -- the goal is met at some state
  abbrev pub Live : Trail → Goal → Type 0
  Live trail g = (s : ℕ) × Met trail g s

  -- some goal of the outcome is
  abbrev pub SomeLive : Trail → Outcome → Type 0
  SomeLive trail closes = ⊥
  SomeLive trail (one g) = Live trail g
  SomeLive trail (two g h) = Live trail g ⊎ Live trail h
  SomeLive trail (refused r) = Unit {0}
