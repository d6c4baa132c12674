-- How the focus goes on from a goal to its children.
use Rattle.std.specs.Prelude.{ℕ, Bool, false, if◌then◌else◌, ◌||◌, Some, None, Option, ◌==◌}
use Rattle.tableau.specs.declared.goals.Focus.{Focus}
use Rattle.tableau.specs.declared.goals.Focus.TheVariants.{Nowhere, At, Ahead}
use Rattle.forms.specs.Forms.{Table, form}
use Rattle.tableau.specs.Nexts.{is_every}

-- whether the focus is at a
abbrev pub is_focused_at : ℕ → Focus → Bool
is_focused_at a (At u) = u == a
is_focused_at a _ = false

-- the focus of the two children of step 5 on a with the form b
abbrev pub first_focus : ℕ → Focus → Focus
first_focus a f = if is_focused_at a f then Nowhere else f

abbrev pub second_focus : (a b : ℕ) → Focus → Focus
second_focus a b f = if is_focused_at a f then Ahead b a else f

-- whether step 7 names x
abbrev pub is_named : Option ℕ → ℕ → Bool
is_named None x = false
is_named (Some a) x = a == x

-- the focus after step 7: it goes on to u from a form of all successors, and from the form that the step names
abbrev pub focus_after : Table → Option ℕ → Focus → Focus
focus_after T a (Ahead x u) = if is_named a x || is_every (form T x) then At u else Nowhere
focus_after T a _ = Nowhere
