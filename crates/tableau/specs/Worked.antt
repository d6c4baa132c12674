-- A worked refutation: "on all paths atom 0 comes" against "on some path it never does", with the reply to each step.
use Rattle.std.specs.Prelude.{◌≡◌, ℕ, List, [], ◌∷◌, length, Ok, Err, Result}
use Rattle.forms.specs.declared.form.Quantifier.TheVariants.{Exists, Every}
use Rattle.forms.specs.declared.form.Form.TheVariants.{Truth, Falsity, Atom, Absent, Next, Until, Release}
use Rattle.forms.specs.declared.refusal.Refusal.{Refusal}
use Rattle.forms.specs.declared.refusal.Refusal.TheVariants.{DoesNotClose}
use Rattle.forms.specs.Forms.{Table}
use Rattle.tableau.specs.Walk.{Walk, start, waiting_goals, Node, accepted, denied, node_bytes}

-- how many goals wait after the step, or why it is refused; a refusal leaves the walk
abbrev pub on_node : Walk → Node → (Walk → List (Result ℕ Refusal)) → List (Result ℕ Refusal)
on_node walk (accepted later) more = Ok (length (waiting_goals later)) ∷ more later
on_node walk (denied why) more = Err why ∷ more walk

-- the replies to steps, each by its three numbers
unfoldable pub replies : Table → List (ℕ × ℕ × ℕ) → Walk → List (Result ℕ Refusal)
replies T [] walk = []
replies T (st ∷ sts) walk = on_node walk (node_bytes T walk st.0 st.1 st.2) (replies T sts)

-- form 4 is A(0 U 2), form 5 is E(1 R 3), and forms 6 and 7 are their next forms
unfoldable pub table : Table
table = Truth ∷ Falsity ∷ Atom 0 ∷ Absent 0 ∷ Until Every 0 2 ∷ Release Exists 1 3 ∷ Next Every 4 ∷ Next Exists 5 ∷ []

-- the steps after the first, which brings the focus to form 4
unfoldable pub unfocused_steps : List (ℕ × ℕ × ℕ)
unfocused_steps = (5, 5, 7) ∷ (2, 1, 0) ∷ (5, 4, 6) ∷ (1, 2, 3) ∷ (7, 7, 0) ∷ (5, 5, 7) ∷ (2, 1, 0) ∷ (8, 3, 0) ∷ []

-- From the set of forms 4 and 5, the steps close the walk.
abbrev pub SetIsRefuted : Type 0
SetIsRefuted = replies table ((6, 4, 0) ∷ unfocused_steps) (start 48) ≡ Ok 1 ∷ Ok 2 ∷ Ok 1 ∷ Ok 2 ∷ Ok 1 ∷ Ok 1 ∷ Ok 2 ∷ Ok 1 ∷ Ok 0 ∷ []

-- Without the focus, the last step does not close its goal.
abbrev pub NeedsFocus : Type 0
NeedsFocus = replies table unfocused_steps (start 48) ≡ Ok 2 ∷ Ok 1 ∷ Ok 2 ∷ Ok 1 ∷ Ok 1 ∷ Ok 2 ∷ Ok 1 ∷ Err DoesNotClose ∷ []
