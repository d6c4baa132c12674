-- The round of a form: the states that it makes of the states of its operands and of the set before it.
use Rattle.std.specs.Prelude.{◌≡◌, ℕ, ◌/◌, ◌%◌, ◌^◌, Bool, true, false, ◌&&◌, ◌||◌, Some, None, Option, ◌==◌}
use Rattle.ctl.specs.Model.{Model}
use Rattle.ctl.specs.Rounds.{Subset, Same, start, limit, rounds}
use Rattle.ctl.specs.Truth.{some_successor, all_successors, until_round, release_round}
use Rattle.forms.specs.declared.form.Form.{Form}
use Rattle.forms.specs.declared.form.Form.TheVariants.{Truth, Falsity, Atom, Absent, And, Or, Next, Until, Release}
use Rattle.forms.specs.declared.form.Quantifier.{Quantifier}
use Rattle.forms.specs.declared.form.Quantifier.TheVariants.{Exists, Every}
use Rattle.forms.specs.Sets.{member}

-- the states with some successor in the set, or with all
abbrev pub follow : Model → Quantifier → Subset → Subset
follow m Exists = some_successor m
follow m Every = all_successors m

-- `given i` has the states of form i
abbrev pub form_round : Model → (given : ℕ → Subset) → Form → Subset → Subset
form_round m given Truth x s = true
form_round m given Falsity x s = false
form_round m given (Atom p) x s = member (m.atoms s) p
form_round m given (Absent p) x s = (m.atoms s / (2 ^ p)) % 2 == 0
form_round m given (And i j) x s = given i s && given j s
form_round m given (Or i j) x s = given i s || given j s
form_round m given (Next q i) x s = follow m q (given i) s
form_round m given (Until q i j) x s = until_round (follow m q) (given i) (given j) x s
form_round m given (Release q i j) x s = release_round (follow m q) (given i) (given j) x s

-- from which set the rounds of a form are repeated: none for until, all for release; the others look at no set
abbrev pub direction : Form → Option Bool
direction (Until q i j) = Some false
direction (Release q i j) = Some true
direction _ = None

-- what a round comes to, made once or repeated, and how many rounds are counted for it
abbrev pub outcome : ℕ → (Subset → Subset) → Option Bool → Subset
outcome n round None = round (start false)
outcome n round (Some all) = limit n round all

abbrev pub tally : ℕ → (Subset → Subset) → Option Bool → ℕ
tally n round None = 0
tally n round (Some all) = rounds n round all

-- x has the states of a form, from those of its operands, and `taken` counts the rounds for it
pub record IsMarked (m : Model) (given : ℕ → Subset) (form : Form) (x : Subset) (taken : ℕ) : Type 0 where
  pub made : Same m.count x (outcome m.count (form_round m given form) (direction form))
  pub counted : taken ≡ tally m.count (form_round m given form) (direction form)
