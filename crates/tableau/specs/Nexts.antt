-- Next forms: which is the one of a form, and what those of all successors ask of a successor.
use Rattle.std.specs.Prelude.{ℕ, suc, Bool, true, false, ◌&&◌, List, [], ◌∷◌, ◌==◌}
use Rattle.forms.specs.Sets.{member, set_insert}
use Rattle.forms.specs.declared.form.Quantifier.{Quantifier}
use Rattle.forms.specs.declared.form.Quantifier.TheVariants.{Exists, Every}
use Rattle.forms.specs.declared.form.Form.{Form}
use Rattle.forms.specs.declared.form.Form.TheVariants.{Next}

-- a next form of all successors
abbrev pub is_every : Form → Bool
is_every (Next Every i) = true
is_every _ = false

-- whether the quantifiers are the same
abbrev pub is_same_quantifier : Quantifier → Quantifier → Bool
is_same_quantifier Exists Exists = true
is_same_quantifier Every Every = true
is_same_quantifier _ _ = false

-- x is the next form of a, over some successors or over all
abbrev pub is_next_of : Quantifier → ℕ → Form → Bool
is_next_of q a (Next r i) = is_same_quantifier q r && i == a
is_next_of q a _ = false

-- the set r, with the operand of the form x where x is one of all successors and inside the goal
abbrev pub join_every : Form → Bool → ℕ → ℕ
join_every (Next Every i) true r = set_insert r i
join_every _ inside r = r

-- the operands of those forms of all successors that are in s; the first form of the list has number f
unfoldable pub every_operands : List Form → ℕ → ℕ → ℕ
every_operands [] f s = 0
every_operands (x ∷ rest) f s = join_every x (member s f) (every_operands rest (suc f) s)
