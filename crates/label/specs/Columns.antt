-- A form's column of a table of marks, 64 bits a state.
use Rattle.std.specs.Prelude.{◌≡◌, ℕ, ◌<◌, Bool, ◌&&◌, List, length, nat_lt, slice_index}
use Rattle.label.specs.declared.column.Column.{Column}
use Rattle.ctl.specs.Model.{Model}
use Rattle.ctl.specs.Rounds.{Subset}
use Rattle.forms.specs.declared.form.Form.{Form}
use Rattle.forms.specs.Sets.{member}
use Rattle.label.specs.Bits.{others}
use Rattle.label.specs.Rounds.{form_round}

-- the states at which form f is marked
abbrev pub column : List ℕ → ℕ → Subset
column marks f i = member (slice_index marks i) f

-- what stands at each state but for bit f
abbrev pub other_bits : List ℕ → ℕ → ℕ → ℕ
other_bits xs f i = others (slice_index xs i) f

-- the states at which form f is marked, if it comes before the one that is left out of `others`
abbrev pub earlier_marks : (others : ℕ → ℕ) (form : ℕ) → ℕ → Subset
earlier_marks others form f i = nat_lt f form && member (others i) f

-- all that stays when states are marked with a form: the other columns, and where the marks lie
pub record Rest : Type 0 where
  pub form : ℕ
  pub others : ℕ → ℕ
  pub count : ℕ
  pub name : ℕ

abbrev pub rest_of : List ℕ → (form name : ℕ) → Rest
rest_of marks f n = record { form = f; others = other_bits marks f; count = length marks; name = n }

abbrev pub earlier : Rest → ℕ → Subset
earlier q = earlier_marks q.others q.form

-- of a column: the states marked with its form, and the rest
abbrev pub marked_in : Column → Subset
marked_in c = column c.marks.now c.form

abbrev pub rest_in : Column → Rest
rest_in c = rest_of c.marks.now c.form c.marks.ghost_name

-- the round of a form whose operands are earlier ones
abbrev pub round_in : Model → Form → Rest → Subset → Subset
round_in m form q = form_round m (earlier q) form

-- whatever a call answers at a number below n, by `post`, is whether it is in the set
abbrev pub TellsMembership : (post : ℕ → Bool → Type 0) → ℕ → Subset → Type 0
TellsMembership post n set = (t : ℕ) (b : Bool) → t < n → post t b → b ≡ set t
