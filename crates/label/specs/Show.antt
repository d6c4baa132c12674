-- What a labelling of a machine's states by the forms of a table is, and what it tells by the paths.
use Rattle.std.specs.Prelude.{◌≡◌, ℕ, zero, suc, ◌+◌, ◌^◌, ◌<◌, Bool, true, false, cond, ◌&&◌, ◌↔◌, List, [], ◌∷◌, ◌++◌, length, drop, replicate, Ok, Err, Result, nat_le, slice_index}
use Rattle.ctl.specs.Model.{Model}
use Rattle.ctl.specs.Meaning.{Holds}
use Rattle.ctl.specs.Truth.{truth, form_rounds}
use Rattle.forms.specs.declared.refusal.Refusal.{Refusal}
use Rattle.forms.specs.declared.refusal.Refusal.TheVariants.{BuffersTooShort}
use Rattle.forms.specs.Forms.{Table}
use Rattle.forms.specs.Meaning.{formula}
use Rattle.forms.specs.Sets.{member}

-- the forms numbered below n that hold at the state t: bit f for form f
unfoldable pub mark_below : ℕ → Table → Model → ℕ → ℕ
mark_below zero T m t = 0
mark_below (suc f) T m t = mark_below f T m t + cond (truth m (formula T f) t) (2 ^ f) 0

-- the forms of the table that hold at t
unfoldable pub mark : Table → Model → ℕ → ℕ
mark T m t = mark_below (length T) T m t

-- the rounds of the forms numbered below n; a form that is no until and no release takes none
unfoldable pub rounds_below : ℕ → Table → Model → ℕ
rounds_below zero T m = 0
rounds_below (suc f) T m = form_rounds m (formula T f) + rounds_below f T m

unfoldable pub rounds_of : Table → Model → ℕ
rounds_of T m = rounds_below (length T) T m

-- f 0 up to f (n - 1)
unfoldable pub values : (ℕ → ℕ) → ℕ → List ℕ
values f zero = []
values f (suc n) = values f n ++ f n ∷ []

-- n zeros, and from n on as before
abbrev pub cleared_list : ℕ → List ℕ → List ℕ
cleared_list n xs = replicate n 0 ++ drop n xs

-- the lent marks and scratch after a labelling: entries and bytes from the count of states on stay
unfoldable pub marks_after : Table → Model → List ℕ → List ℕ
marks_after T m marks = values (mark T m) m.count ++ drop m.count marks

unfoldable pub scratch_after : Model → List ℕ → List ℕ
scratch_after m scratch = cleared_list m.count scratch

-- bit f of the mark of each state t is set exactly where form f is of the table and holds at t, by the paths
abbrev pub MarksTell : Table → Model → List ℕ → Type 0
MarksTell T m marks = (t : ℕ) → t < m.count → (f : ℕ) → (member (slice_index marks t) f ≡ true) ↔ ((f < length T) × Holds m (formula T f) t)

-- a labelling that took so many rounds, with the lent buffers before and after it
pub record IsLabelled (T : Table) (m : Model) (taken : ℕ) (marks marks' scratch scratch' : List ℕ) : Type 0 where
  pub tells : MarksTell T m marks'
  pub each : (t : ℕ) → t < m.count → slice_index marks' t ≡ mark T m t
  pub marks_are : marks' ≡ marks_after T m marks
  pub scratch_is : scratch' ≡ scratch_after m scratch
  pub counted : taken ≡ rounds_of T m

-- whether each of the buffers has an entry for each state
abbrev pub has_room : Model → (marks scratch : List ℕ) → Bool
has_room m marks scratch = nat_le m.count (length marks) && nat_le m.count (length scratch)

-- a labelling is made where the buffers have room for it; otherwise it is refused, and they stay
abbrev pub IsLabelResult : Table → Model → Result ℕ Refusal → (marks marks' scratch scratch' : List ℕ) → Type 0
IsLabelResult T m (Ok taken) marks marks' scratch scratch' = (has_room m marks scratch ≡ true) × IsLabelled T m taken marks marks' scratch scratch'
IsLabelResult T m (Err why) marks marks' scratch scratch' =
    (has_room m marks scratch ≡ false) × (why ≡ BuffersTooShort) × (marks' ≡ marks) × (scratch' ≡ scratch)
