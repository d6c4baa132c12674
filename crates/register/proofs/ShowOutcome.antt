-- What a show comes to, by whether it is taken.
use Rattle.std.proofs.Common.{◌≡◌, ℕ, ◌<◌, Bool, true, false, cond, not, ◌&&◌, ◌||◌, eqb, ltb, leb, [], ◌∷◌, ◌++◌, length, Ok, Err, Result, sym, refl, ap, ◌∙◌, arith}
use Rattle.std.proofs.lemmas.Bool.{and_parts, both_ways, ltb-true}
use Rattle.ctl.specs.Model.{Model}
use Rattle.forms.specs.declared.refusal.Refusal.{Refusal}
use Rattle.forms.specs.declared.refusal.Refusal.TheVariants.{SetBeyondTable, StateBeyondMachine, BuffersTooShort, BookFull}
use Rattle.forms.specs.Sets.{is_within}
use Rattle.forms.specs.Tables.{result_given}
use Rattle.label.specs.Show.{rounds_of}
use Rattle.protocol.specs.declared.line.Standing.TheVariants.{Possible}
use Rattle.protocol.specs.State.{State, most_lines, standing, is_free, with_book, with_line}
use Rattle.protocol.specs.Calls.{Outcome, taken, declined, outcome_given, held_part, state_after_show, on_show}
use Rattle.register.specs.Books.{room_for, lines_after_add, lines_after_note}
use Rattle.register.specs.Shows.{showable_in}

module _ (s : State) (set state : ℕ) (m : Model) where
  -- the outcome of a show that is taken, or else refused
  abbrev outcome_of : Result Unit Refusal → Outcome
  outcome_of (Ok x) = taken (held_part s.table m set state ∷ rounds_of s.table m ∷ []) (state_after_show s set (held_part s.table m set state))
  outcome_of (Err why) = declined why 0

  through : (b : Bool) (why : Refusal) (r : Result Unit Refusal) → outcome_of (result_given b why r) ≡ outcome_given b why (outcome_of r)
  through true why r = refl
  through false why r = refl

  on_show-outcome_of : (marks scratch : ℕ) → on_show s set state m marks scratch ≡ outcome_of (showable_in s set state m.count marks scratch)
  on_show-outcome_of marks scratch =
      let roomy = leb m.count marks && leb m.count scratch in
      let r₃ : Result Unit Refusal = result_given (room_for s.book set) BookFull (Ok tt) in
      let r₂ = result_given roomy BuffersTooShort r₃ in
      let r₁ = result_given (ltb state m.count) StateBeyondMachine r₂ in
      sym (through (is_within s.table set) SetBeyondTable r₁
      ∙ ap (outcome_given (is_within s.table set) SetBeyondTable) (through (ltb state m.count) StateBeyondMachine r₂
      ∙ ap (outcome_given (ltb state m.count) StateBeyondMachine) (through roomy BuffersTooShort r₃
      ∙ ap (outcome_given roomy BuffersTooShort) (through (room_for s.book set) BookFull (Ok tt)))))

passed : (b : Bool) (why : Refusal) (r : Result Unit Refusal) (x : Unit) → ◌≡◌ {A = Result Unit Refusal} (Ok x) (result_given b why r) → (b ≡ true) × (Ok x ≡ r)
passed true why r x e = (refl, e)
passed false why r x e = let z : ◌≡◌ {A = ℕ} 0 1 = cc in absurd (omega arith)

-- a show that is taken is at a state, and the book has room for its set
module _ (s : State) (set state n marks scratch : ℕ) (x : Unit) (taken_is : ◌≡◌ {A = Result Unit Refusal} (Ok x) (showable_in s set state n marks scratch)) where
  at_state : (ltb state n ≡ true) × (room_for s.book set ≡ true)
  at_state =
      let p = passed (is_within s.table set) SetBeyondTable _ x taken_is in
      let q = passed (ltb state n) StateBeyondMachine _ x p.1 in
      let r = passed (leb n marks && leb n scratch) BuffersTooShort _ x q.1 in
      (q.0, (passed (room_for s.book set) BookFull _ x r.1).0)

  pub state_below : state < n
  state_below = ltb-true state n at_state.0

  pub has_room_for : room_for s.book set ≡ true
  has_room_for = at_state.1

-- the register once the set was noted
pub with_book-lines_after_note : (s : State) (set part : ℕ) → room_for s.book set ≡ true → with_book s (lines_after_note s.book set part) ≡ state_after_show s set part
with_book-lines_after_note s set part room = by_cases (eqb part set && is_free (standing s.book set)) refl
  where
    line_free : (b : Bool) → b ≡ true → (not b || ltb (length s.book) most_lines) ≡ true → ltb (length s.book) most_lines ≡ true
    line_free true e k = k
    line_free false e k = absurd (both_ways false refl e)

    joins : ltb (length s.book) most_lines ≡ true → with_book s (lines_after_add s.book (record { set = set; standing = Possible })) ≡ with_line s set Possible
    joins e = ap (λ (b : Bool). with_book s (cond b (s.book ++ record { set = set; standing = Possible } ∷ []) s.book)) e

    by_cases : (b : Bool) → (eqb part set && is_free (standing s.book set)) ≡ b → with_book s (cond b (lines_after_add s.book (record { set = set; standing = Possible })) s.book) ≡ cond b (with_line s set Possible) s
    by_cases true e = joins (line_free (is_free (standing s.book set)) (and_parts _ _ e).1 room)
    by_cases false e = refl

-- a show by what the code found: whether it is taken, by a count of states that is the machine's
module _ (s : State) (set state : ℕ) (m : Model) (marks scratch n : ℕ) (counted : n ≡ m.count) where
  same : showable_in s set state n marks scratch ≡ showable_in s set state m.count marks scratch
  same = ap (λ (k : ℕ). showable_in s set state k marks scratch) counted

  pub show_refused : (why : Refusal) → ◌≡◌ {A = Result Unit Refusal} (Err why) (showable_in s set state n marks scratch) → declined why 0 ≡ on_show s set state m marks scratch
  show_refused why e = ap (outcome_of s set state m) (e ∙ same) ∙ sym (on_show-outcome_of s set state m marks scratch)

  pub show_taken : (x : Unit) → ◌≡◌ {A = Result Unit Refusal} (Ok x) (showable_in s set state n marks scratch)
      → taken (held_part s.table m set state ∷ rounds_of s.table m ∷ []) (state_after_show s set (held_part s.table m set state)) ≡ on_show s set state m marks scratch
  show_taken x e = ap (outcome_of s set state m) (e ∙ same) ∙ sym (on_show-outcome_of s set state m marks scratch)
