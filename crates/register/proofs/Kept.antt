-- The register after a call, by its parts, and that the call keeps what is true of it.
use Rattle.std.proofs.Common.{◌≡◌, ℕ, Bool, true, false, cond, ltb, List, [], ◌∷◌, ◌++◌, length, is_some, Some, None, Ok, Err, Option, Result, sym, refl, ap, ◌∙◌, subst, arith}
use Rattle.forms.specs.declared.form.Form.{Form}
use Rattle.forms.specs.declared.refusal.Refusal.{Refusal}
use Rattle.forms.specs.declared.refusal.Refusal.TheVariants.{BookFull, SetStands, NoSuchLine}
use Rattle.forms.specs.Tables.{joined_forms, form_number}
use Rattle.walk.specs.Progress.{Progress, absent, present, phase_of, finish_result, reply, next}
use Rattle.walk.specs.declared.walk.Phase.TheVariants.{Closed}
use Rattle.tableau.specs.Walk.{under_way, closed}
use Rattle.protocol.specs.declared.line.Line.{Line}
use Rattle.protocol.specs.declared.line.Standing.{Standing}
use Rattle.protocol.specs.declared.line.Standing.TheVariants.{Impossible, Possible}
use Rattle.register.specs.declared.register.Register.TheInside.{Inside}
use Rattle.protocol.specs.State.{State, most_lines, standing, is_free, with_line, with_table, with_book, with_walk, without}
use Rattle.protocol.specs.Calls.{Call, enter, taken, outcome_given, form_outcome, walk_outcome, enter_outcome, on_strike, answer_of, state_of, state_after}
use Rattle.protocol.specs.Runs.{IsLawfulCall}
use Rattle.protocol.specs.Invariant.{IsTrueLine, IsSound}
use Rattle.protocol.proofs.BookLines.{AllLines-standing}
use Rattle.protocol.proofs.Keeping.{IsSound-state_after}
use Rattle.register.specs.Books.{add_result, lines_after_add, lines_after_strike}
use Rattle.register.specs.Answers.{number_answer, StandsTruly}

-- the abstract state of the parts
abbrev pub seen : Inside → State
seen r = record { table = r.table; book = r.book; walk = r.walk }

pub kept_by : (s later : State) (call : Call) → IsLawfulCall call → later ≡ state_after s call → IsSound s → IsSound later
kept_by s later call lawful e k = subst IsSound (sym e) (IsSound-state_after s call lawful k)

pub state_of-form_outcome : (s : State) (r : Result Form Refusal) → with_table s (joined_forms s.table r) ≡ state_of s (form_outcome s r)
state_of-form_outcome s (Ok x) = refl
state_of-form_outcome s (Err why) = refl

pub formed-answer : (s : State) (r : Result Form Refusal) → number_answer (form_number s.table r) ≡ answer_of (form_outcome s r)
formed-answer s (Ok x) = refl
formed-answer s (Err why) = refl

pub state_of-walk_outcome : (s : State) (r : Result Progress Refusal) → with_walk s (next s.walk r) ≡ state_of s (walk_outcome s r)
state_of-walk_outcome s (Ok walk) = refl
state_of-walk_outcome s (Err why) = refl

pub answer_of-walk_outcome : (s : State) (r : Result Progress Refusal) → number_answer (reply r) ≡ answer_of (walk_outcome s r)
answer_of-walk_outcome s (Ok walk) = refl
answer_of-walk_outcome s (Err why) = refl

pub state_of-on_strike : (s : State) (line : ℕ) → with_book s (lines_after_strike s.book line) ≡ state_of s (on_strike s line)
state_of-on_strike s line = by_cases (ltb line (length s.book))
  where
    by_cases : (b : Bool) → with_book s (cond b (without line s.book) s.book) ≡ state_of s (outcome_given b NoSuchLine (taken (line ∷ []) (with_book s (without line s.book))))
    by_cases true = refl
    by_cases false = refl

-- a closed walk finishes at its root set
pub closed_finishes : (p : Progress) (root : ℕ) → Closed root ≡ phase_of p → finish_result p ≡ Ok root
closed_finishes absent root e = cc
closed_finishes (present r (under_way goal frames)) root e = cc
closed_finishes (present r closed) root e = let same : root ≡ r = cc in ap (λ (x : ℕ). Ok x) (sym same)

-- what the book says of a set is so
pub StandsTruly_standing : (s : State) (set : ℕ) (o : Option Standing) → o ≡ standing s.book set → IsSound s → StandsTruly s.table set o
StandsTruly_standing s set None e k = tt
StandsTruly_standing s set (Some Impossible) e k = (AllLines-standing (IsTrueLine s.table) s.book set Impossible k.lines (sym e)).1
StandsTruly_standing s set (Some Possible) e k = ∣ (AllLines-standing (IsTrueLine s.table) s.book set Possible k.lines (sym e)).1 ∣₁

taken_not_full : (line : ℕ) → ◌≡◌ {A = Result ℕ Refusal} (Ok line) (Err BookFull) → ⊥
taken_not_full line e = let z : ◌≡◌ {A = ℕ} 0 1 = cc in omega arith

-- a set of which no line is found stands neither way
pub free_of : (o : Option Standing) → is_some o ≡ false → is_free o ≡ true
free_of None e = refl
free_of (Some how) e = sym e

-- the register once the root set of a closed walk was added to the book and the walk was ended
module _ (s : State) (root : ℕ) (closed : finish_result s.walk ≡ Ok root) (free : is_free (standing s.book root) ≡ true) where
  pub entered_state : (place : ℕ) (lines : List Line) (walk : Progress) → Ok place ≡ add_result s.book → lines ≡ lines_after_add s.book (record { set = root; standing = Impossible }) → walk ≡ absent
      → record { table = s.table; book = lines; walk = walk } ≡ state_after s enter
  entered_state place lines walk room added none =
      (λ i. record { table = s.table; book = added i; walk = none i })
      ∙ by_cases (ltb (length s.book) most_lines) room
      ∙ ap (λ (b : Bool). state_of s (outcome_given b SetStands (outcome_given (ltb (length s.book) most_lines) BookFull (taken (length s.book ∷ []) (with_walk (with_line s root Impossible) absent))))) (sym free)
      ∙ ap (λ (r : Result ℕ Refusal). state_of s (enter_outcome s r)) (sym closed)
    where
      by_cases : (b : Bool) → Ok place ≡ cond b (Ok (length s.book)) (Err BookFull)
          → record { table = s.table; book = cond b (s.book ++ record { set = root; standing = Impossible } ∷ []) s.book; walk = absent }
          ≡ state_of s (outcome_given b BookFull (taken (length s.book ∷ []) (with_walk (with_line s root Impossible) absent)))
      by_cases true e = refl
      by_cases false e = absurd (taken_not_full place e)
