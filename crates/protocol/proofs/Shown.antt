-- An accepted show that holds all of its set leaves the set standing as possible.
use Rattle.std.proofs.Common.{◌≡◌, ℕ, ◌<◌, Bool, true, cond, not, ◌&&◌, ◌||◌, eqb, ltb, leb, [], ◌∷◌, length, Some, None, Option, sym, refl, ap, ◌∙◌, subst}
use Rattle.std.proofs.lemmas.Bool.{ltb-true, eq-eqb}
use Rattle.ctl.specs.Model.{Model, IsSerial}
use Rattle.forms.specs.declared.refusal.Refusal.TheVariants.{SetBeyondTable, StateBeyondMachine, BuffersTooShort, BookFull}
use Rattle.forms.specs.Meaning.{SetHolds}
use Rattle.forms.specs.Sets.{is_within}
use Rattle.label.specs.Show.{rounds_of}
use Rattle.protocol.specs.declared.line.Standing.{Standing}
use Rattle.protocol.specs.declared.line.Standing.TheVariants.{Impossible, Possible}
use Rattle.protocol.specs.State.{State, most_lines, standing, is_free, with_line}
use Rattle.protocol.specs.Calls.{show, Outcome, taken, outcome_given, held_part, state_after_show, on_show, Answer, ok, refused, answer, state_after, state_of, answer_of}
use Rattle.protocol.specs.Runs.{IsAccepted}
use Rattle.protocol.specs.Promises.{StandsAs}
use Rattle.protocol.specs.Invariant.{IsTrueLine, IsSound}
use Rattle.protocol.proofs.BookLines.{AllLines-standing, standing_pushed}
use Rattle.protocol.proofs.Marks.{held_part-SetHolds, SetHolds-held_part}
use Rattle.protocol.proofs.Outcomes.{passed}

module _ (s : State) (set t : ℕ) (m : Model) (marks scratch : ℕ) where
  -- what acceptance says
  record Passed : Type 0 where
    inside : is_within s.table set ≡ true
    below : t < m.count
    is : on_show s set t m marks scratch ≡ taken (held_part s.table m set t ∷ rounds_of s.table m ∷ []) (state_after_show s set (held_part s.table m set t))

  accepted_passed : IsAccepted (answer s (show set t m marks scratch)) → Passed
  accepted_passed a =
      let last : Outcome = taken (held_part s.table m set t ∷ rounds_of s.table m ∷ []) (state_after_show s set (held_part s.table m set t)) in
      let b₁ : Bool = is_within s.table set in
      let b₂ : Bool = ltb t m.count in
      let b₃ : Bool = leb m.count marks && leb m.count scratch in
      let b₄ : Bool = not (is_free (standing s.book set)) || ltb (length s.book) most_lines in
      let o₃ : Outcome = outcome_given b₄ BookFull last in
      let o₂ : Outcome = outcome_given b₃ BuffersTooShort o₃ in
      let o₁ : Outcome = outcome_given b₂ StateBeyondMachine o₂ in
      let p₁ = passed b₁ SetBeyondTable o₁ a in
      let p₂ = passed b₂ StateBeyondMachine o₂ (subst (λ o. IsAccepted (answer_of o)) p₁.1 a) in
      let p₃ = passed b₃ BuffersTooShort o₃ (subst (λ o. IsAccepted (answer_of o)) (p₁.1 ∙ p₂.1) a) in
      let p₄ = passed b₄ BookFull last (subst (λ o. IsAccepted (answer_of o)) (p₁.1 ∙ p₂.1 ∙ p₃.1) a) in
      record { inside = p₁.0; below = ltb-true t m.count p₂.0; is = p₁.1 ∙ p₂.1 ∙ p₃.1 ∙ p₄.1 }

  -- a sound register, shown all of the set
  StandsAs-state_after_show : IsSound s → IsSerial m → Passed → held_part s.table m set t ≡ set → StandsAs (state_after_show s set (held_part s.table m set t)) set Possible
  StandsAs-state_after_show h serial p e = by_cases (standing s.book set) refl
    where
      test : (o : Option Standing) → standing s.book set ≡ o → (eqb (held_part s.table m set t) set && is_free (standing s.book set)) ≡ is_free o
      test o k = ap (λ b. b && is_free (standing s.book set)) (eq-eqb (held_part s.table m set t) set e) ∙ ap is_free k

      by_cases : (o : Option Standing) → standing s.book set ≡ o → StandsAs (state_after_show s set (held_part s.table m set t)) set Possible
      by_cases None k = ap (λ b. standing (cond b (with_line s set Possible) s).book set) (test None k) ∙ standing_pushed s.book set Possible k
      by_cases (Some Possible) k = ap (λ b. standing (cond b (with_line s set Possible) s).book set) (test (Some Possible) k) ∙ k
      by_cases (Some Impossible) k =
          absurd ((AllLines-standing (IsTrueLine s.table) s.book set Impossible h.lines k).1 m serial t (held_part-SetHolds s.table m serial set t p.below e))

  pub all_held_possible : IsSound s → IsSerial m → IsAccepted (answer s (show set t m marks scratch)) → held_part s.table m set t ≡ set
      → StandsAs (state_after s (show set t m marks scratch)) set Possible
  all_held_possible h serial a e =
      let p = accepted_passed a in
      ap (λ o. standing (state_of s o).book set) p.is ∙ StandsAs-state_after_show h serial p e

  pub holding_possible : IsSound s → IsSerial m → IsAccepted (answer s (show set t m marks scratch)) → SetHolds s.table m set t
      → StandsAs (state_after s (show set t m marks scratch)) set Possible
  holding_possible h serial a k =
      let p = accepted_passed a in
      all_held_possible h serial a (SetHolds-held_part s.table m serial set t p.below p.inside k)

  -- the reply has the held part
  abbrev head_of : Answer → ℕ
  head_of (ok []) = 0
  head_of (ok (x ∷ rest)) = x
  head_of (refused why at) = 0

  pub reply_possible : IsSound s → IsSerial m → (rounds : ℕ) → answer s (show set t m marks scratch) ≡ ok (set ∷ rounds ∷ [])
      → StandsAs (state_after s (show set t m marks scratch)) set Possible
  reply_possible h serial rounds e =
      let a : IsAccepted (answer s (show set t m marks scratch)) = subst IsAccepted (sym e) tt in
      let p = accepted_passed a in
      all_held_possible h serial a (ap (λ o. head_of (answer_of o)) (sym p.is) ∙ ap head_of e)
