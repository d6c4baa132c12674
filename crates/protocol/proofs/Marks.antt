-- The held part of a set is all of it exactly where the set holds.
use Rattle.std.proofs.Common.{◌≡◌, ℕ, ◌<◌, true, sym, ◌∙◌}
use lib.Bits.{bit_and}
use Rattle.std.proofs.lemmas.Bool.{and_parts, and_from, eqb-true, eq-eqb}
use Rattle.ctl.specs.Model.{Model, IsSerial}
use Rattle.forms.specs.Forms.{Table}
use Rattle.forms.specs.Meaning.{SetHolds}
use Rattle.forms.specs.Sets.{member, is_within, is_subset}
use Rattle.forms.proofs.SetsWithin.{is_within_below}
use Rattle.label.specs.Show.{mark}
use Rattle.label.proofs.Marks.{member-mark}
use Rattle.tableau.proofs.SetLaws.{member-bit_and, member-is_subset, is_subset-member}
use Rattle.protocol.specs.Calls.{held_part}
use Rattle.protocol.specs.Promises.{HeldTells}

pub held_tells : HeldTells
unfolding held_part
held_tells T m serial set t state f = (
  (λ b. let p = and_parts (member set f) (member (mark T m t) f) (sym (member-bit_and set (mark T m t) f) ∙ b) in
      let q = (member-mark T m serial t state f).0 p.1 in
      (p.0, q.0, q.1)),
  λ p. member-bit_and set (mark T m t) f ∙ and_from (member set f) (member (mark T m t) f) p.0 ((member-mark T m serial t state f).1 (p.1, p.2)),
)

module _ (T : Table) (m : Model) (serial : IsSerial m) (set t : ℕ) (state : t < m.count) where
  -- where the held part is the set, the set holds
  pub held_part-SetHolds : held_part T m set t ≡ set → SetHolds T m set t
  unfolding held_part is_subset
  held_part-SetHolds e = (state, λ f b. ((member-mark T m serial t state f).0 (member-is_subset set (mark T m t) f (eq-eqb (bit_and set (mark T m t)) set e) b)).1)

  -- where the set holds, the held part is the set
  pub SetHolds-held_part : is_within T set ≡ true → SetHolds T m set t → held_part T m set t ≡ set
  unfolding held_part is_subset
  SetHolds-held_part inside h =
      eqb-true (bit_and set (mark T m t)) set
      (is_subset-member set (mark T m t) (λ f b. (member-mark T m serial t state f).1 (is_within_below T set inside f b, h.1 f b)))
