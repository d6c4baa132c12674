-- The number that marks a state, form by form, and what its bits tell.
use Rattle.std.proofs.Common.{◌≡◌, ℕ, zero, suc, ◌+◌, ◌*◌, ◌^◌, ◌<◌, ◌≤◌, Bool, true, false, cond, ◌&&◌, ◌↔◌, List, ◌++◌, length, get_or, drop, replicate, sym, ap, ◌∙◌, subst, ap₂, ⊎_elim, le_refl, pow-suc, add-one, arith}
use Rattle.std.proofs.lemmas.Bool.{both_ways, cases_lt, lt-ltb}
use Rattle.ctl.specs.Model.{Model, IsSerial}
use Rattle.ctl.specs.Rounds.{Subset, Same}
use Rattle.ctl.specs.Meaning.{Holds}
use Rattle.ctl.specs.Truth.{truth, form_rounds}
use Rattle.ctl.proofs.Search.{below_suc}
use Rattle.ctl.proofs.Truth.{DecidesBelow-truth, form_rounds_bounded}
use Rattle.forms.specs.Forms.{Table, form, IsWellFormed}
use Rattle.forms.specs.Meaning.{formula}
use Rattle.forms.proofs.Reading.{formula-reading}
use Rattle.forms.specs.Sets.{member}
use Rattle.label.specs.Bits.{others, put_bit}
use Rattle.label.specs.Columns.{column, other_bits, earlier_marks}
use Rattle.label.specs.Rounds.{form_round, direction, outcome, tally, IsMarked}
use Rattle.label.specs.Show.{mark_below, mark, rounds_below, rounds_of, values, marks_after, scratch_after, MarksTell, IsLabelled}
use Rattle.label.proofs.Bitwise.{member-put_bit, put_bit_high, put_low, has_other, when_clear, put_bit_same}
use Rattle.forms.proofs.SetsWithin.{none_above}
use Rattle.label.proofs.Columns.{member-others}
use Rattle.label.proofs.Lists.{values_before}
use Rattle.label.proofs.Labels.{outcome_alike, tally_alike, truth-reading, form_rounds-reading}

-- the bits of a mark

fits_more : (w f : ℕ) (b : Bool) → w < 2 ^ f → w + cond b (2 ^ f) 0 < 2 ^ suc f
fits_more w f true h = omega (arith, pow-suc 2 f)
fits_more w f false h = omega (arith, pow-suc 2 f)

-- above a number that fits, a bit is put by adding it
put_bit_above : (w f : ℕ) (b : Bool) → w < 2 ^ f → put_bit w f b ≡ w + cond b (2 ^ f) 0
put_bit_above w f b h = ap (λ (o : ℕ). o + cond b (2 ^ f) 0) (sym (when_clear w f (none_above f w f h (le_refl f))))

module _ (T : Table) (m : Model) (t : ℕ) where
  pub mark_below_fits : (f : ℕ) → mark_below f T m t < 2 ^ f
  unfolding mark_below
  mark_below_fits zero = omega arith
  mark_below_fits (suc f) = fits_more (mark_below f T m t) f (truth m (formula T f) t) (mark_below_fits f)

  pub member-mark_below : (f i : ℕ) → i < f → member (mark_below f T m t) i ≡ truth m (formula T i) t
  unfolding mark_below
  member-mark_below zero i h = absurd (omega arith)
  member-mark_below (suc f) i h =
      let w = mark_below f T m t in
      let b = truth m (formula T f) t in
      let put = put_bit_above w f b (mark_below_fits f) in
      ap (λ (v : ℕ). member v i) (sym put)
      ∙ ⊎_elim
      (λ below. has_other (put_bit w f b) w f i (λ e. omega arith) (put_bit_high w f b) (put_low w f b) ∙ member-mark_below f i below)
      (λ here. subst (λ (k : ℕ). member (put_bit w f b) k ≡ truth m (formula T k) t) (sym here) (member-put_bit w f b))
      (below_suc f i h)

-- a form more

module _ (T : Table) (well : IsWellFormed T) (m : Model) (f : ℕ) (marks : List ℕ)
    (so_far : (t : ℕ) → t < m.count → get_or marks t 0 ≡ mark_below f T m t) where
  known : (i : ℕ) → i < f → Same m.count (earlier_marks (other_bits marks f) f i) (truth m (formula T i))
  known i h t l =
      let w = get_or marks t 0 in
      ap (λ (b : Bool). b && member (others w f) i) (lt-ltb i f h)
      ∙ sym (member-others w f i (λ e. omega arith))
      ∙ ap (λ (v : ℕ). member v i) (so_far t l)
      ∙ member-mark_below T m t f i h

  outcome_true : Same m.count (outcome m.count (form_round m (earlier_marks (other_bits marks f) f) (form T f)) (direction (form T f))) (truth m (formula T f))
  outcome_true t l =
      outcome_alike m (earlier_marks (other_bits marks f) f) (λ i. truth m (formula T i)) f known (form T f) (well f) _ t l
      ∙ sym (ap (λ (x : Subset). x t) (truth-reading m (formula T) (form T f)))
      ∙ sym (ap (λ φ. truth m φ t) (formula-reading T well f))

  tally_true : tally m.count (form_round m (earlier_marks (other_bits marks f) f) (form T f)) (direction (form T f)) ≡ form_rounds m (formula T f)
  tally_true =
      tally_alike m (earlier_marks (other_bits marks f) f) (λ i. truth m (formula T i)) f known (form T f) (well f) _
      ∙ sym (form_rounds-reading m (formula T) (form T f))
      ∙ sym (ap (form_rounds m) (formula-reading T well f))

  module _ (after : List ℕ) (taken : ℕ) (marked : IsMarked m (earlier_marks (other_bits marks f) f) (form T f) (column after f) taken) where
    pub marked_more : other_bits after f ≡ other_bits marks f → (t : ℕ) → t < m.count → get_or after t 0 ≡ mark_below (f + 1) T m t
    unfolding mark_below
    marked_more rest t l =
        put_bit_same (get_or after t 0) f
        ∙ ap₂ (λ (o : ℕ) (b : Bool). o + cond b (2 ^ f) 0)
        (ap (λ (x : ℕ → ℕ). x t) rest ∙ ap (λ (w : ℕ). others w f) (so_far t l)) (marked.made t l ∙ outcome_true t l)
        ∙ put_bit_above (mark_below f T m t) f (truth m (formula T f) t) (mark_below_fits T m t f)
        ∙ sym (ap (λ (k : ℕ). mark_below k T m t) (add-one f))

    pub rounds_below_more : (so_far : ℕ) → so_far ≡ rounds_below f T m → so_far + taken ≡ rounds_below (f + 1) T m
    unfolding rounds_below
    rounds_below_more so_far e = rw add-one (omega (arith, e, marked.counted ∙ tally_true))

pub rounds_below_few : (T : Table) (m : Model) → m.count ≤ 1024 → (f : ℕ) → rounds_below f T m ≤ f * 1025
unfolding rounds_below
rounds_below_few T m few zero = omega arith
rounds_below_few T m few (suc f) = omega (arith, rounds_below_few T m few f, form_rounds_bounded m (formula T f))

-- bit f of the mark of t is set exactly where form f is of the table and holds at t, by the paths
pub member-mark : (T : Table) (m : Model) → IsSerial m → (t : ℕ) → t < m.count → (f : ℕ) → (member (mark T m t) f ≡ true) ↔ ((f < length T) × Holds m (formula T f) t)
unfolding mark
member-mark T m serial t l f =
    let w = mark_below (length T) T m t in
    let tells = DecidesBelow-truth m serial (formula T f) t l in (
      λ e. let below : f < length T = ⊎_elim (λ h. h) (λ h. absurd (both_ways (member w f) (none_above (length T) w f (mark_below_fits T m t (length T)) h) e)) (cases_lt f (length T)) in
          (below, tells.0 (sym (member-mark_below T m t (length T) f below) ∙ e)),
      λ p. member-mark_below T m t (length T) f p.0 ∙ tells.1 p.1,
    )

pub marks_tell : (T : Table) (m : Model) → IsSerial m → (marks : List ℕ) → ((t : ℕ) → t < m.count → get_or marks t 0 ≡ mark T m t) → MarksTell T m marks
marks_tell T m serial marks at t l f =
    let tells = member-mark T m serial t l f in
    let same = ap (λ (v : ℕ). member v f) (at t l) in
    ((λ e. tells.0 (sym same ∙ e)), λ p. same ∙ tells.1 p)

-- what a labelling leaves in longer buffers
pub labelled : (T : Table) (m : Model) → IsSerial m → (taken n : ℕ) (marks made scratch zeros : List ℕ) → n ≡ m.count
    → made ≡ values (mark T m) m.count → zeros ≡ replicate m.count 0 → taken ≡ rounds_of T m
    → IsLabelled T m taken marks (made ++ drop n marks) scratch (zeros ++ drop n scratch)
unfolding marks_after scratch_after
labelled T m serial taken n marks made scratch zeros size is cleared counted =
    let at : (t : ℕ) → t < m.count → get_or (made ++ drop n marks) t 0 ≡ mark T m t = λ t h. rw is (values_before (mark T m) m.count (drop n marks) t h) in
    record {
      tells = marks_tell T m serial _ at;
      each = at;
      marks_are = rw (is, size);
      scratch_is = rw (cleared, size);
      counted = counted;
    }
