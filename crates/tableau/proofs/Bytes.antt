-- The steps of a tree that obeys the rules can be written in bytes.
use Rattle.std.proofs.Common.{ℕ, suc, ◌+◌, ◌<◌, ◌≤◌, cond, List, [], ◌∷◌, ◌++◌, length, Some, None, refl, ap, arith}
use Rattle.std.proofs.lemmas.Bool.{ne_eqb}
use Rattle.forms.specs.Forms.{Table}
use Rattle.tableau.specs.declared.goals.Goal.{Goal}
use Rattle.tableau.specs.declared.goals.Step.{Step}
use Rattle.tableau.specs.declared.goals.Step.TheVariants.{Advance}
use Rattle.tableau.specs.Steps.{Trail, Outcome, closes, one, two, numbers_of}
use Rattle.tableau.specs.Allowed.{Rule, Repeats, here, higher, by_clash, by_absurdity, by_split, by_choose, by_until, by_release, by_refocus, by_advance, by_any, by_repeat}
use Rattle.tableau.specs.Walk.{longest_path}
use Rattle.tableau.specs.Tree.{Tree, bare, leaf, stem, fork, root, Obeys, steps}
use Rattle.tableau.specs.Statements.{InBytes, AllInBytes, TreeIsInBytes}
use Rattle.tableau.proofs.Grow.{placed}

-- a step 8 names an ancestor
levels : (u s n : ℕ) (trail : Trail) → Repeats u s n trail → n ≤ length trail
levels u s n trail (here {above = above} un co) = omega arith
levels u s n trail (higher {n = k} {above = above} nr rest) = let l : suc k ≤ length above = levels u s (suc k) above rest in omega arith

AllInBytes-append : (sts more : List Step) → AllInBytes sts → AllInBytes more → AllInBytes (sts ++ more)
AllInBytes-append [] more h k = k
AllInBytes-append (st ∷ sts) more h k = (h.0, AllInBytes-append sts more h.1 k)

module _ (T : Table) (small : length T ≤ 64) where
  byte : (a : ℕ) → a < length T → a < 256
  byte a l = omega arith

  -- the forms that a rule names are in the table
  rule_in_bytes : (trail : Trail) (g : Goal) (st : Step) (out : Outcome) → length trail < longest_path → Rule T trail g st out → InBytes st
  unfolding numbers_of
  rule_in_bytes trail g st out short (by_clash {a} {b} ia ib ea eb) = (omega arith, byte a (placed T a ea tt), byte b (placed T b eb tt), refl)
  rule_in_bytes trail g st out short (by_absurdity {a} ia ea) = (omega arith, byte a (placed T a ea tt), omega arith, refl)
  rule_in_bytes trail g st out short (by_split {a} ia ea) = (omega arith, byte a (placed T a ea tt), omega arith, refl)
  rule_in_bytes trail g st out short (by_choose {a} ia ea) = (omega arith, byte a (placed T a ea tt), omega arith, refl)
  rule_in_bytes trail g st out short (by_until {a} {b} ia ea eb) = (omega arith, byte a (placed T a ea tt), byte b (placed T b eb tt), refl)
  rule_in_bytes trail g st out short (by_release {a} {b} ia ea eb) = (omega arith, byte a (placed T a ea tt), byte b (placed T b eb tt), refl)
  rule_in_bytes trail g st out short (by_refocus {a} ia ea) = (omega arith, byte a (placed T a ea tt), omega arith, refl)
  rule_in_bytes trail g st out short (by_advance {a} ia ea) =
      let l : a < length T = placed T a ea tt in
      (omega arith, byte a l, omega arith, ap (λ b. Some (Advance (cond b None (Some a)))) (ne_eqb a 255 (λ e. omega arith)))
  rule_in_bytes trail g st out short by_any = (omega arith, omega arith, omega arith, refl)
  rule_in_bytes trail g st out short (by_repeat {u} {n} e r) = let l : n ≤ length trail = levels u g.set n trail r in (omega arith, omega arith, omega arith, refl)

  below_in_bytes : (t : Tree) (trail : Trail) → length trail < longest_path → Obeys T trail t → AllInBytes (steps t)
  unfolding Obeys steps
  below_in_bytes (bare g) trail short o = tt
  below_in_bytes (leaf g st) trail short o = (rule_in_bytes trail g st closes short o, tt)
  below_in_bytes (stem g st t) trail short o =
      let room : length trail + 2 ≤ longest_path = o.1 in
      (rule_in_bytes trail g st (one (root t)) short o.0, below_in_bytes t (record { goal = g; step = st } ∷ trail) (omega arith) o.2)
  below_in_bytes (fork g st t u) trail short o =
      let room : length trail + 2 ≤ longest_path = o.1 in
      let below : Trail = record { goal = g; step = st } ∷ trail in (
        rule_in_bytes trail g st (two (root t) (root u)) short o.0,
        AllInBytes-append (steps t) (steps u) (below_in_bytes t below (omega arith) o.2) (below_in_bytes u below (omega arith) o.3),
      )

pub tree_is_in_bytes : TreeIsInBytes
tree_is_in_bytes T small t o = below_in_bytes T small t [] (omega arith) o
