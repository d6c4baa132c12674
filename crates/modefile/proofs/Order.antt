-- What is known of a file whose contents are in order.
use Rattle.std.proofs.Common.{◌≡◌, ℕ, zero, suc, ◌+◌, ◌*◌, ◌<◌, ◌≤◌, Bool, true, false, cond, not, ltb, leb, List, [], length, get_or, take, drop, is_some, Some, None, Ok, Option, Result, refl, sym, ap, ◌∙◌, inl, inr, add-one, arith}
use Rattle.std.proofs.Math.Bool.{and_comm}
use Rattle.std.proofs.lemmas.Bool.{and_from, and_left, and_parts, le-ltb, both_ways, cases_lt, eqb-true, leb-true, lt-ltb, ltb-true}
use Rattle.std.specs.List.{position_from}
use Rattle.std.specs.Result.{is_err, IsOk}
use Rattle.std.proofs.lemmas.Bool.Decides.{nat_tests}
use Rattle.std.specs.Simd.{first_chunks}
use Rattle.std.proofs.lemmas.List.{drop-drop, get_or-take, get_or-drop}
use Rattle.forms.specs.declared.refusal.Refusal.{Refusal}
use Rattle.forms.specs.declared.refusal.Rejected.{Rejected}
use Rattle.modefile.specs.declared.part.Kind.{Kind}
use Rattle.forms.proofs.Chunks.{get_or-chunk}
use Rattle.modefile.specs.Contents.{count, lines_of, length_of, kind_of, kind_number, kind_at, length_at, place_at, is_shaped, is_known, unknown_from, filling_fault, fault}
use Rattle.modefile.specs.Parts.{has_part, IsWithin, IsEntry}

unread : (k : ℕ) → is_err (kind_of k) ≡ not (is_known k)
unread k = grind (arith, nat_tests)

cond_not : {X : Type 0} (b : Bool) (x y : X) → cond b x y ≡ cond (not b) y x
cond_not true x y = refl
cond_not false x y = refl

-- the unknown kinds by the contents lines, from line i on
pub unknown_from_lines : (bs : List ℕ) (i n : ℕ) → unknown_from bs i n ≡ position_from (λ line. is_err (kind_of (get_or line 0 0))) i (first_chunks 5 n (drop (1 + 5 * i) bs))
unknown_from_lines bs i zero = refl
unknown_from_lines bs i (suc n) =
    let kind : get_or (take 5 (drop (1 + 5 * i) bs)) 0 0 ≡ kind_at bs i = get_or-take 5 (drop (1 + 5 * i) bs) 0 0 (omega arith) ∙ get_or-drop (1 + 5 * i) bs 0 0 ∙ ap (λ (p : ℕ). get_or bs p 0) (omega arith) in
    let on : drop 5 (drop (1 + 5 * i) bs) ≡ drop (1 + 5 * (i + 1)) bs = drop-drop 5 (1 + 5 * i) bs ∙ ap (λ (p : ℕ). drop p bs) (omega arith) in
    let rest = unknown_from_lines bs (i + 1) n in
    let odd : is_err (kind_of (get_or (take 5 (drop (1 + 5 * i) bs)) 0 0)) ≡ not (is_known (kind_at bs i)) = ap (λ (k : ℕ). is_err (kind_of k)) kind ∙ unread (kind_at bs i) in
    cond_not (is_known (kind_at bs i)) _ _
    ∙ ap (λ (b : Bool). cond b (Some i) (unknown_from bs (i + 1) n)) (sym odd)
    ∙ ap (λ (o : Option ℕ). cond (is_err (kind_of (get_or (take 5 (drop (1 + 5 * i) bs)) 0 0))) (Some i) o) (rest ∙ ap (λ (l : List ℕ). position_from (λ line. is_err (kind_of (get_or line 0 0))) (i + 1) (first_chunks 5 n l)) (sym on))

-- what a contents line says
module _ (bs : List ℕ) (i : ℕ) (below : i < count bs) where
  pub length_of_line : length_of (get_or (lines_of bs) i []) ≡ length_at bs i
  length_of_line =
      let first = get_or-chunk 5 (count bs) 1 bs i 1 (2 + 5 * i) below (omega arith) (omega arith) in
      let second = get_or-chunk 5 (count bs) 1 bs i 2 (2 + 5 * i + 1) below (omega arith) (omega arith) in
      let third = get_or-chunk 5 (count bs) 1 bs i 3 (2 + 5 * i + 2) below (omega arith) (omega arith) in
      let fourth = get_or-chunk 5 (count bs) 1 bs i 4 (2 + 5 * i + 3) below (omega arith) (omega arith) in
      omega (arith, first, second, third, fourth)

  pub kind_of_line : get_or (get_or (lines_of bs) i []) 0 0 ≡ kind_at bs i
  kind_of_line = get_or-chunk 5 (count bs) 1 bs i 0 (1 + 5 * i) below (omega arith) (omega arith)

pub place_at_more : (bs : List ℕ) (i : ℕ) → place_at bs (i + 1) ≡ place_at bs i + length_at bs i
place_at_more bs i = ap (place_at bs) (add-one i)

place_at_grows : (bs : List ℕ) (i j : ℕ) → i ≤ j → place_at bs i ≤ place_at bs j
place_at_grows bs i zero h = let e : i ≡ 0 = omega arith in rw e (omega arith)
place_at_grows bs i (suc j) h =
    elim (cases_lt j i) [
      | inl past ↦ (let e : i ≡ suc j = omega arith in rw e (omega arith))
      | inr before ↦ (let k = place_at_grows bs i j before in omega arith)
    ]

passes : (b : Bool) (o : Option Rejected) (why : Rejected) → is_some (cond b o (Some why)) ≡ false → (b ≡ true) × (is_some o ≡ false)
passes true o why e = (refl, e)
passes false o why e = absurd (both_ways true e refl)

-- a step of `all_known`, by whether the line's own kind is known
known_from : (bs : List ℕ) (i j : ℕ) (rest : Option ℕ) (b : Bool) → is_known (kind_at bs i) ≡ b → cond b rest (Some i) ≡ None → i ≤ j
    → (i + 1 ≤ j → rest ≡ None → is_known (kind_at bs j) ≡ true) → is_known (kind_at bs j) ≡ true
known_from bs i j rest false k e above later = absurd (let z : ◌≡◌ {A = ℕ} 0 1 = cc in omega arith)
known_from bs i j rest true k e above later =
    elim (cases_lt i j) [
      | inl past ↦ later (omega arith) e
      | inr before ↦ (let same : j ≡ i = omega arith in ap (λ (m : ℕ). is_known (kind_at bs m)) same ∙ k)
    ]

all_known : (bs : List ℕ) (i n : ℕ) → unknown_from bs i n ≡ None → (j : ℕ) → i ≤ j → j < i + n → is_known (kind_at bs j) ≡ true
all_known bs i zero e j above below = absurd (omega arith)
all_known bs i (suc n) e j above below =
    known_from bs i j (unknown_from bs (i + 1) n) (is_known (kind_at bs i)) refl e above (λ past rest. all_known bs (i + 1) n rest j past (omega arith))

filled : (bs : List ℕ) (o : Option ℕ) → is_some (filling_fault bs o) ≡ false → (o ≡ None) × (place_at bs (count bs) ≡ length bs)
filled bs None e = (refl, eqb-true (place_at bs (count bs)) (length bs) (passes _ None _ e).0)
filled bs (Some i) e = absurd (both_ways true e refl)

-- a file that is not refused has the right shape, knows its kinds and is filled
in_order : (bs : List ℕ) → is_some (fault bs) ≡ false → (is_shaped bs ≡ true) × (unknown_from bs 0 (count bs) ≡ None) × (place_at bs (count bs) ≡ length bs)
in_order bs e =
    let p = passes (is_shaped bs) (filling_fault bs (unknown_from bs 0 (count bs))) _ e in
    let f = filled bs (unknown_from bs 0 (count bs)) p.1 in
    (p.0, f.0, f.1)

lines_within : (bs : List ℕ) → is_shaped bs ≡ true → (0 < length bs) × (count bs ≤ 16) × (1 + 5 * count bs ≤ length bs)
lines_within bs e =
    let a = and_parts (ltb 0 (length bs)) _ e in
    let b = and_parts (leb (length bs) 65536) _ a.1 in
    let c = and_parts (ltb 0 (count bs)) _ b.1 in
    let d = and_parts (leb (count bs) 16) _ c.1 in
    (ltb-true 0 (length bs) a.0, leb-true (count bs) 16 d.0, leb-true (1 + 5 * count bs) (length bs) d.1)

-- part i of a file in order
module _ (bs : List ℕ) (i : ℕ) (sound : fault bs ≡ None) (below : i < count bs) where
  pub has_part-true : has_part bs i ≡ true
  has_part-true = and_from _ _ (ap (λ (o : Option Rejected). not (is_some o)) sound) (lt-ltb i (count bs) below)

  pub IsWithin_part : IsWithin bs i
  IsWithin_part =
      let o = in_order bs (ap is_some sound) in
      let l = lines_within bs o.0 in
      let k = and_parts (leb 1 (kind_at bs i)) _ (all_known bs 0 (count bs) o.1 i (omega arith) (omega arith)) in
      record {
        line = omega arith;
        few = omega arith;
        kind = (leb-true 1 (kind_at bs i) k.0, leb-true (kind_at bs i) 3 k.1);
        body = omega (arith, place_at_grows bs (i + 1) (count bs) (omega arith), o.2, place_at_more bs i);
      }

  pub IsOk-kind_of : IsOk (kind_of (kind_at bs i))
  IsOk-kind_of = let kind = IsWithin_part.kind in grind (arith, nat_tests)

-- the kind that a number names has that number
pub kind_number-kind_of : (k : ℕ) (kind : Kind) → ◌≡◌ {A = Result Kind Refusal} (kind_of k) (Ok kind) → kind_number kind ≡ k
kind_number-kind_of k kind e = grind (arith, nat_tests)

pub has_part-past : (bs : List ℕ) (i : ℕ) → count bs ≤ i → has_part bs i ≡ false
has_part-past bs i past = and_comm (not (is_some (fault bs))) (ltb i (count bs)) ∙ and_left _ _ (le-ltb i (count bs) past)

-- what a contents line says of its part
pub IsEntry_line : (bs line : List ℕ) (i : ℕ) (kind : Kind) → fault bs ≡ None → i < count bs → line ≡ get_or (lines_of bs) i [] → ◌≡◌ {A = Result Kind Refusal} (Ok kind) (kind_of (get_or line 0 0)) → IsEntry bs i kind (length_of line)
IsEntry_line bs line i kind sound below same told =
    let long : length_of line ≡ length_at bs i = ap length_of same ∙ length_of_line bs i below in
    record {
      there = has_part-true bs i sound below;
      within = IsWithin_part bs i sound below;
      number = kind_number-kind_of (get_or line 0 0) kind (sym told) ∙ ap (λ (l : List ℕ). get_or l 0 0) same ∙ kind_of_line bs i below;
      long = long;
      onward = omega (arith, place_at_more bs i, long);
    }
