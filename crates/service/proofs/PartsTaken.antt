-- The parts of a file, one by one.
use Rattle.std.proofs.Common.{◌≡◌, ℕ, zero, suc, ◌+◌, ◌-◌, ◌<◌, ◌≤◌, Bool, true, false, cond, not, ◌&&◌, ltb, leb, List, length, is_some, Some, None, Ok, Err, Result, sym, refl, ap, ◌∙◌, add-one, arith}
use Rattle.std.proofs.lemmas.Bool.{and_parts, ltb-true, ltb-false, leb-true}
use Rattle.forms.specs.declared.refusal.Refusal.{Refusal}
use Rattle.forms.specs.declared.refusal.Refusal.TheVariants.{FileShape, NoPartLeft}
use Rattle.forms.specs.declared.refusal.Rejected.{Rejected}
use Rattle.forms.specs.Refusals.{rejected_at}
use Rattle.lines.specs.declared.reply.Reply.{Reply}
use Rattle.lines.specs.declared.reply.Reply.TheVariants.{Number}
use Rattle.machine.specs.Faults.{sheet_fault}
use Rattle.modefile.specs.Contents.{count, kind_at, place_at, is_shaped, unknown_from, filling_fault, fault}
use Rattle.modefile.specs.Parts.{Told, has_part, part_at, following_part}
use Rattle.service.specs.Kept.{Kept}
use Rattle.machine.specs.declared.error.BodyError.{BodyError}
use Rattle.machine.specs.declared.error.BodyError.TheVariants.{Refused, OutOfMemory}
use Rattle.service.specs.Files.{body_at, take_part, reply_onward, take_from, HasSheet}
use Rattle.service.specs.Meaning.{Performed}
use Rattle.service.specs.Taking.{Took, IsSheetPart, part_reply}

pub record There (file : List ℕ) (i : ℕ) (t : Told) : Type 0 where
  pub below : i < count file
  pub kind : t.0 ≡ kind_at file i
  pub body : t.1 ≡ body_at file i
  pub next : following_part file i ≡ i + 1

-- a part that is handed out is there
pub part_there : (file : List ℕ) (i : ℕ) (t : Told) → ◌≡◌ {A = Result Told Refusal} (Ok t) (part_at file i) → There file i t
part_there file i t e = there_if_has_part (has_part file i) refl e
  where
    there_if_has_part : (b : Bool) → has_part file i ≡ b → ◌≡◌ {A = Result Told Refusal} (Ok t) (cond b (Ok (kind_at file i, body_at file i, place_at file i)) (Err NoPartLeft)) → There file i t
    there_if_has_part true h k =
        let same : t ≡ (kind_at file i, body_at file i, place_at file i) = cc in
        record {
          below = ltb-true i (count file) (and_parts (not (is_some (fault file))) (ltb i (count file)) h).1;
          kind = ap (λ (x : Told). x.0) same;
          body = ap (λ (x : Told). x.1) same;
          next = ap (λ (b : Bool). cond b (i + 1) i) h;
        }
    there_if_has_part false h k = let z : ◌≡◌ {A = ℕ} 0 1 = cc in absurd (omega arith)

-- where none is handed out of a file in order, none is left
pub no_part : (file : List ℕ) (i : ℕ) (why : Refusal) → fault file ≡ None → ◌≡◌ {A = Result Told Refusal} (Err why) (part_at file i) → count file ≤ i
no_part file i why sound e = done_if_none_below (ltb i (count file)) refl (e ∙ ap (λ (b : Bool). cond (not b && ltb i (count file)) (Ok (kind_at file i, body_at file i, place_at file i)) (Err NoPartLeft)) (ap is_some sound))
  where
    done_if_none_below : (b : Bool) → ltb i (count file) ≡ b → ◌≡◌ {A = Result Told Refusal} (Err why) (cond b (Ok (kind_at file i, body_at file i, place_at file i)) (Err NoPartLeft)) → count file ≤ i
    done_if_none_below true h k = let z : ◌≡◌ {A = ℕ} 0 1 = cc in absurd (omega arith)
    done_if_none_below false h k = ltb-false i (count file) h

module _ (k : Kept) (file : List ℕ) (i : ℕ) where
  pub take_next : i < count file → take_from k file i (count file - i) ≡ reply_onward k i (take_part k (kind_at file i) (body_at file i)) (λ later. take_from later file (suc i) (count file - (i + 1)))
  unfolding take_from
  take_next below = let more : count file - i ≡ suc (count file - (i + 1)) = omega arith in ap (take_from k file i) more

  pub take_end : count file ≤ i → i ≤ count file → take_from k file i (count file - i) ≡ (Number i, k)
  unfolding take_from
  take_end past within = let none : count file - i ≡ zero = omega arith in ap (take_from k file i) none

-- a file in order has at most 16 parts
pub count_few : (file : List ℕ) → fault file ≡ None → count file ≤ 16
count_few file sound = few_if_shaped (is_shaped file) refl sound
  where
    few_if_shaped : (b : Bool) → is_shaped file ≡ b → cond b (filling_fault file (unknown_from file 0 (count file))) (Some (rejected_at FileShape 0)) ≡ None → count file ≤ 16
    few_if_shaped true h k =
        let p = and_parts (ltb 0 (length file)) _ h in
        let q = and_parts (leb (length file) 65536) _ p.1 in
        let r = and_parts (ltb 0 (count file)) _ q.1 in
        leb-true (count file) 16 (and_parts (leb (count file) 16) _ r.1).0
    few_if_shaped false h k = let z : ◌≡◌ {A = ℕ} 0 1 = cc in absurd (omega arith)

-- the loop's part, where its reader is known to be at part i of the file
module _ (bytes file : List ℕ) (next i : ℕ) (same : bytes ≡ file) (at : next ≡ i) where
  placed : part_at bytes next ≡ part_at file i
  placed = ap (λ (b : List ℕ). part_at b next) same ∙ ap (part_at file) at

  pub reader_there : (t : Told) → ◌≡◌ {A = Result Told Refusal} (Ok t) (part_at bytes next) → There file i t
  reader_there t e = part_there file i t (e ∙ placed)

  pub reader_done : (why : Refusal) → fault file ≡ None → ◌≡◌ {A = Result Told Refusal} (Err why) (part_at bytes next) → count file ≤ i
  reader_done why sound e = no_part file i why sound (e ∙ placed)

  pub reader_moves : (t : Told) (moved : ℕ) → There file i t → moved ≡ following_part bytes next → moved ≡ i + 1
  reader_moves t moved there e = e ∙ ap (λ (b : List ℕ). following_part b next) same ∙ ap (following_part file) at ∙ there.next

-- the part that the loop takes
module _ (k : Kept) (file : List ℕ) (i : ℕ) (t : Told) (there : There file i t) where
  taking : take_part k t.0 t.1 ≡ take_part k (kind_at file i) (body_at file i)
  taking = ap (λ (kind : ℕ). take_part k kind t.1) there.kind ∙ ap (take_part k (kind_at file i)) there.body

  pub part_taken : (later : Kept) → take_part k t.0 t.1 ≡ Ok later → take_from k file i (count file - i) ≡ take_from later file (i + 1) (count file - (i + 1))
  part_taken later e =
      take_next k file i there.below
      ∙ ap (λ (r : Result Kept Rejected). reply_onward k i r (λ x. take_from x file (suc i) (count file - (i + 1)))) (sym taking ∙ e)
      ∙ ap (λ (j : ℕ). take_from later file j (count file - (i + 1))) (sym (add-one i))

  pub part_stopped : (stop : BodyError) (later : Kept) → Took (take_part k t.0 t.1) (IsSheetPart t.0 t.1) (Err stop) k later
      → Performed (take_from k file i (count file - i)) (HasSheet file) (part_reply stop i) later
  part_stopped (Refused e) later h =
      let due =
      take_next k file i there.below
      ∙ ap (λ (r : Result Kept Rejected). reply_onward k i r (λ x. take_from x file (suc i) (count file - (i + 1)))) (sym taking ∙ h.0) in
      (ap (λ (p : Reply × Kept). p.0) (sym due), h.1 ∙ ap (λ (p : Reply × Kept). p.1) (sym due))
  part_stopped OutOfMemory later h = (i, (sym there.kind ∙ h.0, ap sheet_fault (sym there.body) ∙ h.1))
