-- A line that is read in pieces.
use Rattle.std.proofs.Common.{◌≡◌, ◌≢◌, ℕ, suc, ◌+◌, ◌<◌, Bool, true, not, cond, nat_lt, List, [], ◌∷◌, ◌++◌, length, take, get_or, All, Some, None, IfSome, Option, refl, sym, ap, ◌∙◌, subst, append-nil, append_assoc, length-append, length-take, eq-eqb, eqb-true, ne_eqb, arith}
use Rattle.std.specs.List.{position_or_len}
use Rattle.std.specs.Io.KnownBytes.{Consumes}
use Rattle.std.specs.Io.BufRead.{DropsThrough, drop_through}
use Rattle.std.proofs.KnownBytes.{Consumes-trans}
use Rattle.std.proofs.BufReadLemmas.{drop_through-append}
use Rattle.std.proofs.lemmas.Bool.{both_ways, lt-ltb}
use Rattle.std.proofs.lemmas.List.{get_or-take, take_more}
use Rattle.std.proofs.lemmas.List.Elements.{All-append, All-from_get_or, All-head, All-tail, All-take}
use Rattle.std.proofs.lemmas.List.Sums.{fails_before_first, passes_at_first}
use Rattle.lines.specs.Kept.{is_feed, line_of}
use Rattle.lines.specs.Pieces.{IsKept, IsRead}
use Rattle.lines.specs.declared.input.Piece.TheVariants.{Inner, Last, End}

-- no line feed stands among the bytes
abbrev pub IsClean : List ℕ → Type 0
IsClean bytes = All (λ b. b ≢ 10) bytes

-- what an input shows, cut at its first line feed
module _ (shown : List ℕ) (end : ℕ) (first : end ≡ position_or_len is_feed shown) where
  pub IsClean_front : IsClean (take end shown)
  IsClean_front = All-from_get_or (λ b. b ≢ 10) (take end shown) 0 (λ k h.
      let within : k < end = omega (arith, length-take end shown) in
      λ same. both_ways _ (fails_before_first is_feed shown k 0 (omega (arith, first))) (eq-eqb _ 10 (sym (get_or-take end shown k 0 within) ∙ same)))

  pub take-through_feed : end < length shown → take (end + 1) shown ≡ take end shown ++ 10 ∷ []
  take-through_feed h =
      take_more shown end 0 h
      ∙ ap (λ b. take end shown ++ b ∷ []) (eqb-true _ 10 (ap (λ k. is_feed (get_or shown k 0)) first ∙ passes_at_first is_feed shown 0 (omega (arith, first))))

one_more : (n : ℕ) → 1 + n ≡ suc n
one_more n = omega arith

-- a text whose first line is clean bytes
line_of-none : (line : List ℕ) → IsClean line → line_of line ≡ line
line_of-none [] clean = refl
line_of-none (b ∷ line) clean =
    ap (λ t. take (cond (not t) (1 + position_or_len is_feed line) 0) (b ∷ line)) (ne_eqb b 10 (All-head (λ x. x ≢ 10) b line clean))
    ∙ ap (λ n. take n (b ∷ line)) (one_more (position_or_len is_feed line)) ∙ ap (λ l. b ∷ l) (line_of-none line (All-tail (λ x. x ≢ 10) b line clean))

line_of-feed : (line rest : List ℕ) → IsClean line → line_of (line ++ 10 ∷ rest) ≡ line
line_of-feed [] rest clean = refl
line_of-feed (b ∷ line) rest clean =
    ap (λ t. take (cond (not t) (1 + position_or_len is_feed (line ++ 10 ∷ rest)) 0) (b ∷ line ++ 10 ∷ rest)) (ne_eqb b 10 (All-head (λ x. x ≢ 10) b line clean))
    ∙ ap (λ n. take n (b ∷ line ++ 10 ∷ rest)) (one_more (position_or_len is_feed (line ++ 10 ∷ rest))) ∙ ap (λ l. b ∷ l) (line_of-feed line rest (All-tail (λ x. x ≢ 10) b line clean))

-- what was read of a line so far: `done`, in which no line feed stands
pub record Begun (old now : Option (List ℕ)) (line : List ℕ) (begun : Bool) : Type 0 where
  pub done : List ℕ
  pub consumed : Consumes old now done
  pub clean : IsClean done
  pub kept : line ≡ take 101 done
  pub some : begun ≡ nat_lt 0 (length done)

pub Begun_more : (old now new : Option (List ℕ)) (was is : List ℕ) (begun : Bool) → Begun old now was begun → IsRead now new was is Inner → Begun old new is true
Begun_more old now new was is begun h (part, joins, some) = record {
  done = h.done ++ part;
  consumed = Consumes-trans old now new h.done part h.consumed joins.consumed;
  clean = All-append (λ b. b ≢ 10) h.done part h.clean joins.clean;
  kept = joins.kept h.done h.kept;
  some = sym (lt-ltb 0 _ (omega (arith, length-append h.done part)));
}

-- what holds of a line that was read, by the bytes that the input had and has
pub record IsLineRead (old new : Option (List ℕ)) (line : List ℕ) (more : Bool) : Type 0 where
  pub clean : IsClean line
  pub bytes : IfSome old (λ xs. line ≡ take 101 (line_of xs))
  pub there : IfSome old (λ xs. more ≡ nat_lt 0 (length xs))
  pub rest : DropsThrough old new 10

IsClean_kept : (done line : List ℕ) → IsClean done → line ≡ take 101 done → IsClean line
IsClean_kept done line clean kept = subst IsClean (sym kept) (All-take (λ b. b ≢ 10) 101 done clean)

fed : (old new : Option (List ℕ)) (done line : List ℕ) → Consumes old new (done ++ 10 ∷ []) → IsClean done → line ≡ take 101 done → IsLineRead old new line true
fed None new done line p clean kept = record { clean = IsClean_kept done line clean kept; bytes = tt; there = tt; rest = tt }
fed (Some xs) None done line p clean kept = absurd p
fed (Some xs) (Some ys) done line p clean kept =
    let split : xs ≡ done ++ 10 ∷ ys = p ∙ append_assoc done (10 ∷ []) ys in
    record {
      clean = IsClean_kept done line clean kept;
      bytes = kept ∙ ap (take 101) (sym (ap line_of split ∙ line_of-feed done ys clean));
      there = sym (lt-ltb 0 (length xs) (omega (arith, ap length split, length-append done (10 ∷ ys))));
      rest = ap Some (sym (ap (drop_through 10) split ∙ drop_through-append 10 done (10 ∷ ys) clean));
    }

pub IsLineRead_last : (old now new : Option (List ℕ)) (was is : List ℕ) (begun : Bool) → Begun old now was begun → IsRead now new was is Last → IsLineRead old new is true
IsLineRead_last old now new was is begun h (part, joins) =
    fed old new (h.done ++ part) is
    (subst (Consumes old new) (sym (append_assoc h.done part (10 ∷ []))) (Consumes-trans old now new h.done (part ++ 10 ∷ []) h.consumed joins.consumed))
    (All-append (λ b. b ≢ 10) h.done part h.clean joins.clean) (joins.kept h.done h.kept)

-- nothing more was kept
kept_clean : {old now : Option (List ℕ)} {was is : List ℕ} {begun : Bool} → Begun old now was begun → IsKept was is [] → IsClean is
kept_clean {is} h kept = IsClean_kept h.done is h.clean (kept h.done h.kept ∙ ap (take 101) (append-nil h.done))

pub IsLineRead_end : (old now new : Option (List ℕ)) (was is : List ℕ) (begun : Bool) → Begun old now was begun → IsRead now new was is End → IsLineRead old new is begun
IsLineRead_end None now new was is begun h (joins, none) = record { clean = kept_clean h joins.kept; bytes = tt; there = tt; rest = tt }
IsLineRead_end (Some xs) None new was is begun h (joins, none) = absurd h.consumed
IsLineRead_end (Some xs) (Some ys) None was is begun h (joins, none) = absurd joins.consumed
IsLineRead_end (Some xs) (Some ys) (Some zs) was is begun h (joins, none) =
    let all : xs ≡ h.done = h.consumed ∙ ap (λ l. h.done ++ l) none ∙ append-nil h.done in
    record {
      clean = kept_clean h joins.kept;
      bytes = joins.kept h.done h.kept ∙ ap (take 101) (append-nil h.done ∙ sym (ap line_of all ∙ line_of-none h.done h.clean));
      there = h.some ∙ ap (λ l. nat_lt 0 (length l)) (sym all);
      rest = ap Some (sym joins.consumed ∙ none ∙ sym (ap (drop_through 10) (h.consumed ∙ ap (λ l. h.done ++ l) none) ∙ drop_through-append 10 h.done [] h.clean));
    }
