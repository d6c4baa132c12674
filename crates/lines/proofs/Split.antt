-- A text of digits and what follows them splits in one way.
use Rattle.std.proofs.Common.{◌≡◌, ℕ, ◌+◌, ◌<◌, ◌≤◌, true, ◌⊎◌, List, [], ◌∷◌, ◌++◌, length, get_or, take, drop, Ok, Err, Result, sym, refl, ap, ◌∙◌, subst, inl, inr, arith, take-append-drop, length-append, append_assoc}
use Rattle.std.proofs.lemmas.Bool.{and_parts, both_ways}
use Rattle.std.proofs.lemmas.List.{drop_more, drop_all}
use Rattle.forms.specs.declared.refusal.Refusal.{Refusal}
use Rattle.lines.specs.declared.command.Command.{Command}
use Rattle.std.specs.Char.{is_ascii_digit}
use Rattle.std.specs.Str.{all_ascii_digits}
use Rattle.lines.specs.Decimals.{IsDecimal, read_on, NoDigit}
use Rattle.lines.specs.Grammar.{WritesNumbers, AreThreeBytes, Says, Asks, IsCommandResult}
use Rattle.lines.specs.Fields.{Begins}

pub one_split : (a b r s : List ℕ) → all_ascii_digits a ≡ true → all_ascii_digits b ≡ true → NoDigit r → NoDigit s → a ++ r ≡ b ++ s → (a ≡ b) × (r ≡ s)
one_split [] [] r s da db nr ns e = (refl, e)
one_split [] (y ∷ ys) r s da db nr ns e =
    let no : NoDigit (y ∷ ys ++ s) = subst NoDigit e nr in
    absurd (both_ways (is_ascii_digit y) no (and_parts _ _ db).0)
one_split (x ∷ xs) [] r s da db nr ns e =
    let no : NoDigit (x ∷ xs ++ r) = subst NoDigit (sym e) ns in
    absurd (both_ways (is_ascii_digit x) no (and_parts _ _ da).0)
one_split (x ∷ xs) (y ∷ ys) r s da db nr ns e =
    let head : x ≡ y = cc in
    let tail : xs ++ r ≡ ys ++ s = cc in
    let h = one_split xs ys r s (and_parts (is_ascii_digit x) _ da).1 (and_parts (is_ascii_digit y) _ db).1 nr ns tail in
    (cc h.0, h.1)

-- the first number of a text is one
pub Begins_once : (text : List ℕ) (n m : ℕ) (r s : List ℕ) → Begins text n r → Begins text m s → (n ≡ m) × (r ≡ s)
Begins_once text n m r s (a, ea, da, nr) (b, eb, db, ns) =
    let e : a ++ r ≡ b ++ s = cc in
    let h = one_split a b r s da.0 db.0 nr ns e in
    (da.2 ∙ ap (read_on 0) h.0 ∙ sym db.2, h.1)

-- numbers do not go on with a digit
pub WritesNumbers_stop : (text : List ℕ) (ns : List ℕ) → WritesNumbers text ns → NoDigit text
WritesNumbers_stop text [] e = subst NoDigit (sym e) tt
WritesNumbers_stop text (n ∷ ns) (digits, rest, e, d, more) = subst NoDigit (sym e) refl

-- the numbers of a text are its first number and those of the rest
pub WritesNumbers_begin : (text : List ℕ) (n : ℕ) (ns : List ℕ) → WritesNumbers text (n ∷ ns) → (rest : List ℕ) × Begins text n rest × WritesNumbers rest ns
WritesNumbers_begin text n ns (digits, rest, e, d, more) = (rest, (digits, e, d, WritesNumbers_stop rest ns more), more)

pub WritesNumbers_from : (text : List ℕ) (n : ℕ) (rest ns : List ℕ) → Begins text n rest → WritesNumbers rest ns → WritesNumbers text (n ∷ ns)
WritesNumbers_from text n rest ns (digits, e, d, stop) more = (digits, rest, e, d, more)

-- what follows the first number has the numbers that follow it
pub WritesNumbers_follow : (text : List ℕ) (n m : ℕ) (rest ns : List ℕ) → Begins text n rest → WritesNumbers text (m ∷ ns) → (n ≡ m) × WritesNumbers rest ns
WritesNumbers_follow text n m rest ns first all =
    let h = WritesNumbers_begin text m ns all in
    let same = Begins_once text n m rest h.0 first h.1 in
    (same.0, subst (λ (r : List ℕ). WritesNumbers r ns) (sym same.1) h.2)

pub none_or_more : (text : List ℕ) (n : ℕ) (ns : List ℕ) → text ≡ [] → WritesNumbers text (n ∷ ns) → ⊥
none_or_more text n ns none (digits, rest, e, d, more) =
    let z : ◌≡◌ {A = ℕ} 0 (length (32 ∷ digits ++ rest)) = ap length (sym none ∙ e) in omega arith

-- what the code finds behind a space: `end` digits
module _ (text rest : List ℕ) (end : ℕ) (space : text ≡ 32 ∷ rest) (digits : all_ascii_digits (take end rest) ≡ true) (stop : NoDigit (drop end rest)) where
  -- the only digits that can stand there
  pub only : (n : ℕ) (r : List ℕ) → Begins text n r → IsDecimal (take end rest) n
  only n r (ds, e, d, nr) =
      let same : ds ++ r ≡ take end rest ++ drop end rest = let t = take-append-drop end rest in cc in
      subst (λ (t : List ℕ). IsDecimal t n) (one_split ds (take end rest) r (drop end rest) d.0 digits nr stop same).0 d

-- a text is some numbers and then the rest: what follows them in the one follows in the other
pub record Continues (text taken rest : List ℕ) : Type 0 where
  pub whole : (ns : List ℕ) → WritesNumbers rest ns → WritesNumbers text (taken ++ ns)
  pub left : (ns : List ℕ) → WritesNumbers text ns → length taken ≤ length ns → WritesNumbers rest (drop (length taken) ns)

pub Continues_none : (text : List ℕ) → Continues text [] text
Continues_none text = record { whole = λ ns w. w; left = λ ns w h. w }

pub Continues_more : (text taken rest after : List ℕ) (n : ℕ) → Continues text taken rest → Begins rest n after → Continues text (taken ++ n ∷ []) after
Continues_more text taken rest after n on first = record {
  whole = λ ns w. subst (WritesNumbers text) (sym (append_assoc taken (n ∷ []) ns)) (on.whole (n ∷ ns) (WritesNumbers_from rest n after ns first w));
  left = λ ns w h.
      let long : length (taken ++ n ∷ []) ≡ length taken + 1 = length-append taken (n ∷ []) in
      let there : length taken < length ns = omega (arith, long) in
      let split = drop_more ns (length taken) 0 there in
      let behind = subst (WritesNumbers rest) split (on.left ns w (omega arith)) in
      subst (λ (k : ℕ). WritesNumbers after (drop k ns)) (sym long) (WritesNumbers_follow rest n (get_or ns (length taken) 0) after (drop (length taken + 1) ns) first behind).1;
}

-- where no number follows, there are no more
pub Continues_stop : (text taken rest : List ℕ) (count : ℕ) → Continues text taken rest → length taken < count → ((n : ℕ) (after : List ℕ) → Begins rest n after → ⊥)
    → (ns : List ℕ) → length ns ≡ count → WritesNumbers text ns → ⊥
Continues_stop text taken rest count on more none ns long w =
    let there : length taken < length ns = omega arith in
    let split = drop_more ns (length taken) 0 there in
    let h = WritesNumbers_begin rest (get_or ns (length taken) 0) (drop (length taken + 1) ns) (subst (WritesNumbers rest) split (on.left ns w (omega arith))) in
    none (get_or ns (length taken) 0) h.0 h.1

-- where something follows that many numbers, they are not all
pub Continues_past : (text taken rest : List ℕ) → Continues text taken rest → (rest ≡ [] → ⊥) → (ns : List ℕ) → length ns ≡ length taken → WritesNumbers text ns → ⊥
Continues_past text taken rest on more ns long w = more (subst (WritesNumbers rest) (drop_all (length taken) ns (omega arith)) (on.left ns w (omega arith)))

-- a line has at most one list of numbers
pub WritesNumbers_once : (text : List ℕ) (ns ms : List ℕ) → WritesNumbers text ns → WritesNumbers text ms → ns ≡ ms
WritesNumbers_once text [] [] p q = refl
WritesNumbers_once text [] (m ∷ ms) p q = absurd (none_or_more text m ms p q)
WritesNumbers_once text (n ∷ ns) [] p q = absurd (none_or_more text n ns q p)
WritesNumbers_once text (n ∷ ns) (m ∷ ms) p q =
    let h = WritesNumbers_begin text n ns p in
    let k = WritesNumbers_follow text n m h.0 ms h.1 q in
    let t = WritesNumbers_once h.0 ns ms h.2 k.1 in
    cc (k.0, t)

-- three numbers of which one is no byte
pub no_bytes : (text ns : List ℕ) → WritesNumbers text ns → (256 ≤ get_or ns 0 0) ⊎ ((256 ≤ get_or ns 1 0) ⊎ (256 ≤ get_or ns 2 0))
    → (x a b : ℕ) → WritesNumbers text (x ∷ a ∷ b ∷ []) → AreThreeBytes x a b → ⊥
no_bytes text ns written large x a b all bytes =
    let same : ns ≡ x ∷ a ∷ b ∷ [] = WritesNumbers_once text ns (x ∷ a ∷ b ∷ []) written all in
    let first = ap (λ (l : List ℕ). get_or l 0 0) same in
    let second = ap (λ (l : List ℕ). get_or l 1 0) same in
    let third = ap (λ (l : List ℕ). get_or l 2 0) same in
    elim large [ inl h ↦ omega (arith, first) | inr g ↦ elim g [ inl h ↦ omega (arith, second) | inr h ↦ omega (arith, third) ] ]

pub empty : (text : List ℕ) → length text < 1 → text ≡ []
empty [] h = refl
empty (x ∷ xs) h = absurd (omega arith)

-- a line of a letter and a rest asks what these say
pub understood_line : (line : List ℕ) (letter : ℕ) (rest : List ℕ) (r : Result Command Refusal) → line ≡ letter ∷ rest → length line ≤ 100
    → IsCommandResult (Says letter rest) r → IsCommandResult (Asks line) r
understood_line line letter rest (Ok c) e short says = subst (λ (l : List ℕ). Asks l c) (sym e) (subst (λ (l : List ℕ). length l ≤ 100) e short, says)
understood_line line letter rest (Err d) e short says = (says.0, λ c asks. says.1 c (subst (λ (l : List ℕ). Asks l c) e asks).1)

pub too_long : (line : List ℕ) → 100 < length line → (c : Command) → Asks line c → ⊥
too_long [] long c asks = asks
too_long (x ∷ xs) long c asks = omega (arith, asks.0)

pub nothing_asked : (line : List ℕ) → length line < 1 → (c : Command) → Asks line c → ⊥
nothing_asked [] none c asks = asks
nothing_asked (x ∷ xs) none c asks = omega arith
