-- A reply line tells its word and its numbers.
use Rattle.std.proofs.Common.{◌≡◌, ℕ, ◌^◌, ◌<◌, List, [], ◌∷◌, ◌++◌, codes, decimal, Ok, Err, Result, IfOk, sym, refl, ap, ◌∙◌, append_assoc, append-nil, arith}
use Rattle.std.proofs.lemmas.Fmt.{digits_decimal, digits_value-decimal, decimal_nonempty, decimal_injective}
use Rattle.lines.specs.declared.reply.Reply.{Reply}
use Rattle.lines.specs.declared.reply.Reply.TheVariants.{Number, Numbers, Refused, RefusedAt}
use Rattle.lines.specs.Decimals.{IsDecimal, NoDigit}
use Rattle.lines.specs.Grammar.{WritesNumbers}
use Rattle.lines.specs.Replies.{word, numbers, spaced_numbers, reply_line, reply_text, AreWide, LineDeterminesReply, ReadsBack}
use Rattle.lines.proofs.Digits.{own}
use Rattle.lines.proofs.Split.{one_split}

-- a number is written as a line may write it
pub IsDecimal-decimal : (n : ℕ) → n < 2 ^ 64 → IsDecimal (decimal n) n
IsDecimal-decimal n fits = (digits_decimal own n fits, decimal_nonempty n fits, sym (digits_value-decimal own n fits), fits)

pub WritesNumbers-spaced_numbers : (ns : List ℕ) → AreWide ns → WritesNumbers (spaced_numbers ns) ns
WritesNumbers-spaced_numbers [] w = refl
WritesNumbers-spaced_numbers (n ∷ ns) w = (decimal n, spaced_numbers ns, refl, IsDecimal-decimal n w.0, WritesNumbers-spaced_numbers ns w.1)

pub reads_back : ReadsBack
reads_back reply w = WritesNumbers-spaced_numbers (numbers reply) w

-- what follows numbers on a line is no digit
after_number : (ns : List ℕ) → NoDigit (spaced_numbers ns ++ codes "\n")
after_number [] = refl
after_number (n ∷ ns) = refl

same_numbers : (ns ms : List ℕ) → AreWide ns → AreWide ms → spaced_numbers ns ++ codes "\n" ≡ spaced_numbers ms ++ codes "\n" → ns ≡ ms
same_numbers [] [] v w e = refl
same_numbers [] (m ∷ ms) v w e = let z : ◌≡◌ {A = ℕ} 10 32 = cc in absurd (omega arith)
same_numbers (n ∷ ns) [] v w e = let z : ◌≡◌ {A = ℕ} 32 10 = cc in absurd (omega arith)
same_numbers (n ∷ ns) (m ∷ ms) v w e =
    let tails : (decimal n ++ spaced_numbers ns) ++ codes "\n" ≡ (decimal m ++ spaced_numbers ms) ++ codes "\n" = cc in
    let split : decimal n ++ (spaced_numbers ns ++ codes "\n") ≡ decimal m ++ (spaced_numbers ms ++ codes "\n") =
    sym (append_assoc (decimal n) (spaced_numbers ns) (codes "\n")) ∙ tails ∙ append_assoc (decimal m) (spaced_numbers ms) (codes "\n") in
    let h =
    one_split (decimal n) (decimal m) (spaced_numbers ns ++ codes "\n") (spaced_numbers ms ++ codes "\n") (digits_decimal own n v.0) (digits_decimal own m w.0) (after_number ns) (after_number ms)
    split in
    cc (decimal_injective n m v.0 w.0 h.0, same_numbers ns ms v.1 w.1 h.1)

-- a word is one of two, of two letters each
data Word : List ℕ → Type 0 where
  ok : Word (codes "ok")
  no : Word (codes "no")

word_of : (reply : Reply) → Word (word reply)
word_of (Number n) = ok
word_of (Numbers n m) = ok
word_of (Refused refusal) = no
word_of (RefusedAt refusal part place) = no

same_word : (a b : List ℕ) → Word a → Word b → (r s : List ℕ) → a ++ r ≡ b ++ s → (a ≡ b) × (r ≡ s)
same_word a b ok ok r s e = (refl, cc)
same_word a b no no r s e = (refl, cc)
same_word a b ok no r s e = let z : ◌≡◌ {A = ℕ} 111 110 = cc in absurd (omega arith)
same_word a b no ok r s e = let z : ◌≡◌ {A = ℕ} 110 111 = cc in absurd (omega arith)

pub line_determines_reply : LineDeterminesReply
line_determines_reply r s v w e =
    let h = same_word (word r) (word s) (word_of r) (word_of s) (spaced_numbers (numbers r) ++ codes "\n") (spaced_numbers (numbers s) ++ codes "\n") e in
    (h.0, same_numbers (numbers r) (numbers s) v w h.1)

-- what a format writes, and a line feed, is the line
pub reply_text-reply_line : (reply : Reply) → reply_text reply ++ codes "\n" ≡ reply_line reply
reply_text-reply_line (Number n) = simp (append_assoc, append-nil)
reply_text-reply_line (Numbers n m) = simp (append_assoc, append-nil)
reply_text-reply_line (Refused refusal) = simp (append_assoc, append-nil)
reply_text-reply_line (RefusedAt refusal part place) = simp (append_assoc, append-nil)

-- a line to which a reply was written, where nothing stood before
pub written : {E : Type 0} (r : Result Unit E) (before after : List ℕ) (reply : Reply) → IfOk r (λ _. after ≡ before ++ (reply_text reply ++ codes "\n")) → before ≡ [] → IfOk r (λ _. after ≡ reply_line reply)
written (Ok x) before after reply e none = e ∙ ap (λ (l : List ℕ). l ++ (reply_text reply ++ codes "\n")) none ∙ reply_text-reply_line reply
written (Err d) before after reply e none = tt
