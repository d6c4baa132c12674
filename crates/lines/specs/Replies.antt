-- How replies are written: a word, the numbers after single spaces, a line feed.
use Rattle.std.specs.Prelude.{◌≡◌, ℕ, ◌^◌, ◌<◌, List, [], ◌∷◌, ◌++◌, codes, decimal, ⊤}
use Rattle.forms.specs.Refusals.{number_of}
use Rattle.lines.specs.Grammar.{WritesNumbers}
use Rattle.lines.specs.declared.reply.Reply.{Reply}
use Rattle.lines.specs.declared.reply.Reply.TheVariants.{Number, Numbers, Refused, RefusedAt}

abbrev pub word : Reply → List ℕ
word (Number _) = codes "ok"
word (Numbers _ _) = codes "ok"
word _ = codes "no"

abbrev pub numbers : Reply → List ℕ
numbers (Number n) = n ∷ []
numbers (Numbers n m) = n ∷ m ∷ []
numbers (Refused refusal) = number_of refusal ∷ []
numbers (RefusedAt refusal part place) = number_of refusal ∷ part ∷ place ∷ []

-- each number in decimal, with no leading zero, after a space
abbrev pub spaced_numbers : List ℕ → List ℕ
spaced_numbers [] = []
spaced_numbers (n ∷ ns) = codes " " ++ (decimal n ++ spaced_numbers ns)

-- the bytes of a reply line
abbrev pub reply_line : Reply → List ℕ
reply_line reply = word reply ++ (spaced_numbers (numbers reply) ++ codes "\n")

-- numbers of 64 bits
abbrev pub AreWide : List ℕ → Type 0
AreWide [] = ⊤
AreWide (n ∷ ns) = (n < 2 ^ 64) × AreWide ns

-- a line's numbers read back, by the grammar of lines, are the reply's numbers
abbrev pub ReadsBack : Type 0
ReadsBack = (reply : Reply) → AreWide (numbers reply) → WritesNumbers (spaced_numbers (numbers reply)) (numbers reply)

-- no two replies of different words or numbers have one line
abbrev pub LineDeterminesReply : Type 0
LineDeterminesReply = (r s : Reply) → AreWide (numbers r) → AreWide (numbers s) → reply_line r ≡ reply_line s → (word r ≡ word s) × (numbers r ≡ numbers s)

-- what a format writes of a reply, its line feed apart
abbrev pub reply_text : Reply → List ℕ
reply_text (Number n) = codes "ok " ++ decimal n
reply_text (Numbers n m) = codes "ok " ++ (decimal n ++ (codes " " ++ decimal m))
reply_text (Refused refusal) = codes "no " ++ decimal (number_of refusal)
reply_text (RefusedAt refusal part place) = codes "no " ++ (decimal (number_of refusal) ++ (codes " " ++ (decimal part ++ (codes " " ++ decimal place))))
