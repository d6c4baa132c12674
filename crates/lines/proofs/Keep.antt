-- The first bytes of a line are enough.
use Rattle.std.proofs.Common.{◌≡◌, ℕ, ◌+◌, ◌-◌, ◌≤◌, min, Bool, true, false, cond, List, [], ◌∷◌, ◌++◌, length, take, is_ok, IfOk, Ok, Err, Result, sym, ap, ◌∙◌, subst, inl, inr, append-nil, arith, length-take}
use lib.Seq.{take-append-le, take-append-add}
use Rattle.std.proofs.lemmas.List.{take_all}
use Rattle.std.proofs.lemmas.Bool.{cases_lt}
use Rattle.lines.specs.declared.command.Command.{Command}
use Rattle.lines.specs.Grammar.{Asks}
use Rattle.lines.specs.Kept.{KeptTells}
use Rattle.lines.specs.Pieces.{IsKept}

Asks_short : (line : List ℕ) (c : Command) → Asks line c → length line ≤ 100
Asks_short [] c asks = absurd asks
Asks_short (x ∷ xs) c asks = asks.0

pub kept_tells : KeptTells
kept_tells line c = (
  λ asks. let short = Asks_short (take 101 line) c asks in
      let long : length (take 101 line) ≡ min 101 (length line) = length-take 101 line in
      let h : length line ≤ 101 = omega (arith, long) in
      subst (λ (l : List ℕ). Asks l c) (take_all 101 line h) asks,
  λ asks. let short = Asks_short line c asks in
      subst (λ (l : List ℕ). Asks l c) (sym (take_all 101 line (omega arith))) asks,
)

take_min : (n : ℕ) (xs : List ℕ) → take (min n (length xs)) xs ≡ take n xs
take_min n xs = elim (cases_lt n (length xs)) [
  | inl less ↦ ap (λ (k : ℕ). take k xs) (let e : min n (length xs) ≡ n = omega arith in e)
  | inr more ↦ ap (λ (k : ℕ). take k xs) (let e : min n (length xs) ≡ length xs = omega arith in e) ∙ take_all (length xs) xs (omega arith) ∙ sym (take_all n xs more)
]

-- what is kept of a line, and one piece more
pub keeps : (items before piece : List ℕ) (n : ℕ) → items ≡ take 101 before → n ≡ min (101 - length items) (length piece)
    → items ++ take n piece ≡ take 101 (before ++ piece)
keeps items before piece n e en =
    let len : length items ≡ min 101 (length before) = ap length e ∙ length-take 101 before in
    elim (cases_lt (length before) 101) [
      | inl short ↦
          (let whole : items ≡ before = e ∙ take_all 101 before (omega arith) in
          let k : length before + (101 - length before) ≡ 101 = omega arith in
          ap (λ (j : ℕ). items ++ take j piece) en ∙ ap (λ (r : List ℕ). items ++ r) (take_min (101 - length items) piece)
          ∙ ap (λ (l : List ℕ). l ++ take (101 - length l) piece) whole ∙ sym (take-append-add before piece (101 - length before)) ∙ ap (λ (j : ℕ). take j (before ++ piece)) k)
      | inr long ↦
          (let z : n ≡ 0 = omega (arith, len, en) in
          ap (λ (j : ℕ). items ++ take j piece) z ∙ append-nil items ∙ e ∙ sym (take-append-le 101 before piece long))
    ]

-- a list that a call adds to where it succeeds
pub added : {E : Type 0} (r : Result Unit E) (was more part items : List ℕ) → items ≡ cond (is_ok r) (was ++ more) was → IsKept was (was ++ more) part → IfOk r (λ _. IsKept was items part)
added (Ok x) was more part items e keeps = λ before h. e ∙ keeps before h
added (Err d) was more part items e keeps = tt

pub still_short : (b : Bool) (n was more : ℕ) → n ≡ cond b (was + more) was → was + more ≤ 101 → n ≤ 101
still_short true n was more e h = omega arith
still_short false n was more e h = omega arith
