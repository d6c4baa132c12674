-- What `any` and `all` answer over the numbers below n.
use Rattle.std.proofs.Common.{◌≡◌, ℕ, zero, suc, ◌<◌, Bool, true, false, length, get_or, refl, sym, ⊎_elim, arith}
use Rattle.std.specs.Bool.{MatchBool}
use Rattle.std.specs.List.{range_with_len, AllWithin, HoldsAt}
use Rattle.std.proofs.lemmas.Bool.{or_from, both_ways, cases_Bool}
use Rattle.std.proofs.lemmas.List.FromFn.{length-range_with_len, get_or-range_with_len}
use Rattle.ctl.specs.Search.{some, every}
use Rattle.ctl.proofs.Search.{some_from, every_from, every_at}

some_none : (n : ℕ) (test : ℕ → Bool) → ((i : ℕ) → i < n → test i ≡ false) → some n test ≡ false
unfolding some
some_none zero test f = refl
some_none (suc n) test f = or_from (test n) (some n test) (f n (omega arith)) (some_none n test (λ i h. f i (omega arith)))

every_fails : (n : ℕ) (test : ℕ → Bool) (i : ℕ) → i < n → test i ≡ false → every n test ≡ false
every_fails n test i h e = ⊎_elim (λ all. absurd (both_ways (test i) e (every_at n test all i h))) (λ f. f) (cases_Bool (every n test))

module _ (n : ℕ) (test : ℕ → Bool) where
  abbrev pub Passes : Bool → ℕ → Type 0
  Passes b t = t < n → test t ≡ b

  at : (b : Bool) (k : ℕ) → k < length (range_with_len 0 n) → Passes b (get_or (range_with_len 0 n) k 0) → (k < n) × (test k ≡ b)
  at b k h p =
      let below : k < n = omega (arith, length-range_with_len 0 n) in
      let same : get_or (range_with_len 0 n) k 0 ≡ k = omega (arith, get_or-range_with_len 0 n k 0 below) in
      (below, (rw same at p) below)

  pub any_below : (r : Bool) → MatchBool r ((k : ℕ) × (k < length (range_with_len 0 n)) × HoldsAt (Passes true) (range_with_len 0 n) k) (AllWithin (Passes false) (range_with_len 0 n) 0 (length (range_with_len 0 n)))
      → r ≡ some n test
  any_below true told = let f = at true told.0 told.1 (told.2 0) in sym (some_from n test told.0 f.0 f.1)
  any_below false told =
      sym (some_none n test (λ k h. (at false k (omega (arith, length-range_with_len 0 n)) (told k 0 (omega arith) (omega (arith, length-range_with_len 0 n)))).1))

  pub all_below : (r : Bool) → MatchBool r (AllWithin (Passes true) (range_with_len 0 n) 0 (length (range_with_len 0 n))) ((k : ℕ) × (k < length (range_with_len 0 n)) × HoldsAt (Passes false) (range_with_len 0 n) k)
      → r ≡ every n test
  all_below true told =
      sym (every_from n test (λ k h. (at true k (omega (arith, length-range_with_len 0 n)) (told k 0 (omega arith) (omega (arith, length-range_with_len 0 n)))).1))
  all_below false told = let f = at false told.0 told.1 (told.2 0) in sym (every_fails n test told.0 f.0 f.1)
