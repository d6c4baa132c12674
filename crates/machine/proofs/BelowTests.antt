-- Tests of the numbers below a bound: where one decides, and where two tests agree.
use Rattle.std.proofs.Common.{◌≡◌, ℕ, zero, suc, ◌<◌, ◌≤◌, Bool, false, ◌||◌, ◌&&◌, List, get_or, take, length, sym, refl, ap, ap₂, ⊎_elim, arith, add-one, ◌∙◌}
use Rattle.std.specs.List.{list_any, list_all}
use Rattle.std.proofs.lemmas.List.Folds.{list_any_more, list_all_more}
use Rattle.std.proofs.Math.Bool.{or_comm, and_comm}
use Rattle.std.proofs.lemmas.Bool.{both_ways, cases_Bool}
use Rattle.ctl.specs.Search.{some, every}
use Rattle.ctl.proofs.Search.{some_found, every_at}

pub every_not : (n : ℕ) (test : ℕ → Bool) (k : ℕ) → k < n → test k ≡ false → every n test ≡ false
every_not n test k h e =
    ⊎_elim (λ all. absurd (both_ways (test k) e (every_at n test all k h))) (λ not. not) (cases_Bool (every n test))

pub some_none : (n : ℕ) (test : ℕ → Bool) → ((k : ℕ) → k < n → test k ≡ false) → some n test ≡ false
some_none n test none =
    ⊎_elim
    (λ found. let f = some_found n test found in absurd (both_ways (test f.0) (none f.0 f.1.0) f.1.1))
    (λ not. not) (cases_Bool (some n test))

pub some_agrees : (n : ℕ) (test other : ℕ → Bool) → ((k : ℕ) → k < n → test k ≡ other k) → some n test ≡ some n other
unfolding some
some_agrees zero test other f = refl
some_agrees (suc n) test other f = ap₂ ◌||◌ (f n (omega arith)) (some_agrees n test other (λ k h. f k (omega arith)))

-- a test of the first elements of a list, by their places
module _ {X : Type 0} (test : X → Bool) (xs : List X) (d : X) where
  pub list_any-some : (n : ℕ) → n ≤ length xs → list_any test (take n xs) ≡ some n (λ k. test (get_or xs k d))
  unfolding some
  list_any-some zero h = refl
  list_any-some (suc n) h = let rest = list_any-some n (omega arith) in ap (λ (k : ℕ). list_any test (take k xs)) (sym (add-one n)) ∙ list_any_more test xs n d (omega arith) ∙ or_comm (list_any test (take n xs)) (test (get_or xs n d)) ∙ ap (λ b. test (get_or xs n d) || b) rest

  pub list_all-every : (n : ℕ) → n ≤ length xs → list_all test (take n xs) ≡ every n (λ k. test (get_or xs k d))
  unfolding every
  list_all-every zero h = refl
  list_all-every (suc n) h = let rest = list_all-every n (omega arith) in ap (λ (k : ℕ). list_all test (take k xs)) (sym (add-one n)) ∙ list_all_more test xs n d (omega arith) ∙ and_comm (list_all test (take n xs)) (test (get_or xs n d)) ∙ ap (λ b. test (get_or xs n d) && b) rest
