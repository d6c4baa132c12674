-- Chunks of a list, by their places.
use Rattle.std.proofs.Common.{◌≡◌, ℕ, zero, suc, ◌+◌, ◌*◌, ◌<◌, ◌≤◌, List, [], ◌∷◌, length, get_or, take, drop, refl, ap, ◌∙◌, arith, mul-zero}
use Rattle.std.specs.Simd.{first_chunks}
use Rattle.std.proofs.Math.Nat.{mul-suc}
use Rattle.std.proofs.lemmas.List.{drop-drop, get_or-take, get_or-drop}

pub length-first_chunks : {X : Type 0} (n k : ℕ) (xs : List X) → length (first_chunks n k xs) ≡ k
length-first_chunks n zero xs = refl
length-first_chunks n (suc k) xs = ap suc (length-first_chunks n k (drop n xs))

pub take-first_chunks : {X : Type 0} (n k m : ℕ) (xs : List X) → k ≤ m → take k (first_chunks n m xs) ≡ first_chunks n k xs
take-first_chunks n zero m xs h = refl
take-first_chunks n (suc k) zero xs h = absurd (omega arith)
take-first_chunks n (suc k) (suc m) xs h = ap (λ (rest : List (List _)). take n xs ∷ rest) (take-first_chunks n k m (drop n xs) (omega arith))

pub first_chunks_at : {X : Type 0} (n k : ℕ) (xs : List X) (i : ℕ) (d : List X) → i < k → get_or (first_chunks n k xs) i d ≡ take n (drop (n * i) xs)
first_chunks_at n zero xs i d h = absurd (omega arith)
first_chunks_at n (suc k) xs zero d h = rw mul-zero refl
first_chunks_at n (suc k) xs (suc i) d h =
    first_chunks_at n k (drop n xs) i d (omega arith) ∙ ap (take n) (drop-drop (n * i) n xs)
    ∙ ap (λ (j : ℕ). take n (drop j xs)) (let e : n + n * i ≡ n * suc i = omega (arith, mul-suc n i) in e)

-- a byte of a chunk, in the whole
pub get_or-chunk : (n k a : ℕ) (xs : List ℕ) (i j p : ℕ) → i < k → j < n → a + n * i + j ≡ p → get_or (get_or (first_chunks n k (drop a xs)) i []) j 0 ≡ get_or xs p 0
get_or-chunk n k a xs i j p below within place =
    ap (λ (l : List ℕ). get_or l j 0) (first_chunks_at n k (drop a xs) i [] below ∙ ap (take n) (drop-drop (n * i) a xs))
    ∙ get_or-take n (drop (a + n * i) xs) j 0 within
    ∙ get_or-drop (a + n * i) xs j 0
    ∙ ap (λ (q : ℕ). get_or xs q 0) place
