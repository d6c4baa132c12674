-- The book: lines that join at its end, lines that go, and how a set stands.
use Rattle.std.proofs.Common.{◌≡◌, ℕ, zero, suc, ◌≤◌, Bool, true, false, cond, eqb, ◌⊎◌, [], ◌∷◌, ◌++◌, length, Some, None, sym, refl, ap, ◌∙◌, subst, inl, inr, arith}
use Rattle.std.specs.Option.{option_map}
use Rattle.std.specs.List.{find}
use Rattle.std.proofs.lemmas.Bool.{eqb-true, eqb-false, eq-eqb, ne_eqb}
use Rattle.protocol.specs.declared.line.Standing.{Standing}
use Rattle.protocol.specs.declared.line.Line.{Line}
use Rattle.protocol.specs.State.{Book, standing, without}
use Rattle.protocol.specs.Promises.{LineAt, first, later, InBook}
use Rattle.protocol.specs.Invariant.{AllLines, HasNoSetTwice}

-- the first line of a set stands for it
pub chosen : (line : Line) (book : Book) (set : ℕ) → standing (line ∷ book) set ≡ cond (eqb line.set set) (Some line.standing) (standing book set)
chosen line book set = by_cases (eqb line.set set)
  where
    by_cases : (b : Bool) → option_map (λ (l : Line). l.standing) (cond b (Some line) (find (λ (l : Line). eqb l.set set) book)) ≡ cond b (Some line.standing) (standing book set)
    by_cases true = refl
    by_cases false = refl

some_not_none : (how : Standing) → Some how ≡ None → ⊥
some_not_none how e = let z : ◌≡◌ {A = ℕ} 0 1 = cc in omega arith

some_same : (a b : Standing) → Some a ≡ Some b → a ≡ b
some_same a b e = cc

module _ (P : Line → Type 0) where
  pub all_push : (book : Book) (line : Line) → AllLines P book → P line → AllLines P (book ++ line ∷ [])
  all_push [] line h p = (p, tt)
  all_push (x ∷ book) line h p = (h.0, all_push book line h.1 p)

  pub all_without : (n : ℕ) (book : Book) → AllLines P book → AllLines P (without n book)
  all_without zero [] h = tt
  all_without (suc n) [] h = tt
  all_without zero (x ∷ book) h = h.1
  all_without (suc n) (x ∷ book) h = (h.0, all_without n book h.1)

  -- how a set stands is what one of the lines says
  pub AllLines-standing : (book : Book) (set : ℕ) (how : Standing) → AllLines P book → standing book set ≡ Some how → P (record { set = set; standing = how })
  AllLines-standing [] set how h e = absurd (some_not_none how (sym e))
  AllLines-standing (x ∷ book) set how h e = by_cases (eqb x.set set) refl (sym (chosen x book set) ∙ e) (λ k. AllLines-standing book set how h.1 k)
    where
      by_cases : (b : Bool) → eqb x.set set ≡ b → cond b (Some x.standing) (standing book set) ≡ Some how → (standing book set ≡ Some how → P (record { set = set; standing = how }))
          → P (record { set = set; standing = how })
      by_cases true b k below = subst P (λ i. record { set = eqb-true x.set set b i; standing = some_same x.standing how k i }) h.0
      by_cases false b k below = below k

pub AllLines_map : (P Q : Line → Type 0) → ((line : Line) → P line → Q line) → (book : Book) → AllLines P book → AllLines Q book
AllLines_map P Q f [] h = tt
AllLines_map P Q f (line ∷ book) h = (f line h.0, AllLines_map P Q f book h.1)

pub standing_pushed : (book : Book) (set : ℕ) (how : Standing) → standing book set ≡ None → standing (book ++ record { set = set; standing = how } ∷ []) set ≡ Some how
standing_pushed [] set how e = chosen _ [] set ∙ ap (λ b. cond b (Some how) None) (eq-eqb set set refl)
standing_pushed (x ∷ book) set how e = chosen x _ set ∙ by_cases (eqb x.set set) (sym (chosen x book set) ∙ e) (λ k. standing_pushed book set how k)
  where
    by_cases : (b : Bool) → cond b (Some x.standing) (standing book set) ≡ None → (standing book set ≡ None → standing (book ++ record { set = set; standing = how } ∷ []) set ≡ Some how)
        → cond b (Some x.standing) (standing (book ++ record { set = set; standing = how } ∷ []) set) ≡ Some how
    by_cases true k below = absurd (some_not_none x.standing k)
    by_cases false k below = below k

other_none : (line : Line) (book : Book) (set : ℕ) → standing (line ∷ book) set ≡ None → (eqb line.set set ≡ false) × (standing book set ≡ None)
other_none line book set e = by_cases (eqb line.set set) (sym (chosen line book set) ∙ e)
  where
    by_cases : (b : Bool) → cond b (Some line.standing) (standing book set) ≡ None → (b ≡ false) × (standing book set ≡ None)
    by_cases true k = absurd (some_not_none line.standing k)
    by_cases false k = (refl, k)

skip : (line : Line) (book : Book) (set : ℕ) → eqb line.set set ≡ false → standing book set ≡ None → standing (line ∷ book) set ≡ None
skip line book set e k = chosen line book set ∙ ap (λ b. cond b (Some line.standing) (standing book set)) e ∙ k

none_push : (book : Book) (line : Line) (set : ℕ) → eqb line.set set ≡ false → standing book set ≡ None → standing (book ++ line ∷ []) set ≡ None
none_push [] line set e k = skip line [] set e refl
none_push (x ∷ book) line set e k = let p = other_none x book set k in skip x (book ++ line ∷ []) set p.0 (none_push book line set e p.1)

none_without : (n : ℕ) (book : Book) (set : ℕ) → standing book set ≡ None → standing (without n book) set ≡ None
none_without zero [] set k = refl
none_without (suc n) [] set k = refl
none_without zero (x ∷ book) set k = (other_none x book set k).1
none_without (suc n) (x ∷ book) set k = let p = other_none x book set k in skip x (without n book) set p.0 (none_without n book set p.1)

pub HasNoSetTwice_push : (book : Book) (line : Line) → HasNoSetTwice book → standing book line.set ≡ None → HasNoSetTwice (book ++ line ∷ [])
HasNoSetTwice_push [] line d k = (refl, tt)
HasNoSetTwice_push (x ∷ book) line d k =
    let p = other_none x book line.set k in
    (none_push book line x.set (ne_eqb line.set x.set (λ e. eqb-false x.set line.set p.0 (sym e))) d.0, HasNoSetTwice_push book line d.1 p.1)

pub HasNoSetTwice-without : (n : ℕ) (book : Book) → HasNoSetTwice book → HasNoSetTwice (without n book)
HasNoSetTwice-without zero [] d = tt
HasNoSetTwice-without (suc n) [] d = tt
HasNoSetTwice-without zero (x ∷ book) d = d.1
HasNoSetTwice-without (suc n) (x ∷ book) d = (none_without n book x.set d.0, HasNoSetTwice-without n book d.1)

pub length_without : (n : ℕ) (book : Book) → length (without n book) ≤ length book
length_without zero [] = omega arith
length_without (suc n) [] = omega arith
length_without zero (x ∷ book) = omega arith
length_without (suc n) (x ∷ book) = let l : length (without n book) ≤ length book = length_without n book in omega arith

LineAt-append : {line : Line} {n : ℕ} (book more : Book) → LineAt line n book → LineAt line n (book ++ more)
LineAt-append book more (first {book = rest}) = first
LineAt-append book more (later {book = rest} h) = later (LineAt-append rest more h)

pub InBook-append : (line : Line) (book more : Book) → InBook line book → InBook line (book ++ more)
InBook-append line book more h = (h.0, LineAt-append book more h.1)

-- a line is still there after another was struck
pub stays_or_struck : {line : Line} {n : ℕ} (k : ℕ) (book : Book) → LineAt line n book → InBook line (without k book) ⊎ LineAt line k book
stays_or_struck zero book first = inr first
stays_or_struck (suc k) book first = inl (zero, first)
stays_or_struck zero book (later {n = n} h) = inl (n, h)
stays_or_struck {line} (suc k) book (later {other = other} {book = rest} h) = by_cases (stays_or_struck k rest h)
  where
    by_cases : InBook line (without k rest) ⊎ LineAt line k rest → InBook line (other ∷ without k rest) ⊎ LineAt line (suc k) (other ∷ rest)
    by_cases (inl p) = inl (suc p.0, later p.1)
    by_cases (inr p) = inr (later p)
