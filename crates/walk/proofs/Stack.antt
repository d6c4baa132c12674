-- How many second children wait on a path.
use Rattle.std.proofs.Common.{◌≡◌, ◌+◌, ◌≤◌, List, [], ◌∷◌, ◌++◌, reverse, length, cond, is_some, refl, ap, ◌∙◌, arith}
use Rattle.std.specs.List.{sum_by}
use Rattle.std.proofs.lemmas.List.{reverse-append}
use Rattle.std.proofs.lemmas.List.Sums.{count_by-le-length}
use Rattle.std.proofs.lemmas.List.Recursion.{is_count_by}
use Rattle.tableau.specs.declared.goals.Frame.{Frame}
use Rattle.tableau.specs.Walk.{seconds}

-- a frame more at the root's end
one_more : (frames : List Frame) (x : Frame) → length (seconds (frames ++ x ∷ [])) ≡ cond (is_some x.second) (1 + length (seconds frames)) (length (seconds frames))
one_more [] x = grind arith
one_more (y ∷ frames) x = grind (arith, one_more frames x)

pub count_waiting : (path : List Frame) → length (seconds (reverse path)) ≡ sum_by (λ frame. cond (is_some frame.second) 1 0) path
count_waiting = is_count_by (λ path. length (seconds (reverse path))) _ refl (λ x path. ap (λ p. length (seconds p)) (reverse-append (x ∷ []) path) ∙ one_more (reverse path) x)

-- at most all frames
pub few_wait : (path : List Frame) → length (seconds (reverse path)) ≤ length path
few_wait path = omega (arith, count_waiting path, count_by-le-length (λ (frame : Frame). is_some frame.second) path)
