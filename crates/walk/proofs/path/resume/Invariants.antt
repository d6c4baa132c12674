use Rattle.std.proofs.Common.{◌≡◌, reverse}
use Rattle.arrayvec.specs.ArrayVec.{array_vec_len}
use Rattle.tableau.specs.Walk.{resume}
use Rattle.walk.proofs.path.resume.Given as goal

-- nothing waits beside the frames left behind
abbrev pub invariant-loop-frame : goal.invariant-loop-frame
invariant-loop-frame l = resume (reverse l.initial.path.items) ≡ resume (reverse l.path.items)

abbrev pub decreases-loop-frame : goal.decreases-loop-frame
decreases-loop-frame l = array_vec_len l.path
