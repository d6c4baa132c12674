use Rattle.std.proofs.Common.{◌≡◌, false}
use Rattle.ctl.specs.Rounds.{start}
use Rattle.fixpoint.specs.Sets.{overlay}
use Rattle.fixpoint.proofs.search.fill_pair.Given as goal

abbrev pub invariant-loop-i : goal.invariant-loop-i
invariant-loop-i g l =
    let s = g.S.SetPair in
    let made = g.R.PairRound.step l.round (s.given (s.rest l.initial.sets)) (start false) in
    record {
      filled : s.current l.sets ≡ overlay l.i made (s.current l.initial.sets);
      next : s.next l.sets ≡ s.next l.initial.sets;
      room : s.room l.sets ≡ s.room l.initial.sets;
      rest : s.rest l.sets ≡ s.rest l.initial.sets;
    }
