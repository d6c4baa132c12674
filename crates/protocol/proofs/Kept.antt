-- The promises hold of every run.
use Rattle.std.proofs.Common.{List, [], ◌∷◌, subst}
use Rattle.tableau.proofs.Walking.{walk_keeps}
use Rattle.walk.specs.Progress.{present}
use Rattle.protocol.specs.declared.line.Standing.TheVariants.{Impossible, Possible}
use Rattle.protocol.specs.State.{State, made_state}
use Rattle.protocol.specs.Calls.{Call, state_after}
use Rattle.protocol.specs.Runs.{AllLawful, state_from, reached_state}
use Rattle.protocol.specs.Promises.{Promises}
use Rattle.protocol.specs.Invariant.{IsTrueLine, IsWalked, IsSound}
use Rattle.protocol.proofs.BookLines.{AllLines-standing}
use Rattle.protocol.proofs.Keeping.{IsSound-made_state, IsSound-state_after}
use Rattle.protocol.proofs.Brought.{table_is_brought}
use Rattle.protocol.proofs.Lines.{lines_stay}
use Rattle.protocol.proofs.Shown.{holding_possible, reply_possible}
use Rattle.protocol.proofs.Taken.{can_be_brought, taken_whole}

pub IsSound-state_from : (s : State) (calls : List Call) → AllLawful calls → IsSound s → IsSound (state_from s calls)
IsSound-state_from s [] l h = h
IsSound-state_from s (call ∷ calls) l h = IsSound-state_from (state_after s call) calls l.1 (IsSound-state_after s call l.0 h)

-- what is promised of any sound register, at the end of a run
pub promises : Promises
promises calls lawful =
    let s : State = reached_state calls in
    let h : IsSound s = IsSound-state_from made_state calls lawful IsSound-made_state in
    record {
      impossible_holds_nowhere = λ set e. (AllLines-standing (IsTrueLine s.table) s.book set Impossible h.lines e).1;
      possible_holds_somewhere = λ set e. (AllLines-standing (IsTrueLine s.table) s.book set Possible h.lines e).1;
      shown_is_possible = λ set t m marks scratch l a k. holding_possible s set t m marks scratch h l.1.total.serial a k;
      all_held_is_possible = λ set t m marks scratch rounds l e. reply_possible s set t m marks scratch h l.1.total.serial rounds e;
      lines_stay = λ call l line k. lines_stay line s call k;
      walk_tells = λ opened walk e m serial t k.
          let w : IsWalked s.table (present opened walk) = subst (IsWalked s.table) e h.walked in
          walk_keeps s.table h.lawful.0 m serial opened w.1.0 walk w.1.1 t k;
      table_is_brought = table_is_brought calls;
      refutation_can_be_brought = λ set tree r. can_be_brought s set tree r h.lawful.1;
      refutation_is_taken = λ set tree r absent free room nodes b. taken_whole s set tree r absent free room nodes b;
    }
