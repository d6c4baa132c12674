use Rattle.std.proofs.Common.{◌≡◌, ◌<◌, List, [], ◌∷◌, length, get_or, Err, Result, sym, refl, ap, ◌∙◌, subst, arith, rules}
use lib.Bits.{bit_and}
use Rattle.std.proofs.lemmas.Result.{err_from_is_err_and}
use Rattle.forms.specs.declared.refusal.Refusal.{Refusal}
use Rattle.protocol.specs.declared.line.Line.{Line}
use Rattle.protocol.specs.State.{with_book}
use Rattle.protocol.specs.Calls.{ok, show, held_part, state_after_show, state_after, answer_of, state_of}
use Rattle.protocol.proofs.Marks.{held_tells}
use Rattle.register.specs.Books.{lines_after_note}
use Rattle.register.specs.declared.showing.Shown.{Shown}
use Rattle.register.specs.Shows.{shown_answer, Buffers}
use Rattle.register.proofs.Kept.{seen, kept_by}
use Rattle.register.proofs.ShowOutcome.{show_refused, show_taken, state_below, has_room_for, with_book-lines_after_note}
use Rattle.register.proofs.register.Register.show.Goals as goal
use Rattle.register.proofs.register.Register.show.Goals.{After-note}

pub returns-in_err-showable : goal.returns-in_err-showable
returns-in_err-showable g c =
    let s = c.args.self.now in
    let m = g.M.Machine.model c.args.machine.now in
    let marks = c.args.marks.now in
    let scratch = c.args.scratch.now in
    let p = err_from_is_err_and c.from_residual.result c.from_residual.ensures.1 in
    let why = c.in_err-showable.field-0.0 in
    let outcome = show_refused s c.args.set c.args.state m (length marks) (length scratch) c.count.result c.count.ensures why c.in_err-showable.ensures in
    let is : c.from_residual.result ≡ Err why = p.1 ∙ ap Err p.2 in
    record {
      answer = ap shown_answer is ∙ ap answer_of outcome;
      after = ap (state_of s) outcome;
      buffers = subst (λ (r : Result Shown Refusal). Buffers s.table m r marks marks scratch scratch) (sym is) (refl, refl);
      held_tells = held_tells;
    }

-- the held part is that of the definitions
part_held : (g : _) (c : goal.After-note g)
    → bit_and c.args.set (get_or c.label.new.marks c.args.state 0) ≡ held_part c.self.inside.table (g.M.Machine.model c.args.machine.now) c.args.set c.args.state
unfolding held_part
part_held g c =
    let s = seen c.self.inside in
    let m = g.M.Machine.model c.args.machine.now in
    let is = rw (← c.self.view_is) at c.in_ok-showable.ensures in
    let below : c.args.state < m.count =
    omega (arith, state_below s c.args.set c.args.state c.count.result (length c.args.marks.now) (length c.args.scratch.now) c.in_ok-showable.field-0 is, c.count.ensures) in
    ap (bit_and c.args.set) (c.in_ok-rounds.ensures.1.each c.args.state below)

-- the register after the show
note_state_after : (g : _) (c : goal.After-note g)
    → record { table = c.self.inside.table; book = c.note.new.self; walk = c.self.inside.walk }
    ≡ state_after (seen c.self.inside) (show c.args.set c.args.state (g.M.Machine.model c.args.machine.now) (length c.args.marks.now) (length c.args.scratch.now))
note_state_after g c =
    let s = seen c.self.inside in
    let set = c.args.set in
    let state = c.args.state in
    let m = g.M.Machine.model c.args.machine.now in
    let marks = length c.args.marks.now in
    let scratch = length c.args.scratch.now in
    let x = c.in_ok-showable.field-0 in
    let is = rw (← c.self.view_is) at c.in_ok-showable.ensures in
    let joins : c.note.new.self ≡ lines_after_note s.book set (bit_and set (get_or c.label.new.marks state 0)) = cc in
    ap (λ (lines : List Line). with_book s lines) joins
    ∙ with_book-lines_after_note s set (bit_and set (get_or c.label.new.marks state 0)) (has_room_for s set state c.count.result marks scratch x is)
    ∙ ap (state_after_show s set) (part_held g c)
    ∙ ap (state_of s) (show_taken s set state m marks scratch c.count.result c.count.ensures x is)

pub invariant_of-self : goal.invariant_of-self
invariant_of-self g c =
    let s = seen c.self.inside in
    let m = g.M.Machine.model c.args.machine.now in
    kept_by s _ (show c.args.set c.args.state m (length c.args.marks.now) (length c.args.scratch.now))
    (search rules, g.met.M.Machine.sound c.args.machine.now) (note_state_after g c) c.self.invariant

pub returns : goal.returns
returns g c =
    let s = seen c.self.inside in
    let m = g.M.Machine.model c.args.machine.now in
    let done = (goal.at.returns g c).After-note in
    let is = rw (← c.self.view_is) at c.in_ok-showable.ensures in
    let labelled = c.in_ok-rounds.ensures.1 in
    let outcome =
    show_taken s c.args.set c.args.state m (length c.args.marks.now) (length c.args.scratch.now) c.count.result c.count.ensures c.in_ok-showable.field-0
    is in
    rw (← c.self.view_is) (record {
      answer = (λ i. ok (part_held g done i ∷ labelled.counted i ∷ [])) ∙ ap answer_of outcome;
      after = note_state_after g done;
      buffers = labelled;
      held_tells = held_tells;
    })
