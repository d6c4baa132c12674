use Rattle.std.proofs.Common.{◌≡◌, ◌+◌, ◌*◌, ◌≤◌, ℕ, length, refl, ap, ◌∙◌, arith, rules}
use Rattle.label.specs.Show.{mark, mark_below, rounds_below, rounds_of}
use Rattle.label.proofs.Lists.{filled, zeros}
use Rattle.label.proofs.Marks.{marked_more, rounds_below_more, rounds_below_few}
use Rattle.label.proofs.mark.mark_table.Goals as goal

pub loop-f-init : goal.loop-f-init
unfolding mark_below rounds_below
loop-f-init g c = record { marked = λ t h. search rules; counted = refl }

pub loop-f-preserved : goal.loop-f-preserved
loop-f-preserved g c =
    let m = g.M.Machine.model c.args.machine.now in
    let table = c.args.table.now in
    let inv = c.loop-f.invariant in
    let done = c.mark_form-rounds.ensures in
    record {
      marked = marked_more table c.requires.well_formed m c.loop-f.f c.loop-f.marks inv.marked _ _ done.marked done.others;
      counted = rounds_below_more table c.requires.well_formed m c.loop-f.f c.loop-f.marks inv.marked _ _ done.marked c.loop-f.rounds inv.counted;
    }

pub overflow_add-rounds : goal.overflow_add-rounds
overflow_add-rounds g c =
    let m = g.M.Machine.model c.args.machine.now in
    let few = (g.met.M.Machine.sound c.args.machine.now).bounded in
    let form : c.loop-f.f + 1 ≤ 64 = omega arith in
    let sum : c.loop-f.rounds + c.mark_form-rounds.result ≤ 64 * 1025 =
    omega (arith, (loop-f-preserved g c).counted, rounds_below_few c.args.table.now m few (c.loop-f.f + 1), form) in
    search rules

pub returns : goal.returns
unfolding mark rounds_of
returns g c =
    let m = g.M.Machine.model c.args.machine.now in
    let table = c.args.table.now in
    let inv = c.loop-f.invariant in
    let end : c.loop-f.f ≡ length table = omega arith in
    record {
      marks = filled (mark table m) m.count c.loop-f.marks (omega arith) (λ t h. inv.marked t h ∙ ap (λ (k : ℕ). mark_below k table m t) end);
      scratch = zeros m.count _ (omega arith) (λ t h. search rules);
      counted = inv.counted ∙ ap (λ (k : ℕ). rounds_below k table m) end;
    }
