use Rattle.std.proofs.Common.{◌≡◌, ◌≤◌, length, take, Ok, Err, sym, ap, ◌∙◌, arith, rules}
use Rattle.std.proofs.lemmas.List.{take_rest, length-drop, length-take-le}
use Rattle.forms.specs.Loading.{body_result, counted_forms, kept_forms}
use Rattle.forms.specs.Refusals.{rejected_at}
use Rattle.forms.specs.Places.{with_free_places}
use Rattle.forms.proofs.Places.{freed_front}
use Rattle.forms.proofs.Records.{turn, turned_down, no_more, forms_after_body_whole, front_kept, load_formed}
use Rattle.forms.proofs.table.Table.load.Goals as goal

pub loop-rest-preserved : goal.loop-rest-preserved
loop-rest-preserved c =
    let kept_forms = c.loop-rest.invariant in
    let rest = c.loop-rest.rest.now in
    let three : 3 ≤ length rest = (let q = c.in-len3-up in search rules) in
    let e = c.in_default-append.ensures in
    let left = take_rest rest 3 in
    record {
      grown = omega (arith, e.grown);
      few = e.few;
      sized = e.sized;
      free = e.free kept_forms.free;
      front = front_kept _ _ _ _ _ kept_forms.grown kept_forms.front e.before;
      whole = omega (arith, ap length left, length-drop 3 rest);
      same_end = turn _ c.loop-rest.record rest three e.number e.after ∙ kept_forms.same_end;
    }

-- at a refusal the forms are as they were
front : (c : goal.After-drop-guard) → take c.drop-guard.new.self.0.len c.free_places.new.forms ≡ take c.self.inside.count.len c.append.new.forms
front c =
    rw c.drop-guard.ensures (freed_front c.append.new.forms c.self.inside.count.len (omega (arith, c.in-Err.ensures.sized, c.loop-rest.invariant.few, c.loop-rest.invariant.grown)) c.free_places.ensures)

pub returns-in-Err-clause-restored : goal.returns-in-Err-clause-restored
returns-in-Err-clause-restored c =
    front c ∙ front_kept _ _ _ _ _ c.loop-rest.invariant.grown c.loop-rest.invariant.front c.in-Err.ensures.before

pub invariant_of-self : goal.invariant_of-self
invariant_of-self c =
    let same = returns-in-Err-clause-restored c in
    let before = c.self.invariant in
    (omega (arith, c.drop-guard.ensures, before.0), rw (same, ← c.self.view_is) before.1, c.free_places.ensures ∙ ap with_free_places (sym (front c)))

-- the body is refused at the record at which its form is
refused : (c : goal.After-drop-guard) → body_result c.args.self.now c.args.body.now ≡ Err (rejected_at c.in-Err.refusal c.loop-rest.record)
refused c =
    let three : 3 ≤ length c.loop-rest.rest.now = (let q = c.in-len3-up in search rules) in
    forms_after_body_whole c.args.self.now c.args.body.now (omega arith) (sym c.loop-rest.invariant.same_end ∙ turned_down _ c.loop-rest.record c.loop-rest.rest.now three c.in-Err.ensures.number)

pub returns-in-Err-clause-answer : goal.returns-in-Err-clause-answer
returns-in-Err-clause-answer c = rw c.at-in-Err.ensures (sym (ap counted_forms (refused c)))

pub returns-in-Err-clause-after : goal.returns-in-Err-clause-after
returns-in-Err-clause-after c = returns-in-Err-clause-restored c ∙ sym (ap (kept_forms c.args.self.now) (refused c))

-- the body is taken once no record is left
taken : (c : goal.After-commit) → body_result c.args.self.now c.args.body.now ≡ Ok (take c.loop-rest.guard.count.now.len c.loop-rest.self-inside.1.0)
taken c = forms_after_body_whole c.args.self.now c.args.body.now (omega arith) (sym c.loop-rest.invariant.same_end ∙ no_more _ c.loop-rest.record c.loop-rest.rest.now c.in_default.len_below)

taken-len : (c : goal.After-commit) → c.commit.result ≡ length (take c.loop-rest.guard.count.now.len c.loop-rest.self-inside.1.0)
taken-len c =
    let few : c.loop-rest.guard.count.now.len ≤ length c.loop-rest.self-inside.1.0 = omega arith in
    c.commit.ensures.value ∙ sym (length-take-le _ _ few)

pub returns-clause-answer : goal.returns-clause-answer
returns-clause-answer c = ap Ok (taken-len c) ∙ sym (ap counted_forms (taken c))

pub returns-clause-restored : goal.returns-clause-restored
returns-clause-restored c = rw c.commit.ensures.kept (taken-len c)

pub invariant_of-self-2 : goal.invariant_of-self-2
invariant_of-self-2 c =
    rw c.commit.ensures.kept (c.loop-rest.invariant.few, load_formed c.args.self.now c.args.body.now (sym (ap (kept_forms c.args.self.now) (taken c))) (rw (← c.self.view_is) c.self.invariant.1), c.loop-rest.invariant.free)
