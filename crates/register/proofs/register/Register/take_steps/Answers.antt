use Rattle.std.proofs.Common.{ℕ, suc, [], map, get_or, drop, sym, ap, ◌∙◌, add-one, rules}
use Rattle.std.proofs.lemmas.List.{drop_all}
use Rattle.forms.specs.declared.refusal.Rejected.{Rejected}
use Rattle.protocol.specs.State.{State}
use Rattle.protocol.specs.Calls.{declined, in_turn, node_on}
use Rattle.register.specs.Loads.{record_of}
use Rattle.register.proofs.Stepping.{steps_from, step_accepted, step_refused, step_walk_alone, walk_alone_on, none_in_turn}
use Rattle.register.proofs.register.Register.take_steps.Goals as goal

pub returns-in-Err : goal.returns-in-Err
returns-in-Err c =
    let s = c.args.self.now in
    let mid = c.loop-at.self in
    let steps = c.args.steps.now in
    let k = c.loop-at.at in
    let step = record_of (get_or steps k []) in
    let node = c.in-Err.ensures in (
      c.loop-at.invariant.0
          ∙ ap (in_turn node_on mid k) (steps_from steps k c.loop-at-test.true)
          ∙ step_refused mid step (map record_of (drop (suc k) steps)) k c.in-Err.refusal node.answer
          ∙ ap (λ (r : Rejected). declined r.refusal r.at) (sym c.at.ensures),
      walk_alone_on s mid _ c.loop-at.invariant.1 (step_walk_alone mid _ step node.after),
    )

pub loop-at-preserved : goal.loop-at-preserved
loop-at-preserved c =
    let s = c.args.self.now in
    let mid = c.loop-at.self in
    let steps = c.args.steps.now in
    let k = c.loop-at.at in
    let step = record_of (get_or steps k []) in
    let left = map record_of (drop (suc k) steps) in
    let node = c.in_default.ensures in (
      c.loop-at.invariant.0
          ∙ ap (in_turn node_on mid k) (steps_from steps k c.loop-at-test.true)
          ∙ step_accepted mid step left k _ node.answer
          ∙ ap (λ (t : State). in_turn node_on t (suc k) left) (sym node.after)
          ∙ ap (λ (n : ℕ). in_turn node_on c.node.new.self n (map record_of (drop n steps))) (sym (add-one k)),
      walk_alone_on s mid _ c.loop-at.invariant.1 (step_walk_alone mid _ step node.after),
    )

pub returns : goal.returns
returns c =
    let steps = c.args.steps.now in
    let k = c.loop-at.at in
    let done = ap (map record_of) (drop_all k steps (let q = c.loop-at-test.false in search rules)) in
    (c.loop-at.invariant.0 ∙ ap (in_turn node_on c.loop-at.self k) done ∙ none_in_turn c.loop-at.self k, c.loop-at.invariant.1)
