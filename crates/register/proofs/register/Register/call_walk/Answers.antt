use Rattle.std.proofs.Common.{◌≡◌, true, sym, ap, ◌∙◌, arith, rules}
use Rattle.std.proofs.lemmas.Grind.{common_steps}
use Rattle.walk.specs.Progress.{Progress, step_result}
use Rattle.protocol.specs.State.{standing, is_free, with_walk}
use Rattle.protocol.specs.Calls.{open_at, node, enter, state_after}
use Rattle.register.specs.Answers.{number_answer}
use Rattle.register.proofs.Kept.{seen, kept_by, state_of-walk_outcome, answer_of-walk_outcome, closed_finishes, free_of, entered_state}
use Rattle.register.proofs.register.Register.call_walk.Goals as goal

pub invariant_of-self : goal.invariant_of-self
invariant_of-self c =
    let s = seen c.self.inside in
    let set = c.in-Absent-Open.set in
    let later : with_walk s c.start.new.self ≡ state_after s (open_at set) = grind (arith, common_steps) in
    kept_by s _ (open_at set) (search rules) later c.self.invariant

pub invariant_of-self-in-Node-1 : goal.invariant_of-self-in-Node-1
invariant_of-self-in-Node-1 c =
    let s = seen c.self.inside in
    let step = c.in_default-Node in
    let moved = state_of-walk_outcome s (step_result s.table s.walk step.number step.a step.b) in
    let later : with_walk s c.node.new.self ≡ state_after s (node step.number step.a step.b) = cc in
    kept_by s _ (node step.number step.a step.b) (search rules, search rules, search rules) later c.self.invariant

pub invariant_of-self-in-Closed-1 : goal.invariant_of-self-in-Closed-1
invariant_of-self-in-Closed-1 c =
    let s = seen c.self.inside in
    let root = c.in-Closed-Enter.root in
    let free : is_free (standing s.book root) ≡ true = ap is_free (sym c.standing.ensures) ∙ free_of c.standing.result (sym c.is_some.ensures ∙ c.if-is_some.false) in
    let after =
    entered_state s root (closed_finishes s.walk root (cc)) free c.in_ok-line-in-Closed-Enter.line _ _ c.in_ok-line-in-Closed-Enter.ensures.place (cc) c.end.ensures in
    kept_by s _ enter tt after c.self.invariant

pub returns-in_default-Node-clause-answer : goal.returns-in_default-Node-clause-answer
returns-in_default-Node-clause-answer c =
    let s = seen c.self.inside in
    let step = c.in_default-Node in
    rw (← c.self.view_is, step.is-1) (ap number_answer c.node.ensures.reply ∙ answer_of-walk_outcome s (step_result s.table s.walk step.number step.a step.b))

pub returns-in_default-Node-clause-after : goal.returns-in_default-Node-clause-after
returns-in_default-Node-clause-after c =
    let s = seen c.self.inside in
    let step = c.in_default-Node in
    rw (← c.self.view_is, step.is-1) (ap (λ (p : Progress). with_walk s p) c.node.ensures.after ∙ state_of-walk_outcome s (step_result s.table s.walk step.number step.a step.b))
