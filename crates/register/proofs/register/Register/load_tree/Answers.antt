use Rattle.std.proofs.Common.{◌≡◌, List, [], ◌∷◌, rules, sym, ap, ◌∙◌}
use Rattle.forms.specs.Bodies.{Record}
use Rattle.protocol.specs.State.{State, with_walk}
use Rattle.protocol.specs.Bodies.{steps_of}
use Rattle.protocol.specs.Calls.{on_open, ok, answer_of, state_of}
use Rattle.register.specs.Loads.{finish_outcome}
use Rattle.register.proofs.TreeLoad.{tree_opened, open_walk_alone, abandon_walk_alone, put_back}
use Rattle.register.proofs.register.Register.load_tree.Goals as goal

-- the steps or enter are refused, and the walk that was opened goes again
pub returns-in-Err : goal.returns-in-Err
returns-in-Err c =
    let s = c.args.self.now in
    let body = c.args.body.now in
    let tree = c.in_ok-set.ensures in
    let set = c.in_ok-set.set in
    let started : ok (c.in_ok-map_err.field-0 ∷ []) ≡ answer_of (on_open s set) = search rules in
    let finish = c.in-Err.ensures in
    let outcome =
    tree_opened s body tree.0 set tree.1 _ started
    ∙ ap (λ (t : State). finish_outcome t (steps_of body)) (sym c.open.ensures.after)
    ∙ ap (λ (l : List Record). finish_outcome c.open.new.self l) (sym tree.2)
    ∙ finish.0 in
    let opened = open_walk_alone s set _ started in
    let at_open : c.open.new.self ≡ with_walk s c.open.new.self.walk =
    c.open.ensures.after ∙ opened.1 ∙ ap (λ (t : State). with_walk s t.walk) (sym c.open.ensures.after) in
    record {
      answer = ap answer_of (sym outcome);
      after =
          put_back s c.open.new.self c.finish_tree.new.self _ opened.0 at_open finish.1
          (let gone = abandon_walk_alone c.finish_tree.new.self in cc)
          ∙ ap (state_of s) (sym outcome);
    }
