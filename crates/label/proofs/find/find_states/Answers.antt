use Rattle.std.proofs.Common.{arith, rules}
use Rattle.fixpoint.proofs.Overlays.{overlay_front}
use Rattle.label.proofs.Labels.{settled_marks}
use Rattle.label.proofs.find.find_states.Goals as goal

pub returns-in-Until-Exists-default-default-clause-marked : goal.returns-in-Until-Exists-default-default-clause-marked
returns-in-Until-Exists-default-default-clause-marked g c = settled_marks _ _ c.search.ensures.settled (search rules) (search rules)

pub returns-in-Until-Every-default-default-clause-marked : goal.returns-in-Until-Every-default-default-clause-marked
returns-in-Until-Every-default-default-clause-marked g c = settled_marks _ _ c.search-in-Until-Every-default-default.ensures.settled (search rules) (search rules)

pub returns-in-Release-Exists-default-default-clause-marked : goal.returns-in-Release-Exists-default-default-clause-marked
returns-in-Release-Exists-default-default-clause-marked g c = settled_marks _ _ c.search-in-Release-Exists-default-default.ensures.settled (search rules) (search rules)

pub returns-in-Release-Every-default-default-clause-marked : goal.returns-in-Release-Every-default-default-clause-marked
returns-in-Release-Every-default-default-clause-marked g c = settled_marks _ _ c.search-in-Release-Every-default-default.ensures.settled (search rules) (search rules)

pub returns-in_default-clause-marked : goal.returns-in_default-clause-marked
returns-in_default-clause-marked g c = record {
  made = λ s h.
      let told = c.fill.ensures.filled s (omega arith) in
      let taken = overlay_front _ _ _ c.take_over.ensures.members s (omega arith) in
      search rules;
  counted = search rules;
}
