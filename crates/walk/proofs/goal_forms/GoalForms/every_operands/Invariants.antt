use Rattle.std.proofs.Common.{◌≡◌, drop}
use Rattle.tableau.specs.Nexts.{every_operands}
use Rattle.walk.proofs.goal_forms.GoalForms.every_operands.Given as goal

-- the operands from form f on are joined
abbrev pub invariant-loop-f : goal.invariant-loop-f
invariant-loop-f l = l.operands ≡ every_operands (drop l.f l.self.table.now) l.f l.self.set
