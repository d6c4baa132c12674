use Rattle.tableau.proofs.rules_are_sound.Goals as goal
use Rattle.tableau.proofs.Exact.{outcome_is_exact, refusal_is_exact}
use Rattle.tableau.proofs.SetLaws.{set_laws}
use Rattle.tableau.proofs.NextSets.{every_operands_lem}
use Rattle.tableau.proofs.Bytes.{tree_is_in_bytes}
use Rattle.tableau.proofs.Walking.{walk_keeps, closed_walk_refutes, tree_taken}
use Rattle.tableau.proofs.Regrow.{closed_is_tree}
use Rattle.tableau.proofs.Grow.{run_grows}
use Rattle.tableau.proofs.Worked.{set_is_refuted, needs_focus}

pub returns : goal.returns
returns c = record {
  sets = set_laws;
  operands = every_operands_lem;
  outcome = outcome_is_exact;
  refusal = refusal_is_exact;
  keeps = walk_keeps;
  refutes = closed_walk_refutes;
  grows = run_grows;
  taken = tree_taken;
  in_bytes = tree_is_in_bytes;
  is_tree = closed_is_tree;
  refuted = set_is_refuted;
  needs_focus = needs_focus;
}
