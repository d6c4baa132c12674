use Rattle.worked.proofs.Marked.{two_rows_answer, timer_of_three}
use Rattle.worked.proofs.Walked.{table_is_filled, set_48_is_refuted}
use Rattle.worked.proofs.Offsets.{before_row_0, row_1023_reaches_0, operand_5_in_form_5}
use Rattle.worked.proofs.Empty.{set_0_is_entered}
use Rattle.worked.proofs.worked_examples.Goals as goal

pub returns : goal.returns
returns c = record {
  table = table_is_filled;
  operand = operand_5_in_form_5;
  two_rows = two_rows_answer;
  timer = timer_of_three;
  refutation = set_48_is_refuted;
  before = before_row_0;
  far_back = row_1023_reaches_0;
  nothing = set_0_is_entered;
}
