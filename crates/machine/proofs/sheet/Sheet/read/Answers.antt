use Rattle.std.proofs.Common.{is_some, sym, ap, subst, ◌∙◌}
use Rattle.machine.specs.Sheet.{row_count}
use Rattle.machine.specs.Rows.{rows_model}
use Rattle.machine.specs.Faults.{IsSheet}
use Rattle.machine.proofs.Decoding.{none_wrong, IsSheet-decoded_rows, rows_mean}
use Rattle.machine.proofs.sheet.Sheet.read.Goals as goal

pub invariant_of-result : goal.invariant_of-result
invariant_of-result c =
    let bytes = c.args.bytes.now in
    let cut = c.in_ok-records.ensures in
    let none = none_wrong bytes c.in_ok-records.records.now cut (sym c.in_ok-check_rows.ensures) in
    record {
      in_order = subst IsSheet (sym (c.in_ok-rows.ensures ∙ cut.rows)) (IsSheet-decoded_rows bytes (row_count bytes) cut.some cut.few (ap is_some none) (λ i. (c.type_inv.bytes i).fits));
    }

pub returns-clause-ends : goal.returns-clause-ends
returns-clause-ends c =
    let bytes = c.args.bytes.now in
    let cut = c.in_ok-records.ensures in
    let none = none_wrong bytes c.in_ok-records.records.now cut (sym c.in_ok-check_rows.ensures) in
    let rows = c.in_ok-rows.ensures ∙ cut.rows in
    (cut.fault ∙ none, record { items = rows; means = ap rows_model rows ∙ rows_mean bytes (ap is_some none) })
