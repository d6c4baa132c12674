use Rattle.label.proofs.Columns.{column_put, rest_put}
use Rattle.label.proofs.column.ColumnIndexSet.put.Goals as goal

pub returns : goal.returns
returns c =
    let s = c.args.self.now in
    record {
      members = column_put s.marks.now c.args.i s.form c.args.b _ c.put_bit.ensures c.requires;
      rest = rest_put s.marks.now c.args.i s.form c.args.b _ c.put_bit.ensures c.requires s.marks.ghost_name;
    }
