use Rattle.std.proofs.Common.{Bool, ◌&&◌, get_or, sym, ap, ◌∙◌, arith}
use Rattle.std.proofs.lemmas.Bool.{lt-ltb}
use Rattle.forms.specs.Sets.{member}
use Rattle.label.specs.Bits.{others}
use Rattle.label.proofs.Columns.{member-others}
use Rattle.label.proofs.column.Column.has_earlier.Goals as goal

pub returns-then-f-self : goal.returns-then-f-self
returns-then-f-self c =
    let s = c.args.self.now in
    let w = get_or s.marks.now c.args.i 0 in
    let below = lt-ltb c.args.f s.form c.if-f-self.true in
    c.contains.ensures.value ∙ member-others w s.form c.args.f (omega arith)
    ∙ sym (ap (λ (b : Bool). b && member (others w s.form) c.args.f) below)
