use Rattle.std.proofs.Common.{◌≡◌, ◌-◌, min, length, vec_items, vec_len, arith, length-take}
use Rattle.lines.proofs.Keep.{kept_tells, keeps, added, still_short}
use Rattle.lines.proofs.input.keep.Goals as goal

pub returns : goal.returns
returns c = record {
  kept =
      let room : c.min-room.result ≡ min (101 - length (vec_items c.args.line.now)) (length c.args.piece.now) = omega (arith, c.args.line.now.ok.0) in
      added c.extend_from_slice.result (vec_items c.args.line.now) _ c.args.piece.now _ c.extend_from_slice.ensures.items (λ before e. keeps (vec_items c.args.line.now) before c.args.piece.now _ e room);
  short = λ h. still_short _ (vec_len c.extend_from_slice.new.self) (vec_len c.args.line.now) _ c.extend_from_slice.ensures.len (simp length-take (omega arith));
  enough = kept_tells;
}
