use Rattle.std.proofs.Common.{◌≡◌, ◌+◌, length, take, sym, ap, subst, ◌∙◌, take_all, arith}
use Rattle.std.specs.Io.KnownBytes.{Consumes}
use Rattle.std.specs.Io.BufRead.{FillKeeps}
use Rattle.std.proofs.BufReadLemmas.{Consumes_shown}
use Rattle.lines.proofs.Pieces.{IsClean_front, take-through_feed}
use Rattle.lines.proofs.input.read_piece.Goals as goal

pub returns-then-end-all-clause-read : goal.returns-then-end-all-clause-read
returns-then-end-all-clause-read g c =
    let shown = c.in_ok-shown.shown.now in
    let end = c.line_end-end.result in
    let rested = c.fill_buf.follows.lender-at-none in
    let filled = subst (FillKeeps _ (g.R.Read.remaining rested) (g.R.BufRead.consumable_len rested)) c.in_ok-shown.was c.fill_buf.follows.holds-at-none in
    let moved = Consumes_shown _ _ _ _ shown (end + 1) (omega arith) c.in_ok-shown.ensures.front c.in_ok-shown.ensures.end filled.0 filled.1 c.consume.ensures.bytes in (
      take end shown,
      record {
        consumed = subst (Consumes _ _) (take-through_feed shown end c.line_end-end.ensures c.if-end-all.true) moved.0;
        clean = IsClean_front shown end c.line_end-end.ensures;
        kept = c.in_ok-keep.ensures.kept;
      },
    )

pub returns-clause-read : goal.returns-clause-read
returns-clause-read g c =
    let shown = c.in_ok-shown.shown.now in
    let end = c.line_end-end.result in
    let rested = c.fill_buf.follows.lender-at-none in
    let filled = subst (FillKeeps _ (g.R.Read.remaining rested) (g.R.BufRead.consumable_len rested)) c.in_ok-shown.was c.fill_buf.follows.holds-at-none in
    let moved = Consumes_shown _ _ _ _ shown (length shown) (omega arith) c.in_ok-shown.ensures.front c.in_ok-shown.ensures.end filled.0 filled.1 c.consume-2.ensures.bytes in
    let whole : take end shown ≡ shown = take_all end shown c.if-end-all.false in (
      take end shown,
      record {
        consumed = subst (Consumes _ _) (take_all (length shown) shown (omega arith) ∙ sym whole) moved.0;
        clean = IsClean_front shown end c.line_end-end.ensures;
        kept = c.in_ok-keep.ensures.kept;
      },
      omega (arith, ap length whole, c.if-all-eq0.false),
    )
