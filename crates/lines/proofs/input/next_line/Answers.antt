use Rattle.std.proofs.Common.{vec_items, subst}
use Rattle.lines.specs.Pieces.{IsRead}
use Rattle.lines.proofs.Pieces.{Begun_more, IsLineRead_last, IsLineRead_end}
use Rattle.lines.proofs.input.next_line.Goals as goal

pub returns-in-Last : goal.returns-in-Last
returns-in-Last g c =
    let read = IsLineRead_last _ _ _ _ _ _ c.loop.invariant.read (subst (IsRead (g.R.Read.remaining c.loop.input) (g.R.Read.remaining c.read_piece.new.input) (vec_items c.loop.line) (vec_items c.read_piece.new.line)) c.in-Last.is c.in_ok-read_piece.ensures.read) in
    record { short = c.in_ok-read_piece.ensures.short c.loop.invariant.short; clean = read.clean; bytes = read.bytes; more = read.there; rest = read.rest }

pub returns-in-End : goal.returns-in-End
returns-in-End g c =
    let read = IsLineRead_end _ _ _ _ _ _ c.loop.invariant.read (subst (IsRead (g.R.Read.remaining c.loop.input) (g.R.Read.remaining c.read_piece.new.input) (vec_items c.loop.line) (vec_items c.read_piece.new.line)) c.in-End.is c.in_ok-read_piece.ensures.read) in
    record { short = c.in_ok-read_piece.ensures.short c.loop.invariant.short; clean = read.clean; bytes = read.bytes; more = read.there; rest = read.rest }

pub loop-preserved : goal.loop-preserved
loop-preserved g c = record {
  short = c.in_ok-read_piece.ensures.short c.loop.invariant.short;
  read = Begun_more _ _ _ _ _ _ c.loop.invariant.read (subst (IsRead (g.R.Read.remaining c.loop.input) (g.R.Read.remaining c.read_piece.new.input) (vec_items c.loop.line) (vec_items c.read_piece.new.line)) c.in-Inner.is c.in_ok-read_piece.ensures.read);
}
