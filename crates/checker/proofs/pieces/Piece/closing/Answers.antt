-- `checker::pieces::Piece::closing`: the closing line goes from the first corner to the last.
use Rattle.std.proofs.Common.{sym, arith}
use Rattle.checker.proofs.Along.{closing_is}
use Rattle.checker.proofs.pieces.Piece.closing.Goals as goal

pub returns-in-len2-up : goal.returns-in-len2-up
returns-in-len2-up c = sym (closing_is c.args.self.now.corners.now (omega (arith, c.in-len2-up.len_at_least)))
