use Rattle.std.proofs.Common.{◌≡◌, take}
use Rattle.piece_ir.specs.Shown.{shown_pieces}
use Rattle.piece_ir.proofs.piece.copy_pieces.Given as goal

abbrev pub invariant-loop-piece : goal.invariant-loop-piece
invariant-loop-piece l = shown_pieces l.copied.items ≡ shown_pieces (take l.piece-index l.pieces)
