use Rattle.std.proofs.Common.{◌≡◌, ◌++◌, map, drop}
use Rattle.piece_ir.specs.Shown.{shown_pieces}
use Rattle.piece_ir.specs.ExplainedPieces.{all_explained}
use Rattle.query_exec.specs.QueryPieces.{explained_in}
use Rattle.query_exec.proofs.explanation.push_pieces.Given as goal

abbrev pub invariant-loop-piece : goal.invariant-loop-piece
invariant-loop-piece l =
    all_explained l.into.items ++ map (explained_in l.branch l.atom l.part)
    (shown_pieces (drop l.piece-index l.pieces)) ≡ all_explained l.initial.into.items
    ++ map (explained_in l.branch l.atom l.part) (shown_pieces l.pieces)
