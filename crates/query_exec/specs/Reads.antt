-- How many keys and entries are read for pieces.
use Rattle.std.specs.Prelude.{ℕ, List}
use Rattle.version_groups.specs.Groups.{Kept}
use Rattle.piece_ir_spec.specs.Pieces.{PlainPiece}
use Rattle.piece_ir.specs.Shown.{shown_pieces}
use Rattle.piece_ir.specs.ExplainedPieces.{PlainExplained}
use Rattle.join_exec.specs.Pieces.{piece_reads}
use Rattle.query_exec.specs.declared.part_piece.PartPieces.{PartPieces}
use Rattle.query_exec.specs.Totals.{total}

-- for pieces over version k
abbrev pub pieces_read : Kept → ℕ → List PlainPiece → ℕ
pieces_read kept k ps = total (piece_reads kept k) ps

-- for those that are planned for a part of a slice
abbrev pub part_read : Kept → PartPieces → ℕ
part_read kept x = pieces_read kept x.part.1 (shown_pieces x.pieces.items)

-- for pieces of a query
abbrev pub explained_read : Kept → PlainExplained → ℕ
explained_read kept e = piece_reads kept e.version e.piece

abbrev pub reads_of : Kept → List PlainExplained → ℕ
reads_of kept list = total (explained_read kept) list
