use Rattle.std.proofs.Common.{◌≡◌, ◌+◌, ◌≤◌, ℕ, true, false, List, [], take, drop}
use Rattle.relations_spec.specs.Spans.{covers}
use Rattle.prima_base.specs.Timed.{rows_at}
use Rattle.smo_ops_spec.specs.OneRow.{Relation}
use Rattle.smo_ops_spec.specs.Past.{Past, tables_of, database_at}
use Rattle.version_groups.specs.Representation.{Represents}
use Rattle.piece_ir_spec.specs.Pieces.{all_mean}
use Rattle.piece_ir.specs.Shown.{shown_pieces}
use Rattle.cond_expr.specs.declared.expr.Column.{Column}
use Rattle.join_exec_spec.specs.BorrowedOutputs.{BorrowedValues, RowsBorrow}
use Rattle.query_exec.specs.Borrowed.{AllPlainIn}
use Rattle.query_exec.specs.Reads.{pieces_read}
use Rattle.query_exec.specs.Runs.{IsMeant}
use Rattle.query_exec.proofs.piece.run_pieces.Given as goal

abbrev pub invariant-loop-piece : goal.invariant-loop-piece
invariant-loop-piece g l = record {
  rows : (past : Past) → Represents l.groups past → (m : ℕ) → covers l.fn.period m ≡ true
      → (meant : Relation) → (h : IsMeant l.groups past l.version (shown_pieces l.pieces) m meant)
      → rows_at l.rows.items m ≡ all_mean (tables_of past h.version) (database_at past m)
      (take l.piece-index h.pieces);
  inside : (m : ℕ) → covers l.fn.period m ≡ false → rows_at l.rows.items m ≡ [];
  borrowed : (which : BorrowedValues) → (columns : List Column)
      → AllPlainIn l.groups l.version l.fn.period which columns (shown_pieces l.pieces)
      → RowsBorrow which columns l.rows.items;
  count : l.steps + pieces_read l.groups l.version (shown_pieces (drop l.piece-index l.pieces))
      ≡ l.initial.steps + pieces_read l.groups l.version (shown_pieces l.pieces);
  rises : l.initial.steps ≤ l.steps;
}
