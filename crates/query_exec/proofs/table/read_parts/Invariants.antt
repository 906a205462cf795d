use Rattle.std.proofs.Common.{◌≡◌, ◌+◌, ◌≤◌, ◌-◌, ℕ, true, List, length, take}
use Rattle.relations_spec.specs.Sets.{In}
use Rattle.relations_spec.specs.Spans.{covers}
use Rattle.prima_base.specs.Timed.{entries_of}
use Rattle.smo_ops_spec.specs.OneRow.{Relation}
use Rattle.smo_ops_spec.specs.Past.{Past, tables_of, database_at}
use Rattle.version_groups.specs.Representation.{Represents}
use Rattle.piece_ir_spec.specs.Pieces.{all_mean}
use Rattle.piece_ir.specs.Shown.{shown_pieces}
use Rattle.query_pieces_spec.specs.Gathering.{IsGathered}
use Rattle.query_exec.specs.declared.part_piece.PartPieces.{PartPieces}
use Rattle.cond_expr.specs.declared.expr.Column.{Column}
use Rattle.join_exec_spec.specs.BorrowedOutputs.{BorrowedValues, RowsBorrow}
use Rattle.query_exec.specs.Borrowed.{AllPlainIn}
use Rattle.query_exec.specs.Planned.{planned_spans}
use Rattle.query_exec.specs.Reads.{part_read}
use Rattle.query_exec.specs.Totals.{total}
use Rattle.query_exec.proofs.table.read_parts.Given as goal

abbrev pub invariant-runs : goal.invariant-runs
invariant-runs g l = record {
  within : l.at ≤ length l.plan;
  rows : (past : Past) → Represents l.groups past → (relation : ℕ → Relation)
      → ((x : PartPieces) → In x l.plan → (m : ℕ) → covers x.part.0 m ≡ true
      → all_mean (tables_of past x.part.1) (database_at past m) (shown_pieces x.pieces.items)
      ≡ relation m)
      → IsGathered relation (planned_spans (take l.at l.plan)) (entries_of l.rows.items);
  borrowed : (which : BorrowedValues) → (columns : List Column)
      → ((x : PartPieces) → In x l.plan
      → AllPlainIn l.groups x.part.1 x.part.0 which columns (shown_pieces x.pieces.items))
      → RowsBorrow which columns l.rows.items;
  cost : l.steps ≤ l.initial.steps + total (part_read l.groups) (take l.at l.plan);
  least : (x : PartPieces) → In x (take l.at l.plan)
      → l.initial.steps + part_read l.groups x ≤ l.steps;
  rises : l.initial.steps ≤ l.steps;
}

abbrev pub decreases-runs : goal.decreases-runs
decreases-runs g l = length l.plan - l.at
