-- A row is in what pieces mean just where one of them gives it.
use Rattle.std.proofs.Common.{List}
use Rattle.std.specs.Prelude.{◌↔◌}
use Rattle.std.specs.List.{flat_map}
use Rattle.relations_spec.specs.Sets.{In}
use Rattle.relations_spec.proofs.SetLaws.{in_flat_map, from_flat_map, in_set, from_set}
use Rattle.prima_base.specs.Order.{row_cmp}
use Rattle.prima_base.specs.OrderLaws.{row_exact}
use Rattle.schema_catalog.specs.Tables.{Tables}
use Rattle.schema_catalog.specs.Databases.{Database}
use Rattle.smo_ops_spec.specs.OneRow.{Row}
use Rattle.plain_answers_spec.proofs.PlainRows.{in_answers, from_answers}
use Rattle.piece_ir_spec.specs.Pieces.{PlainPiece, out_trees, atom_columns, atom_rows}
use Rattle.piece_ir_spec.specs.Pieces.{piece_answers, means, all_mean, PieceGives}

module _ (tables : Tables) (db : Database) where
  pub answers_from : (p : PlainPiece) (row : Row) → PieceGives tables db p row
      → In row (piece_answers tables db p)
  answers_from p row g = in_answers (atom_columns tables p.atoms) (atom_rows db p.atoms)
      (out_trees p.outs) p.cond row g

  pub gives_from : (p : PlainPiece) (row : Row) → In row (piece_answers tables db p)
      → PieceGives tables db p row
  gives_from p row m = from_answers (atom_columns tables p.atoms) (atom_rows db p.atoms)
      (out_trees p.outs) p.cond row m

  pub one_gives : (p : PlainPiece) (row : Row)
      → In row (means tables db p) ↔ PieceGives tables db p row
  one_gives p row = (
    λ m. gives_from p row (from_set row_cmp row_exact row (piece_answers tables db p) m),
    λ g. in_set row_cmp row_exact row (piece_answers tables db p) (answers_from p row g),
  )

  abbrev pub OneGives : List PlainPiece → Row → Type 0
  OneGives ps row = (p : PlainPiece) × In p ps × PieceGives tables db p row

  some_there : (ps : List PlainPiece) (row : Row) → In row (all_mean tables db ps) → OneGives ps row
  some_there ps row m =
      let f = from_flat_map (piece_answers tables db) row ps
      (from_set row_cmp row_exact row (flat_map (piece_answers tables db) ps) m) in
      (f.0, f.1, gives_from f.0 row f.2)

  some_back : (ps : List PlainPiece) (row : Row) → OneGives ps row → In row (all_mean tables db ps)
  some_back ps row g =
      in_set row_cmp row_exact row (flat_map (piece_answers tables db) ps)
      (in_flat_map (piece_answers tables db) g.0 row ps g.1 (answers_from g.0 row g.2))

  pub some_gives : (ps : List PlainPiece) (row : Row)
      → In row (all_mean tables db ps) ↔ OneGives ps row
  some_gives ps row = (some_there ps row, some_back ps row)
