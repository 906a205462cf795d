-- The pieces that EXPLAIN tells as plain data, and what those of the code stand for.
use Rattle.std.specs.Prelude.{ℕ, List, map}
use Rattle.relations_spec.specs.Spans.{Span}
use Rattle.piece_ir_spec.specs.Pieces.{PlainPiece}
use Rattle.piece_ir.specs.Shown.{piece_of}
use Rattle.piece_ir.specs.declared.explained.Explained.{Explained}

-- a piece over the tables of a version, in a period, for an atom of a branch; branches and atoms
-- are counted from 1
pub record PlainExplained : Type 0 where
  pub period : Span
  pub branch : ℕ
  pub atom : ℕ
  pub version : ℕ
  pub piece : PlainPiece

abbrev pub explained_of : Explained → PlainExplained
explained_of e = record {
  period = e.period;
  branch = e.branch;
  atom = e.atom;
  version = e.version;
  piece = piece_of e.piece;
}

abbrev pub all_explained : List Explained → List PlainExplained
all_explained list = map explained_of list
