-- The law of a rule: what the pieces that it answers to an operator, the tables before it, and a
-- piece over the tables after it have in common with that piece.
use Rattle.std.specs.Prelude.{◌≡◌, ℕ, List, [], ◌∷◌, None, if◌then◌else◌}
use Rattle.relations_spec.specs.Sets.{In}
use Rattle.prima_base.specs.declared.refusal.OpKind.{OpKind}
use Rattle.schema_catalog.specs.Tables.{Tables}
use Rattle.schema_catalog.specs.Databases.{Database}
use Rattle.smo_ops_types.specs.Operators.{Operator}
use Rattle.smo_ops_spec.specs.OperatorKinds.{operator_kind}
use Rattle.smo_ops_spec.specs.Touching.{makes, made_of}
use Rattle.smo_ops_spec.specs.After.{op_fault, schema_after, migrate, IsValid}
pub use Rattle.smo_ops_spec.specs.ValidValues.{IsValidDatabase}
use Rattle.piece_ir_spec.specs.Pieces.{PlainPiece, means, all_mean}
use Rattle.piece_ir_spec.specs.Typed.{IsTyped, AllTyped, output_types}
use Rattle.piece_ir_spec.specs.Given.{AreViews}
use Rattle.piece_ir_spec.specs.Unfolding.{unfoldings}
use Rattle.piece_ir_spec.specs.Views.{Views}
use Rattle.piece_ir_spec.specs.Constants.{ValidInOperator, ValidInPiece, ValidInPieces}

-- the source tables of a table: of one that the operator makes its inputs, and else itself
abbrev pub sources_of : Tables → Operator → List ℕ → List (List ℕ)
sources_of tables op a = if makes tables op a then made_of op else a ∷ []

-- the new pieces over the tables before an operator, in place of a piece over those after it
pub record KeepsMeaning (tables : Tables) (op : Operator) (p : PlainPiece)
    (news : List PlainPiece) : Type 0 where
  -- over every database they mean what the piece means over the carried one
  pub law : (db : Database) → IsValidDatabase tables db
      → all_mean tables db news ≡ means (schema_after tables op) (migrate tables op db) p
  pub typed : AllTyped tables news
  -- with the same output names and types
  pub outputs : (q : PlainPiece) → In q news → output_types tables q
      ≡ output_types (schema_after tables op) p
  -- each atom of a new piece is a source table of an atom of the old one
  pub sources : (q : PlainPiece) → In q news → (n : List ℕ) → In n q.atoms → (a : List ℕ)
      × In a p.atoms × In n (sources_of tables op a)
  -- their constants are valid where those of the operator and of the piece are
  pub constants : ValidInOperator op → ValidInPiece p → ValidInPieces news

-- what a rule answers, or the rules of a book do, to an operator, the tables before it, and a piece
-- over those after it
abbrev pub Book : Type 0
Book = Operator → Tables → PlainPiece → List PlainPiece

-- the law of a rule that handles one kind of operator
pub record IsValidRule (kind : OpKind) (answers : Book) : Type 0 where
  pub keeps : (tables : Tables) (op : Operator) (p : PlainPiece) → operator_kind op ≡ kind
      → IsValid tables → op_fault tables op ≡ None
      → IsTyped (schema_after tables op) p → KeepsMeaning tables op p (answers op tables p)

-- the law of a book, which handles every kind
pub record IsValidBook (book : Book) : Type 0 where
  pub keeps : (tables : Tables) (op : Operator) (p : PlainPiece) → IsValid tables
      → op_fault tables op ≡ None
      → IsTyped (schema_after tables op) p → KeepsMeaning tables op p (book op tables p)

-- the rule that unfolds by the views of each operator
abbrev pub by_views : (Tables → Operator → Views) → Book
by_views views op tables p = unfoldings (views tables op) p

-- of the operators of one kind, these are the views
abbrev pub HasViews : OpKind → (Tables → Operator → Views) → Type 0
HasViews kind views = (tables : Tables) (op : Operator) → operator_kind op ≡ kind → IsValid tables
    → op_fault tables op ≡ None
    → AreViews tables op (views tables op)
