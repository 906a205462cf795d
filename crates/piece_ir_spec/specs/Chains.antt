-- Pieces taken from version to version by the answers of a book of rules: through operators, and
-- through those of inverses, named or derived, and of the fillings of dropped columns.
use Rattle.std.specs.Prelude.{◌≡◌, ℕ, List, None}
use Rattle.std.specs.List.{flat_map}
use Rattle.std.specs.FinMap.{get}
use Rattle.relations_spec.specs.Sets.{In}
use Rattle.schema_catalog.specs.Tables.{Tables}
use Rattle.schema_catalog.specs.Databases.{Database}
use Rattle.smo_ops_types.specs.Operators.{Operator}
use Rattle.smo_ops_types.specs.Commands.{PlainVersion}
use Rattle.smo_ops_spec.specs.Losses.{loss_in}
use Rattle.smo_ops_spec.specs.WaysBack.{blank, filled_with}
use Rattle.smo_ops_versions_spec.specs.Steps.{Step, carrying, filling, undoing, carrying_each}
use Rattle.smo_ops_versions_spec.specs.Steps.{taken_back}
use Rattle.smo_ops_versions_spec.specs.Ways.{way}
use Rattle.smo_ops_versions_spec.specs.Ways as ways
use Rattle.smo_ops_versions_spec.specs.LostTables.{LostTables}
use Rattle.piece_ir_spec.specs.Pieces.{PlainPiece}
use Rattle.piece_ir_spec.specs.Rules.{Book}

-- pieces over the tables after an operator, through it: what the book answers, piece by piece
abbrev pub through : Book → Operator → Tables → List PlainPiece → List PlainPiece
through book op tables ps = flat_map (book op tables) ps

-- pieces over the tables behind a step, brought to those before it: through its operator, or that
-- of its filling; where there is no way back they stay
abbrev pub brought : Book → Step → List PlainPiece → List PlainPiece
brought book (carrying tables op) ps = through book op tables ps
brought book (filling loss tables f) ps = through book (filled_with blank f) tables ps
brought book (undoing loss tables op) ps = ps

-- through operators that stand one after the other, from the last to the first, each on the tables
-- before it
abbrev pub through_each : Book → Tables → List Operator → List PlainPiece → List PlainPiece
through_each book tables ops ps = taken_back (brought book) (carrying_each tables ops) ps

-- pieces over version k + 1, taken to version k
abbrev pub to_previous : Book → List PlainVersion → ℕ → List PlainPiece → List PlainPiece
to_previous book versions k ps = taken_back (brought book) (ways.to_next versions k) ps

-- pieces over version k, taken to version k + 1
abbrev pub to_next : Book → List PlainVersion → ℕ → List PlainPiece → List PlainPiece
to_next book versions k ps = taken_back (brought book) (ways.from_next versions k) ps

-- pieces over version q, unfolded to version v
abbrev pub unfolded_to : Book → List PlainVersion → ℕ → ℕ → List PlainPiece → List PlainPiece
unfolded_to book versions v q ps = taken_back (brought book) (way versions v q) ps

-- ---- losses

-- none of the tables that the pieces name is lost
abbrev pub NoneLost : Database → List PlainPiece → Type 0
NoneLost db ps = (p : PlainPiece) → In p ps → (n : List ℕ) → In n p.atoms → loss_in db n ≡ None

-- nor is one of them by names
abbrev pub NoneNamed : LostTables → List PlainPiece → Type 0
NoneNamed losses ps = (p : PlainPiece) → In p ps → (n : List ℕ) → In n p.atoms → get losses n ≡ None
