-- Runs: neighbouring parts of a slice that are read as one. Their pieces are alike: but for the
-- names of their tables they are the same, and what is stored of these is the same from then on.
use Rattle.std.specs.Prelude.{◌≡◌, ◌<◌, ◌≤◌, ℕ, true, List, [], ◌∷◌, length, Option, ⊤}
use Rattle.relations_spec.specs.Sets.{In}
use Rattle.relations_spec.specs.Spans.{Span, covers, forever}
use Rattle.history_store.specs.Store.{Store}
use Rattle.smo_ops_spec.specs.OneRow.{Relation}
use Rattle.smo_ops_spec.specs.Past.{Past, tables_of, database_at}
use Rattle.version_groups.specs.StoredTables.{rows_stored}
use Rattle.version_groups.specs.Groups.{Kept, table_in}
use Rattle.version_groups.specs.Representation.{IsInForce}
use Rattle.piece_ir_spec.specs.Pieces.{PlainPiece, all_mean}
use Rattle.piece_ir_spec.specs.Typed.{AllTyped}
use Rattle.piece_ir.specs.Shown.{shown_pieces}
use Rattle.query_pieces_spec.specs.Gathering.{HasMoment}
use Rattle.join_exec.specs.Pieces.{columns_stored, reads_stored, stored_meaning}
use Rattle.query_exec.specs.declared.part_piece.PartPieces.{PartPieces}
use Rattle.query_exec.specs.Planned.{planned_spans}

-- what is stored of two tables is the same from a moment on, and no more is read of the second
pub record AreAlike (from : ℕ) (a b : Option Store) : Type 0 where
  pub columns : columns_stored a ≡ columns_stored b
  pub rows : (m : ℕ) → from ≤ m → m < forever → rows_stored m a ≡ rows_stored m b
  pub reads : (names : List (List ℕ)) → reads_stored b names ≤ reads_stored a names

-- tables of version k, and one by one tables of version j
abbrev pub TablesAlike : Kept → ℕ → ℕ → List (List ℕ) → ℕ → List (List ℕ) → Type 0
TablesAlike kept from k [] j [] = ⊤
TablesAlike kept from k [] j (b ∷ others) = ⊥
TablesAlike kept from k (a ∷ tables) j [] = ⊥
TablesAlike kept from k (a ∷ tables) j (b ∷ others) =
    AreAlike from (table_in kept k a) (table_in kept j b) × TablesAlike kept from k tables j others

-- a piece over version k and one over version j: one condition and the same outputs, over tables
-- that are alike
pub record IsAlike (kept : Kept) (from k : ℕ) (p : PlainPiece) (j : ℕ) (q : PlainPiece) :
    Type 0 where
  pub atoms : TablesAlike kept from k p.atoms j q.atoms
  pub cond : p.cond ≡ q.cond
  pub outs : p.outs ≡ q.outs

abbrev pub PiecesAlike : Kept → ℕ → ℕ → List PlainPiece → ℕ → List PlainPiece → Type 0
PiecesAlike kept from k [] j [] = ⊤
PiecesAlike kept from k [] j (q ∷ qs) = ⊥
PiecesAlike kept from k (p ∷ ps) j [] = ⊥
PiecesAlike kept from k (p ∷ ps) j (q ∷ qs) = IsAlike kept from k p j q
    × PiecesAlike kept from k ps j qs

-- a part that may be read with one before it
abbrev pub GoesOn : Kept → PartPieces → PartPieces → Type 0
GoesOn kept first x = PiecesAlike kept x.part.0.start first.part.1
    (shown_pieces first.pieces.items) x.part.1 (shown_pieces x.pieces.items)

-- one period begins where another ends, and this is both
pub record Meet (a b both : Span) : Type 0 where
  pub first : a.start < a.end
  pub second : b.start < b.end
  pub meets : b.start ≡ a.end
  pub begins : both.start ≡ a.start
  pub ends : both.end ≡ b.end
  pub last : both.end ≤ forever

-- a part, and parts after it that are read with it: the period has just their moments
pub record IsRun (kept : Kept) (first : PartPieces) (more : List PartPieces) (period : Span) :
    Type 0 where
  pub each : (x : PartPieces) → In x more → GoesOn kept first x
  pub within : (m : ℕ) → covers period m ≡ true → HasMoment (planned_spans (first ∷ more)) m
  pub all : (m : ℕ) → HasMoment (planned_spans (first ∷ more)) m → covers period m ≡ true
  pub ends : period.end ≤ forever

-- one by one the pieces mean over what is stored of version k what the others mean over version j
abbrev pub MeanAlike : Kept → ℕ → List PlainPiece → ℕ → List PlainPiece → ℕ → Type 0
MeanAlike kept k [] j [] m = ⊤
MeanAlike kept k [] j (q ∷ qs) m = ⊥
MeanAlike kept k (p ∷ ps) j [] m = ⊥
MeanAlike kept k (p ∷ ps) j (q ∷ qs) m =
    (stored_meaning kept k p m ≡ stored_meaning kept j q m) × MeanAlike kept k ps j qs m

-- pieces that stand at version k mean over what is stored of it these rows at the moment: those of
-- the pieces that stand at the version that is in force then
pub record IsMeant (kept : Kept) (past : Past) (k : ℕ) (ps : List PlainPiece) (m : ℕ)
    (rows : Relation) : Type 0 where
  pub version : ℕ
  pub there : version ≤ length past.versions
  pub force : IsInForce past.versions version m
  pub pieces : List PlainPiece
  pub alike : MeanAlike kept k ps version pieces m
  pub typed : AllTyped (tables_of past version) pieces
  pub means : all_mean (tables_of past version) (database_at past m) pieces ≡ rows
