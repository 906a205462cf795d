-- What is read of a table at each moment: the meaning of the pieces that stand for it, a set of
-- rows of valid values.
use Rattle.std.proofs.Common.{◌≡◌, ◌≤◌, ℕ, true, false, List, [], ◌∷◌, map, length, refl, sym, ap}
use Rattle.std.proofs.Common.{subst, ◌∙◌, inl, inr, arith}
use Rattle.std.specs.Prelude.{cond, Option, Some, None}
use Rattle.std.specs.List.{filter}
use Rattle.std.specs.FinMap.{get}
use Rattle.std.proofs.lemmas.List.{length-map}
use Rattle.relations_spec.specs.Sets.{In, Ascends}
use Rattle.relations_spec.specs.Spans.{Span}
use Rattle.relations_spec.specs.Timed.{Entry}
use Rattle.relations_spec.specs.Listing.{IsListing}
use Rattle.relations_spec.proofs.SetLaws.{from_set, from_map, from_filter, set_ascends}
use Rattle.prima_base.specs.Order.{row_cmp}
use Rattle.prima_base.specs.OrderLaws.{row_exact}
use Rattle.prima_base.specs.Columns.{Column, IsValid}
use Rattle.schema_catalog.specs.Databases.{DatabaseEntry as Stored, Rows, Lost, IsDatabase, cell}
use Rattle.cond_expr.proofs.ConstantLaws.{small_number}
use Rattle.smo_ops_spec.specs.Effects.{columns_of, rows_under}
use Rattle.smo_ops_spec.specs.ValidPast.{IsPast}
use Rattle.smo_ops_spec.specs.ValidValues.{PastHolds, AreValues, HoldValues, EntryHolds}
use Rattle.smo_ops_spec.specs.Making.{named}
use Rattle.smo_ops_spec.specs.OneRow.{Row, Relation, same, meets}
use Rattle.smo_ops_spec.specs.Past.{Past, tables_of, version_at, database_at}
use Rattle.smo_ops_versions_spec.specs.Migration.{migrated, migrated_from}
use Rattle.smo_ops_versions_spec.proofs.WayValues.{way_values}
use Rattle.plain_answers_spec.specs.Reading.{Read, read_of}
use Rattle.piece_ir_spec.specs.Pieces.{PlainPiece, all_mean}
use Rattle.piece_ir_spec.specs.Rules.{Book, IsValidBook}
use Rattle.piece_ir_spec.specs.Beginnings.{IsQuestion}
use Rattle.piece_ir_spec.specs.UnfoldedPieces.{StandFor}
use Rattle.piece_ir_spec.proofs.ReadMoments.{table_means}
use Rattle.join_exec_spec.specs.Fitting.{Fit}
use Rattle.join_exec_spec.specs.Keeping.{IsValidRow}
use Rattle.query_exec.specs.Questions.{table_read}

-- the pieces that stand at the version in force mean what is read of the table
pub standing_means : (book : Book) → IsValidBook book → (past : Past) → IsPast past → PastHolds past
    → (q k m : ℕ) (table : List ℕ) (r : Read) (ps : List PlainPiece)
    → IsQuestion (tables_of past q) table r → StandFor book past.versions k q table r ps
    → version_at past m ≡ k → all_mean (tables_of past k) (database_at past m) ps
    ≡ table_read past q table r m
standing_means book valid past is holds q k m table r ps asked h e =
    ap (all_mean (tables_of past k) (database_at past m)) h.unfolded
    ∙ table_means past.versions is.evolved book valid k q table r asked h.kept holds.versions
    (database_at past m)
    (record {
      database = subst (λ (v : ℕ). IsDatabase (tables_of past v) (database_at past m)) e
          (is.each m);
      values = holds.databases m;
    })
    ∙ ap (λ (v : ℕ). read_of r (columns_of (tables_of past q) table)
    (rows_under (get (migrated_from past.versions v q (database_at past m)) table))) (sym e)

-- ---- sets of valid rows

pub read_ascends : (past : Past) (q : ℕ) (table : List ℕ) (r : Read) (m : ℕ)
    → Ascends row_cmp (table_read past q table r m)
read_ascends past q table r m = set_ascends row_cmp row_exact _

held_rows : (o : Option Stored) → EntryHolds o → HoldValues (rows_under o)
held_rows None h = λ row m. absurd m
held_rows (Some (Rows rows)) h = h
held_rows (Some (Lost k i)) h = λ row m. absurd m

cell_valid : (columns : List Column) (row : Row) (n : List ℕ) → AreValues row
    → IsValid (cell columns row n)
cell_valid [] row n h = small_number 0 (omega arith)
cell_valid (c ∷ columns) [] n h = small_number 0 (omega arith)
cell_valid (c ∷ columns) (v ∷ row) n h =
    elim (same c.0 n) as (λ b. IsValid (cond b v (cell columns row n))) [
      | true ↦ h v (inl refl)
      | false ↦ cell_valid columns row n (λ w m. h w (inr m))
    ]

cells_valid : (columns cs : List Column) (row : Row) → AreValues row
    → IsValidRow (map (λ (c : Column). cell columns row c.0) cs)
cells_valid columns [] row h = tt
cells_valid columns (c ∷ cs) row h = (cell_valid columns row c.0 h, cells_valid columns cs row h)

module _ (past : Past) (holds : PastHolds past) (q : ℕ) (table : List ℕ) (r : Read) where
  abbrev all : List Column
  all = columns_of (tables_of past q) table

  abbrev rows : ℕ → Relation
  rows m = rows_under (get (migrated past m q) table)

  rows_hold : (m : ℕ) → HoldValues (rows m)
  rows_hold m = held_rows (get (migrated past m q) table)
      (way_values past.versions holds.versions (version_at past m) q (database_at past m)
      (holds.databases m) table)

  abbrev cut : Row → Row
  cut row = map (λ (c : Column). cell all row c.0) (named r.names all)

  row_fits : (m : ℕ) (x : Row) → In x (table_read past q table r m)
      → (length x ≡ length (named r.names all)) × IsValidRow x
  row_fits m x i =
      let kept : List Row = filter (meets all r.test) (rows m) in
      let g = from_map cut x kept (from_set row_cmp row_exact x (map cut kept) i) in
      subst (λ (y : Row). (length y ≡ length (named r.names all)) × IsValidRow y) g.2 (
        length-map (named r.names all) (λ (c : Column). cell all g.0 c.0),
        cells_valid all (named r.names all) g.0
            (rows_hold m g.0 (from_filter (meets all r.test) g.0 (rows m) g.1).0),
      )

  -- what is listed fits the columns
  pub listed_fit : (slice : Span) (entries : List (Entry Row))
      → IsListing row_cmp (table_read past q table r) slice entries → (n : ℕ)
      → n ≡ length (named r.names all) → Fit n entries
  listed_fit slice entries h n e x i =
      let is = h.each x i in
      let first : x.period.start ≤ x.period.start = omega arith in
      subst (λ (k : ℕ). (length x.item ≡ k) × IsValidRow x.item) (sym e)
      (row_fits x.period.start x.item (is.holds x.period.start first is.lasting))
