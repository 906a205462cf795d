-- What a query asks of a moment is what its pieces read there.
use Rattle.std.proofs.Common.{◌≡◌, ℕ, List, [], ◌∷◌, refl, sym, ap, subst, ◌∙◌, inl, inr}
use Rattle.std.specs.Prelude.{None}
use Rattle.std.specs.List.{flat_map}
use Rattle.std.specs.FinMap.{get}
use Rattle.relations_spec.specs.Sets.{In, set_of}
use Rattle.relations_spec.proofs.SetLaws.{from_map}
use Rattle.prima_base.specs.Order.{row_cmp}
use Rattle.schema_catalog.specs.Tables.{Tables}
use Rattle.schema_catalog.specs.Databases.{Database}
use Rattle.cond_expr.specs.Trees.{Tree}
use Rattle.smo_ops_types.specs.Commands.{PlainVersion}
use Rattle.smo_ops_spec.specs.OneRow.{Relation}
use Rattle.smo_ops_spec.specs.Effects.{columns_of, rows_under}
use Rattle.smo_ops_spec.specs.ValidValues.{EachHolds}
use Rattle.smo_ops_spec.specs.Past.{Past, no_tables, tables_from, tables_of, version_at}
use Rattle.smo_ops_spec.specs.Past.{database_at}
use Rattle.smo_ops_spec.specs.ValidPast.{AreVersions, IsPast}
use Rattle.smo_ops_versions_spec.specs.Migration.{migrated_from, migrated}
use Rattle.smo_ops_versions_spec.specs.LostTables.{lost_tables}
use Rattle.smo_ops_versions_spec.proofs.WayLeads.{valid_at}
use Rattle.plain_answers_spec.specs.Choosing.{answers_over}
use Rattle.plain_answers_spec.specs.Branches.{Item, PlainBranch, item_columns, item_rows, plain}
use Rattle.plain_answers_spec.specs.Reading.{Read, read_of, read_columns, read_rows, answers_read}
use Rattle.plain_answers_spec.proofs.ReadLaws.{same_plain}
use Rattle.piece_ir_spec.specs.Pieces.{PlainPiece, all_mean}
use Rattle.piece_ir_spec.specs.Typed.{IsTyped, AllTyped, output_types}
use Rattle.piece_ir_spec.specs.Constants.{ValidInTree, ValidInTest, ValidInPiece, ValidInPieces}
use Rattle.piece_ir_spec.specs.Constants.{ValidInVersions}
use Rattle.piece_ir_spec.specs.Rules.{Book, IsValidBook, IsValidDatabase}
use Rattle.piece_ir_spec.specs.Chains.{unfolded_to, NoneNamed}
use Rattle.smo_ops_spec.specs.ValidValues.{VersionsHold}
use Rattle.piece_ir_spec.specs.Beginnings.{IsQuestion, own_column, first_piece}
use Rattle.piece_ir_spec.specs.Reading.{AreQuestions, Suffices, unfolded_read, unfolded_reads}
use Rattle.piece_ir_spec.specs.Reading.{unfolded_answers, asked_by_pieces}
use Rattle.piece_ir_spec.proofs.PieceLaws.{alone}
use Rattle.piece_ir_spec.proofs.ChainSteps.{AllOutput}
use Rattle.piece_ir_spec.proofs.PiecesMean.{pieces_mean, pieces_typed, pieces_output, pieces_valid}
use Rattle.piece_ir_spec.proofs.FirstPieces.{first_means, first_typed}

-- the one piece, alone
pub one_typed : (tables : Tables) (p : PlainPiece) → IsTyped tables p → AllTyped tables (p ∷ [])
one_typed tables p h q (inl e) = subst (IsTyped tables) e h
one_typed tables p h q (inr m) = absurd m

one_output : (tables : Tables) (p : PlainPiece) → AllOutput tables (output_types tables p) (p ∷ [])
one_output tables p q (inl e) = ap (output_types tables) (sym e)
one_output tables p q (inr m) = absurd m

first_valid : (t : List ℕ) (r : Read) → ValidInTest r.test → ValidInPiece (first_piece t r)
first_valid t r h = record {
  cond = h;
  outs = λ o m. (let f = from_map own_column o r.names m in
      subst (λ (x : List ℕ × Tree). ValidInTree x.1) f.2 tt);
}

one_valid : (t : List ℕ) (r : Read) → ValidInTest r.test → ValidInPieces (first_piece t r ∷ [])
one_valid t r h p (inl e) = subst ValidInPiece e (first_valid t r h)
one_valid t r h p (inr m) = absurd m

pub one_named : (versions : List PlainVersion) (v q : ℕ) (t : List ℕ) (r : Read)
    → get (lost_tables versions v q) t ≡ None → NoneNamed (lost_tables versions v q)
    (first_piece t r ∷ [])
one_named versions v q t r none p (inl e) n m =
    at_atom n (subst (λ (x : PlainPiece). In n x.atoms) (sym e) m)
  where
    at_atom : (n : List ℕ) → In n (t ∷ []) → get (lost_tables versions v q) n ≡ None
    at_atom n (inl i) = subst (λ (x : List ℕ). get (lost_tables versions v q) x ≡ None) i none
    at_atom n (inr i) = absurd i
one_named versions v q t r none p (inr i) n m = absurd i

module _ (versions : List PlainVersion) (are : AreVersions None no_tables versions) (book : Book)
    (valid : IsValidBook book) (v q : ℕ) (t : List ℕ) (r : Read)
    (asked : IsQuestion (tables_from no_tables versions q) t r)
    (none : get (lost_tables versions v q) t ≡ None) where
  begins_typed : AllTyped (tables_from no_tables versions q) (first_piece t r ∷ [])
  begins_typed = one_typed (tables_from no_tables versions q) (first_piece t r)
      (first_typed (tables_from no_tables versions q) (valid_at versions are q).schema t r asked)

  pub table_typed : AllTyped (tables_from no_tables versions v)
      (unfolded_to book versions v q (first_piece t r ∷ []))
  table_typed = pieces_typed versions are v q book valid (first_piece t r ∷ []) begins_typed
      (one_named versions v q t r none)

  -- the unfolded pieces of one table are its selection and projection
  pub table_means : VersionsHold versions → (db : Database)
      → IsValidDatabase (tables_from no_tables versions v) db
      → all_mean (tables_from no_tables versions v) db
      (unfolded_to book versions v q (first_piece t r ∷ []))
      ≡ read_of r (columns_of (tables_from no_tables versions q) t)
      (rows_under (get (migrated_from versions v q db) t))
  table_means hold db h =
      pieces_mean versions are v q book valid (first_piece t r ∷ []) begins_typed
      (one_named versions v q t r none) hold db h
      ∙ alone (tables_from no_tables versions q) (migrated_from versions v q db) (first_piece t r)
      ∙ first_means (tables_from no_tables versions q) (valid_at versions are q).schema t r asked
      (migrated_from versions v q db)

  pub table_valid : ValidInVersions versions → ValidInTest r.test
      → ValidInPieces (unfolded_to book versions v q (first_piece t r ∷ []))
  table_valid kept h = pieces_valid versions are v q book valid (first_piece t r ∷ []) begins_typed
      (one_named versions v q t r none) kept (one_valid t r h)

  pub table_output : (p : PlainPiece) → In p (unfolded_to book versions v q (first_piece t r ∷ []))
      → output_types (tables_from no_tables versions v) p
      ≡ output_types (tables_from no_tables versions q) (first_piece t r)
  table_output =
      pieces_output versions are v q book valid (first_piece t r ∷ []) begins_typed
      (one_named versions v q t r none)
      (output_types (tables_from no_tables versions q) (first_piece t r))
      (one_output (tables_from no_tables versions q) (first_piece t r))

-- ---- several items, and several branches

module _ (book : Book) (valid : IsValidBook book) (past : Past) (is : IsPast past)
    (each : EachHolds past) (hold : VersionsHold past.versions) (m q : ℕ) where
  one_item : (t : List ℕ) (r : Read) → IsQuestion (tables_of past q) t r
      → get (lost_tables past.versions (version_at past m) q) t ≡ None
      → unfolded_read book past m q t r ≡ read_of r (columns_of (tables_of past q) t)
      (rows_under (get (migrated past m q) t))
  one_item t r asked none =
      table_means past.versions is.evolved book valid (version_at past m) q t r asked none hold
      (database_at past m) (record { database = is.each m; values = each m })

  all_items : (reads : List Read) (from : List Item) → AreQuestions (tables_of past q) from reads
      → ((i : Item) → In i from → get (lost_tables past.versions (version_at past m) q) i.0 ≡ None)
      → unfolded_reads book past m q reads from
      ≡ read_rows reads (item_columns (tables_of past q) from)
      (item_rows (migrated past m q) from)
  all_items [] from h none = refl
  all_items (r ∷ reads) [] h none = refl
  all_items (r ∷ reads) (i ∷ from) h none =
      ap (λ (x : Relation). x ∷ unfolded_reads book past m q reads from)
      (one_item i.0 r h.0 (none i (inl refl)))
      ∙ ap (λ (xs : List Relation). read_of r (columns_of (tables_of past q) i.0)
      (rows_under (get (migrated past m q) i.0)) ∷ xs)
      (all_items reads from h.1 (λ j k. none j (inr k)))

  one_branch : (reads : PlainBranch → List Read) (b : PlainBranch)
      → Suffices (tables_of past q) (reads b) b
      → ((i : Item) → In i b.from → get (lost_tables past.versions (version_at past m) q) i.0
      ≡ None)
      → unfolded_answers book past m q reads b
      ≡ answers_read (tables_of past q) (migrated past m q) reads b
  one_branch reads b s none =
      ap (λ (rs : List Relation). answers_over
      (read_columns (reads b) (item_columns (tables_of past q) b.from)) rs b.outs b.cond)
      (all_items (reads b) b.from s.asked none)

  all_branches : (reads : PlainBranch → List Read) (branches : List PlainBranch)
      → ((b : PlainBranch) → In b branches → Suffices (tables_of past q) (reads b) b)
      → ((b : PlainBranch) → In b branches → (i : Item) → In i b.from
      → get (lost_tables past.versions (version_at past m) q) i.0 ≡ None)
      → flat_map (unfolded_answers book past m q reads) branches
      ≡ flat_map (answers_read (tables_of past q) (migrated past m q) reads) branches
  all_branches reads [] s none = refl
  all_branches reads (b ∷ branches) s none =
      let here = one_branch reads b (s b (inl refl)) (none b (inl refl)) in
      let rest = all_branches reads branches (λ c k. s c (inr k)) (λ c k. none c (inr k)) in
      cc

  pub moment_read : (reads : PlainBranch → List Read) (branches : List PlainBranch)
      → ((b : PlainBranch) → In b branches → Suffices (tables_of past q) (reads b) b)
      → ((b : PlainBranch) → In b branches → (i : Item) → In i b.from
      → get (lost_tables past.versions (version_at past m) q) i.0 ≡ None)
      → plain (tables_of past q) branches (migrated past m q)
      ≡ asked_by_pieces book past m q reads branches
  moment_read reads branches s none =
      sym (ap (set_of row_cmp) (all_branches reads branches s none)
      ∙ same_plain (tables_of past q) (migrated past m q) branches reads
      (λ b k. ((s b k).many, (s b k).enough)))
