-- What the query over all columns of a table asks of a moment are the table's rows then; so its
-- listing tells which rows begin and end at a moment.
use Rattle.std.specs.Prelude.{◌≡◌, ◌<◌, ◌-◌, ◌++◌, ℕ, Bool, not, cond, List, [], ◌∷◌}
use Rattle.std.specs.Prelude.{map, Option, Some}
use Rattle.std.proofs.Common.{refl, sym, ap, subst, ◌∙◌, inl, inr, arith, append-nil}
use Rattle.std.specs.List.{filter}
use Rattle.std.specs.Option.{unwrap_or}
use Rattle.std.specs.FinMap.{get}
use Rattle.relations_spec.specs.Sets.{In, Ascends, set_of}
use Rattle.relations_spec.specs.Spans.{always as all_moments, forever}
use Rattle.relations_spec.specs.Listing.{IsListing}
use Rattle.relations_spec.proofs.SetLaws.{set_itself}
use Rattle.relations_spec.specs.Choices.{choices}
use Rattle.prima_base.specs.Order.{row_cmp}
use Rattle.prima_base.specs.OrderLaws.{row_exact}
use Rattle.prima_base.specs.Columns.{Column, names_of, AreColumns, IsRow, IsRelation}
use Rattle.schema_catalog.specs.Places.{NamedColumns}
use Rattle.schema_catalog.specs.Tables.{Tables}
use Rattle.schema_catalog.specs.Databases.{Database, IsDatabase, cell}
use Rattle.schema_catalog.proofs.Cells.{cells_again}
use Rattle.cond_expr.specs.declared.expr.Whose.TheVariants.{Atom}
use Rattle.cond_expr.specs.Trees.{Tree, column, always, fill}
use Rattle.cond_expr.specs.Values.{value}
use Rattle.smo_ops_spec.specs.OneRow.{Row, Relation}
use Rattle.smo_ops_spec.specs.Effects.{columns_of, rows_under, gained_rows}
use Rattle.smo_ops_spec.specs.Preconditions.{among}
use Rattle.smo_ops_spec.specs.Past.{Past, tables_of}
use Rattle.smo_ops_spec.specs.ValidPast.{IsPast}
use Rattle.smo_ops_spec.proofs.NameLaws.{in_among, in_names}
use Rattle.smo_ops_versions_spec.proofs.WayLeads.{valid_at}
use Rattle.plain_answers_spec.specs.Choosing.{answered, chosen_cells, choice_meets}
use Rattle.plain_answers_spec.specs.Branches.{plain}
use Rattle.temporal_lang_spec.specs.Atoms.{branches_with_atoms, sources_of, to_atoms}
use Rattle.temporal_lang_spec.specs.Atoms.{place_of_column}
use Rattle.temporal_lang_spec.specs.Answers.{asked_at}
use Rattle.temporal_lang_spec.proofs.StageLaws.{listing_is}
use Rattle.version_export_past_spec.specs.Rows.{ending, beginning, table_changes}
use Rattle.version_export_past_spec.specs.Listed.{begun_at, ended_at}
use Rattle.version_export_past_spec.specs.Showing.{shown_by, tables_in}
use Rattle.version_export_past_spec.proofs.Changing.{table_found, relation_under}
use Rattle.version_export_past_spec.proofs.ListedChanges.{begun_is, ended_is}
use Rattle.version_export.specs.Exported.{free_columns, whole_branch, whole_query}
use Rattle.version_export.specs.Seen.{rows_listed}

-- ---- of each row the query gives the row itself

module _ (tables : Tables) (t : NamedColumns) (there : get tables t.0 ≡ Some t.1) where
  columns_are : columns_of tables t.0 ≡ t.1
  columns_are = ap (λ (o : Option (List Column)). unwrap_or o []) there

  first_place : (c : Column) → In c t.1
      → place_of_column (sources_of tables ((t.0, t.0) ∷ [])) c.0 ≡ 0
  first_place c m = ap (λ (b : Bool). cond (not b) 1 0)
      (ap (λ (cs : List Column). among c.0 (names_of cs)) columns_are
      ∙ in_among c.0 (names_of t.1) (in_names t.1 c m))

  outs_give : (row : Row) (cs : List Column) → ((c : Column) → In c cs → In c t.1)
      → map (value (chosen_cells (columns_of tables t.0 ∷ []) (row ∷ [])))
      (map (fill (to_atoms (sources_of tables ((t.0, t.0) ∷ [])))) (free_columns cs))
      ≡ map (λ (c : Column). cell t.1 row c.0) cs
  outs_give row [] h = refl
  outs_give row (c ∷ cs) h =
      ap (λ (k : ℕ). value (chosen_cells (columns_of tables t.0 ∷ []) (row ∷ []))
      (column (Atom k) c.0)
      ∷ map (value (chosen_cells (columns_of tables t.0 ∷ []) (row ∷ [])))
      (map (fill (to_atoms (sources_of tables ((t.0, t.0) ∷ [])))) (free_columns cs)))
      (first_place c (h c (inl refl)))
      ∙ ap (λ (ds : List Column). cell ds row c.0
      ∷ map (value (chosen_cells (columns_of tables t.0 ∷ []) (row ∷ [])))
      (map (fill (to_atoms (sources_of tables ((t.0, t.0) ∷ [])))) (free_columns cs))) columns_are
      ∙ ap (λ (vs : Row). cell t.1 row c.0 ∷ vs) (outs_give row cs (λ d m. h d (inr m)))

  abbrev outs : List Tree
  outs = map (fill (to_atoms (sources_of tables ((t.0, t.0) ∷ [])))) (free_columns t.1)

  row_given : (row : Row) → AreColumns t.1 → IsRow t.1 row
      → answered (columns_of tables t.0 ∷ []) outs (row ∷ []) ≡ row
  row_given row a r = outs_give row t.1 (λ c m. m) ∙ cells_again t.1 row a r

  rows_given : (rows : Relation) → AreColumns t.1 → ((row : Row) → In row rows → IsRow t.1 row)
      → map (answered (columns_of tables t.0 ∷ []) outs)
      (filter (choice_meets (columns_of tables t.0 ∷ []) always) (choices (rows ∷ []))) ≡ rows
  rows_given [] a h = refl
  rows_given (row ∷ rows) a h =
      ap (λ (r : Row). r ∷ map (answered (columns_of tables t.0 ∷ []) outs)
      (filter (choice_meets (columns_of tables t.0 ∷ []) always) (choices (rows ∷ []))))
      (row_given row a (h row (inl refl)))
      ∙ ap (λ (rs : Relation). row ∷ rs) (rows_given rows a (λ r m. h r (inr m)))

  pub whole_plain : (db : Database) → AreColumns t.1 → IsRelation t.1 (rows_under (get db t.0))
      → plain tables (branches_with_atoms tables (whole_branch t ∷ [])) db
      ≡ rows_under (get db t.0)
  whole_plain db a r =
      ap (set_of row_cmp) (append-nil (map (answered (columns_of tables t.0 ∷ []) outs)
      (filter (choice_meets (columns_of tables t.0 ∷ []) always)
      (choices (rows_under (get db t.0) ∷ []))))
      ∙ rows_given (rows_under (get db t.0)) a r.fitting)
      ∙ set_itself row_cmp row_exact (rows_under (get db t.0)) r.ascending

-- ---- of a past

module _ (past : Past) (version : ℕ) (h : IsPast past) (t : NamedColumns)
    (i : In t (tables_in past version))
    (shows : (m : ℕ) → IsDatabase (tables_of past version) (shown_by past version m)) where
  there : get (tables_of past version) t.0 ≡ Some t.1
  there = table_found (tables_of past version) t i

  are : AreColumns t.1
  are = (valid_at past.versions h.evolved version).schema t.0 t.1 there

  rows_then : (m : ℕ) → IsRelation t.1 (rows_under (get (shown_by past version m) t.0))
  rows_then m = relation_under (tables_of past version) (shown_by past version m) t (shows m) i

  pub whole_asked : (m : ℕ) → asked_at past (whole_query version t) m
      ≡ rows_under (get (shown_by past version m) t.0)
  whole_asked m = whole_plain (tables_of past version) t there (shown_by past version m) are
      (rows_then m)

  listed : IsListing row_cmp (asked_at past (whole_query version t)) all_moments
      (rows_listed past version t)
  listed = listing_is past (whole_query version t) h.states h.begun (omega arith) (omega arith)

  ascends : (m : ℕ) → Ascends row_cmp (asked_at past (whole_query version t) m)
  ascends m = subst (λ (r : Relation). Ascends row_cmp r) (sym (whole_asked m))
      (rows_then m).ascending

  -- so the changes of a table at a moment are those that its listing tells
  pub listed_changes : (m : ℕ) → 0 < m → m < forever
      → table_changes t (rows_under (get (shown_by past version (m - 1)) t.0))
      (rows_under (get (shown_by past version m) t.0))
      ≡ map (ending t) (ended_at (rows_listed past version t) m)
      ++ map (beginning t) (begun_at (rows_listed past version t) m)
  listed_changes m a b =
      ap (λ (old : Relation). table_changes t old
      (rows_under (get (shown_by past version m) t.0))) (sym (whole_asked (m - 1)))
      ∙ ap (λ (new : Relation). table_changes t (asked_at past (whole_query version t) (m - 1)) new)
      (sym (whole_asked m))
      ∙ ap (λ (rows : Relation). map (ending t) rows ++ map (beginning t)
      (gained_rows (asked_at past (whole_query version t) (m - 1))
      (asked_at past (whole_query version t) m)))
      (ended_is (asked_at past (whole_query version t)) all_moments (rows_listed past version t)
      listed ascends m a b)
      ∙ ap (λ (rows : Relation). map (ending t) (ended_at (rows_listed past version t) m)
      ++ map (beginning t) rows)
      (begun_is (asked_at past (whole_query version t)) all_moments (rows_listed past version t)
      listed ascends m a b)
