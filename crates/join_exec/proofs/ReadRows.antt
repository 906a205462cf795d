-- The rows that are read of a table are what its relation has in the columns that were read.
use Rattle.std.proofs.Common.{◌≡◌, ℕ, true, List, [], ◌∷◌, map, length, refl, sym, ap, ◌∙◌, subst}
use Rattle.std.proofs.lemmas.List.{length-map}
use Rattle.relations_spec.specs.Sets.{Ascends, In, set_of}
use Rattle.relations_spec.specs.Spans.{Span, covers}
use Rattle.relations_spec.proofs.Held.{in_at, at_ascends, IsHeld}
use Rattle.relations_spec.proofs.SetLaws.{in_map, from_map, in_set, from_set, set_ascends, one_list}
use Rattle.prima_base.specs.Columns.{Column}
use Rattle.prima_base.specs.Order.{bytes_cmp, row_cmp}
use Rattle.prima_base.specs.OrderLaws.{row_exact}
use Rattle.prima_base.specs.Timed.{entries_of, rows_at}
use Rattle.prima_base.specs.declared.timed_row.TimedRow.{TimedRow}
use Rattle.prima_base.specs.declared.value.Value.{Value}
use Rattle.cond_expr.specs.declared.expr.Column.{Column as AtomColumn}
use Rattle.cond_expr.specs.AtomColumns.{columns_at}
use Rattle.smo_ops_spec.specs.Making.{named}
use Rattle.schema_catalog.specs.Databases.{cell}
use Rattle.history_store.specs.Store.{Store, relation_at, row_at, IsStore}
use Rattle.join_exec_spec.specs.Fitting.{Fit, AreOwn}
use Rattle.join_exec.specs.Reading.{AreNames}
use Rattle.join_exec.specs.Gathered.{IsGathered}
use Rattle.join_exec.proofs.LeftNames.{names_left, as_many}
use Rattle.join_exec.proofs.RelationRows.{relation_row, row_of_key}

own_columns : (i : ℕ) (columns : List Column) → AreOwn i (columns_at i columns)
own_columns i [] = tt
own_columns i (c ∷ columns) = (refl, own_columns i columns)

many_at : (i : ℕ) (columns : List Column) → length (columns_at i columns) ≡ length columns
many_at i columns = length-map columns _

module _ (s : Store) (slice : Span) (names : List (List ℕ)) (rows : List TimedRow)
    (g : IsGathered s slice names (entries_of rows)) where
  abbrev cut_row : List Value → List Value
  cut_row row = map (cell s.columns row) names

  abbrev cut_rows : ℕ → List (List Value)
  cut_rows m = map cut_row (relation_at s m)

  there : (m : ℕ) (x : List Value) → IsHeld (entries_of rows) x m → In x (cut_rows m)
  there m x h =
      let k = (g.has x m).0 h in
      subst (λ (y : List Value). In y (cut_rows m)) (sym k.2)
      (in_map cut_row (row_at k.0 m s.cells) (relation_at s m) (row_of_key s m k.0 k.1.0))

  back : (m : ℕ) (x : List Value) → covers slice m ≡ true → In x (cut_rows m)
      → IsHeld (entries_of rows) x m
  back m x inside h =
      let f = from_map cut_row x (relation_at s m) h in
      let k = relation_row s m f.0 f.1 in
      (g.has x m).1 (k.0, (k.1, inside), sym f.2 ∙ sym (ap cut_row k.2))

  pub rows_read : (m : ℕ) → covers slice m ≡ true → rows_at rows m ≡ set_of row_cmp (cut_rows m)
  rows_read m inside = one_list row_cmp row_exact (rows_at rows m) (set_of row_cmp (cut_rows m))
      (at_ascends row_cmp row_exact (entries_of rows) m)
      (set_ascends row_cmp row_exact (cut_rows m)) (record {
        there = λ x h. in_set row_cmp row_exact x (cut_rows m)
            (there m x ((in_at row_cmp row_exact (entries_of rows) x m).0 h));
        back = λ x h. (in_at row_cmp row_exact (entries_of rows) x m).1
            (back m x inside (from_set row_cmp row_exact x (cut_rows m) h));
      })

-- the same of what a call made, step by step
module _ (s : Store) (slice : Span) (i : ℕ) (names given again : List (List ℕ))
    (rows : List TimedRow) (its left shown : List Column)
    (columns : List AtomColumn)
    (is : given ≡ names) (g : IsGathered s slice given (entries_of rows))
    (asked : again ≡ names) (stored : its ≡ s.columns) (chosen : left ≡ named again its)
    (seen : shown ≡ left) (read : columns ≡ columns_at i shown) where
  gathered : IsGathered s slice names (entries_of rows)
  gathered = subst (λ (ns : List (List ℕ)). IsGathered s slice ns (entries_of rows)) is g

  pub made_columns : columns ≡ columns_at i (named names s.columns)
  made_columns = read ∙ ap (columns_at i) (seen ∙ chosen
      ∙ ap (λ (ns : List (List ℕ)). named ns its) asked ∙ ap (named names) stored)

  pub made_own : AreOwn i columns
  made_own = subst (AreOwn i) (sym read) (own_columns i shown)

  pub made_fit : IsStore s → AreNames s.columns names → Ascends bytes_cmp names
      → Fit (length columns) (entries_of rows)
  made_fit w known up =
      let many : length columns ≡ length names =
      ap (λ (cs : List AtomColumn). length cs) made_columns ∙ many_at i (named names s.columns)
      ∙ as_many names s.columns (names_left names s.columns up w.columns known) in
      subst (λ n. Fit n (entries_of rows)) (sym many) gathered.fit

  pub made_rows : (m : ℕ) → covers slice m ≡ true
      → rows_at rows m ≡ set_of row_cmp (map (λ row. map (cell s.columns row) names)
      (relation_at s m))
  made_rows m inside = rows_read s slice names rows gathered m inside
