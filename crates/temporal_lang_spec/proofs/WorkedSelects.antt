-- For worked rows: changes of one table, what they gain and lose, what is tested of a CREATE TABLE,
-- and queries of one branch over one table.
use Rattle.std.specs.Prelude.{◌≡◌, ℕ, ◌+◌, ◌-◌, ◌++◌, ◌||◌, List, [], ◌∷◌, not, cond, length, map}
use Rattle.std.specs.Prelude.{is_some, nat_le, Option, Some, None}
use Rattle.std.proofs.Common.{ap, ◌∙◌, arith}
use Rattle.std.specs.Option.{unwrap_or}
use Rattle.std.specs.FinMap.{get, insert, remove, len, len-insert, len-remove}
use Rattle.std.specs.Cmp.Lexicographic.{nat_list_cmp_total}
use Rattle.relations_spec.specs.Sets.{set_of}
use Rattle.relations_spec.specs.Timeline.{Stage}
use Rattle.prima_base.specs.Order.{row_cmp}
use Rattle.prima_base.specs.declared.refusal.Refusal.TheVariants.{NoTable, Ambiguous}
use Rattle.prima_base.specs.declared.refusal.What.TheVariants.{Tables as TABLES}
use Rattle.prima_base.specs.declared.refusal.OpRefusal.{OpRefusal}
use Rattle.prima_base.specs.declared.refusal.OpRefusal.TheVariants.{Exists, TooMany}
use Rattle.prima_base.specs.Columns.{Column, names_of}
use Rattle.prima_base.specs.Limits.{max_tables}
use Rattle.schema_catalog.specs.Tables.{Tables}
use Rattle.schema_catalog.specs.Databases.{DatabaseEntry, Rows, Database}
use Rattle.cond_expr.specs.Trees.{Tree, Test, fill, fill_test}
use Rattle.smo_ops_types.specs.Operators.{create_table}
use Rattle.smo_ops_types.specs.Changes.{PlainChange, table_of}
use Rattle.smo_ops_types.specs.Commands.{PlainBody, PlainCommand}
use Rattle.smo_ops_spec.specs.First.{unless, where_so, first_refusal}
use Rattle.smo_ops_spec.specs.Making.{in_order}
use Rattle.smo_ops_spec.specs.After.{op_fault}
use Rattle.smo_ops_spec.specs.Checks.{Fault, tests_after}
use Rattle.smo_ops_spec.specs.OneRow.{Row, Relation}
use Rattle.smo_ops_spec.specs.Effects.{relation_after, with_changed, database_after, gained_rows}
use Rattle.smo_ops_spec.specs.Effects.{gained, lost, rows_under}
use Rattle.smo_ops_spec.specs.Preconditions.{among, is_some_column, each_once, few_columns}
use Rattle.smo_ops_spec.proofs.CountingLaws.{self_gains_nothing, gains_nothing, gained_step}
use Rattle.smo_ops_spec.proofs.CountingLaws.{lost_with}
use Rattle.plain_answers_spec.specs.Branches.{PlainBranch, plain}
use Rattle.plain_answers_spec.specs.Choosing.{answers_over}
use Rattle.plain_answers_spec.specs.Naming.{all_references}
use Rattle.cond_expr.specs.AtomColumns.{kinds_of_atoms}
use Rattle.temporal_lang_types.specs.declared.when.When.{When}
use Rattle.temporal_lang_types.specs.Queries.{a_query}
use Rattle.temporal_lang_spec.specs.Atoms.{Source, to_atoms, filled_branch, branches_with_atoms}
use Rattle.temporal_lang_spec.specs.Checking.{reference_test, branch_types, period_tests}
use Rattle.temporal_lang_spec.specs.Checking.{query_tests}

abbrev pub command : ℕ → PlainBody → PlainCommand
command stamp body = record { stamp = stamp; body = body }

abbrev pub stage : ℕ → Relation → Stage Row
stage m items = record { start = m; items = items }

-- ---- a change of a table with these columns and rows

pub changed_at : (tables : Tables) (db : Database) (change : PlainChange) (columns : List Column)
    (rows : Relation)
    → get tables (table_of change) ≡ Some columns → get db (table_of change) ≡ Some (Rows rows)
    → database_after tables change db ≡ insert db (table_of change)
    (Rows (relation_after columns change rows))
changed_at tables db change columns rows h k =
    ap (λ (o : Option (List Column)). with_changed (relation_after (unwrap_or o []) change)
    (get db (table_of change)) (table_of change) db) h
    ∙ ap (λ (e : Option DatabaseEntry). with_changed (relation_after columns change) e
    (table_of change) db) k

-- what is gained and lost where one table alone has other rows
module _ (db : Database) (n : List ℕ) (was now : Relation)
    (there : get db n ≡ Some (Rows was)) where
  pub gained_is : gained db (insert db n (Rows now)) ≡ length (gained_rows was now)
  gained_is =
      let nothing : gained db db ≡ 0 = self_gains_nothing db in
      let none : length (gained_rows was was) ≡ 0 = ap length (gains_nothing was) in
      let gain : gained db (insert db n (Rows now)) + length (gained_rows was was)
      ≡ gained db db + length (gained_rows was now) =
      gained_step db n (Rows was) (Rows now) db (Rows was) there there in
      omega (arith, nothing, none, gain)

  pub lost_is : lost db (insert db n (Rows now)) ≡ length (gained_rows now was)
  lost_is =
      let nothing : lost db db ≡ 0 = self_gains_nothing db in
      let none : length (gained_rows was was) ≡ 0 = ap length (gains_nothing was) in
      let loss : lost db (insert db n (Rows now)) + length (gained_rows was was)
      ≡ lost db db + length (gained_rows now was) =
      lost_with db n (Rows was) (Rows now) there db (Rows was) there in
      omega (arith, nothing, none, loss)

-- what is tested of a change whose first node has this number, by its table's columns
abbrev pub change_by : PlainChange → ℕ → Option (List Column) → List Fault
change_by change at o = unless (is_some o) (NoTable (table_of change))
    ∷ tests_after (unwrap_or o []) change at

-- ---- a CREATE TABLE, by what stands under its name and how many tables there are after it

abbrev pub creating_by : List ℕ → List Column → Option (List Column) → ℕ → Option OpRefusal
creating_by n columns o count =
    first_refusal (unless (not (is_some o) || among n []) (Exists n) ∷ is_some_column n columns
    ∷ each_once n (names_of columns) ∷ few_columns columns
    ∷ unless (nat_le count max_tables) (TooMany TABLES max_tables) ∷ [])

pub creates : (tables : Tables) (n : List ℕ) (columns : List Column) (count : ℕ)
    → get tables n ≡ None → len (insert tables n (in_order columns)) ≡ count
    → op_fault tables (create_table n columns) ≡ creating_by n columns None count
creates tables n columns count free many =
    ap (λ (o : Option (List Column)). creating_by n columns o
    (len (insert tables n (in_order columns)))) free ∙ ap (creating_by n columns None) many

-- how many tables there are with one more, and with one less
pub one_more : (tables : Tables) (n : List ℕ) (columns : List Column) (count : ℕ)
    → get tables n ≡ None → len tables ≡ count → len (insert tables n columns) ≡ count + 1
one_more tables n columns count free many =
    len-insert nat_list_cmp_total tables n columns
    ∙ ap (λ (o : Option (List Column)). cond (is_some o) (len tables) (len tables + 1)) free
    ∙ ap (λ k. k + 1) many

pub one_less : (tables : Tables) (n : List ℕ) (columns : List Column) (count : ℕ)
    → get tables n ≡ Some columns → len tables ≡ count → len (remove tables n) ≡ count - 1
one_less tables n columns count there many =
    len-remove nat_list_cmp_total tables n
    ∙ ap (λ (o : Option (List Column)). cond (is_some o) (len tables - 1) (len tables)) there
    ∙ ap (λ k. k - 1) many

-- ---- SELECT outs FROM n WHERE cond, its references as they are written

abbrev pub select : List ℕ → List Tree → Test → List PlainBranch
select n outs cond = record { outs = outs; from = (n, n) ∷ []; cond = cond } ∷ []

abbrev source : List ℕ → Option (List Column) → List Source
source n o = record { alias = n; columns = unwrap_or o [] } ∷ []

abbrev pub answers_by : List ℕ → List Tree → Test → Option (List Column) → Option DatabaseEntry
    → Relation
answers_by n outs cond o e =
    set_of row_cmp (answers_over (unwrap_or o [] ∷ []) (rows_under e ∷ [])
    (map (fill (to_atoms (source n o))) outs) (fill_test (to_atoms (source n o)) cond) ++ [])

-- what it answers, by the table's columns and its rows
pub selected : (tables : Tables) (db : Database) (n : List ℕ) (outs : List Tree) (cond : Test)
    (columns : List Column) (rows : Relation)
    → get tables n ≡ Some columns → get db n ≡ Some (Rows rows)
    → plain tables (branches_with_atoms tables (select n outs cond)) db
    ≡ answers_by n outs cond (Some columns) (Some (Rows rows))
selected tables db n outs cond columns rows h k =
    ap (λ (o : Option (List Column)). answers_by n outs cond o (get db n)) h
    ∙ ap (λ (e : Option DatabaseEntry). answers_by n outs cond (Some columns) e) k

abbrev pub tests_by : List ℕ → List Tree → Test → When → Option (List Column) → List Fault
tests_by n outs cond when o =
    (((unless (is_some o) (NoTable n) ∷ where_so (among n []) (Ambiguous n) ∷ [])
    ++ map (reference_test (source n o)) (all_references outs cond)) ++ [])
    ++ (((branch_types (kinds_of_atoms (unwrap_or o [] ∷ [])) 0
    (filled_branch (to_atoms (source n o))
    (record { outs = outs; from = (n, n) ∷ []; cond = cond })) ++ []) ++ [])
    ++ period_tests when [])

-- what is tested of it, by the table's columns
pub tested : (tables : Tables) (version : ℕ) (n : List ℕ) (outs : List Tree) (cond : Test)
    (when : When) (columns : List Column) → get tables n ≡ Some columns
    → query_tests tables (a_query version (select n outs cond) when [])
    ≡ tests_by n outs cond when (Some columns)
tested tables version n outs cond when columns h = ap (tests_by n outs cond when) h
