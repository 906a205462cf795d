-- Worked rows: a table that is decomposed into two, with a join as the inverse, and what is
-- exported of the version before.
use Rattle.std.specs.Prelude.{◌≡◌, ℕ, List, [], ◌∷◌, ◌++◌, codes, length, map, Option, Some}
use Rattle.std.proofs.Common.{refl, sym, ap, subst, ◌∙◌, arith}
use Rattle.std.specs.FinMap.{get, insert, remove, entries, put, get-insert}
use Rattle.std.specs.FinMap.{entries-insert, len-empty, len-entries}
use Rattle.std.specs.Cmp.Lexicographic.{nat_list_cmp_total}
use Rattle.relations_spec.specs.Sets.{set_of}
use Rattle.prima_base.specs.declared.value.ColType.TheVariants.{Int as INT, Text as TEXT}
use Rattle.prima_base.specs.Order.{bytes_cmp}
use Rattle.prima_base.specs.Columns.{Column}
use Rattle.schema_catalog.specs.Places.{NamedColumns}
use Rattle.schema_catalog.specs.Databases.{Rows, Database, DatabaseEntry}
use Rattle.cond_expr.specs.declared.expr.Whose.TheVariants.{Atom}
use Rattle.cond_expr.specs.declared.expr.CmpOp.TheVariants.{Eq}
use Rattle.cond_expr.specs.Trees.{Test, column, constant, always, compared, all_of, no_tests}
use Rattle.cond_expr.specs.Trees.{a_test}
use Rattle.smo_ops_types.specs.Operators.{create_table, decompose_table, join_table}
use Rattle.smo_ops_types.specs.Changes.{PlainChange, insertion, deletion}
use Rattle.smo_ops_types.specs.Commands.{PlainCommand, PlainVersion, changing, evolving}
use Rattle.smo_ops_spec.specs.OneRow.{Row, Relation}
use Rattle.smo_ops_spec.specs.Effects.{rows_under}
use Rattle.smo_ops_spec.specs.Past.{Past, a_state, no_tables, no_database}
use Rattle.smo_ops_versions_spec.specs.Migration.{migrated}
use Rattle.smo_ops_versions_spec.proofs.WorkedWords.{int, text}
use Rattle.smo_ops_versions_spec.proofs.WorkedWays.{id, name, city, emp, who, home, emp_columns}
use Rattle.smo_ops_versions_spec.proofs.WorkedWays.{with_emp}
use Rattle.smo_ops_versions_spec.proofs.WorkedWays.{in_two, emp_back_of}
use Rattle.version_export_past_spec.specs.Rows.{table_changes}
use Rattle.version_export_past_spec.specs.Commands.{a_command, if_any, row_commands}
use Rattle.version_export_past_spec.specs.Showing.{shown_by, tables_in}
use Rattle.std.specs.Fmt.{digits}
use Rattle.smo_parse.specs.Texts.{operator_text}
use Rattle.version_export_lines_spec.specs.Lines.{body_text}
use Rattle.version_export.specs.Statements.{statement_of, creation_text}
use Rattle.version_export.specs.Refused.{export_lines, line_of}
use Rattle.version_export.proofs.Unrefused.{statements_are}
use Rattle.version_export.proofs.WholeExport.{text_of_one}
use Rattle.version_export.specs.Exported.{exported, creating_one, after_creation, rows_exported}

-- ---- AT 1 EVOLVE CREATE TABLE emp (id INT, name TEXT, city TEXT);
-- AT 2 INSERT INTO emp (id, name, city) VALUES (1, 'Ann', 'Oslo'); AT 3 EVOLVE DECOMPOSE TABLE emp
-- INTO who (id, name), home (id, city) INVERSE JOIN TABLE who, home INTO emp WHERE TRUE; AT 5
-- UPDATE home SET city = 'Bergen' WHERE id = 1;

abbrev ann_in : List ℕ → Row
ann_in place = text place ∷ int 1 ∷ text (codes "Ann") ∷ []

abbrev ann : Relation
ann = (int 1 ∷ text (codes "Ann") ∷ []) ∷ []

abbrev place : List ℕ → Relation
place p = (text p ∷ int 1 ∷ []) ∷ []

abbrev from_1 : Database
from_1 = insert no_database emp (Rows [])

abbrev from_2 : Database
from_2 = insert from_1 emp (Rows (ann_in (codes "Oslo") ∷ []))

abbrev from_3 : Database
from_3 = insert (insert (remove from_2 emp) who (Rows ann)) home (Rows (place (codes "Oslo")))

abbrev from_5 : Database
from_5 = insert from_3 home (Rows (place (codes "Bergen")))

abbrev versions : List PlainVersion
versions = record {
  stamp = 1;
  op = create_table emp ((id, INT) ∷ (name, TEXT) ∷ (city, TEXT) ∷ []) ∷ [];
  inverse = [];
  tables = with_emp;
}
    ∷ record {
      stamp = 3;
      op = decompose_table emp who (id ∷ name ∷ []) home (id ∷ city ∷ []) ∷ [];
      inverse = (join_table who home emp always ∷ []) ∷ [];
      tables = in_two;
    } ∷ []

abbrev past : Past
past = record {
  versions = versions;
  last = Some 5;
  commands = 4;
  sizes = [];
  states = a_state 0 no_database ∷ a_state 1 from_1 ∷ a_state 2 from_2 ∷ a_state 3 from_3
      ∷ a_state 5 from_5 ∷ [];
}

-- ---- the tables of versions 0 and 1

no_entries : {X : Type 0} (es : List X) → length es ≡ 0 → es ≡ []
no_entries [] e = refl
no_entries (x ∷ es) e = absurd (omega arith)

none_in : entries no_tables ≡ []
none_in = no_entries (entries no_tables) (sym (len-entries no_tables)
    ∙ len-empty bytes_cmp (List Column))

abbrev emp_table : NamedColumns
emp_table = (emp, emp_columns)

one_in : entries with_emp ≡ emp_table ∷ []
one_in = entries-insert nat_list_cmp_total no_tables emp emp_columns
    ∙ ap (put bytes_cmp emp emp_columns) none_in

-- ---- what emp shows in version 1 at each moment

shown_1 : get (migrated past 1 1) emp ≡ Some (Rows [])
shown_1 = get-insert nat_list_cmp_total no_database emp (Rows []) emp

shown_2 : get (migrated past 2 1) emp ≡ Some (Rows (ann_in (codes "Oslo") ∷ []))
shown_2 = get-insert nat_list_cmp_total from_1 emp (Rows (ann_in (codes "Oslo") ∷ [])) emp

who_at_3 : get from_3 who ≡ Some (Rows ann)
who_at_3 =
    get-insert nat_list_cmp_total (insert (remove from_2 emp) who (Rows ann)) home
    (Rows (place (codes "Oslo"))) who
    ∙ get-insert nat_list_cmp_total (remove from_2 emp) who (Rows ann) who

home_at_3 : get from_3 home ≡ Some (Rows (place (codes "Oslo")))
home_at_3 = get-insert nat_list_cmp_total (insert (remove from_2 emp) who (Rows ann)) home
    (Rows (place (codes "Oslo"))) home

shown_3 : get (migrated past 3 1) emp ≡ Some (Rows (ann_in (codes "Oslo") ∷ []))
unfolding set_of
shown_3 = emp_back_of from_3 ann (place (codes "Oslo")) who_at_3 home_at_3

shown_4 : get (migrated past 4 1) emp ≡ Some (Rows (ann_in (codes "Oslo") ∷ []))
shown_4 = shown_3

shown_5 : get (migrated past 5 1) emp ≡ Some (Rows (ann_in (codes "Bergen") ∷ []))
unfolding set_of
shown_5 = emp_back_of from_5 ann (place (codes "Bergen"))
    (get-insert nat_list_cmp_total from_3 home (Rows (place (codes "Bergen"))) who ∙ who_at_3)
    (get-insert nat_list_cmp_total from_3 home (Rows (place (codes "Bergen"))) home)

-- ---- EXPORT 1

abbrev is_ann_in_oslo : Test
is_ann_in_oslo = all_of
    (a_test (compared Eq (column (Atom 0) city) (constant (text (codes "Oslo"))))
    (a_test (compared Eq (column (Atom 0) id) (constant (int 1)))
    (a_test (compared Eq (column (Atom 0) name) (constant (text (codes "Ann")))) no_tests)))

abbrev ann_begins : List ℕ → PlainChange
ann_begins p = insertion emp ((city, text p) ∷ (id, int 1) ∷ (name, text (codes "Ann")) ∷ [])

abbrev script_1 : List PlainCommand
script_1 = a_command 1 (evolving (create_table emp emp_columns ∷ []) [])
    ∷ a_command 2 (changing (ann_begins (codes "Oslo") ∷ []))
    ∷ a_command 5 (changing (deletion emp is_ann_in_oslo ∷ ann_begins (codes "Bergen") ∷ [])) ∷ []

-- of one table, by what it shows at the moments 1 to 5
abbrev by_rows : Option DatabaseEntry
    → Option DatabaseEntry
    → Option DatabaseEntry
    → Option DatabaseEntry
    → Option DatabaseEntry → List PlainCommand
by_rows a b c d e = a_command 1 (evolving (create_table emp emp_columns ∷ []) [])
    ∷ (if_any 2 (table_changes emp_table (rows_under a) (rows_under b) ++ [])
    ++ (if_any 3 (table_changes emp_table (rows_under b) (rows_under c) ++ [])
    ++ (if_any 5 (table_changes emp_table (rows_under d) (rows_under e) ++ []) ++ [])))

abbrev by_tables : List NamedColumns → List PlainCommand
by_tables tables = after_creation creating_one 1 tables
    (row_commands tables
    (shown_by past 1) (2 ∷ 3 ∷ 5 ∷ []))

exported_1 : exported creating_one past 1 ≡ script_1
exported_1 =
    ap by_tables one_in
    ∙ ap (λ o. by_rows o (get (migrated past 2 1) emp) (get (migrated past 3 1) emp)
    (get (migrated past 4 1) emp) (get (migrated past 5 1) emp)) shown_1
    ∙ ap (λ o. by_rows (Some (Rows [])) o (get (migrated past 3 1) emp)
    (get (migrated past 4 1) emp) (get (migrated past 5 1) emp)) shown_2
    ∙ ap (λ o. by_rows (Some (Rows [])) (Some (Rows (ann_in (codes "Oslo") ∷ []))) o
    (get (migrated past 4 1) emp) (get (migrated past 5 1) emp)) shown_3
    ∙ ap (λ o. by_rows (Some (Rows [])) (Some (Rows (ann_in (codes "Oslo") ∷ [])))
    (Some (Rows (ann_in (codes "Oslo") ∷ []))) o (get (migrated past 5 1) emp)) shown_4
    ∙ ap (by_rows (Some (Rows [])) (Some (Rows (ann_in (codes "Oslo") ∷ [])))
    (Some (Rows (ann_in (codes "Oslo") ∷ []))) (Some (Rows (ann_in (codes "Oslo") ∷ [])))) shown_5

-- ---- EXPORT 0

exported_0 : exported creating_one past 0 ≡ []
exported_0 = ap (λ tables. after_creation creating_one 1 tables
    (rows_exported past 0)) none_in

-- ---- their lines

text_1 : body_text (creating_one (tables_in past 1)) ≡ creation_text (tables_in past 1)
text_1 = subst (λ (ts : List NamedColumns). body_text (creating_one ts) ≡ creation_text ts)
    (sym one_in) (text_of_one emp_table)

lines_1 : export_lines past 1
    ≡ codes "AT 1 EVOLVE CREATE TABLE emp (city TEXT, id INT, name TEXT);"
    ∷ codes "AT 2 INSERT INTO emp (city, id, name) VALUES ('Oslo', 1, 'Ann');"
    ∷ codes "AT 5 DELETE FROM emp WHERE city = 'Oslo' AND id = 1 AND name = 'Ann' THEN INSERT INTO emp (city, id, name) VALUES ('Bergen', 1, 'Ann');"
    ∷ []
unfolding operator_text digits
lines_1 = ap (map line_of) (statements_are creating_one past 1 text_1
    ∙ ap (map statement_of) exported_1)
