-- Worked rows: a table that is renamed with an inverse. Its past, the table migrated to the version
-- before and the one after, and the answers to queries on both versions.
use Rattle.std.specs.Prelude.{◌≡◌, ◌==◌, ◌≤◌, ◌||◌, ℕ, ◌+◌, List, [], ◌∷◌, ◌++◌, length, not}
use Rattle.std.specs.Prelude.{is_some, Option, Some, None, if◌then◌else◌}
use Rattle.std.proofs.Common.{refl, ap, subst, ◌∙◌, arith}
use Rattle.std.specs.Option.{unwrap_or, option_map}
use Rattle.std.specs.FinMap.{get, insert, remove, len, get-empty, get-insert, len-empty}
use Rattle.std.specs.Cmp.Lexicographic.{nat_list_cmp_total}
use Rattle.prima_base.specs.declared.refusal.OpRefusal.{OpRefusal}
use Rattle.prima_base.specs.declared.refusal.OpRefusal.TheVariants.{Exists, NoTable as NoTableThere}
use Rattle.prima_base.specs.Bytes.{IsTxt, first_control}
use Rattle.relations_spec.specs.Sets.{set_of}
use Rattle.relations_spec.specs.Spans.{span, forever}
use Rattle.relations_spec.specs.Timeline.{Stage, listing_of}
use Rattle.prima_base.specs.Order.{bytes_cmp, row_cmp}
use Rattle.prima_base.specs.Keeping.{kept}
use Rattle.prima_base.specs.declared.refusal.Refusal.TheVariants.{NoVersion}
use Rattle.prima_base.specs.Columns.{Column, IsValid}
use Rattle.schema_catalog.specs.Tables.{Tables}
use Rattle.schema_catalog.specs.Databases.{DatabaseEntry, Rows, Database}
use Rattle.cond_expr.specs.declared.expr.CmpOp.TheVariants.{Eq}
use Rattle.cond_expr.specs.Trees.{constant, always, compared}
use Rattle.smo_ops_types.specs.Operators.{create_table, rename_table}
use Rattle.smo_ops_types.specs.Changes.{PlainChange, insertion, update}
use Rattle.smo_ops_types.specs.Commands.{PlainBody, PlainCommand, PlainVersion, changing, evolving}
use Rattle.smo_ops_spec.specs.OneRow.{Row, Relation}
use Rattle.smo_ops_spec.specs.Making.{from_one}
use Rattle.smo_ops_spec.specs.Effects.{columns_of, relation_after, with_changed, after_each, gained}
use Rattle.smo_ops_spec.specs.Effects.{lost, rows_under}
use Rattle.smo_ops_spec.specs.After.{op_fault, schema_after, migrate}
use Rattle.smo_ops_spec.specs.Evolutions.{evolution_fault}
use Rattle.smo_ops_spec.specs.Past.{State, Past, a_state, no_tables, no_database, tables_of}
use Rattle.smo_ops_spec.specs.Past.{version_at, database_at, beginning, changed_to, evolved_to}
use Rattle.smo_ops_spec.specs.Past.{past_with, from_stamp}
use Rattle.smo_ops_spec.specs.Sizes.{Size, sizes_changed, sizes_evolved}
use Rattle.smo_ops_spec.specs.Counts.{first_excess}
use Rattle.smo_ops_spec.specs.First.{unless, first_refusal}
use Rattle.smo_ops_spec.specs.Preconditions.{among, differ}
use Rattle.smo_ops_spec.specs.Inverses.{inverse_tests, inverse_fault}
use Rattle.smo_ops_spec.specs.Accepts.{operator_refusal, command_fault}
use Rattle.smo_ops_spec.specs.ValidPast.{IsPast}
use Rattle.smo_ops_spec.specs.ValidValues.{PastHolds}
use Rattle.smo_ops_spec.proofs.MemberLaws.{accepted_all}
use Rattle.smo_ops_spec.proofs.PastSteps.{beginning_is_past, stamp_accepted, counts_accepted}
use Rattle.smo_ops_spec.proofs.PastSteps.{body_accepted, stays_valid}
use Rattle.smo_ops_spec.proofs.ValueLaws.{beginning_holds, history_holds}
use Rattle.cond_expr.proofs.ConstantLaws.{small_number}
use Rattle.smo_ops_versions_spec.proofs.RoundTrips.{rename_inverse}
use Rattle.smo_ops_spec.specs.InForce.{in_force}
use Rattle.smo_ops_spec.specs.History.{past_of, past_after, AllAccepted, IsHistory}
use Rattle.smo_ops_versions_spec.specs.Migration.{migrated}
use Rattle.temporal_lang_types.specs.declared.when.When.TheVariants.{Always}
use Rattle.plain_answers_spec.specs.Branches.{PlainBranch}
use Rattle.temporal_lang_types.specs.Queries.{PlainQuery, a_query}
use Rattle.plain_answers_spec.specs.Branches.{plain}
use Rattle.plain_answers_spec.specs.Choosing.{answers_over}
use Rattle.temporal_lang_spec.specs.Answers.{asked_at, stages, answer}
use Rattle.temporal_lang_spec.specs.Accepted.{fault_of_query}
use Rattle.temporal_lang_spec.proofs.WorkedSelects.{gained_is, lost_is, change_by, creates}
use Rattle.temporal_lang_spec.proofs.WorkedSelects.{one_more}
use Rattle.smo_ops_versions_spec.proofs.WorkedWords.{a, b, x, y, s, t, u, int, text, at_atom}
use Rattle.smo_ops_versions_spec.proofs.WorkedWords.{ab_columns}
use Rattle.smo_ops_versions_spec.proofs.WorkedWords.{t_there, u_there}

-- AT 1 EVOLVE CREATE TABLE t (a INT, b TEXT); AT 5 INSERT INTO t (a, b) VALUES (1, 'x'); AT 7
-- UPDATE t SET b = 'y' WHERE a = 1; AT 9 EVOLVE RENAME TABLE t INTO u INVERSE RENAME TABLE u INTO
-- t;
abbrev inserting : PlainChange
inserting = insertion t ((a, int 1) ∷ (b, text x) ∷ [])

abbrev updating : PlainChange
updating = update t ((b, constant (text y)) ∷ []) (compared Eq (at_atom 0 a) (constant (int 1)))

abbrev command : ℕ → PlainBody → PlainCommand
command stamp body = record { stamp = stamp; body = body }

abbrev commands : List PlainCommand
commands = command 1 (evolving (create_table t ab_columns ∷ []) [])
    ∷ command 5 (changing (inserting ∷ [])) ∷ command 7 (changing (updating ∷ []))
    ∷ command 9 (evolving (rename_table t u ∷ []) ((rename_table u t ∷ []) ∷ [])) ∷ []

-- the rows of t at 5 and at 7
abbrev x_rows : Relation
x_rows = (int 1 ∷ text x ∷ []) ∷ []

abbrev y_rows : Relation
y_rows = (int 1 ∷ text y ∷ []) ∷ []

-- the tables of the versions, and the databases from 1, 5, 7 and 9 on
abbrev tables_1 : Tables
tables_1 = insert no_tables t ab_columns

abbrev tables_2 : Tables
tables_2 = schema_after tables_1 (rename_table t u)

abbrev from_1 : Database
from_1 = insert no_database t (Rows [])

abbrev from_5 : Database
from_5 = insert from_1 t (Rows x_rows)

abbrev from_7 : Database
from_7 = insert from_5 t (Rows y_rows)

abbrev from_9 : Database
from_9 = insert (remove from_7 t) u (Rows y_rows)

abbrev version_1 : PlainVersion
version_1 = record { stamp = 1; op = create_table t ab_columns ∷ []; inverse = []; tables = tables_1 }

abbrev version_2 : PlainVersion
version_2 = record {
  stamp = 9;
  op = rename_table t u ∷ [];
  inverse = (rename_table u t ∷ []) ∷ [];
  tables =
      tables_2;
}

abbrev past_1 : Past
past_1 = record {
  versions = version_1 ∷ [];
  last = Some 1;
  commands = 1;
  sizes =
      sizes_evolved no_tables (create_table t ab_columns ∷ []) tables_1 from_1 0 [];
  states =
      a_state 0 no_database ∷ a_state 1 from_1 ∷ [];
}

abbrev past_5 : Past
past_5 = record {
  versions = version_1 ∷ [];
  last = Some 5;
  commands = 2;
  sizes =
      sizes_changed from_1 from_5 past_1.sizes;
  states =
      a_state 0 no_database ∷ a_state 1 from_1 ∷ a_state 5 from_5 ∷ [];
}

abbrev past_7 : Past
past_7 = record {
  versions = version_1 ∷ [];
  last = Some 7;
  commands = 3;
  sizes =
      sizes_changed from_5 from_7 past_5.sizes;
  states =
      a_state 0 no_database ∷ a_state 1 from_1 ∷ a_state 5 from_5 ∷ a_state 7 from_7 ∷ [];
}

abbrev past_9 : Past
past_9 = record {
  versions = version_1 ∷ version_2 ∷ [];
  last = Some 9;
  commands = 4;
  sizes = sizes_evolved tables_1 (rename_table t u ∷ []) tables_2 from_9 1 past_7.sizes;
  states = a_state 0 no_database ∷ a_state 1 from_1 ∷ a_state 5 from_5 ∷ a_state 7 from_7
      ∷ a_state 9 from_9 ∷ [];
}

-- ---- the past, command by command

created : past_with beginning (command 1 (evolving (create_table t ab_columns ∷ []) [])) ≡ past_1
unfolding set_of
created = refl

columns_are : get tables_1 t ≡ Some ab_columns
columns_are = t_there no_tables ab_columns

inserted : after_each tables_1 (inserting ∷ []) from_1 ≡ from_5
inserted =
    ap (λ o. with_changed (relation_after (unwrap_or o []) inserting) (get from_1 t) t from_1)
    columns_are
    ∙ ap (λ e. with_changed (relation_after ab_columns inserting) e t from_1)
    (t_there no_database (Rows []))

updated : after_each tables_1 (updating ∷ []) from_5 ≡ from_7
unfolding set_of
updated =
    ap (λ o. with_changed (relation_after (unwrap_or o []) updating) (get from_5 t) t from_5)
    columns_are
    ∙ ap (λ e. with_changed (relation_after ab_columns updating) e t from_5)
    (t_there from_1 (Rows x_rows))

-- one row is gained and none lost, and then one is gained and one lost
first_gained : gained from_1 from_5 ≡ 1
first_gained = gained_is from_1 t [] x_rows (t_there no_database (Rows []))

first_kept : lost from_1 from_5 ≡ 0
first_kept = lost_is from_1 t [] x_rows (t_there no_database (Rows []))

then_gained : gained from_5 from_7 ≡ 1
then_gained = gained_is from_5 t x_rows y_rows (t_there from_1 (Rows x_rows))

then_lost : lost from_5 from_7 ≡ 1
then_lost = lost_is from_5 t x_rows y_rows (t_there from_1 (Rows x_rows))

one_gained : gained from_1 from_5 + lost from_1 from_5 ≡ 1
one_gained = ap (λ n. n + lost from_1 from_5) first_gained ∙ ap (λ n. 1 + n) first_kept

one_changed : gained from_5 from_7 + lost from_5 from_7 ≡ 2
one_changed = ap (λ n. n + lost from_5 from_7) then_gained ∙ ap (λ n. 1 + n) then_lost

abbrev changed : List Size → ℕ → ℕ → ℕ → Database → List State → Past
changed sizes stamp count n new states = record {
  versions = version_1 ∷ [];
  last = Some stamp;
  commands = count;
  sizes = sizes;
  states = if n == 0 then states else from_stamp stamp new states;
}

at_5 : past_with past_1 (command 5 (changing (inserting ∷ []))) ≡ past_5
at_5 = ap (λ db. changed_to 5 db past_1) inserted
    ∙ ap (λ n. changed past_5.sizes 5 2 n from_5 past_1.states) one_gained

at_7 : past_with past_5 (command 7 (changing (updating ∷ []))) ≡ past_7
at_7 = ap (λ db. changed_to 7 db past_5) updated
    ∙ ap (λ n. changed past_7.sizes 7 3 n from_7 past_5.states) one_changed

at_9 : past_with past_7 (command 9 (evolving (rename_table t u ∷ []) ((rename_table u t ∷ []) ∷ []))) ≡ past_9
at_9 = ap (λ e. evolved_to version_2 (insert (remove from_7 t) u (from_one (λ rows. rows) e))
    past_7) (t_there from_5 (Rows y_rows))

-- five states: the table is empty from 1 on, has (1, 'x') from 5 on and (1, 'y') from 7 on, and is
-- called u from 9 on
past_is : past_of commands ≡ past_9
past_is =
    ap (λ p. past_with (past_with (past_with p (command 5 (changing (inserting ∷ []))))
    (command 7 (changing (updating ∷ []))))
    (command 9 (evolving (rename_table t u ∷ []) ((rename_table u t ∷ []) ∷ [])))) created
    ∙ ap (λ p. past_with (past_with p (command 7 (changing (updating ∷ []))))
    (command 9 (evolving (rename_table t u ∷ []) ((rename_table u t ∷ []) ∷ [])))) at_5
    ∙ ap (λ p. past_with p (command 9 (evolving (rename_table t u ∷ []) ((rename_table u t ∷ []) ∷ [])))) at_7
    ∙ at_9

-- ---- the versions in force, and the database of each moment

-- version 0 is in force up to 1, version 1 up to 9, and version 2 to the end of time
first_in_force : in_force past_9.versions 1 ≡ span 1 9
first_in_force = refl

second_in_force : in_force past_9.versions 2 ≡ span 9 forever
second_in_force = refl

-- the inverse's counts are within their limits
counted : first_excess (evolving (rename_table t u ∷ []) ((rename_table u t ∷ []) ∷ [])) ≡ None
counted = refl

-- just before the rename the table is t, and from it on u, in the version then in force and in the
-- database of the moment
tables_at_8 : get (tables_of past_9 (version_at past_9 8)) t ≡ Some ab_columns
tables_at_8 = columns_are

rows_at_8 : get (database_at past_9 8) t ≡ Some (Rows y_rows)
rows_at_8 = t_there from_5 (Rows y_rows)

tables_at_9 : get (tables_of past_9 (version_at past_9 9)) u ≡ Some ab_columns
tables_at_9 = u_there (remove tables_1 t) (columns_of tables_1 t)
    ∙ ap (λ o. Some (unwrap_or o [])) columns_are

rows_at_9 : get (database_at past_9 9) u ≡ Some (Rows y_rows)
rows_at_9 = u_there (remove from_7 t) (Rows y_rows)

-- ---- the migrated table

-- from 9 on version 2 is in force; in version 1 its table is t again
back_at_9 : get (migrated past_9 9 1) t ≡ Some (Rows y_rows)
back_at_9 =
    t_there (remove from_9 u) (from_one (λ rows. rows) (get from_9 u))
    ∙ ap (λ e. Some (from_one (λ rows. rows) e)) (u_there (remove from_7 t) (Rows y_rows))

-- at 5 version 1 is in force; in version 2 its table is u
forward_at_5 : get (migrated past_9 5 2) u ≡ Some (Rows x_rows)
forward_at_5 =
    u_there (remove from_5 t) (from_one (λ rows. rows) (get from_5 t))
    ∙ ap (λ e. Some (from_one (λ rows. rows) e)) (t_there from_1 (Rows x_rows))

-- at 0 no table is there; in version 1 it is empty
forward_at_0 : get (migrated past_9 0 1) t ≡ Some (Rows [])
unfolding set_of
forward_at_0 = t_there no_database (Rows [])

-- ---- QUERY VERSION 1 SELECT b FROM t

abbrev select_b : PlainBranch
select_b = record { outs = at_atom 0 b ∷ []; from = (t, t) ∷ []; cond = always }

abbrev query : PlainQuery
query = a_query 1 (select_b ∷ []) Always []

abbrev b_of : Option (List Column) → Option DatabaseEntry → List Row
b_of columns entry = answers_over (unwrap_or columns [] ∷ []) (rows_under entry ∷ []) select_b.outs
    select_b.cond ++ []

asked_of : (db : Database) (rows : Relation) → get db t ≡ Some (Rows rows)
    → plain tables_1 (select_b ∷ []) db ≡ set_of row_cmp (b_of (Some ab_columns) (Some (Rows rows)))
asked_of db rows h =
    ap (λ o. set_of row_cmp (b_of o (get db t))) columns_are
    ∙ ap (λ e. set_of row_cmp (b_of (Some ab_columns) e)) h

asked_0 : asked_at past_9 query 0 ≡ []
unfolding set_of
asked_0 = asked_of (migrated past_9 0 1) [] forward_at_0

asked_1 : asked_at past_9 query 1 ≡ []
unfolding set_of
asked_1 = asked_of from_1 [] (t_there no_database (Rows []))

asked_5 : asked_at past_9 query 5 ≡ (text x ∷ []) ∷ []
unfolding set_of
asked_5 = asked_of from_5 x_rows (t_there from_1 (Rows x_rows))

asked_7 : asked_at past_9 query 7 ≡ (text y ∷ []) ∷ []
unfolding set_of
asked_7 = asked_of from_7 y_rows (t_there from_5 (Rows y_rows))

asked_9 : asked_at past_9 query 9 ≡ (text y ∷ []) ∷ []
unfolding set_of
asked_9 = asked_of (migrated past_9 9 1) y_rows back_at_9

abbrev stage : ℕ → Relation → Stage Row
stage m items = record { start = m; items = items }

stages_are : stages past_9 query ≡ stage 0 [] ∷ stage 1 [] ∷ stage 5 ((text x ∷ []) ∷ [])
    ∷ stage 7 ((text y ∷ []) ∷ []) ∷ stage 9 ((text y ∷ []) ∷ []) ∷ []
stages_are = λ i. stage 0 (asked_0 i) ∷ stage 1 (asked_1 i) ∷ stage 5 (asked_5 i)
    ∷ stage 7 (asked_7 i) ∷ stage 9 (asked_9 i) ∷ []

-- 'x' from 5 to 7, and 'y' from 7 on: the rename does not cut it
answer_is : answer past_9 query ≡ record { item = text x ∷ []; period = span 5 7 }
    ∷ record { item = text y ∷ []; period = span 7 forever } ∷ []
unfolding set_of listing_of
answer_is = ap (λ ss. kept [] (listing_of row_cmp ss)) stages_are

-- ---- QUERY VERSION 9, of which there is none, and a query on version 2: SELECT a FROM u

-- the version comes before the names: no version has a table with the name s
no_such_version : fault_of_query past_9 (a_query 9
    (record { outs = at_atom 0 a ∷ []; from = (s, s) ∷ []; cond = always } ∷ []) Always [])
    ≡ Some (NoVersion 9 2)
no_such_version = refl

abbrev select_a : PlainBranch
select_a = record { outs = at_atom 0 a ∷ []; from = (u, u) ∷ []; cond = always }

abbrev later_query : PlainQuery
later_query = a_query 2 (select_a ∷ []) Always []

abbrev a_of : Option (List Column) → Option DatabaseEntry → List Row
a_of columns entry = answers_over (unwrap_or columns [] ∷ []) (rows_under entry ∷ []) select_a.outs
    select_a.cond ++ []

asked_later : (db : Database) (rows : Relation) → get db u ≡ Some (Rows rows)
    → plain tables_2 (select_a ∷ []) db ≡ set_of row_cmp (a_of (Some ab_columns) (Some (Rows rows)))
asked_later db rows h =
    ap (λ o. set_of row_cmp (a_of o (get db u))) tables_at_9
    ∙ ap (λ e. set_of row_cmp (a_of (Some ab_columns) e)) h

renamed_from : (db : Database) (rows : Relation) → get db t ≡ Some (Rows rows)
    → get (migrate tables_1 (rename_table t u) db) u ≡ Some (Rows rows)
renamed_from db rows h = u_there (remove db t) (from_one (λ rows. rows) (get db t))
    ∙ ap (λ e. Some (from_one (λ rows. rows) e)) h

later_0 : asked_at past_9 later_query 0 ≡ []
unfolding set_of
later_0 = asked_later (migrated past_9 0 2) [] (renamed_from (migrated past_9 0 1) [] forward_at_0)

later_1 : asked_at past_9 later_query 1 ≡ []
unfolding set_of
later_1 = asked_later (migrated past_9 1 2) []
    (renamed_from from_1 [] (t_there no_database (Rows [])))

later_5 : asked_at past_9 later_query 5 ≡ (int 1 ∷ []) ∷ []
unfolding set_of
later_5 = asked_later (migrated past_9 5 2) x_rows forward_at_5

later_7 : asked_at past_9 later_query 7 ≡ (int 1 ∷ []) ∷ []
unfolding set_of
later_7 = asked_later (migrated past_9 7 2) y_rows
    (renamed_from from_7 y_rows (t_there from_5 (Rows y_rows)))

later_9 : asked_at past_9 later_query 9 ≡ (int 1 ∷ []) ∷ []
unfolding set_of
later_9 = asked_later from_9 y_rows (u_there (remove from_7 t) (Rows y_rows))

later_stages : stages past_9 later_query ≡ stage 0 [] ∷ stage 1 [] ∷ stage 5 ((int 1 ∷ []) ∷ [])
    ∷ stage 7 ((int 1 ∷ []) ∷ []) ∷ stage 9 ((int 1 ∷ []) ∷ []) ∷ []
later_stages = λ i. stage 0 (later_0 i) ∷ stage 1 (later_1 i) ∷ stage 5 (later_5 i)
    ∷ stage 7 (later_7 i) ∷ stage 9 (later_9 i) ∷ []

-- 1 from 5 on: neither the update of the other column nor the rename cuts it
later_answer : answer past_9 later_query ≡ record { item = int 1 ∷ []; period = span 5 forever }
    ∷ []
unfolding set_of listing_of
later_answer = ap (λ ss. kept [] (listing_of row_cmp ss)) later_stages

-- ---- the commands are a history: each is accepted after those before it

one_table : len tables_1 ≡ 1
one_table = one_more no_tables t ab_columns 0 (get-empty bytes_cmp t)
    (len-empty bytes_cmp (List Column))

create_accepted : evolution_fault no_tables (create_table t ab_columns ∷ []) ≡ None
unfolding set_of
create_accepted = accepted_all no_tables (create_table t ab_columns ∷ [])
    (creates no_tables t ab_columns 1 (get-empty bytes_cmp t) one_table, tt)

accepted_1 : command_fault beginning (command 1 (evolving (create_table t ab_columns ∷ []) [])) ≡ None
accepted_1 = ap (λ (o : Option OpRefusal). first_refusal (option_map operator_refusal o ∷ []))
    create_accepted

accepted_5 : command_fault past_1 (command 5 (changing (inserting ∷ []))) ≡ None
accepted_5 = ap (λ (o : Option (List Column)). first_refusal (change_by inserting 0 o ++ []))
    columns_are

accepted_7 : command_fault past_5 (command 7 (changing (updating ∷ []))) ≡ None
accepted_7 = ap (λ (o : Option (List Column)). first_refusal (change_by updating 0 o ++ []))
    columns_are

abbrev rename_by : Option (List Column) → Option (List Column) → Option OpRefusal
rename_by o free = first_refusal (unless (is_some o) (NoTableThere t) ∷ differ t u
    ∷ unless (not (is_some free) || among u (t ∷ [])) (Exists u) ∷ [])

u_free : get tables_1 u ≡ None
u_free = get-insert nat_list_cmp_total no_tables t ab_columns u ∙ get-empty bytes_cmp u

rename_accepted : op_fault tables_1 (rename_table t u) ≡ None
rename_accepted = ap (λ (o : Option (List Column)). rename_by o (get tables_1 u)) columns_are
    ∙ ap (rename_by (Some ab_columns)) u_free

inverse_accepted : inverse_fault tables_1 (rename_table t u ∷ []) ((rename_table u t ∷ []) ∷ [])
    ≡ None
inverse_accepted = rename_inverse tables_1 t u rename_accepted

accepted_9 : command_fault past_7 (command 9 (evolving (rename_table t u ∷ []) ((rename_table u t ∷ []) ∷ [])))
    ≡ None
accepted_9 =
    ap (λ (o : Option OpRefusal). first_refusal
    (option_map operator_refusal o ∷ inverse_tests tables_1 (rename_table t u ∷ [])
    ((rename_table u t ∷ []) ∷ [])))
    (accepted_all tables_1 (rename_table t u ∷ []) (rename_accepted, tt)) ∙ inverse_accepted

is_history : IsHistory commands
is_history =
    let second = created in
    let third = ap (λ p. past_with p (command 5 (changing (inserting ∷ [])))) created ∙ at_5 in
    let fourth = ap (λ p. past_with (past_with p (command 5 (changing (inserting ∷ []))))
    (command 7 (changing (updating ∷ [])))) created
    ∙ ap (λ p. past_with p (command 7 (changing (updating ∷ [])))) at_5 ∙ at_7 in (
      accepted_1,
      (
        ap (λ p. command_fault p (command 5 (changing (inserting ∷ [])))) second ∙ accepted_5,
        (
          ap (λ p. command_fault p (command 7 (changing (updating ∷ [])))) third ∙ accepted_7,
          (
            ap (λ p. command_fault p (command 9
                (evolving (rename_table t u ∷ []) ((rename_table u t ∷ []) ∷ [])))) fourth ∙ accepted_9,
            tt,
          ),
        ),
      ),
    )

-- so their past is valid, and at each moment its database is one of the version then in force
accepted_is_past : (past : Past) (c : PlainCommand) → IsPast past → command_fault past c ≡ None
    → IsPast (past_with past c)
accepted_is_past past c is e = stays_valid past c.stamp c.body is (stamp_accepted past c e)
    (counts_accepted past c e) (body_accepted past c e)

pub history_is_past : (past : Past) (cs : List PlainCommand) → IsPast past → AllAccepted past cs
    → IsPast (past_after past cs)
history_is_past past [] is a = is
history_is_past past (c ∷ cs) is a = history_is_past (past_with past c) cs
    (accepted_is_past past c is a.0) a.1

is_past : IsPast past_9
is_past = subst IsPast past_is (history_is_past beginning commands beginning_is_past is_history)

-- and it holds valid values
pub short_text : (bytes : List ℕ) → length bytes ≤ 9 → first_control bytes ≡ None → IsTxt bytes
short_text bytes l e = (omega (arith, l), e)

x_is : IsTxt x
x_is = short_text x (omega arith) refl

y_is : IsTxt y
y_is = short_text y (omega arith) refl

one_is : IsValid (int 1)
one_is = small_number 1 (omega arith)

holds : PastHolds past_9
holds = subst PastHolds past_is (history_holds beginning commands beginning_is_past is_history (
  ((tt, tt), tt),
  (
    ((one_is, (x_is, tt)), tt),
    (
      ((y_is, tt), tt),
      (((tt, tt), ((tt, tt), tt)), tt),
    ),
  ),
)
    beginning_holds)
