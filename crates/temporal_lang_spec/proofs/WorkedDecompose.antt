-- Worked rows: a table that is decomposed into two, with a join as the inverse. Its past, the two
-- tables, and the answers to a query on the version before.
use Rattle.std.specs.Prelude.{◌≡◌, ◌==◌, ◌++◌, ◌||◌, ℕ, ◌+◌, List, [], ◌∷◌, Bool, false, not, cond}
use Rattle.std.specs.Prelude.{is_some, nat_le, codes, Option, Some, None, if◌then◌else◌}
use Rattle.std.proofs.Common.{refl, ap, subst, ◌∙◌, arith}
use Rattle.std.specs.Option.{unwrap_or, option_map}
use Rattle.std.specs.FinMap.{get, insert, remove, len, get-empty, get-insert, get-remove, len-empty}
use Rattle.std.specs.Cmp.Lexicographic.{nat_list_cmp_total}
use Rattle.relations_spec.specs.Sets.{set_of}
use Rattle.relations_spec.specs.Spans.{span, forever}
use Rattle.relations_spec.specs.Timeline.{listing_of}
use Rattle.prima_base.specs.declared.value.ColType.TheVariants.{Int as INT, Text as TEXT}
use Rattle.prima_base.specs.Order.{bytes_cmp, row_cmp}
use Rattle.prima_base.specs.Keeping.{kept}
use Rattle.schema_catalog.specs.Tables.{Tables}
use Rattle.schema_catalog.specs.Databases.{DatabaseEntry, Rows, Database}
use Rattle.cond_expr.specs.declared.expr.Whose.TheVariants.{Free}
use Rattle.cond_expr.specs.declared.expr.CmpOp.TheVariants.{Eq}
use Rattle.cond_expr.specs.Trees.{column, constant, always, compared}
use Rattle.smo_ops_types.specs.Operators.{Operator, create_table, decompose_table, join_table}
use Rattle.smo_ops_types.specs.Changes.{PlainChange, insertion, update}
use Rattle.smo_ops_types.specs.Commands.{PlainCommand, PlainVersion, changing, evolving}
use Rattle.smo_ops_spec.specs.OneRow.{Row, Relation, same}
use Rattle.smo_ops_spec.specs.Making.{named, joined_columns}
use Rattle.smo_ops_spec.specs.Effects.{after_each, gained, lost}
use Rattle.smo_ops_spec.specs.Sizes.{Size, sizes_changed, sizes_evolved}
use Rattle.smo_ops_spec.specs.Past.{Past, State, a_state, no_tables, no_database, beginning}
use Rattle.smo_ops_spec.specs.Past.{changed_to, evolved_to, past_with, from_stamp, database_at}
use Rattle.smo_ops_spec.specs.History.{past_of, IsHistory}
use Rattle.smo_ops_spec.specs.Accepts.{operator_refusal, command_fault}
use Rattle.smo_ops_spec.specs.ValidPast.{IsPast}
use Rattle.smo_ops_spec.proofs.PastSteps.{beginning_is_past}
use Rattle.cond_expr.proofs.ConstantLaws.{small_number}
use Rattle.prima_base.specs.Columns.{Column, IsValid}
use Rattle.smo_ops_spec.specs.ValidValues.{PastHolds}
use Rattle.smo_ops_spec.proofs.ValueLaws.{beginning_holds, history_holds}
use Rattle.prima_base.specs.declared.refusal.OpRefusal.{OpRefusal}
use Rattle.prima_base.specs.declared.refusal.OpRefusal.TheVariants.{Exists, NoTable, TooMany}
use Rattle.prima_base.specs.declared.refusal.What.TheVariants.{Tables as TABLES}
use Rattle.prima_base.specs.Limits.{max_tables}
use Rattle.smo_ops_spec.specs.First.{unless, first_refusal}
use Rattle.smo_ops_spec.specs.After.{op_fault, schema_after}
use Rattle.smo_ops_spec.specs.Evolutions.{evolution_fault}
use Rattle.smo_ops_spec.specs.Preconditions.{among, differ, joinable, few_columns, each_known}
use Rattle.smo_ops_spec.specs.Preconditions.{each_once, cover, test_known_in}
use Rattle.smo_ops_spec.specs.Preconditions.{test_typed_in}
use Rattle.smo_ops_spec.specs.Inverses.{inverse_tests, inverse_fault}
use Rattle.smo_ops_spec.proofs.InverseLaws.{accepted_so}
use Rattle.smo_ops_spec.proofs.MemberLaws.{accepted_all}
use Rattle.smo_ops_versions_spec.proofs.RoundTrips.{merged_back}
use Rattle.smo_ops_versions_spec.specs.Migration.{migrated}
use Rattle.smo_ops_versions_spec.proofs.WorkedWords.{int, text, at_atom}
use Rattle.smo_ops_versions_spec.proofs.WorkedWays.{id, name, city, emp, who, home, emp_columns}
use Rattle.smo_ops_versions_spec.proofs.WorkedWays.{with_emp}
use Rattle.smo_ops_versions_spec.proofs.WorkedWays.{in_two, projected, all_columns, emp_back_of}
use Rattle.plain_answers_spec.specs.Branches.{plain}
use Rattle.temporal_lang_types.specs.declared.when.When.TheVariants.{Always}
use Rattle.temporal_lang_spec.specs.Atoms.{branches_with_atoms}
use Rattle.temporal_lang_types.specs.Queries.{PlainQuery, a_query}
use Rattle.temporal_lang_spec.specs.Answers.{asked_at, stages, answer}
use Rattle.temporal_lang_spec.proofs.WorkedPast.{history_is_past, short_text}
use Rattle.temporal_lang_spec.proofs.WorkedSelects.{command, stage, changed_at, gained_is, lost_is}
use Rattle.temporal_lang_spec.proofs.WorkedSelects.{change_by, creates, one_more, one_less, select}
use Rattle.temporal_lang_spec.proofs.WorkedSelects.{selected, answers_by}

-- ---- AT 1 EVOLVE CREATE TABLE emp (id INT, name TEXT, city TEXT);
-- AT 2 INSERT INTO emp (id, name, city) VALUES (1, 'Ann', 'Oslo'); AT 3 EVOLVE DECOMPOSE TABLE emp
-- INTO who (id, name), home (id, city) INVERSE JOIN TABLE who, home INTO emp WHERE TRUE; AT 5
-- UPDATE home SET city = 'Bergen' WHERE id = 1;

abbrev written : List Column
written = (id, INT) ∷ (name, TEXT) ∷ (city, TEXT) ∷ []

abbrev inserting : PlainChange
inserting = insertion emp ((id, int 1) ∷ (name, text (codes "Ann")) ∷ (city, text (codes "Oslo"))
    ∷ [])

abbrev moving : PlainChange
moving = update home ((city, constant (text (codes "Bergen"))) ∷ [])
    (compared Eq (at_atom 0 id) (constant (int 1)))

abbrev creating : PlainCommand
creating = command 1 (evolving (create_table emp written ∷ []) [])

abbrev giving : PlainCommand
giving = command 2 (changing (inserting ∷ []))

abbrev decomposing : PlainCommand
decomposing = command 3
    (evolving (decompose_table emp who (id ∷ name ∷ []) home (id ∷ city ∷ []) ∷ [])
    ((join_table who home emp always ∷ []) ∷ []))

abbrev changing_5 : PlainCommand
changing_5 = command 5 (changing (moving ∷ []))

abbrev commands : List PlainCommand
commands = creating ∷ giving ∷ decomposing ∷ changing_5 ∷ []

-- the rows of emp, which has its columns in the order of their names, of who and of home
abbrev ann_in : List ℕ → Relation
ann_in place = (text place ∷ int 1 ∷ text (codes "Ann") ∷ []) ∷ []

abbrev ann : Relation
ann = (int 1 ∷ text (codes "Ann") ∷ []) ∷ []

abbrev place : List ℕ → Relation
place p = (text p ∷ int 1 ∷ []) ∷ []

abbrev home_columns : List Column
home_columns = (city, TEXT) ∷ (id, INT) ∷ []

abbrev from_1 : Database
from_1 = insert no_database emp (Rows [])

abbrev from_2 : Database
from_2 = insert from_1 emp (Rows (ann_in (codes "Oslo")))

abbrev from_3 : Database
from_3 = insert (insert (remove from_2 emp) who (Rows ann)) home (Rows (place (codes "Oslo")))

abbrev from_5 : Database
from_5 = insert from_3 home (Rows (place (codes "Bergen")))

abbrev version_1 : PlainVersion
version_1 = record { stamp = 1; op = create_table emp written ∷ []; inverse = []; tables = with_emp }

abbrev version_2 : PlainVersion
version_2 = record {
  stamp = 3;
  op = decompose_table emp who (id ∷ name ∷ []) home (id ∷ city ∷ []) ∷ [];
  inverse = (join_table who home emp always ∷ []) ∷ [];
  tables = in_two;
}

abbrev versions : List PlainVersion
versions = version_1 ∷ version_2 ∷ []

abbrev past : List Size → List PlainVersion → ℕ → ℕ → List State → Past
past sizes vs last count states = record {
  versions = vs;
  last = Some last;
  commands = count;
  sizes = sizes;
  states = states;
}

-- what is stored after each command
abbrev sizes_1 : List Size
sizes_1 = sizes_evolved no_tables (create_table emp written ∷ []) with_emp from_1 0 []

abbrev sizes_2 : List Size
sizes_2 = sizes_changed from_1 from_2 sizes_1

abbrev sizes_3 : List Size
sizes_3 = sizes_evolved with_emp
    (decompose_table emp who (id ∷ name ∷ []) home (id ∷ city ∷ []) ∷ []) in_two from_3 1 sizes_2

abbrev sizes_5 : List Size
sizes_5 = sizes_changed from_3 from_5 sizes_3

abbrev states_1 : List State
states_1 = a_state 0 no_database ∷ a_state 1 from_1 ∷ []

abbrev states_2 : List State
states_2 = states_1 ++ a_state 2 from_2 ∷ []

abbrev states_3 : List State
states_3 = states_2 ++ a_state 3 from_3 ∷ []

abbrev past_5 : Past
past_5 = past sizes_5 versions 5 4 (states_3 ++ a_state 5 from_5 ∷ [])

-- ---- what stands under the names

emp_there : get with_emp emp ≡ Some emp_columns
emp_there = get-insert nat_list_cmp_total no_tables emp emp_columns emp

home_there : get in_two home ≡ Some home_columns
home_there =
    get-insert nat_list_cmp_total (insert (remove with_emp emp) who
    (named (id ∷ name ∷ []) (unwrap_or (get with_emp emp) []))) home
    (named (id ∷ city ∷ []) (unwrap_or (get with_emp emp) [])) home
    ∙ ap (λ (o : Option (List Column)). Some (named (id ∷ city ∷ []) (unwrap_or o []))) emp_there

empty_at_1 : get from_1 emp ≡ Some (Rows [])
empty_at_1 = get-insert nat_list_cmp_total no_database emp (Rows []) emp

emp_at_2 : get from_2 emp ≡ Some (Rows (ann_in (codes "Oslo")))
emp_at_2 = get-insert nat_list_cmp_total from_1 emp (Rows (ann_in (codes "Oslo"))) emp

-- after the decomposition, at 3 and still at 4, who has (1, 'Ann') and home has (1, 'Oslo')
who_at_3 : get (database_at past_5 3) who ≡ Some (Rows ann)
who_at_3 =
    get-insert nat_list_cmp_total (insert (remove from_2 emp) who (Rows ann)) home
    (Rows (place (codes "Oslo"))) who
    ∙ get-insert nat_list_cmp_total (remove from_2 emp) who (Rows ann) who

home_at_3 : get (database_at past_5 3) home ≡ Some (Rows (place (codes "Oslo")))
home_at_3 = get-insert nat_list_cmp_total (insert (remove from_2 emp) who (Rows ann)) home
    (Rows (place (codes "Oslo"))) home

home_at_4 : get (database_at past_5 4) home ≡ Some (Rows (place (codes "Oslo")))
home_at_4 = home_at_3

who_at_5 : get (database_at past_5 5) who ≡ Some (Rows ann)
who_at_5 = get-insert nat_list_cmp_total from_3 home (Rows (place (codes "Bergen"))) who ∙ who_at_3

home_at_5 : get (database_at past_5 5) home ≡ Some (Rows (place (codes "Bergen")))
home_at_5 = get-insert nat_list_cmp_total from_3 home (Rows (place (codes "Bergen"))) home

-- ---- the past, command by command

created : past_with beginning creating ≡ past sizes_1 (version_1 ∷ []) 1 1 states_1
unfolding set_of
created = refl

given : after_each with_emp (inserting ∷ []) from_1 ≡ from_2
given = changed_at with_emp from_1 inserting emp_columns [] emp_there empty_at_1

moved : after_each in_two (moving ∷ []) from_3 ≡ from_5
unfolding set_of
moved = changed_at in_two from_3 moving home_columns (place (codes "Oslo")) home_there home_at_3

-- one row is gained and none lost, and then one is gained and one lost
one_gained : gained from_1 from_2 ≡ 1
one_gained = gained_is from_1 emp [] (ann_in (codes "Oslo")) empty_at_1

none_lost : lost from_1 from_2 ≡ 0
none_lost = lost_is from_1 emp [] (ann_in (codes "Oslo")) empty_at_1

then_gained : gained from_3 from_5 ≡ 1
then_gained = gained_is from_3 home (place (codes "Oslo")) (place (codes "Bergen")) home_at_3

then_lost : lost from_3 from_5 ≡ 1
then_lost = lost_is from_3 home (place (codes "Oslo")) (place (codes "Bergen")) home_at_3

abbrev changed : List Size → List PlainVersion → ℕ → ℕ → Database → List State → ℕ → Past
changed sizes vs stamp count new states n = past sizes vs stamp count
    (if n == 0 then states else from_stamp stamp new states)

at_2 : past_with (past sizes_1 (version_1 ∷ []) 1 1 states_1) giving
    ≡ past sizes_2 (version_1 ∷ []) 2 2 states_2
at_2 =
    ap (λ db. changed_to 2 db (past sizes_1 (version_1 ∷ []) 1 1 states_1)) given
    ∙ ap (λ n. changed sizes_2 (version_1 ∷ []) 2 2 from_2 states_1 (n + lost from_1 from_2))
    one_gained
    ∙ ap (λ n. changed sizes_2 (version_1 ∷ []) 2 2 from_2 states_1 (1 + n)) none_lost

abbrev in_parts : List Column → Option DatabaseEntry → Database
in_parts columns entry = insert (insert (remove from_2 emp) who
    (projected (id ∷ name ∷ []) columns entry)) home (projected (id ∷ city ∷ []) columns entry)

parts_are : in_parts (unwrap_or (get with_emp emp) []) (get from_2 emp) ≡ from_3
unfolding set_of
parts_are = ap (λ columns. in_parts columns (get from_2 emp)) all_columns
    ∙ ap (in_parts emp_columns) emp_at_2

at_3 : past_with (past sizes_2 (version_1 ∷ []) 2 2 states_2) decomposing
    ≡ past sizes_3 versions 3 3 states_3
at_3 = ap (λ db. evolved_to version_2 db (past sizes_2 (version_1 ∷ []) 2 2 states_2)) parts_are

at_5 : past_with (past sizes_3 versions 3 3 states_3) changing_5 ≡ past_5
at_5 =
    ap (λ db. changed_to 5 db (past sizes_3 versions 3 3 states_3)) moved
    ∙ ap (λ n. changed sizes_5 versions 5 4 from_5 states_3 (n + lost from_3 from_5)) then_gained
    ∙ ap (λ n. changed sizes_5 versions 5 4 from_5 states_3 (1 + n)) then_lost

past_is : past_of commands ≡ past_5
past_is =
    ap (λ p. past_with (past_with (past_with p giving) decomposing) changing_5) created
    ∙ ap (λ p. past_with (past_with p decomposing) changing_5) at_2
    ∙ ap (λ p. past_with p changing_5) at_3 ∙ at_5

-- ---- QUERY VERSION 1 SELECT name, city FROM emp

abbrev query : PlainQuery
query = a_query 1 (select emp (column Free name ∷ column Free city ∷ []) always) Always []

abbrev answered : List ℕ → Row
answered place = text (codes "Ann") ∷ text place ∷ []

on_1 : (db : Database) (rows : Relation) → get db emp ≡ Some (Rows rows)
    → plain with_emp (branches_with_atoms with_emp
    (select emp (column Free name ∷ column Free city ∷ []) always)) db
    ≡ answers_by emp (column Free name ∷ column Free city ∷ []) always (Some emp_columns)
    (Some (Rows rows))
on_1 db rows h = selected with_emp db emp (column Free name ∷ column Free city ∷ []) always
    emp_columns rows emp_there h

asked_0 : asked_at past_5 query 0 ≡ []
unfolding set_of
asked_0 = on_1 (migrated past_5 0 1) [] empty_at_1

asked_1 : asked_at past_5 query 1 ≡ []
unfolding set_of
asked_1 = on_1 from_1 [] empty_at_1

asked_2 : asked_at past_5 query 2 ≡ answered (codes "Oslo") ∷ []
unfolding set_of
asked_2 = on_1 from_2 (ann_in (codes "Oslo")) emp_at_2

-- at 3, and still at 4, Ann is in Oslo
asked_3 : asked_at past_5 query 3 ≡ answered (codes "Oslo") ∷ []
unfolding set_of
asked_3 = on_1 (migrated past_5 3 1) (ann_in (codes "Oslo"))
    (emp_back_of from_3 ann (place (codes "Oslo")) who_at_3 home_at_3)

asked_4 : asked_at past_5 query 4 ≡ answered (codes "Oslo") ∷ []
asked_4 = asked_3

asked_5 : asked_at past_5 query 5 ≡ answered (codes "Bergen") ∷ []
unfolding set_of
asked_5 = on_1 (migrated past_5 5 1) (ann_in (codes "Bergen"))
    (emp_back_of from_5 ann (place (codes "Bergen")) who_at_5 home_at_5)

stages_are : stages past_5 query
    ≡ stage 0 [] ∷ stage 1 [] ∷ stage 2 (answered (codes "Oslo") ∷ [])
    ∷ stage 3 (answered (codes "Oslo") ∷ []) ∷ stage 5 (answered (codes "Bergen") ∷ []) ∷ []
stages_are = λ i. stage 0 (asked_0 i) ∷ stage 1 (asked_1 i) ∷ stage 2 (asked_2 i)
    ∷ stage 3 (asked_3 i) ∷ stage 5 (asked_5 i) ∷ []

-- Ann in Bergen from 5 on, and in Oslo from 2 to 5: the decomposition does not cut it
answer_is : answer past_5 query ≡ record {
  item = answered (codes "Bergen");
  period =
      span 5 forever;
} ∷ record { item = answered (codes "Oslo"); period = span 2 5 } ∷ []
unfolding set_of listing_of
answer_is = ap (λ ss. kept [] (listing_of row_cmp ss)) stages_are

-- ---- the inverse leads back: JOIN TABLE who, home INTO emp WHERE TRUE is accepted after the
-- decomposition

abbrev who_columns : List Column
who_columns = (id, INT) ∷ (name, TEXT) ∷ []

abbrev parting : Operator
parting = decompose_table emp who (id ∷ name ∷ []) home (id ∷ city ∷ [])

abbrev joining : Operator
joining = join_table who home emp always

abbrev some_of : List (List ℕ) → List Column
some_of names = named names (unwrap_or (get with_emp emp) [])

who_there : get in_two who ≡ Some who_columns
who_there =
    get-insert nat_list_cmp_total (insert (remove with_emp emp) who (some_of (id ∷ name ∷ []))) home
    (some_of (id ∷ city ∷ [])) who
    ∙ get-insert nat_list_cmp_total (remove with_emp emp) who (some_of (id ∷ name ∷ [])) who
    ∙ ap (λ (o : Option (List Column)). Some (named (id ∷ name ∷ []) (unwrap_or o []))) emp_there

emp_gone : get in_two emp ≡ None
emp_gone =
    get-insert nat_list_cmp_total (insert (remove with_emp emp) who (some_of (id ∷ name ∷ []))) home
    (some_of (id ∷ city ∷ [])) emp
    ∙ get-insert nat_list_cmp_total (remove with_emp emp) who (some_of (id ∷ name ∷ [])) emp
    ∙ get-remove nat_list_cmp_total with_emp emp emp

free : (n : List ℕ) → same n emp ≡ false → get with_emp n ≡ None
free n e =
    get-insert nat_list_cmp_total no_tables emp emp_columns n
    ∙ ap (λ (b : Bool). cond b (Some emp_columns) (get no_tables n)) e ∙ get-empty bytes_cmp n

abbrev back_with : Option (List Column) → Option (List Column) → Tables
back_with first second = insert (remove (remove in_two who) home) emp
    (joined_columns (unwrap_or first []) (unwrap_or second []))

leads_back : schema_after in_two joining ≡ with_emp
unfolding set_of
leads_back =
    ap (λ (o : Option (List Column)). back_with o (get in_two home)) who_there
    ∙ ap (back_with (Some who_columns)) home_there
    ∙ merged_back with_emp emp who home emp_columns (some_of (id ∷ name ∷ []))
    (some_of (id ∷ city ∷ [])) emp_there (free who) (free home)

abbrev joining_by : Option (List Column) → Option (List Column) → Option (List Column)
    → Option OpRefusal
joining_by first second third =
    let columns : List Column = joined_columns (unwrap_or first []) (unwrap_or second []) in
    first_refusal (unless (is_some first) (NoTable who) ∷ unless (is_some second) (NoTable home)
    ∷ differ who home
    ∷ unless (not (is_some third) || among emp (who ∷ home ∷ [])) (Exists emp)
    ∷ joinable who (unwrap_or first []) home (unwrap_or second [])
    ∷ few_columns columns ∷ test_known_in emp columns always ∷ test_typed_in columns always ∷ [])

joining_accepted : op_fault in_two joining ≡ None
unfolding set_of
joining_accepted =
    ap (λ (o : Option (List Column)). joining_by o (get in_two home) (get in_two emp)) who_there
    ∙ ap (λ (o : Option (List Column)). joining_by (Some who_columns) o (get in_two emp)) home_there
    ∙ ap (joining_by (Some who_columns) (Some home_columns)) emp_gone

inverse_accepted : inverse_fault with_emp (parting ∷ []) ((joining ∷ []) ∷ []) ≡ None
inverse_accepted = accepted_so with_emp (parting ∷ []) ((joining ∷ []) ∷ [])
    (accepted_all in_two (joining ∷ []) (joining_accepted, tt), tt) leads_back

-- ---- the commands are a history: each is accepted after those before it

one_table : len with_emp ≡ 1
one_table = one_more no_tables emp emp_columns 0 (get-empty bytes_cmp emp)
    (len-empty bytes_cmp (List Column))

without_emp : (n : List ℕ) → same n emp ≡ false → get (remove with_emp emp) n ≡ None
without_emp n e =
    get-remove nat_list_cmp_total with_emp emp n
    ∙ ap (λ (b : Bool). cond b None (get with_emp n)) e ∙ free n e

two_tables : len in_two ≡ 2
two_tables =
    let first : len (insert (remove with_emp emp) who (some_of (id ∷ name ∷ []))) ≡ 1 =
    one_more (remove with_emp emp) who (some_of (id ∷ name ∷ [])) 0 (without_emp who refl)
    (one_less with_emp emp emp_columns 1 emp_there one_table) in
    one_more (insert (remove with_emp emp) who (some_of (id ∷ name ∷ []))) home
    (some_of (id ∷ city ∷ [])) 1
    (get-insert nat_list_cmp_total (remove with_emp emp) who (some_of (id ∷ name ∷ [])) home
    ∙ without_emp home refl) first

create_accepted : evolution_fault no_tables (create_table emp written ∷ []) ≡ None
unfolding set_of
create_accepted = accepted_all no_tables (create_table emp written ∷ [])
    (creates no_tables emp written 1 (get-empty bytes_cmp emp) one_table, tt)

abbrev parting_by : Option (List Column) → Option (List Column) → Option (List Column) → ℕ
    → Option OpRefusal
parting_by o first second count =
    let columns : List Column = unwrap_or o [] in
    first_refusal (unless (is_some o) (NoTable emp) ∷ differ who home
    ∷ unless (not (is_some first) || among who (emp ∷ [])) (Exists who)
    ∷ unless (not (is_some second) || among home (emp ∷ [])) (Exists home)
    ∷ each_known emp columns (id ∷ name ∷ id ∷ city ∷ [])
    ∷ each_once who (id ∷ name ∷ []) ∷ each_once home (id ∷ city ∷ [])
    ∷ cover emp columns (id ∷ name ∷ []) (id ∷ city ∷ [])
    ∷ unless (nat_le count max_tables) (TooMany TABLES max_tables) ∷ [])

parting_accepted : op_fault with_emp parting ≡ None
parting_accepted =
    ap (λ (o : Option (List Column)). parting_by o (get with_emp who) (get with_emp home)
    (len in_two)) emp_there
    ∙ ap (λ (o : Option (List Column)). parting_by (Some emp_columns) o (get with_emp home)
    (len in_two)) (free who refl)
    ∙ ap (λ (o : Option (List Column)). parting_by (Some emp_columns) None o (len in_two))
    (free home refl)
    ∙ ap (parting_by (Some emp_columns) None None) two_tables

accepted_1 : command_fault beginning creating ≡ None
accepted_1 = ap (λ (o : Option OpRefusal). first_refusal (option_map operator_refusal o ∷ []))
    create_accepted

accepted_2 : command_fault (past sizes_1 (version_1 ∷ []) 1 1 states_1) giving ≡ None
accepted_2 = ap (λ (o : Option (List Column)). first_refusal (change_by inserting 0 o ++ []))
    emp_there

accepted_3 : command_fault (past sizes_2 (version_1 ∷ []) 2 2 states_2) decomposing ≡ None
accepted_3 = ap (λ (o : Option OpRefusal). first_refusal
    (option_map operator_refusal o ∷ inverse_tests with_emp (parting ∷ []) ((joining ∷ []) ∷ [])))
    (accepted_all with_emp (parting ∷ []) (parting_accepted, tt)) ∙ inverse_accepted

accepted_5 : command_fault (past sizes_3 versions 3 3 states_3) changing_5 ≡ None
accepted_5 = ap (λ (o : Option (List Column)). first_refusal (change_by moving 0 o ++ []))
    home_there

is_history : IsHistory commands
is_history =
    let third = ap (λ p. past_with p giving) created ∙ at_2 in
    let fourth = ap (λ p. past_with p decomposing) third ∙ at_3 in (
      accepted_1,
      (
        ap (λ p. command_fault p giving) created ∙ accepted_2,
        (
          ap (λ p. command_fault p decomposing) third ∙ accepted_3,
          (ap (λ p. command_fault p changing_5) fourth ∙ accepted_5, tt),
        ),
      ),
    )

-- so their past is valid, and at each moment its database is one of the version then in force
is_past : IsPast past_5
is_past = subst IsPast past_is (history_is_past beginning commands beginning_is_past is_history)

-- and it holds valid values
id_is : IsValid (int 1)
id_is = small_number 1 (omega arith)

ann_is : IsValid (text (codes "Ann"))
ann_is = short_text (codes "Ann") (omega arith) refl

oslo_is : IsValid (text (codes "Oslo"))
oslo_is = short_text (codes "Oslo") (omega arith) refl

bergen_is : IsValid (text (codes "Bergen"))
bergen_is = short_text (codes "Bergen") (omega arith) refl

holds : PastHolds past_5
holds = subst PastHolds past_is (history_holds beginning commands beginning_is_past is_history (
  ((tt, tt), tt),
  (
    ((id_is, (ann_is, (oslo_is, tt))), tt),
    (((tt, tt), ((tt, tt), tt)), (((bergen_is, tt), tt), tt)),
  ),
) beginning_holds)
