-- Worked rows: a table that is dropped for good, and created again: its past, what is lost first
-- for a query on the version before, and what queries answer up to the drop and on the version
-- after.
use Rattle.std.specs.Prelude.{◌≡◌, ◌==◌, ℕ, zero, suc, ◌+◌, ◌<◌, ◌++◌, List, [], ◌∷◌, is_some}
use Rattle.std.specs.Prelude.{Option, Some, None, if◌then◌else◌}
use Rattle.std.proofs.Common.{refl, ap, subst, ◌∙◌, arith}
use Rattle.std.specs.Option.{option_or, option_map}
use Rattle.std.specs.List.{filter, flat_map}
use Rattle.std.specs.FinMap.{FinMap, get, insert, remove, len, empty, get-remove, get-empty}
use Rattle.std.specs.FinMap.{len-empty}
use Rattle.std.specs.Cmp.Lexicographic.{nat_list_cmp_total}
use Rattle.relations_spec.specs.Sets.{set_of}
use Rattle.relations_spec.specs.Spans.{span, forever}
use Rattle.relations_spec.specs.Timeline.{listing_of}
use Rattle.prima_base.specs.Order.{bytes_cmp, row_cmp}
use Rattle.prima_base.specs.Keeping.{kept}
use Rattle.schema_catalog.specs.Tables.{Tables}
use Rattle.schema_catalog.specs.Databases.{Rows, Database}
use Rattle.cond_expr.specs.declared.expr.ColRef.{ColRef}
use Rattle.cond_expr.specs.declared.expr.Whose.TheVariants.{Free}
use Rattle.cond_expr.specs.References.{is_to, written_names}
use Rattle.cond_expr.specs.Trees.{column, always}
use Rattle.prima_base.specs.declared.refusal.OpKind.TheVariants.{DropTable}
use Rattle.prima_base.specs.declared.refusal.Refusal.TheVariants.{NoInverse}
use Rattle.prima_base.specs.declared.refusal.OpRefusal.{OpRefusal}
use Rattle.prima_base.specs.declared.refusal.OpRefusal.TheVariants.{NoTable}
use Rattle.smo_ops_types.specs.Operators.{create_table, drop_table}
use Rattle.smo_ops_types.specs.Changes.{PlainChange, insertion}
use Rattle.smo_ops_types.specs.Commands.{PlainCommand, PlainVersion, changing, evolving}
use Rattle.smo_ops_spec.specs.First.{unless, first_refusal}
use Rattle.smo_ops_spec.specs.Evolutions.{evolution_fault}
use Rattle.smo_ops_spec.specs.Accepts.{operator_refusal, command_fault}
use Rattle.smo_ops_spec.specs.ValidPast.{IsPast}
use Rattle.smo_ops_spec.proofs.MemberLaws.{accepted_all}
use Rattle.smo_ops_spec.proofs.PastSteps.{beginning_is_past}
use Rattle.cond_expr.proofs.ConstantLaws.{small_number}
use Rattle.prima_base.specs.Columns.{Column, IsValid}
use Rattle.smo_ops_spec.specs.ValidValues.{PastHolds}
use Rattle.smo_ops_spec.proofs.ValueLaws.{beginning_holds, history_holds}
use Rattle.smo_ops_spec.specs.OneRow.{Relation}
use Rattle.smo_ops_spec.specs.Effects.{after_each, gained, lost}
use Rattle.smo_ops_spec.specs.Losses.{Loss}
use Rattle.smo_ops_spec.specs.Sizes.{Size, sizes_changed, sizes_evolved}
use Rattle.smo_ops_spec.specs.Past.{Past, State, a_state, no_tables, no_database, beginning}
use Rattle.smo_ops_spec.specs.Past.{changed_to, past_with, from_stamp}
use Rattle.smo_ops_spec.specs.History.{past_of, IsHistory}
use Rattle.smo_ops_versions_spec.specs.ColumnLosses.{TableLoss, WholeTable, OfColumns, Losses}
use Rattle.smo_ops_versions_spec.specs.ColumnLosses.{whole_loss, lost_columns}
use Rattle.smo_ops_versions_spec.specs.LostNames.{first_named}
use Rattle.smo_ops_versions_spec.proofs.LossMaps.{first_none as first_named_none}
use Rattle.smo_ops_versions_spec.specs.Migration.{migrated}
use Rattle.smo_ops_versions_spec.proofs.WorkedWords.{a, t, int, a_columns, t_there}
use Rattle.smo_ops_versions_spec.proofs.WorkedWays.{dropped_versions}
use Rattle.temporal_lang_types.specs.declared.when.When.TheVariants.{Always, During}
use Rattle.temporal_lang_types.specs.Queries.{PlainQuery, a_query}
use Rattle.plain_answers_spec.specs.Branches.{PlainBranch, plain}
use Rattle.plain_answers_spec.specs.Naming.{all_references}
use Rattle.temporal_lang_spec.specs.Atoms.{branches_with_atoms}
use Rattle.temporal_lang_spec.specs.Answers.{asked_at, stages, answer}
use Rattle.temporal_lang_spec.specs.Losing.{items_loss, loss_at, first_lost, query_asked}
use Rattle.temporal_lang_spec.specs.Accepted.{no_way_back, loss_fault, fault_of_query}
use Rattle.temporal_lang_spec.proofs.FirstLaws.{first_is, first_none}
use Rattle.temporal_lang_spec.proofs.WorkedPast.{history_is_past}
use Rattle.temporal_lang_spec.proofs.WorkedSelects.{command, stage, changed_at, gained_is, lost_is}
use Rattle.temporal_lang_spec.proofs.WorkedSelects.{change_by, creates, one_more, one_less, select}
use Rattle.temporal_lang_spec.proofs.WorkedSelects.{selected, answers_by, tested}

-- ---- AT 1 EVOLVE CREATE TABLE t (a INT); AT 2 INSERT INTO t (a) VALUES (1); AT 4 EVOLVE DROP
-- TABLE t;
-- AT 6 EVOLVE CREATE TABLE t (a INT); AT 7 INSERT INTO t (a) VALUES (2);

abbrev inserting : ℕ → PlainChange
inserting n = insertion t ((a, int n) ∷ [])

abbrev creating : ℕ → PlainCommand
creating stamp = command stamp (evolving (create_table t a_columns ∷ []) [])

abbrev dropping : PlainCommand
dropping = command 4 (evolving (drop_table t ∷ []) [])

abbrev giving : ℕ → ℕ → PlainCommand
giving stamp n = command stamp (changing (inserting n ∷ []))

abbrev commands : List PlainCommand
commands = creating 1 ∷ giving 2 1 ∷ dropping ∷ creating 6 ∷ giving 7 2 ∷ []

abbrev row : ℕ → Relation
row n = (int n ∷ []) ∷ []

abbrev tables_1 : Tables
tables_1 = insert no_tables t a_columns

abbrev tables_2 : Tables
tables_2 = remove tables_1 t

abbrev tables_3 : Tables
tables_3 = insert tables_2 t a_columns

abbrev from_1 : Database
from_1 = insert no_database t (Rows [])

abbrev from_2 : Database
from_2 = insert from_1 t (Rows (row 1))

abbrev from_4 : Database
from_4 = remove from_2 t

abbrev from_6 : Database
from_6 = insert from_4 t (Rows [])

abbrev from_7 : Database
from_7 = insert from_6 t (Rows (row 2))

abbrev version_1 : PlainVersion
version_1 = record { stamp = 1; op = create_table t a_columns ∷ []; inverse = []; tables = tables_1 }

abbrev version_2 : PlainVersion
version_2 = record { stamp = 4; op = drop_table t ∷ []; inverse = []; tables = tables_2 }

abbrev past : List Size → List PlainVersion → ℕ → ℕ → List State → Past
past sizes versions last count states = record {
  versions = versions;
  last = Some last;
  commands =
      count;
  sizes = sizes;
  states = states;
}

-- what is stored after each command
abbrev sizes_1 : List Size
sizes_1 = sizes_evolved no_tables (create_table t a_columns ∷ []) tables_1 from_1 0 []

abbrev sizes_2 : List Size
sizes_2 = sizes_changed from_1 from_2 sizes_1

abbrev sizes_4 : List Size
sizes_4 = sizes_evolved tables_1 (drop_table t ∷ []) tables_2 from_4 1 sizes_2

abbrev sizes_6 : List Size
sizes_6 = sizes_evolved tables_2 (create_table t a_columns ∷ []) tables_3 from_6 2 sizes_4

abbrev sizes_7 : List Size
sizes_7 = sizes_changed from_6 from_7 sizes_6

abbrev states_1 : List State
states_1 = a_state 0 no_database ∷ a_state 1 from_1 ∷ []

abbrev states_2 : List State
states_2 = states_1 ++ a_state 2 from_2 ∷ []

abbrev states_6 : List State
states_6 = states_2 ++ a_state 4 from_4 ∷ a_state 6 from_6 ∷ []

-- the past, with its six states
abbrev dropped : Past
dropped = past sizes_7 dropped_versions 7 5 (states_6 ++ a_state 7 from_7 ∷ [])

created : past_with beginning (creating 1) ≡ past sizes_1 (version_1 ∷ []) 1 1 states_1
unfolding set_of
created = refl

first_given : after_each tables_1 (inserting 1 ∷ []) from_1 ≡ from_2
first_given = changed_at tables_1 from_1 (inserting 1) a_columns [] (t_there no_tables a_columns)
    (t_there no_database (Rows []))

second_given : after_each tables_3 (inserting 2 ∷ []) from_6 ≡ from_7
second_given = changed_at tables_3 from_6 (inserting 2) a_columns [] (t_there tables_2 a_columns)
    (t_there from_4 (Rows []))

-- one row is gained each time, and none lost
first_gained : gained from_1 from_2 ≡ 1
first_gained = gained_is from_1 t [] (row 1) (t_there no_database (Rows []))

first_kept : lost from_1 from_2 ≡ 0
first_kept = lost_is from_1 t [] (row 1) (t_there no_database (Rows []))

second_gained : gained from_6 from_7 ≡ 1
second_gained = gained_is from_6 t [] (row 2) (t_there from_4 (Rows []))

second_kept : lost from_6 from_7 ≡ 0
second_kept = lost_is from_6 t [] (row 2) (t_there from_4 (Rows []))

abbrev changed : List Size → List PlainVersion → ℕ → ℕ → Database → List State → ℕ → Past
changed sizes versions stamp count new states n =
    past sizes versions stamp count (if n == 0 then states else from_stamp stamp new states)

at_2 : past_with (past sizes_1 (version_1 ∷ []) 1 1 states_1) (giving 2 1)
    ≡ past sizes_2 (version_1 ∷ []) 2 2 states_2
at_2 =
    ap (λ db. changed_to 2 db (past sizes_1 (version_1 ∷ []) 1 1 states_1)) first_given
    ∙ ap (λ n. changed sizes_2 (version_1 ∷ []) 2 2 from_2 states_1 (n + lost from_1 from_2))
    first_gained
    ∙ ap (λ n. changed sizes_2 (version_1 ∷ []) 2 2 from_2 states_1 (1 + n)) first_kept

evolved : past_with (past_with (past sizes_2 (version_1 ∷ []) 2 2 states_2) dropping) (creating 6)
    ≡ past sizes_6 dropped_versions 6 4 states_6
unfolding set_of
evolved = refl

at_7 : past_with (past sizes_6 dropped_versions 6 4 states_6) (giving 7 2) ≡ dropped
at_7 =
    ap (λ db. changed_to 7 db (past sizes_6 dropped_versions 6 4 states_6)) second_given
    ∙ ap (λ n. changed sizes_7 dropped_versions 7 5 from_7 states_6 (n + lost from_6 from_7))
    second_gained
    ∙ ap (λ n. changed sizes_7 dropped_versions 7 5 from_7 states_6 (1 + n)) second_kept

past_is : past_of commands ≡ dropped
past_is =
    ap (λ p. past_with (past_with (past_with (past_with p (giving 2 1)) dropping) (creating 6))
    (giving 7 2)) created
    ∙ ap (λ p. past_with (past_with (past_with p dropping) (creating 6)) (giving 7 2)) at_2
    ∙ ap (λ p. past_with p (giving 7 2)) evolved ∙ at_7

-- ---- QUERY VERSION 1 SELECT a FROM t, and the same DURING 0 TO 4

abbrev on_version_1 : PlainQuery
on_version_1 = a_query 1 (select t (column Free a ∷ []) always) Always []

abbrev before_4 : PlainQuery
before_4 = a_query 1 (select t (column Free a ∷ []) always) (During 0 4) []

-- the branch that is asked, and its references to t
abbrev asked_branches : List PlainBranch
asked_branches = (query_asked dropped on_version_1).branches

abbrev named : List ColRef
named = filter (is_to 0) (flat_map (λ (b : PlainBranch). all_references b.outs b.cond)
    asked_branches)

abbrev loss_by : Option TableLoss → Option Loss → Option Loss
loss_by o whole = first_refusal (option_or whole (first_named (λ c. get (lost_columns o) c) named)
    ∷ [])

t_lost : (losses : Losses) (l : Loss) → get losses t ≡ Some (WholeTable l)
    → items_loss losses asked_branches ≡ Some l
t_lost losses l h = ap (λ (o : Option TableLoss). loss_by o (whole_loss o)) h

t_kept : (losses : Losses) (o : Option TableLoss) → get losses t ≡ o → whole_loss o ≡ None
    → lost_columns o ≡ empty → items_loss losses asked_branches ≡ None
t_kept losses o h w e = ap (λ (p : Option TableLoss). loss_by p (whole_loss p)) h
    ∙ ap (loss_by o) w
    ∙ ap (λ (p : Option Loss). first_refusal (p ∷ []))
    (first_named_none (λ c. get (lost_columns o) c) (written_names named)
    (λ n m. ap (λ (x : FinMap bytes_cmp Loss). get x n) e ∙ get-empty bytes_cmp n))

none_before : (m : ℕ) → m < 4 → loss_at dropped on_version_1 (0 + m) ≡ None
unfolding set_of
none_before zero l = t_kept (insert empty t (OfColumns empty)) (Some (OfColumns empty))
    (t_there empty (OfColumns empty)) refl refl
none_before (suc zero) l = t_kept empty None (get-empty bytes_cmp t) refl refl
none_before (suc (suc zero)) l = t_kept empty None (get-empty bytes_cmp t) refl refl
none_before (suc (suc (suc zero))) l = t_kept empty None (get-empty bytes_cmp t) refl refl
none_before (suc (suc (suc (suc m)))) l = absurd (omega arith)

lost_at_4 : loss_at dropped on_version_1 (0 + 4) ≡ Some (2, 1)
lost_at_4 = t_lost (insert empty t (WholeTable (2, 1))) (2, 1) (t_there empty (WholeTable (2, 1)))

-- the first loss is that of version 2, by its DROP TABLE; there is none where nothing from moment 4
-- on is asked
lost_first : first_lost dropped on_version_1 ≡ Some (2, 1)
lost_first = first_is (loss_at dropped on_version_1) 0 forever 4 (2, 1) (omega arith) none_before
    lost_at_4

not_before : first_lost dropped before_4 ≡ None
not_before = first_none (loss_at dropped before_4) 0 4 none_before

no_inverse_of_it : no_way_back dropped.versions (2, 1) ≡ NoInverse 2 DropTable
no_inverse_of_it = refl

-- so the query is refused, and accepted up to the drop
refused : fault_of_query dropped on_version_1 ≡ Some (NoInverse 2 DropTable)
refused =
    ap (λ tests. first_refusal (tests ++ loss_fault dropped.versions
    (first_lost dropped on_version_1) ∷ []))
    (tested tables_1 1 t (column Free a ∷ []) always Always a_columns
    (t_there no_tables a_columns))
    ∙ ap (λ loss. first_refusal (loss_fault dropped.versions loss ∷ [])) lost_first

accepted : fault_of_query dropped before_4 ≡ None
accepted =
    ap (λ tests. first_refusal (tests ++ loss_fault dropped.versions (first_lost dropped before_4)
    ∷ [])) (tested tables_1 1 t (column Free a ∷ []) always (During 0 4) a_columns
    (t_there no_tables a_columns))
    ∙ ap (λ loss. first_refusal (loss_fault dropped.versions loss ∷ [])) not_before

on_1 : (db : Database) (rows : Relation) → get db t ≡ Some (Rows rows)
    → plain tables_1 (branches_with_atoms tables_1 (select t (column Free a ∷ []) always)) db
    ≡ answers_by t (column Free a ∷ []) always (Some a_columns) (Some (Rows rows))
on_1 db rows h = selected tables_1 db t (column Free a ∷ []) always a_columns rows
    (t_there no_tables a_columns) h

asked_0 : asked_at dropped before_4 0 ≡ []
unfolding set_of
asked_0 = on_1 (migrated dropped 0 1) [] (t_there no_database (Rows []))

asked_1 : asked_at dropped before_4 1 ≡ []
unfolding set_of
asked_1 = on_1 from_1 [] (t_there no_database (Rows []))

asked_2 : asked_at dropped before_4 2 ≡ row 1
unfolding set_of
asked_2 = on_1 from_2 (row 1) (t_there from_1 (Rows (row 1)))

stages_before : stages dropped before_4 ≡ stage 0 [] ∷ stage 1 [] ∷ stage 2 (row 1) ∷ stage 4 []
    ∷ []
stages_before = λ i. stage 0 (asked_0 i) ∷ stage 1 (asked_1 i) ∷ stage 2 (asked_2 i) ∷ stage 4 []
    ∷ []

-- 1 from 2 up to the drop
answer_before : answer dropped before_4 ≡ record { item = int 1 ∷ []; period = span 2 4 } ∷ []
unfolding set_of listing_of
answer_before = ap (λ ss. kept [] (listing_of row_cmp ss)) stages_before

-- ---- QUERY VERSION 3 SELECT a FROM t

abbrev on_version_3 : PlainQuery
on_version_3 = a_query 3 (select t (column Free a ∷ []) always) Always []

on_3 : (db : Database) (rows : Relation) → get db t ≡ Some (Rows rows)
    → plain tables_3 (branches_with_atoms tables_3 (select t (column Free a ∷ []) always)) db
    ≡ answers_by t (column Free a ∷ []) always (Some a_columns) (Some (Rows rows))
on_3 db rows h = selected tables_3 db t (column Free a ∷ []) always a_columns rows
    (t_there tables_2 a_columns) h

-- what is carried over the second CREATE TABLE is empty
later_0 : asked_at dropped on_version_3 0 ≡ []
unfolding set_of
later_0 = on_3 (migrated dropped 0 3) [] (t_there (migrated dropped 0 2) (Rows []))

later_1 : asked_at dropped on_version_3 1 ≡ []
unfolding set_of
later_1 = on_3 (migrated dropped 1 3) [] (t_there (migrated dropped 1 2) (Rows []))

later_2 : asked_at dropped on_version_3 2 ≡ []
unfolding set_of
later_2 = on_3 (migrated dropped 2 3) [] (t_there (migrated dropped 2 2) (Rows []))

later_4 : asked_at dropped on_version_3 4 ≡ []
unfolding set_of
later_4 = on_3 (migrated dropped 4 3) [] (t_there from_4 (Rows []))

later_6 : asked_at dropped on_version_3 6 ≡ []
unfolding set_of
later_6 = on_3 from_6 [] (t_there from_4 (Rows []))

later_7 : asked_at dropped on_version_3 7 ≡ row 2
unfolding set_of
later_7 = on_3 from_7 (row 2) (t_there from_6 (Rows (row 2)))

later_stages : stages dropped on_version_3 ≡ stage 0 [] ∷ stage 1 [] ∷ stage 2 [] ∷ stage 4 []
    ∷ stage 6 [] ∷ stage 7 (row 2) ∷ []
later_stages = λ i. stage 0 (later_0 i) ∷ stage 1 (later_1 i) ∷ stage 2 (later_2 i)
    ∷ stage 4 (later_4 i) ∷ stage 6 (later_6 i) ∷ stage 7 (later_7 i) ∷ []

-- 2 from 7 on
later_answer : answer dropped on_version_3 ≡ record { item = int 2 ∷ []; period = span 7 forever }
    ∷ []
unfolding set_of listing_of
later_answer = ap (λ ss. kept [] (listing_of row_cmp ss)) later_stages

-- ---- the commands are a history: each is accepted after those before it

columns_1 : get tables_1 t ≡ Some a_columns
columns_1 = t_there no_tables a_columns

free_1 : get no_tables t ≡ None
free_1 = get-empty bytes_cmp t

free_2 : get tables_2 t ≡ None
free_2 = get-remove nat_list_cmp_total tables_1 t t

many_1 : len tables_1 ≡ 1
many_1 = one_more no_tables t a_columns 0 free_1 (len-empty bytes_cmp (List Column))

many_2 : len tables_2 ≡ 0
many_2 = one_less tables_1 t a_columns 1 columns_1 many_1

many_3 : len tables_3 ≡ 1
many_3 = one_more tables_2 t a_columns 0 free_2 many_2

first_create : evolution_fault no_tables (create_table t a_columns ∷ []) ≡ None
unfolding set_of
first_create = accepted_all no_tables (create_table t a_columns ∷ [])
    (creates no_tables t a_columns 1 free_1 many_1, tt)

second_create : evolution_fault tables_2 (create_table t a_columns ∷ []) ≡ None
unfolding set_of
second_create = accepted_all tables_2 (create_table t a_columns ∷ [])
    (creates tables_2 t a_columns 1 free_2 many_3, tt)

drop_accepted : evolution_fault tables_1 (drop_table t ∷ []) ≡ None
drop_accepted = accepted_all tables_1 (drop_table t ∷ []) (
  ap (λ (o : Option (List Column)). first_refusal (unless (is_some o) (NoTable t) ∷ [])) columns_1,
  tt,
)

accepted_1 : command_fault beginning (creating 1) ≡ None
accepted_1 = ap (λ (o : Option OpRefusal). first_refusal (option_map operator_refusal o ∷ []))
    first_create

accepted_2 : command_fault (past sizes_1 (version_1 ∷ []) 1 1 states_1) (giving 2 1) ≡ None
accepted_2 = ap (λ (o : Option (List Column)). first_refusal (change_by (inserting 1) 0 o ++ []))
    columns_1

accepted_4 : command_fault (past sizes_2 (version_1 ∷ []) 2 2 states_2) dropping ≡ None
accepted_4 = ap (λ (o : Option OpRefusal). first_refusal (option_map operator_refusal o ∷ []))
    drop_accepted

abbrev until_drop : Past
until_drop = past sizes_4 (version_1 ∷ version_2 ∷ []) 4 3 (states_2 ++ a_state 4 from_4 ∷ [])

dropped_at_4 : past_with (past sizes_2 (version_1 ∷ []) 2 2 states_2) dropping ≡ until_drop
dropped_at_4 = refl

accepted_6 : command_fault until_drop (creating 6) ≡ None
accepted_6 = ap (λ (o : Option OpRefusal). first_refusal (option_map operator_refusal o ∷ []))
    second_create

accepted_7 : command_fault (past sizes_6 dropped_versions 6 4 states_6) (giving 7 2) ≡ None
accepted_7 = ap (λ (o : Option (List Column)). first_refusal (change_by (inserting 2) 0 o ++ []))
    (t_there tables_2 a_columns)

is_history : IsHistory commands
is_history =
    let third = ap (λ p. past_with p (giving 2 1)) created ∙ at_2 in
    let fourth = ap (λ p. past_with p dropping) third in
    let fifth = ap (λ p. past_with p (creating 6)) fourth ∙ evolved in (
      accepted_1,
      (
        ap (λ p. command_fault p (giving 2 1)) created ∙ accepted_2,
        (
          ap (λ p. command_fault p dropping) third ∙ accepted_4,
          (
            ap (λ p. command_fault p (creating 6)) (fourth ∙ dropped_at_4) ∙ accepted_6,
            (ap (λ p. command_fault p (giving 7 2)) fifth ∙ accepted_7, tt),
          ),
        ),
      ),
    )

-- so their past is valid, and at each moment its database is one of the version then in force
is_past : IsPast dropped
is_past = subst IsPast past_is (history_is_past beginning commands beginning_is_past is_history)

-- and it holds valid values
one_is : IsValid (int 1)
one_is = small_number 1 (omega arith)

two_is : IsValid (int 2)
two_is = small_number 2 (omega arith)

holds : PastHolds dropped
holds = subst PastHolds past_is (history_holds beginning commands beginning_is_past is_history (
  ((tt, tt), tt),
  (((one_is, tt), tt), (((tt, tt), tt), (((tt, tt), tt), (((two_is, tt), tt), tt)))),
) beginning_holds)
