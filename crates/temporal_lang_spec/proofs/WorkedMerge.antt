-- Worked rows: two tables that are merged, with a partition as the inverse. Their past, and the
-- answers to queries on the versions before and after.
use Rattle.std.specs.Prelude.{◌≡◌, ◌==◌, ◌++◌, ◌||◌, ℕ, ◌+◌, List, [], ◌∷◌, Bool, true, false, not}
use Rattle.std.specs.Prelude.{cond, is_some, nat_le, Option, Some, None, if◌then◌else◌}
use Rattle.std.proofs.Common.{refl, sym, ap, subst, ◌∙◌, arith}
use Rattle.std.specs.Option.{unwrap_or, option_map}
use Rattle.std.specs.FinMap.{FinMap, get, insert, remove, len, get-empty, get-insert, get-remove}
use Rattle.std.specs.FinMap.{len-empty, same_map, slice_cmp-IsAntisymmetric}
use Rattle.std.specs.FinMap.{nat_cmp-IsAntisymmetric}
use Rattle.std.specs.Cmp.Lexicographic.{nat_list_cmp_total}
use Rattle.relations_spec.specs.Sets.{set_of}
use Rattle.relations_spec.specs.Spans.{span, forever}
use Rattle.relations_spec.specs.Timeline.{listing_of}
use Rattle.prima_base.specs.Order.{bytes_cmp, row_cmp}
use Rattle.prima_base.specs.Keeping.{kept}
use Rattle.schema_catalog.specs.Databases.{DatabaseEntry, Rows, Database}
use Rattle.cond_expr.specs.declared.expr.Whose.TheVariants.{Free}
use Rattle.cond_expr.specs.Trees.{column, always}
use Rattle.smo_ops_types.specs.Operators.{Operator, create_table, merge_table, partition_table}
use Rattle.smo_ops_types.specs.Changes.{PlainChange, insertion}
use Rattle.smo_ops_types.specs.Commands.{PlainCommand, PlainVersion, changing, evolving}
use Rattle.smo_ops_spec.specs.OneRow.{Row, Relation, same}
use Rattle.smo_ops_spec.specs.Making.{union, from_two}
use Rattle.smo_ops_spec.specs.Effects.{database_after, after_each, gained, lost}
use Rattle.smo_ops_spec.specs.After.{op_fault, schema_after, migrate}
use Rattle.smo_ops_spec.specs.Evolutions.{evolution_fault}
use Rattle.smo_ops_spec.specs.Sizes.{Size, sizes_changed, sizes_evolved}
use Rattle.smo_ops_spec.specs.Past.{Past, State, a_state, no_tables, no_database, beginning}
use Rattle.smo_ops_spec.specs.Past.{changed_to, evolved_to, past_with, from_stamp}
use Rattle.smo_ops_spec.specs.History.{past_of, IsHistory}
use Rattle.smo_ops_spec.specs.Accepts.{operator_refusal, command_fault}
use Rattle.smo_ops_spec.specs.ValidPast.{IsPast}
use Rattle.smo_ops_spec.proofs.PastSteps.{beginning_is_past}
use Rattle.cond_expr.proofs.ConstantLaws.{small_number}
use Rattle.prima_base.specs.Columns.{Column}
use Rattle.smo_ops_spec.specs.ValidValues.{PastHolds}
use Rattle.smo_ops_spec.proofs.ValueLaws.{beginning_holds, history_holds}
use Rattle.prima_base.specs.declared.refusal.What.TheVariants.{Tables as TABLES}
use Rattle.prima_base.specs.declared.refusal.OpRefusal.{OpRefusal}
use Rattle.prima_base.specs.declared.refusal.OpRefusal.TheVariants.{Exists, TooMany, NoTable}
use Rattle.prima_base.specs.Limits.{max_tables}
use Rattle.prima_base.specs.OrderLaws.{same_is}
use Rattle.smo_ops_spec.specs.First.{unless, first_refusal}
use Rattle.smo_ops_spec.specs.Preconditions.{among, differ, alike, test_known_in, test_typed_in}
use Rattle.smo_ops_spec.specs.Inverses.{inverse_tests, inverse_fault}
use Rattle.smo_ops_spec.proofs.InverseLaws.{accepted_so}
use Rattle.smo_ops_spec.proofs.MemberLaws.{accepted_all}
use Rattle.smo_ops_spec.proofs.CountingLaws.{gained_step, lost_with}
use Rattle.smo_ops_versions_spec.specs.Migration.{migrated}
use Rattle.smo_ops_versions_spec.proofs.WorkedWords.{a, r, s, t, int, a_columns, t_there, s_there}
use Rattle.smo_ops_versions_spec.proofs.WorkedWords.{r_there}
use Rattle.smo_ops_versions_spec.proofs.WorkedWords.{r_under_s}
use Rattle.smo_ops_versions_spec.proofs.WorkedWays.{low, with_r, with_s, merged, versions}
use Rattle.smo_ops_versions_spec.proofs.WorkedWays.{r_back_of}
use Rattle.plain_answers_spec.specs.Branches.{plain}
use Rattle.temporal_lang_types.specs.declared.when.When.TheVariants.{Always}
use Rattle.temporal_lang_spec.specs.Atoms.{branches_with_atoms}
use Rattle.temporal_lang_types.specs.Queries.{PlainQuery, a_query}
use Rattle.temporal_lang_spec.specs.Answers.{asked_at, stages, answer}
use Rattle.temporal_lang_spec.proofs.WorkedPast.{history_is_past}
use Rattle.temporal_lang_spec.proofs.WorkedSelects.{command, stage, changed_at, gained_is, lost_is}
use Rattle.temporal_lang_spec.proofs.WorkedSelects.{change_by, creates, one_more, select, selected}
use Rattle.temporal_lang_spec.proofs.WorkedSelects.{answers_by}

-- ---- AT 1 EVOLVE CREATE TABLE r (a INT); AT 2 EVOLVE CREATE TABLE s (a INT);
-- AT 3 INSERT INTO r (a) VALUES (1) THEN INSERT INTO s (a) VALUES (20);
-- AT 4 EVOLVE MERGE TABLE r, s INTO t INVERSE PARTITION TABLE t INTO r WITH a < 10, s;
-- AT 6 INSERT INTO t (a) VALUES (7) THEN INSERT INTO t (a) VALUES (30);

abbrev inserting : List ℕ → ℕ → PlainChange
inserting n k = insertion n ((a, int k) ∷ [])

abbrev first_table : PlainCommand
first_table = command 1 (evolving (create_table r a_columns ∷ []) [])

abbrev second_table : PlainCommand
second_table = command 2 (evolving (create_table s a_columns ∷ []) [])

abbrev giving_3 : PlainCommand
giving_3 = command 3 (changing (inserting r 1 ∷ inserting s 20 ∷ []))

abbrev merging : PlainCommand
merging = command 4 (evolving (merge_table r s t ∷ []) ((partition_table t r low s ∷ []) ∷ []))

abbrev giving_6 : PlainCommand
giving_6 = command 6 (changing (inserting t 7 ∷ inserting t 30 ∷ []))

abbrev commands : List PlainCommand
commands = first_table ∷ second_table ∷ giving_3 ∷ merging ∷ giving_6 ∷ []

abbrev row : ℕ → Row
row n = int n ∷ []

abbrev both : Relation
both = row 1 ∷ row 20 ∷ []

abbrev with_7 : Relation
with_7 = row 1 ∷ row 7 ∷ row 20 ∷ []

abbrev all : Relation
all = row 1 ∷ row 7 ∷ row 20 ∷ row 30 ∷ []

abbrev from_1 : Database
from_1 = insert no_database r (Rows [])

abbrev from_2 : Database
from_2 = insert from_1 s (Rows [])

abbrev one_given : Database
one_given = insert from_2 r (Rows (row 1 ∷ []))

abbrev from_3 : Database
from_3 = insert one_given s (Rows (row 20 ∷ []))

abbrev from_4 : Database
from_4 = insert (remove (remove from_3 r) s) t (Rows both)

abbrev seven_given : Database
seven_given = insert from_4 t (Rows with_7)

abbrev from_6 : Database
from_6 = insert seven_given t (Rows all)

abbrev version_1 : PlainVersion
version_1 = record { stamp = 1; op = create_table r a_columns ∷ []; inverse = []; tables = with_r }

abbrev version_2 : PlainVersion
version_2 = record { stamp = 2; op = create_table s a_columns ∷ []; inverse = []; tables = with_s }

abbrev version_3 : PlainVersion
version_3 = record {
  stamp = 4;
  op = merge_table r s t ∷ [];
  inverse = (partition_table t r low s ∷ []) ∷ [];
  tables = merged;
}

abbrev before_merge : List PlainVersion
before_merge = version_1 ∷ version_2 ∷ []

abbrev past : List Size → List PlainVersion → ℕ → ℕ → List State → Past
past sizes vs last count states = record {
  versions = vs;
  last = Some last;
  commands = count;
  sizes = sizes;
  states = states;
}

-- what is stored after each command
abbrev sizes_1 : List Size
sizes_1 = sizes_evolved no_tables (create_table r a_columns ∷ []) with_r from_1 0 []

abbrev sizes_2 : List Size
sizes_2 = sizes_evolved with_r (create_table s a_columns ∷ []) with_s from_2 1 sizes_1

abbrev sizes_3 : List Size
sizes_3 = sizes_changed from_2 from_3 sizes_2

abbrev sizes_4 : List Size
sizes_4 = sizes_evolved with_s (merge_table r s t ∷ []) merged from_4 2 sizes_3

abbrev sizes_6 : List Size
sizes_6 = sizes_changed from_4 from_6 sizes_4

abbrev states_2 : List State
states_2 = a_state 0 no_database ∷ a_state 1 from_1 ∷ a_state 2 from_2 ∷ []

abbrev states_3 : List State
states_3 = states_2 ++ a_state 3 from_3 ∷ []

abbrev states_4 : List State
states_4 = states_3 ++ a_state 4 from_4 ∷ []

abbrev past_6 : Past
past_6 = past sizes_6 versions 6 5 (states_4 ++ a_state 6 from_6 ∷ [])

-- ---- what stands under the names

s_under_r : {X : Type 0} (m : FinMap bytes_cmp X) (v : X) → get (insert m r v) s ≡ get m s
s_under_r m v = get-insert nat_list_cmp_total m r v s

r_columns : get with_s r ≡ Some a_columns
r_columns = r_under_s with_r a_columns ∙ r_there no_tables a_columns

t_columns : get merged t ≡ Some a_columns
t_columns = t_there (remove (remove with_s r) s) (unwrap_or (get with_s r) [])
    ∙ ap (λ (o : Option (List Column)). Some (unwrap_or o [])) r_columns

r_empty : get from_2 r ≡ Some (Rows [])
r_empty = r_under_s from_1 (Rows []) ∙ r_there no_database (Rows [])

s_empty : get from_2 s ≡ Some (Rows [])
s_empty = s_there from_1 (Rows [])

s_still_empty : get one_given s ≡ Some (Rows [])
s_still_empty = s_under_r from_2 (Rows (row 1 ∷ [])) ∙ s_empty

r_at_3 : get from_3 r ≡ Some (Rows (row 1 ∷ []))
r_at_3 = r_under_s one_given (Rows (row 20 ∷ [])) ∙ r_there from_2 (Rows (row 1 ∷ []))

s_at_3 : get from_3 s ≡ Some (Rows (row 20 ∷ []))
s_at_3 = s_there one_given (Rows (row 20 ∷ []))

t_at_4 : get from_4 t ≡ Some (Rows both)
t_at_4 = t_there (remove (remove from_3 r) s) (Rows both)

-- ---- the past, command by command

created : past_with (past_with beginning first_table) second_table
    ≡ past sizes_2 before_merge 2 2 states_2
unfolding set_of
created = refl

given_3 : after_each with_s (inserting r 1 ∷ inserting s 20 ∷ []) from_2 ≡ from_3
given_3 =
    ap (λ db. database_after with_s (inserting s 20) db)
    (changed_at with_s from_2 (inserting r 1) a_columns [] r_columns r_empty)
    ∙ changed_at with_s one_given (inserting s 20) a_columns [] (s_there with_r a_columns)
    s_still_empty

given_6 : after_each merged (inserting t 7 ∷ inserting t 30 ∷ []) from_4 ≡ from_6
given_6 =
    ap (λ db. database_after merged (inserting t 30) db)
    (changed_at merged from_4 (inserting t 7) a_columns both t_columns t_at_4)
    ∙ changed_at merged seven_given (inserting t 30) a_columns with_7 t_columns
    (t_there from_4 (Rows with_7))

-- two rows are gained each time, and none lost
gained_3 : gained from_2 from_3 ≡ 2
gained_3 =
    let first : gained from_2 one_given ≡ 1 = gained_is from_2 r [] (row 1 ∷ []) r_empty in
    let second : gained from_2 from_3 + 0 ≡ gained from_2 one_given + 1 =
    gained_step from_2 s (Rows []) (Rows (row 20 ∷ [])) one_given (Rows []) s_empty
    s_still_empty in
    omega (arith, first, second)

lost_3 : lost from_2 from_3 ≡ 0
lost_3 =
    let first : lost from_2 one_given ≡ 0 = lost_is from_2 r [] (row 1 ∷ []) r_empty in
    let second : lost from_2 from_3 + 0 ≡ lost from_2 one_given + 0 =
    lost_with one_given s (Rows []) (Rows (row 20 ∷ [])) s_still_empty from_2 (Rows [])
    s_empty in
    omega (arith, first, second)

gained_6 : gained from_4 from_6 ≡ 2
gained_6 =
    let first : gained from_4 seven_given ≡ 1 = gained_is from_4 t both with_7 t_at_4 in
    let second : gained from_4 from_6 + 1 ≡ gained from_4 seven_given + 2 =
    gained_step from_4 t (Rows with_7) (Rows all) seven_given (Rows both) t_at_4
    (t_there from_4 (Rows with_7)) in
    omega (arith, first, second)

lost_6 : lost from_4 from_6 ≡ 0
lost_6 =
    let first : lost from_4 seven_given ≡ 0 = lost_is from_4 t both with_7 t_at_4 in
    let second : lost from_4 from_6 + 0 ≡ lost from_4 seven_given + 0 =
    lost_with seven_given t (Rows with_7) (Rows all) (t_there from_4 (Rows with_7)) from_4
    (Rows both) t_at_4 in
    omega (arith, first, second)

abbrev changed : List Size → List PlainVersion → ℕ → ℕ → Database → List State → ℕ → Past
changed sizes vs stamp count new states n = past sizes vs stamp count
    (if n == 0 then states else from_stamp stamp new states)

at_3 : past_with (past sizes_2 before_merge 2 2 states_2) giving_3
    ≡ past sizes_3 before_merge 3 3 states_3
at_3 =
    ap (λ db. changed_to 3 db (past sizes_2 before_merge 2 2 states_2)) given_3
    ∙ ap (λ n. changed sizes_3 before_merge 3 3 from_3 states_2 (n + lost from_2 from_3)) gained_3
    ∙ ap (λ n. changed sizes_3 before_merge 3 3 from_3 states_2 (2 + n)) lost_3

both_made : from_two union (get from_3 r) (get from_3 s) ≡ Rows both
unfolding set_of
both_made = ap (λ (e : Option DatabaseEntry). from_two union e (get from_3 s)) r_at_3
    ∙ ap (λ (e : Option DatabaseEntry). from_two union (Some (Rows (row 1 ∷ []))) e) s_at_3

at_4 : past_with (past sizes_3 before_merge 3 3 states_3) merging
    ≡ past sizes_4 versions 4 4 states_4
at_4 = ap (λ e. evolved_to version_3 (insert (remove (remove from_3 r) s) t e)
    (past sizes_3 before_merge 3 3 states_3)) both_made

at_6 : past_with (past sizes_4 versions 4 4 states_4) giving_6 ≡ past_6
at_6 =
    ap (λ db. changed_to 6 db (past sizes_4 versions 4 4 states_4)) given_6
    ∙ ap (λ n. changed sizes_6 versions 6 5 from_6 states_4 (n + lost from_4 from_6)) gained_6
    ∙ ap (λ n. changed sizes_6 versions 6 5 from_6 states_4 (2 + n)) lost_6

past_is : past_of commands ≡ past_6
past_is =
    ap (λ p. past_with (past_with (past_with p giving_3) merging) giving_6) created
    ∙ ap (λ p. past_with (past_with p merging) giving_6) at_3 ∙ ap (λ p. past_with p giving_6) at_4
    ∙ at_6

-- ---- QUERY VERSION 2 SELECT a FROM r

abbrev of_r : PlainQuery
of_r = a_query 2 (select r (column Free a ∷ []) always) Always []

on_2 : (db : Database) (rows : Relation) → get db r ≡ Some (Rows rows)
    → plain with_s (branches_with_atoms with_s (select r (column Free a ∷ []) always)) db
    ≡ answers_by r (column Free a ∷ []) always (Some a_columns) (Some (Rows rows))
on_2 db rows h = selected with_s db r (column Free a ∷ []) always a_columns rows r_columns h

r_0 : asked_at past_6 of_r 0 ≡ []
unfolding set_of
r_0 = on_2 (migrated past_6 0 2) [] r_empty

r_1 : asked_at past_6 of_r 1 ≡ []
unfolding set_of
r_1 = on_2 (migrated past_6 1 2) [] r_empty

r_2 : asked_at past_6 of_r 2 ≡ []
unfolding set_of
r_2 = on_2 from_2 [] r_empty

r_3 : asked_at past_6 of_r 3 ≡ row 1 ∷ []
unfolding set_of
r_3 = on_2 from_3 (row 1 ∷ []) r_at_3

r_4 : asked_at past_6 of_r 4 ≡ row 1 ∷ []
unfolding set_of
r_4 = on_2 (migrated past_6 4 2) (row 1 ∷ []) (r_back_of from_4 both t_at_4)

r_6 : asked_at past_6 of_r 6 ≡ row 1 ∷ row 7 ∷ []
unfolding set_of
r_6 = on_2 (migrated past_6 6 2) (row 1 ∷ row 7 ∷ [])
    (r_back_of from_6 all (t_there seven_given (Rows all)))

r_stages : stages past_6 of_r ≡ stage 0 [] ∷ stage 1 [] ∷ stage 2 [] ∷ stage 3 (row 1 ∷ [])
    ∷ stage 4 (row 1 ∷ []) ∷ stage 6 (row 1 ∷ row 7 ∷ []) ∷ []
r_stages = λ i. stage 0 (r_0 i) ∷ stage 1 (r_1 i) ∷ stage 2 (r_2 i) ∷ stage 3 (r_3 i)
    ∷ stage 4 (r_4 i) ∷ stage 6 (r_6 i) ∷ []

-- 1 from 3 on: the merge does not cut it; and 7 from 6 on
r_answer : answer past_6 of_r ≡ record { item = row 1; period = span 3 forever }
    ∷ record { item = row 7; period = span 6 forever } ∷ []
unfolding set_of listing_of
r_answer = ap (λ ss. kept [] (listing_of row_cmp ss)) r_stages

-- ---- QUERY VERSION 3 SELECT a FROM t

abbrev of_t : PlainQuery
of_t = a_query 3 (select t (column Free a ∷ []) always) Always []

on_3 : (db : Database) (rows : Relation) → get db t ≡ Some (Rows rows)
    → plain merged (branches_with_atoms merged (select t (column Free a ∷ []) always)) db
    ≡ answers_by t (column Free a ∷ []) always (Some a_columns) (Some (Rows rows))
on_3 db rows h = selected merged db t (column Free a ∷ []) always a_columns rows t_columns h

merged_over : (db : Database) (x y : Relation) → get db r ≡ Some (Rows x) → get db s ≡ Some (Rows y)
    → get (migrate with_s (merge_table r s t) db) t ≡ Some (Rows (union x y))
merged_over db x y h k =
    t_there (remove (remove db r) s) (from_two union (get db r) (get db s))
    ∙ ap (λ (e : Option DatabaseEntry). Some (from_two union e (get db s))) h
    ∙ ap (λ (e : Option DatabaseEntry). Some (from_two union (Some (Rows x)) e)) k

t_0 : asked_at past_6 of_t 0 ≡ []
unfolding set_of
t_0 = on_3 (migrated past_6 0 3) [] (merged_over from_2 [] [] r_empty s_empty)

t_1 : asked_at past_6 of_t 1 ≡ []
unfolding set_of
t_1 = on_3 (migrated past_6 1 3) [] (merged_over from_2 [] [] r_empty s_empty)

t_2 : asked_at past_6 of_t 2 ≡ []
unfolding set_of
t_2 = on_3 (migrated past_6 2 3) [] (merged_over from_2 [] [] r_empty s_empty)

t_3 : asked_at past_6 of_t 3 ≡ both
unfolding set_of
t_3 = on_3 (migrated past_6 3 3) both (merged_over from_3 (row 1 ∷ []) (row 20 ∷ []) r_at_3 s_at_3)

t_4 : asked_at past_6 of_t 4 ≡ both
unfolding set_of
t_4 = on_3 from_4 both t_at_4

t_6 : asked_at past_6 of_t 6 ≡ all
unfolding set_of
t_6 = on_3 from_6 all (t_there seven_given (Rows all))

t_stages : stages past_6 of_t ≡ stage 0 [] ∷ stage 1 [] ∷ stage 2 [] ∷ stage 3 both ∷ stage 4 both
    ∷ stage 6 all ∷ []
t_stages = λ i. stage 0 (t_0 i) ∷ stage 1 (t_1 i) ∷ stage 2 (t_2 i) ∷ stage 3 (t_3 i)
    ∷ stage 4 (t_4 i) ∷ stage 6 (t_6 i) ∷ []

t_answer : answer past_6 of_t
    ≡ record { item = row 1; period = span 3 forever }
    ∷ record { item = row 7; period = span 6 forever }
    ∷ record { item = row 20; period = span 3 forever }
    ∷ record { item = row 30; period = span 6 forever } ∷ []
unfolding set_of listing_of
t_answer = ap (λ ss. kept [] (listing_of row_cmp ss)) t_stages

-- ---- the inverse leads back: PARTITION TABLE t INTO r WITH a < 10, s is accepted after the merge

parted_back : {X : Type 0} (m : FinMap bytes_cmp X) (p q n : List ℕ) (x y z : X) → get m p ≡ Some x
    → get m q ≡ Some y → get m n ≡ None
    → insert (insert (remove (insert (remove (remove m p) q) n z) n) p x) q y ≡ m
parted_back {X} m p q n x y z is also free = same_map nat_list_cmp_total
    (slice_cmp-IsAntisymmetric nat_cmp-IsAntisymmetric) _ _ (λ k.
    get-insert nat_list_cmp_total (insert (remove (insert (remove (remove m p) q) n z) n) p x) q y k
    ∙ ap (λ (o : Option X). cond (same k q) (Some y) o)
    (get-insert nat_list_cmp_total (remove (insert (remove (remove m p) q) n z) n) p x k
    ∙ ap (λ (o : Option X). cond (same k p) (Some x) o)
    (get-remove nat_list_cmp_total (insert (remove (remove m p) q) n z) n k
    ∙ ap (λ (o : Option X). cond (same k n) None o)
    (get-insert nat_list_cmp_total (remove (remove m p) q) n z k
    ∙ ap (λ (o : Option X). cond (same k n) (Some z) o)
    (get-remove nat_list_cmp_total (remove m p) q k
    ∙ ap (λ (o : Option X). cond (same k q) None o) (get-remove nat_list_cmp_total m p k)))))
    ∙ step k (same k q) refl (same k p) refl (same k n) refl)
  where
    step : (k : List ℕ) (c : Bool) → same k q ≡ c → (d : Bool) → same k p ≡ d → (e : Bool)
        → same k n ≡ e
        → cond c (Some y) (cond d (Some x) (cond e None
        (cond e (Some z) (cond c None (cond d None (get m k)))))) ≡ get m k
    step k true f d g e h = sym (ap (get m) (same_is k q f) ∙ also)
    step k false f true g e h = sym (ap (get m) (same_is k p g) ∙ is)
    step k false f false g true h = sym (ap (get m) (same_is k n h) ∙ free)
    step k false f false g false h = refl

abbrev parting : Operator
parting = partition_table t r low s

t_free : get with_s t ≡ None
t_free = get-insert nat_list_cmp_total with_r s a_columns t
    ∙ get-insert nat_list_cmp_total no_tables r a_columns t ∙ get-empty bytes_cmp t

leads_back : schema_after merged parting ≡ with_s
leads_back =
    ap (λ (o : Option (List Column)). insert (insert (remove merged t) r (unwrap_or o [])) s
    (unwrap_or o [])) t_columns
    ∙ parted_back with_s r s t a_columns a_columns (unwrap_or (get with_s r) []) r_columns
    (s_there with_r a_columns) t_free

one_table : len with_r ≡ 1
one_table = one_more no_tables r a_columns 0 (get-empty bytes_cmp r)
    (len-empty bytes_cmp (List Column))

s_free : get with_r s ≡ None
s_free = get-insert nat_list_cmp_total no_tables r a_columns s ∙ get-empty bytes_cmp s

both_tables : len with_s ≡ 2
both_tables = one_more with_r s a_columns 1 s_free one_table

two_tables : len (schema_after merged parting) ≡ 2
two_tables = ap len leads_back ∙ both_tables

r_gone : get merged r ≡ None
r_gone =
    get-insert nat_list_cmp_total (remove (remove with_s r) s) t (unwrap_or (get with_s r) []) r
    ∙ get-remove nat_list_cmp_total (remove with_s r) s r ∙ get-remove nat_list_cmp_total with_s r r

s_gone : get merged s ≡ None
s_gone = get-insert nat_list_cmp_total (remove (remove with_s r) s) t (unwrap_or (get with_s r) [])
    s ∙ get-remove nat_list_cmp_total (remove with_s r) s s

abbrev parting_by : Option (List Column) → Option (List Column) → Option (List Column) → ℕ
    → Option OpRefusal
parting_by o first second count =
    first_refusal (unless (is_some o) (NoTable t) ∷ differ r s
    ∷ unless (not (is_some first) || among r (t ∷ [])) (Exists r)
    ∷ unless (not (is_some second) || among s (t ∷ [])) (Exists s)
    ∷ test_known_in t (unwrap_or o []) low ∷ test_typed_in (unwrap_or o []) low
    ∷ unless (nat_le count max_tables) (TooMany TABLES max_tables) ∷ [])

parting_accepted : op_fault merged parting ≡ None
parting_accepted =
    ap (λ (o : Option (List Column)). parting_by o (get merged r) (get merged s)
    (len (schema_after merged parting))) t_columns
    ∙ ap (λ (o : Option (List Column)). parting_by (Some a_columns) o (get merged s)
    (len (schema_after merged parting))) r_gone
    ∙ ap (λ (o : Option (List Column)). parting_by (Some a_columns) None o
    (len (schema_after merged parting))) s_gone
    ∙ ap (parting_by (Some a_columns) None None) two_tables

inverse_accepted : inverse_fault with_s (merge_table r s t ∷ []) ((parting ∷ []) ∷ []) ≡ None
inverse_accepted = accepted_so with_s (merge_table r s t ∷ []) ((parting ∷ []) ∷ [])
    (accepted_all merged (parting ∷ []) (parting_accepted, tt), tt) leads_back

-- ---- the commands are a history: each is accepted after those before it

abbrev past_1 : Past
past_1 = past sizes_1 (version_1 ∷ []) 1 1 (a_state 0 no_database ∷ a_state 1 from_1 ∷ [])

first_created : past_with beginning first_table ≡ past_1
unfolding set_of
first_created = refl

first_create : evolution_fault no_tables (create_table r a_columns ∷ []) ≡ None
unfolding set_of
first_create = accepted_all no_tables (create_table r a_columns ∷ [])
    (creates no_tables r a_columns 1 (get-empty bytes_cmp r) one_table, tt)

second_create : evolution_fault with_r (create_table s a_columns ∷ []) ≡ None
unfolding set_of
second_create = accepted_all with_r (create_table s a_columns ∷ [])
    (creates with_r s a_columns 2 s_free both_tables, tt)

accepted_1 : command_fault beginning first_table ≡ None
accepted_1 = ap (λ (o : Option OpRefusal). first_refusal (option_map operator_refusal o ∷ []))
    first_create

accepted_2 : command_fault past_1 second_table ≡ None
accepted_2 = ap (λ (o : Option OpRefusal). first_refusal (option_map operator_refusal o ∷ []))
    second_create

accepted_3 : command_fault (past sizes_2 before_merge 2 2 states_2) giving_3 ≡ None
accepted_3 =
    ap (λ (o : Option (List Column)). first_refusal
    (change_by (inserting r 1) 0 o ++ (change_by (inserting s 20) 1 (get with_s s) ++ [])))
    r_columns
    ∙ ap (λ (o : Option (List Column)). first_refusal (change_by (inserting s 20) 1 o ++ []))
    (s_there with_r a_columns)

abbrev merging_by : Option (List Column) → Option (List Column) → Option (List Column)
    → Option OpRefusal
merging_by first second third =
    first_refusal (unless (is_some first) (NoTable r) ∷ unless (is_some second) (NoTable s)
    ∷ differ r s
    ∷ unless (not (is_some third) || among t (r ∷ s ∷ [])) (Exists t)
    ∷ alike r (unwrap_or first []) s (unwrap_or second []) ∷ [])

merge_accepted : op_fault with_s (merge_table r s t) ≡ None
merge_accepted =
    ap (λ (o : Option (List Column)). merging_by o (get with_s s) (get with_s t)) r_columns
    ∙ ap (λ (o : Option (List Column)). merging_by (Some a_columns) o (get with_s t))
    (s_there with_r a_columns)
    ∙ ap (merging_by (Some a_columns) (Some a_columns)) t_free

accepted_4 : command_fault (past sizes_3 before_merge 3 3 states_3) merging ≡ None
accepted_4 =
    ap (λ (o : Option OpRefusal). first_refusal (option_map operator_refusal o
    ∷ inverse_tests with_s (merge_table r s t ∷ []) ((parting ∷ []) ∷ [])))
    (accepted_all with_s (merge_table r s t ∷ []) (merge_accepted, tt)) ∙ inverse_accepted

accepted_6 : command_fault (past sizes_4 versions 4 4 states_4) giving_6 ≡ None
accepted_6 = ap (λ (o : Option (List Column)).
    first_refusal (change_by (inserting t 7) 0 o ++ (change_by (inserting t 30) 1 o ++ [])))
    t_columns

is_history : IsHistory commands
is_history =
    let fourth = ap (λ p. past_with p giving_3) created ∙ at_3 in
    let fifth = ap (λ p. past_with p merging) fourth ∙ at_4 in (
      accepted_1,
      (
        ap (λ p. command_fault p second_table) first_created ∙ accepted_2,
        (
          ap (λ p. command_fault p giving_3) created ∙ accepted_3,
          (
            ap (λ p. command_fault p merging) fourth ∙ accepted_4,
            (ap (λ p. command_fault p giving_6) fifth ∙ accepted_6, tt),
          ),
        ),
      ),
    )

-- so their past is valid, and at each moment its database is one of the version then in force
is_past : IsPast past_6
is_past = subst IsPast past_is (history_is_past beginning commands beginning_is_past is_history)

-- and it holds valid values
holds : PastHolds past_6
holds = subst PastHolds past_is (history_holds beginning commands beginning_is_past is_history (
  ((tt, tt), tt),
  (
    ((tt, tt), tt),
    (
      ((small_number 1 (omega arith), tt), ((small_number 20 (omega arith), tt), tt)),
      (
        ((tt, tt), ((tt, tt), tt)),
        (
          (
            (small_number 7 (omega arith), tt),
            ((small_number 30 (omega arith), tt), tt),
          ),
          tt,
        ),
      ),
    ),
  ),
) beginning_holds)
