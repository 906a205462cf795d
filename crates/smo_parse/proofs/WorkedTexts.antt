-- Worked rows: texts of operators, as written by hand. (Digits of numbers do not compute here; the
-- tests have them.)
use Rattle.std.specs.Prelude.{◌≡◌, ℕ, ◌∷◌, [], List, codes, false, refl}
use Rattle.prima_base.specs.declared.value.Value.TheVariants.{Text}
use Rattle.prima_base.specs.declared.value.ColType.TheVariants.{Int as INT, Text as TEXT}
use Rattle.cond_expr.specs.declared.expr.Whose.TheVariants.{Alias, Atom}
use Rattle.cond_expr.specs.declared.expr.CmpOp.TheVariants.{Eq, Ne, Lt, Le, Gt, Ge}
use Rattle.cond_expr.specs.Trees.{Tree, Test, Tests, column, constant, length_of, joined, choose}
use Rattle.cond_expr.specs.Trees.{no_trees, a_tree, never, always, compared, all_of, some_of, fails}
use Rattle.cond_expr.specs.Trees.{no_tests, a_test}
use Rattle.smo_ops_types.specs.Operators.{nop, create_table, drop_table, rename_table, copy_table}
use Rattle.smo_ops_types.specs.Operators.{merge_table, partition_table, decompose_table, join_table}
use Rattle.smo_ops_types.specs.Operators.{add_column, drop_column, rename_column}
use Rattle.smo_parse.specs.TreeTexts.{tree_text}
use Rattle.smo_parse.specs.Texts.{operator_text, cond_text, expr_text}

abbrev a : Tree
a = column (Atom 0) (codes "a")

abbrev text : List ℕ → Tree
text t = constant (Text t)

-- a = 'x'
abbrev p : Test
p = compared Eq a (text (codes "x"))

abbrev two : Test → Test → Tests
two c d = a_test c (a_test d no_tests)

-- ---- conditions: AND, OR and NOT in every combination of two levels

nothing : operator_text nop ≡ codes "NOP"
unfolding operator_text
nothing = refl

and_of_plain : cond_text (all_of (two p always)) ≡ codes "a = 'x' AND TRUE"
and_of_plain = refl

or_of_plain : cond_text (some_of (two p never)) ≡ codes "a = 'x' OR FALSE"
or_of_plain = refl

not_of_plain : cond_text (fails p) ≡ codes "NOT a = 'x'"
not_of_plain = refl

and_of_ors : cond_text (all_of (two (some_of (two p p)) p))
    ≡ codes "(a = 'x' OR a = 'x') AND a = 'x'"
and_of_ors = refl

and_of_ands : cond_text (all_of (two p (all_of (two p p))))
    ≡ codes "a = 'x' AND (a = 'x' AND a = 'x')"
and_of_ands = refl

or_of_ands : cond_text (some_of (two (all_of (two p p)) p))
    ≡ codes "(a = 'x' AND a = 'x') OR a = 'x'"
or_of_ands = refl

or_of_ors : cond_text (some_of (two p (some_of (two p p))))
    ≡ codes "a = 'x' OR (a = 'x' OR a = 'x')"
or_of_ors = refl

and_of_nots : cond_text (all_of (two (fails p) p)) ≡ codes "NOT a = 'x' AND a = 'x'"
and_of_nots = refl

or_of_nots : cond_text (some_of (two p (fails p))) ≡ codes "a = 'x' OR NOT a = 'x'"
or_of_nots = refl

not_of_and : cond_text (fails (all_of (two p p))) ≡ codes "NOT (a = 'x' AND a = 'x')"
not_of_and = refl

not_of_or : cond_text (fails (some_of (two p p))) ≡ codes "NOT (a = 'x' OR a = 'x')"
not_of_or = refl

not_of_not : cond_text (fails (fails p)) ≡ codes "NOT NOT a = 'x'"
not_of_not = refl

-- lists that the reader does not make
empty_and : cond_text (all_of no_tests) ≡ codes "TRUE"
empty_and = refl

empty_or : cond_text (some_of no_tests) ≡ codes "FALSE"
empty_or = refl

and_of_one : cond_text (all_of (a_test p no_tests)) ≡ codes "(a = 'x')"
and_of_one = refl

or_of_one : cond_text (some_of (a_test p no_tests)) ≡ codes "(a = 'x')"
or_of_one = refl

-- and those as parts, which stand in brackets as any AND and OR does
empty_and_as_a_part : cond_text (all_of (two (all_of no_tests) p)) ≡ codes "(TRUE) AND a = 'x'"
empty_and_as_a_part = refl

empty_or_as_a_part : cond_text (fails (some_of no_tests)) ≡ codes "NOT (FALSE)"
empty_or_as_a_part = refl

one_as_a_part : cond_text (all_of (two (some_of (a_test p no_tests)) p))
    ≡ codes "((a = 'x')) AND a = 'x'"
one_as_a_part = refl

one_round_two : cond_text (some_of (a_test (all_of (two p p)) no_tests))
    ≡ codes "(a = 'x' AND a = 'x')"
one_round_two = refl

-- ---- expressions

every_sign : cond_text (all_of (a_test (compared Ne a a)
    (a_test (compared Lt a a) (a_test (compared Le a a)
    (a_test (compared Gt a a) (a_test (compared Ge a a) no_tests))))))
    ≡ codes "a <> a AND a < a AND a <= a AND a > a AND a >= a"
every_sign = refl

quotes : expr_text (text (codes "it's")) ≡ codes "'it''s'"
quotes = refl

calls : expr_text (joined (a_tree (length_of a) (a_tree (text (codes "x")) no_trees)))
    ≡ codes "CONCAT(LENGTH(a), 'x')"
calls = refl

case : expr_text (choose (all_of (two p p)) a (text []))
    ≡ codes "CASE WHEN a = 'x' AND a = 'x' THEN a ELSE '' END"
case = refl

aliased : tree_text false (column (Alias (codes "r")) (codes "a")) ≡ codes "r.a"
aliased = refl

-- ---- operators

abbrev r : List ℕ
r = codes "r"

abbrev s : List ℕ
s = codes "s"

abbrev t : List ℕ
t = codes "t"

created : operator_text (create_table t ((codes "a", INT) ∷ (codes "b", TEXT) ∷ []))
    ≡ codes "CREATE TABLE t (a INT, b TEXT)"
unfolding operator_text
created = refl

dropped : operator_text (drop_table t) ≡ codes "DROP TABLE t"
unfolding operator_text
dropped = refl

renamed : operator_text (rename_table r t) ≡ codes "RENAME TABLE r INTO t"
unfolding operator_text
renamed = refl

copied : operator_text (copy_table r t) ≡ codes "COPY TABLE r INTO t"
unfolding operator_text
copied = refl

merged : operator_text (merge_table r s t) ≡ codes "MERGE TABLE r, s INTO t"
unfolding operator_text
merged = refl

partitioned : operator_text (partition_table r s (some_of (two p p)) t)
    ≡ codes "PARTITION TABLE r INTO s WITH a = 'x' OR a = 'x', t"
unfolding operator_text
partitioned = refl

decomposed : operator_text (decompose_table r s (codes "a" ∷ codes "b" ∷ []) t (codes "b" ∷ []))
    ≡ codes "DECOMPOSE TABLE r INTO s (a, b), t (b)"
unfolding operator_text
decomposed = refl

-- a JOIN has its WHERE also where it was read without
joined_so : operator_text (join_table r s t always) ≡ codes "JOIN TABLE r, s INTO t WHERE TRUE"
unfolding operator_text
joined_so = refl

joined_where : operator_text (join_table r s t
    (all_of (two (compared Le a a) (fails (some_of (two p never))))))
    ≡ codes "JOIN TABLE r, s INTO t WHERE a <= a AND NOT (a = 'x' OR FALSE)"
unfolding operator_text
joined_where = refl

added : operator_text (add_column (codes "c") (text (codes "x")) r)
    ≡ codes "ADD COLUMN c AS 'x' INTO r"
unfolding operator_text
added = refl

column_dropped : operator_text (drop_column (codes "c") r) ≡ codes "DROP COLUMN c FROM r"
unfolding operator_text
column_dropped = refl

column_renamed : operator_text (rename_column (codes "b") r (codes "c"))
    ≡ codes "RENAME COLUMN b IN r TO c"
unfolding operator_text
column_renamed = refl
