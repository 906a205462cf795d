-- Worked rows: pieces unfolded by the views of operators, and what the unfoldings answer over small
-- relations.
use Rattle.std.proofs.Common.{ap, ◌∙◌}
use Rattle.std.specs.Prelude.{◌≡◌, ℕ, List, [], ◌∷◌, pos, map, refl}
use Rattle.prima_base.specs.declared.value.Value.{Value}
use Rattle.prima_base.specs.declared.value.Value.TheVariants.{Int, Text}
use Rattle.prima_base.specs.declared.value.ColType.TheVariants.{Int as INT, Text as TEXT}
use Rattle.prima_base.specs.Columns.{Column}
use Rattle.schema_catalog.specs.Tables.{Tables}
use Rattle.cond_expr.specs.declared.expr.Whose.TheVariants.{Atom}
use Rattle.cond_expr.specs.declared.expr.CmpOp.TheVariants.{Eq, Lt, Gt, Ge}
use Rattle.cond_expr.specs.Trees.{Tree, column, constant, length_of, joined, choose, a_tree}
use Rattle.cond_expr.specs.Trees.{no_trees, Test, always, compared, all_of, fails}
use Rattle.cond_expr.specs.Seen.{tests_of}
use Rattle.smo_ops_types.specs.Operators.{nop, create_table, drop_table, rename_table, copy_table}
use Rattle.smo_ops_types.specs.Operators.{merge_table, partition_table, decompose_table, join_table}
use Rattle.smo_ops_types.specs.Operators.{add_column, drop_column, rename_column}
use Rattle.smo_ops_spec.specs.Effects.{columns_of}
use Rattle.plain_answers_spec.specs.Choosing.{answers_over}
use Rattle.piece_ir_spec.specs.Pieces.{PlainPiece}
use Rattle.piece_ir_spec.specs.Views.{Views}
use Rattle.piece_ir_spec.specs.Unfolding.{unfoldings}
use Rattle.piece_ir_spec.specs.OperatorViews.{paired, operator_views}

-- names: a, b, c, k, x, y; r, s, t, u
abbrev pub a : List ℕ
a = 97 ∷ []

abbrev pub b : List ℕ
b = 98 ∷ []

abbrev pub c : List ℕ
c = 99 ∷ []

abbrev pub k : List ℕ
k = 107 ∷ []

abbrev x : List ℕ
x = 120 ∷ []

abbrev y : List ℕ
y = 121 ∷ []

abbrev pub r : List ℕ
r = 114 ∷ []

abbrev pub s : List ℕ
s = 115 ∷ []

abbrev pub t : List ℕ
t = 116 ∷ []

abbrev pub u : List ℕ
u = 117 ∷ []

abbrev pub int : ℕ → Value
int n = Int (pos n)

abbrev pub at : ℕ → List ℕ → Tree
at i n = column (Atom i) n

abbrev pub number : ℕ → Tree
number n = constant (int n)

abbrev pub a_piece : List (List ℕ) → Test → List (List ℕ × Tree) → PlainPiece
a_piece atoms cond outs = record { atoms = atoms; cond = cond; outs = outs }

abbrev pub below_ten : Test
below_ten = compared Lt (at 0 a) (number 10)

-- PARTITION of t into r, where a < 10, and s
partition_first : (tables : Tables) → unfoldings
    (operator_views tables (partition_table t r below_ten s))
    (a_piece (r ∷ []) always ((a, at 0 a) ∷ []))
    ≡ a_piece (t ∷ []) (all_of (tests_of (below_ten ∷ []))) ((a, at 0 a) ∷ []) ∷ []
partition_first tables = refl

-- over 5 and 20 it means 5
partition_rows : answers_over (((a, INT) ∷ []) ∷ []) (((int 5 ∷ []) ∷ (int 20 ∷ []) ∷ []) ∷ [])
    (at 0 a ∷ []) (all_of (tests_of (below_ten ∷ []))) ≡ (int 5 ∷ []) ∷ []
partition_rows = refl

-- the piece's own parts stand before the added one
partition_parts : (tables : Tables) → unfoldings
    (operator_views tables (partition_table t r below_ten s))
    (a_piece (r ∷ []) (compared Gt (at 0 a) (number 5)) ((a, at 0 a) ∷ []))
    ≡ a_piece (t ∷ []) (all_of (tests_of (compared Gt (at 0 a) (number 5) ∷ below_ten ∷ [])))
    ((a, at 0 a) ∷ []) ∷ []
partition_parts tables = refl

-- both tables, beside one that is not made: each under its own atom
partition_both : (tables : Tables) → unfoldings
    (operator_views tables (partition_table t r below_ten s)) (a_piece (s ∷ u ∷ r ∷ []) always [])
    ≡ a_piece (t ∷ u ∷ t ∷ []) (all_of (tests_of
    (compared Ge (at 0 a) (number 10) ∷ compared Lt (at 2 a) (number 10) ∷ []))) [] ∷ []
partition_both tables = refl

-- JOIN of r (k, x) and s (k, y) where y > 0
abbrev first : List Column
first = (k, INT) ∷ (x, TEXT) ∷ []

abbrev second : List Column
second = (k, INT) ∷ (y, INT) ∷ []

abbrev of_pairs : Test
of_pairs = all_of (tests_of (compared Eq (at 0 k) (at 1 k) ∷ compared Gt (at 1 y) (number 0) ∷ []))

join_piece : unfoldings ((t, paired r first s second (compared Gt (at 0 y) (number 0)) ∷ []) ∷ [])
    (a_piece (t ∷ []) always ((x, at 0 x) ∷ []))
    ≡ a_piece (r ∷ s ∷ []) of_pairs ((x, at 0 x) ∷ []) ∷ []
join_piece = refl

join_rows : answers_over (first ∷ second ∷ [])
    (((int 1 ∷ Text (97 ∷ []) ∷ []) ∷ (int 2 ∷ Text (98 ∷ []) ∷ []) ∷ [])
    ∷ ((int 1 ∷ int 5 ∷ []) ∷ []) ∷ []) (at 0 x ∷ []) of_pairs
    ≡ (Text (97 ∷ []) ∷ []) ∷ []
join_rows = refl

-- ADD COLUMN c AS LENGTH(b), in the outputs, and under NOT, CASE and CONCAT in the condition
abbrev names_c : Tree → Test
names_c e = fails (compared Eq (choose (compared Lt e (number 3))
    (joined (a_tree (at 0 b) no_trees)) (at 0 b)) (at 0 b))

add_column_piece : (tables : Tables) → unfoldings
    (operator_views tables (add_column c (length_of (at 0 b)) t))
    (a_piece (t ∷ []) (names_c (at 0 c)) ((b, at 0 b) ∷ (c, at 0 c) ∷ []))
    ≡ a_piece (t ∷ []) (names_c (length_of (at 0 b))) ((b, at 0 b) ∷ (c, length_of (at 0 b)) ∷ [])
    ∷ []
add_column_piece tables = refl

-- RENAME COLUMN a TO b, of one of two atoms
rename_column_piece : (tables : Tables) → unfoldings (operator_views tables (rename_column a t b))
    (a_piece (u ∷ t ∷ []) (compared Eq (at 0 b) (at 1 b)) ((b, at 1 b) ∷ []))
    ≡ a_piece (u ∷ t ∷ []) (compared Eq (at 0 b) (at 1 a)) ((b, at 1 a) ∷ []) ∷ []
rename_column_piece tables = refl

-- whole tables: the names alone change
rename_table_piece : (tables : Tables) → unfoldings (operator_views tables (rename_table r t))
    (a_piece (t ∷ u ∷ []) below_ten ((a, at 1 a) ∷ []))
    ≡ a_piece (r ∷ u ∷ []) below_ten ((a, at 1 a) ∷ []) ∷ []
rename_table_piece tables = refl

copy_table_piece : (tables : Tables) → unfoldings (operator_views tables (copy_table r t))
    (a_piece (t ∷ r ∷ []) below_ten [])
    ≡ a_piece (r ∷ r ∷ []) below_ten [] ∷ []
copy_table_piece tables = refl

decompose_table_piece : (tables : Tables) → unfoldings
    (operator_views tables (decompose_table t r (a ∷ b ∷ []) s (a ∷ c ∷ [])))
    (a_piece (s ∷ r ∷ []) (compared Eq (at 0 a) (at 1 a)) ((b, at 1 b) ∷ (c, at 0 c) ∷ []))
    ≡ a_piece (t ∷ t ∷ []) (compared Eq (at 0 a) (at 1 a)) ((b, at 1 b) ∷ (c, at 0 c) ∷ []) ∷ []
decompose_table_piece tables = refl

drop_column_piece : (tables : Tables) → unfoldings (operator_views tables (drop_column b t))
    (a_piece (t ∷ []) below_ten ((a, at 0 a) ∷ []))
    ≡ a_piece (t ∷ []) below_ten ((a, at 0 a) ∷ []) ∷ []
drop_column_piece tables = refl

-- a created table has no row, so no piece is left
create_table_piece : (tables : Tables) → unfoldings
    (operator_views tables (create_table t ((a, INT) ∷ []))) (a_piece (r ∷ t ∷ []) always []) ≡ []
create_table_piece tables = refl

nop_piece : (tables : Tables) → unfoldings (operator_views tables nop)
    (a_piece (r ∷ []) below_ten []) ≡ a_piece (r ∷ []) below_ten [] ∷ []
nop_piece tables = refl

-- ---- five pieces on one table, which name a column of it: in a comparison, under NOT, in CASE and
-- CONCAT, with no output, and as
-- the second of two atoms
abbrev forms : (ℕ → Tree) → List (List ℕ → PlainPiece)
forms of =
    (λ n. a_piece (n ∷ []) (compared Lt (of 0) (number 10)) ((b, of 0) ∷ []))
    ∷ (λ n. a_piece (n ∷ []) (fails (compared Eq (of 0) (number 3))) ((a, at 0 a) ∷ []))
    ∷ (λ n. a_piece (n ∷ []) (names_c (of 0)) ((b, joined (a_tree (of 0) no_trees)) ∷ []))
    ∷ (λ n. a_piece (n ∷ []) (compared Gt (of 0) (at 0 a)) [])
    ∷ (λ n. a_piece (u ∷ n ∷ []) (compared Eq (at 0 a) (of 1)) ((b, of 1) ∷ []))
    ∷ []

-- what they become by views, and each of them on each of these tables
abbrev become : Views → (ℕ → Tree) → List ℕ → List (List PlainPiece)
become views of n = map (λ (f : List ℕ → PlainPiece). unfoldings views (f n)) (forms of)

abbrev each_on : (ℕ → Tree) → List (List ℕ) → List (List PlainPiece)
each_on of ns = map (λ (f : List ℕ → PlainPiece). map f ns) (forms of)

abbrev of_a : ℕ → Tree
of_a i = at i a

nop_five : (tables : Tables) → become (operator_views tables nop) of_a r ≡ each_on of_a (r ∷ [])
nop_five tables = refl

-- beside a new table the others stay, and on the new one nothing is left
create_five : (tables : Tables) → become (operator_views tables (create_table t ((a, INT) ∷ [])))
    of_a r ≡ each_on of_a (r ∷ [])
create_five tables = refl

create_none : (tables : Tables) → become (operator_views tables (create_table t ((a, INT) ∷ [])))
    of_a t ≡ each_on of_a []
create_none tables = refl

drop_table_five : (tables : Tables) → become (operator_views tables (drop_table t)) of_a r
    ≡ each_on of_a (r ∷ [])
drop_table_five tables = refl

rename_table_five : (tables : Tables) → become (operator_views tables (rename_table r t)) of_a t
    ≡ each_on of_a (r ∷ [])
rename_table_five tables = refl

-- the copy, and what was copied
copy_five : (tables : Tables) → become (operator_views tables (copy_table r t)) of_a t
    ≡ each_on of_a (r ∷ [])
copy_five tables = refl

copied_five : (tables : Tables) → become (operator_views tables (copy_table r t)) of_a r
    ≡ each_on of_a (r ∷ [])
copied_five tables = refl

-- MERGE into a new table, and into one of its inputs
merge_five : (tables : Tables) → become (operator_views tables (merge_table r s t)) of_a t
    ≡ each_on of_a (r ∷ s ∷ [])
merge_five tables = refl

merge_into_input : (tables : Tables) → become (operator_views tables (merge_table r s r)) of_a r
    ≡ each_on of_a (r ∷ s ∷ [])
merge_into_input tables = refl

decompose_five : (tables : Tables) → become (operator_views tables
    (decompose_table t r (a ∷ b ∷ []) s (a ∷ c ∷ []))) of_a r ≡ each_on of_a (t ∷ [])
decompose_five tables = refl

drop_column_five : (tables : Tables) → become (operator_views tables (drop_column c r)) of_a r
    ≡ each_on of_a (r ∷ [])
drop_column_five tables = refl

-- a new column is its expression, and a renamed one the old one, wherever a piece names it
add_column_five : (tables : Tables) → become (operator_views tables
    (add_column c (length_of (at 0 b)) r)) (λ i. at i c) r
    ≡ each_on (λ i. length_of (at i b)) (r ∷ [])
add_column_five tables = refl

rename_column_five : (tables : Tables) → become (operator_views tables (rename_column k r c))
    (λ i. at i c) r ≡ each_on (λ i. at i k) (r ∷ [])
rename_column_five tables = refl

-- PARTITION of t into t and s
partition_into_itself : (tables : Tables) → unfoldings
    (operator_views tables (partition_table t t below_ten s)) (a_piece (t ∷ s ∷ []) always [])
    ≡ a_piece (t ∷ t ∷ []) (all_of (tests_of (below_ten ∷ compared Ge (at 1 a) (number 10) ∷ [])))
    [] ∷ []
partition_into_itself tables = refl

-- JOIN by the columns of its inputs: once, and named twice
abbrev of_columns : List Column → List Column → List PlainPiece
of_columns cs ds = unfoldings ((t, paired r cs s ds (compared Gt (at 0 y) (number 0)) ∷ []) ∷ [])
    (a_piece (t ∷ []) always ((x, at 0 x) ∷ []))

of_join : (tables : Tables) → columns_of tables r ≡ first → columns_of tables s ≡ second
    → unfoldings (operator_views tables (join_table r s t (compared Gt (at 0 y) (number 0))))
    (a_piece (t ∷ []) always ((x, at 0 x) ∷ []))
    ≡ a_piece (r ∷ s ∷ []) of_pairs ((x, at 0 x) ∷ []) ∷ []
of_join tables e d = ap (λ cs. of_columns cs (columns_of tables s)) e
    ∙ ap (λ ds. of_columns first ds) d

join_twice : unfoldings ((t, paired r first s second (compared Gt (at 0 y) (number 0)) ∷ []) ∷ [])
    (a_piece (t ∷ t ∷ []) (compared Eq (at 0 k) (at 1 k)) ((y, at 1 y) ∷ []))
    ≡ a_piece (r ∷ s ∷ r ∷ s ∷ [])
    (all_of (tests_of (compared Eq (at 0 k) (at 2 k) ∷ compared Eq (at 0 k) (at 1 k)
    ∷ compared Gt (at 1 y) (number 0) ∷ compared Eq (at 2 k) (at 3 k)
    ∷ compared Gt (at 3 y) (number 0) ∷ [])))
    ((y, at 3 y) ∷ []) ∷ []
join_twice = refl
