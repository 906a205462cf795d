-- Worked rows: what pieces mean over the tables that operators make, and what their unfoldings mean
-- over the tables before. Of each operator five pieces, over a few rows.
use Rattle.std.proofs.Common.{refl, ap, ◌∙◌}
use Rattle.std.specs.Prelude.{◌≡◌, ℕ, List, [], ◌∷◌, Bool, true, false, cond, not, map, Option}
use Rattle.std.specs.Prelude.{Some}
use Rattle.std.specs.List.{filter, flat_map}
use Rattle.std.specs.Option.{unwrap_or}
use Rattle.std.specs.FinMap.{get, insert, empty, get-empty, get-insert}
use Rattle.std.specs.Cmp.Lexicographic.{nat_list_cmp_total}
use Rattle.relations_spec.specs.Sets.{set_of}
use Rattle.prima_base.specs.declared.value.Value.{Value}
use Rattle.prima_base.specs.declared.value.Value.TheVariants.{Text}
use Rattle.prima_base.specs.declared.value.ColType.TheVariants.{Int as INT, Text as TEXT}
use Rattle.prima_base.specs.Order.{bytes_cmp, row_cmp}
use Rattle.prima_base.specs.Columns.{Column}
use Rattle.schema_catalog.specs.Tables.{Tables}
use Rattle.schema_catalog.specs.Databases.{cell, Rows, Database}
use Rattle.cond_expr.specs.declared.expr.CmpOp.TheVariants.{Eq, Lt, Gt}
use Rattle.cond_expr.specs.Trees.{Tree, length_of, joined, choose, a_tree, no_trees, Test, compared}
use Rattle.cond_expr.specs.Trees.{fails, always}
use Rattle.smo_ops_types.specs.Operators.{nop, create_table, drop_table, rename_table, copy_table}
use Rattle.smo_ops_types.specs.Operators.{merge_table, partition_table, decompose_table, join_table}
use Rattle.smo_ops_types.specs.Operators.{add_column, drop_column, rename_column}
use Rattle.smo_ops_spec.specs.OneRow.{Row, Relation, same, meets}
use Rattle.smo_ops_spec.specs.Effects.{columns_of, rows_under}
use Rattle.smo_ops_spec.specs.Making.{named, without, image, union, added_value, moved, join_rows}
use Rattle.plain_answers_spec.specs.Choosing.{answers_over}
use Rattle.piece_ir_spec.specs.Pieces.{PlainPiece, out_trees, means, all_mean, piece_answers}
use Rattle.piece_ir_spec.specs.Views.{Views}
use Rattle.piece_ir_spec.specs.Unfolding.{unfoldings}
use Rattle.piece_ir_spec.specs.OperatorViews.{paired, operator_views}
use Rattle.piece_ir_spec.proofs.Worked.{a, b, c, r, s, t, u, int, at, number, a_piece, below_ten}

-- ---- a few tables by their names, as the tables of a version with their database

record Table : Type 0 where
  name : List ℕ
  columns : List Column
  rows : Relation

abbrev tables_in : List Table → Tables
tables_in [] = empty
tables_in (m ∷ ms) = insert (tables_in ms) m.name m.columns

abbrev database_in : List Table → Database
database_in [] = empty
database_in (m ∷ ms) = insert (database_in ms) m.name (Rows m.rows)

abbrev columns_in : List Table → List ℕ → List Column
columns_in [] n = []
columns_in (m ∷ ms) n = cond (same n m.name) m.columns (columns_in ms n)

abbrev rows_in : List Table → List ℕ → Relation
rows_in [] n = []
rows_in (m ∷ ms) n = cond (same n m.name) m.rows (rows_in ms n)

columns_there : (ms : List Table) (n : List ℕ) → columns_of (tables_in ms) n ≡ columns_in ms n
columns_there [] n = ap (λ (o : Option (List Column)). unwrap_or o []) (get-empty bytes_cmp n)
columns_there (m ∷ ms) n = ap (λ (o : Option (List Column)). unwrap_or o [])
    (get-insert nat_list_cmp_total (tables_in ms) m.name m.columns n)
    ∙ step (same n m.name) (columns_there ms n)
  where
    step : (e : Bool) → columns_of (tables_in ms) n ≡ columns_in ms n
        → unwrap_or (cond e (Some m.columns) (get (tables_in ms) n)) []
        ≡ cond e m.columns (columns_in ms n)
    step true h = refl
    step false h = h

rows_there : (ms : List Table) (n : List ℕ) → rows_under (get (database_in ms) n) ≡ rows_in ms n
rows_there [] n = ap rows_under (get-empty bytes_cmp n)
rows_there (m ∷ ms) n = ap rows_under (get-insert nat_list_cmp_total (database_in ms) m.name
    (Rows m.rows) n) ∙ step (same n m.name) (rows_there ms n)
  where
    step : (e : Bool) → rows_under (get (database_in ms) n) ≡ rows_in ms n
        → rows_under (cond e (Some (Rows m.rows)) (get (database_in ms) n))
        ≡ cond e m.rows (rows_in ms n)
    step true h = refl
    step false h = h

-- what a piece answers over them, and what it and several mean
abbrev answers_in : List Table → PlainPiece → List Row
answers_in ms p = answers_over (map (columns_in ms) p.atoms) (map (rows_in ms) p.atoms)
    (out_trees p.outs) p.cond

abbrev one_means : List Table → PlainPiece → Relation
one_means ms p = set_of row_cmp (answers_in ms p)

abbrev together_mean : List Table → List PlainPiece → Relation
together_mean ms ps = set_of row_cmp (flat_map (answers_in ms) ps)

answers_there : (ms : List Table) (p : PlainPiece)
    → piece_answers (tables_in ms) (database_in ms) p ≡ answers_in ms p
answers_there ms p = λ i. answers_over (map (λ n. columns_there ms n i) p.atoms)
    (map (λ n. rows_there ms n i) p.atoms) (out_trees p.outs) p.cond

meaning_there : (ms : List Table) (p : PlainPiece)
    → means (tables_in ms) (database_in ms) p ≡ one_means ms p
meaning_there ms p = ap (set_of row_cmp) (answers_there ms p)

meanings_there : (ms : List Table) (ps : List PlainPiece)
    → all_mean (tables_in ms) (database_in ms) ps ≡ together_mean ms ps
meanings_there ms ps = λ i. set_of row_cmp (flat_map (λ p. answers_there ms p i) ps)

-- ---- five pieces on a table, which name a column of it: in a comparison, under NOT, in CASE and
-- CONCAT, with no output, and as
-- the second of two atoms

abbrev forms : (ℕ → Tree) → List (List ℕ → PlainPiece)
forms of =
    (λ n. a_piece (n ∷ []) (compared Lt (of 0) (number 10)) ((a, of 0) ∷ []))
    ∷ (λ n. a_piece (n ∷ []) (fails (compared Eq (of 0) (number 2))) ((a, of 0) ∷ []))
    ∷ (λ n. a_piece (n ∷ []) (fails (compared Eq
    (choose (compared Lt (of 0) (number 3))
    (joined (a_tree (at 0 b) (a_tree (at 0 b) no_trees))) (at 0 b)) (at 0 b)))
    ((b, at 0 b) ∷ []))
    ∷ (λ n. a_piece (n ∷ []) (compared Gt (of 0) (number 4)) [])
    ∷ (λ n. a_piece (u ∷ n ∷ []) (compared Eq (at 0 a) (of 1)) ((b, at 1 b) ∷ []))
    ∷ []

-- what they mean over some tables, and what their unfoldings mean over those before
abbrev mean : List Table → (ℕ → Tree) → List ℕ → List Relation
mean after of n = map (λ (f : List ℕ → PlainPiece). one_means after (f n)) (forms of)

abbrev unfolded_mean : List Table → Views → (ℕ → Tree) → List ℕ → List Relation
unfolded_mean before views of n = map (λ (f : List ℕ → PlainPiece).
    together_mean before (unfoldings views (f n))) (forms of)

-- the same by the meaning of pieces over a database
all_means : (after : List Table) (of : ℕ → Tree) (n : List ℕ)
    → map (λ (f : List ℕ → PlainPiece). means (tables_in after) (database_in after) (f n))
    (forms of) ≡ mean after of n
all_means after of n = λ i. map (λ (f : List ℕ → PlainPiece). meaning_there after (f n) i)
    (forms of)

all_unfolded : (before : List Table) (views : Views) (of : ℕ → Tree) (n : List ℕ)
    → map (λ (f : List ℕ → PlainPiece). all_mean (tables_in before) (database_in before)
    (unfoldings views (f n))) (forms of) ≡ unfolded_mean before views of n
all_unfolded before views of n = λ i. map (λ (f : List ℕ → PlainPiece).
    meanings_there before (unfoldings views (f n)) i) (forms of)

-- ---- the tables: (2, 'y'), (5, 'x') and (20, 'xy') by a and b, and u with 2 and 5

abbrev text : List ℕ → Value
text bytes = Text bytes

abbrev ab : List Column
ab = (a, INT) ∷ (b, TEXT) ∷ []

abbrev abc : List Column
abc = (a, INT) ∷ (b, TEXT) ∷ (c, INT) ∷ []

abbrev row : ℕ → List ℕ → Row
row n bytes = int n ∷ text bytes ∷ []

abbrev two_y : Row
two_y = row 2 (121 ∷ [])

abbrev five_x : Row
five_x = row 5 (120 ∷ [])

abbrev twenty_xy : Row
twenty_xy = row 20 (120 ∷ 121 ∷ [])

abbrev three : Relation
three = two_y ∷ five_x ∷ twenty_xy ∷ []

abbrev table : List ℕ → List Column → Relation → Table
table name columns rows = record { name = name; columns = columns; rows = rows }

abbrev beside : Table
beside = table u ((a, INT) ∷ []) ((int 2 ∷ []) ∷ (int 5 ∷ []) ∷ [])

abbrev with_three : List ℕ → List Table
with_three n = table n ab three ∷ beside ∷ []

abbrev ints : List ℕ → Relation
ints ns = map (λ n. int n ∷ []) ns

abbrev texts : List (List ℕ) → Relation
texts bs = map (λ bytes. text bytes ∷ []) bs

abbrev x : List ℕ
x = 120 ∷ []

abbrev y : List ℕ
y = 121 ∷ []

abbrev xy : List ℕ
xy = 120 ∷ 121 ∷ []

abbrev of_a : ℕ → Tree
of_a i = at i a

abbrev of_c : ℕ → Tree
of_c i = at i c

-- below 10, not 2, the text where a is below 3, something above 4, and the texts of what is in u
abbrev of_three : List Relation
of_three = ints (2 ∷ 5 ∷ []) ∷ ints (5 ∷ 20 ∷ []) ∷ texts (y ∷ []) ∷ ([] ∷ []) ∷ texts (x ∷ y ∷ [])
    ∷ []

abbrev nothing : List Relation
nothing = [] ∷ [] ∷ [] ∷ [] ∷ [] ∷ []

three_mean : mean (with_three r) of_a r ≡ of_three
unfolding set_of
three_mean = refl

-- NOP, CREATE TABLE t and DROP TABLE t leave what is meant on another table
nop_means : (tables : Tables) → unfolded_mean (with_three r) (operator_views tables nop) of_a r
    ≡ of_three
unfolding set_of
nop_means tables = refl

create_leaves : (tables : Tables) → unfolded_mean (with_three r)
    (operator_views tables (create_table t ab)) of_a r ≡ of_three
unfolding set_of
create_leaves tables = refl

drop_leaves : (tables : Tables) → unfolded_mean (with_three r)
    (operator_views tables (drop_table t)) of_a r ≡ of_three
unfolding set_of
drop_leaves tables = refl

-- a created table has no row
created_means : mean (table t ab [] ∷ with_three r) of_a t ≡ nothing
unfolding set_of
created_means = refl

create_means : (tables : Tables) → unfolded_mean (with_three r)
    (operator_views tables (create_table t ab)) of_a t ≡ nothing
unfolding set_of
create_means tables = refl

-- RENAME TABLE r INTO t, and COPY TABLE r INTO t: on t, and on r
renamed_means : mean (with_three t) of_a t ≡ of_three
unfolding set_of
renamed_means = refl

rename_means : (tables : Tables) → unfolded_mean (with_three r)
    (operator_views tables (rename_table r t)) of_a t ≡ of_three
unfolding set_of
rename_means tables = refl

copy_means : (tables : Tables) → unfolded_mean (with_three r)
    (operator_views tables (copy_table r t)) of_a t ≡ of_three
unfolding set_of
copy_means tables = refl

copied_means : (tables : Tables) → unfolded_mean (with_three r)
    (operator_views tables (copy_table r t)) of_a r ≡ of_three
unfolding set_of
copied_means tables = refl

-- MERGE TABLE r, s INTO t, which have (5, 'x') in common
abbrev halves : List Table
halves = table r ab (two_y ∷ five_x ∷ []) ∷ table s ab (five_x ∷ twenty_xy ∷ []) ∷ beside ∷ []

merge_makes : union (two_y ∷ five_x ∷ []) (five_x ∷ twenty_xy ∷ []) ≡ three
unfolding set_of
merge_makes = refl

merge_means : (tables : Tables) → unfolded_mean halves (operator_views tables (merge_table r s t))
    of_a t ≡ of_three
unfolding set_of
merge_means tables = refl

-- a piece that names the made table twice: the texts of those that are greater than some other
abbrev greater : List ℕ → PlainPiece
greater n = a_piece (n ∷ n ∷ []) (compared Gt (at 0 a) (at 1 a)) ((b, at 0 b) ∷ [])

greater_means : one_means (with_three t) (greater t) ≡ texts (x ∷ xy ∷ [])
unfolding set_of
greater_means = refl

merge_twice_means : (tables : Tables) → together_mean halves
    (unfoldings (operator_views tables (merge_table r s t)) (greater t)) ≡ texts (x ∷ xy ∷ [])
unfolding set_of
merge_twice_means tables = refl

-- PARTITION TABLE t INTO r WITH a < 10, s
abbrev parted : List Table
parted = table r ab (two_y ∷ five_x ∷ []) ∷ table s ab (twenty_xy ∷ []) ∷ beside ∷ []

partition_makes : (filter (meets ab below_ten) three ≡ two_y ∷ five_x ∷ [])
    × (filter (λ row. not (meets ab below_ten row)) three ≡ twenty_xy ∷ [])
partition_makes = (refl, refl)

abbrev of_low : List Relation
of_low = ints (2 ∷ 5 ∷ []) ∷ ints (5 ∷ []) ∷ texts (y ∷ []) ∷ ([] ∷ []) ∷ texts (x ∷ y ∷ []) ∷ []

abbrev of_high : List Relation
of_high = [] ∷ ints (20 ∷ []) ∷ [] ∷ ([] ∷ []) ∷ [] ∷ []

low_means : mean parted of_a r ≡ of_low
unfolding set_of
low_means = refl

high_means : mean parted of_a s ≡ of_high
unfolding set_of
high_means = refl

partition_low_means : (tables : Tables) → unfolded_mean (with_three t)
    (operator_views tables (partition_table t r below_ten s)) of_a r ≡ of_low
unfolding set_of
partition_low_means tables = refl

partition_high_means : (tables : Tables) → unfolded_mean (with_three t)
    (operator_views tables (partition_table t r below_ten s)) of_a s ≡ of_high
unfolding set_of
partition_high_means tables = refl

-- DECOMPOSE TABLE t INTO r (a, b), s (a, c)
abbrev full : Relation
full = (int 2 ∷ text y ∷ int 7 ∷ []) ∷ (int 2 ∷ text y ∷ int 8 ∷ []) ∷ (int 5 ∷ text x ∷ int 7 ∷ [])
    ∷ (int 20 ∷ text xy ∷ int 7 ∷ []) ∷ []

abbrev with_full : List ℕ → List Table
with_full n = table n abc full ∷ beside ∷ []

decompose_makes : image (named (a ∷ b ∷ []) abc) (cell abc) full ≡ three
unfolding set_of
decompose_makes = refl

decompose_means : (tables : Tables) → unfolded_mean (with_full t)
    (operator_views tables (decompose_table t r (a ∷ b ∷ []) s (a ∷ c ∷ []))) of_a r ≡ of_three
unfolding set_of
decompose_means tables = refl

-- DROP COLUMN c FROM r
drop_column_makes : image (without c abc) (cell abc) full ≡ three
unfolding set_of
drop_column_makes = refl

drop_column_means : (tables : Tables) → unfolded_mean (with_full r)
    (operator_views tables (drop_column c r)) of_a r ≡ of_three
unfolding set_of
drop_column_means tables = refl

-- ADD COLUMN c AS LENGTH(b) INTO r
abbrev lengths : Relation
lengths = (int 2 ∷ text y ∷ int 1 ∷ []) ∷ (int 5 ∷ text x ∷ int 1 ∷ [])
    ∷ (int 20 ∷ text xy ∷ int 2 ∷ []) ∷ []

add_column_makes : image abc (added_value ab c (length_of (at 0 b))) three ≡ lengths
unfolding set_of
add_column_makes = refl

-- below 10, not 2, the texts where the length is below 3, nothing above 4, and the texts with a
-- length that is in u
abbrev of_lengths : List Relation
of_lengths = ints (1 ∷ 2 ∷ []) ∷ ints (1 ∷ []) ∷ texts (x ∷ xy ∷ y ∷ []) ∷ [] ∷ texts (xy ∷ []) ∷ []

lengths_mean : mean (table r abc lengths ∷ beside ∷ []) of_c r ≡ of_lengths
unfolding set_of
lengths_mean = refl

add_column_means : (tables : Tables) → unfolded_mean (with_three r)
    (operator_views tables (add_column c (length_of (at 0 b)) r)) of_c r ≡ of_lengths
unfolding set_of
add_column_means tables = refl

-- RENAME COLUMN a IN r TO c
abbrev bc : List Column
bc = (b, TEXT) ∷ (c, INT) ∷ []

abbrev turned : Relation
turned = (text x ∷ int 5 ∷ []) ∷ (text xy ∷ int 20 ∷ []) ∷ (text y ∷ int 2 ∷ []) ∷ []

rename_column_makes : image bc (moved ab a c) three ≡ turned
unfolding set_of
rename_column_makes = refl

turned_mean : mean (table r bc turned ∷ beside ∷ []) of_c r ≡ of_three
unfolding set_of
turned_mean = refl

rename_column_means : (tables : Tables) → unfolded_mean (with_three r)
    (operator_views tables (rename_column a r c)) of_c r ≡ of_three
unfolding set_of
rename_column_means tables = refl

-- JOIN TABLE r (a, b), s (a, c) INTO t WHERE c > 1
abbrev ac : List Column
ac = (a, INT) ∷ (c, INT) ∷ []

abbrev numbers : Relation
numbers = (int 2 ∷ int 3 ∷ []) ∷ (int 2 ∷ int 5 ∷ []) ∷ (int 5 ∷ int 1 ∷ []) ∷ (int 7 ∷ int 9 ∷ [])
    ∷ (int 20 ∷ int 2 ∷ []) ∷ []

abbrev above_one : Test
above_one = compared Gt (at 0 c) (number 1)

abbrev to_join : List Table
to_join = table r ab three ∷ table s ac numbers ∷ beside ∷ []

abbrev pairs : Relation
pairs = (int 2 ∷ text y ∷ int 3 ∷ []) ∷ (int 2 ∷ text y ∷ int 5 ∷ [])
    ∷ (int 20 ∷ text xy ∷ int 2 ∷ []) ∷ []

join_makes : join_rows ab ac above_one three numbers ≡ pairs
unfolding set_of
join_makes = refl

-- below 10, not 2, the texts where c is below 3, something above 4, and the texts with a c that is
-- in u
abbrev of_pairs : List Relation
of_pairs = ints (2 ∷ 3 ∷ 5 ∷ []) ∷ ints (3 ∷ 5 ∷ []) ∷ texts (xy ∷ []) ∷ ([] ∷ [])
    ∷ texts (xy ∷ y ∷ []) ∷ []

pairs_mean : mean (table t abc pairs ∷ beside ∷ []) of_c t ≡ of_pairs
unfolding set_of
pairs_mean = refl

join_means : unfolded_mean to_join ((t, paired r ab s ac above_one ∷ []) ∷ []) of_c t ≡ of_pairs
unfolding set_of
join_means = refl

-- the same of the operator's views over these tables
join_views : operator_views (tables_in to_join) (join_table r s t above_one)
    ≡ (t, paired r ab s ac above_one ∷ []) ∷ []
join_views = ap (λ cs. (t, paired r cs s (columns_of (tables_in to_join) s) above_one ∷ []) ∷ [])
    (columns_there to_join r) ∙ ap (λ cs. (t, paired r ab s cs above_one ∷ []) ∷ [])
    (columns_there to_join s)

-- JOIN: its common column is named, the pieces name it twice
joined_twice : one_means (table t abc pairs ∷ beside ∷ []) (greater t) ≡ texts (xy ∷ [])
unfolding set_of
joined_twice = refl

join_twice_means : together_mean to_join (unfoldings ((t, paired r ab s ac above_one ∷ []) ∷ [])
    (greater t)) ≡ texts (xy ∷ [])
unfolding set_of
join_twice_means = refl

-- ---- two rules, by meaning: each over a database of the tables before its operator

-- PARTITION TABLE t INTO low WITH a < 10, high: what stands for `SELECT a = t0.a FROM low WHERE
-- TRUE` means over a table t with 5 and 20 the one row 5
abbrev low : List ℕ
low = 108 ∷ 111 ∷ 119 ∷ []

abbrev high : List ℕ
high = 104 ∷ 105 ∷ 103 ∷ 104 ∷ []

abbrev five_and_twenty : List Table
five_and_twenty = table t ((a, INT) ∷ []) (ints (5 ∷ 20 ∷ [])) ∷ []

abbrev all_low : PlainPiece
all_low = a_piece (low ∷ []) always ((a, at 0 a) ∷ [])

abbrev low_pieces : Tables → List PlainPiece
low_pieces tables = unfoldings (operator_views tables (partition_table t low below_ten high))
    all_low

low_pieces_mean : (tables : Tables) → together_mean five_and_twenty (low_pieces tables)
    ≡ ints (5 ∷ [])
unfolding set_of
low_pieces_mean tables = refl

low_is_five : all_mean (tables_in five_and_twenty) (database_in five_and_twenty)
    (low_pieces (tables_in five_and_twenty)) ≡ ints (5 ∷ [])
low_is_five = meanings_there five_and_twenty (low_pieces (tables_in five_and_twenty))
    ∙ low_pieces_mean (tables_in five_and_twenty)

-- JOIN TABLE r, s INTO t WHERE y > 0: what stands for `SELECT x = t0.x FROM t WHERE TRUE` means,
-- over a table r (k, x) with (1, 'a') and (2, 'b') and a table s (k, y) with (1, 5), the one row
-- 'a'
abbrev k : List ℕ
k = 107 ∷ []

abbrev kx : List Column
kx = (k, INT) ∷ (x, TEXT) ∷ []

abbrev ky : List Column
ky = (k, INT) ∷ (y, INT) ∷ []

abbrev keyed : List Table
keyed = table r kx (row 1 a ∷ row 2 b ∷ []) ∷ table s ky ((int 1 ∷ int 5 ∷ []) ∷ []) ∷ []

abbrev above_zero : Test
above_zero = compared Gt (at 0 y) (number 0)

abbrev all_x : PlainPiece
all_x = a_piece (t ∷ []) always ((x, at 0 x) ∷ [])

abbrev x_pieces : List PlainPiece
x_pieces = unfoldings (operator_views (tables_in keyed) (join_table r s t above_zero)) all_x

keyed_views : operator_views (tables_in keyed) (join_table r s t above_zero)
    ≡ (t, paired r kx s ky above_zero ∷ []) ∷ []
keyed_views = ap (λ cs. (t, paired r cs s (columns_of (tables_in keyed) s) above_zero ∷ []) ∷ [])
    (columns_there keyed r) ∙ ap (λ cs. (t, paired r kx s cs above_zero ∷ []) ∷ [])
    (columns_there keyed s)

keyed_pieces_mean : together_mean keyed (unfoldings ((t, paired r kx s ky above_zero ∷ []) ∷ [])
    all_x) ≡ texts (a ∷ [])
unfolding set_of
keyed_pieces_mean = refl

joined_is_a : all_mean (tables_in keyed) (database_in keyed) x_pieces ≡ texts (a ∷ [])
joined_is_a = meanings_there keyed x_pieces
    ∙ ap (λ (views : Views). together_mean keyed (unfoldings views all_x)) keyed_views
    ∙ keyed_pieces_mean
