-- How wide a table of one version is where it is read from another: how many pieces there are, the
-- greatest number of atoms of one of them, the greatest size of a condition, and for each column the
-- greatest size of what stands for it, each number by itself.
use Rattle.std.specs.Prelude.{ℕ, zero, suc, ◌+◌, ◌*◌, ◌^◌, List, [], ◌∷◌, ◌++◌, map, max, min}
use Rattle.std.specs.Prelude.{length, Option, Some, None, if◌then◌else◌}
use Rattle.std.specs.Option.{option_map}
use Rattle.std.specs.FinMap.{FinMap, get, insert, remove, entries, from_entries}
use Rattle.prima_base.specs.Order.{bytes_cmp}
use Rattle.prima_base.specs.Columns.{Column, names_of}
use Rattle.schema_catalog.specs.Tables.{Tables, columns_of}
use Rattle.cond_expr.specs.Trees.{Tree, Trees, Test, Tests, column, constant, length_of, joined}
use Rattle.cond_expr.specs.Trees.{choose, no_trees, a_tree, never, always, compared, all_of}
use Rattle.cond_expr.specs.Trees.{some_of, fails, no_tests, a_test}
use Rattle.smo_ops_types.specs.Operators.{Operator, nop, create_table, drop_table, rename_table}
use Rattle.smo_ops_types.specs.Operators.{copy_table, merge_table, partition_table, decompose_table}
use Rattle.smo_ops_types.specs.Operators.{join_table, add_column, drop_column, rename_column}
use Rattle.smo_ops_types.specs.Commands.{PlainVersion}
use Rattle.smo_ops_spec.specs.OneRow.{same}
use Rattle.smo_ops_spec.specs.Preconditions.{among}
use Rattle.smo_ops_spec.specs.OperatorTable.{line, made_names}
use Rattle.smo_ops_spec.specs.Evolutions.{schema_after_each}
use Rattle.smo_ops_spec.specs.Past.{no_tables, tables_from, newest_from}
use Rattle.smo_ops_spec.specs.WaysBack.{blank, filled_with}
use Rattle.smo_ops_versions_spec.specs.Steps.{Step, carrying, filling, undoing, taken}
use Rattle.smo_ops_versions_spec.specs.Ways.{way}

-- what stands for a column, by its name, has this size
abbrev pub Sizes : Type 0
Sizes = List ℕ → ℕ

pub record Width : Type 0 where
  pub pieces : ℕ
  pub atoms : ℕ
  pub cond : ℕ
  pub size : Sizes

-- the nodes of a tree in which each reference counts as its column's size
abbrev mutual
  pub sized : Sizes → Tree → ℕ
  sized size (column w n) = size n
  sized size (constant v) = 1
  sized size (length_of t) = sized size t + 1
  sized size (joined ts) = trees_sized size ts + 1
  sized size (choose c a b) = test_sized size c + sized size a + sized size b + 1

  pub trees_sized : Sizes → Trees → ℕ
  trees_sized size no_trees = 0
  trees_sized size (a_tree t ts) = sized size t + trees_sized size ts

  pub test_sized : Sizes → Test → ℕ
  test_sized size never = 1
  test_sized size always = 1
  test_sized size (compared o a b) = sized size a + sized size b + 1
  test_sized size (all_of cs) = tests_sized size cs + 1
  test_sized size (some_of cs) = tests_sized size cs + 1
  test_sized size (fails c) = test_sized size c + 1

  pub tests_sized : Sizes → Tests → ℕ
  tests_sized size no_tests = 0
  tests_sized size (a_test c cs) = test_sized size c + tests_sized size cs

-- ---- the width of what an operator makes, by the widths of its inputs

abbrev pub a_width : ℕ → ℕ → ℕ → Sizes → Width
a_width pieces atoms cond size = record {
  pieces = pieces;
  atoms = atoms;
  cond = cond;
  size = size;
}

abbrev pub with_size : Sizes → Width → Width
with_size size a = a_width a.pieces a.atoms a.cond size

-- the sizes are as before, but for the one under this name
abbrev pub sized_as : List ℕ → ℕ → Sizes → Sizes
sized_as c k size n = if same n c then k else size n

-- the pieces of both
abbrev pub merged_width : Width → Width → Width
merged_width a b = a_width (a.pieces + b.pieces) (max a.atoms b.atoms) (max a.cond b.cond)
    (λ n. max (a.size n) (b.size n))

-- one of the two parts of a table: so many nodes more, and the condition
abbrev pub part_width : ℕ → Test → Width → Width
part_width more c a = a_width a.pieces a.atoms (a.cond + more + test_sized a.size c) a.size

-- a column that the first table has is the first one's
abbrev pub size_of_both : List Column → Sizes → Sizes → Sizes
size_of_both columns a b n = if among n (names_of columns) then a n else b n

-- for each column that the second table has too one, and its two sizes
abbrev pub equalities : List Column → List Column → Sizes → Sizes → ℕ
equalities [] ds a b = 0
equalities (c ∷ cs) ds a b = (if among c.0 (names_of ds) then 1 + a c.0 + b c.0 else 0)
    + equalities cs ds a b

-- each piece of the one with each of the other
abbrev pub joined_width : List Column → List Column → Test → Width → Width → Width
joined_width cs ds c a b = a_width (a.pieces * b.pieces) (a.atoms + b.atoms)
    (a.cond + b.cond + 1 + equalities cs ds a.size b.size
    + test_sized (size_of_both cs a.size b.size) c) (size_of_both cs a.size b.size)

abbrev pub of_both : (Width → Width → Width) → Option Width → Option Width → Option Width
of_both f None b = None
of_both f (Some a) None = None
of_both f (Some a) (Some b) = Some (f a b)

-- of each table that the operator makes, in its order; none where an input has none
abbrev pub made_widths : Tables → Operator → (List ℕ → Option Width) → List (Option Width)
made_widths tables nop of = []
made_widths tables (create_table r cs) of = Some (a_width 0 0 0 (λ n. 1)) ∷ []
made_widths tables (drop_table r) of = []
made_widths tables (rename_table r t) of = of r ∷ []
made_widths tables (copy_table r t) of = of r ∷ []
made_widths tables (merge_table r s t) of = of_both merged_width (of r) (of s) ∷ []
made_widths tables (partition_table r s c t) of = option_map (part_width 1 c) (of r)
    ∷ option_map (part_width 2 c) (of r) ∷ []
made_widths tables (decompose_table r s xs t ys) of = of r ∷ of r ∷ []
made_widths tables (join_table r s t c) of =
    of_both (joined_width (columns_of tables r) (columns_of tables s) c) (of r) (of s) ∷ []
made_widths tables (add_column c e r) of = option_map (λ (a : Width).
    with_size (sized_as c (sized a.size e) a.size) a) (of r) ∷ []
made_widths tables (drop_column c r) of = of r ∷ []
made_widths tables (rename_column b r c) of = option_map (λ (a : Width).
    with_size (sized_as c (a.size b) a.size) a) (of r) ∷ []

-- ---- along a way

abbrev pub Widths : Type 0
Widths = FinMap bytes_cmp Width

abbrev pub no_width : List (List ℕ) → Widths → Widths
no_width [] widths = widths
no_width (n ∷ names) widths = no_width names (remove widths n)

abbrev pub put_width : List ℕ → Option Width → Widths → Widths
put_width n None widths = remove widths n
put_width n (Some width) widths = insert widths n width

abbrev pub put_widths : List (List ℕ) → List (Option Width) → Widths → Widths
put_widths [] made widths = widths
put_widths (n ∷ names) [] widths = widths
put_widths (n ∷ names) (w ∷ made) widths = put_widths names made (put_width n w widths)

abbrev pub widths_over : Tables → Operator → Widths → Widths
widths_over tables op widths = put_widths (made_names (line tables op).made)
    (made_widths tables op (get widths)) (no_width (line tables op).consumed widths)

-- a filled column has the size of a constant, and a lost table has no width
abbrev pub widths_stepped : Step → Widths → Widths
widths_stepped (carrying tables op) widths = widths_over tables op widths
widths_stepped (filling loss tables f) widths = widths_over tables (filled_with blank f) widths
widths_stepped (undoing loss tables op) widths =
    no_width (line tables op).consumed (no_width (made_names (line tables op).made) widths)

-- read from its own version a table has one piece, with one atom, and all is of size 1
abbrev pub own_width : Width
own_width = a_width 1 1 1 (λ n. 1)

abbrev pub own_widths : Tables → Widths
own_widths tables = from_entries (map (λ (t : List ℕ × List Column). (t.0, own_width))
    (entries tables))

-- the widths of version q's tables, read from version v
abbrev pub widths_of : List PlainVersion → ℕ → ℕ → Widths
widths_of versions v q = taken widths_stepped (way versions v q)
    (own_widths (tables_from no_tables versions v))

-- the sizes of these columns, and the measure of a table that has them
abbrev pub sum_of_sizes : List Column → Sizes → ℕ
sum_of_sizes [] size = 0
sum_of_sizes (c ∷ columns) size = size c.0 + sum_of_sizes columns size

abbrev pub measure : List Column → Width → ℕ
measure columns a = a.pieces * (a.atoms + a.cond + sum_of_sizes columns a.size)

abbrev pub measure_of : List Column → Option Width → ℕ
measure_of columns None = 0
measure_of columns (Some a) = measure columns a

abbrev pub greatest : List (List ℕ × List Column) → Widths → ℕ
greatest [] widths = 0
greatest (t ∷ tables) widths = max (measure_of t.1 (get widths t.0)) (greatest tables widths)

-- over the tables of version q, read from version v
abbrev pub greatest_of : List PlainVersion → ℕ → ℕ → ℕ
greatest_of versions v q = greatest (entries (tables_from no_tables versions q))
    (widths_of versions v q)

-- of version k read from one of so many versions before it, and of each of these read from k
abbrev pub widest_with : List PlainVersion → ℕ → ℕ → ℕ
widest_with versions k zero = 0
widest_with versions k (suc v) = max (max (greatest_of versions v k) (greatest_of versions k v))
    (widest_with versions k v)

-- the measure of what makes the newest of the versions: it stops at 2^63
abbrev pub widest : List PlainVersion → ℕ
widest versions = min (2 ^ 63) (widest_with versions (length versions) (length versions))

-- the versions with one more, which the operator, a list of members, makes at this stamp
abbrev pub with_version : List PlainVersion → ℕ → List Operator → List (List Operator)
    → List PlainVersion
with_version versions stamp op inverse = versions ++ record {
  stamp = stamp;
  op = op;
  inverse = inverse;
  tables =
      schema_after_each (newest_from no_tables versions) op;
} ∷ []
