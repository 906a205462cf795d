-- Worked rows: a column that is dropped for good, a table that is parted with no inverse named, and
-- one that is dropped and created again.
use Rattle.std.specs.Prelude.{◌≡◌, ℕ, List, [], ◌∷◌, codes, Option, Some, None}
use Rattle.std.proofs.Common.{refl, ap, ◌∙◌}
use Rattle.std.specs.Option.{unwrap_or, option_or}
use Rattle.std.specs.FinMap.{FinMap, get, insert, remove, empty, get-insert, get-empty}
use Rattle.std.specs.Cmp.Lexicographic.{nat_list_cmp_total}
use Rattle.relations_spec.specs.Sets.{set_of}
use Rattle.prima_base.specs.declared.value.ColType.TheVariants.{Int as INT, Text as TEXT}
use Rattle.prima_base.specs.declared.value.ColType.{ColType}
use Rattle.prima_base.specs.Order.{bytes_cmp}
use Rattle.prima_base.specs.Columns.{Column}
use Rattle.schema_catalog.specs.Tables.{Tables}
use Rattle.schema_catalog.specs.Databases.{DatabaseEntry, Rows, Lost, Database}
use Rattle.cond_expr.specs.declared.expr.CmpOp.TheVariants.{Eq, Lt}
use Rattle.cond_expr.specs.Trees.{Tree, Test, constant, always, compared}
use Rattle.smo_ops_types.specs.Operators.{create_table, drop_table, partition_table, drop_column}
use Rattle.smo_ops_types.specs.Operators.{merge_table, add_column}
use Rattle.smo_ops_types.specs.Commands.{PlainVersion}
use Rattle.smo_ops_spec.specs.First.{first_refusal as first_there}
use Rattle.smo_ops_spec.specs.OneRow.{Row}
use Rattle.smo_ops_spec.specs.Preconditions.{type_in}
use Rattle.smo_ops_spec.specs.Effects.{columns_of}
use Rattle.smo_ops_spec.specs.Making.{image, without, with_column, type_of_value, added_value}
use Rattle.smo_ops_spec.specs.Making.{from_one}
use Rattle.smo_ops_spec.specs.Making.{from_two, union}
use Rattle.smo_ops_spec.specs.After.{schema_after}
use Rattle.smo_ops_spec.specs.Losses.{Loss}
use Rattle.smo_ops_spec.specs.Past.{no_tables}
use Rattle.plain_answers_spec.specs.Branches.{PlainBranch, a_branch}
use Rattle.smo_ops_versions_spec.proofs.WorkedWords.{a, t, int, text, at_atom, a_columns, t_there}
use Rattle.smo_ops_spec.specs.WaysBack.{derived, FilledColumn, blank}
use Rattle.smo_ops_versions_spec.specs.Migration.{migrated_from}
use Rattle.smo_ops_versions_spec.specs.ColumnLosses.{TableLoss, WholeTable, OfColumns, Losses}
use Rattle.smo_ops_versions_spec.specs.ColumnLosses.{whole_loss}
use Rattle.smo_ops_versions_spec.specs.ColumnLosses.{lost_columns, table_loss, column_loss}
use Rattle.smo_ops_versions_spec.specs.ColumnLosses.{put_loss}
use Rattle.smo_ops_versions_spec.specs.LostNames.{lost_names, filled_at, made_as}
use Rattle.temporal_lang_spec.specs.Losing.{items_loss}

abbrev c : List ℕ
c = codes "c"

abbrev low : List ℕ
low = codes "low"

abbrev high : List ℕ
high = codes "high"

abbrev ac_columns : List Column
ac_columns = (a, INT) ∷ (c, TEXT) ∷ []

-- ---- t (a INT, c TEXT) loses its column c, and no inverse is named

abbrev with_t : Tables
with_t = insert no_tables t ac_columns

abbrev less_c : Tables
less_c = schema_after with_t (drop_column c t)

abbrev dropped : List PlainVersion
dropped = record { stamp = 1; op = create_table t ac_columns ∷ []; inverse = []; tables = with_t }
    ∷ record { stamp = 3; op = drop_column c t ∷ []; inverse = []; tables = less_c } ∷ []

abbrev losses_before : Losses
losses_before = empty

-- the derived operator is the filling by the empty text
fills : derived with_t (drop_column c t) ≡ Some (add_column c (constant (text [])) t)
fills = ap (λ (o : Option (List Column)). Some (add_column c
    (constant (blank (unwrap_or (type_in (unwrap_or o []) c) INT))) t))
    (t_there no_tables ac_columns)

-- by names alone the column is lost, by version 2, and neither the table nor its other column
abbrev lost : Losses
lost = lost_names dropped 2 1

abbrev filled : FilledColumn
filled = record { table = t; name = c; kind = unwrap_or (type_in (columns_of with_t t) c) INT }

abbrev just_c : FinMap bytes_cmp Loss
just_c = insert empty c (2, 1)

lost_is : get lost t ≡ Some (OfColumns (insert (lost_columns (get losses_before t)) c (2, 1)))
lost_is = ap (λ (o : Option TableLoss). get (filled_at (2, 1) filled (whole_loss o) losses_before)
    t)
    (get-empty bytes_cmp t)
    ∙ get-insert nat_list_cmp_total losses_before t
    (OfColumns (insert (lost_columns (get losses_before t)) c (2, 1))) t

lost_here : get lost t ≡ Some (OfColumns just_c)
lost_here = lost_is ∙ ap (λ (o : Option TableLoss).
    Some (OfColumns (insert (lost_columns o) c (2, 1))))
    (get-empty bytes_cmp t)

table_kept : table_loss lost t ≡ None
table_kept = ap whole_loss lost_here

c_lost : column_loss lost t c ≡ Some (2, 1)
c_lost = ap (λ (o : Option TableLoss). get (lost_columns o) c) lost_here
    ∙ get-insert nat_list_cmp_total empty c (2, 1) c

a_kept : column_loss lost t a ≡ None
a_kept = ap (λ (o : Option TableLoss). get (lost_columns o) a) lost_here
    ∙ get-insert nat_list_cmp_total empty c (2, 1) a ∙ get-empty bytes_cmp a

-- SELECT a FROM t; and SELECT a FROM t WHERE c = 'red'
abbrev of_a : PlainBranch
of_a = a_branch (at_atom 0 a ∷ []) ((t, t) ∷ []) always

abbrev of_red : PlainBranch
of_red = a_branch (at_atom 0 a ∷ []) ((t, t) ∷ [])
    (compared Eq (at_atom 0 c) (constant (text (codes "red"))))

answered : items_loss lost (of_a ∷ []) ≡ None
answered = ap (λ (o : Option Loss). first_there (option_or o
    (option_or (column_loss lost t a) None) ∷ [])) table_kept
    ∙ ap (λ (o : Option Loss). first_there (option_or o None ∷ [])) a_kept

refused : items_loss lost (of_red ∷ []) ≡ Some (2, 1)
refused = ap (λ (o : Option Loss). first_there (option_or o
    (option_or (column_loss lost t a) (option_or (column_loss lost t c) None)) ∷ [])) table_kept
    ∙ ap (λ (o : Option Loss). first_there (option_or o (option_or (column_loss lost t c) None)
    ∷ [])) a_kept
    ∙ ap (λ (o : Option Loss). first_there (option_or o None ∷ [])) c_lost

-- in each row the column has the empty text
abbrev row : ℕ → Row
row n = int n ∷ []

abbrev full : ℕ → Row
full n = int n ∷ text [] ∷ []

less_c_columns : columns_of less_c t ≡ a_columns
less_c_columns = ap (λ (o : Option (List Column)). unwrap_or o [])
    (t_there (remove with_t t) (without c (columns_of with_t t)))
    ∙ ap (λ (o : Option (List Column)). without c (unwrap_or o [])) (t_there no_tables ac_columns)

abbrev filled_rows : ColType → List Column → Option DatabaseEntry → DatabaseEntry
filled_rows kind columns entry =
    let z : Tree = constant (blank kind) in
    from_one (image (with_column c (type_of_value columns z) columns) (added_value columns c z))
    entry

filled_again : (db : Database) → get db t ≡ Some (Rows (row 1 ∷ row 2 ∷ []))
    → get (migrated_from dropped 2 1 db) t ≡ Some (Rows (full 1 ∷ full 2 ∷ []))
unfolding set_of
filled_again db h =
    t_there (remove db t) (filled_rows filled.kind (columns_of less_c t) (get db t))
    ∙ ap (λ (o : Option (List Column)). Some (filled_rows
    (unwrap_or (type_in (unwrap_or o []) c) INT) (columns_of less_c t) (get db t)))
    (t_there no_tables ac_columns)
    ∙ ap (λ (cs : List Column). Some (filled_rows TEXT cs (get db t))) less_c_columns
    ∙ ap (λ (e : Option DatabaseEntry). Some (filled_rows TEXT a_columns e)) h

-- ---- t (a INT) is parted into low, of the rows below 10, and high, and no inverse is named

abbrev below : Test
below = compared Lt (at_atom 0 a) (constant (int 10))

abbrev one_t : Tables
one_t = insert no_tables t a_columns

abbrev parted : List PlainVersion
parted = record { stamp = 1; op = create_table t a_columns ∷ []; inverse = []; tables = one_t }
    ∷ record {
      stamp = 3;
      op = partition_table t low below high ∷ [];
      inverse = [];
      tables = schema_after one_t (partition_table t low below high);
    } ∷ []

merges : derived one_t (partition_table t low below high) ≡ Some (merge_table low high t)
merges = refl

merged_again : (db : Database) → get db low ≡ Some (Rows (row 5 ∷ row 30 ∷ []))
    → get db high ≡ Some (Rows (row 20 ∷ []))
    → get (migrated_from parted 2 1 db) t ≡ Some (Rows (row 5 ∷ row 20 ∷ row 30 ∷ []))
unfolding set_of
merged_again db h k =
    t_there (remove (remove db low) high) (from_two union (get db low) (get db high))
    ∙ ap (λ (e : Option DatabaseEntry). Some (from_two union e (get db high))) h
    ∙ ap (λ (e : Option DatabaseEntry). Some (from_two union
    (Some (Rows (row 5 ∷ row 30 ∷ []))) e)) k

-- nothing of it is lost
abbrev lost_parted : Losses
lost_parted = lost_names parted 2 1

abbrev no_columns : FinMap bytes_cmp Loss
no_columns = empty

abbrev merged_loss : List Column → Option TableLoss → Option TableLoss → TableLoss
merged_loss columns x y = made_as
    (option_or (option_or (whole_loss x) (option_or (whole_loss y) None)) None)
    (λ n. option_or (get (lost_columns x) n) (option_or (get (lost_columns y) n) None)) columns

low_columns : columns_of (schema_after one_t (partition_table t low below high)) low ≡ a_columns
low_columns = ap (λ (o : Option (List Column)). unwrap_or o [])
    (get-insert nat_list_cmp_total (insert (remove one_t t) low (columns_of one_t t)) high
    (columns_of one_t t) low
    ∙ get-insert nat_list_cmp_total (remove one_t t) low (columns_of one_t t) low
    ∙ ap (λ (o : Option (List Column)). Some (unwrap_or o [])) (t_there no_tables a_columns))

nothing_lost : get lost_parted t ≡ Some (OfColumns no_columns)
nothing_lost =
    t_there (remove (remove losses_before low) high) (merged_loss
    (columns_of (schema_after one_t (partition_table t low below high)) low)
    (get losses_before low) (get losses_before high))
    ∙ ap (λ (cs : List Column). Some (merged_loss cs (get losses_before low)
    (get losses_before high))) low_columns
    ∙ ap (λ (o : Option TableLoss). Some (merged_loss a_columns o (get losses_before high)))
    (get-empty bytes_cmp low)
    ∙ ap (λ (o : Option TableLoss). Some (merged_loss a_columns None o))
    (get-empty bytes_cmp high)
    ∙ ap (λ (o : Option Loss). Some (OfColumns (put_loss (option_or o (option_or o None)) a
    no_columns))) (get-empty bytes_cmp a)

-- ---- t (a INT) is created, dropped and created again: back in version 1 it is lost, by version 2

abbrev again : List PlainVersion
again = record { stamp = 1; op = create_table t a_columns ∷ []; inverse = []; tables = one_t }
    ∷ record { stamp = 4; op = drop_table t ∷ []; inverse = []; tables = remove one_t t }
    ∷ record {
      stamp = 6;
      op = create_table t a_columns ∷ [];
      inverse = [];
      tables = insert (remove one_t t) t a_columns;
    } ∷ []

lost_table : (db : Database) → get (migrated_from again 3 1 db) t ≡ Some (Lost 2 1)
lost_table db = t_there (remove db t) (Lost 2 1)

lost_name : get (lost_names again 3 1) t ≡ Some (WholeTable (2, 1))
lost_name = t_there (remove empty t) (WholeTable (2, 1))

refused_again : items_loss (lost_names again 3 1) (of_a ∷ []) ≡ Some (2, 1)
refused_again = ap (λ (o : Option TableLoss). first_there (option_or (whole_loss o)
    (option_or (get (lost_columns o) a) None) ∷ [])) lost_name

-- in version 3 nothing is lost
kept_there : items_loss (lost_names again 3 3) (of_a ∷ []) ≡ None
kept_there = ap (λ (o : Option TableLoss). first_there (option_or (whole_loss o)
    (option_or (get (lost_columns o) a) None) ∷ [])) (get-empty bytes_cmp t)
    ∙ ap (λ (o : Option Loss). first_there (option_or None (option_or o None) ∷ []))
    (get-empty bytes_cmp a)
