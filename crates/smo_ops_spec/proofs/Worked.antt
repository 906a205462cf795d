-- Worked rows: what the definitions give for tables, rows and commands by hand.
use Rattle.std.specs.Prelude.{◌≡◌, ◌^◌, ◌<◌, ℕ, zero, suc, ◌∷◌, [], List, pos, Some, None, ⊤, codes}
use Rattle.std.specs.Prelude.{length, refl, if◌then◌else◌}
use Rattle.std.proofs.Common.{ap, inl, inr, arith}
use Rattle.std.specs.FinMap.{insert, get-insert}
use Rattle.std.specs.Cmp.Lexicographic.{nat_list_cmp_total}
use Rattle.std.proofs.lemmas.Int.{ints}
use Rattle.relations_spec.specs.Sets.{set_of}
use Rattle.relations_spec.specs.Spans.{span, forever}
use Rattle.prima_base.specs.declared.value.Value.{Value}
use Rattle.prima_base.specs.declared.value.Value.TheVariants.{Int, Text}
use Rattle.prima_base.specs.declared.value.ColType.TheVariants.{Int as INT, Text as TEXT}
use Rattle.prima_base.specs.declared.refusal.What.TheVariants.{Parts, Inverse}
use Rattle.prima_base.specs.declared.refusal.Refusal.TheVariants.{NoColumn, WrongType, ColumnExists}
use Rattle.prima_base.specs.declared.refusal.Refusal.TheVariants.{ColumnMissing}
use Rattle.prima_base.specs.declared.refusal.OpRefusal.TheVariants.{LastColumn}
use Rattle.prima_base.specs.declared.refusal.OpRefusal.TheVariants.{ColumnExists as Twice}
use Rattle.prima_base.specs.Columns.{Column, IsValid}
use Rattle.schema_catalog.specs.Databases.{Rows, Lost}
use Rattle.cond_expr.specs.declared.expr.Whose.TheVariants.{Free, Atom}
use Rattle.cond_expr.specs.declared.expr.CmpOp.TheVariants.{Eq, Gt}
use Rattle.cond_expr.specs.Trees.{Tree, column, constant, length_of, joined, no_trees, a_tree}
use Rattle.cond_expr.specs.Trees.{always, compared}
use Rattle.smo_ops_types.specs.Operators.{Operator, nop, create_table, drop_table, rename_table, merge_table}
use Rattle.smo_ops_types.specs.Operators.{add_column}
use Rattle.smo_ops_types.specs.Changes.{insertion, deletion, update}
use Rattle.smo_ops_types.specs.Commands.{evolving, PlainVersion}
use Rattle.smo_ops_spec.specs.First.{first_refusal}
use Rattle.smo_ops_spec.specs.OneRow.{Relation, same}
use Rattle.smo_ops_spec.specs.Effects.{relation_after, gained_rows}
use Rattle.smo_ops_spec.specs.Preconditions.{is_some_column, each_once, few_columns}
use Rattle.smo_ops_spec.specs.Making.{in_order, union, from_two}
use Rattle.smo_ops_spec.specs.Touching.{made_of}
use Rattle.smo_ops_spec.specs.Losses.{first_loss}
use Rattle.smo_ops_spec.specs.Past.{no_tables, no_database, begun_at}
use Rattle.smo_ops_spec.specs.InForce.{in_force}
use Rattle.smo_ops_spec.specs.ValidValues.{HoldsValues, OperatorHolds, ChangeHolds, VersionsHold}
use Rattle.smo_ops_spec.specs.Checks.{tests_after}
use Rattle.smo_ops_spec.specs.Counts.{first_excess}
use Rattle.smo_ops_spec.proofs.HeldValues.{value_valid_in}

-- the table t (a INT, b TEXT), and the table u (a INT, b INT)
abbrev a : List ℕ
a = codes "a"

abbrev b : List ℕ
b = codes "b"

abbrev z : List ℕ
z = codes "z"

abbrev t : List ℕ
t = codes "t"

abbrev t_columns : List Column
t_columns = (a, INT) ∷ (b, TEXT) ∷ []

abbrev u_columns : List Column
u_columns = (a, INT) ∷ (b, INT) ∷ []

abbrev int : ℕ → Value
int n = Int (pos n)

abbrev text : List ℕ → Value
text s = Text s

abbrev own : List ℕ → Tree
own n = column (Atom 0) n

-- INSERT INTO t (b, a) VALUES ('x', 1), into what has (1, 'a') and (1, 'y')
inserted : relation_after t_columns (insertion t ((b, text (codes "x")) ∷ (a, int 1) ∷ []))
    ((int 1 ∷ text (codes "a") ∷ []) ∷ (int 1 ∷ text (codes "y") ∷ []) ∷ [])
    ≡ (int 1 ∷ text (codes "a") ∷ []) ∷ (int 1 ∷ text (codes "x") ∷ [])
    ∷ (int 1 ∷ text (codes "y") ∷ []) ∷ []
inserted = refl

-- a row that is there changes nothing
inserted_again : relation_after t_columns (insertion t ((a, int 1) ∷ (b, text (codes "a")) ∷ []))
    ((int 1 ∷ text (codes "a") ∷ []) ∷ []) ≡ (int 1 ∷ text (codes "a") ∷ []) ∷ []
inserted_again = refl

-- DELETE FROM t WHERE a = 1 leaves the row with 2
deleted : relation_after t_columns (deletion t (compared Eq (own a) (constant (int 1))))
    ((int 1 ∷ text (codes "a") ∷ []) ∷ (int 2 ∷ text (codes "a") ∷ []) ∷ [])
    ≡ (int 2 ∷ text (codes "a") ∷ []) ∷ []
deleted = refl

-- UPDATE u SET b = 1 makes one row of two: none is gained, one is lost
abbrev two_rows : Relation
two_rows = (int 1 ∷ int 1 ∷ []) ∷ (int 1 ∷ int 2 ∷ []) ∷ []

merged : relation_after u_columns (update t ((b, constant (int 1)) ∷ []) always) two_rows
    ≡ (int 1 ∷ int 1 ∷ []) ∷ []
unfolding set_of
merged = refl

merged_gains : length (gained_rows two_rows ((int 1 ∷ int 1 ∷ []) ∷ [])) ≡ 0
merged_gains = refl

merged_loses : length (gained_rows ((int 1 ∷ int 1 ∷ []) ∷ []) two_rows) ≡ 1
merged_loses = refl

-- UPDATE u SET a = b, b = a WHERE a = 1 exchanges the two in the rows that it meets: both are of
-- the old row
exchanged : relation_after u_columns (update t ((a, own b) ∷ (b, own a) ∷ [])
    (compared Eq (own a) (constant (int 1)))) ((int 1 ∷ int 5 ∷ []) ∷ (int 2 ∷ int 6 ∷ []) ∷ [])
    ≡ (int 2 ∷ int 6 ∷ []) ∷ (int 5 ∷ int 1 ∷ []) ∷ []
unfolding set_of
exchanged = refl

-- of an INSERT: a column twice comes before an unknown one after it, that before a missing one, and
-- that before a value of the wrong type
twice_first : first_refusal (tests_after t_columns
    (insertion t ((a, int 1) ∷ (a, int 1) ∷ (z, int 1) ∷ [])) 0) ≡ Some (ColumnExists t a)
twice_first = refl

unknown_first : first_refusal (tests_after t_columns
    (insertion t ((z, int 1) ∷ (a, int 1) ∷ (a, int 1) ∷ [])) 0) ≡ Some (NoColumn z)
unknown_first = refl

missing_first : first_refusal (tests_after t_columns (insertion t ((b, int 1) ∷ [])) 0)
    ≡ Some (ColumnMissing t a)
missing_first = refl

-- the value's place: that of the second value, in a statement with seven nodes before
second_value : first_refusal (tests_after t_columns (insertion t ((b, text []) ∷ (a, text []) ∷ []))
    7) ≡ Some (WrongType 8)
second_value = refl

-- of an UPDATE: the condition's unknown column comes before the expression's wrong type
reference_first : first_refusal (tests_after t_columns
    (update t ((a, own b) ∷ []) (compared Eq (own z) (own a))) 0) ≡ Some (NoColumn z)
reference_first = refl

-- a free reference is to no column
free_reference : first_refusal (tests_after t_columns
    (deletion t (compared Eq (column Free a) (own a))) 0) ≡ Some (NoColumn a)
free_reference = refl

-- SET a = LENGTH(b), b = a: the second expression is of another type than its column, at node 2;
-- the condition begins at node 3
set_place : first_refusal (tests_after t_columns
    (update t ((a, length_of (own b)) ∷ (b, own a) ∷ []) (compared Eq (own a) (own b))) 0)
    ≡ Some (WrongType 2)
set_place = refl

condition_place : first_refusal (tests_after t_columns
    (update t ((a, length_of (own b)) ∷ (b, own b) ∷ []) (compared Eq (own a) (own b))) 0)
    ≡ Some (WrongType 3)
condition_place = refl

accepted : first_refusal (tests_after t_columns
    (update t ((a, length_of (own b)) ∷ []) (compared Gt (own a) (constant (int 1)))) 0) ≡ None
accepted = refl

-- CREATE TABLE: its columns in the order of their names, and the tests of them
sorted : in_order ((b, TEXT) ∷ (a, INT) ∷ []) ≡ t_columns
unfolding set_of
sorted = refl

no_columns : first_refusal (is_some_column t [] ∷ few_columns [] ∷ []) ≡ Some (LastColumn t)
no_columns = refl

named_twice : each_once t (b ∷ a ∷ z ∷ a ∷ b ∷ []) ≡ Some (Twice t a)
named_twice = refl

-- nine parts are too many, ten operators of an inverse too

nine_parts : first_excess (evolving (add_column a
    (joined (a_tree (own a) (a_tree (own a) (a_tree (own a) (a_tree (own a) (a_tree (own a)
    (a_tree (own a) (a_tree (own a) (a_tree (own a) (a_tree (own a) no_trees)))))))))) t ∷ []) [])
    ≡ Some (Parts, 8)
nine_parts = refl

abbrev one : List Operator
one = nop ∷ []

long_inverse : first_excess (evolving one (one ∷ one ∷ one ∷ one ∷ one ∷ one ∷ one ∷ one ∷ one ∷ one
    ∷ [])) ≡ Some (Inverse, 8)
long_inverse = refl

short_inverse : first_excess (evolving one (one ∷ one ∷ one ∷ one ∷ one ∷ one ∷ one ∷ one ∷ []))
    ≡ None
short_inverse = refl

-- of two lost inputs the first named one decides; an absent input hides no loss
first_decides : from_two union (Some (Lost 2 1)) (Some (Lost 3 1)) ≡ Lost 2 1
first_decides = refl

absent_hides_none : from_two union None (Some (Lost 3 1)) ≡ Lost 3 1
absent_hides_none = refl

both_absent : from_two union None None ≡ Rows []
both_absent = refl

-- of what is made by a MERGE of two tables the first lost one decides, by names
loss_by_names : first_loss (λ n. if same n z then Some (3, 1) else None)
    (made_of (merge_table t z t)) ≡ Some (3, 1)
loss_by_names = refl

-- DROP TABLE makes nothing of the table that it names
nothing_made : made_of (drop_table t) ≡ []
nothing_made = refl

-- versions of the stamps 1 and 9: version 0 is in force up to 1, version 1 up to 9, and version 2
-- to the end of time
abbrev two_versions : List PlainVersion
two_versions = record { stamp = 1; op = create_table t t_columns ∷ []; inverse = []; tables = no_tables }
    ∷ record { stamp = 9; op = nop ∷ []; inverse = []; tables = no_tables } ∷ []

before_all : in_force two_versions 0 ≡ span 0 1
before_all = refl

first_in_force : in_force two_versions 1 ≡ span 1 9
first_in_force = refl

newest_in_force : in_force two_versions 2 ≡ span 9 forever
newest_in_force = refl

begun_before_9 : length (begun_at 8 two_versions) ≡ 1
begun_before_9 = refl

begun_at_9 : length (begun_at 9 two_versions) ≡ 2
begun_at_9 = refl

-- ---- valid values

-- an INT of 2^63 is in no row of a database that holds valid values
past_the_range : IsValid (Int (pos (2 ^ 63))) → ⊥
past_the_range h = (let upper = h.1 in omega (arith, ints, upper))

-- so a database that has it in a row holds no valid values alone
abbrev too_large : Relation
too_large = (Int (pos (2 ^ 63)) ∷ text (codes "x") ∷ []) ∷ []

too_large_is_refused : HoldsValues (insert no_database t (Rows too_large)) → ⊥
too_large_is_refused h =
    past_the_range (value_valid_in (insert no_database t (Rows too_large)) t too_large
    (Int (pos (2 ^ 63)) ∷ text (codes "x") ∷ []) (Int (pos (2 ^ 63))) h
    (get-insert nat_list_cmp_total no_database t (Rows too_large) t) (inl refl) (inl refl))

-- and a TEXT of 4,097 bytes is in none
abbrev xs : ℕ → List ℕ
xs zero = []
xs (suc n) = 120 ∷ xs n

so_many : (n : ℕ) → length (xs n) ≡ n
so_many zero = refl
so_many (suc n) = ap suc (so_many n)

too_long : (n : ℕ) → 4096 < n → IsValid (text (xs n)) → ⊥
too_long n l h = (let many = so_many n in let short = h.0 in omega (arith, many, short, l))

abbrev with_text : ℕ → Relation
with_text n = (int 1 ∷ text (xs n) ∷ []) ∷ []

too_long_is_refused : (n : ℕ) → 4096 < n → HoldsValues (insert no_database t (Rows (with_text n)))
    → ⊥
too_long_is_refused n l h =
    too_long n l (value_valid_in (insert no_database t (Rows (with_text n))) t (with_text n)
    (int 1 ∷ text (xs n) ∷ []) (text (xs n)) h
    (get-insert nat_list_cmp_total no_database t (Rows (with_text n)) t) (inl refl)
    (inr (inl refl)))

one_byte_too_long : HoldsValues (insert no_database t (Rows (with_text 4097))) → ⊥
one_byte_too_long = too_long_is_refused 4097 (omega arith)

-- t renamed to z, with the inverse: no constant of these is kept
abbrev renamed : List PlainVersion
renamed = record { stamp = 1; op = create_table t t_columns ∷ []; inverse = []; tables = no_tables }
    ∷ record {
      stamp = 9;
      op = rename_table t z ∷ [];
      inverse = (rename_table z t ∷ []) ∷ [];
      tables =
          no_tables;
    } ∷ []

renamed_hold : VersionsHold renamed
renamed_hold = (((tt, tt), tt), (((tt, tt), ((tt, tt), tt)), tt))

-- ADD COLUMN b AS 1 INTO t keeps its constant
column_added : OperatorHolds (add_column b (constant (int 1)) t) ≡ IsValid (int 1)
column_added = refl

-- and so does each value of an INSERT, and no condition: those of DELETE and WHERE come into no row
inserted_holds : ChangeHolds (insertion t ((a, int 1) ∷ (b, text (codes "x")) ∷ []))
    ≡ (IsValid (int 1) × (IsValid (text (codes "x")) × ⊤))
inserted_holds = refl

deleted_holds : ChangeHolds (deletion t (compared Eq (own a) (constant (Int (pos (2 ^ 63)))))) ≡ ⊤
deleted_holds = refl
