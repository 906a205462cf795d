-- What operators ask of the tables before them.
use Rattle.std.specs.Prelude.{◌≡◌, ◌≤◌, ℕ, List, [], ◌∷◌, ◌++◌, ◌&&◌, ◌||◌, Bool, true, false, not}
use Rattle.std.specs.Prelude.{nat_le, length, Option, Some, None, is_none, if◌then◌else◌}
use Rattle.std.specs.List.{find, list_all, list_any}
use Rattle.std.specs.Option.{option_map}
use Rattle.std.specs.FinMap.{get, contains_key, len}
use Rattle.relations_spec.specs.Sets.{has}
use Rattle.prima_base.specs.declared.refusal.What.TheVariants.{Tables as TABLES, Columns as COLUMNS}
use Rattle.prima_base.specs.declared.refusal.OpRefusal.{OpRefusal}
use Rattle.prima_base.specs.declared.refusal.OpRefusal.TheVariants.{Exists, NoTable, ColumnExists}
use Rattle.prima_base.specs.declared.refusal.OpRefusal.TheVariants.{NoColumn, ColumnsDiffer}
use Rattle.prima_base.specs.declared.refusal.OpRefusal.TheVariants.{BadCover, LastColumn, SameTable}
use Rattle.prima_base.specs.declared.refusal.OpRefusal.TheVariants.{WrongType, TooMany}
use Rattle.prima_base.specs.declared.value.ColType.{ColType}
use Rattle.prima_base.specs.Order.{bytes_cmp}
use Rattle.prima_base.specs.Columns.{Column, names_of}
use Rattle.prima_base.specs.Limits.{max_columns, max_tables}
use Rattle.schema_catalog.specs.Tables.{Tables}
use Rattle.cond_expr.specs.Trees.{Tree, Test}
use Rattle.cond_expr.specs.Kinds.{same_type, same_kind}
use Rattle.cond_expr.specs.Faults.{references, test_references, first_unknown, untyped}
use Rattle.cond_expr.specs.Faults.{test_untyped, first_of}
use Rattle.smo_ops_spec.specs.First.{unless}
use Rattle.smo_ops_spec.specs.OneRow.{same, own_kinds}

-- no table has more columns
abbrev pub AreNarrow : Tables → Type 0
AreNarrow tables = (name : List ℕ) (columns : List Column) → get tables name ≡ Some columns
    → length columns ≤ max_columns

abbrev pub Precondition : Type 0
Precondition = Option OpRefusal

-- the name is among these
abbrev pub among : List ℕ → List (List ℕ) → Bool
among name names = has bytes_cmp name names

-- the first name that stood before, where these stand in prefix
abbrev pub again_after : List (List ℕ) → List (List ℕ) → Option (List ℕ)
again_after before [] = None
again_after before (n ∷ names) = if among n before then Some n
    else again_after (before ++ n ∷ []) names

abbrev pub first_again : List (List ℕ) → Option (List ℕ)
first_again names = again_after [] names

-- the first name that is not among the others
abbrev pub first_not_among : List (List ℕ) → List (List ℕ) → Option (List ℕ)
first_not_among others names = find (λ n. not (among n others)) names

-- the type of the column with this name
abbrev pub type_in : List Column → List ℕ → Option ColType
type_in [] name = None
type_in (c ∷ columns) name = if same c.0 name then Some c.1 else type_in columns name

abbrev pub same_columns : List Column → List Column → Bool
same_columns [] [] = true
same_columns [] (d ∷ ds) = false
same_columns (c ∷ cs) [] = false
same_columns (c ∷ cs) (d ∷ ds) = same c.0 d.0 && (same_type c.1 d.1 && same_columns cs ds)

-- the table is there
abbrev pub is_there : Tables → List ℕ → Precondition
is_there tables r = unless (contains_key tables r) (NoTable r)

-- the name is no table, or one that the operator consumes
abbrev pub is_free : Tables → List (List ℕ) → List ℕ → Precondition
is_free tables consumed t = unless (not (contains_key tables t) || among t consumed) (Exists t)

-- two names that are not one
abbrev pub differ : List ℕ → List ℕ → Precondition
differ r s = unless (not (same r s)) (SameTable r)

abbrev pub is_some_column : List ℕ → List Column → Precondition
is_some_column r columns = unless (nat_le 1 (length columns)) (LastColumn r)

-- no column of the table is named twice
abbrev pub each_once : List ℕ → List (List ℕ) → Precondition
each_once r names = option_map (ColumnExists r) (first_again names)

abbrev pub each_known : List ℕ → List Column → List (List ℕ) → Precondition
each_known r columns names = option_map (NoColumn r) (first_not_among (names_of columns) names)

abbrev pub is_new : List ℕ → List Column → List ℕ → Precondition
is_new r columns c = unless (not (among c (names_of columns))) (ColumnExists r c)

abbrev pub few_columns : List Column → Precondition
few_columns columns = unless (nat_le (length columns) max_columns) (TooMany COLUMNS max_columns)

abbrev pub few_tables : Tables → Precondition
few_tables tables = unless (nat_le (len tables) max_tables) (TooMany TABLES max_tables)

abbrev pub alike : List ℕ → List Column → List ℕ → List Column → Precondition
alike r cs s ds = unless (same_columns cs ds) (ColumnsDiffer r s)

-- the columns of one name have one type
abbrev pub joinable : List ℕ → List Column → List ℕ → List Column → Precondition
joinable r cs s ds = unless (list_all (λ (c : Column).
    is_none (type_in ds c.0) || same_kind (type_in ds c.0) (Some c.1)) cs) (ColumnsDiffer r s)

-- two parts with a common column, so that neither is empty, which together have all columns
abbrev pub cover : List ℕ → List Column → List (List ℕ) → List (List ℕ) → Precondition
cover r columns xs ys = unless (list_any (λ x. among x ys) xs
    && list_all (λ n. among n xs || among n ys) (names_of columns)) (BadCover r)

abbrev pub another_column : List ℕ → List Column → Precondition
another_column r columns = unless (nat_le 2 (length columns)) (LastColumn r)

-- the references of an expression or a condition over the table, and then its types
abbrev pub known_in : List ℕ → List Column → Tree → Precondition
known_in r columns t = option_map (NoColumn r) (first_unknown (own_kinds columns) (references t))

abbrev pub typed_in : List Column → Tree → Precondition
typed_in columns t = option_map WrongType (first_of (untyped (own_kinds columns) 0 t))

abbrev pub test_known_in : List ℕ → List Column → Test → Precondition
test_known_in r columns c = option_map (NoColumn r)
    (first_unknown (own_kinds columns) (test_references c))

abbrev pub test_typed_in : List Column → Test → Precondition
test_typed_in columns c = option_map WrongType (first_of (test_untyped (own_kinds columns) 0 c))
