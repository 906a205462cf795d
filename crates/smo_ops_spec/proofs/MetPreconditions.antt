-- What an accepted operator has met, each precondition by name.
use Rattle.std.proofs.Common.{◌≡◌, ℕ, List, [], ◌∷◌, ◌++◌}
use Rattle.std.specs.Prelude.{None}
use Rattle.prima_base.specs.Columns.{Column, names_of}
use Rattle.schema_catalog.specs.Tables.{Tables}
use Rattle.cond_expr.specs.Trees.{Tree, Test}
use Rattle.smo_ops_types.specs.Operators.{Operator, create_table, rename_table, copy_table}
use Rattle.smo_ops_types.specs.Operators.{merge_table}
use Rattle.smo_ops_types.specs.Operators.{partition_table, decompose_table, join_table, add_column}
use Rattle.smo_ops_types.specs.Operators.{drop_column, rename_column}
use Rattle.smo_ops_spec.specs.Effects.{columns_of}
use Rattle.smo_ops_spec.specs.Preconditions.{is_there, is_free, differ, is_some_column, each_once}
use Rattle.smo_ops_spec.specs.Preconditions.{each_known, is_new, few_columns, few_tables, alike}
use Rattle.smo_ops_spec.specs.Preconditions.{joinable, cover, another_column, known_in, typed_in}
use Rattle.smo_ops_spec.specs.Preconditions.{test_known_in, test_typed_in}
use Rattle.smo_ops_spec.specs.Making.{with_column, type_of_value, joined_columns}
use Rattle.smo_ops_spec.specs.OperatorTable.{line}
use Rattle.smo_ops_spec.specs.After.{schema_after}
use Rattle.smo_ops_spec.proofs.StepLaws.{AllMet}

-- each of an operator's preconditions is met
abbrev pub PreconditionsMet : Tables → Operator → Type 0
PreconditionsMet tables op = AllMet (line tables op).preconditions

-- ---- of each operator, by name

pub record CreateMet (tables : Tables) (r : List ℕ) (cs : List Column) : Type 0 where
  pub name_free : is_free tables [] r ≡ None
  pub some_column : is_some_column r cs ≡ None
  pub named_once : each_once r (names_of cs) ≡ None
  pub columns_few : few_columns cs ≡ None
  pub tables_few : few_tables (schema_after tables (create_table r cs)) ≡ None

pub create_met : {tables : Tables} {r : List ℕ} {cs : List Column}
    → PreconditionsMet tables (create_table r cs) → CreateMet tables r cs
create_met (name, (some, (once, (columns, (few, end))))) = record {
  name_free = name;
  some_column = some;
  named_once = once;
  columns_few = columns;
  tables_few = few;
}

pub record RenameMet (tables : Tables) (r t : List ℕ) : Type 0 where
  pub there : is_there tables r ≡ None
  pub apart : differ r t ≡ None
  pub name_free : is_free tables (r ∷ []) t ≡ None

pub rename_met : {tables : Tables} {r t : List ℕ} → PreconditionsMet tables (rename_table r t)
    → RenameMet tables r t
rename_met (it, (two, (name, end))) = record {
  there = it;
  apart = two;
  name_free = name;
}

pub record CopyMet (tables : Tables) (r t : List ℕ) : Type 0 where
  pub there : is_there tables r ≡ None
  pub name_free : is_free tables [] t ≡ None
  pub tables_few : few_tables (schema_after tables (copy_table r t)) ≡ None

pub copy_met : {tables : Tables} {r t : List ℕ} → PreconditionsMet tables (copy_table r t)
    → CopyMet tables r t
copy_met (it, (name, (few, end))) = record {
  there = it;
  name_free = name;
  tables_few = few;
}

pub record MergeMet (tables : Tables) (r s t : List ℕ) : Type 0 where
  pub left_there : is_there tables r ≡ None
  pub right_there : is_there tables s ≡ None
  pub apart : differ r s ≡ None
  pub name_free : is_free tables (r ∷ s ∷ []) t ≡ None
  pub columns_alike : alike r (columns_of tables r) s (columns_of tables s) ≡ None

pub merge_met : {tables : Tables} {r s t : List ℕ} → PreconditionsMet tables (merge_table r s t)
    → MergeMet tables r s t
merge_met (left, (right, (two, (name, (same, end))))) = record {
  left_there = left;
  right_there = right;
  apart = two;
  name_free = name;
  columns_alike = same;
}

pub record PartitionMet (tables : Tables) (r s : List ℕ) (c : Test) (t : List ℕ) : Type 0 where
  pub there : is_there tables r ≡ None
  pub apart : differ s t ≡ None
  pub first_free : is_free tables (r ∷ []) s ≡ None
  pub second_free : is_free tables (r ∷ []) t ≡ None
  pub columns_known : test_known_in r (columns_of tables r) c ≡ None
  pub types_right : test_typed_in (columns_of tables r) c ≡ None
  pub tables_few : few_tables (schema_after tables (partition_table r s c t)) ≡ None

pub partition_met : {tables : Tables} {r s : List ℕ} (c : Test) {t : List ℕ}
    → PreconditionsMet tables (partition_table r s c t) → PartitionMet tables r s c t
partition_met c (it, (two, (first, (second, (known, (typed, (few, end))))))) = record {
  there = it;
  apart = two;
  first_free = first;
  second_free = second;
  columns_known = known;
  types_right = typed;
  tables_few = few;
}

pub record DecomposeMet (tables : Tables) (r s : List ℕ) (xs : List (List ℕ)) (t : List ℕ)
    (ys : List (List ℕ)) : Type 0 where
  pub there : is_there tables r ≡ None
  pub apart : differ s t ≡ None
  pub first_free : is_free tables (r ∷ []) s ≡ None
  pub second_free : is_free tables (r ∷ []) t ≡ None
  pub columns_known : each_known r (columns_of tables r) (xs ++ ys) ≡ None
  pub first_once : each_once s xs ≡ None
  pub second_once : each_once t ys ≡ None
  pub covered : cover r (columns_of tables r) xs ys ≡ None
  pub tables_few : few_tables (schema_after tables (decompose_table r s xs t ys)) ≡ None

pub decompose_met : {tables : Tables} {r s : List ℕ} {xs : List (List ℕ)} {t : List ℕ}
    {ys : List (List ℕ)} → PreconditionsMet tables (decompose_table r s xs t ys)
    → DecomposeMet tables r s xs t ys
decompose_met (it, (two, (first, (second, (known, (once, (again, (all, (few, end))))))))) = record {
  there = it;
  apart = two;
  first_free = first;
  second_free = second;
  columns_known = known;
  first_once = once;
  second_once = again;
  covered = all;
  tables_few = few;
}

pub record JoinMet (tables : Tables) (r s t : List ℕ) (c : Test) : Type 0 where
  pub left_there : is_there tables r ≡ None
  pub right_there : is_there tables s ≡ None
  pub apart : differ r s ≡ None
  pub name_free : is_free tables (r ∷ s ∷ []) t ≡ None
  pub types_agree : joinable r (columns_of tables r) s (columns_of tables s) ≡ None
  pub columns_few : few_columns (joined_columns (columns_of tables r) (columns_of tables s)) ≡ None
  pub columns_known : test_known_in t
      (joined_columns (columns_of tables r) (columns_of tables s)) c ≡ None
  pub types_right : test_typed_in
      (joined_columns (columns_of tables r) (columns_of tables s)) c ≡ None

pub join_met : {tables : Tables} {r s t : List ℕ} (c : Test)
    → PreconditionsMet tables (join_table r s t c) → JoinMet tables r s t c
join_met c (left, (right, (two, (name, (agree, (few, (known, (typed, end)))))))) = record {
  left_there = left;
  right_there = right;
  apart = two;
  name_free = name;
  types_agree = agree;
  columns_few = few;
  columns_known = known;
  types_right = typed;
}

pub record AddMet (tables : Tables) (c : List ℕ) (e : Tree) (r : List ℕ) : Type 0 where
  pub there : is_there tables r ≡ None
  pub name_new : is_new r (columns_of tables r) c ≡ None
  pub columns_known : known_in r (columns_of tables r) e ≡ None
  pub types_right : typed_in (columns_of tables r) e ≡ None
  pub columns_few : few_columns
      (with_column c (type_of_value (columns_of tables r) e) (columns_of tables r)) ≡ None

pub add_met : {tables : Tables} {c : List ℕ} (e : Tree) {r : List ℕ}
    → PreconditionsMet tables (add_column c e r) → AddMet tables c e r
add_met e (it, (new, (known, (typed, (few, end))))) = record {
  there = it;
  name_new = new;
  columns_known = known;
  types_right = typed;
  columns_few = few;
}

pub record DropMet (tables : Tables) (c r : List ℕ) : Type 0 where
  pub there : is_there tables r ≡ None
  pub columns_known : each_known r (columns_of tables r) (c ∷ []) ≡ None
  pub another : another_column r (columns_of tables r) ≡ None

pub drop_met : {tables : Tables} {c r : List ℕ} → PreconditionsMet tables (drop_column c r)
    → DropMet tables c r
drop_met (it, (known, (other, end))) = record {
  there = it;
  columns_known = known;
  another = other;
}

pub record NewNameMet (tables : Tables) (b r c : List ℕ) : Type 0 where
  pub there : is_there tables r ≡ None
  pub columns_known : each_known r (columns_of tables r) (b ∷ []) ≡ None
  pub name_new : is_new r (columns_of tables r) c ≡ None

pub new_name_met : {tables : Tables} {b r c : List ℕ}
    → PreconditionsMet tables (rename_column b r c) → NewNameMet tables b r c
new_name_met (it, (known, (new, end))) = record {
  there = it;
  columns_known = known;
  name_new = new;
}
