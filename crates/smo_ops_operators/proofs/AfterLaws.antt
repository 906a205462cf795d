-- The preconditions of a CREATE TABLE, and the schema after an operator.
use Rattle.std.proofs.Common.{◌<◌, ◌+◌, ◌≡◌, ◌≤◌, ℕ, true, false, List, [], ◌∷◌, length, sym, ap}
use Rattle.std.proofs.Common.{subst, ◌∙◌, arith}
use Rattle.std.specs.Prelude.{cond, not, ◌||◌, nat_le, is_some, Option, Some, None, MatchOption}
use Rattle.std.specs.Prelude.{Result, Ok, Err, IfOk}
use Rattle.std.specs.Option.{option_map}
use Rattle.std.specs.FinMap.{get, insert, len, len-insert}
use Rattle.std.specs.Cmp.Lexicographic.{nat_list_cmp_total}
use Rattle.prima_base.specs.declared.refusal.What.TheVariants.{Tables as TABLES, Columns as COLUMNS}
use Rattle.prima_base.specs.declared.refusal.OpRefusal.TheVariants.{Exists, LastColumn}
use Rattle.prima_base.specs.declared.refusal.OpRefusal.TheVariants.{ColumnExists, TooMany}
use Rattle.prima_base.specs.Columns.{Column, names_of}
use Rattle.schema_catalog.specs.Tables.{Tables}
use Rattle.smo_ops_types.specs.Operators.{Operator, create_table}
use Rattle.smo_ops_spec.specs.First.{unless}
use Rattle.smo_ops_spec.specs.Preconditions.{is_free, is_some_column, each_once, few_columns}
use Rattle.smo_ops_spec.specs.Preconditions.{few_tables, first_again}
use Rattle.smo_ops_spec.specs.Making.{in_order}
use Rattle.smo_ops_spec.specs.After.{op_fault, IsValid, IsAfter}
use Rattle.prima_base.specs.declared.refusal.OpRefusal.{OpRefusal}
use Rattle.prima_base.specs.declared.fault.CallFault.{CallFault}
use Rattle.prima_base.specs.Limits.{max_columns, max_tables}
use Rattle.smo_ops_spec.proofs.Firsts.{first_later, first_alone}
use Rattle.smo_ops_spec.proofs.NextSchemas.{next_is_valid}

-- the preconditions up to the number of tables are met
pub tests_of_new : (tables : Tables) (r : List ℕ) (cs : List Column) → get tables r ≡ None
    → 1 ≤ length cs → first_again (names_of cs) ≡ None → length cs ≤ 32
    → op_fault tables (create_table r cs) ≡ unless (nat_le (len tables + 1) max_tables)
    (TooMany TABLES max_tables)
tests_of_new tables r cs free some once few =
    first_later (is_free tables [] r) (is_some_column r cs ∷ each_once r (names_of cs)
    ∷ few_columns cs ∷ few_tables (insert tables r (in_order cs)) ∷ [])
    (ap (λ (o : Option (List Column)). unless (not (is_some o) || false) (Exists r)) free)
    ∙ first_later (is_some_column r cs) (each_once r (names_of cs) ∷ few_columns cs
    ∷ few_tables (insert tables r (in_order cs)) ∷ [])
    (ap (λ b. unless b (LastColumn r)) (within_limit 1 (length cs) some))
    ∙ first_later (each_once r (names_of cs))
    (few_columns cs ∷ few_tables (insert tables r (in_order cs)) ∷ [])
    (ap (option_map (ColumnExists r)) once)
    ∙ first_later (few_columns cs) (few_tables (insert tables r (in_order cs)) ∷ [])
    (ap (λ b. unless b (TooMany COLUMNS max_columns)) (within_limit (length cs) 32 few))
    ∙ first_alone (few_tables (insert tables r (in_order cs)))
    ∙ ap (λ n. unless (nat_le n max_tables) (TooMany TABLES max_tables))
    (len-insert nat_list_cmp_total tables r (in_order cs)
    ∙ ap (λ (o : Option (List Column)). cond (is_some o) (len tables) (len tables + 1)) free)
  where
    within_limit : (m n : ℕ) → m ≤ n → nat_le m n ≡ true
    within_limit m n l = grind (arith, l)

pub many_tables : (tables : Tables) (r : List ℕ) (cs : List Column) → get tables r ≡ None
    → 1 ≤ length cs → first_again (names_of cs) ≡ None → length cs ≤ 32
    → 64 ≤ len tables → op_fault tables (create_table r cs) ≡ Some (TooMany TABLES 64)
many_tables tables r cs free some once few l =
    tests_of_new tables r cs free some once few
    ∙ ap (λ b. unless b (TooMany TABLES max_tables)) (above (len tables) l)
  where
    above : (n : ℕ) → 64 ≤ n → nat_le (n + 1) 64 ≡ false
    above n l = grind (arith, l)

pub room_for_table : (tables : Tables) (r : List ℕ) (cs : List Column) → get tables r ≡ None
    → 1 ≤ length cs → first_again (names_of cs) ≡ None → length cs ≤ 32
    → len tables < 64 → op_fault tables (create_table r cs) ≡ None
room_for_table tables r cs free some once few l =
    tests_of_new tables r cs free some once few
    ∙ ap (λ b. unless b (TooMany TABLES max_tables)) (below (len tables) l)
  where
    below : (n : ℕ) → n < 64 → nat_le (n + 1) 64 ≡ true
    below n l = grind (arith, l)

pub not_there : {A : Type 0} (r : Option A) (g : Option (List Column)) (Q : A → Type 0)
    → MatchOption r (g ≡ None) Q → is_some r ≡ false → g ≡ None
not_there None g Q h e = h
not_there (Some x) g Q h e = absurd (cc)

pub still_valid : (tables : Tables) (op : Operator) (answer : Result Tables (CallFault OpRefusal))
    → IsAfter tables op answer → IsValid tables → IfOk answer IsValid
still_valid tables op (Ok next) a h = subst IsValid (sym a.1) (next_is_valid tables op h a.0)
still_valid tables op (Err e) a h = tt
