-- The changes of a command, table by table: what each table is accepted to have, and what the
-- database has of it after them.
use Rattle.std.proofs.Common.{◌≡◌, ◌<◌, ◌+◌, ℕ, suc, zero, Bool, true, false, cond, List, [], ◌∷◌}
use Rattle.std.proofs.Common.{length, get_or, refl, ap, subst, ◌∙◌, arith}
use Rattle.std.specs.Prelude.{Some, None}
use Rattle.std.specs.Option.{unwrap_or}
use Rattle.std.specs.FinMap.{get}
use Rattle.relations_spec.specs.Sets.{BeforeAll, Ascends}
use Rattle.prima_base.specs.Order.{bytes_cmp}
use Rattle.prima_base.specs.Columns.{Column}
use Rattle.prima_base.specs.OrderLaws.{same_is}
use Rattle.schema_catalog.specs.Tables.{Tables}
use Rattle.smo_ops_spec.specs.First.{first_refusal}
use Rattle.smo_ops_types.specs.Changes.{PlainChange, table_of}
use Rattle.smo_ops_spec.specs.Checks.{table_fault, tests_after, change_tests, changes_tests}
use Rattle.smo_ops_spec.specs.Checks.{change_nodes}
use Rattle.smo_ops_spec.specs.Effects.{columns_of}
use Rattle.smo_ops_spec.specs.OneRow.{same}
use Rattle.smo_ops_spec.proofs.Firsts.{none_of_both, none_of_first}
use Rattle.smo_ops_spec.proofs.NameLaws.{same_itself, same_not}
use Rattle.version_groups_tables.specs.declared.made_table.MadeTable.{MadeTable}
use Rattle.version_groups_tables.specs.Stored.{stored_as, stored_names}
use Rattle.version_groups_tables.specs.Grouping.{of_table}
use Rattle.version_groups_changes.specs.Changing.{AreAccepted}

-- ---- what is accepted

module _ (tables : Tables) (name : List ℕ) (columns : List Column)
    (there : get tables name ≡ Some columns) where
  are_columns : (t : List ℕ) → t ≡ name → columns_of tables t ≡ columns
  are_columns t e = ap (λ n. unwrap_or (get tables n) []) e ∙ ap (λ o. unwrap_or o []) there

  pub accepted_of : (changes : List PlainChange) (at : ℕ)
      → first_refusal (changes_tests tables changes at) ≡ None
      → AreAccepted columns (of_table name changes)
  accepted_of [] at e = tt
  accepted_of (c ∷ changes) at e =
      let parts = none_of_both (change_tests tables c at)
      (changes_tests tables changes (at + change_nodes c)) e in
      step parts.0 (accepted_of changes (at + change_nodes c) parts.1) (same (table_of c) name) refl
    where
      own : first_refusal (change_tests tables c at) ≡ None
          → first_refusal (tests_after (columns_of tables (table_of c)) c at) ≡ None
      own h = (none_of_first (table_fault tables (table_of c))
          (tests_after (columns_of tables (table_of c)) c at) h).1

      step : first_refusal (change_tests tables c at) ≡ None
          → AreAccepted columns (of_table name changes) → (b : Bool) → same (table_of c) name ≡ b
          → AreAccepted columns (cond b (c ∷ of_table name changes) (of_table name changes))
      step h rest true q = (
        (
          at,
          subst (λ (cs : List Column).
              first_refusal (tests_after cs c at) ≡ None)
              (are_columns (table_of c) (same_is (table_of c) name q)) (own h),
        ),
        rest,
      )
      step h rest false q = rest

-- ---- tables in the order of their names

other_name : (t : MadeTable) (tables : List MadeTable) (k : ℕ) (d : MadeTable)
    → BeforeAll bytes_cmp t.name (stored_names tables) → k < length tables
    → same t.name (get_or tables k d).name ≡ false
other_name t [] k d b l = absurd (omega (arith, l))
other_name t (u ∷ tables) zero d b l = same_not t.name u.name b.0
other_name t (u ∷ tables) (suc k) d b l = other_name t tables k d b.1 (omega (arith, l))

-- each is what is stored under its name
pub stored_there : (tables : List MadeTable) (k : ℕ) (d : MadeTable)
    → Ascends bytes_cmp (stored_names tables) → k < length tables
    → stored_as (get_or tables k d).name tables ≡ Some (get_or tables k d).store
stored_there [] k d a l = absurd (omega (arith, l))
stored_there (t ∷ tables) zero d a l = ap (λ b. cond b (Some t.store) (stored_as t.name tables))
    (same_itself t.name)
stored_there (t ∷ tables) (suc k) d a l =
    ap (λ b. cond b (Some t.store) (stored_as (get_or tables k d).name tables))
    (other_name t tables k d a.0 (omega (arith, l)))
    ∙ stored_there tables k d a.1 (omega (arith, l))
