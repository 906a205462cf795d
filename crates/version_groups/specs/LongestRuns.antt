-- A lifeline is a longest run of versions in which no member of an operator makes or consumes the
-- table.
use Rattle.std.specs.Prelude.{◌≡◌, ◌≤◌, ◌<◌, ℕ, zero, suc, ◌+◌, Bool, true, false, List, Option}
use Rattle.std.specs.Prelude.{Some, None, length, slice_get}
use Rattle.std.specs.FinMap.{get}
use Rattle.schema_catalog.specs.Tables.{Tables}
use Rattle.smo_ops_types.specs.Commands.{PlainVersion}
use Rattle.smo_ops_types.specs.Operators.{Operator}
use Rattle.smo_ops_spec.specs.Past.{no_tables, tables_from}
use Rattle.smo_ops_spec.specs.Evolutions.{one_makes, one_consumes}
use Rattle.version_groups.specs.Lifelines.{Lifeline, covers}

abbrev pub of_operator : (Tables → List Operator → List ℕ → Bool) → Tables → Option PlainVersion
    → List ℕ
    → Bool
of_operator does before None name = false
of_operator does before (Some v) name = does before v.op name

-- whether the members of the operator that leads to version k do so with the table; none leads to
-- version 0
abbrev pub with_version : (Tables → List Operator → List ℕ → Bool) → List PlainVersion → ℕ → List ℕ
    → Bool
with_version does versions zero name = false
with_version does versions (suc k) name = of_operator does (tables_from no_tables versions k)
    (slice_get versions k) name

-- the table is made with the first version of the lifeline, and is there, with the lifeline's
-- columns, in each that it covers; none of these but the first comes with an operator of which a
-- member makes or consumes it; and the lifeline ends only where one of the next operator's consumes
-- it
pub record IsLongest (versions : List PlainVersion) (l : Lifeline) : Type 0 where
  pub begun : l.first ≤ length versions
  pub begins : with_version one_makes versions l.first l.table ≡ true
  pub there : (k : ℕ) → k ≤ length versions → covers k l ≡ true
      → get (tables_from no_tables versions k) l.table ≡ Some l.columns
  pub inside : (k : ℕ) → l.first < k → k ≤ length versions → covers k l ≡ true
      → (with_version one_makes versions k l.table ≡ false)
      × (with_version one_consumes versions k l.table ≡ false)
  pub ends : (last : ℕ) → l.last ≡ Some last → (l.first ≤ last) × (last < length versions)
      × (with_version one_consumes versions (last + 1) l.table ≡ true)
