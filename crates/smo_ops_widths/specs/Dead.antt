-- Dead tables of a version: nothing of a later version hangs on how wide they are.
use Rattle.std.specs.Prelude.{◌≡◌, ℕ, List, Bool, true, false}
use Rattle.std.specs.FinMap.{get, entries}
use Rattle.schema_catalog.specs.Tables.{Tables}
use Rattle.smo_ops_types.specs.Operators.{Operator}
use Rattle.smo_ops_types.specs.Commands.{PlainVersion}
use Rattle.smo_ops_spec.specs.Past.{no_tables, tables_from}
use Rattle.smo_ops_spec.specs.Preconditions.{among}
use Rattle.smo_ops_spec.specs.Touching.{makes, consumes, made_of}
use Rattle.smo_ops_versions_spec.specs.Steps.{taken}
use Rattle.smo_ops_versions_spec.specs.Ways.{way}
use Rattle.smo_ops_widths.specs.Widths.{Widths, widths_stepped, greatest}

-- the widths are the same, but for those of these tables
abbrev pub AgreeBeside : (List ℕ → Bool) → Widths → Widths → Type 0
AgreeBeside these xs ys = (n : List ℕ) → these n ≡ false → get xs n ≡ get ys n

-- the greatest measure of version q's tables is one whatever widths these tables of version k have
abbrev pub AreDead : (List ℕ → Bool) → List PlainVersion → ℕ → ℕ → Type 0
AreDead these versions k q = (xs ys : Widths) → AgreeBeside these xs ys
    → greatest (entries (tables_from no_tables versions q))
    (taken widths_stepped (way versions k q) xs)
    ≡ greatest (entries (tables_from no_tables versions q))
    (taken widths_stepped (way versions k q) ys)

-- where tables are dead after an operator, these are before it: none that is there after it as it
-- was, unless it is dead there, and none of which a table is made that is not
pub record AreDeadBefore (op : Operator) (after before : List ℕ → Bool) : Type 0 where
  pub untouched : (tables : Tables) (n : List ℕ) → makes tables op n ≡ false
      → consumes tables op n ≡ false → after n ≡ false → before n ≡ false
  pub read : (tables : Tables) (m n : List ℕ) → makes tables op m ≡ true → after m ≡ false
      → among n (made_of op) ≡ true → before n ≡ false
