-- Where two schemas differ.
use Rattle.std.specs.Prelude.{◌≡◌, ℕ, List, Option, Some, None, Result, Ok, Err, ⊤}
use Rattle.std.specs.declared.cmp.Ordering.TheVariants.{Less}
use Rattle.std.specs.FinMap.{get, find}
use Rattle.prima_base.specs.Order.{bytes_cmp}
use Rattle.prima_base.specs.Columns.{Column}
use Rattle.schema_catalog.specs.Tables.{Tables}
use Rattle.schema_catalog.specs.Places.{NamedColumns}
use Rattle.schema_catalog.specs.declared.difference.SameFault.{SameFault}
use Rattle.schema_catalog.specs.declared.difference.SameFault.TheVariants.{Differs, NoMemory}

-- the first name, in name order, under which two schemas differ: one alone has the table, or it has
-- other columns there
pub record IsFirstDifference (a b : List ℕ → Option (List Column)) (name : List ℕ) : Type 0 where
  pub differs : ¬ (a name ≡ b name)
  pub before : (other : List ℕ) → bytes_cmp other name ≡ Less → a other ≡ b other

-- what `same` answers
abbrev pub IsSame : Tables → Tables → Result (Unit {0}) SameFault → Type 0
IsSame a b (Ok u) = a ≡ b
IsSame a b (Err (Differs name)) = IsFirstDifference (get a) (get b) name
IsSame a b (Err NoMemory) = ⊤

-- the first name under which two lists of tables differ; none where they differ nowhere
abbrev pub IsDifference : List NamedColumns → List NamedColumns → Option (List ℕ) → Type 0
IsDifference es fs (Some name) = IsFirstDifference (λ n. find bytes_cmp n es)
    (λ n. find bytes_cmp n fs) name
IsDifference es fs None = (name : List ℕ) → find bytes_cmp name es ≡ find bytes_cmp name fs
