-- The tables that are lost in a database on the way from one version to another, by names alone.
use Rattle.std.specs.Prelude.{◌≡◌, ℕ, List, [], ◌∷◌, Option, Some, None}
use Rattle.std.specs.FinMap.{FinMap, get, insert, remove, empty}
use Rattle.prima_base.specs.Order.{bytes_cmp}
use Rattle.schema_catalog.specs.Tables.{Tables}
use Rattle.schema_catalog.specs.Databases.{Database}
use Rattle.smo_ops_types.specs.Operators.{Operator}
use Rattle.smo_ops_types.specs.Commands.{PlainVersion}
use Rattle.smo_ops_spec.specs.OperatorTable.{line, made_names}
use Rattle.smo_ops_spec.specs.Touching.{made_of}
use Rattle.smo_ops_spec.specs.Losses.{Loss, loss_in, first_loss}
use Rattle.smo_ops_versions_spec.specs.Steps.{Step, carrying, filling, undoing, taken}
use Rattle.smo_ops_spec.specs.WaysBack.{blank, filled_with}
use Rattle.smo_ops_versions_spec.specs.Ways.{way}

-- the lost tables, by their names
abbrev pub LostTables : Type 0
LostTables = FinMap bytes_cmp Loss

-- these are the losses of the database
abbrev pub AreLosses : LostTables → Database → Type 0
AreLosses losses db = (n : List ℕ) → loss_in db n ≡ get losses n

abbrev pub none_lost : List (List ℕ) → LostTables → LostTables
none_lost [] losses = losses
none_lost (n ∷ names) losses = none_lost names (remove losses n)

abbrev pub all_lost : Loss → List (List ℕ) → LostTables → LostTables
all_lost loss [] losses = losses
all_lost loss (n ∷ names) losses = all_lost loss names (insert losses n loss)

-- the names have this loss, or none
abbrev pub with_loss : Option Loss → List (List ℕ) → LostTables → LostTables
with_loss None names losses = none_lost names losses
with_loss (Some loss) names losses = all_lost loss names losses

-- over an operator the consumed names go, and what is made has the first loss of what it is made of
abbrev pub lost_over : Tables → Operator → LostTables → LostTables
lost_over tables op losses =
    with_loss (first_loss (get losses) (made_of op)) (made_names (line tables op).made)
    (none_lost (line tables op).consumed losses)

-- back over an operator where nothing leads back: the made names go, and the consumed ones have
-- this loss
abbrev pub lost_undone : Loss → Tables → Operator → LostTables → LostTables
lost_undone loss before op losses =
    all_lost loss (line before op).consumed (none_lost (made_names (line before op).made) losses)

-- over one step
abbrev pub lost_stepped : Step → LostTables → LostTables
lost_stepped (carrying tables op) losses = lost_over tables op losses
lost_stepped (filling loss tables f) losses = lost_over tables (filled_with blank f) losses
lost_stepped (undoing loss before op) losses = lost_undone loss before op losses

-- the tables that are lost on the way from version v to version q
abbrev pub lost_tables : List PlainVersion → ℕ → ℕ → LostTables
lost_tables versions v q = taken lost_stepped (way versions v q) empty
