-- A database holds valid values just where each value of each row of each of its tables is valid.
use Rattle.std.proofs.Common.{◌≡◌, ℕ, List, refl, subst}
use Rattle.std.specs.Prelude.{Option, Some, None}
use Rattle.std.specs.FinMap.{get}
use Rattle.relations_spec.specs.Sets.{In}
use Rattle.prima_base.specs.declared.value.Value.{Value}
use Rattle.prima_base.specs.Columns.{IsValid}
use Rattle.schema_catalog.specs.Databases.{DatabaseEntry, Rows, Lost, Database}
use Rattle.smo_ops_spec.specs.OneRow.{Row, Relation}
use Rattle.smo_ops_spec.specs.ValidValues.{EntryHolds, HoldsValues}

pub value_valid_in : (db : Database) (n : List ℕ) (rows : Relation) (row : Row) (v : Value)
    → HoldsValues db → get db n ≡ Some (Rows rows) → In row rows → In v row → IsValid v
value_valid_in db n rows row v h e m l = subst EntryHolds e (h n) row m v l

pub each_valid : (db : Database) → ((n : List ℕ) (rows : Relation) (row : Row) (v : Value)
    → get db n ≡ Some (Rows rows) → In row rows → In v row → IsValid v) → HoldsValues db
each_valid db h = λ n. step n (get db n) refl
  where
    step : (n : List ℕ) (o : Option DatabaseEntry) → get db n ≡ o → EntryHolds o
    step n None e = tt
    step n (Some (Rows rows)) e = λ row m v l. h n rows row v e m l
    step n (Some (Lost k i)) e = tt
