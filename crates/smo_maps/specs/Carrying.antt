-- The relations of the tables that an operator makes, from those of the tables that it makes them
-- of.
use Rattle.std.specs.Prelude.{◌≡◌, List, [], ◌∷◌, ℕ, Some, ⊤}
use Rattle.std.specs.FinMap.{get}
use Rattle.schema_catalog.specs.Tables.{Tables}
use Rattle.schema_catalog.specs.Databases.{Database, Rows}
use Rattle.smo_ops_types.specs.Operators.{Operator}
use Rattle.smo_ops_spec.specs.OneRow.{Relation}
use Rattle.smo_ops_spec.specs.Touching.{made_of}
use Rattle.smo_ops_spec.specs.OperatorTable.{Made, line, made_names}
use Rattle.smo_ops_spec.specs.After.{migrate}

-- the database has these relations under at most two names; where one is named, or none, what else
-- is given counts for nothing
abbrev pub AreIn : List (List ℕ) → Database → Relation → Relation → Type 0
AreIn [] db first second = ⊤
AreIn (r ∷ []) db first second = get db r ≡ Some (Rows first)
AreIn (r ∷ s ∷ names) db first second = (get db r ≡ Some (Rows first))
    × (get db s ≡ Some (Rows second))

-- so it has, and what is not named is empty
abbrev pub Has : List (List ℕ) → Database → Relation → Relation → Type 0
Has [] db first second = (first ≡ []) × (second ≡ [])
Has (r ∷ []) db first second = (get db r ≡ Some (Rows first)) × (second ≡ [])
Has (r ∷ s ∷ names) db first second = (get db r ≡ Some (Rows first))
    × (get db s ≡ Some (Rows second))

-- of the tables that are made, the relations over a database, in the order of the table of
-- operators
abbrev pub AreMade : List Made → Database → Relation → Relation → Type 0
AreMade [] db first second = (first ≡ []) × (second ≡ [])
AreMade (m ∷ []) db first second = (m.entry db ≡ Rows first) × (second ≡ [])
AreMade (m ∷ n ∷ made) db first second = (m.entry db ≡ Rows first) × (n.entry db ≡ Rows second)

-- what an operator makes of these relations, whatever else a database has that has them: the rows
-- of the table of operators, and what the whole database that is carried has under the names of the
-- made tables
pub record IsCarried (tables : Tables) (op : Operator) (first second one other : Relation) :
    Type 0 where
  pub made : (db : Database) → AreIn (made_of op) db first second
      → AreMade (line tables op).made db one other
  pub whole : (db : Database) → AreIn (made_of op) db first second
      → Has (made_names (line tables op).made) (migrate tables op db) one other
