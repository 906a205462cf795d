-- Rows among which are all that pass a test.
use Rattle.std.specs.Prelude.{◌≡◌, Bool, true, List}
use Rattle.relations_spec.specs.Sets.{In}
use Rattle.smo_ops_spec.specs.OneRow.{Row, Relation}

-- some rows of the relation, and among them all that pass the test
pub record HaveHits (passes : Row → Bool) (stored : Relation) (rows : List Row) : Type 0 where
  pub only : (row : Row) → In row rows → In row stored
  pub all : (row : Row) → In row stored → passes row ≡ true → In row rows
