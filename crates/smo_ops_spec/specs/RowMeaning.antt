-- What operators mean for rows, in the words of sets and of cells.
use Rattle.std.specs.Prelude.{◌≡◌, ℕ, List, Bool, true, false}
use Rattle.relations_spec.specs.Sets.{In}
use Rattle.prima_base.specs.Columns.{Column, names_of}
use Rattle.schema_catalog.specs.Databases.{cell}
use Rattle.cond_expr.specs.Trees.{Test}
use Rattle.smo_ops_spec.specs.OneRow.{Row, Relation, meets}
use Rattle.smo_ops_spec.specs.Preconditions.{among}
use Rattle.smo_ops_spec.specs.Making.{union}

-- two parts of a relation, by a test: no row is in both, and together they are the relation
pub record AreParts (test : Row → Bool) (rows meeting others : Relation) : Type 0 where
  pub met : (row : Row) → In row meeting → test row ≡ true
  pub unmet : (row : Row) → In row others → test row ≡ false
  pub disjoint : (row : Row) → In row meeting → In row others → ⊥
  pub whole : union meeting others ≡ rows

-- each old row has a made one that is so of it, and each made row an old one
pub record RowsFollow (IsSo : Row → Row → Type 0) (old made : Relation) : Type 0 where
  pub there : (row : Row) → In row old → (new : Row) × In new made × IsSo row new
  pub back : (new : Row) → In new made → (row : Row) × In row old × IsSo row new

-- the new row has what the old one has, in the columns of these names
abbrev pub SameIn : List (List ℕ) → List Column → List Column → Row → Row → Type 0
SameIn names columns made row new = (n : List ℕ) → among n names ≡ true
    → cell made new n ≡ cell columns row n

-- the new row has what the old one has, but for the columns of these names
abbrev pub SameBut : List (List ℕ) → List Column → List Column → Row → Row → Type 0
SameBut names columns made row new = (n : List ℕ) → among n names ≡ false
    → cell made new n ≡ cell columns row n

-- the row meets the condition, and has the cells of a row of each of two relations
abbrev pub IsOfJoin : List Column → List Column → List Column → Test → Relation → Relation → Row
    → Type 0
IsOfJoin cs ds made c first second row = (meets made c row ≡ true)
    × ((a : Row) × (b : Row) × In a first × In b second × SameIn (names_of cs) cs made a row
    × SameIn (names_of ds) ds made b row)
