-- The lifelines of tables, by the operators of versions alone. A lifeline is a longest run of
-- versions in which no operator makes or consumes the table (PRIMA 2008 stores a table once over
-- such a run).
use Rattle.std.specs.Prelude.{◌≡◌, ◌≤◌, ℕ, suc, ◌+◌, ◌&&◌, Bool, true, List, [], ◌∷◌, ◌++◌, map}
use Rattle.std.specs.Prelude.{length, Option, Some, None, ⊤, nat_le, if◌then◌else◌}
use Rattle.std.specs.List.{filter}
use Rattle.std.specs.Option.{option_map}
use Rattle.std.specs.FinMap.{entries, get}
use Rattle.relations_spec.specs.Sets.{In}
use Rattle.prima_base.specs.Columns.{Column}
use Rattle.schema_catalog.specs.Tables.{Tables}
use Rattle.smo_ops_types.specs.Commands.{PlainVersion}
use Rattle.smo_ops_types.specs.Operators.{Operator}
use Rattle.smo_ops_spec.specs.OneRow.{same}
use Rattle.smo_ops_spec.specs.Past.{Past, no_tables}
use Rattle.smo_ops_spec.specs.Sizes.{Size}
use Rattle.smo_ops_spec.specs.Evolutions.{one_makes, one_consumes}

-- a lifeline of a table, from its first version to its last, none while it lives, and the columns
-- that it has in each of them
pub record Lifeline : Type 0 where
  pub table : List ℕ
  pub first : ℕ
  pub last : Option ℕ
  pub columns : List Column

-- one that lives ends with version k where the next operator consumes its table
abbrev pub last_after : Bool → ℕ → Option ℕ → Option ℕ
last_after consumed k None = if consumed then Some k else None
last_after consumed k (Some last) = Some last

-- it ends with version k where the next operator consumes its table
abbrev pub line_after : (List ℕ → Bool) → ℕ → Lifeline → Lifeline
line_after consumed k l = record {
  table = l.table;
  first = l.first;
  last =
      last_after (consumed l.table) k l.last;
  columns = l.columns;
}

-- a table that is made begins one
abbrev pub line_begun : ℕ → List ℕ × List Column → Lifeline
line_begun k t = record { table = t.0; first = k; last = None; columns = t.1 }

-- the tables that members of an operator make and that are there after all of them, in the order of
-- their names
abbrev pub made_tables : Tables → List Operator → Tables → List (List ℕ × List Column)
made_tables before op after = filter (λ (t : List ℕ × List Column). one_makes before op t.0)
    (entries after)

-- after the operator of version k + 1, over the tables of version k; new ones stand after the
-- others, in the order of their names
abbrev pub lifelines_after : Tables → ℕ → List Lifeline → PlainVersion → List Lifeline
lifelines_after before k lines v =
    map (line_after (one_consumes before v.op) k) lines
    ++ map (line_begun (k + 1)) (made_tables before v.op v.tables)

-- after versions that come after version k
abbrev pub lifelines_from : Tables → ℕ → List Lifeline → List PlainVersion → List Lifeline
lifelines_from before k lines [] = lines
lifelines_from before k lines (v ∷ versions) =
    lifelines_from v.tables (k + 1) (lifelines_after before k lines v) versions

-- the lifelines of all tables, by first version and then name
abbrev pub lifelines_of : List PlainVersion → List Lifeline
lifelines_of versions = lifelines_from no_tables 0 [] versions

abbrev pub lifeline_columns : List Lifeline → List (List Column)
lifeline_columns lines = map (λ (l : Lifeline). l.columns) lines

-- ---- the lifelines of a version

-- a lifeline that goes from the one version to the other, or lives, is of version k
abbrev pub IsUpTo : Option ℕ → ℕ → Type 0
IsUpTo None k = ⊤
IsUpTo (Some last) k = k ≤ last

abbrev pub Covers : ℕ → Option ℕ → ℕ → Type 0
Covers first last k = (first ≤ k) × IsUpTo last k

-- a lifeline that lives is of each version from its first on, and one that has ended up to its last
abbrev pub is_up_to : Option ℕ → ℕ → Bool
is_up_to None k = true
is_up_to (Some last) k = nat_le k last

abbrev pub covers : ℕ → Lifeline → Bool
covers k l = nat_le l.first k && is_up_to l.last k

-- the place of the first lifeline that meets the test
abbrev pub first_place : (Lifeline → Bool) → List Lifeline → Option ℕ
first_place test [] = None
first_place test (l ∷ lines) = if test l then Some 0 else option_map suc (first_place test lines)

-- the number, from 0 on, of the lifeline of the table with this name in version k: that of the name
-- that covers the version; none where there is no such version, or no such table in it
abbrev pub place_in : List PlainVersion → ℕ → List ℕ → Option ℕ
place_in versions k name = if nat_le k (length versions)
    then first_place (λ (l : Lifeline). same l.table name && covers k l) (lifelines_of versions)
    else None

-- no two of the lifelines are of one table in version k
abbrev pub AreApart : ℕ → List Lifeline → Type 0
AreApart k [] = ⊤
AreApart k (l ∷ lines) = ((r : Lifeline) → In r lines → l.table ≡ r.table → Covers l.first l.last k
    → Covers r.first r.last k → ⊥) × AreApart k lines

-- version k has just the tables whose lifelines cover it, each of one lifeline, with the lifeline's
-- columns
pub record HaveTables (k : ℕ) (tables : Tables) (lines : List Lifeline) : Type 0 where
  pub has : (l : Lifeline) → In l lines → Covers l.first l.last k
      → get tables l.table ≡ Some l.columns
  pub each : (name : List ℕ) (columns : List Column) → get tables name ≡ Some columns
      → (l : Lifeline) × In l lines × Covers l.first l.last k × (l.table ≡ name)
  pub once : AreApart k lines

-- ---- the lifelines of a past

-- a table, and the first and the last version of a lifeline of it
abbrev pub Named : Type 0
Named = List ℕ × ℕ × Option ℕ

abbrev pub size_named : Size → Named
size_named s = (s.table, s.first, s.last)

abbrev pub line_named : Lifeline → Named
line_named l = (l.table, l.first, l.last)

-- the sizes of a past are those of the lifelines of its versions
abbrev pub NamesLifelines : Past → Type 0
NamesLifelines past = map size_named past.sizes ≡ map line_named (lifelines_of past.versions)
