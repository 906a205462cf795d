-- What the accepted commands have made: the versions, the last stamp, how many commands there were,
-- and the database of each moment.
use Rattle.std.specs.Prelude.{ℕ, zero, suc, ◌+◌, List, [], ◌∷◌, ◌++◌, ◌==◌, length, Option, Some}
use Rattle.std.specs.Prelude.{None, nat_lt, nat_le, if◌then◌else◌}
use Rattle.std.specs.List.{filter}
use Rattle.std.specs.FinMap.{empty}
use Rattle.schema_catalog.specs.Tables.{Tables}
use Rattle.schema_catalog.specs.Databases.{Database}
use Rattle.smo_ops_types.specs.Operators.{Operator}
use Rattle.smo_ops_types.specs.Commands.{PlainBody, changing, evolving, PlainCommand, PlainVersion}
use Rattle.smo_ops_spec.specs.Effects.{after_each, gained, lost}
use Rattle.smo_ops_spec.specs.Evolutions.{schema_after_each, carried_each}
use Rattle.smo_ops_spec.specs.Sizes.{Size, sizes_changed, sizes_evolved}

-- from a moment on the database is this one
pub record State : Type 0 where
  pub stamp : ℕ
  pub database : Database

-- versions 1 to the newest; the stamp of the last accepted command; how many commands were
-- accepted; the lifelines of the tables, by first version and then name, with their sizes; and a
-- state for moment 0 and for each later stamp at which the version or the database changes,
-- ascending
pub record Past : Type 0 where
  pub versions : List PlainVersion
  pub last : Option ℕ
  pub commands : ℕ
  pub sizes : List Size
  pub states : List State

abbrev pub a_state : ℕ → Database → State
a_state stamp database = record { stamp = stamp; database = database }

-- version 0 has no table
abbrev pub no_tables : Tables
no_tables = empty

abbrev pub no_database : Database
no_database = empty

-- nothing was accepted
abbrev pub beginning : Past
beginning = record {
  versions = [];
  last = None;
  commands = 0;
  sizes = [];
  states =
      a_state 0 no_database ∷ [];
}

-- the tables of version k, where these versions come after the one with the tables `before`
abbrev pub tables_from : Tables → List PlainVersion → ℕ → Tables
tables_from before [] k = before
tables_from before (v ∷ versions) zero = before
tables_from before (v ∷ versions) (suc k) = tables_from v.tables versions k

abbrev pub tables_of : Past → ℕ → Tables
tables_of past k = tables_from no_tables past.versions k

-- the tables of the newest version
abbrev pub newest_from : Tables → List PlainVersion → Tables
newest_from before [] = before
newest_from before (v ∷ versions) = newest_from v.tables versions

abbrev pub newest_tables : Past → Tables
newest_tables past = newest_from no_tables past.versions

-- the versions that have begun at a moment: those whose stamp is at most it
abbrev pub begun_at : ℕ → List PlainVersion → List PlainVersion
begun_at moment versions = filter (λ (v : PlainVersion). nat_le v.stamp moment) versions

-- the version in force at a moment: so many have begun
abbrev pub version_at : Past → ℕ → ℕ
version_at past moment = length (begun_at moment past.versions)

-- the database at a moment: that of the last state whose stamp is at most it
abbrev pub database_from : Database → List State → ℕ → Database
database_from before [] moment = before
database_from before (s ∷ states) moment = if nat_le s.stamp moment
    then database_from s.database states moment else before

abbrev pub database_at : Past → ℕ → Database
database_at past moment = database_from no_database past.states moment

-- the database of the newest state
abbrev pub latest_from : Database → List State → Database
latest_from before [] = before
latest_from before (s ∷ states) = latest_from s.database states

abbrev pub newest_database : Past → Database
newest_database past = latest_from no_database past.states

-- the states before the stamp, and from it on the database
abbrev pub from_stamp : ℕ → Database → List State → List State
from_stamp stamp database [] = a_state stamp database ∷ []
from_stamp stamp database (s ∷ states) = if nat_lt s.stamp stamp
    then s ∷ from_stamp stamp database states else a_state stamp database ∷ []

-- where no row is gained and none lost, the states stay
abbrev pub if_changed : ℕ → Database → Database → List State → List State
if_changed stamp old new states = if gained old new + lost old new == 0 then states
    else from_stamp stamp new states

-- the past with changes at a stamp
abbrev pub changed_to : ℕ → Database → Past → Past
changed_to stamp new past = record {
  versions = past.versions;
  last = Some stamp;
  commands = past.commands + 1;
  sizes = sizes_changed (newest_database past) new past.sizes;
  states = if_changed stamp (newest_database past) new past.states;
}

-- the past with one version more
abbrev pub evolved_to : PlainVersion → Database → Past → Past
evolved_to version new past = record {
  versions = past.versions ++ version ∷ [];
  last = Some version.stamp;
  commands = past.commands + 1;
  sizes = sizes_evolved (newest_tables past) version.op version.tables new (length past.versions)
      past.sizes;
  states = from_stamp version.stamp new past.states;
}

abbrev pub next_version : ℕ → List Operator → List (List Operator) → Past → PlainVersion
next_version stamp op inverse past = record {
  stamp = stamp;
  op = op;
  inverse = inverse;
  tables =
      schema_after_each (newest_tables past) op;
}

-- the database from the stamp on: the newest one changed, or carried over the operator
abbrev pub next_database : PlainBody → Past → Database
next_database (changing changes) past = after_each (newest_tables past) changes
    (newest_database past)
next_database (evolving op inverse) past = carried_each (newest_tables past) op (newest_database past)

abbrev pub next_past : ℕ → PlainBody → Past → Past
next_past stamp (changing changes) past = changed_to stamp (next_database (changing changes) past)
    past
next_past stamp (evolving op inverse) past = evolved_to (next_version stamp op inverse past)
    (next_database (evolving op inverse) past) past

-- the past with one command more
abbrev pub past_with : Past → PlainCommand → Past
past_with past command = next_past command.stamp command.body past
