-- Histories: commands each of which is accepted after those before it, and what stands at each
-- moment of one.
use Rattle.std.specs.Prelude.{◌≡◌, ℕ, ◌+◌, List, [], ◌∷◌, None, ⊤, nat_le}
use Rattle.std.specs.List.{filter}
use Rattle.schema_catalog.specs.Tables.{Tables}
use Rattle.schema_catalog.specs.Databases.{Database, IsDatabase}
use Rattle.smo_ops_types.specs.Commands.{PlainBody, changing, evolving, PlainCommand}
use Rattle.smo_ops_spec.specs.Effects.{after_each}
use Rattle.smo_ops_spec.specs.Evolutions.{schema_after_each, carried_each}
use Rattle.smo_ops_spec.specs.Past.{Past, no_tables, no_database, beginning, tables_of, version_at}
use Rattle.smo_ops_spec.specs.Past.{database_at, past_with}
use Rattle.smo_ops_spec.specs.Accepts.{command_fault}

-- the past with these commands, one after the other
abbrev pub past_after : Past → List PlainCommand → Past
past_after past [] = past
past_after past (c ∷ commands) = past_after (past_with past c) commands

-- the past of these commands
abbrev pub past_of : List PlainCommand → Past
past_of commands = past_after beginning commands

-- each is accepted after those before it
abbrev pub AllAccepted : Past → List PlainCommand → Type 0
AllAccepted past [] = ⊤
AllAccepted past (c ∷ commands) = (command_fault past c ≡ None)
    × AllAccepted (past_with past c) commands

abbrev pub IsHistory : List PlainCommand → Type 0
IsHistory commands = AllAccepted beginning commands

-- the number of a version, its tables, and their database
pub record VersionState : Type 0 where
  pub version : ℕ
  pub tables : Tables
  pub database : Database

abbrev pub version_state : ℕ → Tables → Database → VersionState
version_state version tables database = record {
  version = version;
  tables = tables;
  database =
      database;
}

-- version 0 and the empty database
abbrev pub nothing_yet : VersionState
nothing_yet = version_state 0 no_tables no_database

-- changes apply to the database, and an operator carries it into the next version
abbrev pub stands_after : VersionState → PlainBody → VersionState
stands_after s (changing changes) = version_state s.version s.tables
    (after_each s.tables changes s.database)
stands_after s (evolving op inverse) = version_state (s.version + 1) (schema_after_each s.tables op)
    (carried_each s.tables op s.database)

abbrev pub stands_after_all : VersionState → List PlainCommand → VersionState
stands_after_all s [] = s
stands_after_all s (c ∷ commands) = stands_after_all (stands_after s c.body) commands

abbrev pub up_to : ℕ → List PlainCommand → List PlainCommand
up_to moment commands = filter (λ (c : PlainCommand). nat_le c.stamp moment) commands

-- the state of a history at a moment: what stands after the commands of stamp at most it
abbrev pub state_at : List PlainCommand → ℕ → VersionState
state_at commands moment = stands_after_all nothing_yet (up_to moment commands)

-- a past has this at a moment: the version in force, its tables, and a database of them
pub record HasState (past : Past) (moment : ℕ) (s : VersionState) : Type 0 where
  pub version : version_at past moment ≡ s.version
  pub tables : tables_of past s.version ≡ s.tables
  pub database : database_at past moment ≡ s.database
  pub valid : IsDatabase s.tables s.database
