-- Commands and versions as plain data, and what those of the code stand for.
use Rattle.std.specs.Prelude.{ℕ, List, map}
use Rattle.schema_catalog.specs.Tables.{Tables}
use Rattle.smo_ops_types.specs.Operators.{Operator, evolution_of, evolutions_of}
use Rattle.smo_ops_types.specs.Changes.{PlainChange, changes_of}
use Rattle.smo_ops_types.specs.declared.command.Body.{Body}
use Rattle.smo_ops_types.specs.declared.command.Body.TheVariants.{Changes, Evolve}
use Rattle.smo_ops_types.specs.declared.version.Version.{Version}
use Rattle.smo_ops_types.specs.declared.version.Versions.{Versions}

pub data PlainBody : Type 0 where
  changing : List PlainChange → PlainBody
  -- the members of the operator, and its inverse, which is empty where none is named
  evolving : List Operator → List (List Operator) → PlainBody

pub record PlainCommand : Type 0 where
  pub stamp : ℕ
  pub body : PlainBody

pub record PlainVersion : Type 0 where
  pub stamp : ℕ
  pub op : List Operator
  pub inverse : List (List Operator)
  pub tables : Tables

abbrev pub body_of : Body → PlainBody
body_of (Changes changes) = changing (changes_of changes.items)
body_of (Evolve op inverse) = evolving (evolution_of op) (evolutions_of inverse.items)

abbrev pub command_of : ℕ × Body → PlainCommand
command_of c = record { stamp = c.0; body = body_of c.1 }

abbrev pub version_of : Version → PlainVersion
version_of v = record {
  stamp = v.stamp;
  op = evolution_of v.op;
  inverse =
      evolutions_of v.inverse.items;
  tables = v.schema;
}

abbrev pub versions_of : Versions → List PlainVersion
versions_of v = map version_of v.list.items
