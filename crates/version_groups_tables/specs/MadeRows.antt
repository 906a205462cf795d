-- The tables that an operator makes, with their rows.
use Rattle.std.specs.Option.{option_copied}
use Rattle.smo_ops_operators.specs.declared.name.Made.{Made}
use Rattle.smo_maps.specs.declared.map.Carried.{Carried}
use Rattle.version_groups_tables.specs.NewestTables.{MadeRows}

abbrev pub made_rows : Made → Carried → MadeRows
made_rows names rows = record {
  first = option_copied names.first;
  second =
      option_copied names.second;
  rows = rows.first.items;
  others = rows.second.items;
}
