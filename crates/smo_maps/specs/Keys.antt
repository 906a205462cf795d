-- The keys of rows, and the rows of one key.
use Rattle.std.specs.Prelude.{List, []}
use Rattle.std.specs.List.{filter}
use Rattle.std.specs.Ordering.{is_eq}
use Rattle.prima_base.specs.Order.{row_cmp}
use Rattle.prima_base.specs.Columns.{Column, names_of}
use Rattle.smo_ops_spec.specs.OneRow.{Row, Relation}
use Rattle.smo_ops_spec.specs.Making.{named}
use Rattle.smo_maps.specs.declared.source.Source.{Source}
use Rattle.smo_maps.specs.Picking.{picked_row}

-- the columns that another table has too
abbrev pub common : List Column → List Column → List Column
common cs ds = named (names_of ds) cs

-- the rows with this key
abbrev pub of_key : List Source → Row → Relation → Relation
of_key keys key rows = filter (λ row. is_eq (row_cmp (picked_row keys row []) key)) rows
