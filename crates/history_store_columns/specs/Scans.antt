-- What a scan of a column hands out.
use Rattle.prima_base.specs.Order.{shown}
use Rattle.history_store_columns.specs.declared.scan.CellEntry.{CellEntry}
use Rattle.history_store_spec.specs.Store.{Cell}

-- the cell that an entry shows
abbrev pub seen_cell : CellEntry → Cell
seen_cell e = record { id = e.id; value = shown e.value; period = e.period }
