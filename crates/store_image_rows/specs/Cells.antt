-- What is seen of the entries of columns that were read.
use Rattle.std.specs.Prelude.{List, map}
use Rattle.std.specs.declared.vec.Vec.{Vec}
use Rattle.std.specs.declared.alloc.Global.{Global}
use Rattle.prima_base.specs.Order.{shown}
use Rattle.history_store_spec.specs.Store.{Cell}
use Rattle.history_store.specs.declared.restoration.Cell.{Cell as ReadCell}

abbrev pub cell_seen : ReadCell → Cell
cell_seen c = record { id = c.id; value = shown c.value; period = c.period }

-- of each column
abbrev pub cells_seen : List (Vec ReadCell Global) → List (List Cell)
cells_seen columns = map (λ column. map cell_seen column.items) columns
