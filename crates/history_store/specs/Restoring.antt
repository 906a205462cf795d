-- Tables made again from what is known of them.
use Rattle.std.specs.Prelude.{List, map}
use Rattle.std.specs.declared.vec.Vec.{Vec}
use Rattle.std.specs.declared.alloc.Global.{Global}
use Rattle.prima_base.specs.Order.{shown}
use Rattle.history_store.specs.declared.restoration.Cell.{Cell as GivenCell}
use Rattle.history_store.specs.Store.{Cell}
pub use Rattle.history_store_change_spec.specs.Restoring.{store_with, IsInOrder}

-- the entry that a cell is
abbrev pub cell_of : GivenCell → Cell
cell_of c = record { id = c.id; value = shown c.value; period = c.period }

-- the entries of each column
abbrev pub entries_of : List (Vec GivenCell Global) → List (List Cell)
entries_of lists = map (λ list. map cell_of list.items) lists
