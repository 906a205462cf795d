-- One value from a stamp on: in a column's writes, and in its entries.
use Rattle.std.specs.Prelude.{ℕ, ◌&&◌, ◌==◌, Bool, false, List, [], ◌∷◌, ◌++◌, if◌then◌else◌}
use Rattle.relations_spec.specs.Spans.{span, forever}
use Rattle.prima_base.specs.Order.{value_eq}
use Rattle.prima_base.specs.declared.value.Value.{Value}
use Rattle.history_store_columns.specs.Log.{Write, newest}
use Rattle.history_store_spec.specs.Store.{Cell}

abbrev pub is_value : Value → List Value → Bool
is_value v [] = false
is_value v (w ∷ []) = value_eq w v
is_value v (w ∷ (x ∷ ws)) = false

-- the column with this value of the id from the stamp on: a cell is added only where the value
-- differs
abbrev pub put : ℕ → Value → ℕ → List Write → List Write
put id v stamp cells = if is_value v (newest id cells) then cells
    else cells ++ record { id = id; value = v; start = stamp } ∷ []

-- the entry of this id that still goes on
abbrev pub goes_on : ℕ → Cell → Bool
goes_on id c = c.id == id && c.period.end == forever

abbrev pub ended : ℕ → Cell → Cell
ended stamp c = record { id = c.id; value = c.value; period = span c.period.start stamp }

abbrev pub begun : ℕ → Value → ℕ → Cell
begun id v stamp = record { id = id; value = v; period = span stamp forever }

-- a column's entries where the id has this value from the stamp on: an entry is added only where
-- the value differs, and then the one that went on ends
abbrev pub write : ℕ → Value → ℕ → List Cell → List Cell
write id v stamp [] = begun id v stamp ∷ []
write id v stamp (c ∷ cells) = if goes_on id c
    then (if value_eq c.value v then c ∷ cells else ended stamp c ∷ (begun id v stamp ∷ cells))
    else c ∷ write id v stamp cells

-- a column's entries where the id ends at the stamp
abbrev pub close : ℕ → ℕ → List Cell → List Cell
close id stamp [] = []
close id stamp (c ∷ cells) = (if goes_on id c then ended stamp c else c) ∷ close id stamp cells
