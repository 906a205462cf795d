-- Writes whose values stand in a list of their own.
use Rattle.std.specs.Prelude.{ℕ, List, [], ◌∷◌}
use Rattle.prima_base.specs.declared.value.Value.{Value}
use Rattle.history_store_columns.specs.declared.column.StoredWrite.{StoredWrite}
use Rattle.history_store_columns.specs.Log.{Write}

-- the i-th write with the i-th value
abbrev pub writes_in : List Value → List StoredWrite → List Write
writes_in values [] = []
writes_in [] (w ∷ writes) = []
writes_in (v ∷ values) (w ∷ writes) = record { id = w.id; value = v; start = w.start }
    ∷ writes_in values writes

-- where the next write of the same id stands, for each
abbrev pub nexts_of : List StoredWrite → List ℕ
nexts_of [] = []
nexts_of (w ∷ writes) = w.next ∷ nexts_of writes
