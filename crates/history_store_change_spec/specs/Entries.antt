-- The entries of several columns.
use Rattle.std.specs.Prelude.{List, [], ◌∷◌}
use Rattle.relations_spec.specs.Spans.{Span}
use Rattle.history_store_columns.specs.Log.{Write}
use Rattle.history_store_columns.specs.Entries.{entries_from, IsHistory}
use Rattle.history_store_spec.specs.Store.{Cell}

-- those of each column
abbrev pub all_entries : List Span → List (List Write) → List (List Cell)
all_entries keys [] = []
all_entries keys (c ∷ columns) = entries_from 0 keys c ∷ all_entries keys columns

abbrev pub AreHistories : List Span → List (List Write) → Type 0
AreHistories keys [] = Unit {0}
AreHistories keys (c ∷ columns) = IsHistory keys c × AreHistories keys columns
