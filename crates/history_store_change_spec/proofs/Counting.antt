-- The entries of each column weigh what its writes weigh, and are as many.
use Rattle.std.proofs.Common.{◌≡◌, ℕ, suc, zero, ◌<◌, List, [], ◌∷◌, length, get_or, refl, ◌∙◌}
use Rattle.std.proofs.Common.{arith}
use Rattle.relations_spec.specs.Spans.{Span}
use Rattle.prima_base.specs.declared.value.Value.{Value}
use Rattle.history_store_columns.specs.Log.{Write}
use Rattle.history_store_spec.specs.Store.{weight}
use Rattle.history_store_columns.specs.Entries.{entries_from, IsHistory}
use Rattle.history_store_change_spec.specs.Entries.{all_entries, AreHistories}
use Rattle.history_store_columns.proofs.Weights.{weight_of, entry_weight, one_each, one_write}

pub column_weight : (f : Value → ℕ) (k : ℕ) (keys : List Span) (columns : List (List Write))
    → AreHistories keys columns → weight f (get_or (all_entries keys columns) k [])
    ≡ weight_of f (get_or columns k [])
column_weight f k keys [] h = refl
column_weight f zero keys (c ∷ columns) h = entry_weight f keys c h.0.known
column_weight f (suc k) keys (c ∷ columns) h = column_weight f k keys columns h.1

pub column_count : (k : ℕ) (keys : List Span) (columns : List (List Write))
    → AreHistories keys columns → length (get_or (all_entries keys columns) k [])
    ≡ length (get_or columns k [])
column_count k keys columns h = one_each (get_or (all_entries keys columns) k [])
    ∙ column_weight (λ v. 1) k keys columns h ∙ one_write (get_or columns k [])

pub column_entries : (k : ℕ) (keys : List Span) (columns : List (List Write)) → k < length columns
    → get_or (all_entries keys columns) k [] ≡ entries_from 0 keys (get_or columns k [])
column_entries k keys [] h = absurd (omega arith)
column_entries zero keys (c ∷ columns) h = refl
column_entries (suc k) keys (c ∷ columns) h = column_entries k keys columns (omega (arith, h))

pub column_history : (k : ℕ) (keys : List Span) (columns : List (List Write)) → k < length columns
    → AreHistories keys columns → IsHistory keys (get_or columns k [])
column_history k keys [] b h = absurd (omega arith)
column_history zero keys (c ∷ columns) b h = h.0
column_history (suc k) keys (c ∷ columns) b h = column_history k keys columns (omega (arith, b)) h.1
