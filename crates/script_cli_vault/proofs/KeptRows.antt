-- Rows of an answer that are copied to be kept, one after the other.
use Rattle.std.proofs.Common.{◌≡◌, ◌<◌, ◌+◌, ℕ, List, [], ◌∷◌, ◌++◌, length, map, take, get_or}
use Rattle.std.proofs.Common.{sym, ap, ◌∙◌}
use Rattle.std.proofs.lemmas.List.{map-append}
use Rattle.relations_spec.specs.Timed.{Entry}
use Rattle.prima_base.specs.Order.{shown}
use Rattle.prima_base.specs.Timed.{entry_of, entries_of}
use Rattle.prima_base.specs.declared.timed_row.TimedRow.{TimedRow}
use Rattle.prima_base.specs.declared.value.Val.{Val}
use Rattle.prima_base.specs.declared.value.Value.{Value}
use Rattle.prima_base_rows.proofs.Moves.{no_row}
use Rattle.prima_base_rows.proofs.ReadRows.{read_entry, rows_more}
use Rattle.sessions.specs.declared.vault.KeptRow.{KeptRow}
use Rattle.sessions.specs.Kept.{kept_entry, kept_entries}

-- one row more
pub kept_more : (rows : List TimedRow) (kept new : List KeptRow) (i : ℕ) (row : KeptRow)
    (values : List Val) → i < length rows → kept_entries kept ≡ entries_of (take i rows)
    → new ≡ kept ++ row ∷ [] → row.values ≡ map shown values
    → values ≡ (get_or rows i no_row).values.items → row.period ≡ (get_or rows i no_row).period
    → kept_entries new ≡ entries_of (take (i + 1) rows)
kept_more rows kept new i row values below before is its stood held =
    ap kept_entries is ∙ map-append kept_entry kept (row ∷ [])
    ∙ (λ k. before k ++ same k ∷ [])
    ∙ sym (map-append entry_of (take i rows) (get_or rows i no_row ∷ []))
    ∙ ap entries_of (sym (rows_more rows i below))
  where
    same : kept_entry row ≡ entry_of (get_or rows i no_row)
    same = ap (λ (items : List Value).
        let e : Entry (List Value) = record { item = items; period = row.period } in e) its
        ∙ read_entry rows i values row.period stood held
