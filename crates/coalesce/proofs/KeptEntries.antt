-- Rows that are kept show the entries that are.
use Rattle.std.proofs.Common.{◌≡◌, Bool, true, false, cond, List, [], ◌∷◌, refl, ap}
use Rattle.std.specs.Prelude.{Some, None}
use Rattle.std.specs.List.{filter, filter_map, cons_option}
use Rattle.relations_spec.specs.Timed.{Entry}
use Rattle.prima_base.specs.declared.keep.Keep.{Keep}
use Rattle.prima_base.specs.declared.timed_row.TimedRow.{TimedRow}
use Rattle.prima_base.specs.declared.value.Value.{Value}
use Rattle.prima_base.specs.Keeping.{keeps_all, kept}
use Rattle.prima_base.specs.Timed.{entry_of, entries_of}
use Rattle.coalesce.specs.Cutting.{kept_row}

pub kept_rows : (conditions : List Keep) (rows : List TimedRow)
    → filter_map (kept_row conditions) rows
    ≡ filter (λ (r : TimedRow). keeps_all conditions r.period) rows
kept_rows conditions [] = refl
kept_rows conditions (r ∷ rows) = step (keeps_all conditions r.period) (kept_rows conditions rows)
  where
    step : (b : Bool) → filter_map (kept_row conditions) rows
        ≡ filter (λ (r : TimedRow). keeps_all conditions r.period) rows
        → cons_option (cond b (Some r) None) (filter_map (kept_row conditions) rows)
        ≡ cond b (r ∷ filter (λ (r : TimedRow). keeps_all conditions r.period) rows)
        (filter (λ (r : TimedRow). keeps_all conditions r.period) rows)
    step true e = ap (λ (l : List TimedRow). r ∷ l) e
    step false e = e

pub kept_entries : (conditions : List Keep) (rows : List TimedRow)
    → entries_of (filter (λ (r : TimedRow). keeps_all conditions r.period) rows)
    ≡ kept conditions (entries_of rows)
kept_entries conditions [] = refl
kept_entries conditions (r ∷ rows) = step (keeps_all conditions r.period)
    (kept_entries conditions rows)
  where
    step : (b : Bool) → entries_of (filter (λ (r : TimedRow). keeps_all conditions r.period) rows)
        ≡ kept conditions (entries_of rows) →
        entries_of (cond b (r ∷ filter (λ (r : TimedRow). keeps_all conditions r.period) rows)
        (filter (λ (r : TimedRow). keeps_all conditions r.period) rows))
        ≡ cond b (entry_of r ∷ kept conditions (entries_of rows))
        (kept conditions (entries_of rows))
    step true e = ap (λ (l : List (Entry (List Value))). entry_of r ∷ l) e
    step false e = e
