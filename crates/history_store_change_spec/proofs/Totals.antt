-- What a prepared change writes into each column, weighed.
use Rattle.std.proofs.Common.{◌≡◌, ℕ, ◌+◌, ◌<◌, ◌≤◌, List, [], ◌∷◌, length, get_or, refl, sym, ap}
use Rattle.std.proofs.Common.{◌∙◌, subst, arith}
use Rattle.relations_spec.specs.Spans.{Span}
use Rattle.prima_base.specs.declared.value.Value.{Value}
use Rattle.history_store_columns.specs.Log.{Write, over}
use Rattle.history_store_columns.specs.Chains.{of_id}
use Rattle.prima_base.specs.Columns.{Column}
use Rattle.history_store_spec.specs.Store.{weight}
use Rattle.history_store_columns.specs.Entries.{Fits}
use Rattle.history_store_change_spec.specs.Entries.{all_entries, AreHistories}
use Rattle.history_store_columns.specs.Keys.{no_span}
use Rattle.history_store_row_order.specs.Rows.{rows_of, AllWidth}
use Rattle.history_store_change_spec.specs.Kept.{store_of, IsKept}
use Rattle.history_store_writes.specs.Writing.{keys_handed, logs_handed}
use Rattle.history_store_change_spec.specs.Handing.{written}
use Rattle.history_store_change_spec.specs.Change.{PreparedChange, IsPrepared, rows_along}
use Rattle.history_store_columns.proofs.Histories.{last_value, newest_is, none_known}
use Rattle.history_store_change_spec.proofs.Counts.{One, NoneYet, rows_weight}
use Rattle.history_store_change_spec.proofs.Counting.{column_weight}
use Rattle.history_store_change_spec.proofs.Showing.{along_is}
use Rattle.history_store_change_spec.proofs.Installing.{later, prepared_kept}

one_over : (x y : List Value) → length x ≡ 1 → length (over x y) ≡ 1
one_over [] y e = absurd (omega (arith, e))
one_over (v ∷ x) y e = e

one_value : (c : Write) (cells : List Write) → length (last_value (c ∷ cells)) ≡ 1
one_value c [] = refl
one_value c (d ∷ cells) = one_over (last_value (d ∷ cells)) (c.value ∷ []) (one_value d cells)

one_fit : (key : Span) (cells : List Write) → Fits key cells → length (last_value cells) ≡ 1
one_fit key [] f = absurd f
one_fit key (c ∷ cells) f = one_value c cells

pub one_now : (keys : List Span) (columns : List (List Write)) (id : ℕ) → AreHistories keys columns
    → id < length keys → One id columns
one_now keys [] id h b = tt
one_now keys (c ∷ columns) id h b = (
  ap length (newest_is id c)
      ∙ one_fit (get_or keys id no_span) (of_id id c) (h.0.fits id b),
  one_now keys columns id h.1 b,
)

none_now : (keys : List Span) (columns : List (List Write)) (id : ℕ) → AreHistories keys columns
    → length keys ≤ id → NoneYet id columns
none_now keys [] id h l = tt
none_now keys (c ∷ columns) id h l = (
  newest_is id c
      ∙ ap last_value (none_known (length keys) id c h.0.known l),
  none_now keys columns id h.1 l,
)

pub prepared_written : {indexed : List ℕ} → (columns : List Column) (keys : List Span)
    (logs : List (List Write)) (live : List ℕ) (spare : ℕ) (w : IsKept columns keys logs live)
    (p : PreparedChange) (f : IsPrepared (store_of columns keys logs spare indexed) p) (g : Value
    → ℕ)
    (k : ℕ) → k < length columns
    → weight g (get_or (all_entries (keys_handed keys p.lost p.gained p.stamp)
    (logs_handed keys logs p.lost p.gained p.stamp)) k [])
    ≡ weight g (get_or (all_entries keys logs) k []) + written g k
    (rows_along p.lost p.stamp (all_entries keys logs)) p.gained
prepared_written columns keys logs live spare w p f g k h =
    let then' = prepared_kept columns keys logs live spare w p f in
    let s = later columns keys logs live spare p.stamp p.stamp w f.before (omega arith) in
    let wide : AllWidth (length logs) p.gained =
    subst (λ n. AllWidth n p.gained) (sym w.width) f.hands.wide in
    let more =
    rows_weight g k p.lost (length keys) p.gained p.stamp logs (subst (λ n. k < n) (sym w.width) h)
    wide f.hands.distinct
    (λ q i. one_now keys logs q w.histories (f.hands.lost_open q i).0)
    (λ q i. (f.hands.lost_open q i).0) (λ q l. none_now keys logs q w.histories l) in
    column_weight g k (keys_handed keys p.lost p.gained p.stamp)
    (logs_handed keys logs p.lost p.gained p.stamp) then'.histories
    ∙ more
    ∙ ap (λ n. n + written g k (rows_of p.lost logs) p.gained)
    (sym (column_weight g k keys logs w.histories))
    ∙ ap (λ (rs : List (List Value)). weight g (get_or (all_entries keys logs) k []) + written g k
    rs p.gained) (sym (along_is p.lost p.stamp p.stamp keys logs w.histories s.columns_fit
    (omega arith) f.valid f.hands.lost_open s.started))
