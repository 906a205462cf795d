-- What is found along the current rows is a prepared change.
use Rattle.std.proofs.Common.{◌≡◌, ℕ, suc, ◌<◌, ◌≤◌, List, [], ◌∷◌, length, refl, sym, ap, ◌∙◌}
use Rattle.std.proofs.Common.{subst, arith, inl, inr}
use Rattle.relations_spec.specs.Sets.{In}
use Rattle.relations_spec.specs.Spans.{Span, forever}
use Rattle.prima_base.specs.declared.value.Value.{Value}
use Rattle.history_store_columns.specs.Log.{Write, Log}
use Rattle.prima_base.specs.Columns.{Column, IsRow, IsRelation}
use Rattle.history_store_spec.specs.Store.{relation_at, AllBefore}
use Rattle.history_store_change_spec.specs.Entries.{all_entries}
use Rattle.history_store_change_spec.specs.Table.{IsStored}
use Rattle.history_store_change_spec.specs.Kept.{store_of, IsKept}
use Rattle.history_store_row_order.specs.Rows.{AllWidth, row_now}
use Rattle.history_store_change_spec.specs.Handing.{IsHandOver}
use Rattle.history_store_row_order.specs.Handing.{only_in, lost_ids, gained_rows, after_ids}
use Rattle.history_store_writes.specs.RowRoom.{rows_room}
use Rattle.history_store_row_order.specs.Indexes.{Whole}
use Rattle.history_store_change_spec.specs.Change.{PreparedChange, IsPrepared, rows_after}
use Rattle.history_store_change_spec.specs.Change.{rows_along}
use Rattle.history_store_change_spec.proofs.FoundIds.{is_hand_over, found_rows, lost_is}
use Rattle.history_store_change_spec.proofs.Rule.{lost_rule, gained_rule}
use Rattle.history_store_change_spec.proofs.Showing.{along_is}
use Rattle.history_store_change_spec.proofs.Installing.{later, relation_from, along_after}
use Rattle.history_store_row_order.specs.Logs.{cells_of}
use Rattle.history_store_row_order.proofs.Cells.{length-cells_of}

-- a row is as wide as there are columns
pub row_wide : (columns : List Column) (row : List Value) → IsRow columns row
    → length row ≡ length columns
row_wide [] [] r = refl
row_wide [] (v ∷ row) r = absurd r
row_wide (c ∷ columns) [] r = absurd r
row_wide (c ∷ columns) (v ∷ row) r = ap suc (row_wide columns row r.1)

-- so a current row of a table has
pub wide_now : (columns : List Column) (keys : List Span) (logs : List Log) (live : List ℕ)
    → IsKept columns keys (cells_of logs) live → (id : ℕ) → In id live
    → length (row_now id (cells_of logs)) ≡ length logs
wide_now columns keys logs live kept id i = row_wide columns (row_now id (cells_of logs))
    (kept.fitting id i) ∙ sym kept.width ∙ length-cells_of logs

rows_wide : (columns : List Column) (rows : List (List Value))
    → ((row : List Value) → In row rows → IsRow columns row) → AllWidth (length columns) rows
rows_wide columns [] f = tt
rows_wide columns (row ∷ rows) f = (
  row_wide columns row (f row (inl refl)),
  rows_wide columns rows (λ r i. f r (inr i)),
)

pub all_wide : (columns : List Column) (logs : List (List Write)) (rows : List (List Value))
    → length logs ≡ length columns → IsRelation columns rows → AllWidth (length logs) rows
all_wide columns logs rows e r = subst (λ n. AllWidth n rows) (sym e)
    (rows_wide columns rows r.fitting)

pub more_room : {indexed others : List ℕ} → (columns : List Column) (keys : List Span)
    (logs : List (List Write)) (spare n stamp : ℕ)
    → AllBefore (store_of columns keys logs spare indexed) stamp
    → AllBefore (store_of columns keys logs n others) stamp
more_room columns keys logs spare n stamp b = record { keys = b.keys; cells = b.cells }

abbrev pub made : ℕ → List Span → List (List Write) → List ℕ → List (List Value) → PreparedChange
made stamp keys logs live rows = record {
  stamp = stamp;
  lost = lost_ids logs live rows;
  gained =
      gained_rows logs live rows;
  after = Whole
      (after_ids logs live (lost_ids logs live rows) (length keys) rows);
}

module _ {indexed : List ℕ} (columns : List Column) (keys : List Span) (logs : List (List Write))
    (live : List ℕ) (spare : ℕ) (k : IsKept columns keys logs live) (stamp : ℕ)
    (b : AllBefore (store_of columns keys logs spare indexed) stamp) (l : stamp < forever)
    (rows : List (List Value)) (r : IsRelation columns rows) where
  s : IsStored keys logs live stamp
  s = later columns keys logs live spare stamp stamp k b (omega arith)

  w : AllWidth (length logs) rows
  w = all_wide columns logs rows k.width r

  hands : IsHandOver keys (length columns) (lost_ids logs live rows) (gained_rows logs live rows)
      (after_ids logs live (lost_ids logs live rows) (length keys) rows)
  hands = subst (λ n. IsHandOver keys n (lost_ids logs live rows) (gained_rows logs live rows)
      (after_ids logs live (lost_ids logs live rows) (length keys) rows)) k.width
      (is_hand_over keys logs live stamp rows s r.ascending w)

  pub made_leads : (others : List ℕ) (n : ℕ) → rows_after (store_of columns keys logs n others)
      (made stamp keys logs live rows) ≡ rows
  unfolding rows_after
  made_leads others n =
      along_after columns keys logs live n k stamp (lost_ids logs live rows)
      (gained_rows logs live rows) (after_ids logs live (lost_ids logs live rows) (length keys)
      rows) (more_room {others = indexed} columns keys logs spare n stamp b) l hands
      ∙ found_rows keys logs live stamp rows s r.ascending w stamp

  pub made_fits : {others : List ℕ} → (n : ℕ) → rows_room (gained_rows logs live rows) ≤ n
      → IsPrepared (store_of columns keys logs n others) (made stamp keys logs live rows)
  made_fits {others} n room = record {
    before = more_room columns keys logs spare n stamp b;
    valid =
        l;
    placed = tt;
    more = omega arith;
    hands = hands;
    relation =
        subst (IsRelation columns) (sym (made_leads others n)) r;
    room = room;
  }

  pub made_gained : gained_rows logs live rows
      ≡ only_in rows (relation_at (store_of columns keys logs spare indexed) stamp)
  made_gained = gained_rule logs live rows ∙ ap (only_in rows)
      (sym (relation_from columns keys logs live spare stamp stamp k b (omega arith) l))

  pub made_lost : rows_along (lost_ids logs live rows) stamp (all_entries keys logs)
      ≡ only_in (relation_at (store_of columns keys logs spare indexed) stamp) rows
  made_lost =
      along_is (lost_ids logs live rows) stamp stamp keys logs k.histories s.columns_fit
      (omega arith) l (λ id i. s.are_open id (lost_is logs rows live id i).0) s.started
      ∙ lost_rule logs rows live
      ∙ ap (λ rs. only_in rs rows) (sym (relation_from columns keys logs live spare stamp stamp k b
      (omega arith) l))
