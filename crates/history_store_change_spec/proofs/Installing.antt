-- A prepared change that is installed.
use Rattle.std.proofs.Common.{◌≡◌, ℕ, ◌<◌, ◌≤◌, List, [], ◌∷◌, ◌++◌, length, refl, sym, ap, ◌∙◌}
use Rattle.std.proofs.Common.{subst, arith, length-append}
use Rattle.std.proofs.Math.ListN.{get_or-append}
use Rattle.relations_spec.specs.Sets.{set_of}
use Rattle.relations_spec.specs.Spans.{Span, forever}
use Rattle.prima_base.specs.Order.{row_cmp}
use Rattle.prima_base.specs.declared.value.Value.{Value}
use Rattle.history_store_columns.specs.Log.{Write}
use Rattle.prima_base.specs.Columns.{Column, IsRelation}
use Rattle.history_store_spec.specs.Store.{relation_at, AllBefore}
use Rattle.history_store_change_spec.specs.Entries.{all_entries}
use Rattle.history_store_row_order.specs.Rows.{row_now, rows_of}
use Rattle.history_store_change_spec.specs.Table.{IsStored}
use Rattle.history_store_columns.specs.Keys.{no_span, IsOpen}
use Rattle.history_store_change_spec.specs.Kept.{store_of, IsKept}
use Rattle.history_store_writes.specs.Writing.{put_row, put_rows, unpaired, new_keys, keys_handed}
use Rattle.history_store_writes.specs.Writing.{logs_handed}
use Rattle.history_store_row_order.specs.Handing.{handed}
use Rattle.history_store_change_spec.specs.Handing.{IsHandOver}
use Rattle.history_store_value_order.specs.ByValue.{Distinct}
use Rattle.history_store_change_spec.specs.Change.{PreparedChange, IsPrepared, ids_at, ids_after}
use Rattle.history_store_change_spec.specs.Change.{rows_after}
use Rattle.history_store_change_spec.specs.Change.{rows_along, cells_after, write_rows, close_all}
use Rattle.history_store_row_order.specs.Indexes.{IsPlaced, later_ids}
use Rattle.history_store_change_spec.proofs.Puts.{row_width}
use Rattle.history_store_change_spec.proofs.Applied.{stored_after, before_after, open_after}
use Rattle.history_store_change_spec.proofs.Applied.{started_after}
use Rattle.history_store_change_spec.proofs.Applied.{unpaired_in, not_both, rows_all}
use Rattle.history_store_change_spec.proofs.Now.{at_now}
use Rattle.history_store_row_order.proofs.RowsOf.{rows_of_in}
use Rattle.history_store_change_spec.proofs.Histories.{below_rows}
use Rattle.history_store_change_spec.proofs.Entering.{Handed, hand_over, end_over}
use Rattle.history_store_change_spec.proofs.Indexing.{ids_are}
use Rattle.history_store_change_spec.proofs.Moments.{still_last, still_fit, still_apart}
use Rattle.history_store_change_spec.proofs.Showing.{AllBelow, logs_below, below_each, key_before}
use Rattle.history_store_change_spec.proofs.Showing.{stored_at}
use Rattle.history_store_change_spec.proofs.Showing.{stored_more, along_is, relation_is, all_before}

pub rows_width : (ids : List ℕ) (rows : List (List Value)) (stamp : ℕ) (columns : List (List Write))
    → length (put_rows ids rows stamp columns) ≡ length columns
rows_width [] rows stamp columns = refl
rows_width (id ∷ ids) [] stamp columns = refl
rows_width (id ∷ ids) (row ∷ rows) stamp columns =
    rows_width ids rows stamp (put_row id row stamp columns) ∙ row_width id row stamp columns

distinct_rest : (lost : List ℕ) (gained : List (List Value)) → Distinct lost
    → Distinct (unpaired lost gained)
distinct_rest lost [] d = d
distinct_rest [] (g ∷ gained) d = tt
distinct_rest (id ∷ lost) (g ∷ gained) d = distinct_rest lost gained d.1

open_more : (keys more : List Span) (q : ℕ) → IsOpen keys q → IsOpen (keys ++ more) q
open_more keys more q o = (
  subst (λ n. q < n) (sym (length-append keys more)) (let h = o.0 in omega (arith, h)),
  ap (λ (p : Span). p.end) (get_or-append keys more no_span q o.0) ∙ o.1,
)

-- all stamps are below a later moment
pub later : {indexed : List ℕ} → (columns : List Column) (keys : List Span)
    (logs : List (List Write)) (live : List ℕ) (spare stamp m : ℕ) → IsKept columns keys logs live
    → AllBefore (store_of columns keys logs spare indexed) stamp → stamp ≤ m
    → IsStored keys logs live m
later columns keys logs live spare stamp m k b l =
    stored_at columns keys logs live spare stamp m k b (omega (arith, l))

pub relation_from : {indexed : List ℕ} → (columns : List Column) (keys : List Span)
    (logs : List (List Write)) (live : List ℕ) (spare stamp m : ℕ) → IsKept columns keys logs live
    → AllBefore (store_of columns keys logs spare indexed) stamp → stamp ≤ m → m < forever
    → relation_at (store_of columns keys logs spare indexed) m ≡ rows_of live logs
relation_from columns keys logs live spare stamp m k b l f =
    relation_is _ columns keys logs spare m k.histories
    ∙ at_now keys logs live m m (later columns keys logs live spare stamp m k b l) (omega arith) f

-- the ids that the table keeps are those of its rows from its last stamp on
pub live_is : {indexed : List ℕ} → (columns : List Column) (keys : List Span)
    (logs : List (List Write)) (live : List ℕ) (spare stamp : ℕ) → IsKept columns keys logs live
    → AllBefore (store_of columns keys logs spare indexed) stamp → stamp < forever
    → ids_at (store_of columns keys logs spare indexed) stamp ≡ live
live_is columns keys logs live spare stamp k b l =
    ids_are keys logs live stamp k.histories (later columns keys logs live spare stamp stamp k b
    (omega arith)) l columns spare _

module _ {indexed : List ℕ} (columns : List Column) (keys : List Span) (logs : List (List Write))
    (live : List ℕ) (spare : ℕ) (k : IsKept columns keys logs live)
    (stamp : ℕ) (lost : List ℕ) (gained : List (List Value)) (after : List ℕ)
    (b : AllBefore (store_of columns keys logs spare indexed) stamp) (l : stamp < forever)
    (w : IsHandOver keys (length columns) lost gained after) where
  hands : IsHandOver keys (length logs) lost gained after
  hands = subst (λ n. IsHandOver keys n lost gained after) (sym k.width) w

  below : AllBelow stamp logs
  below = logs_below stamp keys logs k.histories b.cells

  is_stored : IsStored keys logs live stamp
  is_stored = later columns keys logs live spare stamp stamp k b (omega arith)

  first : Handed (keys ++ new_keys stamp (unpaired gained lost))
      (logs_handed keys logs lost gained stamp)
      (write_rows (handed lost (length keys) gained) gained stamp (all_entries keys logs))
  first = hand_over lost gained keys logs stamp k.histories hands.wide hands.distinct
      hands.lost_open (λ q i. below_each q stamp logs below) l

  second : Handed (keys_handed keys lost gained stamp) (logs_handed keys logs lost gained stamp)
      (close_all (unpaired lost gained) stamp
      (all_entries (keys ++ new_keys stamp (unpaired gained lost))
      (logs_handed keys logs lost gained stamp)))
  second = end_over (unpaired lost gained) (keys ++ new_keys stamp (unpaired gained lost))
      (logs_handed keys logs lost gained stamp) stamp first.histories
      (distinct_rest lost gained hands.distinct)
      (λ q i. open_more keys (new_keys stamp (unpaired gained lost)) q
      (hands.lost_open q (unpaired_in q lost gained i)))
      (λ q i. below_rows q (handed lost (length keys) gained) gained stamp stamp logs
      (not_both q lost (length keys) gained hands.distinct (λ p j. (hands.lost_open p j).0) i)
      (below_each q stamp logs below)) l

  pub entries_are : all_entries (keys_handed keys lost gained stamp)
      (logs_handed keys logs lost gained stamp)
      ≡ close_all (unpaired lost gained) stamp
      (write_rows (handed lost (length keys) gained) gained stamp (all_entries keys logs))
  entries_are = second.entries ∙ ap (close_all (unpaired lost gained) stamp) first.entries

  pub along_after : rows_along after stamp (close_all (unpaired lost gained) stamp
      (write_rows (handed lost (length keys) gained) gained stamp (all_entries keys logs)))
      ≡ rows_of after (logs_handed keys logs lost gained stamp)
  along_after =
      ap (rows_along after stamp) (sym entries_are)
      ∙ along_is after stamp stamp (keys_handed keys lost gained stamp)
      (logs_handed keys logs lost gained stamp) second.histories
      (rows_all (handed lost (length keys) gained) gained stamp logs is_stored.columns_fit)
      (omega arith) l
      (open_after keys logs live stamp stamp lost gained after (omega arith) l is_stored hands)
      (started_after keys logs live stamp stamp lost gained after (omega arith) l is_stored hands)

  module _ (r : IsRelation columns (rows_of after (logs_handed keys logs lost gained stamp))) where
    pub stored_then : IsStored (keys_handed keys lost gained stamp)
        (logs_handed keys logs lost gained stamp) after stamp
    stored_then = stored_after keys logs live stamp stamp lost gained after (omega arith) l
        is_stored hands r.ascending

    pub kept_then : IsKept columns (keys_handed keys lost gained stamp)
        (logs_handed keys logs lost gained stamp) after
    kept_then = record {
      width = rows_width (handed lost (length keys) gained) gained stamp logs ∙ k.width;
      histories = second.histories;
      stored = stored_more (keys_handed keys lost gained stamp)
          (logs_handed keys logs lost gained stamp) after stamp forever (omega (arith, l))
          stored_then;
      fitting = λ id i. r.fitting (row_now id (logs_handed keys logs lost gained stamp))
          (rows_of_in id after (logs_handed keys logs lost gained stamp) i);
      names = k.names;
      lasting = still_last keys logs stamp lost gained l hands.lost_open k.lasting
          (λ id h. (key_before stamp keys b.keys id h).0);
      fitted = still_fit keys logs stamp lost gained l hands.lost_open after stored_then columns r
          k.fitted;
      apart = still_apart keys logs stamp lost gained l hands.lost_open after stored_then columns r
          k.apart;
    }

    pub before_then : (others : List ℕ) (n m : ℕ) → m < stamp
        → relation_at (store_of columns (keys_handed keys lost gained stamp)
        (logs_handed keys logs lost gained stamp) n others) m
        ≡ relation_at (store_of columns keys logs spare indexed) m
    before_then others n m h =
        relation_is _ columns (keys_handed keys lost gained stamp)
        (logs_handed keys logs lost gained stamp) n m second.histories
        ∙ ap (set_of row_cmp) (before_after m stamp keys logs lost gained h l hands.lost_open)
        ∙ sym (relation_is _ columns keys logs spare m k.histories)

    pub from_then : (others : List ℕ) (n m : ℕ) → stamp ≤ m → m < forever
        → relation_at (store_of columns (keys_handed keys lost gained stamp)
        (logs_handed keys logs lost gained stamp) n others) m
        ≡ rows_of after (logs_handed keys logs lost gained stamp)
    from_then others n m h f =
        relation_is _ columns (keys_handed keys lost gained stamp)
        (logs_handed keys logs lost gained stamp) n m second.histories
        ∙ at_now (keys_handed keys lost gained stamp) (logs_handed keys logs lost gained stamp)
        after stamp m stored_then h f

    pub later_then : {others : List ℕ} → (n m : ℕ) → stamp < m
        → AllBefore (store_of columns (keys_handed keys lost gained stamp)
        (logs_handed keys logs lost gained stamp) n others) m
    later_then n m h = all_before columns (keys_handed keys lost gained stamp)
        (logs_handed keys logs lost gained stamp) after n stamp m stored_then h

-- the same from a prepared change
module _ {indexed : List ℕ} (columns : List Column) (keys : List Span) (logs : List (List Write))
    (live : List ℕ) (spare : ℕ) (k : IsKept columns keys logs live) (p : PreparedChange)
    (f : IsPrepared (store_of columns keys logs spare indexed) p) where
  pub ids_then : ids_after (store_of columns keys logs spare indexed) p ≡ later_ids p.after live
  ids_then = ap (λ ids. later_ids p.after ids)
      (live_is columns keys logs live spare p.stamp k f.before f.valid)

  pub placed_then : IsPlaced p.after live
  placed_then = subst (IsPlaced p.after) (live_is columns keys logs live spare p.stamp k f.before
      f.valid) f.placed

  pub rows_are : rows_after (store_of columns keys logs spare indexed) p
      ≡ rows_of (ids_after (store_of columns keys logs spare indexed) p)
      (logs_handed keys logs p.lost p.gained p.stamp)
  unfolding rows_after
  rows_are = along_after columns keys logs live spare k p.stamp p.lost p.gained
      (ids_after (store_of columns keys logs spare indexed) p) f.before f.valid f.hands

  pub relation_then : IsRelation columns (rows_of
      (ids_after (store_of columns keys logs spare indexed) p)
      (logs_handed keys logs p.lost p.gained p.stamp))
  relation_then = subst (IsRelation columns) rows_are f.relation

  pub prepared_kept : IsKept columns (keys_handed keys p.lost p.gained p.stamp)
      (logs_handed keys logs p.lost p.gained p.stamp) (later_ids p.after live)
  prepared_kept = subst (IsKept columns (keys_handed keys p.lost p.gained p.stamp)
      (logs_handed keys logs p.lost p.gained p.stamp)) ids_then
      (kept_then columns keys logs live spare k p.stamp p.lost p.gained
      (ids_after (store_of columns keys logs spare indexed) p) f.before f.valid f.hands
      relation_then)

  pub prepared_cells : all_entries (keys_handed keys p.lost p.gained p.stamp)
      (logs_handed keys logs p.lost p.gained p.stamp)
      ≡ cells_after (store_of columns keys logs spare indexed) p
  prepared_cells = entries_are columns keys logs live spare k p.stamp p.lost p.gained
      (ids_after (store_of columns keys logs spare indexed) p) f.before f.valid f.hands

  pub prepared_before : (others : List ℕ) (n m : ℕ) → m < p.stamp
      → relation_at (store_of columns (keys_handed keys p.lost p.gained p.stamp)
      (logs_handed keys logs p.lost p.gained p.stamp) n others) m
      ≡ relation_at (store_of columns keys logs spare indexed) m
  prepared_before = before_then columns keys logs live spare k p.stamp p.lost p.gained
      (ids_after (store_of columns keys logs spare indexed) p) f.before f.valid f.hands
      relation_then

  pub prepared_from : (others : List ℕ) (n m : ℕ) → p.stamp ≤ m → m < forever
      → relation_at (store_of columns (keys_handed keys p.lost p.gained p.stamp)
      (logs_handed keys logs p.lost p.gained p.stamp) n others) m
      ≡ rows_after (store_of columns keys logs spare indexed) p
  prepared_from others n m h l = from_then columns keys logs live spare k p.stamp p.lost p.gained
      (ids_after (store_of columns keys logs spare indexed) p) f.before f.valid f.hands
      relation_then others n m h l ∙ sym rows_are

  pub prepared_later : {others : List ℕ} → (n m : ℕ) → p.stamp < m
      → AllBefore (store_of columns (keys_handed keys p.lost p.gained p.stamp)
      (logs_handed keys logs p.lost p.gained p.stamp) n others) m
  prepared_later = later_then columns keys logs live spare k p.stamp p.lost p.gained
      (ids_after (store_of columns keys logs spare indexed) p) f.before f.valid f.hands
      relation_then
