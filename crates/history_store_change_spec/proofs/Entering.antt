-- The entries after a change are those of the writes after it.
use Rattle.std.proofs.Common.{◌≡◌, ◌≢◌, ℕ, ◌+◌, ◌<◌, ◌≤◌, List, [], ◌∷◌, ◌++◌, length, get_or, set}
use Rattle.std.proofs.Common.{refl, sym, ap, ◌∙◌, subst, arith, inl, inr, append_assoc, append-nil}
use Rattle.std.proofs.Common.{length-append}
use Rattle.std.proofs.lemmas.List.{get_or-set_other}
use Rattle.std.proofs.Math.ListN.{length-set}
use Rattle.relations_spec.specs.Sets.{In}
use Rattle.relations_spec.specs.Spans.{Span, span, forever}
use Rattle.prima_base.specs.declared.value.Value.{Value}
use Rattle.history_store_columns.specs.Log.{Write}
use Rattle.history_store_spec.specs.Store.{Cell}
use Rattle.history_store_columns.specs.Chains.{of_id}
use Rattle.history_store_change_spec.specs.Entries.{all_entries, AreHistories}
use Rattle.history_store_columns.specs.Keys.{no_span, IsOpen, ended_at}
use Rattle.history_store_writes.specs.Writing.{put_row, put_rows, end_keys, unpaired, new_keys}
use Rattle.history_store_row_order.specs.Handing.{handed}
use Rattle.history_store_row_order.specs.Rows.{AllWidth}
use Rattle.history_store_value_order.specs.ByValue.{Distinct}
use Rattle.history_store_change_spec.specs.Change.{write_row, write_rows, close_all}
use Rattle.history_store_columns.proofs.Histories.{put_new, none_known}
use Rattle.history_store_change_spec.proofs.Histories.{BelowEach, histories_old, histories_new}
use Rattle.history_store_change_spec.proofs.Histories.{histories_ended}
use Rattle.history_store_change_spec.proofs.Histories.{below_stays}
use Rattle.history_store_change_spec.proofs.Puts.{row_width}
use Rattle.history_store_columns.proofs.Entering.{below_more, write_at, write_more, close_at}

row_old : (keys : List Span) (columns : List (List Write)) (id : ℕ) (row : List Value) (stamp : ℕ)
    → AreHistories keys columns → IsOpen keys id → BelowEach id stamp columns → stamp < forever
    → all_entries keys (put_row id row stamp columns)
    ≡ write_row id row stamp (all_entries keys columns)
row_old keys [] id row stamp h o b l = refl
row_old keys (c ∷ columns) id [] stamp h o b l = refl
row_old keys (c ∷ columns) id (v ∷ row) stamp h o b l =
    let e = write_at 0 id id v stamp keys c (omega arith) o.0 o.1 (h.0.fits id o.0)
    (below_more stamp forever (of_id id c) (omega (arith, l)) b.0) in
    let f = row_old keys columns id row stamp h.1 o b.1 l in
    rw (e, f) refl

row_new : (keys : List Span) (columns : List (List Write)) (row : List Value) (stamp : ℕ)
    → AreHistories keys columns → length row ≡ length columns
    → all_entries (keys ++ span stamp forever ∷ []) (put_row (length keys) row stamp columns)
    ≡ write_row (length keys) row stamp (all_entries keys columns)
row_new keys [] row stamp h w = refl
row_new keys (c ∷ columns) [] stamp h w = absurd (omega arith)
row_new keys (c ∷ columns) (v ∷ row) stamp h w =
    let none = none_known (length keys) (length keys) c h.0.known (omega arith) in
    let p = put_new (length keys) v stamp c none in
    let e = write_more 0 (length keys) v stamp keys c (omega arith) none in
    let f = row_new keys columns row stamp h.1 (omega arith) in
    rw (p, e, f) refl

row_close : (keys : List Span) (columns : List (List Write)) (id stamp : ℕ) (ids : List ℕ)
    → IsOpen keys id → BelowEach id forever columns
    → close_all ids stamp (all_entries (set keys id (ended_at stamp (get_or keys id no_span)))
    columns) ≡ close_all (id ∷ ids) stamp (all_entries keys columns)
row_close keys [] id stamp ids o b = refl
row_close keys (c ∷ columns) id stamp ids o b =
    let e = close_at 0 id id stamp keys c (omega arith) o.0 o.1 b.0 in
    let f = row_close keys columns id stamp ids o b.1 in
    rw (e, f) refl

-- what a hand-over writes
pub record Handed (keys : List Span) (columns : List (List Write)) (cells : List (List Cell)) :
    Type 0 where
  pub histories : AreHistories keys columns
  pub entries : all_entries keys columns ≡ cells

no_key : (keys : List Span) (stamp : ℕ) (lost : List ℕ)
    → keys ++ new_keys stamp (unpaired {A = List Value} [] lost) ≡ keys
no_key keys stamp [] = append-nil keys
no_key keys stamp (id ∷ lost) = append-nil keys

each_width : (n m : ℕ) (rows : List (List Value)) → n ≡ m → AllWidth n rows → AllWidth m rows
each_width n m rows e w = subst (λ k. AllWidth k rows) e w

pub hand_over : (lost : List ℕ) (gained : List (List Value)) (keys : List Span)
    (columns : List (List Write)) (stamp : ℕ) → AreHistories keys columns
    → AllWidth (length columns) gained → Distinct lost
    → ((q : ℕ) → In q lost → IsOpen keys q) → ((q : ℕ) → In q lost → BelowEach q stamp columns)
    → stamp < forever
    → Handed (keys ++ new_keys stamp (unpaired gained lost))
    (put_rows (handed lost (length keys) gained) gained stamp columns)
    (write_rows (handed lost (length keys) gained) gained stamp (all_entries keys columns))
hand_over lost [] keys columns stamp h w d o b l =
    rw (no_key keys stamp lost) (record { histories = h; entries = refl })
hand_over [] (g ∷ gained) keys columns stamp h w d o b l =
    let h' = histories_new keys columns g stamp h w.0 l in
    let again = hand_over [] gained (keys ++ span stamp forever ∷ [])
    (put_row (length keys) g stamp columns) stamp h'
    (each_width _ _ gained (sym (row_width (length keys) g stamp columns)) w.1) tt
    (λ q i. absurd i) (λ q i. absurd i) l in
    let n : length (keys ++ span stamp forever ∷ []) ≡ length keys + 1 =
    length-append keys (span stamp forever ∷ []) in
    let e = row_new keys columns g stamp h w.0 in
    let k : keys ++ (span stamp forever ∷ new_keys stamp gained) ≡ (keys ++ span stamp forever ∷ [])
    ++ new_keys stamp (unpaired {B = ℕ} gained []) =
    sym (append_assoc keys (span stamp forever ∷ []) (new_keys stamp gained)) in
    rw k (rw (n, e) at again)
hand_over (id ∷ lost) (g ∷ gained) keys columns stamp h w d o b l =
    let h' = histories_old keys columns id g stamp h (o id (inl refl)) (b id (inl refl)) l in
    let again = hand_over lost gained keys (put_row id g stamp columns) stamp h'
    (each_width _ _ gained (sym (row_width id g stamp columns)) w.1) d.1 (λ q i. o q (inr i))
    (λ q i. below_stays q id g stamp stamp columns (λ e. d.0 (subst (λ n. In n lost) (sym e) i))
    (b q (inr i))) l in
    let e = row_old keys columns id g stamp h (o id (inl refl)) (b id (inl refl)) l in
    rw e at again

each_more : (id from to : ℕ) (columns : List (List Write)) → from ≤ to → BelowEach id from columns
    → BelowEach id to columns
each_more id from to [] l b = tt
each_more id from to (c ∷ columns) l b = (
  below_more from to (of_id id c) l b.0,
  each_more id from to columns l b.1,
)

still_open : (keys : List Span) (q id stamp : ℕ) → id ≢ q → IsOpen keys q
    → IsOpen (set keys id (ended_at stamp (get_or keys id no_span))) q
still_open keys q id stamp n o = (
  subst (λ m. q < m) (sym (length-set keys id (ended_at stamp (get_or keys id no_span)))) o.0,
  ap (λ (p : Span). p.end) (get_or-set_other keys id q (ended_at stamp (get_or keys id no_span))
      no_span (λ e. n (sym e))) ∙ o.1,
)

pub end_over : (ids : List ℕ) (keys : List Span) (columns : List (List Write)) (stamp : ℕ)
    → AreHistories keys columns → Distinct ids → ((q : ℕ) → In q ids → IsOpen keys q)
    → ((q : ℕ) → In q ids → BelowEach q stamp columns) → stamp < forever
    → Handed (end_keys ids stamp keys) columns (close_all ids stamp (all_entries keys columns))
end_over [] keys columns stamp h d o b l = record {
  histories = h;
  entries =
      sym (none (all_entries keys columns));
}
  where
    none : (cells : List (List Cell)) → close_all [] stamp cells ≡ cells
    none [] = refl
    none (c ∷ cells) = ap (λ cs. c ∷ cs) (none cells)
end_over (id ∷ ids) keys columns stamp h d o b l =
    let h' = histories_ended keys columns id stamp h (o id (inl refl)).0 (b id (inl refl)) in
    let again = end_over ids (set keys id (ended_at stamp (get_or keys id no_span))) columns stamp
    h' d.1
    (λ q i. still_open keys q id stamp (λ e. d.0 (subst (λ n. In n ids) (sym e) i)) (o q (inr i)))
    (λ q i. b q (inr i)) l in
    let e = row_close keys columns id stamp ids (o id (inl refl))
    (each_more id stamp forever columns (omega (arith, l)) (b id (inl refl))) in
    record { histories = again.histories; entries = again.entries ∙ e }
