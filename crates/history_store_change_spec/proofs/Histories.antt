-- The writes of each id fill its key, whatever a change writes.
use Rattle.std.proofs.Common.{◌≡◌, ◌≢◌, ℕ, ◌+◌, ◌<◌, List, [], ◌∷◌, ◌++◌, length, get_or, set, sym}
use Rattle.std.proofs.Common.{subst, arith, inl, inr}
use Rattle.relations_spec.specs.Sets.{In}
use Rattle.relations_spec.specs.Spans.{Span, span, forever}
use Rattle.prima_base.specs.declared.value.Value.{Value}
use Rattle.history_store_columns.specs.Log.{Write}
use Rattle.history_store_columns.specs.Chains.{of_id}
use Rattle.history_store_change_spec.specs.Entries.{AreHistories}
use Rattle.history_store_columns.specs.Keys.{no_span, IsOpen, ended_at}
use Rattle.history_store_writes.specs.Writing.{put_row, put_rows}
use Rattle.history_store_columns.proofs.Histories.{Below, history_ended, history_new, history_old}
use Rattle.history_store_columns.proofs.Histories.{of_id_other}

abbrev pub BelowEach : ℕ → ℕ → List (List Write) → Type 0
BelowEach id stamp [] = Unit {0}
BelowEach id stamp (c ∷ columns) = Below stamp (of_id id c) × BelowEach id stamp columns

pub below_stays : (j id : ℕ) (row : List Value) (stamp from : ℕ) (columns : List (List Write))
    → id ≢ j → BelowEach j from columns → BelowEach j from (put_row id row stamp columns)
below_stays j id row stamp from [] n b = tt
below_stays j id [] stamp from (c ∷ columns) n b = b
below_stays j id (v ∷ row) stamp from (c ∷ columns) n b = (
  subst (Below from) (sym (of_id_other j id v stamp c n)) b.0,
  below_stays j id row stamp from columns n b.1,
)

pub below_rows : (j : ℕ) (ids : List ℕ) (rows : List (List Value)) (stamp from : ℕ)
    (columns : List (List Write)) → (In j ids → ⊥) → BelowEach j from columns
    → BelowEach j from (put_rows ids rows stamp columns)
below_rows j [] rows stamp from columns n b = b
below_rows j (id ∷ ids) [] stamp from columns n b = b
below_rows j (id ∷ ids) (row ∷ rows) stamp from columns n b =
    below_rows j ids rows stamp from (put_row id row stamp columns) (λ i. n (inr i))
    (below_stays j id row stamp from columns (λ e. n (inl e)) b)

pub histories_old : (keys : List Span) (columns : List (List Write)) (id : ℕ) (row : List Value)
    (stamp : ℕ) → AreHistories keys columns → IsOpen keys id → BelowEach id stamp columns
    → stamp < forever → AreHistories keys (put_row id row stamp columns)
histories_old keys [] id row stamp h o b l = tt
histories_old keys (c ∷ columns) id [] stamp h o b l = h
histories_old keys (c ∷ columns) id (v ∷ row) stamp h o b l =
    (history_old keys c id v stamp h.0 o b.0 l, histories_old keys columns id row stamp h.1 o b.1 l)

pub histories_new : (keys : List Span) (columns : List (List Write)) (row : List Value) (stamp : ℕ)
    → AreHistories keys columns → length row ≡ length columns → stamp < forever
    → AreHistories (keys ++ span stamp forever ∷ []) (put_row (length keys) row stamp columns)
histories_new keys [] row stamp h w l = tt
histories_new keys (c ∷ columns) [] stamp h w l = absurd (omega arith)
histories_new keys (c ∷ columns) (v ∷ row) stamp h w l =
    (history_new keys c v stamp h.0 l, histories_new keys columns row stamp h.1 (omega arith) l)

pub histories_ended : (keys : List Span) (columns : List (List Write)) (id stamp : ℕ)
    → AreHistories keys columns → id < length keys → BelowEach id stamp columns
    → AreHistories (set keys id (ended_at stamp (get_or keys id no_span))) columns
histories_ended keys [] id stamp h o b = tt
histories_ended keys (c ∷ columns) id stamp h o b =
    (history_ended keys c id stamp h.0 o b.0, histories_ended keys columns id stamp h.1 o b.1)
