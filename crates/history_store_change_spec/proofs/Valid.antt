-- What is so of every stored table, as contracts see it.
use Rattle.std.proofs.Common.{ℕ, ◌<◌, List, [], ◌∷◌, length, get_or, sym, ◌∙◌, subst, inl, inr}
use Rattle.relations_spec.specs.Sets.{In}
use Rattle.relations_spec.specs.Spans.{Span}
use Rattle.history_store_columns.specs.Log.{Write}
use Rattle.history_store_spec.specs.Store.{Cell, IsPeriod, IsFilled, IsStore}
use Rattle.prima_base.specs.Columns.{Column, IsRow}
use Rattle.history_store_change_spec.specs.Entries.{all_entries, AreHistories}
use Rattle.history_store_columns.specs.Keys.{no_span}
use Rattle.history_store_change_spec.specs.Kept.{store_of, IsKept}
use Rattle.history_store_change_spec.proofs.Showing.{row_shown, count_entries, key_at}
use Rattle.history_store_columns.proofs.Filling.{column_filled}

each_filled : (keys : List Span) (columns : List (List Write)) → AreHistories keys columns
    → ((id : ℕ) → id < length keys → IsPeriod (get_or keys id no_span)) → (cells : List Cell)
    → In cells (all_entries keys columns) → IsFilled keys cells
each_filled keys [] h f cells i = absurd i
each_filled keys (c ∷ columns) h f cells (inl e) =
    subst (IsFilled keys) e (column_filled keys c h.0 f)
each_filled keys (c ∷ columns) h f cells (inr i) = each_filled keys columns h.1 f cells i

pub is_store : {indexed : List ℕ} → (columns : List Column) (keys : List Span)
    (logs : List (List Write)) (live : List ℕ) (spare : ℕ) → IsKept columns keys logs live
    → IsStore (store_of columns keys logs spare indexed)
is_store columns keys logs live spare k = record {
  columns = k.names;
  width = count_entries keys logs ∙ k.width;
  lasting = λ p i. (let r = key_at keys p i in subst IsPeriod r.2 (k.lasting r.0 r.1));
  filled = each_filled keys logs k.histories k.lasting;
  fitting = λ m id h. subst (IsRow columns) (sym (row_shown id m keys logs k.histories h.0 h.1))
      (k.fitted m id h);
  apart = λ m i j a b e. k.apart m i j a b (sym (row_shown i m keys logs k.histories a.0 a.1) ∙ e
      ∙ row_shown j m keys logs k.histories b.0 b.1);
}
