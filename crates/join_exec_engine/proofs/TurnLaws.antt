-- Rows in another order.
use Rattle.std.proofs.Common.{◌≡◌, ℕ, List}
use Rattle.std.specs.List.Sorted.{IsPermutation}
use Rattle.std.proofs.lemmas.List.Sorted.{IsPermutation-sym}
use Rattle.std.proofs.lemmas.List.Sorted.{IsPermutation-map}
use Rattle.relations_spec.specs.Sets.{In}
use Rattle.relations_spec.specs.Timed.{Entry, held_at, at}
use Rattle.relations_spec.proofs.Held.{from_held, in_held}
use Rattle.relations_spec.proofs.SetLaws.{set_same}
use Rattle.prima_base.specs.declared.value.Value.{Value}
use Rattle.prima_base.specs.declared.timed_row.TimedRow.{TimedRow}
use Rattle.prima_base.specs.Order.{row_cmp}
use Rattle.prima_base.specs.OrderLaws.{row_exact}
use Rattle.prima_base.specs.Timed.{entry_of, entries_of, rows_at}
use Rattle.prima_base.specs.declared.value.Val.{Val}
use Rattle.coalesce.proofs.Sorted.{in_moved}
use Rattle.join_exec_spec.specs.BorrowedOutputs.{EachRow}
use Rattle.join_exec_spec.proofs.BorrowedLaws.{each_member, all_members}
use Rattle.join_exec_spec.specs.Fitting.{Fit}

module _ (rows moved : List TimedRow) (p : IsPermutation rows moved) where
  there : IsPermutation (entries_of rows) (entries_of moved)
  there = IsPermutation-map entry_of rows moved p

  back : IsPermutation (entries_of moved) (entries_of rows)
  back = IsPermutation-sym (entries_of rows) (entries_of moved) there

  pub fit_moved : (n : ℕ) → Fit n (entries_of rows) → Fit n (entries_of moved)
  fit_moved n h = λ e i. h e (in_moved (entries_of moved) (entries_of rows) back e i)

  held_moved : (es fs : List (Entry (List Value))) → IsPermutation es fs → (m : ℕ) (x : List Value)
      → In x (held_at es m) → In x (held_at fs m)
  held_moved es fs q m x i = let r = from_held es x m i in
      in_held fs x m r.0 (in_moved es fs q r.0 r.1) r.2 r.3

  -- the relation stays
  pub at_moved : (m : ℕ) → rows_at moved m ≡ rows_at rows m
  unfolding at
  at_moved m = set_same row_cmp row_exact (held_at (entries_of moved) m)
      (held_at (entries_of rows) m) (record {
        there = λ x i. held_moved (entries_of moved) (entries_of rows) back m x i;
        back = λ x i. held_moved (entries_of rows) (entries_of moved) there m x i;
      })

  pub each_moved : (so : List Val → Type 0) → EachRow so rows → EachRow so moved
  each_moved so l = all_members so moved (λ row i.
      each_member so rows row (in_moved moved rows (IsPermutation-sym rows moved p) row i) l)
