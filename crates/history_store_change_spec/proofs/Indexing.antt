-- The ids of the rows at a moment, in the order of their rows, are those that a table keeps.
use Rattle.std.proofs.Common.{◌≡◌, ℕ, zero, suc, ◌+◌, ◌<◌, ◌≤◌, Bool, true, false, List, [], ◌∷◌}
use Rattle.std.proofs.Common.{length, get_or, refl, sym, subst, arith, if◌then◌else◌, inl, inr}
use Rattle.std.specs.Ordering.{nat_cmp, ordering_then}
use Rattle.std.specs.Cmp.{IsTotalOrder}
use Rattle.std.specs.FinMap.{nat_cmp-IsAntisymmetric}
use Rattle.std.specs.declared.cmp.Ordering.{Ordering}
use Rattle.std.specs.declared.cmp.Ordering.TheVariants.{Less, Equal, Greater}
use Rattle.std.proofs.lemmas.Bool.Decides.{nat_tests}
use Rattle.std.proofs.lemmas.Cmp.{nat_cmp_total, on_total, then_total}
use Rattle.relations_spec.specs.Sets.{In, BeforeAll, Ascends, IsExact, set_of}
use Rattle.relations_spec.specs.Spans.{Span, forever, covers}
use Rattle.relations_spec.proofs.SetLaws.{one_list, set_ascends, in_set, from_set}
use Rattle.prima_base.specs.Order.{row_cmp}
use Rattle.prima_base.specs.OrderLaws.{row_total, exact_from}
use Rattle.history_store_columns.specs.Log.{Write}
use Rattle.history_store_spec.specs.Store.{Cell, row_at}
use Rattle.prima_base.specs.Columns.{Column}
use Rattle.history_store_change_spec.specs.Entries.{all_entries, AreHistories}
use Rattle.history_store_columns.specs.Keys.{no_span}
use Rattle.history_store_change_spec.specs.Table.{IsStored}
use Rattle.history_store_change_spec.specs.Kept.{store_of}
use Rattle.history_store_change_spec.specs.Change.{ids_from, by_rows, ids_at, rows_along}
use Rattle.history_store_change_spec.proofs.Showing.{along_is}

second : (a b : Ordering) → ordering_then a b ≡ Equal → b ≡ Equal
second Less b e = cc
second Equal b e = e
second Greater b e = cc

by_total : (m : ℕ) (cells : List (List Cell)) → IsTotalOrder (by_rows m cells)
by_total m cells = then_total (on_total (λ id. row_at id m cells) row_total) nat_cmp_total

by_exact : (m : ℕ) (cells : List (List Cell)) → IsExact (by_rows m cells)
by_exact m cells = exact_from (by_total m cells)
    (λ i j e. nat_cmp-IsAntisymmetric i j (second (row_cmp (row_at i m cells) (row_at j m cells))
    (nat_cmp i j) e))

-- ids whose rows ascend
before_ids : (m : ℕ) (cells : List (List Cell)) (id : ℕ) (ids : List ℕ)
    → BeforeAll row_cmp (row_at id m cells) (rows_along ids m cells)
    → BeforeAll (by_rows m cells) id ids
before_ids m cells id [] b = tt
before_ids m cells id (j ∷ ids) b = (let e = b.0 in rw e refl, before_ids m cells id ids b.1)

ascend_ids : (m : ℕ) (cells : List (List Cell)) (ids : List ℕ)
    → Ascends row_cmp (rows_along ids m cells) → Ascends (by_rows m cells) ids
ascend_ids m cells [] a = tt
ascend_ids m cells (id ∷ ids) a = (before_ids m cells id ids a.0, ascend_ids m cells ids a.1)

-- the ids of the keys that hold
pub in_ids : (id m k : ℕ) (keys : List Span) → k < length keys
    → covers (get_or keys k no_span) m ≡ true → In (id + k) (ids_from id m keys)
in_ids id m k [] h t = absurd (omega arith)
in_ids id m zero (p ∷ keys) h t =
    let here : covers p m ≡ true = t in
    rw here (inl (omega arith))
in_ids id m (suc k) (p ∷ keys) h t =
    let n : id + 1 + k ≡ id + suc k = omega arith in
    let rest = subst (λ n. In n (ids_from (id + 1) m keys)) n
    (in_ids (id + 1) m k keys (omega arith) t) in
    elim (covers p m) as (λ b. In (id + suc k)
    (if b then id ∷ ids_from (id + 1) m keys else ids_from (id + 1) m keys)) [
      | true ↦ inr rest
      | false ↦ rest
    ]

abbrev pub IsHeld : ℕ → ℕ → ℕ → List Span → Type 0
IsHeld j id m keys = (k : ℕ) × (k < length keys) × (covers (get_or keys k no_span) m ≡ true)
    × (id + k ≡ j)

later_held : (j id m : ℕ) (p : Span) (keys : List Span) → IsHeld j (id + 1) m keys
    → IsHeld j id m (p ∷ keys)
later_held j id m p keys (k, h, t, e) = (suc k, omega (arith, h), t, omega (arith, e))

pub is_held : (j id m : ℕ) (keys : List Span) → In j (ids_from id m keys) → IsHeld j id m keys
is_held j id m [] i = absurd i
is_held j id m (p ∷ keys) i = by_case (covers p m) refl i (is_held j (id + 1) m keys)
  where
    by_case : (b : Bool) → covers p m ≡ b → In j
        (if b then id ∷ ids_from (id + 1) m keys else ids_from (id + 1) m keys)
        → (In j (ids_from (id + 1) m keys) → IsHeld j (id + 1) m keys) → IsHeld j id m (p ∷ keys)
    by_case true t (inl e) again = (0, omega arith, t, omega (arith, e))
    by_case true t (inr i) again = later_held j id m p keys (again i)
    by_case false t i again = later_held j id m p keys (again i)

module _ (keys : List Span) (logs : List (List Write)) (live : List ℕ) (m : ℕ)
    (h : AreHistories keys logs) (s : IsStored keys logs live m) (l : m < forever) where
  is_live : (j : ℕ) → IsHeld j 0 m keys → In j live
  is_live j (k, b, t, e) =
      let open_end : (get_or keys k no_span).end ≡ forever =
      elim (s.ended k b) [ inl q ↦ grind (arith, nat_tests) | inr q ↦ q ] in
      let n : k ≡ j = omega (arith, e) in
      subst (λ n. In n live) n (s.are_live k (b, open_end))

  pub held_live : (j : ℕ) → In j (ids_from 0 m keys) → In j live
  held_live j i = is_live j (is_held j 0 m keys i)

  pub holds_now : (j : ℕ) → In j live → In j (ids_from 0 m keys)
  holds_now j i =
      let o = s.are_open j i in
      let started : (get_or keys j no_span).start ≤ m = s.started j o.0 in
      let ends : (get_or keys j no_span).end ≡ forever = o.1 in
      let t : covers (get_or keys j no_span) m ≡ true = grind (arith, nat_tests) in
      let n : 0 + j ≡ j = omega arith in
      subst (λ n. In n (ids_from 0 m keys)) n (in_ids 0 m j keys o.0 t)

  rise : Ascends (by_rows m (all_entries keys logs)) live
  rise = ascend_ids m (all_entries keys logs) live
      (subst (Ascends row_cmp) (sym (along_is live m m keys logs h s.columns_fit (omega arith) l
      s.are_open s.started)) s.ordered)

  pub ids_are : (columns : List Column) (spare : ℕ) (indexed : List ℕ)
      → ids_at (store_of columns keys logs spare indexed) m ≡ live
  unfolding ids_at
  ids_are columns spare indexed =
      let cmp = by_rows m (all_entries keys logs) in
      let o = by_exact m (all_entries keys logs) in
      one_list cmp o (set_of cmp (ids_from 0 m keys)) live (set_ascends cmp o (ids_from 0 m keys))
      rise (record {
        there = λ j i. is_live j (is_held j 0 m keys (from_set cmp o j (ids_from 0 m keys) i));
        back = λ j i. in_set cmp o j (ids_from 0 m keys) (holds_now j i);
      })
