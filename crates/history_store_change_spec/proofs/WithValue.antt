-- The rows that have a value in a column, in the order of their ids.
use Rattle.std.proofs.Common.{◌≡◌, ℕ, ◌+◌, ◌<◌, ◌≤◌, Bool, true, false, cond, List, [], ◌∷◌, get_or}
use Rattle.std.proofs.Common.{refl, sym, ap, ◌∙◌, subst, arith, if◌then◌else◌, inl, inr}
use Rattle.std.specs.List.{filter}
use Rattle.std.specs.Ordering.{nat_cmp, ordering_then}
use Rattle.std.specs.declared.cmp.Ordering.TheVariants.{Less, Equal}
use Rattle.relations_spec.specs.Sets.{In, Ascends}
use Rattle.relations_spec.specs.Spans.{Span, forever, covers}
use Rattle.relations_spec.proofs.SetLaws.{one_list, in_filter, from_filter, below_each, before_in}
use Rattle.relations_spec.proofs.SetLaws.{cmp_itself}
use Rattle.relations_spec.proofs.ListingLaws.{nat_less}
use Rattle.prima_base.specs.Order.{row_cmp}
use Rattle.prima_base.specs.OrderLaws.{row_exact}
use Rattle.prima_base.specs.declared.value.Value.{Value}
use Rattle.history_store_columns.specs.Log.{Write, newest}
use Rattle.history_store_spec.specs.Store.{rows_from}
use Rattle.history_store_change_spec.specs.Entries.{all_entries, AreHistories}
use Rattle.history_store_change_spec.specs.Table.{row_then, rows_then, AllColumns, IsStored}
use Rattle.history_store_row_order.specs.Rows.{row_now, rows_of}
use Rattle.history_store_columns.specs.Keys.{no_span}
use Rattle.history_store_columns.specs.Puts.{is_value}
use Rattle.history_store_change_spec.specs.Handing.{at_column}
use Rattle.history_store_change_spec.specs.Change.{ids_from}
use Rattle.history_store_writes.specs.ValueIndexes.{Indexed, IsIndexed}
use Rattle.history_store_change_spec.specs.ByValue.{rows_with}
use Rattle.history_store_value_order.specs.ByValue.{by_value, ids_with}
use Rattle.history_store_change_spec.proofs.Counts.{one_at}
use Rattle.history_store_change_spec.proofs.Totals.{one_now}
use Rattle.history_store_change_spec.proofs.Now.{row_is_now}
use Rattle.history_store_columns.proofs.Puts.{is_value_is}
use Rattle.history_store_row_order.proofs.Sides.{nat_exact, passed_ascend}
use Rattle.history_store_change_spec.proofs.Indexing.{held_live, holds_now}
use Rattle.history_store_change_spec.proofs.Showing.{rows_shown}

-- ids counted up ascend
above : (id m : ℕ) (keys : List Span) (low j : ℕ) → low < id → In j (ids_from id m keys)
    → nat_cmp low j ≡ Less
above id m [] low j l i = absurd i
above id m (k ∷ keys) low j l i = by_case (covers k m) i (above (id + 1) m keys low j (omega arith))
  where
    by_case : (b : Bool) → In j (if b then id ∷ ids_from (id + 1) m keys
        else ids_from (id + 1) m keys) → (In j (ids_from (id + 1) m keys) → nat_cmp low j ≡ Less)
        → nat_cmp low j ≡ Less
    by_case true (inl e) again = subst (λ n. nat_cmp low n ≡ Less) e (nat_less low id l)
    by_case true (inr h) again = again h
    by_case false h again = again h

pub ids_ascend : (id m : ℕ) (keys : List Span) → Ascends nat_cmp (ids_from id m keys)
ids_ascend id m [] = tt
ids_ascend id m (k ∷ keys) =
    let rest = ids_ascend (id + 1) m keys in
    let first = below_each nat_cmp id (ids_from (id + 1) m keys)
    (λ j i. above (id + 1) m keys id j (omega arith) i) in
    elim (covers k m) as (λ b. Ascends nat_cmp
    (if b then id ∷ ids_from (id + 1) m keys else ids_from (id + 1) m keys))
    [ true ↦ (first, rest) | false ↦ rest ]

-- ids with one value stand in their own order
module _ (cells : List Write) (v : Value) where
  by_id : (i j : ℕ) → newest i cells ≡ v ∷ [] → newest j cells ≡ v ∷ [] → by_value cells i j ≡ Less
      → nat_cmp i j ≡ Less
  by_id i j e f l =
      let same : row_cmp (newest i cells) (newest j cells) ≡ Equal =
      ap (λ vs. row_cmp vs (newest j cells)) e ∙ ap (row_cmp (v ∷ [])) f
      ∙ cmp_itself row_cmp row_exact (v ∷ []) in
      sym (ap (λ o. ordering_then o (nat_cmp i j)) same) ∙ l

  one_value : (ids : List ℕ) → ((q : ℕ) → In q ids → newest q cells ≡ v ∷ [])
      → Ascends (by_value cells) ids → Ascends nat_cmp ids
  one_value [] f a = tt
  one_value (id ∷ ids) f a = (
    below_each nat_cmp id ids
        (λ j i. by_id id j (f id (inl refl)) (f j (inr i))
        (before_in (by_value cells) id j ids a.0 i)),
    one_value ids (λ q i. f q (inr i)) a.1,
  )

-- the rows of the ids that pass, and the rows that pass
rows_passed : (p : ℕ → Bool) (t : List Value → Bool) (logs : List (List Write)) (ids : List ℕ)
    → ((q : ℕ) → In q ids → p q ≡ t (row_now q logs))
    → rows_of (filter p ids) logs ≡ filter t (rows_of ids logs)
rows_passed p t logs [] f = refl
rows_passed p t logs (id ∷ ids) f =
    let e = f id (inl refl) in
    let rest = rows_passed p t logs ids (λ q i. f q (inr i)) in
    rw e (elim (t (row_now id logs)) as (λ b.
    rows_of (cond b (id ∷ filter p ids) (filter p ids)) logs
    ≡ cond b (row_now id logs ∷ filter t (rows_of ids logs)) (filter t (rows_of ids logs))) [
      | true ↦ ap (λ rows. row_now id logs ∷ rows) rest
      | false ↦ rest
    ])

rows_are_now : (id m last : ℕ) (keys : List Span) (logs : List (List Write)) → AllColumns last logs
    → last ≤ m → rows_then id m keys logs ≡ rows_of (ids_from id m keys) logs
rows_are_now id m last [] logs a l = refl
rows_are_now id m last (k ∷ keys) logs a l =
    let rest = rows_are_now (id + 1) m last keys logs a l in
    let here = row_is_now id m last logs a l in
    elim (covers k m) as (λ b. (if b then row_then id m logs ∷ rows_then (id + 1) m keys logs
    else rows_then (id + 1) m keys logs) ≡ rows_of
    (if b then id ∷ ids_from (id + 1) m keys else ids_from (id + 1) m keys) logs) [
      | true ↦ rw (here, rest) refl
      | false ↦ rest
    ]

module _ (keys : List Span) (logs : List (List Write)) (live : List ℕ) (m : ℕ)
    (h : AreHistories keys logs) (s : IsStored keys logs live m) (l : m < forever) where
  rows_shown_now : rows_from 0 m keys (all_entries keys logs) ≡ rows_of (ids_from 0 m keys) logs
  rows_shown_now = rows_shown 0 m keys keys logs h
      (λ j b. (let n : 0 + j ≡ j = omega arith in (rw n b, ap (λ i. get_or keys i no_span) n)))
      ∙ rows_are_now 0 m m keys logs s.columns_fit (omega arith)

  module _ (x : Indexed) (i : IsIndexed logs live [] x) (v : Value) where
    abbrev cells : List Write
    cells = get_or logs x.column []

    abbrev p : ℕ → Bool
    p id = is_value v (newest id cells)

    same_ids : ids_with v cells x.ids ≡ ids_with v cells (ids_from 0 m keys)
    same_ids =
        one_list nat_cmp nat_exact (filter p x.ids) (filter p (ids_from 0 m keys))
        (one_value cells v (filter p x.ids) (λ q k.
        is_value_is v (newest q cells) (from_filter p q x.ids k).1)
        (passed_ascend (by_value cells) p x.ids i.rises))
        (passed_ascend nat_cmp p (ids_from 0 m keys) (ids_ascend 0 m keys))
        (record {
          there = λ q k. (let f = from_filter p q x.ids k in
              in_filter p q (ids_from 0 m keys)
              (holds_now keys logs live m h s l q (i.only q f.0).0) f.1);
          back = λ q k. (let f = from_filter p q (ids_from 0 m keys) k in
              in_filter p q x.ids (i.all q (held_live keys logs live m h s l q f.0) (λ n. n)) f.1);
        })

    value_is : (q : ℕ) → In q (ids_from 0 m keys)
        → p q ≡ is_value v (at_column x.column (row_now q logs))
    value_is q k = ap (is_value v) (one_at x.column q logs i.within
        (one_now keys logs q h (s.are_open q (held_live keys logs live m h s l q k)).0))

    pub rows_found : rows_of (ids_with v cells x.ids) logs
        ≡ rows_with x.column v (rows_from 0 m keys (all_entries keys logs))
    rows_found =
        ap (λ ids. rows_of ids logs) same_ids
        ∙ rows_passed p (λ row. is_value v (at_column x.column row)) logs (ids_from 0 m keys)
        value_is
        ∙ ap (rows_with x.column v) (sym rows_shown_now)
