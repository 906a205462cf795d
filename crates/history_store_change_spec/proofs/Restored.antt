-- A table that is made again is kept as each table is.
use Rattle.std.proofs.Common.{◌≡◌, ℕ, suc, ◌<◌, true, List, [], ◌∷◌, All, length, map, get_or, refl}
use Rattle.std.proofs.Common.{sym, ap, ◌∙◌, subst, arith, inl, inr}
use Rattle.std.proofs.lemmas.Bool.Decides.{nat_tests}
use Rattle.relations_spec.specs.Sets.{In, Ascends}
use Rattle.relations_spec.specs.Spans.{Span, forever, covers}
use Rattle.prima_base.specs.Columns.{IsValid, Column, IsRow}
use Rattle.prima_base.specs.Order.{row_cmp}
use Rattle.history_store_spec.specs.Store.{Cell, cells_in, row_at, IsPeriod, IsFilled, Holds}
use Rattle.history_store_spec.specs.Store.{IsStore}
use Rattle.history_store_change_spec.specs.Entries.{all_entries, AreHistories}
use Rattle.history_store_columns.specs.Keys.{no_span, IsOpen}
use Rattle.history_store_row_order.specs.Rows.{row_now, rows_of}
use Rattle.history_store_change_spec.specs.Table.{row_then, AllColumns}
use Rattle.history_store_columns.specs.Entries.{AllCells}
use Rattle.history_store_change_spec.specs.Kept.{IsKept}
use Rattle.history_store_change_spec.specs.Change.{ids_from, rows_along}
use Rattle.history_store_change_spec.specs.Restoring.{store_with, write_of, writes_of, AreInTurn}
use Rattle.history_store_change_spec.specs.Restoring.{ids_known}
use Rattle.history_store_change_spec.specs.Restoring.{AreValidCells, IsInOrder}
use Rattle.history_store_value_order.proofs.Places.{in_get}
use Rattle.history_store_change_spec.proofs.Puts.{columns_more}
use Rattle.history_store_change_spec.proofs.Now.{row_is_now}
use Rattle.history_store_change_spec.proofs.Showing.{row_shown}
use Rattle.history_store_change_spec.proofs.OpenIds.{last_moment, are_open, are_there}
use Rattle.history_store_change_spec.proofs.Refilling.{history_again, entries_again, in_turn}

all_from : {X : Type 0} (P : X → Type 0) (xs : List X) → ((x : X) → In x xs → P x) → All P xs
all_from P xs f k d h = f (get_or xs k d) (in_get xs k d h)

pub valid_cells : (cells : List Cell) → All (λ c. IsValid c.value) cells → AreValidCells cells
valid_cells [] a = tt
valid_cells (c ∷ cells) a = (
  a 0 c (omega arith),
  valid_cells cells (λ k d h. a (suc k) d (omega (arith, h))),
)

length-writes : (lists : List (List Cell)) → length (writes_of lists) ≡ length lists
length-writes [] = refl
length-writes (cells ∷ lists) = ap suc (length-writes lists)

written : (cells : List Cell) → length (map write_of cells) ≡ length cells
written [] = refl
written (c ∷ cells) = ap suc (written cells)

-- as many writes as entries
pub all_written : (lists : List (List Cell)) → cells_in (writes_of lists) ≡ cells_in lists
all_written [] = refl
all_written (cells ∷ lists) = let e = written cells in let r = all_written lists in
    omega (arith, e, r)

cells_last : (cells : List Cell) → ((c : Cell) → In c cells → IsPeriod c.period)
    → AllCells last_moment (map write_of cells)
cells_last [] f = tt
cells_last (c ∷ cells) f = (
  let p = f c (inl refl) in let l = p.0 in let e = p.1 in
      omega (arith, l, e),
  cells_last cells (λ d i. f d (inr i)),
)

columns_last : (keys : List Span) (lists : List (List Cell))
    → ((cells : List Cell) → In cells lists → IsFilled keys cells)
    → AllColumns last_moment (writes_of lists)
columns_last keys [] f = tt
columns_last keys (cells ∷ lists) f = (
  cells_last cells (f cells (inl refl)).lasting,
  columns_last keys lists (λ c i. f c (inr i)),
)

module _ (keys : List Span) (lasting : (id : ℕ) → id < length keys
    → IsPeriod (get_or keys id no_span)) where
  histories_of : (lists : List (List Cell)) → ((cells : List Cell) → In cells lists
      → IsFilled keys cells) → AreHistories keys (writes_of lists)
  histories_of [] f = tt
  histories_of (cells ∷ lists) f = (
    history_again keys cells (f cells (inl refl)) lasting,
    histories_of lists (λ c i. f c (inr i)),
  )

  entries_are : (lists : List (List Cell)) → ((cells : List Cell) → In cells lists
      → IsFilled keys cells) → all_entries keys (writes_of lists) ≡ lists
  entries_are [] f = refl
  entries_are (cells ∷ lists) f = let e = entries_again keys cells (f cells (inl refl)) lasting in
      let r = entries_are lists (λ c i. f c (inr i)) in rw (e, r) refl

module _ (columns : List Column) (keys : List Span) (lists : List (List Cell))
    (s : IsStore (store_with columns keys lists)) where
  lasting : (id : ℕ) → id < length keys → IsPeriod (get_or keys id no_span)
  lasting id h = s.lasting (get_or keys id no_span) (in_get keys id no_span h)

  pub turns : All (AreInTurn 0) lists
  turns = all_from (AreInTurn 0) lists (λ cells i.
      (in_turn keys cells (s.filled cells i) lasting).0)

  pub counts : All (λ list. ids_known 0 list ≡ length keys) lists
  counts = all_from (λ list. ids_known 0 list ≡ length keys) lists
      (λ cells i. (in_turn keys cells (s.filled cells i) lasting).1)

  pub entries_restored : all_entries keys (writes_of lists) ≡ lists
  entries_restored = entries_are keys lasting lists s.filled

  pub is_open : (q : ℕ) → In q (ids_from 0 last_moment keys) → IsOpen keys q
  is_open = are_open keys lasting

  at_last : (id : ℕ) → IsOpen keys id → covers (get_or keys id no_span) last_moment ≡ true
  at_last id o = let l = (lasting id o.0).0 in let e : (get_or keys id no_span).end ≡ forever =
      o.1 in grind (arith, nat_tests)

  row_is : (id : ℕ) → IsOpen keys id → row_now id (writes_of lists) ≡ row_at id last_moment lists
  row_is id o =
      sym (row_is_now id last_moment last_moment (writes_of lists)
      (columns_last keys lists s.filled) (omega arith))
      ∙ sym (row_shown id last_moment keys (writes_of lists)
      (histories_of keys lasting lists s.filled) o.0 (at_last id o))
      ∙ ap (row_at id last_moment) entries_restored

  row_was : (m id : ℕ) → Holds keys id m → row_at id m lists ≡ row_then id m (writes_of lists)
  row_was m id h = sym (ap (row_at id m) entries_restored)
      ∙ row_shown id m keys (writes_of lists) (histories_of keys lasting lists s.filled) h.0 h.1

  rows_are : (ids : List ℕ) → ((q : ℕ) → In q ids → IsOpen keys q)
      → rows_of ids (writes_of lists) ≡ rows_along ids last_moment lists
  rows_are [] o = refl
  rows_are (id ∷ ids) o = rw (row_is id (o id (inl refl)), rows_are ids (λ q i. o q (inr i))) refl

  pub restored_kept : (live : List ℕ) → IsInOrder keys lists live
      → IsKept columns keys (writes_of lists) live
  restored_kept live order =
      let same = order.same in
      record {
        names = s.columns;
        width = length-writes lists ∙ s.width;
        histories = histories_of keys lasting lists s.filled;
        stored = record {
          columns_fit = columns_more last_moment forever (writes_of lists) (omega arith)
              (columns_last keys lists s.filled);
          started = λ id h. (let l = lasting id h in let a = l.0 in let b = l.1 in
              omega (arith, a, b));
          ended = λ id h. inl (lasting id h).1;
          are_open = λ id i. is_open id (same.there id i);
          are_live = λ id o. same.back id (are_there keys lasting id o);
          ordered = subst (Ascends row_cmp) (sym
              (rows_are live (λ q i. is_open q (same.there q i)))) order.rises;
        };
        fitting = λ id i. (let o = is_open id (same.there id i) in
            subst (IsRow columns) (sym (row_is id o))
            (s.fitting last_moment id (o.0, at_last id o)));
        lasting = lasting;
        fitted = λ m id h. subst (IsRow columns) (row_was m id h) (s.fitting m id h);
        apart = λ m i j a b e. s.apart m i j a b (row_was m i a ∙ e ∙ sym (row_was m j b));
      }
