-- The changes of a table, one after the other, and rows that it gains.
use Rattle.std.proofs.Common.{◌≡◌, ◌<◌, ◌≤◌, ◌+◌, ℕ, Bool, true, false, cond, List, [], ◌∷◌, ◌++◌}
use Rattle.std.proofs.Common.{length, drop, get_or, refl, sym, ap, ◌∙◌, subst, arith, inl, inr}
use Rattle.std.specs.Prelude.{not, Some, None, ◌⊎◌, Option, if◌then◌else◌}
use Rattle.std.specs.Borrow.{Bor}
use Rattle.relations_spec.specs.Sets.{In, Ascends, has, set_of}
use Rattle.relations_spec.specs.Spans.{Span, forever}
use Rattle.relations_spec.proofs.SetLaws.{in_filter, from_filter, in_append, in_left, in_right}
use Rattle.relations_spec.proofs.SetLaws.{in_set}
use Rattle.relations_spec.proofs.SetLaws.{from_set, set_same, set_ascends, set_itself, one_list}
use Rattle.relations_spec.proofs.SetLaws.{in_has}
use Rattle.relations_spec.proofs.SetLaws.{has_in, has_not}
use Rattle.prima_base.specs.Order.{row_cmp}
use Rattle.prima_base.specs.OrderLaws.{row_exact}
use Rattle.prima_base.specs.Columns.{Column, AreColumns, IsRow, IsRelation}
use Rattle.prima_base.specs.declared.value.Value.{Value}
use Rattle.history_store.specs.Handing.{only_in}
use Rattle.history_store.specs.Store.{Store, rows_from, relation_at, IsBefore, AllBefore}
use Rattle.smo_ops_types.specs.Changes.{PlainChange, insertion, deletion, update, change_of}
use Rattle.smo_ops_spec.specs.Effects.{relation_after, gained_rows}
use Rattle.std.specs.Option.{option_map}
use Rattle.smo_ops_spec.specs.Inserting.{relation_after_each, insertions}
use Rattle.smo_ops_spec.specs.OneRow.{row_of}
use Rattle.smo_ops_types.specs.declared.change.Change.{Change}
use Rattle.smo_ops_spec.proofs.Firsts.{drop_at}
use Rattle.smo_ops_spec.proofs.RelationLaws.{keeps_relation, filter_ascends, inserted_row}
use Rattle.version_groups_changes.specs.Changing.{AreAccepted, borrowed_changes}

abbrev Rows : Type 0
Rows = List (List Value)

-- ---- change by change

-- the change at a place, and those after it
module _ (changes : List (Bor Change)) (i : ℕ) (x : Bor Change) (within : i < length changes)
    (is : x ≡ get_or changes i x) where
  next_change : borrowed_changes (drop i changes)
      ≡ change_of x.now ∷ borrowed_changes (drop (i + 1) changes)
  next_change = ap borrowed_changes (drop_at changes i x within is)

  pub accepted_next : (columns : List Column)
      → AreAccepted columns (borrowed_changes (drop i changes))
      → AreAccepted columns (change_of x.now ∷ borrowed_changes (drop (i + 1) changes))
  accepted_next columns h = subst (AreAccepted columns) next_change h

  pub applied_next : (columns : List Column) (whole old : Rows)
      → whole ≡ relation_after_each columns (borrowed_changes (drop i changes)) old
      → whole ≡ relation_after_each columns (borrowed_changes (drop (i + 1) changes))
      (relation_after columns (change_of x.now) old)
  applied_next columns whole old e = e ∙ ap (λ l. relation_after_each columns l old) next_change

-- ---- a relation that stays one

pub as_set : (columns : List Column) (rows : Rows) → IsRelation columns rows
    → IsRelation columns (set_of row_cmp rows)
as_set columns rows h = subst (IsRelation columns)
    (sym (set_itself row_cmp row_exact rows h.ascending)) h

-- ---- rows that a table gains

pub relation_ascends : (s : Store) (m : ℕ) → Ascends row_cmp (relation_at s m)
unfolding relation_at
relation_ascends s m = set_ascends row_cmp row_exact (rows_from 0 m s.keys s.cells)

-- a moment later
before_later : (m n : ℕ) (p : Span) → m ≤ n → IsBefore m p → IsBefore n p
before_later m n p l h = (
  omega (arith, h.0),
  elim h.1 as (λ w. (p.end < n) ⊎ (p.end ≡ forever)) [
    | inl k ↦ inl (omega (arith, k))
    | inr k ↦ inr k
  ],
)

pub all_later : (s : Store) (m n : ℕ) → m ≤ n → AllBefore s m → AllBefore s n
all_later s m n l h = record {
  keys = λ p i. before_later m n p l (h.keys p i);
  cells =
      λ cells i c j. before_later m n c.period l (h.cells cells i c j);
}

pub not_true : (b : Bool) → not b ≡ true → b ≡ false
not_true true e = cc
not_true false e = refl

pub not_of : (b : Bool) → b ≡ false → not b ≡ true
not_of true e = cc
not_of false e = refl

-- the rows of `rows` that are not there
pub gains : (columns : List Column) (old rows : Rows) → IsRelation columns (set_of row_cmp rows)
    → IsRelation columns (gained_rows old (set_of row_cmp rows))
gains columns old rows h = record {
  ascending = filter_ascends (λ row. not (has row_cmp row old)) (set_of row_cmp rows) h.ascending;
  fitting = λ row m. h.fitting row (from_filter (λ row. not (has row_cmp row old)) row
      (set_of row_cmp rows) m).0;
}

pub gains_new : (old rows : Rows) (row : List Value) → In row (gained_rows old rows) → In row old
    → ⊥
gains_new old rows row m i = has_not row_cmp row_exact row old
    (not_true (has row_cmp row old) (from_filter (λ row. not (has row_cmp row old)) row rows m).1) i

-- the same by the store's word for them
pub gains_only : (rows old : Rows) → only_in rows old ≡ gained_rows old rows
gains_only [] old = refl
gains_only (row ∷ rows) old =
    let e = gains_only rows old in
    elim (has row_cmp row old) as (λ b. (if b then only_in rows old else row ∷ only_in rows old)
    ≡ cond (not b) (row ∷ gained_rows old rows) (gained_rows old rows))
    [ true ↦ e | false ↦ ap (λ rs. row ∷ rs) e ]

has_or_not : (row : List Value) (old : Rows) → (In row old) ⊎ (has row_cmp row old ≡ false)
has_or_not row old = step (has row_cmp row old) refl
  where
    step : (b : Bool) → has row_cmp row old ≡ b → (In row old) ⊎ (has row_cmp row old ≡ false)
    step true e = inl (has_in row_cmp row_exact row old e)
    step false e = inr e

-- with them it has all
pub gains_all : (old rows : Rows) → set_of row_cmp (old ++ gained_rows old (set_of row_cmp rows))
    ≡ set_of row_cmp (old ++ rows)
gains_all old rows = set_same row_cmp row_exact (old ++ gained_rows old (set_of row_cmp rows))
    (old ++ rows) (record { there = there; back = back })
  where
    there : (z : List Value) → In z (old ++ gained_rows old (set_of row_cmp rows))
        → In z (old ++ rows)
    there z m = elim (in_append z old (gained_rows old (set_of row_cmp rows)) m) [
      | inl i ↦ in_left z old rows i
      | inr i ↦ in_right z old rows (from_set row_cmp row_exact z rows
          (from_filter (λ row. not (has row_cmp row old)) z (set_of row_cmp rows) i).0)
    ]

    other : (z : List Value) → In z rows → In z (old ++ gained_rows old (set_of row_cmp rows))
    other z i = elim (has_or_not z old) [
      | inl k ↦ in_left z old (gained_rows old (set_of row_cmp rows)) k
      | inr k ↦ in_right z old (gained_rows old (set_of row_cmp rows))
          (in_filter (λ row. not (has row_cmp row old)) z (set_of row_cmp rows)
          (in_set row_cmp row_exact z rows i) (not_of (has row_cmp z old) k))
    ]

    back : (z : List Value) → In z (old ++ rows)
        → In z (old ++ gained_rows old (set_of row_cmp rows))
    back z m = elim (in_append z old rows m) [
      | inl i ↦
          in_left z old (gained_rows old (set_of row_cmp rows)) i
      | inr i ↦ other z i
    ]

-- and those are what it gained
pub gains_are : (old rows : Rows) → gained_rows old (set_of row_cmp (old ++ rows))
    ≡ gained_rows old (set_of row_cmp rows)
gains_are old rows = one_list row_cmp row_exact (gained_rows old (set_of row_cmp (old ++ rows)))
    (gained_rows old (set_of row_cmp rows))
    (filter_ascends p (set_of row_cmp (old ++ rows)) (set_ascends row_cmp row_exact (old ++ rows)))
    (filter_ascends p (set_of row_cmp rows) (set_ascends row_cmp row_exact rows))
    (record { there = there; back = back })
  where
    p : List Value → Bool
    p row = not (has row_cmp row old)

    there : (z : List Value) → In z (gained_rows old (set_of row_cmp (old ++ rows)))
        → In z (gained_rows old (set_of row_cmp rows))
    there z m =
        let f = from_filter p z (set_of row_cmp (old ++ rows)) m in
        elim (in_append z old rows (from_set row_cmp row_exact z (old ++ rows) f.0)) [
          | inl i ↦ absurd (has_not row_cmp row_exact z old (not_true (has row_cmp z old) f.1) i)
          | inr i ↦ in_filter p z (set_of row_cmp rows) (in_set row_cmp row_exact z rows i) f.1
        ]

    back : (z : List Value) → In z (gained_rows old (set_of row_cmp rows))
        → In z (gained_rows old (set_of row_cmp (old ++ rows)))
    back z m =
        let f = from_filter p z (set_of row_cmp rows) m in
        in_filter p z (set_of row_cmp (old ++ rows))
        (in_set row_cmp row_exact z (old ++ rows)
        (in_right z old rows (from_set row_cmp row_exact z rows f.0))) f.1

-- rows that are all there
none_gained : (new rows : Rows) → ((z : List Value) → In z rows → In z new)
    → gained_rows new rows ≡ []
none_gained new [] h = refl
none_gained new (row ∷ rows) h =
    ap (λ b. cond (not b) (row ∷ gained_rows new rows) (gained_rows new rows))
    (in_has row_cmp row_exact row new (h row (inl refl)))
    ∙ none_gained new rows (λ z i. h z (inr i))

pub none_lost : (old rows : Rows) → gained_rows (set_of row_cmp (old ++ rows)) old ≡ []
none_lost old rows = none_gained (set_of row_cmp (old ++ rows)) old
    (λ z i. in_set row_cmp row_exact z (old ++ rows) (in_left z old rows i))

-- ---- a command of INSERTs alone, and any other

given_fit : (columns : List Column) (changes : List PlainChange) (given : Rows) → AreColumns columns
    → AreAccepted columns changes → insertions columns changes ≡ Some given
    → (row : List Value) → In row given → IsRow columns row
given_fit columns [] given a accepted e row m = let n : given ≡ [] = cc in
    absurd (subst (In row) n m)
given_fit columns (insertion t cells ∷ changes) given a accepted e row m =
    step (λ g q k. given_fit columns changes g a accepted.1 q row k) (insertions columns changes)
    refl e
  where
    step : ((g : Rows) → insertions columns changes ≡ Some g → In row g → IsRow columns row)
        → (o : Option Rows) → insertions columns changes ≡ o
        → option_map (λ rows. row_of columns cells ∷ rows) o ≡ Some given → IsRow columns row
    step again None q h = absurd (cc)
    step again (Some g) q h =
        let is : given ≡ row_of columns cells ∷ g = cc in
        elim (subst (In row) is m) [
          | inl k ↦ subst (IsRow columns) k (inserted_row columns t cells accepted.0.0 a
              accepted.0.1)
          | inr k ↦ again g q k
        ]
given_fit columns (deletion t c ∷ changes) given a accepted e row m = absurd (cc)
given_fit columns (update t sets c ∷ changes) given a accepted e row m = absurd (cc)

pub given_relation : (columns : List Column) (changes : List PlainChange) (given : Rows)
    → AreColumns columns → AreAccepted columns changes → insertions columns changes ≡ Some given
    → IsRelation columns (set_of row_cmp given)
given_relation columns changes given a accepted e = record {
  ascending = set_ascends row_cmp row_exact given;
  fitting = λ row m. given_fit columns changes given a accepted e row
      (from_set row_cmp row_exact row given m);
}

pub kept_each : (columns : List Column) (changes : List PlainChange) (rows : Rows)
    → AreColumns columns → AreAccepted columns changes → IsRelation columns rows
    → IsRelation columns (relation_after_each columns changes rows)
kept_each columns [] rows a accepted h = h
kept_each columns (c ∷ changes) rows a accepted h =
    kept_each columns changes (relation_after columns c rows) a accepted.1
    (keeps_relation columns c accepted.0.0 rows a h accepted.0.1)
