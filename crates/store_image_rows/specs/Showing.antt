-- What ids show in periods, in order: which of it goes on, and whether two ids show one thing at
-- one moment.
use Rattle.std.specs.Prelude.{◌≡◌, ◌≤◌, ℕ, ℤ, ◌&&◌, not, Bool, true, false, List, [], ◌∷◌, map}
use Rattle.std.specs.Prelude.{length, nat_lt, nat_le, Option, Some, None, if◌then◌else◌}
use Rattle.std.specs.List.{flat_map}
use Rattle.std.specs.List.Sorted.{IsPermutation, IsSorted}
use Rattle.std.specs.Ordering.{nat_cmp, ordering_then, is_eq}
use Rattle.std.specs.declared.cmp.Ordering.{Ordering}
use Rattle.std.specs.declared.vec.Vec.{Vec}
use Rattle.std.specs.declared.alloc.Global.{Global}
use Rattle.relations_spec.specs.Spans.{Span, span, forever}
use Rattle.prima_base.specs.Order.{shown}
use Rattle.prima_base.specs.declared.value.Val.{Val}
use Rattle.prima_base.specs.declared.value.Value.{Value}
use Rattle.prima_base.specs.declared.value.Value.TheVariants.{Int}
use Rattle.history_store_spec.specs.Store.{Cell}
use Rattle.history_store.specs.Restoring.{IsInOrder}
use Rattle.store_image_rows.specs.declared.order.Showing.{Showing}
use Rattle.store_image_rows.specs.Stretches.{RowStretch}

-- ---- stretches of what is shown

-- what an id shows, as values of a row
abbrev pub stretch_at : {T : Type 0} → (T → List Value) → Showing T → RowStretch
stretch_at values s = record { id = s.id; row = values s.item; period = span s.start s.end }

-- a number alone, a value alone, and a whole row
abbrev pub number_alone : ℤ → List Value
number_alone n = Int n ∷ []

abbrev pub alone : Val → List Value
alone v = shown v ∷ []

abbrev pub as_row : Vec Val Global → List Value
as_row row = map shown row.items

-- the entry of a column, as a row of one value
abbrev pub stretch_in : Cell → RowStretch
stretch_in c = record { id = c.id; row = c.value ∷ []; period = c.period }

-- ---- in order

-- by what is shown, then by the start
abbrev pub showing_cmp : {T : Type 0} → (T → T → Ordering) → Showing T → Showing T → Ordering
showing_cmp cmp s t = ordering_then (cmp s.item t.item)
    (ordering_then (nat_cmp s.start t.start) (ordering_then (nat_cmp s.end t.end)
    (nat_cmp s.id t.id)))

-- they show one thing, and have a common moment
abbrev pub clash : {T : Type 0} → (T → T → Ordering) → Showing T → Showing T → Bool
clash cmp s t = (nat_lt s.start t.end && nat_lt t.start s.end) && is_eq (cmp s.item t.item)

-- none with the next
abbrev pub none_clash : {T : Type 0} → (T → T → Ordering) → List (Showing T) → Bool
none_clash cmp [] = true
none_clash cmp (s ∷ []) = true
none_clash cmp (s ∷ (t ∷ rest)) = not (clash cmp s t) && none_clash cmp (t ∷ rest)

-- it goes on, and the ids of what does
abbrev pub goes_on : {T : Type 0} → Showing T → Bool
goes_on s = nat_le forever s.end

abbrev pub id_on : {T : Type 0} → Showing T → List ℕ
id_on s = if goes_on s then s.id ∷ [] else []

abbrev pub ids_on : {T : Type 0} → List (Showing T) → List ℕ
ids_on showing = flat_map id_on showing

-- the ids of what goes on, where none in order clashes with the next
abbrev pub IsVerdict : {T : Type 0} → (T → T → Ordering) → List (Showing T) → Option (Vec ℕ Global)
    → Type 0
IsVerdict cmp sorted None = none_clash cmp sorted ≡ false
IsVerdict cmp sorted (Some ids) = (none_clash cmp sorted ≡ true) × (ids.items ≡ ids_on sorted)

pub record IsShowingChecked {T : Type 0} (cmp : T → T → Ordering) (showing : List (Showing T))
    (answer : Option (Vec ℕ Global)) : Type 0 where
  pub sorted : List (Showing T)
  pub moved : IsPermutation showing sorted
  pub rises : IsSorted (showing_cmp cmp) sorted
  pub verdict : IsVerdict cmp sorted answer

-- ---- the current rows

-- these are the ids of the rows that go on, in the order of their rows; of a table that has columns
abbrev pub AreOrdered : List Span → List (List Cell) → List ℕ → Type 0
AreOrdered keys cells ids = 1 ≤ length cells → IsInOrder keys cells ids
