-- How much is counted after so many turns.
use Rattle.std.specs.Prelude.{◌≡◌, ℕ, ◌+◌, ◌^◌, ◌<◌, ◌≤◌, ℤ, pos, ◌+ℤ◌, ◌≤ℤ◌, Bool, true}
use Rattle.std.specs.Prelude.{false, cond, List, [], ◌∷◌, length, All}
use Rattle.std.proofs.Common.{sym, subst, arith}
use Rattle.std.specs.List.Sorted.{IsPermutation}
use Rattle.std.specs.Ordering.{is_eq}
use Rattle.std.proofs.lemmas.Int.{ints}
use Rattle.std.proofs.lemmas.List.Sorted.{All-permutation}
use Rattle.std.proofs.lemmas.List.Elements.{All-cons, All-nil}
use Rattle.prima_base.specs.declared.value.Value.{Value}
use Rattle.prima_base.specs.declared.timed_row.TimedRow.{TimedRow}
use Rattle.prima_base.specs.Order.{value_cmp}
use Rattle.temporal_lang_types.specs.declared.agg_item.AggItem.{AggItem}
use Rattle.temporal_lang_types.specs.declared.agg_item.AggItem.TheVariants.{Count, Min, Max, Sum}
use Rattle.time_aggregate.specs.declared.tally.Tally.{Tally}
use Rattle.time_aggregate.specs.declared.turn.Turn.{Turn}
use Rattle.time_aggregate.specs.declared.sweep.Held.{Held}
use Rattle.time_aggregate.specs.Aggregates.{Row, cell}
use Rattle.time_aggregate.specs.Turns.{weigh, signed, row_at, turns_from, opening, closing}
use Rattle.time_aggregate.specs.Tallies.{IsTally, IsHeld, HasRoom, IsWithin, has_value, is_value}

abbrev pub IsBit : ℤ → Type 0
IsBit n = (pos 0 ≤ℤ n) × (n ≤ℤ pos 1)

within_more : (k j : ℕ) (n : ℤ) → k ≤ j → IsWithin k n → IsWithin j n
within_more k j n h w =
    let a = w.0 in
    let b = w.1 in
    (omega (arith, ints), omega (arith, ints))

within_next : (k : ℕ) (m n : ℤ) (opens : Bool) → IsBit m → IsWithin k n
    → IsWithin (k + 1) (signed opens m +ℤ n)
within_next k m n true b w =
    let p = b.0 in
    let q = b.1 in
    let r = w.0 in
    let s = w.1 in
    (omega (arith, ints), omega (arith, ints))
within_next k m n false b w =
    let p = b.0 in
    let q = b.1 in
    let r = w.0 in
    let s = w.1 in
    (omega (arith, ints), omega (arith, ints))

pub weigh_within : (f : ℕ → ℤ) → ((p : ℕ) → IsBit (f p)) → (done : List Turn)
    → IsWithin (length done) (weigh f done)
weigh_within f b [] = (omega (arith, ints), omega (arith, ints))
weigh_within f b (t ∷ done) =
    let e : length done + 1 ≡ length (t ∷ done) = omega arith in
    subst (λ (k : ℕ). IsWithin k (weigh f (t ∷ done))) e
    (within_next (length done) (f t.place) (weigh f done) t.opens (b t.place)
    (weigh_within f b done))

no_bit : IsBit (pos 0)
no_bit = (omega (arith, ints), omega (arith, ints))

value_bit : (v w : Value) → IsBit (is_value v w)
value_bit v w = elim (is_eq (value_cmp v w)) as (λ (b : Bool). IsBit (cond b (pos 1) (pos 0))) [
  | true ↦ (omega (arith, ints), omega (arith, ints))
  | false ↦ no_bit
]

has_bit : (item : AggItem) (v : Value) (row : Row) → IsBit (has_value item v row)
has_bit Count v row = no_bit
has_bit (Sum place) v row = no_bit
has_bit (Min place) v row = value_bit v (cell place row)
has_bit (Max place) v row = value_bit v (cell place row)

has_room : (rows : List Row) (done : List Turn) (t : Tally) → length done ≤ 2 ^ 63
    → IsTally rows done t → HasRoom t
has_room rows done t l p = (
  within_more (length done) (2 ^ 63) t.sum l p.within,
  λ v. subst (λ (n : ℤ). IsWithin (2 ^ 63) n) (sym (p.counts v))
      (within_more (length done) (2 ^ 63)
      (weigh (λ place. has_value t.item v (row_at rows place)) done) l
      (weigh_within (λ place. has_value t.item v (row_at rows place)) (λ place.
      has_bit t.item v (row_at rows place)) done)),
)

pub held_room : (wanted : List AggItem) (rows : List Row) (done : List Turn) (held : Held)
    → length done ≤ 2 ^ 63 → IsHeld wanted rows done held → All HasRoom held.tallies.items
held_room wanted rows done held l p = λ k d h. has_room rows done _ l (p.each k d h)

pub held_few : (wanted : List AggItem) (rows : List Row) (done : List Turn) (held : Held)
    → length done ≤ 2 ^ 63 → IsHeld wanted rows done held → IsWithin (2 ^ 63) held.count
held_few wanted rows done held l p = subst (λ (n : ℤ). IsWithin (2 ^ 63) n) (sym p.count)
    (within_more (length done) (2 ^ 63) (weigh (λ place. pos 1) done) l
    (weigh_within (λ place. pos 1) (λ place. (omega (arith, ints), omega (arith, ints))) done))

places_from : (place : ℕ) (rows : List TimedRow) (top : ℕ) → place + length rows ≤ top
    → All (λ (t : Turn). t.place < top) (turns_from place rows)
places_from place [] top h = All-nil (λ (t : Turn). t.place < top)
places_from place (r ∷ rows) top h = All-cons (λ (t : Turn). t.place < top) (opening place r)
    (closing place r ∷ turns_from (place + 1) rows) (omega arith)
    (All-cons (λ (t : Turn). t.place < top) (closing place r) (turns_from (place + 1) rows)
    (omega arith) (places_from (place + 1) rows top (omega arith)))

pub all_places : (place : ℕ) (rows : List TimedRow) (turns : List Turn) (top : ℕ)
    → place + length rows ≤ top → IsPermutation (turns_from place rows) turns
    → All (λ (t : Turn). t.place < top) turns
all_places place rows turns top h p = All-permutation (λ (t : Turn). t.place < top)
    (turns_from place rows) turns p (places_from place rows top h)
