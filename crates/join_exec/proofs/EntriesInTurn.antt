-- The entries of a column are in turn.
use Rattle.std.proofs.Common.{◌≡◌, ◌⊎◌, ◌<◌, ◌≤◌, ℕ, Bool, true, false, List, [], ◌∷◌, length}
use Rattle.std.proofs.Common.{cond, refl, sym, ap, subst, arith, inl, inr}
use Rattle.std.specs.Prelude.{Some, ◌&&◌, ◌==◌, MatchBool, slice_index_or}
use Rattle.std.specs.Ordering.{nat_cmp, ordering_then}
use Rattle.std.specs.FinMap.{nat_cmp-IsAntisymmetric}
use Rattle.std.specs.declared.cmp.Ordering.{Ordering}
use Rattle.std.specs.declared.cmp.Ordering.TheVariants.{Less, Equal, Greater}
use Rattle.std.proofs.lemmas.Bool.{cases_lt}
use Rattle.relations_spec.specs.Sets.{In, BeforeAll, Ascends}
use Rattle.relations_spec.specs.Spans.{Span, span, covers}
use Rattle.relations_spec.proofs.Held.{covers_is}
use Rattle.relations_spec.proofs.ListingLaws.{less_nat}
use Rattle.prima_base.specs.declared.value.Value.{Value}
use Rattle.history_store_spec.specs.Store.{Cell, Store, IsPeriod, IsFilled, IsStore, shown_at}
use Rattle.history_store_spec.specs.Store.{cell_cmp}
use Rattle.history_store_spec.specs.Store.{column_of}
use Rattle.join_exec.specs.Entries.{Precedes, PrecedesAll, InTurn}
use Rattle.join_exec.proofs.Picking.{in_shown, shown_once, named_in}

less_cell : (a b : Cell) → cell_cmp a b ≡ Less → (a.id < b.id)
    ⊎ ((a.id ≡ b.id) × (a.period.start < b.period.start))
less_cell a b e = step (nat_cmp a.id b.id) refl e
  where
    step : (o : Ordering) → nat_cmp a.id b.id ≡ o
        → ordering_then o (nat_cmp a.period.start b.period.start) ≡ Less → (a.id < b.id)
        ⊎ ((a.id ≡ b.id) × (a.period.start < b.period.start))
    step Less q h = inl (less_nat a.id b.id q)
    step Equal q h = inr (
      nat_cmp-IsAntisymmetric a.id b.id q,
      less_nat a.period.start b.period.start h,
    )
    step Greater q h = absurd (cc)

each_less : (c : Cell) (cells : List Cell) (d : Cell) → BeforeAll cell_cmp c cells → In d cells
    → cell_cmp c d ≡ Less
each_less c [] d h k = absurd k
each_less c (e ∷ cells) d h (inl k) = subst (λ (w : Cell). cell_cmp c w ≡ Less) k h.0
each_less c (e ∷ cells) d h (inr k) = each_less c cells d h.1 k

some_long : (v : Value) (vs : List Value) → In v vs → 1 ≤ length vs
some_long v [] h = absurd h
some_long v (w ∷ vs) h = omega arith

-- at no moment an id shows two values
abbrev AtMostOne : ℕ → List Cell → Type 0
AtMostOne ids cells = (id m : ℕ) → id < ids → length (shown_at id m cells) ≤ 1

fewer : (ids : ℕ) (c : Cell) (cells : List Cell) → AtMostOne ids (c ∷ cells) → AtMostOne ids cells
fewer ids c cells f = λ id m h. step (shown_at id m cells) (c.id == id && covers c.period m)
    (f id m h)
  where
    step : (vs : List Value) (b : Bool) → length (cond b (c.value ∷ vs) vs) ≤ 1 → length vs ≤ 1
    step vs true k = omega arith
    step vs false k = k

one_filled : (keys : List Span) (cells : List Cell) → IsFilled keys cells
    → AtMostOne (length keys) cells
one_filled keys cells f = λ id m h. step (shown_at id m cells)
    (covers (slice_index_or keys id (span 0 0)) m) (f.filled id h m)
  where
    step : (vs : List Value) (b : Bool) → MatchBool b ((v : Value) × (vs ≡ v ∷ [])) (vs ≡ [])
        → length vs ≤ 1
    step vs true k = omega (arith, ap length k.1)
    step vs false k = omega (arith, ap length k)

-- so one ends before the next begins
ends_before : (ids : ℕ) (c : Cell) (cells : List Cell) (d : Cell) → c.id < ids → IsPeriod d.period
    → AtMostOne ids (c ∷ cells) → In d cells → c.id ≡ d.id → c.period.start < d.period.start
    → c.period.end ≤ d.period.start
ends_before ids c cells d known lasting f k i s = step (cases_lt d.period.start c.period.end)
  where
    step : (d.period.start < c.period.end) ⊎ (c.period.end ≤ d.period.start)
        → c.period.end ≤ d.period.start
    step (inl h) =
        let m = d.period.start in
        let first : covers c.period m ≡ true = (covers_is c.period m).1 (omega arith, h) in
        let second : covers d.period m ≡ true = (covers_is d.period m).1 (omega arith, lasting.0) in
        let there : In d.value (shown_at c.id m cells) =
        in_shown c.id m cells d.value (d, k, sym i, refl, second) in
        let two : shown_at c.id m (c ∷ cells) ≡ c.value ∷ shown_at c.id m cells =
        shown_once c.id m c cells refl first in
        absurd (omega (
          arith,
          ap length two,
          some_long d.value (shown_at c.id m cells) there,
          f c.id m known,
        ))
    step (inr h) = h

turn : (ids : ℕ) (cells : List Cell) → ((c : Cell) → In c cells → c.id < ids)
    → ((c : Cell) → In c cells → IsPeriod c.period) → AtMostOne ids cells → Ascends cell_cmp cells
    → InTurn cells
turn ids [] known lasting f a = tt
turn ids (c ∷ cells) known lasting f a = (
  after cells (λ d k. precedes d k),
  turn ids cells (λ d k. known d (inr k)) (λ d k. lasting d (inr k)) (fewer ids c cells f) a.1,
)
  where
    precedes : (d : Cell) → In d cells → Precedes c d
    precedes d k = by (less_cell c d (each_less c cells d a.0 k))
      where
        by : (c.id < d.id) ⊎ ((c.id ≡ d.id) × (c.period.start < d.period.start))
            → Precedes c d
        by (inl h) = inl h
        by (inr h) = inr (
          h.0,
          ends_before ids c cells d (known c (inl refl)) (lasting d (inr k)) f
              k h.0 h.1,
        )

    after : (ds : List Cell) → ((d : Cell) → In d ds → Precedes c d)
        → PrecedesAll c ds
    after [] g = tt
    after (d ∷ ds) g = (g d (inl refl), after ds (λ e k. g e (inr k)))

pub entries_turn : (s : Store) (name : List ℕ) (cells : List Cell) → IsStore s
    → column_of s name ≡ Some cells → InTurn cells
entries_turn s name cells w e =
    let f = w.filled cells (named_in s.columns s.cells name cells e) in
    turn (length s.keys) cells f.known f.lasting (one_filled s.keys cells f) f.ascending
