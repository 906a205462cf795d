-- The entries of a column fill its keys, and ascend.
use Rattle.std.proofs.Common.{◌≡◌, ℕ, suc, ◌+◌, ◌<◌, ◌≤◌, Bool, true, false, List, [], ◌∷◌, length}
use Rattle.std.proofs.Common.{get_or, refl, sym, ap, ◌∙◌, subst, arith, if◌then◌else◌, inl, inr}
use Rattle.std.specs.Prelude.{MatchBool}
use Rattle.std.specs.Ordering.{nat_cmp}
use Rattle.std.specs.declared.cmp.Ordering.TheVariants.{Less, Equal}
use Rattle.std.proofs.lemmas.Bool.Decides.{nat_tests}
use Rattle.std.proofs.lemmas.Cmp.{nat_cmp_total, tied_itself}
use Rattle.relations_spec.specs.Sets.{In, BeforeAll, Ascends}
use Rattle.relations_spec.specs.Spans.{Span, forever, covers}
use Rattle.relations_spec.proofs.SetLaws.{in_append, ascends_append}
use Rattle.relations_spec.proofs.ListingLaws.{nat_less}
use Rattle.prima_base.specs.declared.value.Value.{Value}
use Rattle.history_store_spec.specs.Store.{Cell, shown_at, Fills, IsPeriod, cell_cmp, IsFilled}
use Rattle.history_store_columns.specs.Log.{Write, value_at}
use Rattle.history_store_columns.specs.Chains.{of_id}
use Rattle.history_store_columns.specs.Entries.{entry, with_ends, entries_from, Climbs, Fits}
use Rattle.history_store_columns.specs.Entries.{IsHistory}
use Rattle.history_store_columns.specs.Keys.{no_span}
use Rattle.history_store_columns.proofs.Entering.{AllOf, all_of_id}
use Rattle.history_store_columns.proofs.Showing.{latest, value_is, some_value, shown_is}

-- each entry belongs to a key
fills : (id : ℕ) (keys : List Span) (cells : List Write) → IsHistory keys cells → id < length keys
    → Fills (get_or keys id no_span) id (entries_from 0 keys cells)
fills id keys cells h b m = by_case (covers (get_or keys id no_span) m) refl
    (shown_is id m keys cells h b)
  where
    there : (key : Span) (cs : List Write) → Fits key cs → covers key m ≡ true → (w : Value)
        × (latest m cs ≡ w ∷ [])
    there key [] f t = absurd f
    there key (c ∷ cs) f t = let s : c.start ≡ key.start = f.0 in
        some_value m c cs (grind (arith, nat_tests))

    by_case : (q : Bool) → covers (get_or keys id no_span) m ≡ q
        → shown_at id m (entries_from 0 keys cells) ≡ (if q then value_at id m cells else [])
        → MatchBool q ((v : Value) × (shown_at id m (entries_from 0 keys cells) ≡ v ∷ []))
        (shown_at id m (entries_from 0 keys cells) ≡ [])
    by_case true t e = let v = there (get_or keys id no_span) (of_id id cells) (h.fits id b) t in
        (v.0, e ∙ value_is id m cells ∙ v.1)
    by_case false t e = e

ends_id : (to : ℕ) (id : ℕ) (cells : List Write) (e : Cell) → AllOf id cells
    → In e (with_ends to cells) → e.id ≡ id
ends_id to id [] e a i = absurd i
ends_id to id (c ∷ []) e a (inl i) = sym (ap (λ (x : Cell). x.id) i) ∙ a.0
ends_id to id (c ∷ []) e a (inr i) = absurd i
ends_id to id (c ∷ (d ∷ cells)) e a (inl i) = sym (ap (λ (x : Cell). x.id) i) ∙ a.0
ends_id to id (c ∷ (d ∷ cells)) e a (inr i) = ends_id to id (d ∷ cells) e a.1 i

entry_known : (low : ℕ) (keys : List Span) (cells : List Write) (e : Cell)
    → In e (entries_from low keys cells) → e.id < low + length keys
entry_known low [] cells e i = absurd i
entry_known low (k ∷ keys) cells e i = elim (in_append e (with_ends k.end (of_id low cells))
    (entries_from (low + 1) keys cells) i) [
      | inl j ↦ let n = ends_id k.end low (of_id low cells) e (all_of_id low cells) j in
          omega (arith, n)
      | inr j ↦ let n = entry_known (low + 1) keys cells e j in omega (arith, n)
    ]

-- each entry has a moment
climbs_on : (from to : ℕ) (cells : List Write) → Climbs from to cells → from < to
climbs_on from to [] h = h
climbs_on from to (c ∷ cells) h = let r = climbs_on c.start to cells h.1 in let s : from < c.start =
    h.0 in omega (arith, r, s)

ends_lasting : (to : ℕ) (c : Write) (cells : List Write) (e : Cell) → Climbs c.start to cells
    → to ≤ forever → In e (with_ends to (c ∷ cells)) → IsPeriod e.period
ends_lasting to c [] e h l (inl i) = subst (λ (x : Cell). IsPeriod x.period) i (h, l)
ends_lasting to c [] e h l (inr i) = absurd i
ends_lasting to c (d ∷ cells) e h l (inl i) =
    subst (λ (x : Cell). IsPeriod x.period) i
    (h.0, (let r = climbs_on d.start to cells h.1 in omega (arith, r, l)))
ends_lasting to c (d ∷ cells) e h l (inr i) = ends_lasting to d cells e h.1 l i

fit_lasting : (key : Span) (cells : List Write) (e : Cell) → Fits key cells → key.end ≤ forever
    → In e (with_ends key.end cells) → IsPeriod e.period
fit_lasting key [] e f l i = absurd f
fit_lasting key (c ∷ cells) e f l i = ends_lasting key.end c cells e f.1 l i

-- the entries ascend
cell_later : (a b : Cell) → a.id ≡ b.id → a.period.start < b.period.start → cell_cmp a b ≡ Less
cell_later a b e l = let f : nat_cmp a.id b.id ≡ Equal = ap (λ n. nat_cmp a.id n) (sym e)
    ∙ tied_itself nat_cmp_total a.id in rw f (nat_less a.period.start b.period.start l)

cell_above : (a b : Cell) → a.id < b.id → cell_cmp a b ≡ Less
cell_above a b l = let f = nat_less a.id b.id l in rw f refl

ends_above : (id low to : ℕ) (e : Cell) (cells : List Write) → e.id ≡ id → e.period.start ≤ low
    → AllOf id cells → Climbs low to cells → BeforeAll cell_cmp e (with_ends to cells)
ends_above id low to e [] n s a h = tt
ends_above id low to e (c ∷ []) n s a h = (
  let l : low < c.start = h.0 in
      cell_later e (entry c to) (n ∙ sym a.0) (omega (arith, s, l)),
  tt,
)
ends_above id low to e (c ∷ (d ∷ cells)) n s a h =
    let l : low < c.start = h.0 in (
      cell_later e (entry c d.start) (n ∙ sym a.0) (omega (arith, s, l)),
      ends_above id c.start to e (d ∷ cells) n (omega (arith, s, l)) a.1 h.1,
    )

ends_ascend : (id to : ℕ) (c : Write) (cells : List Write) → AllOf id (c ∷ cells)
    → Climbs c.start to cells → Ascends cell_cmp (with_ends to (c ∷ cells))
ends_ascend id to c [] a h = (tt, tt)
ends_ascend id to c (d ∷ cells) a h = (
  ends_above id c.start to (entry c d.start) (d ∷ cells) a.0
      (omega arith) a.1 h,
  ends_ascend id to d cells a.1 h.1,
)

fit_ascend : (id : ℕ) (key : Span) (cells : List Write) → AllOf id cells → Fits key cells
    → Ascends cell_cmp (with_ends key.end cells)
fit_ascend id key [] a f = absurd f
fit_ascend id key (c ∷ cells) a f = ends_ascend id key.end c cells a f.1

from_low : (low : ℕ) (keys : List Span) (cells : List Write) (e : Cell)
    → In e (entries_from low keys cells) → low ≤ e.id
from_low low [] cells e i = absurd i
from_low low (k ∷ keys) cells e i = elim (in_append e (with_ends k.end (of_id low cells))
    (entries_from (low + 1) keys cells) i) [
      | inl j ↦ let n = ends_id k.end low (of_id low cells) e (all_of_id low cells) j in
          omega (arith, n)
      | inr j ↦ let n = from_low (low + 1) keys cells e j in omega (arith, n)
    ]

-- the entries of the keys from one on
abbrev pub AllFit : ℕ → List Span → List Write → Type 0
AllFit low keys cells = (j : ℕ) → j < length keys
    → Fits (get_or keys j no_span) (of_id (low + j) cells)

first_fits : (low : ℕ) (k : Span) (keys : List Span) (cells : List Write)
    → AllFit low (k ∷ keys) cells → Fits k (of_id low cells)
first_fits low k keys cells f = let n : low + 0 ≡ low = omega arith in
    subst (λ x. Fits k (of_id x cells)) n (f 0 (omega arith))

rest_fit : (low : ℕ) (k : Span) (keys : List Span) (cells : List Write)
    → AllFit low (k ∷ keys) cells → AllFit (low + 1) keys cells
rest_fit low k keys cells f j h = let n : low + suc j ≡ (low + 1) + j = omega arith in
    subst (λ x. Fits (get_or keys j no_span) (of_id x cells)) n (f (suc j) (omega (arith, h)))

entries_lasting : (low : ℕ) (keys : List Span) (cells : List Write) (e : Cell)
    → AllFit low keys cells → ((j : ℕ) → j < length keys → (get_or keys j no_span).end ≤ forever)
    → In e (entries_from low keys cells) → IsPeriod e.period
entries_lasting low [] cells e f t i = absurd i
entries_lasting low (k ∷ keys) cells e f t i =
    elim (in_append e (with_ends k.end (of_id low cells)) (entries_from (low + 1) keys cells) i) [
      | inl j ↦ fit_lasting k (of_id low cells) e (first_fits low k keys cells f)
          (t 0 (omega arith)) j
      | inr j ↦ entries_lasting (low + 1) keys cells e (rest_fit low k keys cells f)
          (λ q h. t (suc q) (omega (arith, h))) j
    ]

pub entries_ascend : (low : ℕ) (keys : List Span) (cells : List Write) → AllFit low keys cells
    → Ascends cell_cmp (entries_from low keys cells)
entries_ascend low [] cells f = tt
entries_ascend low (k ∷ keys) cells f =
    ascends_append cell_cmp (with_ends k.end (of_id low cells)) (entries_from (low + 1) keys cells)
    (fit_ascend low k (of_id low cells) (all_of_id low cells) (first_fits low k keys cells f))
    (entries_ascend (low + 1) keys cells (rest_fit low k keys cells f))
    (λ x y i j. (let a = ends_id k.end low (of_id low cells) x (all_of_id low cells) i in let b =
    from_low (low + 1) keys cells y j in cell_above x y (omega (arith, a, b))))

pub column_filled : (keys : List Span) (cells : List Write) → IsHistory keys cells
    → ((id : ℕ) → id < length keys → IsPeriod (get_or keys id no_span))
    → IsFilled keys (entries_from 0 keys cells)
column_filled keys cells h f =
    let fit : AllFit 0 keys cells = λ q b. (let n : q ≡ 0 + q = omega arith in
    subst (λ x. Fits (get_or keys q no_span) (of_id x cells)) n (h.fits q b)) in
    record {
      known = λ d j. (let n : 0 + length keys ≡ length keys = omega arith in
          subst (λ k. d.id < k) n (entry_known 0 keys cells d j));
      lasting = λ d j. entries_lasting 0 keys cells d fit (λ q b. (f q b).1) j;
      filled = λ id b. fills id keys cells h b;
      ascending = entries_ascend 0 keys cells fit;
    }
