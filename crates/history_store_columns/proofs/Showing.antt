-- The entries of a column show what its writes say.
use Rattle.std.proofs.Common.{◌≡◌, ◌⊎◌, ℕ, suc, zero, ◌+◌, ◌<◌, ◌≤◌, ◌&&◌, Bool, true, false, List}
use Rattle.std.proofs.Common.{[], ◌∷◌, ◌++◌, length, get_or, refl, sym, ap, ◌∙◌, subst, arith}
use Rattle.std.proofs.Common.{if◌then◌else◌, nat_le, nat_lt, ◌==◌, inl, inr, append-nil}
use Rattle.std.proofs.lemmas.Bool.Decides.{nat_tests}
use Rattle.std.proofs.lemmas.Bool.{cases_lt}
use Rattle.relations_spec.specs.Sets.{In}
use Rattle.relations_spec.specs.Spans.{Span, forever, covers}
use Rattle.relations_spec.proofs.SetLaws.{in_append, in_left, in_right}
use Rattle.prima_base.specs.declared.value.Value.{Value}
use Rattle.history_store_spec.specs.Store.{Cell, shown_at, IsBefore}
use Rattle.history_store_columns.specs.Log.{Write, over, value_at}
use Rattle.history_store_columns.specs.Chains.{of_id}
use Rattle.history_store_columns.specs.Entries.{entry, with_ends, entries_from, Climbs, Fits}
use Rattle.history_store_columns.specs.Entries.{IsHistory}
use Rattle.history_store_columns.specs.Entries.{AllCells}
use Rattle.history_store_columns.specs.Keys.{no_span}
use Rattle.history_store_columns.proofs.Histories.{Below}
use Rattle.history_store_columns.proofs.Entering.{Others, AllOf, all_of_id, segment_others}
use Rattle.history_store_columns.proofs.Entering.{entries_others}
use Rattle.history_store_columns.proofs.Newest.{over_nil}

abbrev pub latest : ℕ → List Write → List Value
latest m [] = []
latest m (c ∷ cells) = over (latest m cells) (if nat_le c.start m then c.value ∷ [] else [])

over_some : (x : List Value) (v : Value) (y : List Value)
    → over (over x (v ∷ [])) y ≡ over x (v ∷ [])
over_some [] v y = refl
over_some (w ∷ x) v y = refl

pub value_is : (id m : ℕ) (cells : List Write) → value_at id m cells ≡ latest m (of_id id cells)
value_is id m [] = refl
value_is id m (c ∷ cells) =
    let e = value_is id m cells in
    elim (c.id == id) as (λ b. over (value_at id m cells)
    (if b && nat_le c.start m then c.value ∷ [] else [])
    ≡ latest m (if b then c ∷ of_id id cells else of_id id cells)) [
      | true ↦ ap (λ vs. over vs (if nat_le c.start m then c.value ∷ [] else [])) e
      | false ↦ over_nil (value_at id m cells) ∙ e
    ]

none_yet : (m from to : ℕ) (cells : List Write) → m ≤ from → Climbs from to cells
    → latest m cells ≡ []
none_yet m from to [] h l = refl
none_yet m from to (c ∷ cells) h l =
    let b : from < c.start = l.0 in
    let e = none_yet m c.start to cells (omega (arith, h, b)) l.1 in
    let n : nat_le c.start m ≡ false = grind (arith, nat_tests) in
    rw (e, n) refl

one_over : (x : List Value) (v : Value) → ((w : Value) × (x ≡ w ∷ [])) ⊎ (x ≡ []) → (w : Value)
    × (over x (v ∷ []) ≡ w ∷ [])
one_over x v (inl e) = (e.0, rw e.1 refl)
one_over x v (inr e) = (v, rw e refl)

at_most_one : (m : ℕ) (cells : List Write) → ((w : Value) × (latest m cells ≡ w ∷ []))
    ⊎ (latest m cells ≡ [])
at_most_one m [] = inr refl
at_most_one m (c ∷ cells) = by_case (nat_le c.start m) (at_most_one m cells)
  where
    by_case : (b : Bool) → ((w : Value) × (latest m cells ≡ w ∷ [])) ⊎ (latest m cells ≡ [])
        → ((w : Value) × (over (latest m cells) (if b then c.value ∷ [] else []) ≡ w ∷ []))
        ⊎ (over (latest m cells) (if b then c.value ∷ [] else []) ≡ [])
    by_case true r = inl (one_over (latest m cells) c.value r)
    by_case false (inl r) = inl (r.0, over_nil (latest m cells) ∙ r.1)
    by_case false (inr r) = inr (over_nil (latest m cells) ∙ r)

pub some_value : (m : ℕ) (c : Write) (cells : List Write) → c.start ≤ m → (w : Value)
    × (latest m (c ∷ cells) ≡ w ∷ [])
some_value m c cells h =
    let t : nat_le c.start m ≡ true = grind (arith, nat_tests) in
    rw t (one_over (latest m cells) c.value (at_most_one m cells))

-- the entries of one id
segment_shown : (id m to : ℕ) (c : Write) (cells : List Write) → AllOf id (c ∷ cells)
    → Climbs c.start to cells → shown_at id m (with_ends to (c ∷ cells))
    ≡ (if nat_lt m to then latest m (c ∷ cells) else [])
segment_shown id m to c [] a l =
    let i : (c.id == id) ≡ true = (let e : c.id ≡ id = a.0 in grind (arith, nat_tests)) in
    rw i (by_case (nat_le c.start m) (nat_lt m to))
  where
    by_case : (b t : Bool) → (if b && t then c.value ∷ [] else [])
        ≡ (if t then (if b then c.value ∷ [] else []) else [])
    by_case true true = refl
    by_case true false = refl
    by_case false true = refl
    by_case false false = refl
segment_shown id m to c (d ∷ cells) a l =
    let i : (c.id == id) ≡ true = (let e : c.id ≡ id = a.0 in grind (arith, nat_tests)) in
    let again = segment_shown id m to d cells a.1 l.1 in
    let cd : c.start < d.start = l.0 in
    elim (cases_lt m d.start) [
      | inl b ↦
          let t : nat_lt m d.start ≡ true = grind (arith, nat_tests) in
          let n : latest m (d ∷ cells) ≡ [] = none_yet m m to (d ∷ cells) (omega arith) (b, l.1) in
          let u : nat_lt m to ≡ true = (let k = above d.start to cells l.1 in
          grind (arith, nat_tests)) in
          rw (i, t, again, u, n) (before (nat_le c.start m))
      | inr b ↦
          let t : nat_lt m d.start ≡ false = grind (arith, nat_tests) in
          let u : nat_le c.start m ≡ true = grind (arith, nat_tests) in
          let w : nat_le d.start m ≡ true = grind (arith, nat_tests) in
          rw (i, t, again, u, w) (after (nat_lt m to))
    ]
  where
    above : (from to : ℕ) (cells : List Write) → Climbs from to cells → from < to
    above from to [] h = h
    above from to (c ∷ cells) h = let r = above c.start to cells h.1 in let s : from < c.start =
        h.0 in omega (arith, r, s)

    before : (b : Bool) → (if b && true then c.value ∷ [] else [])
        ≡ (if b then c.value ∷ [] else [])
    before true = refl
    before false = refl

    after : (b : Bool) → (if b then over (latest m cells) (d.value ∷ []) else [])
        ≡ (if b then over (over (latest m cells) (d.value ∷ [])) (c.value ∷ []) else [])
    after true = sym (over_some (latest m cells) d.value (c.value ∷ []))
    after false = refl

fit_shown : (id m : ℕ) (key : Span) (cells : List Write) → AllOf id cells → Fits key cells
    → shown_at id m (with_ends key.end cells) ≡ (if covers key m then latest m cells else [])
fit_shown id m key [] a f = absurd f
fit_shown id m key (c ∷ cells) a f =
    let s : c.start ≡ key.start = f.0 in
    segment_shown id m key.end c cells a f.1
    ∙ elim (cases_lt m key.start) [
      | inl b ↦
          let n : latest m (c ∷ cells) ≡ [] =
          none_yet m m key.end (c ∷ cells) (omega arith) (omega (arith, b, s), f.1) in
          let t : nat_le key.start m ≡ false = grind (arith, nat_tests) in
          rw (n, t) (nothing (nat_lt m key.end) [] refl)
      | inr b ↦
          let t : nat_le key.start m ≡ true = grind (arith, nat_tests) in
          rw t refl
    ]
  where
    nothing : (b : Bool) (vs : List Value) → vs ≡ [] → (if b then vs else vs) ≡ []
    nothing true vs e = e
    nothing false vs e = e

shown_append : (id m : ℕ) (xs ys : List Cell)
    → shown_at id m (xs ++ ys) ≡ shown_at id m xs ++ shown_at id m ys
shown_append id m [] ys = refl
shown_append id m (c ∷ xs) ys =
    let e = shown_append id m xs ys in
    elim (c.id == id && covers c.period m) as (λ b.
    (if b then c.value ∷ shown_at id m (xs ++ ys) else shown_at id m (xs ++ ys))
    ≡ (if b then c.value ∷ shown_at id m xs else shown_at id m xs) ++ shown_at id m ys)
    [ true ↦ ap (λ vs. c.value ∷ vs) e | false ↦ e ]

others_show : (id m : ℕ) (xs : List Cell) → Others id xs → shown_at id m xs ≡ []
others_show id m [] o = refl
others_show id m (c ∷ xs) o = let t = o.0 in rw t (others_show id m xs o.1)

-- a column's entries
shown_from : (low j id m : ℕ) (keys : List Span) (cells : List Write) → id ≡ low + j
    → j < length keys → Fits (get_or keys j no_span) (of_id id cells)
    → shown_at id m (entries_from low keys cells)
    ≡ (if covers (get_or keys j no_span) m then value_at id m cells else [])
shown_from low j id m [] cells e h f = absurd (omega arith)
shown_from low zero id m (k ∷ keys) cells e h f =
    let i : low ≡ id = omega (arith, e) in
    shown_append id m (with_ends k.end (of_id low cells)) (entries_from (low + 1) keys cells)
    ∙ ap (λ vs. shown_at id m (with_ends k.end (of_id low cells)) ++ vs)
    (others_show id m (entries_from (low + 1) keys cells)
    (entries_others (low + 1) id keys cells (omega (arith, e))))
    ∙ append-nil (shown_at id m (with_ends k.end (of_id low cells)))
    ∙ ap (λ n. shown_at id m (with_ends k.end (of_id n cells))) i
    ∙ fit_shown id m k (of_id id cells) (all_of_id id cells) f
    ∙ ap (λ vs. if covers k m then vs else []) (sym (value_is id m cells))
shown_from low (suc j) id m (k ∷ keys) cells e h f =
    shown_append id m (with_ends k.end (of_id low cells)) (entries_from (low + 1) keys cells)
    ∙ ap (λ vs. vs ++ shown_at id m (entries_from (low + 1) keys cells))
    (others_show id m (with_ends k.end (of_id low cells))
    (segment_others low id k.end cells (λ q. omega (arith, q, e))))
    ∙ shown_from (low + 1) j id m keys cells (omega (arith, e)) (omega (arith, h)) f

pub shown_is : (id m : ℕ) (keys : List Span) (cells : List Write) → IsHistory keys cells
    → id < length keys → shown_at id m (entries_from 0 keys cells)
    ≡ (if covers (get_or keys id no_span) m then value_at id m cells else [])
shown_is id m keys cells h b = shown_from 0 id id m keys cells (omega arith) b (h.fits id b)

-- each write has an entry
with_start : (to : ℕ) (cells : List Write) (c : Write) → In c cells → (e : Cell)
    × In e (with_ends to cells) × (e.period.start ≡ c.start)
with_start to [] c i = absurd i
with_start to (d ∷ []) c (inl e) = (entry d to, inl refl, ap (λ (w : Write). w.start) e)
with_start to (d ∷ []) c (inr i) = absurd i
with_start to (d ∷ (f ∷ cells)) c (inl e) = (
  entry d f.start,
  inl refl,
  ap (λ (w : Write). w.start) e,
)
with_start to (d ∷ (f ∷ cells)) c (inr i) = let r = with_start to (f ∷ cells) c i in
    (r.0, inr r.1, r.2)

in_of_id : (cells : List Write) (c : Write) → In c cells → In c (of_id c.id cells)
in_of_id [] c i = absurd i
in_of_id (d ∷ cells) c (inl e) = let t : (d.id == c.id) ≡ true =
    (let s : d.id ≡ c.id = ap (λ (w : Write). w.id) e in grind (arith, nat_tests)) in rw t (inl e)
in_of_id (d ∷ cells) c (inr i) =
    let r = in_of_id cells c i in
    elim (d.id == c.id) as (λ b. In c (if b then d ∷ of_id c.id cells else of_id c.id cells))
    [ true ↦ inr r | false ↦ r ]

pub in_entries : (low j id : ℕ) (keys : List Span) (cells : List Write) (e : Cell) → id ≡ low + j
    → j < length keys → In e (with_ends (get_or keys j no_span).end (of_id id cells))
    → In e (entries_from low keys cells)
in_entries low j id [] cells e n h i = absurd (omega arith)
in_entries low zero id (k ∷ keys) cells e n h i =
    let q : id ≡ low = omega (arith, n) in
    in_left e (with_ends k.end (of_id low cells)) (entries_from (low + 1) keys cells)
    (subst (λ x. In e (with_ends k.end (of_id x cells))) q i)
in_entries low (suc j) id (k ∷ keys) cells e n h i =
    in_right e (with_ends k.end (of_id low cells)) (entries_from (low + 1) keys cells)
    (in_entries (low + 1) j id keys cells e (omega (arith, n)) (omega (arith, h)) i)

below_from : (stamp : ℕ) (cells : List Write) → ((c : Write) → In c cells → c.start < stamp)
    → Below stamp cells
below_from stamp [] f = tt
below_from stamp (c ∷ cells) f = (f c (inl refl), below_from stamp cells (λ d i. f d (inr i)))

pub all_below : (stamp : ℕ) (keys : List Span) (cells : List Write) → IsHistory keys cells
    → ((e : Cell) → In e (entries_from 0 keys cells) → e.period.start < stamp) → Below stamp cells
all_below stamp keys cells h f = below_from stamp cells (λ c i. (
    let r = with_start (get_or keys c.id no_span).end (of_id c.id cells) c (in_of_id cells c i) in
    let s = f r.0 (in_entries 0 c.id c.id keys cells r.0 (omega arith) (h.known c i) r.1) in
    subst (λ n. n < stamp) r.2 s))

pub below_of_id : (id stamp : ℕ) (cells : List Write) → Below stamp cells
    → Below stamp (of_id id cells)
below_of_id id stamp [] b = tt
below_of_id id stamp (c ∷ cells) b =
    let r = below_of_id id stamp cells b.1 in
    elim (c.id == id) as (λ q. Below stamp (if q then c ∷ of_id id cells else of_id id cells))
    [ true ↦ (b.0, r) | false ↦ r ]

pub cells_to : (stamp last : ℕ) (cells : List Write) → stamp ≤ last + 1 → Below stamp cells
    → AllCells last cells
cells_to stamp last [] l b = tt
cells_to stamp last (c ∷ cells) l b = let s : c.start < stamp = b.0 in
    (omega (arith, s, l), cells_to stamp last cells l b.1)

-- where all writes are from so early, all entries are
ends_before : (last to m : ℕ) (cells : List Write) (e : Cell) → AllCells last cells → last < m
    → (to < m) ⊎ (to ≡ forever) → In e (with_ends to cells) → IsBefore m e.period
ends_before last to m [] e a l t i = absurd i
ends_before last to m (c ∷ []) e a l t (inl i) =
    subst (λ (x : Cell). IsBefore m x.period) i
    (let s : c.start ≤ last = a.0 in omega (arith, s, l), t)
ends_before last to m (c ∷ []) e a l t (inr i) = absurd i
ends_before last to m (c ∷ (d ∷ cells)) e a l t (inl i) =
    subst (λ (x : Cell). IsBefore m x.period) i (
      let s : c.start ≤ last = a.0 in omega (arith, s, l),
      inl (let s : d.start ≤ last = a.1.0 in omega (arith, s, l)),
    )
ends_before last to m (c ∷ (d ∷ cells)) e a l t (inr i) =
    ends_before last to m (d ∷ cells) e a.1 l t i

all_of : (last id : ℕ) (cells : List Write) → AllCells last cells → AllCells last (of_id id cells)
all_of last id [] a = tt
all_of last id (c ∷ cells) a =
    let r = all_of last id cells a.1 in
    elim (c.id == id) as (λ q. AllCells last (if q then c ∷ of_id id cells else of_id id cells))
    [ true ↦ (a.0, r) | false ↦ r ]

pub entries_before : (low last m : ℕ) (keys : List Span) (cells : List Write) (e : Cell)
    → AllCells last cells → last < m → ((id : ℕ) → id < length keys
    → ((get_or keys id no_span).end ≤ last) ⊎ ((get_or keys id no_span).end ≡ forever))
    → In e (entries_from low keys cells) → IsBefore m e.period
entries_before low last m [] cells e a l f i = absurd i
entries_before low last m (k ∷ keys) cells e a l f i =
    elim (in_append e (with_ends k.end (of_id low cells)) (entries_from (low + 1) keys cells) i) [
      | inl j ↦ ends_before last k.end m (of_id low cells) e (all_of last low cells a) l
          (elim (f 0 (omega arith)) [ inl q ↦ inl (omega (arith, q, l)) | inr q ↦ inr q ]) j
      | inr j ↦ entries_before (low + 1) last m keys cells e a l
          (λ id h. f (suc id) (omega (arith, h))) j
    ]
