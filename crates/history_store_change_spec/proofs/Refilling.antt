-- The writes with which the entries of a column begin have just these entries.
use Rattle.std.proofs.Common.{◌≡◌, ◌⊎◌, ◌&&◌, ◌==◌, ℕ, suc, ◌+◌, ◌<◌, ◌≤◌, Bool, true, false, cond}
use Rattle.std.proofs.Common.{List, [], ◌∷◌, length, get_or, map, refl, sym, ap, ◌∙◌, subst, arith}
use Rattle.std.proofs.Common.{if◌then◌else◌, inl, inr}
use Rattle.std.specs.Prelude.{MatchBool, max}
use Rattle.std.specs.List.{filter}
use Rattle.std.specs.Cmp.{IsTotalOrder}
use Rattle.std.specs.Ordering.{nat_cmp, ordering_then}
use Rattle.std.specs.declared.cmp.Ordering.{Ordering}
use Rattle.std.specs.declared.cmp.Ordering.TheVariants.{Less, Equal, Greater}
use Rattle.std.proofs.lemmas.Bool.{cases_lt}
use Rattle.std.proofs.lemmas.Bool.Decides.{nat_tests, eqb_tells}
use Rattle.std.proofs.lemmas.Cmp.{nat_cmp_total, on_total, then_total, tied_itself}
use Rattle.relations_spec.specs.Sets.{In, Ascends}
use Rattle.relations_spec.specs.Spans.{Span, covers}
use Rattle.relations_spec.proofs.SetLaws.{in_append, in_filter, from_filter, from_map, before_in}
use Rattle.relations_spec.proofs.SetLaws.{one_list_of}
use Rattle.relations_spec.proofs.ListingLaws.{less_nat}
use Rattle.prima_base.specs.declared.value.Value.{Value}
use Rattle.history_store_columns.specs.Log.{Write}
use Rattle.history_store_spec.specs.Store.{Cell, shown_at, IsPeriod, cell_cmp, IsFilled}
use Rattle.history_store_columns.specs.Chains.{of_id}
use Rattle.history_store_columns.specs.Entries.{entry, with_ends, entries_from, Climbs, Fits}
use Rattle.history_store_columns.specs.Entries.{IsHistory}
use Rattle.history_store_columns.specs.Keys.{no_span}
use Rattle.history_store_change_spec.specs.Restoring.{write_of, AreInTurn, ids_known}
use Rattle.history_store_row_order.proofs.Sides.{passed_ascend}
use Rattle.history_store_columns.proofs.Showing.{in_entries}
use Rattle.history_store_columns.proofs.Filling.{entries_ascend}

-- ---- the order of entries

cell_total : IsTotalOrder cell_cmp
cell_total = then_total (on_total (λ (c : Cell). c.id) nat_cmp_total)
    (on_total (λ (c : Cell). c.period.start) nat_cmp_total)

cell_apart : (c : Cell) → cell_cmp c c ≡ Less → ⊥
cell_apart c l = let e : cell_cmp c c ≡ Equal = tied_itself cell_total c in absurd (cc)

-- of two entries in order the first has no greater id, and where the ids are one it starts earlier
ids_rise : (c d : Cell) → cell_cmp c d ≡ Less → c.id ≤ d.id
ids_rise c d l = by_case (nat_cmp c.id d.id) refl
  where
    by_case : (r : Ordering) → nat_cmp c.id d.id ≡ r → c.id ≤ d.id
    by_case Less e = let h = less_nat c.id d.id e in omega (arith, h)
    by_case Equal e = grind (arith, nat_tests)
    by_case Greater e = (let t : cell_cmp c d ≡ Greater =
        ap (λ r. ordering_then r (nat_cmp c.period.start d.period.start)) e in absurd (cc))

starts_rise : (c d : Cell) → c.id ≡ d.id → cell_cmp c d ≡ Less → c.period.start < d.period.start
starts_rise c d e l =
    let q : nat_cmp c.id d.id ≡ Equal = ap (λ n. nat_cmp c.id n) (sym e)
    ∙ tied_itself nat_cmp_total c.id in
    less_nat c.period.start d.period.start (sym
    (ap (λ r. ordering_then r (nat_cmp c.period.start d.period.start)) q) ∙ l)

-- ---- the entries of one id

abbrev pub own : ℕ → List Cell → List Cell
own id cells = filter (λ c. c.id == id) cells

own_id : (id : ℕ) (cells : List Cell) (c : Cell) → In c (own id cells) → c.id ≡ id
own_id id cells c i = let t = (from_filter (λ (x : Cell). x.id == id) c cells i).1 in
    grind (arith, nat_tests)

own_writes : (id : ℕ) (cells : List Cell) → of_id id (map write_of cells)
    ≡ map write_of (own id cells)
own_writes id [] = refl
own_writes id (c ∷ cells) =
    let e = own_writes id cells in
    elim (c.id == id) as (λ b. (if b then write_of c ∷ of_id id (map write_of cells)
    else of_id id (map write_of cells)) ≡ map write_of
    (cond b (c ∷ own id cells) (own id cells)))
    [ true ↦ ap (λ ws. write_of c ∷ ws) e | false ↦ e ]

own_shown : (id m : ℕ) (cells : List Cell) → shown_at id m cells ≡ shown_at id m (own id cells)
own_shown id m [] = refl
own_shown id m (c ∷ cells) = by_case (c.id == id) refl (own_shown id m cells)
  where
    by_case : (b : Bool) → (c.id == id) ≡ b → shown_at id m cells ≡ shown_at id m (own id cells)
        → (if b && covers c.period m then c.value ∷ shown_at id m cells else shown_at id m cells)
        ≡ shown_at id m (cond b (c ∷ own id cells) (own id cells))
    by_case true t e = rw t (ap (λ vs. if covers c.period m then c.value ∷ vs else vs) e)
    by_case false t e = e

shown_here : (id m : ℕ) (c : Cell) (cells : List Cell) → c.id ≡ id → covers c.period m ≡ true
    → shown_at id m (c ∷ cells) ≡ c.value ∷ shown_at id m cells
shown_here id m c cells e t = let i : (c.id == id) ≡ true = grind (arith, nat_tests) in
    rw (i, t) refl

shown_after : (id m : ℕ) (c : Cell) (cells : List Cell) → c.id ≡ id → covers c.period m ≡ false
    → shown_at id m (c ∷ cells) ≡ shown_at id m cells
shown_after id m c cells e t = let i : (c.id == id) ≡ true = grind (arith, nat_tests) in
    rw (i, t) refl

-- nothing is shown before all starts
none_yet : (id m : ℕ) (cells : List Cell) → ((c : Cell) → In c cells → c.id ≡ id)
    → ((c : Cell) → In c cells → m < c.period.start) → shown_at id m cells ≡ []
none_yet id m [] own s = refl
none_yet id m (c ∷ cells) own s =
    let l = s c (inl refl) in
    let t : covers c.period m ≡ false = grind (arith, nat_tests) in
    shown_after id m c cells (own c (inl refl)) t
    ∙ none_yet id m cells (λ d i. own d (inr i)) (λ d i. s d (inr i))

-- what is shown is an entry's
some_shown : (id m : ℕ) (cells : List Cell) (v : Value) → shown_at id m cells ≡ v ∷ [] → (c : Cell)
    × In c cells × (c.id ≡ id)
some_shown id m [] v e = absurd (cc)
some_shown id m (c ∷ cells) v e = by_case (eqb_tells c.id id) (some_shown id m cells v)
  where
    by_case : (((c.id == id) ≡ true) × (c.id ≡ id)) ⊎ (((c.id == id) ≡ false) × (c.id ≡ id → ⊥))
        → (shown_at id m cells ≡ v ∷ [] → (d : Cell) × In d cells × (d.id ≡ id)) → (d : Cell)
        × In d (c ∷ cells) × (d.id ≡ id)
    by_case (inl t) again = (c, inl refl, t.1)
    by_case (inr t) again = (let f = t.0 in let r = again (rw f at e) in (r.0, inr r.1, r.2))

-- entries that fill a period without gap or overlap: each ends where the next one starts, and the
-- last one with the period
module _ (id to : ℕ) where
  abbrev Shows : ℕ → List Cell → Type 0
  Shows from cells = (m : ℕ) → from ≤ m → m < to → (v : Value) × (shown_at id m cells ≡ v ∷ [])

  abbrev Hides : ℕ → List Cell → Type 0
  Hides from cells = (m : ℕ) → (m < from) ⊎ (to ≤ m) → shown_at id m cells ≡ []

  -- the first one starts with the period
  first_start : (from : ℕ) (c : Cell) (cells : List Cell)
      → ((d : Cell) → In d (c ∷ cells) → d.id ≡ id) → Ascends cell_cmp (c ∷ cells)
      → c.period.start < c.period.end → from < to → Shows from (c ∷ cells) → Hides from (c ∷ cells)
      → c.period.start ≡ from
  first_start from c cells own a l f shows hides =
      let low : from ≤ c.period.start = elim (cases_lt c.period.start from) [
        | inl b ↦ (
            let t : covers c.period c.period.start ≡ true = grind (arith, nat_tests) in
            let e : c.value ∷ shown_at id c.period.start cells ≡ [] =
            sym (shown_here id c.period.start c cells (own c (inl refl)) t)
            ∙ hides c.period.start (inl b) in
            absurd (cc))
        | inr b ↦ b
      ] in
      let high : c.period.start ≤ from = elim (cases_lt from c.period.start) [
        | inl b ↦ (
            let none = none_yet id from (c ∷ cells) own (λ d i. elim i [
              | inl e ↦ subst (λ (x : Cell). from < x.period.start) e b
              | inr j ↦ (let s = starts_rise c d (own c (inl refl) ∙ sym (own d (inr j)))
                  (before_in cell_cmp c d cells a.0 j) in omega (arith, s, b))
            ]) in
            let s = shows from (omega arith) f in
            let e : s.0 ∷ [] ≡ [] = sym s.1 ∙ none in
            absurd (cc))
        | inr b ↦ b
      ] in
      omega (arith, low, high)

  -- what it leaves to the others
  others_show : (from : ℕ) (c : Cell) (cells : List Cell) → c.id ≡ id → c.period.start ≡ from
      → c.period.start < c.period.end → Shows from (c ∷ cells) → Shows c.period.end cells
  others_show from c cells e s l shows m a b =
      let t : covers c.period m ≡ false = grind (arith, nat_tests) in
      let w = shows m (omega arith) b in
      (w.0, sym (shown_after id m c cells e t) ∙ w.1)

  tail_of : (v w : Value) (vs ws : List Value) → v ∷ vs ≡ w ∷ ws → vs ≡ ws
  tail_of v w vs ws e = cc

  others_hide : (from : ℕ) (c : Cell) (cells : List Cell) → c.id ≡ id → c.period.start ≡ from
      → c.period.start < c.period.end → c.period.end ≤ to → Shows from (c ∷ cells)
      → Hides from (c ∷ cells) → Hides c.period.end cells
  others_hide from c cells e s l b shows hides m (inl h) = elim (cases_lt m from) [
    | inl k ↦ (let t : covers c.period m ≡ false = grind (arith, nat_tests) in
        sym (shown_after id m c cells e t) ∙ hides m (inl k))
    | inr k ↦ (
        let t : covers c.period m ≡ true = grind (arith, nat_tests) in
        let w = shows m k (omega arith) in
        tail_of c.value w.0 (shown_at id m cells) [] (sym (shown_here id m c cells e t) ∙ w.1))
  ]
  others_hide from c cells e s l b shows hides m (inr h) =
      let t : covers c.period m ≡ false = grind (arith, nat_tests) in
      sym (shown_after id m c cells e t) ∙ hides m (inr h)

  -- it ends with the period where it is the only one
  one_end : (from : ℕ) (c : Cell) → c.id ≡ id → c.period.start ≡ from
      → c.period.start < c.period.end → from < to → Shows from (c ∷ []) → Hides from (c ∷ [])
      → c.period.end ≡ to
  one_end from c e s l f shows hides =
      let low : to ≤ c.period.end = elim (cases_lt c.period.end to) [
        | inl b ↦ (
            let w = others_show from c [] e s l shows c.period.end (omega arith) b in
            let q : w.0 ∷ [] ≡ [] = sym w.1 in
            absurd (cc))
        | inr b ↦ b
      ] in
      let high : c.period.end ≤ to = elim (cases_lt to c.period.end) [
        | inl b ↦ (
            let t : covers c.period to ≡ true = grind (arith, nat_tests) in
            let q : c.value ∷ [] ≡ [] = sym (shown_here id to c [] e t)
            ∙ hides to (inr (omega arith)) in
            absurd (cc))
        | inr b ↦ b
      ] in
      omega (arith, low, high)

  -- it ends before the period where another one follows
  next_end : (from : ℕ) (c d : Cell) (cells : List Cell)
      → ((x : Cell) → In x (c ∷ d ∷ cells) → x.id ≡ id) → Ascends cell_cmp (c ∷ d ∷ cells)
      → ((x : Cell) → In x (c ∷ d ∷ cells) → x.period.start < x.period.end)
      → Shows from (c ∷ d ∷ cells) → Hides from (c ∷ d ∷ cells) → c.period.end < to
  next_end from c d cells own a lasting shows hides =
      let s = starts_rise c d (own c (inl refl) ∙ sym (own d (inr (inl refl)))) a.0.0 in
      let l = lasting d (inr (inl refl)) in
      let m = d.period.start in
      let t : covers d.period m ≡ true = grind (arith, nat_tests) in
      let there : shown_at id m (d ∷ cells) ≡ d.value ∷ shown_at id m cells =
      shown_here id m d cells (own d (inr (inl refl))) t in
      elim (cases_lt m c.period.end) [
        | inl b ↦ (
            let u : covers c.period m ≡ true = grind (arith, nat_tests) in
            let both : shown_at id m (c ∷ d ∷ cells) ≡ c.value ∷ d.value ∷ shown_at id m cells =
            shown_here id m c (d ∷ cells) (own c (inl refl)) u
            ∙ ap (λ vs. c.value ∷ vs) there in
            by_place both (cases_lt m from) (cases_lt m to))
        | inr b ↦ (
            let u : covers c.period m ≡ false = grind (arith, nat_tests) in
            let one : shown_at id m (c ∷ d ∷ cells) ≡ d.value ∷ shown_at id m cells =
            shown_after id m c (d ∷ cells) (own c (inl refl)) u ∙ there in
            elim (cases_lt m to) [
              | inl k ↦ omega (arith, k, b)
              | inr k ↦ (let q : d.value ∷ shown_at id m cells ≡ [] = sym one ∙ hides m (inr k) in
                  absurd (cc))
            ])
      ]
    where
      by_place : shown_at id d.period.start (c ∷ d ∷ cells) ≡ c.value ∷ d.value
          ∷ shown_at id d.period.start cells → (d.period.start < from) ⊎ (from ≤ d.period.start)
          → (d.period.start < to) ⊎ (to ≤ d.period.start) → c.period.end < to
      by_place both (inl k) r = (let q : c.value ∷ d.value ∷ shown_at id d.period.start cells ≡ [] =
          sym both ∙ hides d.period.start (inl k) in absurd (cc))
      by_place both (inr k) (inl r) =
          let w = shows d.period.start k r in
          let q : d.value ∷ shown_at id d.period.start cells ≡ [] =
          tail_of c.value w.0 (d.value ∷ shown_at id d.period.start cells) []
          (sym both ∙ w.1) in
          absurd (cc)
      by_place both (inr k) (inr r) = (let q : c.value ∷ d.value ∷ shown_at id d.period.start cells
          ≡ [] = sym both ∙ hides d.period.start (inr r) in absurd (cc))

  record IsRefilled (from : ℕ) (c : Cell) (cells : List Cell) : Type 0 where
    start : c.period.start ≡ from
    climbs : Climbs c.period.start to (map write_of cells)
    same : with_ends to (write_of c ∷ map write_of cells) ≡ c ∷ cells

  refilled : (from : ℕ) (c : Cell) (cells : List Cell) → ((d : Cell) → In d (c ∷ cells) → d.id ≡ id)
      → Ascends cell_cmp (c ∷ cells) → ((d : Cell) → In d (c ∷ cells)
      → d.period.start < d.period.end) → from < to → Shows from (c ∷ cells) → Hides from (c ∷ cells)
      → IsRefilled from c cells
  refilled from c [] own a lasting f shows hides =
      let s = first_start from c [] own a (lasting c (inl refl)) f shows hides in
      let e = one_end from c (own c (inl refl)) s (lasting c (inl refl)) f shows hides in
      record {
        start = s;
        climbs = omega (arith, s, f);
        same =
            ap (λ n. entry (write_of c) n ∷ []) (sym e);
      }
  refilled from c (d ∷ cells) own a lasting f shows hides =
      let s = first_start from c (d ∷ cells) own a (lasting c (inl refl)) f shows hides in
      let b = next_end from c d cells own a lasting shows hides in
      let l = lasting c (inl refl) in
      let r = refilled c.period.end d cells (λ x i. own x (inr i)) a.1 (λ x i. lasting x (inr i)) b
      (others_show from c (d ∷ cells) (own c (inl refl)) s l shows)
      (others_hide from c (d ∷ cells) (own c (inl refl)) s l (omega arith) shows hides) in
      record {
        start = s;
        climbs = (let e = r.start in omega (arith, e, l), r.climbs);
        same = ap (λ n. entry (write_of c) n ∷ with_ends to (write_of d ∷ map write_of cells))
            r.start ∙ ap (λ cs. c ∷ cs) r.same;
      }

-- ---- a column

there_of : (b : Bool) (A B : Type 0) → b ≡ true → MatchBool b A B → A
there_of true A B e x = x
there_of false A B e x = absurd (cc)

not_of : (b : Bool) (A B : Type 0) → b ≡ false → MatchBool b A B → B
not_of true A B e x = absurd (cc)
not_of false A B e x = x

module _ (keys : List Span) (cells : List Cell) (f : IsFilled keys cells) (lasting : (id : ℕ)
    → id < length keys → IsPeriod (get_or keys id no_span)) where
  module _ (id : ℕ) (h : id < length keys) where
    abbrev key : Span
    key = get_or keys id no_span

    shows : (m : ℕ) → key.start ≤ m → m < key.end → (v : Value)
        × (shown_at id m (own id cells) ≡ v ∷ [])
    shows m a b =
        let t : covers key m ≡ true = grind (arith, nat_tests) in
        let w = there_of (covers key m) _ _ t (f.filled id h m) in
        (w.0, sym (own_shown id m cells) ∙ w.1)

    hides : (m : ℕ) → (m < key.start) ⊎ (key.end ≤ m) → shown_at id m (own id cells) ≡ []
    hides m r = sym (own_shown id m cells) ∙ not_of (covers key m) _ _
        (elim r [ inl a ↦ grind (arith, nat_tests) | inr b ↦ grind (arith, nat_tests) ])
        (f.filled id h m)

    own_refilled : (cs : List Cell) → own id cells ≡ cs → Fits key (map write_of cs)
        × (with_ends key.end (map write_of cs) ≡ cs)
    own_refilled [] e =
        let s = shows key.start (omega arith) (lasting id h).0 in
        let q : s.0 ∷ [] ≡ [] = sym s.1 ∙ ap (shown_at id key.start) e in
        absurd (cc)
    own_refilled (c ∷ cs) e =
        let r = refilled id key.end key.start c cs
        (λ d i. own_id id cells d (subst (In d) (sym e) i))
        (subst (Ascends cell_cmp) e (passed_ascend cell_cmp (λ x. x.id == id) cells f.ascending))
        (λ d i. (f.lasting d (from_filter (λ (x : Cell). x.id == id) d cells
        (subst (In d) (sym e) i)).0).0)
        (lasting id h).0
        (λ m a b. (let w = shows m a b in (w.0, sym (ap (shown_at id m) e) ∙ w.1)))
        (λ m b. sym (ap (shown_at id m) e) ∙ hides m b) in
        ((r.start, r.climbs), r.same)

    fits_again : Fits key (of_id id (map write_of cells))
    fits_again = subst (Fits key) (sym (own_writes id cells)) (own_refilled (own id cells) refl).0

    ends_again : with_ends key.end (of_id id (map write_of cells)) ≡ own id cells
    ends_again = ap (with_ends key.end) (own_writes id cells) ∙ (own_refilled (own id cells) refl).1

  pub history_again : IsHistory keys (map write_of cells)
  history_again = record {
    known = λ w i. (let r = from_map write_of w cells i in
        subst (λ (x : Write). x.id < length keys) r.2 (f.known r.0 r.1));
    fits = fits_again;
  }

  -- each entry is one of those that were there
  was_there : (low : ℕ) (ks : List Span) → ((j : ℕ) → j < length ks → (low + j < length keys)
      × (get_or keys (low + j) no_span ≡ get_or ks j no_span)) → (e : Cell)
      → In e (entries_from low ks (map write_of cells)) → In e cells
  was_there low [] g e i = absurd i
  was_there low (k ∷ ks) g e i =
      let n : low + 0 ≡ low = omega arith in
      let at = g 0 (omega arith) in
      let here : low < length keys = subst (λ j. j < length keys) n at.0 in
      let is : get_or keys low no_span ≡ k = ap (λ j. get_or keys j no_span) (sym n) ∙ at.1 in
      elim (in_append e (with_ends k.end (of_id low (map write_of cells)))
      (entries_from (low + 1) ks (map write_of cells)) i) [
        | inl j ↦ (from_filter (λ (x : Cell). x.id == low) e cells
            (subst (In e) (ap (λ (p : Span). with_ends p.end (of_id low (map write_of cells)))
            (sym is) ∙ ends_again low here) j)).0
        | inr j ↦ was_there (low + 1) ks (λ q b.
            (let t = g (suc q) (omega (arith, b)) in let u : (low + 1) + q ≡ low + suc q =
            omega arith in (rw u t.0, rw u t.1))) e j
      ]

  is_there : (e : Cell) → In e cells → In e (entries_from 0 keys (map write_of cells))
  is_there e i =
      let t : (e.id == e.id) ≡ true = grind (arith, nat_tests) in
      in_entries 0 e.id e.id keys (map write_of cells) e (omega arith) (f.known e i)
      (subst (In e) (sym (ends_again e.id (f.known e i)))
      (in_filter (λ (x : Cell). x.id == e.id) e cells i t))

  pub entries_again : entries_from 0 keys (map write_of cells) ≡ cells
  entries_again =
      one_list_of cell_cmp cell_total.trans cell_apart (entries_from 0 keys (map write_of cells))
      cells
      (entries_ascend 0 keys (map write_of cells)
      (λ q b. (let n : q ≡ 0 + q = omega arith in
      subst (λ x. Fits (get_or keys q no_span) (of_id x (map write_of cells))) n
      (fits_again q b))))
      f.ascending
      (record {
        there = λ e i. was_there 0 keys (λ j b.
            (let n : 0 + j ≡ j = omega arith in (rw n b, ap (λ k. get_or keys k no_span) n))) e i;
        back = λ e i. is_there e i;
      })

  -- ---- their ids come in turn

  -- each id that is not known yet has an entry among those that are left
  abbrev Awaits : ℕ → List Cell → Type 0
  Awaits known left = (id : ℕ) → known ≤ id → id < length keys → (c : Cell) × In c left
      × (c.id ≡ id)

  still_awaits : (known : ℕ) (c : Cell) (left : List Cell) → Awaits known (c ∷ left)
      → Awaits (max known (c.id + 1)) left
  still_awaits known c left w id l h = found (w id (grind arith) h)
    where
      found : (d : Cell) × In d (c ∷ left) × (d.id ≡ id) → (d : Cell) × In d left × (d.id ≡ id)
      found (d, inl e, q) = (let n : c.id ≡ id = ap (λ (x : Cell). x.id) e ∙ q in
          absurd (grind arith))
      found (d, inr i, q) = (d, i, q)

  in_turn_from : (known : ℕ) (left : List Cell) → Ascends cell_cmp left
      → ((c : Cell) → In c left → c.id < length keys) → known ≤ length keys → Awaits known left
      → AreInTurn known left × (ids_known known left ≡ length keys)
  in_turn_from known [] a b l w = (
    tt,
    elim (cases_lt known (length keys))
        [ inl k ↦ absurd ((w known (omega arith) k).1) | inr k ↦ omega (arith, l, k) ],
  )
  in_turn_from known (c ∷ left) a b l w =
      let h = b c (inl refl) in
      let first : c.id ≤ known = elim (cases_lt known c.id) [
        | inl k ↦ absurd (too_late k (w known (omega arith) (omega (arith, k, h))))
        | inr k ↦ k
      ] in
      let rest = in_turn_from (max known (c.id + 1)) left a.1 (λ d i. b d (inr i)) (grind arith)
      (still_awaits known c left w) in
      ((first, rest.0), rest.1)
    where
      too_late : known < c.id → (d : Cell) × In d (c ∷ left) × (d.id ≡ known) → ⊥
      too_late k (d, inl e, q) = (let n : c.id ≡ known = ap (λ (x : Cell). x.id) e ∙ q in
          omega (arith, n, k))
      too_late k (d, inr i, q) = (let n = ids_rise c d (before_in cell_cmp c d left a.0 i) in
          omega (arith, n, q, k))

  pub in_turn : AreInTurn 0 cells × (ids_known 0 cells ≡ length keys)
  in_turn = in_turn_from 0 cells f.ascending f.known (omega arith)
      (λ id l h. (let s = shows id h (get_or keys id no_span).start (omega arith)
      (lasting id h).0 in let r = some_shown id (get_or keys id no_span).start (own id cells) s.0
      s.1 in (r.0, (from_filter (λ (x : Cell). x.id == id) r.0 cells r.1).0, r.2)))
