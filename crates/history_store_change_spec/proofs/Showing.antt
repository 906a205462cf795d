-- The table stands for the rows of its live ids.
use Rattle.std.proofs.Common.{◌≡◌, ◌⊎◌, ℕ, suc, zero, ◌+◌, ◌<◌, ◌≤◌, Bool, true, false, List, []}
use Rattle.std.proofs.Common.{◌∷◌, length, get_or, refl, sym, ap, ◌∙◌, subst, arith, if◌then◌else◌}
use Rattle.std.proofs.Common.{inl, inr}
use Rattle.std.proofs.lemmas.Bool.Decides.{nat_tests}
use Rattle.relations_spec.specs.Sets.{In, set_of}
use Rattle.relations_spec.specs.Spans.{Span, forever, covers}
use Rattle.prima_base.specs.Order.{row_cmp}
use Rattle.prima_base.specs.declared.value.Value.{Value}
use Rattle.history_store_columns.specs.Log.{Write}
use Rattle.history_store_spec.specs.Store.{Cell, row_at, rows_from, relation_at, IsBefore}
use Rattle.history_store_spec.specs.Store.{AllBefore}
use Rattle.prima_base.specs.Columns.{Column, IsRow, IsRelation}
use Rattle.history_store_columns.specs.Entries.{entries_from}
use Rattle.history_store_change_spec.specs.Entries.{all_entries, AreHistories}
use Rattle.history_store_change_spec.specs.Table.{row_then, rows_then, AllColumns, IsStored}
use Rattle.history_store_row_order.specs.Rows.{row_now, rows_of}
use Rattle.history_store_columns.specs.Keys.{no_span, IsOpen}
use Rattle.history_store_change_spec.specs.Kept.{store_of, IsKept}
use Rattle.history_store_change_spec.specs.Change.{rows_along}
use Rattle.history_store_columns.proofs.Histories.{Below}
use Rattle.history_store_change_spec.proofs.Histories.{BelowEach}
use Rattle.history_store_change_spec.proofs.Puts.{columns_more}
use Rattle.history_store_change_spec.proofs.Now.{at_now, row_is_now}
use Rattle.history_store_row_order.proofs.RowsOf.{in_rows_of}
use Rattle.history_store_columns.proofs.Showing.{shown_is, all_below, below_of_id, cells_to}
use Rattle.history_store_columns.proofs.Showing.{entries_before}

pub row_shown : (id m : ℕ) (keys : List Span) (columns : List (List Write))
    → AreHistories keys columns → id < length keys → covers (get_or keys id no_span) m ≡ true
    → row_at id m (all_entries keys columns) ≡ row_then id m columns
row_shown id m keys [] h b t = refl
row_shown id m keys (c ∷ columns) h b t =
    let e = shown_is id m keys c h.0 b in
    let f = row_shown id m keys columns h.1 b t in
    rw (e, t, f) refl

pub rows_shown : (low m : ℕ) (keys all : List Span) (columns : List (List Write))
    → AreHistories all columns → ((j : ℕ) → j < length keys → (low + j < length all)
    × (get_or all (low + j) no_span ≡ get_or keys j no_span))
    → rows_from low m keys (all_entries all columns) ≡ rows_then low m keys columns
rows_shown low m [] all columns h f = refl
rows_shown low m (k ∷ keys) all columns h f =
    let again = rows_shown (low + 1) m keys all columns h
    (λ j b. (let g = f (suc j) (omega (arith, b)) in let n : (low + 1) + j ≡ low + suc j =
    omega arith in (rw n g.0, rw n g.1))) in
    let g = f 0 (omega arith) in
    let n : low + 0 ≡ low = omega arith in
    let inside : low < length all = subst (λ i. i < length all) n g.0 in
    let is : get_or all low no_span ≡ k = ap (λ i. get_or all i no_span) (sym n) ∙ g.1 in
    by_case (covers k m) refl again inside is
  where
    by_case : (b : Bool) → covers k m ≡ b → rows_from (low + 1) m keys (all_entries all columns)
        ≡ rows_then (low + 1) m keys columns → low < length all → get_or all low no_span ≡ k
        → (if b then row_at low m (all_entries all columns)
        ∷ rows_from (low + 1) m keys (all_entries all columns)
        else rows_from (low + 1) m keys (all_entries all columns))
        ≡ (if b then row_then low m columns ∷ rows_then (low + 1) m keys columns
        else rows_then (low + 1) m keys columns)
    by_case true t again inside is = let e = row_shown low m all columns h inside
        (ap (λ p. covers p m) is ∙ t) in rw (e, again) refl
    by_case false t again inside is = again

-- the relation that the fields stand for
pub relation_is : (indexed : List ℕ) (columns : List Column) (keys : List Span)
    (logs : List (List Write)) (spare m : ℕ) → AreHistories keys logs
    → relation_at (store_of columns keys logs spare indexed) m
    ≡ set_of row_cmp (rows_then 0 m keys logs)
unfolding relation_at
relation_is indexed columns keys logs spare m h =
    ap (set_of row_cmp) (rows_shown 0 m keys keys logs h
    (λ j b. (let n : 0 + j ≡ j = omega arith in (rw n b, ap (λ i. get_or keys i no_span) n))))

pub count_entries : (keys : List Span) (columns : List (List Write))
    → length (all_entries keys columns) ≡ length columns
count_entries keys [] = refl
count_entries keys (c ∷ columns) = ap suc (count_entries keys columns)

abbrev pub AllBelow : ℕ → List (List Write) → Type 0
AllBelow stamp [] = Unit {0}
AllBelow stamp (c ∷ columns) = Below stamp c × AllBelow stamp columns

pub logs_below : (stamp : ℕ) (keys : List Span) (columns : List (List Write))
    → AreHistories keys columns → ((cells : List Cell) → In cells (all_entries keys columns)
    → (e : Cell) → In e cells → IsBefore stamp e.period) → AllBelow stamp columns
logs_below stamp keys [] h f = tt
logs_below stamp keys (c ∷ columns) h f = (
  all_below stamp keys c h.0
      (λ e i. (f (entries_from 0 keys c) (inl refl) e i).0),
  logs_below stamp keys columns h.1 (λ cells i. f cells (inr i)),
)

pub below_each : (id stamp : ℕ) (columns : List (List Write)) → AllBelow stamp columns
    → BelowEach id stamp columns
below_each id stamp [] b = tt
below_each id stamp (c ∷ columns) b = (below_of_id id stamp c b.0, below_each id stamp columns b.1)

columns_to : (stamp last : ℕ) (columns : List (List Write)) → stamp ≤ last + 1
    → AllBelow stamp columns → AllColumns last columns
columns_to stamp last [] l b = tt
columns_to stamp last (c ∷ columns) l b = (
  cells_to stamp last c l b.0,
  columns_to stamp last columns l b.1,
)

key_in : (keys : List Span) (id : ℕ) → id < length keys → In (get_or keys id no_span) keys
key_in [] id h = absurd (omega arith)
key_in (k ∷ keys) zero h = inl refl
key_in (k ∷ keys) (suc id) h = inr (key_in keys id (omega arith))

pub key_before : (stamp : ℕ) (keys : List Span) → ((p : Span) → In p keys → IsBefore stamp p)
    → (id : ℕ) → id < length keys → IsBefore stamp (get_or keys id no_span)
key_before stamp keys f id h = f (get_or keys id no_span) (key_in keys id h)

-- where all stamps are below a moment, the last stamp is
pub stored_at : {indexed : List ℕ} → (columns : List Column) (keys : List Span)
    (logs : List (List Write)) (live : List ℕ) (spare stamp last : ℕ)
    → IsKept columns keys logs live → AllBefore (store_of columns keys logs spare indexed) stamp
    → stamp ≤ last + 1 → IsStored keys logs live last
stored_at columns keys logs live spare stamp last k b l = record {
  columns_fit = columns_to stamp last logs l (logs_below stamp keys logs k.histories b.cells);
  started = λ id h. (let s = (key_before stamp keys b.keys id h).0 in omega (arith, s, l));
  ended = λ id h. elim (key_before stamp keys b.keys id h).1 [
    | inl e ↦ inl (omega (arith, e, l))
    | inr e ↦ inr e
  ];
  are_open = k.stored.are_open;
  are_live = k.stored.are_live;
  ordered = k.stored.ordered;
}

pub stored_more : (keys : List Span) (logs : List (List Write)) (live : List ℕ) (last to : ℕ)
    → last ≤ to → IsStored keys logs live last → IsStored keys logs live to
stored_more keys logs live last to l s = record {
  columns_fit = columns_more last to logs l s.columns_fit;
  started = λ id h. (let q = s.started id h in omega (arith, q, l));
  ended = λ id h. elim (s.ended id h) [ inl e ↦ inl (omega (arith, e, l)) | inr e ↦ inr e ];
  are_open = s.are_open;
  are_live = s.are_live;
  ordered = s.ordered;
}

-- and the other way round
each_before : (last m : ℕ) (keys : List Span) (columns : List (List Write))
    → AllColumns last columns → last < m → ((id : ℕ) → id < length keys
    → ((get_or keys id no_span).end ≤ last) ⊎ ((get_or keys id no_span).end ≡ forever))
    → (cells : List Cell) → In cells (all_entries keys columns) → (e : Cell) → In e cells
    → IsBefore m e.period
each_before last m keys [] a l f cells i e j = absurd i
each_before last m keys (c ∷ columns) a l f cells (inl q) e j =
    entries_before 0 last m keys c e a.0 l f (subst (λ (cs : List Cell). In e cs) (sym q) j)
each_before last m keys (c ∷ columns) a l f cells (inr i) e j =
    each_before last m keys columns a.1 l f cells i e j

pub key_at : (keys : List Span) (p : Span) → In p keys → (id : ℕ) × (id < length keys)
    × (get_or keys id no_span ≡ p)
key_at [] p i = absurd i
key_at (k ∷ keys) p (inl e) = (0, omega arith, e)
key_at (k ∷ keys) p (inr i) = let r = key_at keys p i in
    (suc r.0, (let h = r.1 in omega (arith, h)), r.2)

pub all_before : {indexed : List ℕ} → (columns : List Column) (keys : List Span)
    (logs : List (List Write)) (live : List ℕ) (spare last m : ℕ) → IsStored keys logs live last
    → last < m → AllBefore (store_of columns keys logs spare indexed) m
all_before columns keys logs live spare last m s l =
    record { keys = each; cells = each_before last m keys logs s.columns_fit l s.ended }
  where
    each : (p : Span) → In p keys → IsBefore m p
    each p i =
        let r = key_at keys p i in
        subst (IsBefore m) r.2 (
          (let q = s.started r.0 r.1 in omega (arith, q, l)),
          elim (s.ended r.0 r.1) [ inl q ↦ inl (omega (arith, q, l)) | inr q ↦ inr q ],
        )

-- the rows of open ids from the last stamp on
pub along_is : (ids : List ℕ) (m last : ℕ) (keys : List Span) (columns : List (List Write))
    → AreHistories keys columns → AllColumns last columns → last ≤ m → m < forever
    → ((id : ℕ) → In id ids → IsOpen keys id)
    → ((id : ℕ) → id < length keys → (get_or keys id no_span).start ≤ last)
    → rows_along ids m (all_entries keys columns) ≡ rows_of ids columns
along_is [] m last keys columns h a l f o s = refl
along_is (id ∷ ids) m last keys columns h a l f o s =
    let p = o id (inl refl) in
    let q = s id p.0 in
    let e : (get_or keys id no_span).end ≡ forever = p.1 in
    let t : covers (get_or keys id no_span) m ≡ true =
    (let u : (get_or keys id no_span).start ≤ m = omega (arith, q, l) in
    grind (arith, nat_tests)) in
    let here : row_at id m (all_entries keys columns) ≡ row_now id columns =
    row_shown id m keys columns h p.0 t ∙ row_is_now id m last columns a l in
    let rest = along_is ids m last keys columns h a l f (λ i j. o i (inr j)) s in
    rw (here, rest) refl

-- the current rows
rows_fit : (columns : List Column) (logs : List (List Write)) (ids : List ℕ)
    → ((id : ℕ) → In id ids → IsRow columns (row_now id logs)) → (row : List Value)
    → In row (rows_of ids logs) → IsRow columns row
rows_fit columns logs ids f row i = let r = in_rows_of row ids logs i in
    subst (IsRow columns) r.2 (f r.0 r.1)

pub current_relation : (columns : List Column) (keys : List Span) (logs : List (List Write))
    (live : List ℕ) → IsKept columns keys logs live → IsRelation columns (rows_of live logs)
current_relation columns keys logs live k = record {
  ascending = k.stored.ordered;
  fitting =
      rows_fit columns logs live k.fitting;
}

pub relation_now : {indexed : List ℕ} → (columns : List Column) (keys : List Span)
    (logs : List (List Write)) (live : List ℕ) (spare m : ℕ) → IsKept columns keys logs live
    → AllBefore (store_of columns keys logs spare indexed) (m + 1) → m < forever
    → relation_at (store_of columns keys logs spare indexed) m ≡ rows_of live logs
relation_now columns keys logs live spare m k b l =
    relation_is _ columns keys logs spare m k.histories
    ∙ at_now keys logs live m m (stored_at columns keys logs live spare (m + 1) m k b (omega arith))
    (omega arith) l
