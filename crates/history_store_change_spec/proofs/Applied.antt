-- A change that is carried out.
use Rattle.std.proofs.Common.{◌≡◌, ◌≢◌, ℕ, zero, suc, ◌+◌, ◌-◌, ◌<◌, ◌≤◌, ◌⊎◌, true, false, List}
use Rattle.std.proofs.Common.{[], ◌∷◌, ◌++◌, length, get_or, set, refl, sym, ap, ◌∙◌, subst, arith}
use Rattle.std.proofs.Common.{if◌then◌else◌, nat_le, nat_lt, inl, inr}
use Rattle.std.proofs.lemmas.Bool.Decides.{nat_tests, eqb_tells}
use Rattle.std.proofs.lemmas.Grind.{common_steps}
use Rattle.std.proofs.Math.ListN.{length-set, get_or-append}
use Rattle.std.proofs.Math.Seq.{get_or-append_right}
use Rattle.std.proofs.lemmas.List.{get_or-set_same, get_or-set_other}
use Rattle.prima_base.specs.Order.{row_cmp}
use Rattle.relations_spec.specs.Spans.{Span, forever, covers}
use Rattle.prima_base.specs.declared.value.Value.{Value}
use Rattle.history_store_columns.specs.Log.{Write}
use Rattle.relations_spec.specs.Sets.{In, Ascends}
use Rattle.history_store_change_spec.specs.Table.{row_then, rows_then, AllColumns, IsStored}
use Rattle.history_store_row_order.specs.Rows.{row_now, rows_of, AllWidth}
use Rattle.history_store_columns.specs.Keys.{no_span, IsOpen, ended_at}
use Rattle.history_store_writes.specs.Writing.{put_row, put_rows, end_keys, unpaired, new_keys}
use Rattle.history_store_writes.specs.Writing.{keys_handed}
use Rattle.history_store_writes.specs.Writing.{logs_handed}
use Rattle.history_store_row_order.specs.Handing.{handed}
use Rattle.history_store_change_spec.specs.Handing.{Pairs, AllNext, IsHandOver}
use Rattle.history_store_value_order.specs.ByValue.{Distinct}
use Rattle.history_store_change_spec.proofs.Puts.{row_before, row_same, row_other, row_all}
use Rattle.history_store_change_spec.proofs.Puts.{row_width}
use Rattle.history_store_change_spec.proofs.Puts.{columns_more}

-- columns
pub rows_before : (j m : ℕ) (ids : List ℕ) (rows : List (List Value)) (stamp : ℕ)
    (columns : List (List Write)) → m < stamp
    → row_then j m (put_rows ids rows stamp columns) ≡ row_then j m columns
rows_before j m [] rows stamp columns h = refl
rows_before j m (id ∷ ids) [] stamp columns h = refl
rows_before j m (id ∷ ids) (row ∷ rows) stamp columns h =
    rows_before j m ids rows stamp (put_row id row stamp columns) h
    ∙ row_before j m id row stamp columns h

pub rows_other : (j : ℕ) (ids : List ℕ) (rows : List (List Value)) (stamp : ℕ)
    (columns : List (List Write)) → (¬ (In j ids))
    → row_now j (put_rows ids rows stamp columns) ≡ row_now j columns
rows_other j [] rows stamp columns n = refl
rows_other j (id ∷ ids) [] stamp columns n = refl
rows_other j (id ∷ ids) (row ∷ rows) stamp columns n =
    rows_other j ids rows stamp (put_row id row stamp columns) (λ i. n (inr i))
    ∙ row_other j id row stamp columns (λ e. n (inl e))

pub rows_same : (j : ℕ) (r : List Value) (ids : List ℕ) (rows : List (List Value)) (stamp : ℕ)
    (columns : List (List Write)) → Distinct ids → AllWidth (length columns) rows
    → Pairs j r ids rows → row_now j (put_rows ids rows stamp columns) ≡ r
rows_same j r [] rows stamp columns d w p = absurd p
rows_same j r (id ∷ ids) [] stamp columns d w p = absurd p
rows_same j r (id ∷ ids) (row ∷ rows) stamp columns d w (inl p) =
    rows_other j ids rows stamp (put_row id row stamp columns)
    (λ i. d.0 (subst (λ n. In n ids) (sym p.0) i))
    ∙ ap (λ n. row_now n (put_row id row stamp columns)) (sym p.0)
    ∙ row_same id row stamp columns w.0
    ∙ p.1
rows_same j r (id ∷ ids) (row ∷ rows) stamp columns d w (inr p) =
    rows_same j r ids rows stamp (put_row id row stamp columns) d.1
    (subst (λ n. AllWidth n rows) (sym (row_width id row stamp columns)) w.1) p

pub rows_all : (ids : List ℕ) (rows : List (List Value)) (stamp : ℕ) (columns : List (List Write))
    → AllColumns stamp columns → AllColumns stamp (put_rows ids rows stamp columns)
rows_all [] rows stamp columns a = a
rows_all (id ∷ ids) [] stamp columns a = a
rows_all (id ∷ ids) (row ∷ rows) stamp columns a =
    rows_all ids rows stamp (put_row id row stamp columns) (row_all id row stamp columns a)

-- ids
lt_or_le : (m n : ℕ) → (m < n) ⊎ (n ≤ m)
lt_or_le m zero = inr (omega arith)
lt_or_le zero (suc n) = inl (omega arith)
lt_or_le (suc m) (suc n) = elim (lt_or_le m n) [
  | inl l ↦ inl (omega arith)
  | inr l ↦ inr (omega arith)
]

pub in_or_not : (q : ℕ) (ids : List ℕ) → In q ids ⊎ (¬ (In q ids))
in_or_not q [] = inr (λ i. i)
in_or_not q (id ∷ ids) =
    elim (eqb_tells id q) [
      | inl e ↦ inl (inl e.1)
      | inr n ↦ elim (in_or_not q ids) [
        | inl i ↦ inl (inr i)
        | inr m ↦ inr (λ i. elim i [ inl e ↦ n.1 e | inr j ↦ m j ])
      ]
    ]

-- a handed id was lost, or is new
pub handed_is : (q : ℕ) (lost : List ℕ) (next : ℕ) (rows : List (List Value))
    → In q (handed lost next rows) → In q lost
    ⊎ ((next ≤ q) × (q < next + length (unpaired rows lost)))
handed_is q lost next [] i = absurd i
handed_is q [] next (row ∷ rows) (inl e) = inr (omega arith, grind (arith, common_steps))
handed_is q [] next (row ∷ rows) (inr i) = elim (handed_is q [] (next + 1) rows i) [
  | inl a ↦ absurd a
  | inr b ↦ let l : next + 1 ≤ q = b.0 in let h : q < next + 1 + length rows =
      b.1 in inr (omega arith, grind (arith, common_steps))
]
handed_is q (id ∷ lost) next (row ∷ rows) (inl e) = inl (inl e)
handed_is q (id ∷ lost) next (row ∷ rows) (inr i) =
    elim (handed_is q lost next rows i) [ inl a ↦ inl (inr a) | inr b ↦ inr b ]

pub handed_distinct : (lost : List ℕ) (next : ℕ) (rows : List (List Value)) → Distinct lost
    → ((q : ℕ) → In q lost → q < next) → Distinct (handed lost next rows)
handed_distinct lost next [] d b = tt
handed_distinct [] next (row ∷ rows) d b = (
  λ i.
      elim (handed_is next [] (next + 1) rows i) [
        | inl a ↦ a
        | inr c ↦ let l : next + 1 ≤ next = c.0 in omega arith
      ],
  handed_distinct [] (next + 1) rows tt (λ q i. absurd i),
)
handed_distinct (id ∷ lost) next (row ∷ rows) d b = (
  λ i. elim (handed_is id lost next rows i) [
    | inl a ↦ d.0 a
    | inr c ↦ let l : next ≤ id = c.0 in let h : id < next = b id (inl refl) in omega arith
  ],
  handed_distinct lost next rows d.1 (λ q i. b q (inr i)),
)

-- an unpaired lost id was lost, and is not handed on
pub unpaired_in : (q : ℕ) (lost : List ℕ) (rows : List (List Value)) → In q (unpaired lost rows)
    → In q lost
unpaired_in q lost [] i = i
unpaired_in q [] (row ∷ rows) i = absurd i
unpaired_in q (id ∷ lost) (row ∷ rows) i = inr (unpaired_in q lost rows i)

pub not_both : (q : ℕ) (lost : List ℕ) (next : ℕ) (rows : List (List Value)) → Distinct lost
    → ((p : ℕ) → In p lost → p < next) → In q (unpaired lost rows) → In q (handed lost next rows)
    → ⊥
not_both q lost next [] d b u i = i
not_both q [] next (row ∷ rows) d b u i = u
not_both q (id ∷ lost) next (row ∷ rows) d b u (inl e) =
    d.0 (subst (λ n. In n lost) (sym e) (unpaired_in q lost rows u))
not_both q (id ∷ lost) next (row ∷ rows) d b u (inr i) =
    not_both q lost next rows d.1 (λ p j. b p (inr j)) u i

lost_goes : (q : ℕ) (lost : List ℕ) (next : ℕ) (rows : List (List Value)) → In q lost
    → In q (handed lost next rows) ⊎ In q (unpaired lost rows)
lost_goes q lost next [] i = inr i
lost_goes q [] next (row ∷ rows) i = absurd i
lost_goes q (id ∷ lost) next (row ∷ rows) (inl e) = inl (inl e)
lost_goes q (id ∷ lost) next (row ∷ rows) (inr i) =
    elim (lost_goes q lost next rows i) [ inl a ↦ inl (inr a) | inr b ↦ inr b ]

new_given : (q : ℕ) (lost : List ℕ) (next : ℕ) (rows : List (List Value)) → next ≤ q
    → q < next + length (unpaired rows lost) → In q (handed lost next rows)
new_given q [] next [] l h = absurd (omega arith)
new_given q (id ∷ lost) next [] l h = absurd (omega arith)
new_given q [] next (row ∷ rows) l h = elim (eqb_tells next q) [
  | inl e ↦ inl e.1
  | inr n ↦ let d : next ≢ q = n.1 in inr (new_given q [] (next + 1) rows
      (grind (arith, common_steps)) (grind (arith, common_steps)))
]
new_given q (id ∷ lost) next (row ∷ rows) l h = inr (new_given q lost next rows l h)

-- keys
pub length-end_keys : (ids : List ℕ) (stamp : ℕ) (keys : List Span)
    → length (end_keys ids stamp keys) ≡ length keys
length-end_keys [] stamp keys = refl
length-end_keys (id ∷ ids) stamp keys = length-end_keys ids stamp
    (set keys id (ended_at stamp (get_or keys id no_span)))
    ∙ length-set keys id (ended_at stamp (get_or keys id no_span))

set_start : (q id stamp : ℕ) (keys : List Span)
    → (get_or (set keys id (ended_at stamp (get_or keys id no_span))) q no_span).start
    ≡ (get_or keys q no_span).start
set_start q id stamp [] = refl
set_start zero zero stamp (p ∷ keys) = refl
set_start zero (suc id) stamp (p ∷ keys) = refl
set_start (suc q) zero stamp (p ∷ keys) = refl
set_start (suc q) (suc id) stamp (p ∷ keys) = set_start q id stamp keys

pub ended_start : (q : ℕ) (ids : List ℕ) (stamp : ℕ) (keys : List Span)
    → (get_or (end_keys ids stamp keys) q no_span).start ≡ (get_or keys q no_span).start
ended_start q [] stamp keys = refl
ended_start q (id ∷ ids) stamp keys = ended_start q ids stamp
    (set keys id (ended_at stamp (get_or keys id no_span))) ∙ set_start q id stamp keys

pub ended_other : (q : ℕ) (ids : List ℕ) (stamp : ℕ) (keys : List Span) → (¬ (In q ids))
    → get_or (end_keys ids stamp keys) q no_span ≡ get_or keys q no_span
ended_other q [] stamp keys n = refl
ended_other q (id ∷ ids) stamp keys n =
    ended_other q ids stamp (set keys id (ended_at stamp (get_or keys id no_span))) (λ i. n (inr i))
    ∙ get_or-set_other keys id q (ended_at stamp (get_or keys id no_span)) no_span
    (λ e. n (inl (sym e)))

pub ended_same : (q : ℕ) (ids : List ℕ) (stamp : ℕ) (keys : List Span) → In q ids → q < length keys
    → (get_or (end_keys ids stamp keys) q no_span).end ≡ stamp
ended_same q [] stamp keys i h = absurd i
ended_same q (id ∷ ids) stamp keys i h =
    elim (in_or_not q ids) [
      | inl j ↦ ended_same q ids stamp (set keys id (ended_at stamp (get_or keys id no_span))) j
          (grind (arith, common_steps))
      | inr n ↦ ap (λ p. p.end) (ended_other q ids stamp
          (set keys id (ended_at stamp (get_or keys id no_span))) n)
          ∙ elim i [
            | inl e ↦ subst (λ n. (get_or
                (set keys n (ended_at stamp (get_or keys n no_span))) q no_span).end ≡ stamp)
                (sym e) (ap (λ p. p.end)
                (get_or-set_same keys q (ended_at stamp (get_or keys q no_span)) no_span h))
            | inr j ↦ absurd (n j)
          ]
    ]

pub length-new_keys : {A : Type 0} (stamp : ℕ) (xs : List A)
    → length (new_keys stamp xs) ≡ length xs
length-new_keys stamp [] = refl
length-new_keys stamp (x ∷ xs) = let e = length-new_keys stamp xs in grind arith

pub new_key : {A : Type 0} (stamp : ℕ) (xs : List A) (k : ℕ) → k < length xs
    → get_or (new_keys stamp xs) k no_span ≡ record { start = stamp; end = forever }
new_key stamp [] k h = absurd (omega arith)
new_key stamp (x ∷ xs) zero h = refl
new_key stamp (x ∷ xs) (suc k) h = new_key stamp xs k (omega arith)

-- the rows that are seen
rows_ext : (id m : ℕ) (keys others : List Span) (columns after : List (List Write))
    → length keys ≡ length others
    → ((k : ℕ) → k < length keys → covers (get_or keys k no_span) m
    ≡ covers (get_or others k no_span) m)
    → ((j : ℕ) → row_then j m columns ≡ row_then j m after)
    → rows_then id m keys columns ≡ rows_then id m others after
rows_ext id m [] [] columns after l h r = refl
rows_ext id m [] (p ∷ others) columns after l h r = absurd (omega arith)
rows_ext id m (p ∷ keys) [] columns after l h r = absurd (omega arith)
rows_ext id m (p ∷ keys) (q ∷ others) columns after l h r =
    let e = rows_ext (id + 1) m keys others columns after (omega arith)
    (λ k b. h (suc k) (omega arith)) r in
    let f : covers p m ≡ covers q m = h 0 (omega arith) in
    rw (f, e, r id) refl

rows_new : {A : Type 0} (id m stamp : ℕ) (keys : List Span) (xs : List A)
    (columns : List (List Write)) → m < stamp
    → rows_then id m (keys ++ new_keys stamp xs) columns ≡ rows_then id m keys columns
rows_new id m stamp [] [] columns h = refl
rows_new id m stamp [] (x ∷ xs) columns h =
    let n : nat_le stamp m ≡ false = grind (arith, nat_tests) in
    rw n (rows_new (id + 1) m stamp [] xs columns h)
rows_new id m stamp (p ∷ keys) xs columns h =
    ap (λ rest. if covers p m then row_then id m columns ∷ rest else rest)
    (rows_new (id + 1) m stamp keys xs columns h)

-- ending open keys at the stamp is not seen before
pub holds_ended : (m stamp q : ℕ) (ids : List ℕ) (keys : List Span) → m < stamp → stamp < forever
    → q < length keys → ((id : ℕ) → In id ids → (get_or keys id no_span).end ≡ forever)
    → covers (get_or (end_keys ids stamp keys) q no_span) m ≡ covers (get_or keys q no_span) m
holds_ended m stamp q ids keys h f l o =
    elim (in_or_not q ids) [
      | inl i ↦
          let s : (get_or (end_keys ids stamp keys) q no_span).start
          ≡ (get_or keys q no_span).start = ended_start q ids stamp keys in
          let e : (get_or (end_keys ids stamp keys) q no_span).end ≡ stamp =
          ended_same q ids stamp keys i l in
          let g : (get_or keys q no_span).end ≡ forever = o q i in
          let a : nat_lt m stamp ≡ true = grind (arith, nat_tests) in
          let b : nat_lt m forever ≡ true = grind (arith, nat_tests) in
          rw (s, e, g, a, b) refl
      | inr n ↦ ap (λ p. covers p m) (ended_other q ids stamp keys n)
    ]

pub before_after : (m stamp : ℕ) (keys : List Span) (columns : List (List Write)) (lost : List ℕ)
    (gained : List (List Value)) → m < stamp → stamp < forever
    → ((id : ℕ) → In id lost → IsOpen keys id)
    → rows_then 0 m (keys_handed keys lost gained stamp)
    (logs_handed keys columns lost gained stamp) ≡ rows_then 0 m keys columns
before_after m stamp keys columns lost gained h f o =
    let more = keys ++ new_keys stamp (unpaired gained lost) in
    let left = unpaired lost gained in
    rows_ext 0 m (end_keys left stamp more) more (logs_handed keys columns lost gained stamp)
    columns (length-end_keys left stamp more)
    (λ k l. holds_ended m stamp k left more h f
    (subst (λ n. k < n) (length-end_keys left stamp more) l)
    (λ id i. let p = o id (unpaired_in id lost gained i) in
    ap (λ p. p.end) (get_or-append keys (new_keys stamp (unpaired gained lost)) no_span id p.0)
    ∙ p.1))
    (λ j. rows_before j m (handed lost (length keys) gained) gained stamp columns h)
    ∙ rows_new 0 m stamp keys (unpaired gained lost) columns h

-- the new rows
pub next_rows : (keys : List Span) (lost : List ℕ) (gained : List (List Value)) (stamp : ℕ)
    (columns : List (List Write)) (ids : List ℕ) (rows : List (List Value))
    → Distinct lost → ((q : ℕ) → In q lost → q < length keys) → AllWidth (length columns) gained
    → AllNext keys columns lost gained ids rows
    → rows_of ids (logs_handed keys columns lost gained stamp) ≡ rows
next_rows keys lost gained stamp columns [] [] d b w a = refl
next_rows keys lost gained stamp columns [] (row ∷ rows) d b w a = absurd a
next_rows keys lost gained stamp columns (id ∷ ids) [] d b w a = absurd a
next_rows keys lost gained stamp columns (id ∷ ids) (row ∷ rows) d b w a =
    let rest = next_rows keys lost gained stamp columns ids rows d b w a.1 in
    let here : row_now id (logs_handed keys columns lost gained stamp) ≡ row =
    elim a.0 [
      | inl k ↦ rows_other id (handed lost (length keys) gained) gained stamp columns
          (λ i. elim (handed_is id lost (length keys) gained i) [
            | inl j ↦ k.1.0 j
            | inr n ↦ let p : length keys ≤ id = n.0 in let q : id < length keys = k.0.0 in
                omega arith
          ]) ∙ k.1.1
      | inr p ↦ rows_same id row (handed lost (length keys) gained) gained stamp columns
          (handed_distinct lost (length keys) gained d b) w p
    ] in
    rw (here, rest) refl

pub pairs_in : (id : ℕ) (row : List Value) (ids : List ℕ) (rows : List (List Value))
    → Pairs id row ids rows → In id ids
pairs_in id row [] rows p = absurd p
pairs_in id row (j ∷ ids) [] p = absurd p
pairs_in id row (j ∷ ids) (r ∷ rows) (inl p) = inl p.0
pairs_in id row (j ∷ ids) (r ∷ rows) (inr p) = inr (pairs_in id row ids rows p)

pub next_is : (keys : List Span) (lost : List ℕ) (gained : List (List Value))
    (columns : List (List Write)) (id : ℕ) (ids : List ℕ) (rows : List (List Value))
    → AllNext keys columns lost gained ids rows → In id ids → (IsOpen keys id × (¬ (In id lost)))
    ⊎ In id (handed lost (length keys) gained)
next_is keys lost gained columns id [] rows a i = absurd i
next_is keys lost gained columns id (j ∷ ids) [] a i = absurd a
next_is keys lost gained columns id (j ∷ ids) (row ∷ rows) a (inr i) =
    next_is keys lost gained columns id ids rows a.1 i
next_is keys lost gained columns id (j ∷ ids) (row ∷ rows) a (inl e) =
    subst (λ n. (IsOpen keys n × (¬ (In n lost))) ⊎ In n (handed lost (length keys) gained)) e
    (elim a.0 [
      | inl k ↦ inl (k.0, k.1.0)
      | inr p ↦
          inr (pairs_in j row (handed lost (length keys) gained) gained p)
    ])

more_new : {A : Type 0} (stamp k : ℕ) (keys : List Span) (xs : List A) → length keys ≤ k
    → k < length keys + length xs → get_or (keys ++ new_keys stamp xs) k no_span
    ≡ record { start = stamp; end = forever }
more_new stamp k keys xs l h = get_or-append_right keys (new_keys stamp xs) k no_span l
    ∙ new_key stamp xs (k - length keys) (omega arith)

module _ (keys : List Span) (columns : List (List Write)) (live : List ℕ) (last stamp : ℕ)
    (lost : List ℕ) (gained : List (List Value)) (after : List ℕ)
    (h : last ≤ stamp) (f : stamp < forever) (s : IsStored keys columns live last)
    (p : IsHandOver keys (length columns) lost gained after) where
  more : List Span
  more = keys ++ new_keys stamp (unpaired gained lost)

  left : List ℕ
  left = unpaired lost gained

  ended_keys : List Span
  ended_keys = keys_handed keys lost gained stamp

  lost_below : (q : ℕ) → In q lost → q < length keys
  lost_below q i = (p.lost_open q i).0

  long : length ended_keys ≡ length keys + length (unpaired gained lost)
  unfolding ended_keys left more
  long = length-end_keys left stamp more ∙ grind
      (arith, common_steps, length-new_keys stamp (unpaired gained lost))

  not_left : (q : ℕ) → (¬ (In q left)) → get_or ended_keys q no_span ≡ get_or more q no_span
  unfolding ended_keys left more
  not_left q n = ended_other q left stamp more n

  old_key : (q : ℕ) → q < length keys → get_or more q no_span ≡ get_or keys q no_span
  unfolding more
  old_key q l = get_or-append keys (new_keys stamp (unpaired gained lost)) no_span q l

  newer_key : (q : ℕ) → length keys ≤ q → q < length ended_keys
      → get_or more q no_span ≡ record { start = stamp; end = forever }
  unfolding more
  newer_key q l b = more_new stamp q keys (unpaired gained lost) l (subst (λ n. q < n) long b)

  left_lost : (q : ℕ) → In q left → In q lost
  unfolding left
  left_lost q i = unpaired_in q lost gained i

  left_not_handed : (q : ℕ) → In q left → In q (handed lost (length keys) gained) → ⊥
  unfolding left
  left_not_handed q i j = not_both q lost (length keys) gained p.distinct lost_below i j

  left_ends : (q : ℕ) → In q left → q < length ended_keys
      → (get_or ended_keys q no_span).end ≡ stamp
  unfolding ended_keys left more
  left_ends q i b = ended_same q left stamp more i
      (subst (λ n. q < n) (length-end_keys left stamp more) b)

  same_start : (q : ℕ) → (get_or ended_keys q no_span).start ≡ (get_or more q no_span).start
  unfolding ended_keys left more
  same_start q = ended_start q left stamp more

  -- the key of an id that does not end
  stays_old : (q : ℕ) → (¬ (In q left)) → q < length keys
      → get_or ended_keys q no_span ≡ get_or keys q no_span
  stays_old q n l = not_left q n ∙ old_key q l

  stays_new : (q : ℕ) → length keys ≤ q → q < length ended_keys
      → get_or ended_keys q no_span ≡ record { start = stamp; end = forever }
  stays_new q l b = not_left q (λ i. let k : q < length keys = lost_below q (left_lost q i) in
      omega arith) ∙ newer_key q l b

  all_started : (id : ℕ) → id < length ended_keys → (get_or ended_keys id no_span).start ≤ stamp
  all_started id b = elim (lt_or_le id (length keys)) [
    | inl l ↦ let a : (get_or ended_keys id no_span).start ≡ (get_or keys id no_span).start =
        same_start id ∙ ap (λ k. k.start) (old_key id l) in let c = s.started id l in omega arith
    | inr l ↦ let a : (get_or ended_keys id no_span).start ≡ stamp =
        ap (λ k. k.start) (stays_new id l b) in omega arith
  ]

  all_ended : (id : ℕ) → id < length ended_keys → ((get_or ended_keys id no_span).end ≤ stamp)
      ⊎ ((get_or ended_keys id no_span).end ≡ forever)
  all_ended id b = elim (in_or_not id left) [
    | inl i ↦ let a : (get_or ended_keys id no_span).end ≡ stamp = left_ends id i b in
        inl (omega arith)
    | inr n ↦ elim (lt_or_le id (length keys)) [
      | inl l ↦ let a : (get_or ended_keys id no_span).end ≡ (get_or keys id no_span).end =
          ap (λ k. k.end) (stays_old id n l) in
          elim (s.ended id l) [ inl c ↦ inl (omega arith) | inr c ↦ inr (a ∙ c) ]
      | inr l ↦ inr (ap (λ k. k.end) (stays_new id l b))
    ]
  ]

  open_old : (id : ℕ) → IsOpen keys id → (¬ (In id left)) → IsOpen ended_keys id
  open_old id o n = let b = o.0 in (
    subst (λ n. id < n) (sym long) (omega arith),
    ap (λ k. k.end) (stays_old id n o.0) ∙ o.1,
  )

  all_open : (id : ℕ) → In id after → IsOpen ended_keys id
  all_open id i = elim (p.each id i) [
    | inl k ↦ open_old id k.0 (λ j. k.1 (left_lost id j))
    | inr k ↦ elim (handed_is id lost (length keys) gained k) [
      | inl j ↦ open_old id (p.lost_open id j) (λ u. left_not_handed id u k)
      | inr n ↦ let b : id < length ended_keys = subst (λ n. id < n) (sym long) n.1 in
          (b, ap (λ k. k.end) (stays_new id n.0 b))
    ]
  ]

  all_live : (id : ℕ) → IsOpen ended_keys id → In id after
  unfolding left
  all_live id o = elim (in_or_not id left) [
    | inl i ↦ absurd (let a : (get_or ended_keys id no_span).end ≡ stamp = left_ends id i o.0 in
        let c : (get_or ended_keys id no_span).end ≡ forever = o.1 in omega arith)
    | inr n ↦ elim (lt_or_le id (length keys)) [
      | inl l ↦
          let k : IsOpen keys id = (l, sym (ap (λ k. k.end) (stays_old id n l)) ∙ o.1) in
          elim (in_or_not id lost) [
            | inl j ↦ elim (lost_goes id lost (length keys) gained j) [
              | inl g ↦ p.given id g
              | inr u ↦ absurd (n u)
            ]
            | inr j ↦ p.kept id k j
          ]
      | inr l ↦ p.given id (new_given id lost (length keys) gained l (subst (λ n. id < n) long o.0))
    ]
  ]

pub stored_after : (keys : List Span) (columns : List (List Write)) (live : List ℕ) (last stamp : ℕ)
    (lost : List ℕ) (gained : List (List Value)) (after : List ℕ)
    → last ≤ stamp → stamp < forever → IsStored keys columns live last
    → IsHandOver keys (length columns) lost gained after
    → Ascends row_cmp (rows_of after (logs_handed keys columns lost gained stamp))
    → IsStored (keys_handed keys lost gained stamp) (logs_handed keys columns lost gained stamp)
    after stamp
unfolding ended_keys
stored_after keys columns live last stamp lost gained after h f s p r = record {
  columns_fit = rows_all (handed lost (length keys) gained) gained stamp columns
      (columns_more last stamp columns (omega arith) s.columns_fit);
  started = all_started keys columns live last stamp lost gained after h f s p;
  ended = all_ended keys columns live last stamp lost gained after h f s p;
  are_open = all_open keys columns live last stamp lost gained after h f s p;
  are_live = all_live keys columns live last stamp lost gained after h f s p;
  ordered = r;
}

pub open_after : (keys : List Span) (columns : List (List Write)) (live : List ℕ) (last stamp : ℕ)
    (lost : List ℕ) (gained : List (List Value)) (after : List ℕ)
    → last ≤ stamp → stamp < forever → IsStored keys columns live last
    → IsHandOver keys (length columns) lost gained after → (id : ℕ) → In id after
    → IsOpen (keys_handed keys lost gained stamp) id
unfolding ended_keys
open_after keys columns live last stamp lost gained after h f s p =
    all_open keys columns live last stamp lost gained after h f s p

pub started_after : (keys : List Span) (columns : List (List Write)) (live : List ℕ)
    (last stamp : ℕ) (lost : List ℕ) (gained : List (List Value)) (after : List ℕ)
    → last ≤ stamp → stamp < forever → IsStored keys columns live last
    → IsHandOver keys (length columns) lost gained after → (id : ℕ)
    → id < length (keys_handed keys lost gained stamp)
    → (get_or (keys_handed keys lost gained stamp) id no_span).start ≤ stamp
unfolding ended_keys
started_after keys columns live last stamp lost gained after h f s p =
    all_started keys columns live last stamp lost gained after h f s p
