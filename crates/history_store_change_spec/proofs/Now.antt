-- From the last stamp on, a table stands for the rows of its live ids.
use Rattle.std.proofs.Common.{◌≡◌, ℕ, zero, suc, ◌+◌, ◌<◌, ◌≤◌, Bool, true, false, List, [], ◌∷◌}
use Rattle.std.proofs.Common.{length, get_or, refl, sym, ap, ◌∙◌, subst, arith, if◌then◌else◌}
use Rattle.std.proofs.Common.{nat_le, inl, inr}
use Rattle.std.proofs.lemmas.Bool.Decides.{nat_tests}
use Rattle.std.proofs.lemmas.Grind.{common_steps}
use Rattle.prima_base.specs.Order.{row_cmp}
use Rattle.relations_spec.specs.Spans.{Span, forever, covers}
use Rattle.prima_base.specs.declared.value.Value.{Value}
use Rattle.history_store_columns.specs.Log.{Write, newest, value_at}
use Rattle.relations_spec.specs.Sets.{In, set_of}
use Rattle.history_store_change_spec.specs.Table.{row_then, rows_then, AllColumns, IsStored}
use Rattle.history_store_row_order.specs.Rows.{row_now, rows_of}
use Rattle.history_store_columns.specs.Keys.{no_span}
use Rattle.history_store_columns.specs.Entries.{AllCells}
use Rattle.history_store_row_order.proofs.Sides.{set_is}
use Rattle.history_store_row_order.proofs.RowsOf.{rows_of_in, in_rows_of}

value_now : (id m last : ℕ) (cells : List Write) → AllCells last cells → last ≤ m
    → value_at id m cells ≡ newest id cells
value_now id m last [] a l = refl
value_now id m last (c ∷ cells) a l =
    let e = value_now id m last cells a.1 l in
    let s : c.start ≤ last = a.0 in
    let t : nat_le c.start m ≡ true = grind (arith, nat_tests) in
    grind (arith, nat_tests)

pub row_is_now : (id m last : ℕ) (columns : List (List Write)) → AllColumns last columns → last ≤ m
    → row_then id m columns ≡ row_now id columns
row_is_now id m last [] a l = refl
row_is_now id m last (c ∷ columns) a l = let e = value_now id m last c a.0 l in let f =
    row_is_now id m last columns a.1 l in cc

-- a row that is seen has a key
seen : (q : List Value) (id m : ℕ) (keys : List Span) (columns : List (List Write))
    → In q (rows_then id m keys columns)
    → (k : ℕ) × (k < length keys) × (covers (get_or keys k no_span) m ≡ true)
    × (row_then (id + k) m columns ≡ q)
seen q id m [] columns i = absurd i
seen q id m (p ∷ keys) columns i = by_case (covers p m) refl i (seen q (id + 1) m keys columns)
  where
    later : (k : ℕ) × (k < length keys) × (covers (get_or keys k no_span) m ≡ true)
        × (row_then (id + 1 + k) m columns ≡ q)
        → (k : ℕ) × (k < length (p ∷ keys)) × (covers (get_or (p ∷ keys) k no_span) m ≡ true)
        × (row_then (id + k) m columns ≡ q)
    later (k, h, t, e) = let n : id + suc k ≡ id + 1 + k = omega arith in
        (suc k, grind (arith, common_steps), t, ap (λ n. row_then n m columns) n ∙ e)

    by_case : (b : Bool) → covers p m ≡ b → In q
        (if b then row_then id m columns ∷ rows_then (id + 1) m keys columns
        else rows_then (id + 1) m keys columns)
        → (In q (rows_then (id + 1) m keys columns) → (k : ℕ) × (k < length keys)
        × (covers (get_or keys k no_span) m ≡ true) × (row_then (id + 1 + k) m columns ≡ q))
        → (k : ℕ) × (k < length (p ∷ keys)) × (covers (get_or (p ∷ keys) k no_span) m ≡ true)
        × (row_then (id + k) m columns ≡ q)
    by_case true t (inl e) again = let n : id + 0 ≡ id = omega arith in
        (0, grind (arith, common_steps), t, ap (λ n. row_then n m columns) n ∙ e)
    by_case true t (inr i) again = later (again i)
    by_case false t i again = later (again i)

-- a key that covers the moment has its row seen
shows : (id m k : ℕ) (keys : List Span) (columns : List (List Write)) → k < length keys
    → covers (get_or keys k no_span) m ≡ true
    → In (row_then (id + k) m columns) (rows_then id m keys columns)
shows id m k [] columns h t = absurd (omega arith)
shows id m zero (p ∷ keys) columns h t =
    let here : covers p m ≡ true = t in
    let n : id ≡ id + 0 = omega arith in
    rw here (inl (ap (λ n. row_then n m columns) n))
shows id m (suc k) (p ∷ keys) columns h t =
    let n : id + 1 + k ≡ id + suc k = omega arith in
    let rest = subst (λ n. In (row_then n m columns) (rows_then (id + 1) m keys columns)) n
    (shows (id + 1) m k keys columns (omega arith) t) in
    elim (covers p m) as (λ b. In (row_then (id + suc k) m columns)
    (if b then row_then id m columns ∷ rows_then (id + 1) m keys columns
    else rows_then (id + 1) m keys columns))
    [ true ↦ inr rest | false ↦ rest ]

pub at_now : (keys : List Span) (columns : List (List Write)) (live : List ℕ) (last m : ℕ)
    → IsStored keys columns live last → last ≤ m → m < forever
    → set_of row_cmp (rows_then 0 m keys columns) ≡ rows_of live columns
at_now keys columns live last m s l f = set_is (rows_then 0 m keys columns) (rows_of live columns)
    s.ordered (λ q i. is_live q (seen q 0 m keys columns i))
    (λ q i. is_seen q (in_rows_of q live columns i))
  where
    is_live : (q : List Value) → (k : ℕ) × (k < length keys)
        × (covers (get_or keys k no_span) m ≡ true) × (row_then (0 + k) m columns ≡ q)
        → In q (rows_of live columns)
    is_live q (k, h, t, e) =
        let open_end : (get_or keys k no_span).end ≡ forever =
        elim (s.ended k h) [ inl b ↦ grind (arith, nat_tests) | inr b ↦ b ] in
        let n : k ≡ 0 + k = omega arith in
        let is : row_now k columns ≡ q = sym (row_is_now k m last columns s.columns_fit l)
        ∙ ap (λ n. row_then n m columns) n ∙ e in
        subst (λ r. In r (rows_of live columns)) is
        (rows_of_in k live columns (s.are_live k (h, open_end)))

    is_seen : (q : List Value) → (id : ℕ) × (In id live) × (row_now id columns ≡ q)
        → In q (rows_then 0 m keys columns)
    is_seen q (id, i, e) =
        let o = s.are_open id i in
        let started : (get_or keys id no_span).start ≤ last = s.started id o.0 in
        let ends : (get_or keys id no_span).end ≡ forever = o.1 in
        let t : covers (get_or keys id no_span) m ≡ true = grind (arith, nat_tests) in
        let n : 0 + id ≡ id = omega arith in
        let is : row_then (0 + id) m columns ≡ q = ap (λ n. row_then n m columns) n
        ∙ row_is_now id m last columns s.columns_fit l ∙ e in
        subst (λ r. In r (rows_then 0 m keys columns)) is (shows 0 m id keys columns o.0 t)
