-- The entries after a put are those of the writes after it.
use Rattle.std.proofs.Common.{◌≡◌, ◌≢◌, ◌⊎◌, ◌&&◌, ℕ, suc, zero, ◌+◌, ◌<◌, ◌≤◌, Bool, true, false}
use Rattle.std.proofs.Common.{List, [], ◌∷◌, ◌++◌, length, get_or, set, refl, sym, ap, ◌∙◌, subst}
use Rattle.std.proofs.Common.{arith, if◌then◌else◌, inl, inr, append-nil, ◌==◌}
use Rattle.std.proofs.lemmas.Bool.Decides.{nat_tests, eqb_tells}
use Rattle.relations_spec.specs.Spans.{Span, span, forever}
use Rattle.prima_base.specs.Order.{value_eq}
use Rattle.prima_base.specs.declared.value.Value.{Value}
use Rattle.history_store_spec.specs.Store.{Cell}
use Rattle.history_store_columns.specs.Log.{Write, over, newest}
use Rattle.history_store_columns.specs.Chains.{of_id}
use Rattle.history_store_columns.specs.Entries.{entry, with_ends, entries_from, Fits}
use Rattle.history_store_columns.specs.Keys.{no_span, ended_at}
use Rattle.history_store_columns.specs.Puts.{is_value, put, goes_on, ended, begun, write, close}
use Rattle.history_store_columns.proofs.Links.{of_id-append, other_id}
use Rattle.history_store_columns.proofs.Histories.{written, Below, of_id_other, of_id_more}
use Rattle.history_store_columns.proofs.Histories.{last_value}
use Rattle.history_store_columns.proofs.Histories.{newest_is}

-- entries that are not those of the id
abbrev pub Others : ℕ → List Cell → Type 0
Others id [] = Unit {0}
Others id (c ∷ cells) = ((c.id == id) ≡ false) × Others id cells

abbrev pub AllOf : ℕ → List Write → Type 0
AllOf id [] = Unit {0}
AllOf id (c ∷ cells) = (c.id ≡ id) × AllOf id cells

pub all_of_id : (id : ℕ) (cells : List Write) → AllOf id (of_id id cells)
all_of_id id [] = tt
all_of_id id (c ∷ cells) = by_case (eqb_tells c.id id) (all_of_id id cells)
  where
    by_case : (((c.id == id) ≡ true) × (c.id ≡ id)) ⊎ (((c.id == id) ≡ false) × (c.id ≢ id))
        → AllOf id (of_id id cells) → AllOf id
        (if c.id == id then c ∷ of_id id cells else of_id id cells)
    by_case (inl e) r = rw e.0 (e.1, r)
    by_case (inr n) r = rw n.0 r

ends_others : (low id to : ℕ) (cells : List Write) → low ≢ id → AllOf low cells
    → Others id (with_ends to cells)
ends_others low id to [] n a = tt
ends_others low id to (c ∷ []) n a = let e : c.id ≡ low = a.0 in (grind (arith, nat_tests), tt)
ends_others low id to (c ∷ (d ∷ cells)) n a = let e : c.id ≡ low = a.0 in
    (grind (arith, nat_tests), ends_others low id to (d ∷ cells) n a.1)

others_append : (id : ℕ) (xs ys : List Cell) → Others id xs → Others id ys → Others id (xs ++ ys)
others_append id [] ys a b = b
others_append id (x ∷ xs) ys a b = (a.0, others_append id xs ys a.1 b)

pub segment_others : (low id to : ℕ) (cells : List Write) → low ≢ id
    → Others id (with_ends to (of_id low cells))
segment_others low id to cells n = ends_others low id to (of_id low cells) n (all_of_id low cells)

pub entries_others : (low id : ℕ) (keys : List Span) (cells : List Write) → id < low
    → Others id (entries_from low keys cells)
entries_others low id [] cells h = tt
entries_others low id (k ∷ keys) cells h =
    others_append id (with_ends k.end (of_id low cells)) (entries_from (low + 1) keys cells)
    (segment_others low id k.end cells (λ e. omega (arith, h, e)))
    (entries_others (low + 1) id keys cells (omega (arith, h)))

-- a write passes them
write_pass : (id : ℕ) (v : Value) (stamp : ℕ) (xs ys : List Cell) → Others id xs
    → write id v stamp (xs ++ ys) ≡ xs ++ write id v stamp ys
write_pass id v stamp [] ys o = refl
write_pass id v stamp (x ∷ xs) ys o = let t = o.0 in
    rw t (ap (λ cs. x ∷ cs) (write_pass id v stamp xs ys o.1))

close_pass : (id stamp : ℕ) (xs : List Cell) → Others id xs → close id stamp xs ≡ xs
close_pass id stamp [] o = refl
close_pass id stamp (x ∷ xs) o = let t = o.0 in
    rw t (ap (λ cs. x ∷ cs) (close_pass id stamp xs o.1))

close_append : (id stamp : ℕ) (xs ys : List Cell)
    → close id stamp (xs ++ ys) ≡ close id stamp xs ++ close id stamp ys
close_append id stamp [] ys = refl
close_append id stamp (x ∷ xs) ys = ap (λ cs. (if goes_on id x then ended stamp x else x) ∷ cs)
    (close_append id stamp xs ys)

-- in the entries of the id only the last one goes on
last_goes_on : (id : ℕ) (c : Write) → c.id ≡ id → goes_on id (entry c forever) ≡ true
last_goes_on id c e = grind (arith, nat_tests)

not_on : (id to : ℕ) (c : Write) → to < forever → goes_on id (entry c to) ≡ false
not_on id to c h = let t : (to == forever) ≡ false = grind (arith, nat_tests) in
    rw t (and_false (c.id == id))
  where
    and_false : (b : Bool) → (b && false) ≡ false
    and_false true = refl
    and_false false = refl

last_over : (d : Write) (cells : List Write) (x : List Value)
    → over (last_value (d ∷ cells)) x ≡ last_value (d ∷ cells)
last_over d [] x = refl
last_over d (e ∷ cells) x = ap (λ vs. over vs x) (last_over e cells (d.value ∷ []))
    ∙ last_over e cells x ∙ sym (last_over e cells (d.value ∷ []))

segment_write : (id : ℕ) (v : Value) (stamp : ℕ) (c : Write) (cells : List Write) (ys : List Cell)
    → AllOf id (c ∷ cells) → Below forever (c ∷ cells)
    → write id v stamp (with_ends forever (c ∷ cells) ++ ys)
    ≡ with_ends forever (if is_value v (last_value (c ∷ cells)) then c ∷ cells
    else (c ∷ cells) ++ written id v stamp ∷ []) ++ ys
segment_write id v stamp c [] ys a b =
    let t = last_goes_on id c a.0 in
    rw t (by_case (value_eq c.value v))
  where
    by_case : (q : Bool) → (if q then entry c forever ∷ ys
        else ended stamp (entry c forever) ∷ (begun id v stamp ∷ ys))
        ≡ with_ends forever (if q then c ∷ [] else (c ∷ []) ++ written id v stamp ∷ []) ++ ys
    by_case true = refl
    by_case false = refl
segment_write id v stamp c (d ∷ cells) ys a b =
    let t = not_on id d.start c b.1.0 in
    let again = segment_write id v stamp d cells ys a.1 b.1 in
    let l : last_value (c ∷ (d ∷ cells)) ≡ last_value (d ∷ cells) =
    last_over d cells (c.value ∷ []) in
    rw (t, l) (ap (λ cs. entry c d.start ∷ cs) again
    ∙ by_case (is_value v (last_value (d ∷ cells))))
  where
    by_case : (q : Bool) → entry c d.start ∷ (with_ends forever
        (if q then d ∷ cells else (d ∷ cells) ++ written id v stamp ∷ []) ++ ys)
        ≡ with_ends forever (if q then c ∷ (d ∷ cells)
        else (c ∷ (d ∷ cells)) ++ written id v stamp ∷ []) ++ ys
    by_case true = refl
    by_case false = refl

segment_close : (id stamp : ℕ) (cells : List Write) → AllOf id cells → Below forever cells
    → close id stamp (with_ends forever cells) ≡ with_ends stamp cells
segment_close id stamp [] a b = refl
segment_close id stamp (c ∷ []) a b = let t = last_goes_on id c a.0 in rw t refl
segment_close id stamp (c ∷ (d ∷ cells)) a b =
    let t = not_on id d.start c b.1.0 in
    rw t (ap (λ cs. entry c d.start ∷ cs) (segment_close id stamp (d ∷ cells) a.1 b.1))

-- the writes of the id after a put
of_id_put : (id : ℕ) (v : Value) (stamp : ℕ) (cells : List Write)
    → of_id id (put id v stamp cells) ≡ (if is_value v (newest id cells) then of_id id cells
    else of_id id cells ++ written id v stamp ∷ [])
of_id_put id v stamp cells = by_case (is_value v (newest id cells))
  where
    by_case : (b : Bool) → of_id id (if b then cells else cells ++ written id v stamp ∷ [])
        ≡ (if b then of_id id cells else of_id id cells ++ written id v stamp ∷ [])
    by_case true = refl
    by_case false = of_id_more id v stamp cells

put_above : (low id : ℕ) (v : Value) (stamp : ℕ) (keys : List Span) (cells : List Write) → id < low
    → entries_from low keys (put id v stamp cells) ≡ entries_from low keys cells
put_above low id v stamp [] cells h = refl
put_above low id v stamp (k ∷ keys) cells h =
    let e = of_id_other low id v stamp cells (λ e. omega (arith, h, e)) in
    let f = put_above (low + 1) id v stamp keys cells (omega (arith, h)) in
    rw (e, f) refl

some_fit : (key : Span) (cells : List Write) → Fits key cells → (c : Write) × (rest : List Write)
    × (cells ≡ c ∷ rest)
some_fit key [] f = absurd f
some_fit key (c ∷ cells) f = (c, cells, refl)

segment_put : (id : ℕ) (v : Value) (stamp : ℕ) (key : Span) (cells : List Write) (ys : List Cell)
    → Fits key (of_id id cells) → Below forever (of_id id cells)
    → with_ends forever (of_id id (put id v stamp cells)) ++ ys
    ≡ write id v stamp (with_ends forever (of_id id cells) ++ ys)
segment_put id v stamp key cells ys f b =
    let s = some_fit key (of_id id cells) f in
    let a : AllOf id (s.0 ∷ s.1) = subst (AllOf id) s.2 (all_of_id id cells) in
    let b' : Below forever (s.0 ∷ s.1) = subst (Below forever) s.2 b in
    ap (λ cs. with_ends forever cs ++ ys) (of_id_put id v stamp cells)
    ∙ ap (λ vs. with_ends forever (if is_value v vs then of_id id cells
    else of_id id cells ++ written id v stamp ∷ []) ++ ys) (newest_is id cells)
    ∙ ap (λ cs. with_ends forever (if is_value v (last_value cs) then cs
    else cs ++ written id v stamp ∷ []) ++ ys) s.2
    ∙ sym (segment_write id v stamp s.0 s.1 ys a b')
    ∙ ap (λ cs. write id v stamp (with_ends forever cs ++ ys)) (sym s.2)

-- one column, an id that is there
pub write_at : (low j id : ℕ) (v : Value) (stamp : ℕ) (keys : List Span) (cells : List Write)
    → id ≡ low + j → j < length keys → (get_or keys j no_span).end ≡ forever
    → Fits (get_or keys j no_span) (of_id id cells) → Below forever (of_id id cells)
    → entries_from low keys (put id v stamp cells) ≡ write id v stamp (entries_from low keys cells)
write_at low j id v stamp [] cells e h o f b = absurd (omega arith)
write_at low zero id v stamp (k ∷ keys) cells e h o f b =
    let i : low ≡ id = omega (arith, e) in
    let o' : k.end ≡ forever = o in
    let t : entries_from (low + 1) keys (put id v stamp cells) ≡ entries_from (low + 1) keys cells =
    put_above (low + 1) id v stamp keys cells (omega (arith, e)) in
    ap (λ n. with_ends n (of_id low (put id v stamp cells))
    ++ entries_from (low + 1) keys (put id v stamp cells)) o'
    ∙ ap (λ r. with_ends forever (of_id low (put id v stamp cells)) ++ r) t
    ∙ ap (λ n. with_ends forever (of_id n (put id v stamp cells))
    ++ entries_from (low + 1) keys cells) i
    ∙ segment_put id v stamp k cells (entries_from (low + 1) keys cells) f b
    ∙ ap (λ n. write id v stamp (with_ends forever (of_id n cells)
    ++ entries_from (low + 1) keys cells)) (sym i)
    ∙ ap (λ n. write id v stamp (with_ends n (of_id low cells)
    ++ entries_from (low + 1) keys cells)) (sym o')
write_at low (suc j) id v stamp (k ∷ keys) cells e h o f b =
    let n : low ≢ id = (λ q. omega (arith, q, e)) in
    let m : id ≢ low = (λ q. n (sym q)) in
    let again = write_at (low + 1) j id v stamp keys cells (omega (arith, e)) (omega (arith, h)) o f
    b in
    ap (λ cs. with_ends k.end cs ++ entries_from (low + 1) keys (put id v stamp cells))
    (of_id_other low id v stamp cells m)
    ∙ ap (λ r. with_ends k.end (of_id low cells) ++ r) again
    ∙ sym (write_pass id v stamp (with_ends k.end (of_id low cells))
    (entries_from (low + 1) keys cells) (segment_others low id k.end cells n))

-- one column, a new id
pub write_more : (low id : ℕ) (v : Value) (stamp : ℕ) (keys : List Span) (cells : List Write)
    → id ≡ low + length keys → of_id id cells ≡ []
    → entries_from low (keys ++ span stamp forever ∷ []) (cells ++ written id v stamp ∷ [])
    ≡ write id v stamp (entries_from low keys cells)
write_more low id v stamp [] cells e none =
    let i : low ≡ id = omega (arith, e) in
    let here : of_id low (cells ++ written id v stamp ∷ []) ≡ written id v stamp ∷ [] =
    ap (λ n. of_id n (cells ++ written id v stamp ∷ [])) i ∙ of_id_more id v stamp cells
    ∙ ap (λ cs. cs ++ written id v stamp ∷ []) none in
    rw here refl
write_more low id v stamp (k ∷ keys) cells e none =
    let n : low ≢ id = (λ q. omega (arith, q, e)) in
    let m : id ≢ low = (λ q. n (sym q)) in
    let same : of_id low (cells ++ written id v stamp ∷ []) ≡ of_id low cells =
    of_id-append low cells (written id v stamp ∷ [])
    ∙ ap (λ cs. of_id low cells ++ cs) (other_id low (written id v stamp) m)
    ∙ append-nil (of_id low cells) in
    let again = write_more (low + 1) id v stamp keys cells (omega (arith, e)) none in
    ap (λ cs. with_ends k.end cs ++ entries_from (low + 1) (keys ++ span stamp forever ∷ [])
    (cells ++ written id v stamp ∷ [])) same
    ∙ ap (λ r. with_ends k.end (of_id low cells) ++ r) again
    ∙ sym (write_pass id v stamp (with_ends k.end (of_id low cells))
    (entries_from (low + 1) keys cells) (segment_others low id k.end cells n))

-- one column, an id that ends
pub close_at : (low j id stamp : ℕ) (keys : List Span) (cells : List Write) → id ≡ low + j
    → j < length keys → (get_or keys j no_span).end ≡ forever → Below forever (of_id id cells)
    → entries_from low (set keys j (ended_at stamp (get_or keys j no_span))) cells
    ≡ close id stamp (entries_from low keys cells)
close_at low j id stamp [] cells e h o b = absurd (omega arith)
close_at low zero id stamp (k ∷ keys) cells e h o b =
    let i : id ≡ low = omega (arith, e) in
    let o' : k.end ≡ forever = o in
    let rest = close_pass id stamp (entries_from (low + 1) keys cells)
    (entries_others (low + 1) id keys cells (omega (arith, e))) in
    let b' : Below forever (of_id low cells) = subst (λ n. Below forever (of_id n cells)) i b in
    let a : AllOf id (of_id low cells) = subst (λ n. AllOf id (of_id n cells)) i
    (all_of_id id cells) in
    sym (
    ap (λ n. close id stamp (with_ends n (of_id low cells) ++ entries_from (low + 1) keys cells)) o'
    ∙ close_append id stamp (with_ends forever (of_id low cells))
    (entries_from (low + 1) keys cells)
    ∙ ap (λ cs. cs ++ close id stamp (entries_from (low + 1) keys cells))
    (segment_close id stamp (of_id low cells) a b')
    ∙ ap (λ cs. with_ends stamp (of_id low cells) ++ cs) rest
    )
close_at low (suc j) id stamp (k ∷ keys) cells e h o b =
    let n : low ≢ id = (λ q. omega (arith, q, e)) in
    let again = close_at (low + 1) j id stamp keys cells (omega (arith, e)) (omega (arith, h)) o
    b in
    ap (λ r. with_ends k.end (of_id low cells) ++ r) again
    ∙ sym (close_append id stamp (with_ends k.end (of_id low cells))
    (entries_from (low + 1) keys cells) ∙ ap
    (λ cs. cs ++ close id stamp (entries_from (low + 1) keys cells))
    (close_pass id stamp (with_ends k.end (of_id low cells))
    (segment_others low id k.end cells n)))

-- what is before the stamp is before the end of time
pub below_more : (from to : ℕ) (cells : List Write) → from ≤ to → Below from cells → Below to cells
below_more from to [] l b = tt
below_more from to (c ∷ cells) l b = let s : c.start < from = b.0 in
    (omega (arith, s), below_more from to cells l b.1)
