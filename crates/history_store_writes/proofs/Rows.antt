-- Rows that are written column by column.
use Rattle.std.proofs.Common.{◌≡◌, ◌≢◌, ℕ, zero, suc, ◌+◌, ◌<◌, ◌≤◌, true, List, [], ◌∷◌, ◌++◌}
use Rattle.std.proofs.Common.{length, get_or, set, take, refl, sym, ap, ◌∙◌, append-nil, subst}
use Rattle.std.proofs.Common.{arith, inl, inr}
use Rattle.std.proofs.lemmas.Bool.Decides.{eqb_tells}
use Rattle.std.proofs.lemmas.List.{get_or-set_same, get_or-set_other, get_or_default, take_more}
use Rattle.std.specs.Prelude.{min, max}
use Rattle.prima_base.specs.declared.value.Value.{Value}
use Rattle.history_store_columns.specs.Log.{Log, Write}
use Rattle.history_store_row_order.specs.Logs.{cells_of}
use Rattle.history_store_writes.specs.Logs.{kinds_of, types_of, AreOf, least_spare}
use Rattle.prima_base.specs.Columns.{Column, has_type}
use Rattle.history_store_columns.specs.Puts.{put}
use Rattle.history_store_writes.specs.Writing.{put_row, unpaired, new_keys}
use Rattle.relations_spec.specs.Spans.{Span}
use Rattle.history_store_row_order.proofs.Cells.{length-cells_of, cells_of-set, get_or-cells_of}

pub put_row-nil : (id stamp : ℕ) (columns : List (List Write))
    → columns ≡ put_row id [] stamp columns
put_row-nil id stamp [] = refl
put_row-nil id stamp (c ∷ columns) = refl

put_row-push : (id stamp : ℕ) (v : Value) (row : List Value) (columns : List (List Write))
    → length row < length columns
    → put_row id (row ++ v ∷ []) stamp columns
    ≡ set (put_row id row stamp columns) (length row)
    (put id v stamp (get_or columns (length row) []))
put_row-push id stamp v row [] h = absurd (omega arith)
put_row-push id stamp v [] (c ∷ columns) h = ap (λ cs. put id v stamp c ∷ cs)
    (sym (put_row-nil id stamp columns))
put_row-push id stamp v (w ∷ row) (c ∷ columns) h =
    ap (λ cs. put id w stamp c ∷ cs) (put_row-push id stamp v row columns (omega arith))

pub pushed : (id stamp : ℕ) (v : Value) (row : List Value) (old columns : List Log) (k : ℕ)
    (c d : Log) → k ≡ length row → k < length old
    → cells_of columns ≡ put_row id row stamp (cells_of old)
    → c.cells ≡ put id v stamp (get_or old k d).cells
    → cells_of (set columns k c) ≡ put_row id (row ++ v ∷ []) stamp (cells_of old)
pushed id stamp v row old columns k c d n h e f =
    let b : length row < length (cells_of old) = rw (length-cells_of old) (omega arith) in
    let g : get_or (cells_of old) (length row) [] ≡ (get_or old k d).cells =
    subst (λ j. get_or (cells_of old) j [] ≡ (get_or old k d).cells) n
    (get_or-cells_of old k d h) in
    cells_of-set columns k c
    ∙ ap (λ cs. set cs k c.cells) e
    ∙ ap (λ j. set (put_row id row stamp (cells_of old)) j c.cells) n
    ∙ ap (λ x. set (put_row id row stamp (cells_of old)) (length row) x)
    (f ∙ ap (put id v stamp) (sym g))
    ∙ sym (put_row-push id stamp v row (cells_of old) b)

-- one more column is done
pub done_more : (old columns : List Log) (k id room : ℕ) (c e : Log) → k < length columns
    → e ≡ get_or columns k e
    → c.ids ≡ max (get_or columns k e).ids (id + 1) → (get_or columns k e).spare ≤ c.spare + room
    → ((j : ℕ) (d : Log) → j < k → ((get_or columns j d).ids ≡ max (get_or old j d).ids (id + 1))
    × ((get_or old j d).spare ≤ (get_or columns j d).spare + room))
    → ((j : ℕ) (d : Log) → k ≤ j → get_or columns j d ≡ get_or old j d)
    → (j : ℕ) (d : Log) → j < k + 1 → ((get_or (set columns k c) j d).ids
    ≡ max (get_or old j d).ids (id + 1)) × ((get_or old j d).spare ≤
    (get_or (set columns k c) j d).spare + room)
done_more old columns k id room c e h is ids spare done others j d b =
    elim (eqb_tells j k) [
      | inl q ↦
          let here : get_or (set columns k c) j d ≡ c = ap (λ n. get_or (set columns k c) n d) q.1
          ∙ get_or-set_same columns k c d h in
          let was : get_or columns k e ≡ get_or old j d = get_or_default columns k e d h
          ∙ others k d (omega arith) ∙ ap (λ n. get_or old n d) (sym q.1) in
          rw (here, ← was) (ids, spare)
      | inr n ↦
          let there : get_or (set columns k c) j d ≡ get_or columns j d =
          get_or-set_other columns k j c d n.1 in
          let m : j ≢ k = n.1 in
          rw there (done j d (omega arith))
    ]

-- where no row is left, no key is new
pub no_more : (keys full : List Span) (rest : List (List Value)) (stamp : ℕ) (left : List ℕ)
    → rest ≡ [] → full ≡ keys ++ new_keys stamp (unpaired rest left) → keys ≡ full
no_more keys full rest stamp left e f = sym (f
    ∙ ap (λ r. keys ++ new_keys stamp (unpaired r left)) e ∙ none left)
  where
    none : (left : List ℕ) → keys ++ new_keys stamp (unpaired {A = List Value} [] left) ≡ keys
    none [] = append-nil keys
    none (id ∷ left) = append-nil keys

pub ids_kept : (columns : List Log) (k j : ℕ) (c d e : Log) → k < length columns
    → c.ids ≡ (get_or columns k e).ids → (get_or (set columns k c) j d).ids
    ≡ (get_or columns j d).ids
ids_kept columns k j c d e h i =
    elim (eqb_tells j k) [
      | inl q ↦ ap (λ n. (get_or (set columns k c) n d).ids) q.1
          ∙ ap (λ x. x.ids) (get_or-set_same columns k c d h) ∙ i
          ∙ ap (λ x. x.ids) (get_or_default columns k e d h)
          ∙ ap (λ n. (get_or columns n d).ids) (sym q.1)
      | inr n ↦ ap (λ x. x.ids) (get_or-set_other columns k j c d n.1)
    ]

pub room_more : (columns : List Log) (k more : ℕ) (c : Log) → k < length columns → more ≤ c.spare
    → ((j : ℕ) (d : Log) → j < k → more ≤ (get_or columns j d).spare)
    → (j : ℕ) (d : Log) → j < k + 1 → more ≤ (get_or (set columns k c) j d).spare
room_more columns k more c h m r j d b =
    elim (eqb_tells j k) [
      | inl q ↦ rw (q.1, get_or-set_same columns k c d h) m
      | inr n ↦ let o : j ≢ k = n.1 in rw (get_or-set_other columns k j c d n.1)
          (r j d (omega arith))
    ]

-- a column with more room
pub least_more : (columns : List Log) (k : ℕ) (c d : Log) (least : ℕ) → k < length columns
    → (get_or columns k d).spare ≤ c.spare → least_spare least columns ≤ least_spare least
    (set columns k c)
least_more [] k c d least h l = absurd (omega arith)
least_more (b ∷ columns) zero c d least h l = grind arith
least_more (b ∷ columns) (suc k) c d least h l = let r =
    least_more columns k c d least (omega arith) l in grind arith

pub least_up : (a b : ℕ) (columns : List Log) → a ≤ b
    → least_spare a columns ≤ least_spare b columns
least_up a b [] l = l
least_up a b (c ∷ columns) l = let r = least_up a b columns l in grind arith

pub least_from : (a b : ℕ) (columns others : List Log) → a ≤ b
    → ((least : ℕ) → least_spare least columns ≤ least_spare least others)
    → least_spare a columns ≤ least_spare b others
least_from a b columns others l f = let r = least_up a b columns l in let q = f b in
    omega (arith, r, q)

-- the less of two rooms, of which the first grows
pub less_up : (a b n : ℕ) → a ≤ b → min a n ≤ min b n
less_up a b n l = grind arith

-- ---- the types of columns

pub kinds_kept : (columns : List Log) (k : ℕ) (c d : Log) → k < length columns
    → c.kind ≡ (get_or columns k d).kind → kinds_of (set columns k c) ≡ kinds_of columns
kinds_kept [] k c d h e = absurd (omega arith)
kinds_kept (b ∷ columns) zero c d h e = ap (λ x. x ∷ kinds_of columns) e
kinds_kept (b ∷ columns) (suc k) c d h e = ap (λ xs. b.kind ∷ xs)
    (kinds_kept columns k c d (omega arith) e)

pub kinds_of-push : (columns : List Log) (c : Log)
    → kinds_of (columns ++ c ∷ []) ≡ kinds_of columns ++ c.kind ∷ []
kinds_of-push [] c = refl
kinds_of-push (d ∷ columns) c = ap (λ ks. d.kind ∷ ks) (kinds_of-push columns c)

-- a value of the row is of its column's type
pub of_kind : (columns : List Log) (row : List Value) (k : ℕ) (d : Log) (v : Value)
    → AreOf (kinds_of columns) row → k < length row
    → has_type (get_or columns k d).kind (get_or row k v) ≡ true
of_kind columns [] k d v a h = absurd (omega arith)
of_kind [] (w ∷ row) k d v a h = absurd a
of_kind (c ∷ columns) (w ∷ row) zero d v a h = a.0
of_kind (c ∷ columns) (w ∷ row) (suc k) d v a h = of_kind columns row k d v a.1 (omega arith)

types_of-push : (columns : List Column) (c : Column)
    → types_of (columns ++ c ∷ []) ≡ types_of columns ++ c.1 ∷ []
types_of-push [] c = refl
types_of-push (d ∷ columns) c = ap (λ ks. d.1 ∷ ks) (types_of-push columns c)

-- one more column, of its type
pub kinds_more : (logs : List Log) (c : Log) (columns : List Column) (k : ℕ) (d : Column)
    → kinds_of logs ≡ types_of (take k columns) → k < length columns
    → c.kind ≡ (get_or columns k d).1
    → kinds_of (logs ++ c ∷ []) ≡ types_of (take (k + 1) columns)
kinds_more logs c columns k d e h t =
    kinds_of-push logs c
    ∙ ap (λ ks. ks ++ c.kind ∷ []) e
    ∙ ap (λ t. types_of (take k columns) ++ t ∷ []) t
    ∙ sym (types_of-push (take k columns) (get_or columns k d))
    ∙ ap types_of (sym (take_more columns k d h))
