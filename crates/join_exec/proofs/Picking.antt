-- What the entries of a column show, and what the cells of a row are by them.
use Rattle.std.proofs.Common.{◌≡◌, ◌<◌, ◌+◌, ℕ, zero, suc, Bool, true, false, List, [], ◌∷◌, ◌++◌}
use Rattle.std.proofs.Common.{length, get_or, take, drop, cond, refl, sym, ap, ◌∙◌, subst}
use Rattle.std.proofs.Common.{arith, inl, inr}
use Rattle.std.specs.Prelude.{◌&&◌, ◌==◌, MatchBool, Some, slice_index_or}
use Rattle.std.specs.Ordering.{is_eq}
use Rattle.std.specs.Cmp.{Equal-is}
use Rattle.std.specs.Cmp.Lexicographic.{nat_list_cmp_total}
use Rattle.std.proofs.lemmas.Bool.Decides.{nat_tests}
use Rattle.std.proofs.lemmas.Cmp.{tied_itself}
use Rattle.std.proofs.lemmas.List.{take_more, at_drop_more}
use Rattle.relations_spec.specs.Sets.{In}
use Rattle.relations_spec.specs.Spans.{Span, span, covers}
use Rattle.prima_base.specs.Order.{bytes_cmp}
use Rattle.prima_base.specs.Columns.{Column, names_of}
use Rattle.prima_base.specs.declared.value.Value.{Value}
use Rattle.schema_catalog.specs.Databases.{cell}
use Rattle.history_store_spec.specs.Store.{Cell, Store, shown_at, row_at, Holds, IsStore, named}
use Rattle.history_store_spec.specs.Store.{column_of}
use Rattle.join_exec.specs.Reading.{AreNames, count_in, entries_in}
use Rattle.join_exec.specs.Entries.{Has, HasRow}
use Rattle.join_exec.specs.Gathered.{named_cells, or_none, columns_in}

-- the values that a column's entries show
pub from_shown : (id m : ℕ) (cells : List Cell) (v : Value) → In v (shown_at id m cells)
    → Has cells id v m
from_shown id m [] v h = absurd h
from_shown id m (c ∷ cells) v h = step (from_shown id m cells v) (c.id == id && covers c.period m)
    refl h
  where
    more : Has cells id v m → Has (c ∷ cells) id v m
    more r = (r.0, inr r.1, r.2, r.3, r.4)

    step : (In v (shown_at id m cells) → Has cells id v m) → (b : Bool)
        → (c.id == id && covers c.period m) ≡ b
        → In v (cond b (c.value ∷ shown_at id m cells) (shown_at id m cells))
        → Has (c ∷ cells) id v m
    step f true q (inl k) = (
      c,
      inl refl,
      grind (arith, nat_tests),
      k,
      grind (arith, nat_tests),
    )
    step f true q (inr k) = more (f k)
    step f false q k = more (f k)

test_true : (i id m : ℕ) (p : Span) → i ≡ id → covers p m ≡ true → (i == id && covers p m) ≡ true
test_true i id m p e c = grind (arith, nat_tests)

pub shown_once : (id m : ℕ) (c : Cell) (cells : List Cell) → c.id ≡ id → covers c.period m ≡ true
    → shown_at id m (c ∷ cells) ≡ c.value ∷ shown_at id m cells
shown_once id m c cells i h = rw (test_true c.id id m c.period i h) refl

pub in_shown : (id m : ℕ) (cells : List Cell) (v : Value) → Has cells id v m
    → In v (shown_at id m cells)
in_shown id m [] v h = absurd h.1
in_shown id m (c ∷ cells) v (p, k, i, x, t) = step (λ r. in_shown id m cells v (p, r, i, x, t)) k
  where
    step : (In p cells → In v (shown_at id m cells))
        → In p (c ∷ cells) → In v (shown_at id m (c ∷ cells))
    step f (inl e) =
        let same : c.id ≡ id = ap (λ (w : Cell). w.id) e ∙ i in
        let held : covers c.period m ≡ true = ap (λ (w : Cell). covers w.period m) e ∙ t in
        rw (test_true c.id id m c.period same held) (inl (ap (λ (w : Cell). w.value) e ∙ x))
    step f (inr r) = elim (c.id == id && covers c.period m) as (λ b.
        In v (cond b (c.value ∷ shown_at id m cells) (shown_at id m cells))) [
          | true ↦ inr (f r)
          | false ↦ f r
        ]

-- the one value that fills a key's moment
filling : (b : Bool) (P Q : Type 0) → b ≡ true → MatchBool b P Q → P
filling true P Q e h = h
filling false P Q e h = cc

pub filled_at : (s : Store) (cells : List Cell) (id m : ℕ) → IsStore s → In cells s.cells
    → Holds s.keys id m → (v : Value) × (shown_at id m cells ≡ v ∷ [])
filled_at s cells id m w k t =
    let f = w.filled cells k in
    filling (covers (slice_index_or s.keys id (span 0 0)) m) ((v : Value)
    × (shown_at id m cells ≡ v ∷ [])) (shown_at id m cells ≡ []) t.1 (f.filled id t.0 m)

only : (v w : Value) (vs : List Value) → vs ≡ w ∷ [] → In v vs → v ≡ w
only v w vs e h = step (subst (λ (l : List Value). In v l) e h)
  where
    step : In v (w ∷ []) → v ≡ w
    step (inl k) = sym k
    step (inr k) = absurd k

pub itself : (name : List ℕ) → is_eq (bytes_cmp name name) ≡ true
itself name = (Equal-is (bytes_cmp name name)).1 (tied_itself nat_list_cmp_total name)

-- a column of this name is there
pub column_there : {A : Type 0} (columns : List Column) (xs : List A) (name : List ℕ)
    → length xs ≡ length columns → In name (names_of columns) → (x : A)
    × (named name columns xs ≡ Some x)
column_there [] xs name l h = absurd h
column_there (c ∷ columns) [] name l h = absurd (omega arith)
column_there {A} (c ∷ columns) (x ∷ xs) name l h =
    step (λ k. column_there columns xs name (omega arith) k) (is_eq (bytes_cmp c.0 name)) refl h
  where
    step : (In name (names_of columns) → (y : A) × (named name columns xs ≡ Some y)) → (b : Bool)
        → is_eq (bytes_cmp c.0 name) ≡ b → In name (names_of (c ∷ columns)) → (y : A)
        × (cond b (Some x) (named name columns xs) ≡ Some y)
    step f true q k = (x, refl)
    step f false q (inl e) = absurd (let t : is_eq (bytes_cmp c.0 name) ≡ true =
        ap (λ n. is_eq (bytes_cmp n name)) e ∙ itself name in cc)
    step f false q (inr k) = f k

pub named_in : {A : Type 0} (columns : List Column) (xs : List A) (name : List ℕ) (x : A)
    → named name columns xs ≡ Some x → In x xs
named_in [] xs name x e = absurd (cc)
named_in (c ∷ columns) [] name x e = absurd (cc)
named_in {A} (c ∷ columns) (y ∷ xs) name x e =
    step (λ k. named_in columns xs name x k) (is_eq (bytes_cmp c.0 name)) e
  where
    step : (named name columns xs ≡ Some x → In x xs) → (b : Bool)
        → cond b (Some y) (named name columns xs) ≡ Some x → In x (y ∷ xs)
    step f true k = inl (cc)
    step f false k = inr (f k)

-- the cell of a name is what its column shows
cell_shown : (columns : List Column) (all : List (List Cell)) (name : List ℕ) (cells : List Cell)
    (id m : ℕ) (v : Value) → ((cs : List Cell) → In cs all → (w : Value)
    × (shown_at id m cs ≡ w ∷ []))
    → named name columns all ≡ Some cells → shown_at id m cells ≡ v ∷ []
    → cell columns (row_at id m all) name ≡ v
cell_shown [] all name cells id m v f e h = absurd (cc)
cell_shown (c ∷ columns) [] name cells id m v f e h = absurd (cc)
cell_shown (c ∷ columns) (cs ∷ all) name cells id m v f e h =
    let w = f cs (inl refl) in
    rw w.1 (step w.0 w.1 (λ k. cell_shown columns all name cells id m v (λ d i. f d (inr i)) k h)
    (is_eq (bytes_cmp c.0 name)) e)
  where
    step : (w : Value) → shown_at id m cs ≡ w ∷ []
        → (named name columns all ≡ Some cells → cell columns (row_at id m all) name ≡ v)
        → (b : Bool) → cond b (Some cs) (named name columns all) ≡ Some cells
        → cond b w (cell columns (row_at id m all) name) ≡ v
    step w q g true k = let same : cs ≡ cells = cc in let is : w ∷ [] ≡ v ∷ [] = sym q
        ∙ ap (shown_at id m) same ∙ h in cc
    step w q g false k = g k

-- the value that a column has at a moment of its key is the cell
value_is_cell : (s : Store) (name : List ℕ) (id m : ℕ) (v : Value) → IsStore s
    → In name (names_of s.columns) → Holds s.keys id m → Has (or_none (column_of s name)) id v m
    → v ≡ cell s.columns (row_at id m s.cells) name
value_is_cell s name id m v w known k h =
    let there = column_there s.columns s.cells name w.width known in
    let cells = there.0 in
    let shown : Has cells id v m = subst (λ o. Has (or_none o) id v m) there.1 h in
    let filled = filled_at s cells id m w (named_in s.columns s.cells name cells there.1) k in
    only v filled.0 (shown_at id m cells) filled.1 (in_shown id m cells v shown)
    ∙ sym (cell_shown s.columns s.cells name cells id m filled.0
    (λ cs i. filled_at s cs id m w i k) there.1 filled.1)

cell_is_value : (s : Store) (name : List ℕ) (id m : ℕ) → IsStore s
    → In name (names_of s.columns) → Holds s.keys id m
    → Has (or_none (column_of s name)) id (cell s.columns (row_at id m s.cells) name) m
cell_is_value s name id m w known k =
    let there = column_there s.columns s.cells name w.width known in
    let cells = there.0 in
    let filled = filled_at s cells id m w (named_in s.columns s.cells name cells there.1) k in
    let is : cell s.columns (row_at id m s.cells) name ≡ filled.0 =
    cell_shown s.columns s.cells name cells id m filled.0 (λ cs i. filled_at s cs id m w i k)
    there.1 filled.1 in
    let shown : Has cells id filled.0 m =
    from_shown id m cells filled.0
    (subst (λ (l : List Value). In filled.0 l) (sym filled.1) (inl refl)) in
    subst (λ o. Has (or_none o) id (cell s.columns (row_at id m s.cells) name) m) (sym there.1)
    (subst (λ v. Has cells id v m) (sym is) shown)

-- the row that columns have at a moment of its key is made of the cells
pub row_is_picked : (s : Store) (names : List (List ℕ)) (id m : ℕ) (row : List Value) → IsStore s
    → AreNames s.columns names → Holds s.keys id m → HasRow (columns_in s names) id row m
    → row ≡ named_cells s names id m
row_is_picked s [] id m [] w known k h = refl
row_is_picked s [] id m (v ∷ row) w known k h = absurd h
row_is_picked s (name ∷ names) id m [] w known k h = absurd h
row_is_picked s (name ∷ names) id m (v ∷ row) w known k h =
    ap (λ x. x ∷ row) (value_is_cell s name id m v w (known name (inl refl)) k h.0)
    ∙ ap (λ r. cell s.columns (row_at id m s.cells) name ∷ r)
    (row_is_picked s names id m row w (λ n i. known n (inr i)) k h.1)

pub picked_is_row : (s : Store) (names : List (List ℕ)) (id m : ℕ) → IsStore s
    → AreNames s.columns names → Holds s.keys id m
    → HasRow (columns_in s names) id (named_cells s names id m) m
picked_is_row s [] id m w known k = tt
picked_is_row s (name ∷ names) id m w known k = (
  cell_is_value s name id m w (known name (inl refl)) k,
  picked_is_row s names id m w (λ n i. known n (inr i)) k,
)

-- the columns that are still to come
pub in_at : {X : Type 0} (xs : List X) (i : ℕ) (x : X) → i < length xs → x ≡ get_or xs i x → In x xs
in_at [] i x l e = absurd (omega arith)
in_at (y ∷ xs) zero x l e = inl (sym e)
in_at (y ∷ xs) (suc i) x l e = inr (in_at xs i x (omega arith) e)

pub next_entries : (s : Store) (names : List (List ℕ)) (i : ℕ) (name : List ℕ) → i < length names
    → name ≡ get_or names i name
    → entries_in s (drop i names) ≡ count_in (column_of s name) + entries_in s (drop (i + 1) names)
next_entries s names i name l e = at_drop_more (entries_in s) names i name l
    ∙ ap (λ n. count_in (column_of s n) + entries_in s (drop (i + 1) names)) (sym e)

pub next_names : (names : List (List ℕ)) (i : ℕ) (name : List ℕ) → i < length names
    → name ≡ get_or names i name → take (i + 1) names ≡ take i names ++ name ∷ []
next_names names i name l e = take_more names i name l ∙ ap (λ n. take i names ++ n ∷ []) (sym e)

-- the entries of one column more
pub entries_more : (s : Store) (names : List (List ℕ)) (name : List ℕ)
    → entries_in s (names ++ name ∷ []) ≡ entries_in s names + count_in (column_of s name)
entries_more s [] name = omega arith
entries_more s (n ∷ names) name = let e = entries_more s names name in omega arith
