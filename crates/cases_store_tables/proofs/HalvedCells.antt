-- Cells that ascend, in two parts: what a part shows of an id that is past it is nothing.
use Rattle.std.specs.Prelude.{◌≡◌, ℕ, ◌<◌, ◌≤◌, ◌&&◌, ◌==◌, Bool, true, false, List, [], ◌∷◌, ◌++◌}
use Rattle.std.specs.Prelude.{if◌then◌else◌, ◌+◌, All, length, map}
use Rattle.std.specs.Ordering.{nat_cmp, ordering_then}
use Rattle.std.specs.declared.cmp.Ordering.{Ordering}
use Rattle.std.specs.declared.cmp.Ordering.TheVariants.{Less, Equal, Greater}
use Rattle.std.proofs.Common.{refl, sym, ap, subst, ◌∙◌, inl, append_assoc, append-nil, arith}
use Rattle.std.proofs.Common.{take, drop, get_or}
use Rattle.std.proofs.lemmas.Bool.Decides.{nat_tests}
use Rattle.std.proofs.lemmas.List.{take-append-drop, map-append, drop_more, take-map, drop-map}
use Rattle.std.proofs.lemmas.List.Elements.{All-take, All-drop, All-head}
use Rattle.relations_spec.specs.Sets.{BeforeAll, Ascends}
use Rattle.relations_spec.specs.Spans.{covers}
use Rattle.relations_spec.proofs.SetLaws.{before_in, in_right}
use Rattle.relations_spec.proofs.ListingLaws.{less_nat}
use Rattle.prima_base.specs.Columns.{IsValid}
use Rattle.prima_base.specs.declared.value.Value.{Value}
use Rattle.history_store.specs.Store.{Cell, Store, IsStore, shown_at, cell_cmp}
use Rattle.history_store.specs.Restoring.{cell_of}
use Rattle.history_store.specs.declared.restoration.Cell.{Cell as GivenCell}
use Rattle.cases_store_tables.proofs.RowOrderLaws.{in_get, shown_first}

-- of two cells in order the first has no greater id
ids_rise : (c d : Cell) → cell_cmp c d ≡ Less → c.id ≤ d.id
ids_rise c d l = by_case (nat_cmp c.id d.id) refl
  where
    by_case : (r : Ordering) → nat_cmp c.id d.id ≡ r → c.id ≤ d.id
    by_case Less e = let h = less_nat c.id d.id e in omega (arith, h)
    by_case Equal e = grind (arith, nat_tests)
    by_case Greater e = (let t : cell_cmp c d ≡ Greater =
        ap (λ r. ordering_then r (nat_cmp c.period.start d.period.start)) e in absurd (cc))

-- a cell of another id is not shown
unseen : (id m : ℕ) (c : Cell) (cells : List Cell) → (c.id ≡ id → ⊥) → shown_at id m cells ≡ []
    → shown_at id m (c ∷ cells) ≡ []
unseen id m c cells other none = step (c.id == id) refl
  where
    step : (b : Bool) → (c.id == id) ≡ b → shown_at id m (c ∷ cells) ≡ []
    step true q = absurd (other (grind (arith, nat_tests)))
    step false q = ap (λ b. if (b && covers c.period m) then c.value ∷ shown_at id m cells
        else shown_at id m cells) q ∙ none

none_before : (id m : ℕ) (xs : List Cell) (p : Cell) (ys : List Cell)
    → Ascends cell_cmp (xs ++ p ∷ ys) → p.id < id → shown_at id m xs ≡ []
none_before id m [] p ys a l = refl
none_before id m (x ∷ xs) p ys a l =
    let r = ids_rise x p (before_in cell_cmp x p (xs ++ p ∷ ys) a.0
    (in_right p xs (p ∷ ys) (inl refl))) in
    unseen id m x xs (λ e. omega (arith, r, l, e)) (none_before id m xs p ys a.1 l)

none_after : (id m : ℕ) (p : Cell) (ys : List Cell) → Ascends cell_cmp (p ∷ ys) → id < p.id
    → shown_at id m (p ∷ ys) ≡ []
none_after id m p ys a l = unseen id m p ys (λ e. omega (arith, l, e)) (rest ys a.0)
  where
    rest : (zs : List Cell) → BeforeAll cell_cmp p zs → shown_at id m zs ≡ []
    rest [] b = refl
    rest (z ∷ zs) b = (let r = ids_rise p z b.0 in
        unseen id m z zs (λ e. omega (arith, l, r, e)) (rest zs b.1))

-- what is shown of two parts
shown_parts : (id m : ℕ) (xs ys : List Cell)
    → shown_at id m (xs ++ ys) ≡ shown_at id m xs ++ shown_at id m ys
shown_parts id m [] ys = refl
shown_parts id m (x ∷ xs) ys =
    shown_first id m x (xs ++ ys)
    ∙ ap (λ l. shown_at id m (x ∷ []) ++ l) (shown_parts id m xs ys)
    ∙ sym (append_assoc (shown_at id m (x ∷ [])) (shown_at id m xs) (shown_at id m ys))
    ∙ ap (λ l. l ++ shown_at id m ys) (sym (shown_first id m x xs))

-- a part of what ascends ascends
before_left : (c : Cell) (xs ys : List Cell) → BeforeAll cell_cmp c (xs ++ ys)
    → BeforeAll cell_cmp c xs
before_left c [] ys b = tt
before_left c (x ∷ xs) ys b = (b.0, before_left c xs ys b.1)

left_ascends : (xs ys : List Cell) → Ascends cell_cmp (xs ++ ys) → Ascends cell_cmp xs
left_ascends [] ys a = tt
left_ascends (x ∷ xs) ys a = (before_left x xs ys a.0, left_ascends xs ys a.1)

right_ascends : (xs ys : List Cell) → Ascends cell_cmp (xs ++ ys) → Ascends cell_cmp ys
right_ascends [] ys a = a
right_ascends (x ∷ xs) ys a = right_ascends xs ys a.1

-- where the second part begins before the id, all of it is shown there; where it begins past the
-- id, in the first part
shown_right : (id m : ℕ) (xs : List Cell) (p : Cell) (ys : List Cell)
    → Ascends cell_cmp (xs ++ p ∷ ys) → p.id < id
    → shown_at id m (xs ++ p ∷ ys) ≡ shown_at id m (p ∷ ys)
shown_right id m xs p ys a l = shown_parts id m xs (p ∷ ys)
    ∙ ap (λ s. s ++ shown_at id m (p ∷ ys)) (none_before id m xs p ys a l)

shown_left : (id m : ℕ) (xs : List Cell) (p : Cell) (ys : List Cell)
    → Ascends cell_cmp (xs ++ p ∷ ys) → id < p.id
    → shown_at id m (xs ++ p ∷ ys) ≡ shown_at id m xs
shown_left id m xs p ys a l = shown_parts id m xs (p ∷ ys)
    ∙ ap (λ s. shown_at id m xs ++ s) (none_after id m p ys (right_ascends xs (p ∷ ys) a) l)
    ∙ append-nil (shown_at id m xs)

-- the cells of each column of a store ascend
pub cells_ascend : (s : Store) (cells : List (List Cell)) → cells ≡ s.cells → IsStore s
    → All (Ascends cell_cmp) cells
cells_ascend s cells e h = subst (All (Ascends cell_cmp)) (sym e)
    (λ k d l. (h.filled _ (in_get s.cells k d l)).ascending)

-- ---- cells as they are given, halved at a place

halves : (cells : List GivenCell) (k : ℕ)
    → map cell_of cells ≡ map cell_of (take k cells) ++ map cell_of (drop k cells)
halves cells k = ap (map cell_of) (sym (take-append-drop k cells))
    ∙ map-append cell_of (take k cells) (drop k cells)

begins : (cells : List GivenCell) (k : ℕ) (d : GivenCell) → k < length cells
    → map cell_of (drop k cells)
    ≡ cell_of (get_or (drop k cells) 0 d) ∷ map cell_of (drop (k + 1) cells)
begins cells k d l =
    let e = drop_more cells k d l in
    ap (map cell_of) e ∙ ap (λ (c : GivenCell). cell_of c ∷ map cell_of (drop (k + 1) cells))
    (sym (ap (λ (r : List GivenCell). get_or r 0 d) e))

-- what is so of all cells, or of their order, is so of each half
pub left_half : (P : Cell → Type 0) (cells : List GivenCell) (k : ℕ) → All P (map cell_of cells)
    → All P (map cell_of (take k cells))
left_half P cells k all = subst (All P) (take-map cell_of k cells)
    (All-take P k (map cell_of cells) all)

pub right_half : (P : Cell → Type 0) (cells : List GivenCell) (k : ℕ) → All P (map cell_of cells)
    → All P (map cell_of (drop k cells))
right_half P cells k all = subst (All P) (drop-map cell_of k cells)
    (All-drop P k (map cell_of cells) all)

pub left_half_ascends : (cells : List GivenCell) (k : ℕ) → Ascends cell_cmp (map cell_of cells)
    → Ascends cell_cmp (map cell_of (take k cells))
left_half_ascends cells k a = left_ascends (map cell_of (take k cells))
    (map cell_of (drop k cells)) (subst (Ascends cell_cmp) (halves cells k) a)

pub right_half_ascends : (cells : List GivenCell) (k : ℕ) → Ascends cell_cmp (map cell_of cells)
    → Ascends cell_cmp (map cell_of (drop k cells))
right_half_ascends cells k a = right_ascends (map cell_of (take k cells))
    (map cell_of (drop k cells)) (subst (Ascends cell_cmp) (halves cells k) a)

-- what is shown of an id: in both halves; in the right one alone, where that begins below the id;
-- in the left one alone, where the right one begins above it
both_shown : (id m : ℕ) (cells : List GivenCell) (k : ℕ)
    → shown_at id m (map cell_of cells)
    ≡ shown_at id m (map cell_of (take k cells)) ++ shown_at id m (map cell_of (drop k cells))
both_shown id m cells k = ap (shown_at id m) (halves cells k)
    ∙ shown_parts id m (map cell_of (take k cells)) (map cell_of (drop k cells))

right_shown : (id m : ℕ) (cells : List GivenCell) (k : ℕ) (d : GivenCell) → k < length cells
    → Ascends cell_cmp (map cell_of cells) → (get_or (drop k cells) 0 d).id < id
    → shown_at id m (map cell_of cells) ≡ shown_at id m (map cell_of (drop k cells))
right_shown id m cells k d l a low =
    let xs = map cell_of (take k cells) in
    let p = cell_of (get_or (drop k cells) 0 d) in
    let ys = map cell_of (drop (k + 1) cells) in
    let e : map cell_of cells ≡ xs ++ p ∷ ys =
    halves cells k ∙ ap (λ (r : List Cell). xs ++ r) (begins cells k d l) in
    ap (shown_at id m) e ∙ shown_right id m xs p ys (subst (Ascends cell_cmp) e a) low
    ∙ ap (shown_at id m) (sym (begins cells k d l))

left_shown : (id m : ℕ) (cells : List GivenCell) (k : ℕ) (d : GivenCell) → k < length cells
    → Ascends cell_cmp (map cell_of cells) → id < (get_or (drop k cells) 0 d).id
    → shown_at id m (map cell_of cells) ≡ shown_at id m (map cell_of (take k cells))
left_shown id m cells k d l a high =
    let xs = map cell_of (take k cells) in
    let p = cell_of (get_or (drop k cells) 0 d) in
    let ys = map cell_of (drop (k + 1) cells) in
    let e : map cell_of cells ≡ xs ++ p ∷ ys =
    halves cells k ∙ ap (λ (r : List Cell). xs ++ r) (begins cells k d l) in
    ap (shown_at id m) e ∙ shown_left id m xs p ys (subst (Ascends cell_cmp) e a) high

-- the same by how the first id of the right half compares
greater_nat : (m n : ℕ) → nat_cmp m n ≡ Greater → n < m
greater_nat m n h = grind (arith, nat_tests)

pub right_found : (id m : ℕ) (cells right : List GivenCell) (k : ℕ) (p : GivenCell)
    → k < length cells → Ascends cell_cmp (map cell_of cells) → right ≡ drop k cells
    → nat_cmp (get_or right 0 p).id id ≡ Less
    → shown_at id m (map cell_of cells) ≡ shown_at id m (map cell_of right)
right_found id m cells right k p l a back less =
    right_shown id m cells k p l a (subst (λ (r : List GivenCell). (get_or r 0 p).id < id) back
    (less_nat (get_or right 0 p).id id less))
    ∙ ap (λ (r : List GivenCell). shown_at id m (map cell_of r)) (sym back)

pub left_found : (id m : ℕ) (cells left right : List GivenCell) (k : ℕ) (p : GivenCell)
    → k < length cells → Ascends cell_cmp (map cell_of cells) → left ≡ take k cells
    → right ≡ drop k cells → nat_cmp (get_or right 0 p).id id ≡ Greater
    → shown_at id m (map cell_of cells) ≡ shown_at id m (map cell_of left)
left_found id m cells left right k p l a front back greater =
    left_shown id m cells k p l a (subst (λ (r : List GivenCell). id < (get_or r 0 p).id) back
    (greater_nat (get_or right 0 p).id id greater))
    ∙ ap (λ (r : List GivenCell). shown_at id m (map cell_of r)) (sym front)

pub both_found : (id m : ℕ) (cells left right : List GivenCell) (k : ℕ)
    → left ≡ take k cells → right ≡ drop k cells → (old mid new : List Value)
    → mid ≡ old ++ shown_at id m (map cell_of left) → new ≡ mid ++ shown_at id m (map cell_of right)
    → new ≡ old ++ shown_at id m (map cell_of cells)
both_found id m cells left right k front back old mid new one two =
    two ∙ ap (λ (l : List Value). l ++ shown_at id m (map cell_of right)) one
    ∙ append_assoc old (shown_at id m (map cell_of left)) (shown_at id m (map cell_of right))
    ∙ ap (λ (l : List GivenCell). old ++ (shown_at id m (map cell_of l)
    ++ shown_at id m (map cell_of right))) front
    ∙ ap (λ (r : List GivenCell). old ++ (shown_at id m (map cell_of (take k cells))
    ++ shown_at id m (map cell_of r))) back
    ∙ ap (λ (l : List Value). old ++ l) (sym (both_shown id m cells k))

-- the first cell is valid where all are
pub first_valid : (cells : List GivenCell) (c : GivenCell) → 0 < length cells
    → c ≡ get_or cells 0 c → All (λ x. IsValid x.value) (map cell_of cells)
    → IsValid (cell_of c).value
first_valid cells c some is all =
    let L : Cell → Type 0 = λ x. IsValid x.value in
    let at : map cell_of cells ≡ cell_of c ∷ map cell_of (drop 1 cells) =
    ap (map cell_of) (drop_more cells 0 c some ∙ ap (λ x. x ∷ drop 1 cells) (sym is)) in
    All-head L (cell_of c) (map cell_of (drop 1 cells)) (subst (λ (l : List Cell). All L l) at all)
