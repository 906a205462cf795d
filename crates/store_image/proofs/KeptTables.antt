-- The stored tables of versions, and what an image has of them.
use Rattle.std.proofs.Common.{◌≡◌, ◌⊎◌, ◌<◌, ◌+◌, ℕ, zero, suc, Bool, true, false, List, [], ◌∷◌}
use Rattle.std.proofs.Common.{length, map, get_or, nat_le, ◌&&◌, refl, sym, subst, ap, ◌∙◌, inl}
use Rattle.std.proofs.Common.{inr, arith}
use Rattle.std.specs.Prelude.{Option, Some, None, slice_get, slice_index_or, cond, All}
use Rattle.std.proofs.lemmas.Bool.{cases_lt}
use Rattle.std.proofs.lemmas.Bool.Decides.{nat_tests}
use Rattle.std.proofs.lemmas.List.{get_or_default}
use Rattle.relations_spec.specs.Sets.{In}
use Rattle.relations_spec.specs.Spans.{Span, forever}
use Rattle.prima_base.specs.OrderLaws.{same_is}
use Rattle.history_store_spec.specs.Store.{Cell, Store, IsBefore, AllBefore, relation_at}
use Rattle.smo_ops_spec.specs.ValidPast.{IsLater}
use Rattle.smo_ops_spec.specs.OneRow.{same}
use Rattle.smo_ops_spec.specs.Sizes.{Written, Size}
use Rattle.smo_ops_versions_spec.specs.Lifelines.{Lifeline, covers, is_up_to, Covers}
use Rattle.smo_ops_versions_spec.specs.Lifelines.{IsUpTo as GoesTo}
use Rattle.store_image_spec.specs.Images.{StoredLine, IsUpTo, EndsUpTo, store_of}
use Rattle.store_image_spec.specs.ShownPast.{cells_written, line_size}
use Rattle.version_groups.specs.StoredTables.{MadeTable, with_table, at_places, stored_as}
use Rattle.version_groups.specs.Covering.{line_of}
use Rattle.version_groups.specs.Representation.{AreUpTo}
use Rattle.version_groups.specs.Sizes.{IsWritten, AreWritten, HasSize, HaveSizes}
use Rattle.store_image.specs.ImageIn.{kept_line}

-- ---- places

-- where something of a list stands
pub place_of : {A : Type 0} (x d : A) (xs : List A) → In x xs → (k : ℕ) × (k < length xs)
    × (slice_index_or xs k d ≡ x)
place_of x d [] i = absurd i
place_of x d (y ∷ xs) (inl e) = (zero, omega arith, e)
place_of x d (y ∷ xs) (inr i) = let r = place_of x d xs i in (suc r.0, omega (arith, r.1), r.2)

pub got_in : {A : Type 0} (xs : List A) (k : ℕ) (x : A) → slice_get xs k ≡ Some x → In x xs
got_in [] k x e = absurd (cc)
got_in (y ∷ xs) zero x e = inl (cc)
got_in (y ∷ xs) (suc k) x e = inr (got_in xs k x e)

-- ---- stamps

-- where no stamp of a table is later than the last, none of its periods is
pub all_before : (last : Option ℕ) (tables : List MadeTable) → AreUpTo last tables → (t : MadeTable)
    → In t tables → (m : ℕ) → IsLater last m → AllBefore t.store m
all_before last tables are t i m later = let r = place_of t t tables i in
    subst (λ (u : MadeTable). AllBefore u.store m) r.2 (are r.0 t m r.1 later)

pub ends_up_to : (last : Option ℕ) (p : Span) → ((m : ℕ) → IsLater last m → IsBefore m p)
    → EndsUpTo last p
ends_up_to None p f = absurd (let h = (f 0 tt).0 in omega (arith, h))
ends_up_to (Some n) p f =
    let h : IsBefore (n + 1) p = f (n + 1) (omega arith) in
    (inr (n, refl, (let s = h.0 in omega (arith, s))), end h.1)
  where
    end : ((p.end < n + 1) ⊎ (p.end ≡ forever)) → IsUpTo (Some n) p.end
    end (inl l) = inr (n, refl, omega (arith, l))
    end (inr e) = inl e

-- ---- sizes

written_is : (w : Written) (cells : List Cell) → IsWritten w cells → cells_written cells ≡ w
written_is w cells is = λ i. record { cells = is.count i; bytes = is.bytes i }

columns_are : (columns : List Written) (cells : List (List Cell)) → AreWritten columns cells
    → map cells_written cells ≡ columns
columns_are [] [] are = refl
columns_are [] (c ∷ cells) are = absurd (let n = are.count in omega (arith, n))
columns_are (w ∷ columns) [] are = absurd (let n = are.count in omega (arith, n))
columns_are (w ∷ columns) (c ∷ cells) are =
    let n = are.count in
    let first : cells_written c ≡ w = written_is w c (are.each 0 (omega arith)) in
    let others : map cells_written cells ≡ columns =
    columns_are columns cells (record {
      count = omega (arith, n);
      each = λ k l.
          are.each (suc k) (omega (arith, l));
    }) in
    λ i. first i ∷ others i

size_is : (s : Size) (t : MadeTable) → HasSize s t → line_size (kept_line t) ≡ s
size_is s t has =
    let columns = columns_are s.columns t.store.cells has.columns in
    λ i. record {
      table = has.name i;
      first = has.first i;
      last = has.last i;
      keys = has.keys i;
      columns = columns i;
    }

pub sizes_are : (sizes : List Size) (tables : List MadeTable) → HaveSizes sizes tables
    → map line_size (map kept_line tables) ≡ sizes
sizes_are [] [] have = refl
sizes_are [] (t ∷ tables) have = absurd (let n = have.count in omega (arith, n))
sizes_are (s ∷ sizes) [] have = absurd (let n = have.count in omega (arith, n))
sizes_are (s ∷ sizes) (t ∷ tables) have =
    let n = have.count in
    let first : line_size (kept_line t) ≡ s = size_is s t (have.each 0 s t (omega arith)) in
    let others : map line_size (map kept_line tables) ≡ sizes =
    sizes_are sizes tables (record {
      count = omega (arith, n);
      each = λ k r u l.
          have.each (suc k) r u (omega (arith, l));
    }) in
    λ i. first i ∷ others i

-- ---- lifelines

pub lines_are : (tables : List MadeTable) → map (λ (l : StoredLine). l.line) (map kept_line tables)
    ≡ map line_of tables
lines_are [] = refl
lines_are (t ∷ tables) = ap (λ ls. line_of t ∷ ls) (lines_are tables)

-- what is kept over a lifeline has the rows of its table
pub same_relations : (t : MadeTable) (m : ℕ) → relation_at (store_of (kept_line t)) m
    ≡ relation_at t.store m
unfolding relation_at
same_relations t m = refl

up_to : (last : Option ℕ) (k : ℕ) → is_up_to last k ≡ true → GoesTo last k
up_to None k e = tt
up_to (Some last) k e = grind (arith, nat_tests, e)

pub covering : (k : ℕ) (l : Lifeline) → covers k l ≡ true → Covers l.first l.last k
covering k l e = step (nat_le l.first k) (is_up_to l.last k) refl refl e
  where
    step : (a b : Bool) → nat_le l.first k ≡ a → is_up_to l.last k ≡ b → (a && b) ≡ true
        → Covers l.first l.last k
    step true true p q h = (grind (arith, nat_tests, p), up_to l.last k q)
    step true false p q h = absurd (cc)
    step false b p q h = absurd (cc)

-- ---- the table under a name

-- a table at one of these places, with this name, which is stored so
pub record IsAt (tables : List MadeTable) (places : List ℕ) (name : List ℕ) (store : Store) :
    Type 0 where
  pub place : ℕ
  pub table : MadeTable
  pub among : In place places
  pub at : slice_get tables place ≡ Some table
  pub named : table.name ≡ name
  pub is : table.store ≡ store

pub found_at : (tables : List MadeTable) (places : List ℕ) (name : List ℕ) (store : Store)
    → stored_as name (at_places tables places) ≡ Some store → IsAt tables places name store
found_at tables [] name store e = absurd (cc)
found_at tables (p ∷ places) name store e = by_place (slice_get tables p) refl
    (found_at tables places name store) e
  where
    after : IsAt tables places name store → IsAt tables (p ∷ places) name store
    after r = record {
      place = r.place;
      table = r.table;
      among = inr r.among;
      at = r.at;
      named =
          r.named;
      is = r.is;
    }

    by_name : (t : MadeTable) → slice_get tables p ≡ Some t
        → (stored_as name (at_places tables places) ≡ Some store → IsAt tables places name store)
        → (b : Bool) → same t.name name ≡ b
        → cond b (Some t.store) (stored_as name (at_places tables places)) ≡ Some store
        → IsAt tables (p ∷ places) name store
    by_name t at more true q h = record {
      place = p;
      table = t;
      among = inl refl;
      at = at;
      named = same_is t.name name q;
      is = cc;
    }
    by_name t at more false q h = after (more h)

    by_place : (o : Option MadeTable) → slice_get tables p ≡ o
        → (stored_as name (at_places tables places) ≡ Some store → IsAt tables places name store)
        → stored_as name (with_table o (at_places tables places)) ≡ Some store
        → IsAt tables (p ∷ places) name store
    by_place None at more h = after (more h)
    by_place (Some t) at more h = by_name t at more (same t.name name) refl h

-- ---- all of a list

-- one more of a list
pub all_next : {A : Type 0} (P : A → Type 0) (xs : List A) (i : ℕ) (x : A) → i < length xs
    → get_or xs i x ≡ x → P x → ((k : ℕ) → (d : A) → k < i → P (get_or xs k d))
    → (k : ℕ) → (d : A) → k < i + 1 → P (get_or xs k d)
all_next P xs i x inside is p before k d l = elim (cases_lt k i) [
  | inl h ↦ before k d h
  | inr h ↦ (let e : k ≡ i = omega (arith, h, l) in
      subst P (sym is ∙ get_or_default xs i x d inside ∙ ap (λ n. get_or xs n d) (sym e)) p)
]

pub all_in : {A : Type 0} (P : A → Type 0) (xs : List A) → All P xs → (x : A) → In x xs → P x
all_in P [] all x i = absurd i
all_in P (y ∷ xs) all x (inl e) = subst P e (all 0 y (omega arith))
all_in P (y ∷ xs) all x (inr i) = all_in P xs (λ k d h. all (suc k) d (omega (arith, h))) x i
