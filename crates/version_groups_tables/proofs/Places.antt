-- Tables at places of a list.
use Rattle.std.proofs.Common.{◌≡◌, ◌≤◌, ◌<◌, ℕ, suc, zero, List, [], ◌∷◌, ◌++◌, length, get_or}
use Rattle.std.proofs.Common.{refl, sym, ap, subst, ◌∙◌, arith, inl, inr, length-append}
use Rattle.std.proofs.Common.{get_or-set_same, get_or-set_other}
use Rattle.std.specs.Prelude.{Option, Some, None, ◌⊎◌, slice_get, ⊤}
use Rattle.std.specs.declared.cmp.Ordering.TheVariants.{Less}
use Rattle.std.proofs.Math.ListN.{set, length-set}
use Rattle.std.proofs.lemmas.Option.{slice_get-get_or, slice_get_within, slice_get_past}
use Rattle.std.proofs.lemmas.Option.{get_or_from_slice_get}
use Rattle.std.proofs.lemmas.List.{get_or_append_left, get_or_read}
use Rattle.relations_spec.specs.Sets.{In, Ascends}
use Rattle.relations_spec.proofs.SetLaws.{before_in}
use Rattle.prima_base.specs.Order.{bytes_cmp}
use Rattle.history_store.specs.Store.{Store}
use Rattle.smo_ops_spec.proofs.NameLaws.{same_itself, same_not}
use Rattle.smo_ops_spec.proofs.PastMoments.{before_or_not}
use Rattle.version_groups_tables.specs.declared.made_table.MadeTable.{MadeTable}
use Rattle.version_groups_tables.specs.Stored.{stored_names}
use Rattle.version_groups_tables.specs.Places.{with_table, at_places, AreWithin}
use Rattle.version_groups_tables.specs.Room.{IsSameTable, AreSameTables}
use Rattle.version_groups_tables.proofs.TablesInTurn.{one_place, same_table}

-- ---- one place

pub at_one : (tables : List MadeTable) (p : ℕ) (places : List ℕ) (d : MadeTable) → p < length tables
    → at_places tables (p ∷ places) ≡ get_or tables p d ∷ at_places tables places
at_one tables p places d l = ap (λ o. with_table o (at_places tables places))
    (slice_get-get_or tables p d l)

-- a list that has a place has a table there
pub something_at : (tables : List MadeTable) (p : ℕ) → p < length tables → MadeTable
something_at [] p l = absurd (omega (arith, l))
something_at (t ∷ tables) p l = get_or (t ∷ tables) p t

pub places_within : (places : List ℕ) (m n : ℕ) → m ≤ n → AreWithin places m → AreWithin places n
places_within [] m n l h = tt
places_within (p ∷ places) m n l h = (
  (let a = h.0 in omega (arith, a, l)),
  places_within places m n l h.1,
)

pub more_within : (places more : List ℕ) (n : ℕ) → AreWithin places n → AreWithin more n
    → AreWithin (places ++ more) n
more_within [] more n h k = k
more_within (p ∷ places) more n h k = (h.0, more_within places more n h.1 k)

pub place_within : (places : List ℕ) (n k d : ℕ) → AreWithin places n → k < length places
    → get_or places k d < n
place_within [] n k d h l = absurd (omega (arith, l))
place_within (p ∷ places) n zero d h l = h.0
place_within (p ∷ places) n (suc k) d h l = place_within places n k d h.1 (omega (arith, l))

-- ---- several

pub at_count : (tables : List MadeTable) (places : List ℕ) → AreWithin places (length tables)
    → length (at_places tables places) ≡ length places
at_count tables [] h = refl
at_count tables (p ∷ places) h = ap length (at_one tables p places (something_at tables p h.0) h.0)
    ∙ ap suc (at_count tables places h.1)

pub at_get : (tables : List MadeTable) (places : List ℕ) (k e : ℕ) (d : MadeTable)
    → AreWithin places (length tables) → k < length places
    → get_or (at_places tables places) k d ≡ get_or tables (get_or places k e) d
at_get tables [] k e d h l = absurd (omega (arith, l))
at_get tables (p ∷ places) zero e d h l = ap (λ (ts : List MadeTable). get_or ts 0 d)
    (at_one tables p places d h.0)
at_get tables (p ∷ places) (suc k) e d h l = ap (λ (ts : List MadeTable). get_or ts (suc k) d)
    (at_one tables p places d h.0) ∙ at_get tables places k e d h.1 (omega (arith, l))

with_joined : (o : Option MadeTable) (all xs ys : List MadeTable) → all ≡ xs ++ ys
    → with_table o all ≡ with_table o xs ++ ys
with_joined None all xs ys e = e
with_joined (Some t) all xs ys e = ap (λ ts. t ∷ ts) e

pub at_joined : (tables : List MadeTable) (places more : List ℕ)
    → at_places tables (places ++ more) ≡ at_places tables places ++ at_places tables more
at_joined tables [] more = refl
at_joined tables (p ∷ places) more = with_joined (slice_get tables p)
    (at_places tables (places ++ more)) (at_places tables places) (at_places tables more)
    (at_joined tables places more)

pub at_last : (tables : List MadeTable) (places : List ℕ) (p : ℕ) (t : MadeTable)
    → slice_get tables p ≡ Some t → at_places tables (places ++ p ∷ []) ≡ at_places tables places
    ++ t ∷ []
at_last tables places p t e = at_joined tables places (p ∷ [])
    ∙ ap (λ o. at_places tables places ++ with_table o []) e

-- tables after the others change nothing
pub at_more : (tables more : List MadeTable) (places : List ℕ) → AreWithin places (length tables)
    → at_places (tables ++ more) places ≡ at_places tables places
at_more tables more [] h = refl
at_more tables more (p ∷ places) h =
    let d = something_at tables p h.0 in
    let all : p < length (tables ++ more) = (let l = h.0 in let n = length-append tables more in
    omega (arith, l, n)) in
    at_one (tables ++ more) p places d all
    ∙ ap (λ (t : MadeTable). t ∷ at_places (tables ++ more) places)
    (get_or_append_left tables more d p h.0)
    ∙ ap (λ ts. get_or tables p d ∷ ts) (at_more tables more places h.1)
    ∙ sym (at_one tables p places d h.0)

pub got_more : (tables more : List MadeTable) (p : ℕ) (t : MadeTable) → slice_get tables p ≡ Some t
    → slice_get (tables ++ more) p ≡ Some t
got_more tables more p t e =
    let l = slice_get_within tables p t e in
    let all : p < length (tables ++ more) = (let n = length-append tables more in
    omega (arith, l, n)) in
    slice_get-get_or (tables ++ more) p t all
    ∙ ap (λ x. Some x) (get_or_append_left tables more t p l
    ∙ get_or_from_slice_get tables p t t e)

-- ---- two lists whose tables are related one by one

pub record AreAlike (R : MadeTable → MadeTable → Type 0) (old new : List MadeTable) : Type 0 where
  pub count : length new ≡ length old
  pub each : (k : ℕ) (d : MadeTable) → k < length old → R (get_or old k d) (get_or new k d)

module _ (R : MadeTable → MadeTable → Type 0) where
  one_more : (t u : MadeTable) (old new : List MadeTable) → R t u → AreAlike R old new
      → AreAlike R (t ∷ old) (u ∷ new)
  one_more t u old new r h = record { count = ap suc h.count; each = λ k d l. there k d l }
    where
      there : (k : ℕ) (d : MadeTable) → k < length (t ∷ old)
          → R (get_or (t ∷ old) k d) (get_or (u ∷ new) k d)
      there zero d l = r
      there (suc k) d l = h.each k d (omega (arith, l))

  at_both : (old new : List MadeTable) → AreAlike R old new → (p : ℕ) (xs ys : List MadeTable)
      → AreAlike R xs ys → (p < length old) ⊎ (length old ≤ p)
      → AreAlike R (with_table (slice_get old p) xs) (with_table (slice_get new p) ys)
  at_both old new h p xs ys k (inl l) =
      let d = something_at old p l in
      let m : p < length new = (let count = h.count in omega (arith, count, l)) in
      subst (λ (o : Option MadeTable). AreAlike R (with_table o xs)
      (with_table (slice_get new p) ys)) (sym (slice_get-get_or old p d l))
      (subst (λ (o : Option MadeTable). AreAlike R (get_or old p d ∷ xs) (with_table o ys))
      (sym (slice_get-get_or new p d m))
      (one_more (get_or old p d) (get_or new p d) xs ys (h.each p d l) k))
  at_both old new h p xs ys k (inr l) =
      let m : length new ≤ p = (let count = h.count in omega (arith, count, l)) in
      subst (λ (o : Option MadeTable). AreAlike R (with_table o xs)
      (with_table (slice_get new p) ys)) (sym (slice_get_past old p l))
      (subst (λ (o : Option MadeTable). AreAlike R xs (with_table o ys))
      (sym (slice_get_past new p m)) k)

  -- and so are those at some places
  pub alike_at : (old new : List MadeTable) → AreAlike R old new → (places : List ℕ)
      → AreAlike R (at_places old places) (at_places new places)
  alike_at old new h [] = record { count = refl; each = λ k d l. absurd (omega (arith, l)) }
  alike_at old new h (p ∷ places) = at_both old new h p (at_places old places)
      (at_places new places) (alike_at old new h places) (before_or_not p (length old))

pub same_at : (old new : List MadeTable) (places : List ℕ) → AreSameTables old new
    → AreSameTables (at_places old places) (at_places new places)
same_at old new places s =
    let h = alike_at IsSameTable old new (record { count = s.count; each = s.each }) places in
    record { count = h.count; each = h.each }

-- ---- the same but for their room

pub same_again : (t u v : MadeTable) → IsSameTable t u → IsSameTable u v → IsSameTable t v
same_again t u v a b = record {
  name = b.name ∙ a.name;
  first = b.first ∙ a.first;
  last = b.last ∙ a.last;
  store = b.store ∙ ap (λ (s : Store). record s
      { spare = v.store.spare; indexed = v.store.indexed }) a.store;
  spare = (let x = a.spare in let y = b.spare in omega (arith, x, y));
}

pub none_same : (tables : List MadeTable) → AreSameTables tables tables
none_same tables = record { count = refl; each = λ k d l. same_table (get_or tables k d) }

-- one table set
pub set_again : (old new : List MadeTable) (p : ℕ) (t u : MadeTable) → AreSameTables old new
    → p < length new → t ≡ get_or new p t → IsSameTable t u → AreSameTables old (set new p u)
set_again old new p t u s within is own = record {
  count = length-set new p u ∙ s.count;
  each =
      λ k d q. there k d q (one_place k p);
}
  where
    there : (k : ℕ) (d : MadeTable) → k < length old → (k ≡ p) ⊎ ((k < p) ⊎ (p < k))
        → IsSameTable (get_or old k d) (get_or (set new p u) k d)
    there k d q (inl e) =
        subst (λ j. IsSameTable (get_or old j d) (get_or (set new p u) j d)) (sym e)
        (subst (λ (x : MadeTable). IsSameTable (get_or old p d) x)
        (sym (get_or-set_same new p u d within))
        (same_again (get_or old p d) t u (subst (λ (x : MadeTable). IsSameTable (get_or old p d) x)
        (sym (get_or_read new p t within is d))
        (s.each p d (let count = s.count in omega (arith, within, count)))) own))
    there k d q (inr (inl m)) = subst (λ (x : MadeTable). IsSameTable (get_or old k d) x)
        (sym (get_or-set_other new p k u d (λ e. omega (arith, e, m)))) (s.each k d q)
    there k d q (inr (inr m)) = subst (λ (x : MadeTable). IsSameTable (get_or old k d) x)
        (sym (get_or-set_other new p k u d (λ e. omega (arith, e, m)))) (s.each k d q)

-- ---- places that are apart

abbrev pub Apart : List ℕ → Type 0
Apart [] = ⊤
Apart (p ∷ places) = (In p places → ⊥) × Apart places

pub place_in : (places : List ℕ) (k d : ℕ) → k < length places → In (get_or places k d) places
place_in [] k d l = absurd (omega (arith, l))
place_in (p ∷ places) zero d l = inl refl
place_in (p ∷ places) (suc k) d l = inr (place_in places k d (omega (arith, l)))

pub named_in : (tables : List MadeTable) (places : List ℕ) (p : ℕ) (d : MadeTable)
    → AreWithin places (length tables) → In p places
    → In (get_or tables p d).name (stored_names (at_places tables places))
named_in tables [] p d h m = absurd m
named_in tables (q ∷ places) p d h (inl e) =
    subst (λ (ts : List MadeTable). In (get_or tables p d).name (stored_names ts))
    (sym (at_one tables q places d h.0)) (inl (ap (λ j. (get_or tables j d).name) e))
named_in tables (q ∷ places) p d h (inr m) =
    subst (λ (ts : List MadeTable). In (get_or tables p d).name (stored_names ts))
    (sym (at_one tables q places d h.0)) (inr (named_in tables places p d h.1 m))

pub not_before_itself : (n : List ℕ) → bytes_cmp n n ≡ Less → ⊥
not_before_itself n e = (let not = same_not n n e in let is = same_itself n in absurd (cc))

-- tables of ascending names stand at places that are apart
pub apart_by_names : (tables : List MadeTable) (places : List ℕ) → AreWithin places (length tables)
    → Ascends bytes_cmp (stored_names (at_places tables places)) → Apart places
apart_by_names tables [] h a = tt
apart_by_names tables (p ∷ places) h a =
    let d = something_at tables p h.0 in
    let all : Ascends bytes_cmp (stored_names (get_or tables p d ∷ at_places tables places)) =
    subst (λ (ts : List MadeTable). Ascends bytes_cmp (stored_names ts))
    (at_one tables p places d h.0) a in (
      λ m. not_before_itself (get_or tables p d).name
          (before_in bytes_cmp (get_or tables p d).name (get_or tables p d).name
          (stored_names (at_places tables places)) all.0 (named_in tables places p d h.1 m)),
      apart_by_names tables places h.1 all.1,
    )

-- a table that is set where none of the places is
at_set_other : (tables : List MadeTable) (places : List ℕ) (q : ℕ) (u : MadeTable)
    → AreWithin places (length tables) → (In q places → ⊥)
    → at_places (set tables q u) places ≡ at_places tables places
at_set_other tables [] q u h n = refl
at_set_other tables (p ∷ places) q u h n =
    let set_within : p < length (set tables q u) =
    (let l = h.0 in let e = length-set tables q u in omega (arith, l, e)) in
    at_one (set tables q u) p places u set_within
    ∙ ap (λ (t : MadeTable). t ∷ at_places (set tables q u) places)
    (get_or-set_other tables q p u u (λ e. n (inl e)))
    ∙ ap (λ ts. get_or tables p u ∷ ts) (at_set_other tables places q u h.1 (λ m. n (inr m)))
    ∙ sym (at_one tables p places u h.0)

-- and where one is
pub at_set : (tables : List MadeTable) (places : List ℕ) (i e : ℕ) (u : MadeTable)
    → AreWithin places (length tables) → Apart places → i < length places
    → at_places (set tables (get_or places i e) u) places ≡ set (at_places tables places) i u
at_set tables [] i e u h a l = absurd (omega (arith, l))
at_set tables (p ∷ places) zero e u h a l =
    let set_within : p < length (set tables p u) =
    (let m = h.0 in let n = length-set tables p u in omega (arith, m, n)) in
    at_one (set tables p u) p places u set_within
    ∙ ap (λ (t : MadeTable). t ∷ at_places (set tables p u) places)
    (get_or-set_same tables p u u h.0)
    ∙ ap (λ ts. u ∷ ts) (at_set_other tables places p u h.1 a.0)
    ∙ ap (λ (ts : List MadeTable). set ts 0 u) (sym (at_one tables p places u h.0))
at_set tables (p ∷ places) (suc i) e u h a l =
    let q = get_or places i e in
    let inside : i < length places = omega (arith, l) in
    let set_within : p < length (set tables q u) =
    (let m = h.0 in let n = length-set tables q u in omega (arith, m, n)) in
    at_one (set tables q u) p places u set_within
    ∙ ap (λ (t : MadeTable). t ∷ at_places (set tables q u) places)
    (get_or-set_other tables q p u u (λ s.
    a.0 (subst (λ j. In j places) (sym s) (place_in places i e inside))))
    ∙ ap (λ ts. get_or tables p u ∷ ts) (at_set tables places i e u h.1 a.1 inside)
    ∙ ap (λ (ts : List MadeTable). set ts (suc i) u) (sym (at_one tables p places u h.0))
