-- The rows gained from one database to another, table by table.
use Rattle.std.proofs.Common.{◌≡◌, ◌+◌, ℕ, Bool, true, false, List, [], ◌∷◌, length, refl, sym, ap}
use Rattle.std.proofs.Common.{subst, ◌∙◌, inl, inr, arith}
use Rattle.std.specs.Prelude.{T, ◌&&◌, cond, not, Option, Some}
use Rattle.std.specs.Ordering.{is_eq, is_lt}
use Rattle.std.specs.declared.cmp.Ordering.{Ordering}
use Rattle.std.specs.declared.cmp.Ordering.TheVariants.{Less, Equal, Greater}
use Rattle.std.specs.FinMap.{get, insert, entries, find, put, is_sorted, entries-insert}
use Rattle.std.specs.FinMap.{entries_sorted, get-entries, get-insert}
use Rattle.std.specs.FinMap.Entries.{by_order, below_all}
use Rattle.std.specs.Cmp.Lexicographic.{nat_list_cmp_total}
use Rattle.relations_spec.specs.Sets.{In}
use Rattle.relations_spec.proofs.SetLaws.{in_has}
use Rattle.prima_base.specs.Order.{bytes_cmp, row_cmp}
use Rattle.prima_base.specs.OrderLaws.{bytes_exact, row_exact, same_is}
use Rattle.schema_catalog.specs.Databases.{DatabaseEntry, Database}
use Rattle.smo_ops_spec.specs.OneRow.{Row, Relation, same}
use Rattle.smo_ops_spec.specs.Effects.{gained_rows, rows_of, rows_under, gained_from, gained, lost}
use Rattle.smo_ops_spec.proofs.NameLaws.{same_itself, same_turned}

abbrev pub Place : Type 0
Place = List ℕ × DatabaseEntry

pub first : (a b : Bool) → T (a && b) → T a
first true b p = tt
first false b p = absurd p

pub second : (a b : Bool) → T (a && b) → T b
second true b p = p
second false b p = absurd p

pub less : (o : Ordering) → T (is_lt o) → o ≡ Less
less Less p = refl
less Equal p = absurd p
less Greater p = absurd p

pair_is : (d : Place) (n : List ℕ) (x : DatabaseEntry) → d.0 ≡ n → d.1 ≡ x
    → ◌≡◌ {A = Place} d (n, x)
pair_is d n x p q = λ i. (p i, q i)

-- what a table gains
abbrev pub gain : Database → Place → ℕ
gain old e = length (gained_rows (rows_under (get old e.0)) (rows_of e.1))

-- no row is gained from a relation to itself
none_gained : (all rows : Relation) → ((row : Row) → In row rows → In row all)
    → gained_rows all rows ≡ []
none_gained all [] h = refl
none_gained all (row ∷ rows) h =
    ap (λ b. cond (not b) (row ∷ gained_rows all rows) (gained_rows all rows))
    (in_has row_cmp row_exact row all (h row (inl refl)))
    ∙ none_gained all rows (λ r m. h r (inr m))

pub gains_nothing : (rows : Relation) → gained_rows rows rows ≡ []
gains_nothing rows = none_gained rows rows (λ row m. m)

-- an entry is found under its own name
below_in : (x : List ℕ) (es : List Place) (e : Place) → T (below_all bytes_cmp x es) → In e es
    → bytes_cmp x e.0 ≡ Less
below_in x [] e b m = absurd m
below_in x (d ∷ es) e b (inl q) = subst (λ (y : Place). bytes_cmp x y.0 ≡ Less) q
    (less (bytes_cmp x d.0) (first _ _ b))
below_in x (d ∷ es) e b (inr m) = below_in x es e (second (is_lt (bytes_cmp x d.0)) _ b) m

turned : (a b : List ℕ) → bytes_cmp a b ≡ Less → same b a ≡ false
turned a b e = step (bytes_cmp b a) refl
  where
    step : (o : Ordering) → bytes_cmp b a ≡ o → is_eq o ≡ false
    step Less q = refl
    step Equal q = absurd (bytes_exact.apart a
        (subst (λ (x : List ℕ). bytes_cmp a x ≡ Less) (bytes_exact.same b a q) e))
    step Greater q = refl

pub found_in : (es : List Place) (e : Place) → T (is_sorted bytes_cmp es) → In e es
    → find bytes_cmp e.0 es ≡ Some e.1
found_in [] e s m = absurd m
found_in (d ∷ es) e s (inl q) =
    ap (λ b. cond b (Some d.1) (find bytes_cmp e.0 es))
    (ap (λ (x : Place). same e.0 x.0) q ∙ same_itself e.0) ∙ ap (λ (x : Place). Some x.1) q
found_in (d ∷ es) e s (inr m) =
    ap (λ b. cond b (Some d.1) (find bytes_cmp e.0 es))
    (turned d.0 e.0 (below_in d.0 es e (first _ _ s) m))
    ∙ found_in es e (second (below_all bytes_cmp d.0 es) _ s) m

pub entry_found : (database : Database) (e : Place) → In e (entries database)
    → get database e.0 ≡ Some e.1
entry_found database e m = get-entries database e.0
    ∙ found_in (entries database) e (entries_sorted database) m

-- what is found stands in the list
pub in_found : (es : List Place) (n : List ℕ) (x : DatabaseEntry) → find bytes_cmp n es ≡ Some x
    → In (n, x) es
in_found [] n x e = absurd (cc)
in_found (d ∷ es) n x e = step (same n d.0) refl e (in_found es n x)
  where
    one : Some d.1 ≡ Some x → d.1 ≡ x
    one q = cc

    step : (b : Bool) → same n d.0 ≡ b → cond b (Some d.1) (find bytes_cmp n es) ≡ Some x
        → (find bytes_cmp n es ≡ Some x → In (n, x) es) → In (n, x) (d ∷ es)
    step true q h more = inl (pair_is d n x (sym (same_is n d.0 q)) (one h))
    step false q h more = inr (more h)

pub found_entry : (database : Database) (n : List ℕ) (x : DatabaseEntry) → get database n ≡ Some x
    → In (n, x) (entries database)
found_entry database n x e = in_found (entries database) n x (sym (get-entries database n) ∙ e)

-- nothing is gained from a database to itself
self_from : (database : Database) (es : List Place)
    → ((e : Place) → In e es → In e (entries database)) → gained_from database es ≡ 0
self_from database [] h = refl
self_from database (e ∷ es) h =
    let rows : rows_under (get database e.0) ≡ rows_of e.1 =
    ap rows_under (entry_found database e (h e (inl refl))) in
    let none : gain database e ≡ 0 = ap (λ (r : Relation). length (gained_rows r (rows_of e.1)))
    rows ∙ ap length (gains_nothing (rows_of e.1)) in
    let rest = self_from database es (λ d m. h d (inr m)) in
    omega arith

pub self_gains_nothing : (database : Database) → gained database database ≡ 0
self_gains_nothing database = self_from database (entries database) (λ e m. m)

-- a lesser name is not among the entries
not_below : (t : List ℕ) (x : DatabaseEntry) (d : Place) (es : List Place)
    → T (is_sorted bytes_cmp (d ∷ es)) → bytes_cmp t d.0 ≡ Less → In (t, x) (d ∷ es) → ⊥
not_below t x d es s l (inl q) = bytes_exact.apart t
    (subst (λ (y : Place). bytes_cmp t y.0 ≡ Less) q l)
not_below t x d es s l (inr m) = bytes_exact.apart t
    (bytes_exact.trans t d.0 t l (below_in d.0 es (t, x) (first _ _ s) m))

-- with another entry under one name, only that table gains otherwise
module _ (old : Database) (t : List ℕ) (was now : DatabaseEntry) where
  gained_put : (es : List Place) → T (is_sorted bytes_cmp es) → find bytes_cmp t es ≡ Some was
      → gained_from old (put bytes_cmp t now es) + gain old (t, was)
      ≡ gained_from old es + gain old (t, now)
  gained_put [] s e = absurd (cc)
  gained_put (d ∷ es) s e = step (bytes_cmp t d.0) refl
      (gained_put es (second (below_all bytes_cmp d.0 es) _ s))
    where
      one : Some d.1 ≡ Some was → d.1 ≡ was
      one q = cc

      step : (o : Ordering) → bytes_cmp t d.0 ≡ o
          → (find bytes_cmp t es ≡ Some was → gained_from old (put bytes_cmp t now es) + gain old
          (t, was) ≡ gained_from old es + gain old (t, now))
          → gained_from old (by_order o ((t, now) ∷ d ∷ es) ((d.0, now) ∷ es)
          (d ∷ put bytes_cmp t now es)) + gain old (t, was)
          ≡ gained_from old (d ∷ es) + gain old (t, now)
      step Less q more = absurd (not_below t was d es s q (in_found (d ∷ es) t was e))
      step Equal q more =
          let name : t ≡ d.0 = bytes_exact.same t d.0 q in
          let value : d.1 ≡ was = one (sym (ap (λ b. cond b (Some d.1) (find bytes_cmp t es))
          (ap is_eq q)) ∙ e) in
          let here : gain old d ≡ gain old (t, was) =
          ap (gain old) (pair_is d t was (sym name) value) in
          let there : gain old (d.0, now) ≡ gain old (t, now) =
          ap (λ (n : List ℕ). gain old (n, now)) (sym name) in
          omega arith
      step Greater q more =
          let rest = more (sym (ap (λ b. cond b (Some d.1) (find bytes_cmp t es)) (ap is_eq q))
          ∙ e) in
          omega arith

  pub gained_with : (new : Database) → get new t ≡ Some was
      → gained old (insert new t now) + gain old (t, was) ≡ gained old new + gain old (t, now)
  gained_with new e =
      let put_in : entries (insert new t now) ≡ put bytes_cmp t now (entries new) =
      entries-insert nat_list_cmp_total new t now in
      let h = gained_put (entries new) (entries_sorted new) (sym (get-entries new t) ∙ e) in
      let k : gained old (insert new t now) ≡ gained_from old (put bytes_cmp t now (entries new)) =
      ap (gained_from old) put_in in
      omega arith

-- the same of what is lost: only the rows that the old database has under the name are lost
-- otherwise
module _ (new : Database) (t : List ℕ) (was now : DatabaseEntry)
    (there : get new t ≡ Some was) where
  other_gain : (e : Place) → same e.0 t ≡ false → gain (insert new t now) e ≡ gain new e
  other_gain e q = ap (λ (o : Option DatabaseEntry).
      length (gained_rows (rows_under o) (rows_of e.1)))
      (get-insert nat_list_cmp_total new t now e.0 ∙ ap (λ b. cond b (Some now) (get new e.0)) q)

  now_at : get (insert new t now) t ≡ Some now
  now_at = get-insert nat_list_cmp_total new t now t
      ∙ ap (λ b. cond b (Some now) (get new t)) (same_itself t)

  others_stay : (es : List Place) → ((e : Place) → In e es → same e.0 t ≡ false)
      → gained_from (insert new t now) es ≡ gained_from new es
  others_stay [] h = refl
  others_stay (e ∷ es) h = (let here = other_gain e (h e (inl refl)) in let rest =
      others_stay es (λ d m. h d (inr m)) in omega arith)

  lost_from : (es : List Place) (x : DatabaseEntry) → T (is_sorted bytes_cmp es)
      → find bytes_cmp t es ≡ Some x
      → gained_from (insert new t now) es + length (gained_rows (rows_of was) (rows_of x))
      ≡ gained_from new es + length (gained_rows (rows_of now) (rows_of x))
  lost_from [] x s e = absurd (cc)
  lost_from (d ∷ es) x s e = step (same t d.0) refl e
      (lost_from es x (second (below_all bytes_cmp d.0 es) _ s))
    where
      one : Some d.1 ≡ Some x → d.1 ≡ x
      one q = cc

      step : (b : Bool) → same t d.0 ≡ b → cond b (Some d.1) (find bytes_cmp t es) ≡ Some x
          → (find bytes_cmp t es ≡ Some x → gained_from (insert new t now) es + length
          (gained_rows (rows_of was) (rows_of x))
          ≡ gained_from new es + length (gained_rows (rows_of now) (rows_of x)))
          → gained_from (insert new t now) (d ∷ es) + length (gained_rows (rows_of was) (rows_of x))
          ≡ gained_from new (d ∷ es) + length (gained_rows (rows_of now) (rows_of x))
      step true q h more =
          let is : d ≡ (t, x) = pair_is d t x (sym (same_is t d.0 q)) (one h) in
          let before : gain new d ≡ length (gained_rows (rows_of was) (rows_of x)) =
          ap (gain new) is ∙ ap (λ (o : Option DatabaseEntry).
          length (gained_rows (rows_under o) (rows_of x))) there in
          let after : gain (insert new t now) d ≡ length (gained_rows (rows_of now) (rows_of x)) =
          ap (gain (insert new t now)) is ∙ ap
          (λ (o : Option DatabaseEntry). length (gained_rows (rows_under o) (rows_of x)))
          now_at in
          let rest = others_stay es (λ e m. turned t e.0
          (below_in t es e (subst (λ (n : List ℕ). T (below_all bytes_cmp n es))
          (sym (same_is t d.0 q)) (first _ _ s)) m)) in
          omega arith
      step false q h more =
          let here = other_gain d (same_turned d.0 t ∙ q) in
          let rest = more h in
          omega arith

  pub lost_with : (old : Database) (x : DatabaseEntry) → get old t ≡ Some x
      → lost old (insert new t now) + length (gained_rows (rows_of was) (rows_of x))
      ≡ lost old new + length (gained_rows (rows_of now) (rows_of x))
  lost_with old x e = lost_from (entries old) x (entries_sorted old) (sym (get-entries old t) ∙ e)

pub gained_step : (old : Database) (t : List ℕ) (was now : DatabaseEntry) (new : Database)
    (a : DatabaseEntry) → get old t ≡ Some a → get new t ≡ Some was
    → gained old (insert new t now) + length (gained_rows (rows_of a) (rows_of was))
    ≡ gained old new + length (gained_rows (rows_of a) (rows_of now))
gained_step old t was now new a had there =
    let h = gained_with old t was now new there in
    let b : gain old (t, was) ≡ length (gained_rows (rows_of a) (rows_of was)) =
    ap (λ (o : Option DatabaseEntry). length (gained_rows (rows_under o) (rows_of was))) had in
    let c : gain old (t, now) ≡ length (gained_rows (rows_of a) (rows_of now)) =
    ap (λ (o : Option DatabaseEntry). length (gained_rows (rows_under o) (rows_of now))) had in
    omega arith
