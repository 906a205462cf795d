-- Tables that begin, in the order of a schema.
use Rattle.std.proofs.Common.{◌≡◌, ◌≤◌, ◌+◌, ℕ, zero, suc, Bool, true, false, cond, List, [], ◌∷◌}
use Rattle.std.proofs.Common.{◌++◌, length, take, map, T, refl, sym, ap, subst, ◌∙◌, arith}
use Rattle.std.specs.Prelude.{Option, Some, ⊤, ◌&&◌, slice_get}
use Rattle.std.specs.Ordering.{is_lt}
use Rattle.std.specs.declared.cmp.Ordering.{Ordering}
use Rattle.std.specs.declared.cmp.Ordering.TheVariants.{Less, Equal, Greater}
use Rattle.std.specs.FinMap.{get, len, entries, find, is_sorted, entries_sorted, get-entries}
use Rattle.std.specs.FinMap.{len-entries}
use Rattle.std.specs.FinMap.Entries.{below_all}
use Rattle.std.proofs.lemmas.List.{take_more}
use Rattle.std.proofs.lemmas.Option.{slice_get_within, get_or_from_slice_get}
use Rattle.std.proofs.Math.Seq.{take-length}
use Rattle.relations_spec.specs.Sets.{BeforeAll, Ascends}
use Rattle.prima_base.specs.Order.{bytes_cmp}
use Rattle.prima_base.specs.Columns.{Column}
use Rattle.prima_base.specs.OrderLaws.{same_is}
use Rattle.schema_catalog.specs.Tables.{Tables}
use Rattle.history_store.specs.Store.{Store}
use Rattle.smo_ops_spec.specs.OneRow.{same}
use Rattle.smo_ops_spec.proofs.NameLaws.{same_itself, same_not, same_turned}
use Rattle.version_groups_tables.specs.declared.made_table.MadeTable.{MadeTable}
use Rattle.version_groups_tables.specs.Stored.{stored_as, stored_names, HasEntry}

abbrev Listed : Type 0
Listed = List ℕ × List Column

module _ (Has : List ℕ → List Column → Store → Type 0) where
  -- for each table of the list one of its name, whose store is as it is to be
  abbrev pub AreBegun : List Listed → List MadeTable → Type 0
  AreBegun [] [] = ⊤
  AreBegun [] (t ∷ begun) = ⊥
  AreBegun (e ∷ es) [] = ⊥
  AreBegun (e ∷ es) (t ∷ begun) = (t.name ≡ e.0) × Has e.0 e.1 t.store × AreBegun es begun

  pub begun_more : (es : List Listed) (begun : List MadeTable) (e : Listed) (t : MadeTable)
      → AreBegun es begun → t.name ≡ e.0 → Has e.0 e.1 t.store
      → AreBegun (es ++ e ∷ []) (begun ++ t ∷ [])
  begun_more [] [] e t h n b = (n, b, tt)
  begun_more [] (u ∷ begun) e t h n b = absurd h
  begun_more (d ∷ es) [] e t h n b = absurd h
  begun_more (d ∷ es) (u ∷ begun) e t h n b = (h.0, h.1, begun_more es begun e t h.2 n b)

  begun_names : (es : List Listed) (begun : List MadeTable) → AreBegun es begun
      → stored_names begun ≡ map (λ (e : Listed). e.0) es
  begun_names [] [] h = refl
  begun_names [] (t ∷ begun) h = absurd h
  begun_names (e ∷ es) [] h = absurd h
  begun_names (e ∷ es) (t ∷ begun) h = ap (λ n. n ∷ stored_names begun) h.0
      ∙ ap (λ ns. e.0 ∷ ns) (begun_names es begun h.2)

  begun_under : (name : List ℕ) (es : List Listed) (begun : List MadeTable) → AreBegun es begun
      → HasEntry (Has name) (find bytes_cmp name es) (stored_as name begun)
  begun_under name [] [] h = tt
  begun_under name [] (t ∷ begun) h = absurd h
  begun_under name (e ∷ es) [] h = absurd h
  begun_under name (e ∷ es) (t ∷ begun) h = step (begun_under name es begun h.2) (same name e.0)
      refl
    where
      names : same t.name name ≡ same name e.0
      names = ap (λ n. same n name) h.0 ∙ same_turned e.0 name

      step : HasEntry (Has name) (find bytes_cmp name es) (stored_as name begun) → (b : Bool)
          → same name e.0 ≡ b
          → HasEntry (Has name) (cond b (Some e.1) (find bytes_cmp name es))
          (cond (same t.name name) (Some t.store) (stored_as name begun))
      step rest true q =
          subst (λ x. HasEntry (Has name) (Some e.1) (cond x (Some t.store) (stored_as name begun)))
          (sym (names ∙ q))
          (subst (λ n. Has n e.1 t.store) (sym (same_is name e.0 q)) h.1)
      step rest false q = subst (λ x. HasEntry (Has name) (find bytes_cmp name es)
          (cond x (Some t.store) (stored_as name begun))) (sym (names ∙ q)) rest

  less : (o : Ordering) (b : Bool) → T (is_lt o && b) → o ≡ Less
  less Less b h = refl
  less Equal b h = absurd h
  less Greater b h = absurd h

  right : (a b : Bool) → T (a && b) → T b
  right true b h = h
  right false b h = absurd h

  left : (a b : Bool) → T (a && b) → T a
  left true b h = tt
  left false b h = absurd h

  before_all : (x : List ℕ) (es : List Listed) → T (below_all bytes_cmp x es)
      → BeforeAll bytes_cmp x (map (λ (e : Listed). e.0) es)
  before_all x [] h = tt
  before_all x (e ∷ es) h = (
    less (bytes_cmp x e.0) _ h,
    before_all x es (right (is_lt (bytes_cmp x e.0)) _ h),
  )

  pub names_rise : (es : List Listed) → T (is_sorted bytes_cmp es)
      → Ascends bytes_cmp (map (λ (e : Listed). e.0) es)
  names_rise [] h = tt
  names_rise (e ∷ es) h = (
    before_all e.0 es (left (below_all bytes_cmp e.0 es) _ h),
    names_rise es (right (below_all bytes_cmp e.0 es) _ h),
  )

  -- a table is found where it stands
  below_at : (x : List ℕ) (es : List Listed) (i : ℕ) (e : Listed) → T (below_all bytes_cmp x es)
      → slice_get es i ≡ Some e → bytes_cmp x e.0 ≡ Less
  below_at x [] i e h s = absurd (cc)
  below_at x (d ∷ es) zero e h s =
      let is : d ≡ e = cc in
      subst (λ (y : Listed). bytes_cmp x y.0 ≡ Less) is (less (bytes_cmp x d.0) _ h)
  below_at x (d ∷ es) (suc i) e h s = below_at x es i e (right (is_lt (bytes_cmp x d.0)) _ h) s

  found_at : (es : List Listed) (i : ℕ) (e : Listed) → T (is_sorted bytes_cmp es)
      → slice_get es i ≡ Some e → find bytes_cmp e.0 es ≡ Some e.1
  found_at [] i e h s = absurd (cc)
  found_at (d ∷ es) zero e h s =
      let is : d ≡ e = cc in
      subst (λ (y : Listed). find bytes_cmp y.0 (d ∷ es) ≡ Some y.1) is
      (ap (λ b. cond b (Some d.1) (find bytes_cmp d.0 es)) (same_itself d.0))
  found_at (d ∷ es) (suc i) e h s =
      ap (λ b. cond b (Some d.1) (find bytes_cmp e.0 es))
      (same_turned e.0 d.0 ∙ same_not d.0 e.0
      (below_at d.0 es i e (left (below_all bytes_cmp d.0 es) _ h) s))
      ∙ found_at es i e (right (below_all bytes_cmp d.0 es) _ h) s

  pub listed_there : (tables : Tables) (i : ℕ) (e : Listed) → slice_get (entries tables) i ≡ Some e
      → get tables e.0 ≡ Some e.1
  listed_there tables i e s = get-entries tables e.0
      ∙ found_at (entries tables) i e (entries_sorted tables) s

  -- one table more
  pub next_begun : (es : List Listed) (i : ℕ) (e : Listed) (begun more : List MadeTable)
      (t : MadeTable) → slice_get es i ≡ Some e → AreBegun (take i es) begun
      → more ≡ begun ++ t ∷ [] → t.name ≡ e.0 → Has e.0 e.1 t.store
      → AreBegun (take (i + 1) es) more
  next_begun es i e begun more t s h m n b =
      let is : take (i + 1) es ≡ take i es ++ e ∷ [] = take_more es i e (slice_get_within es i e s)
      ∙ ap (λ (d : Listed). take i es ++ d ∷ []) (get_or_from_slice_get es i e e s) in
      subst (λ ts. AreBegun (take (i + 1) es) ts) (sym m)
      (subst (λ (ds : List Listed). AreBegun ds (begun ++ t ∷ [])) (sym is)
      (begun_more (take i es) begun e t h n b))

  pub all_begun : (tables : Tables) (i n : ℕ) (begun : List MadeTable) → n ≡ len tables → i ≤ n
      → n ≤ i → AreBegun (take i (entries tables)) begun → AreBegun (entries tables) begun
  all_begun tables i n begun e l k h =
      let c = len-entries tables in
      let all : i ≡ length (entries tables) = omega (arith, e, l, k, c) in
      subst (λ (es : List Listed). AreBegun es begun)
      (ap (λ j. take j (entries tables)) all ∙ take-length (entries tables)) h

  module _ (tables : Tables) (begun : List MadeTable) (all : AreBegun (entries tables) begun) where
    pub begun_ordered : Ascends bytes_cmp (stored_names begun)
    begun_ordered = subst (Ascends bytes_cmp) (sym (begun_names (entries tables) begun all))
        (names_rise (entries tables) (entries_sorted tables))

    pub begun_each : (name : List ℕ) → HasEntry (Has name) (get tables name) (stored_as name begun)
    begun_each name =
        subst (λ (o : Option (List Column)). HasEntry (Has name) o (stored_as name begun))
        (sym (get-entries tables name)) (begun_under name (entries tables) begun all)
