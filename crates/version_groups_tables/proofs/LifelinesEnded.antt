-- Lifelines that end: the tables are what they were but for it.
use Rattle.std.proofs.Common.{◌≡◌, ℕ, ◌<◌, suc, zero, Bool, true, false, cond, List, [], ◌∷◌, ◌++◌}
use Rattle.std.proofs.Common.{map, length, take, drop, get_or, refl, sym, ap, ◌∙◌, arith, inl, inr}
use Rattle.std.specs.Prelude.{Option, Some, None, ◌⊎◌, ◌||◌, slice_get}
use Rattle.std.specs.Option.{option_map}
use Rattle.std.proofs.lemmas.List.{length-map, get_or-map, get_or-set_same, get_or-set_other}
use Rattle.std.proofs.lemmas.Option.{slice_get_within, get_or_from_slice_get}
use Rattle.std.proofs.Math.ListN.{set, length-set}
use Rattle.std.proofs.Math.Seq.{ext_get_or}
use Rattle.relations_spec.specs.Sets.{In, Ascends}
use Rattle.prima_base.specs.Order.{bytes_cmp}
use Rattle.prima_base.specs.OrderLaws.{same_is}
use Rattle.history_store.specs.Store.{Store}
use Rattle.smo_ops_spec.specs.OneRow.{same}
use Rattle.smo_ops_spec.specs.Preconditions.{among}
use Rattle.smo_ops_spec.specs.Touching.{these_names}
use Rattle.smo_ops_spec.proofs.NameLaws.{same_itself, same_turned}
use Rattle.version_groups_tables.specs.declared.made_table.MadeTable.{MadeTable}
use Rattle.smo_ops_versions_spec.specs.Lifelines.{last_after}
use Rattle.version_groups_tables.specs.Ending.{table_after, AreEnding, AreLiving}
use Rattle.version_groups_tables.specs.Places.{with_table, at_places, AreWithin, IsFound}
use Rattle.version_groups_tables.specs.NewestTables.{is_name}
use Rattle.version_groups_tables.specs.Stored.{stored_as, stored_names}
use Rattle.version_groups_tables.proofs.NamedPlaces.{none_named, one_by_name}
use Rattle.version_groups_tables.proofs.TablesInTurn.{one_place}

-- one that lives after has lived, and was not to end
pub ends_not : (b : Bool) (k : ℕ) (o : Option ℕ) → last_after b k o ≡ None → (o ≡ None)
    × (b ≡ false)
ends_not true k None e = absurd (cc)
ends_not false k None e = (refl, refl)
ends_not b k (Some m) e = absurd (cc)

-- nothing ends
ends_none : (k : ℕ) (o : Option ℕ) → last_after false k o ≡ o
ends_none k None = refl
ends_none k (Some m) = refl

-- ends that come one after the other
ends_twice : (b c : Bool) (k : ℕ) (o : Option ℕ)
    → last_after c k (last_after b k o) ≡ last_after (b || c) k o
ends_twice true c k None = refl
ends_twice false c k None = refl
ends_twice b c k (Some m) = refl

-- ---- the tables at places

-- tables each of which keeps its name and what is stored of it
module _ (f : MadeTable → MadeTable) (named : (t : MadeTable) → (f t).name ≡ t.name)
    (holds : (t : MadeTable) → (f t).store ≡ t.store) where
  with_each : (o : Option MadeTable) (tables : List MadeTable)
      → with_table (option_map f o) (map f tables) ≡ map f (with_table o tables)
  with_each None tables = refl
  with_each (Some t) tables = refl

  got_each : (tables : List MadeTable) (p : ℕ)
      → slice_get (map f tables) p ≡ option_map f (slice_get tables p)
  got_each [] p = refl
  got_each (t ∷ tables) zero = refl
  got_each (t ∷ tables) (suc p) = got_each tables p

  at_each : (tables : List MadeTable) (places : List ℕ)
      → at_places (map f tables) places ≡ map f (at_places tables places)
  at_each tables [] = refl
  at_each tables (p ∷ places) =
      ap (λ (o : Option MadeTable). with_table o (at_places (map f tables) places))
      (got_each tables p)
      ∙ ap (with_table (option_map f (slice_get tables p))) (at_each tables places)
      ∙ with_each (slice_get tables p) (at_places tables places)

  names_each : (tables : List MadeTable) → stored_names (map f tables) ≡ stored_names tables
  names_each [] = refl
  names_each (t ∷ tables) = ap (λ n. n ∷ stored_names (map f tables)) (named t)
      ∙ ap (λ ns. t.name ∷ ns) (names_each tables)

  names_at : (tables : List MadeTable) (places : List ℕ)
      → stored_names (at_places (map f tables) places) ≡ stored_names (at_places tables places)
  names_at tables places = ap stored_names (at_each tables places)
      ∙ names_each (at_places tables places)

  each_as : (name : List ℕ) (tables : List MadeTable)
      → stored_as name (map f tables) ≡ stored_as name tables
  each_as name [] = refl
  each_as name (t ∷ tables) =
      ap (λ n. cond (same n name) (Some (f t).store) (stored_as name (map f tables))) (named t)
      ∙ ap (λ (s : Store). cond (same t.name name) (Some s) (stored_as name (map f tables)))
      (holds t)
      ∙ ap (λ (o : Option Store). cond (same t.name name) (Some t.store) o) (each_as name tables)

  stored_at_each : (name : List ℕ) (tables : List MadeTable) (places : List ℕ)
      → stored_as name (at_places (map f tables) places) ≡ stored_as name (at_places tables places)
  stored_at_each name tables places = ap (stored_as name) (at_each tables places)
      ∙ each_as name (at_places tables places)

-- where a table's lifeline ended is nothing to its name and to what is stored of it
living_on : MadeTable → MadeTable
living_on t = record { name = t.name; first = t.first; last = None; store = t.store }

module _ (consumed : List ℕ → Bool) (k : ℕ) where
  abbrev ended : MadeTable → MadeTable
  ended = table_after consumed k

  -- the names stay, and what is stored under them
  pub names_still : (tables : List MadeTable) (places : List ℕ)
      → stored_names (at_places (map ended tables) places) ≡ stored_names (at_places tables places)
  names_still = names_at ended (λ t. refl) (λ t. refl)

  pub stored_still : (name : List ℕ) (tables : List MadeTable) (places : List ℕ)
      → stored_as name (at_places (map ended tables) places)
      ≡ stored_as name (at_places tables places)
  stored_still = stored_at_each ended (λ t. refl) (λ t. refl)

  -- and so it is with others after them
  all_living_on : (tables begun : List MadeTable)
      → map living_on (map ended tables ++ begun) ≡ map living_on (tables ++ begun)
  unfolding living_on
  all_living_on [] begun = refl
  all_living_on (t ∷ tables) begun = ap (λ ts. living_on t ∷ ts) (all_living_on tables begun)

  pub names_with : (tables begun : List MadeTable) (places : List ℕ)
      → stored_names (at_places (map ended tables ++ begun) places)
      ≡ stored_names (at_places (tables ++ begun) places)
  unfolding living_on
  names_with tables begun places =
      sym (names_at living_on (λ t. refl) (λ t. refl) (map ended tables ++ begun) places)
      ∙ ap (λ (ts : List MadeTable). stored_names (at_places ts places))
      (all_living_on tables begun)
      ∙ names_at living_on (λ t. refl) (λ t. refl) (tables ++ begun) places

  pub stored_with : (name : List ℕ) (tables begun : List MadeTable) (places : List ℕ)
      → stored_as name (at_places (map ended tables ++ begun) places)
      ≡ stored_as name (at_places (tables ++ begun) places)
  unfolding living_on
  stored_with name tables begun places =
      sym (stored_at_each living_on (λ t. refl) (λ t. refl) name (map ended tables ++ begun) places)
      ∙ ap (λ (ts : List MadeTable). stored_as name (at_places ts places))
      (all_living_on tables begun)
      ∙ stored_at_each living_on (λ t. refl) (λ t. refl) name (tables ++ begun) places

-- ---- one name

-- where nothing is to end, all stay
pub none_end : (k : ℕ) (tables : List MadeTable)
    → map (table_after (is_name None) k) tables ≡ tables
none_end k [] = refl
none_end k (t ∷ tables) = ap (λ o. record {
  name = t.name;
  first = t.first;
  last = o;
  store =
      t.store;
} ∷ map (table_after (is_name None) k) tables) (ends_none k t.last)
    ∙ ap (λ ts. t ∷ ts) (none_end k tables)

-- what leaves each as it is leaves all
all_stay : (f : MadeTable → MadeTable) (tables : List MadeTable)
    → ((j : ℕ) (d : MadeTable) → j < length tables → f (get_or tables j d) ≡ get_or tables j d)
    → tables ≡ map f tables
all_stay f [] h = refl
all_stay f (t ∷ tables) h = ap (λ x. x ∷ tables) (sym (h 0 t (omega arith)))
    ∙ ap (λ ts. f t ∷ ts) (all_stay f tables (λ j d l. h (suc j) d (omega (arith, l))))

module _ (k : ℕ) (tables : List MadeTable) (places : List ℕ) (name : List ℕ)
    (ending : AreEnding k tables places) where
  abbrev after_this : MadeTable → MadeTable
  after_this = table_after (is_name (Some name)) k

  -- a table stays that does not live among these, or has another name
  stays : (j : ℕ) (d : MadeTable) → j < length tables
      → (In j places → (get_or tables j d).name ≡ name → ⊥)
      → after_this (get_or tables j d) ≡ get_or tables j d
  stays j d l other = ap (λ o. record { name = t.name; first = t.first; last = o; store = t.store })
      (step (same name t.name) refl t.last refl)
    where
      t : MadeTable
      t = get_or tables j d

      step : (b : Bool) → same name t.name ≡ b → (o : Option ℕ) → t.last ≡ o → last_after b k o ≡ o
      step b e (Some m) f = refl
      step false e None f = refl
      step true e None f = absurd (other (ending.among j d l f) (sym (same_is name t.name e)))

  -- where there is no table of the name
  pub none_ends : stored_as name (at_places tables places) ≡ None → tables ≡ map after_this tables
  none_ends none = all_stay after_this tables
      (λ j d l. stays j d l (λ i n. none_named tables j d places name none l i n))

  -- where there is one, its lifeline has ended
  one_ends : AreWithin places (length tables)
      → Ascends bytes_cmp (stored_names (at_places tables places)) → (p : ℕ) (t : MadeTable)
      → p < length tables → In p places → (get_or tables p t).name ≡ name
      → set tables p (record {
        name = (get_or tables p t).name;
        first = (get_or tables p t).first;
        last = Some k;
        store = (get_or tables p t).store;
      }) ≡ map after_this tables
  one_ends w a p t l i n =
      ext_get_or t (set tables p u) (map after_this tables)
      (length-set tables p u ∙ sym (length-map tables after_this))
      (λ j m. each j (let s = length-set tables p u in omega (arith, m, s)) (one_place j p))
    where
      u : MadeTable
      u = record {
        name = (get_or tables p t).name;
        first = (get_or tables p t).first;
        last =
            Some k;
        store = (get_or tables p t).store;
      }

      each : (j : ℕ) → j < length tables → (j ≡ p) ⊎ ((j < p) ⊎ (p < j))
          → get_or (set tables p u) j t ≡ get_or (map after_this tables) j t
      each j m (inl e) =
          ap (λ x. get_or (set tables p u) x t) e ∙ get_or-set_same tables p u t l
          ∙ ap (λ o. record {
            name = (get_or tables p t).name;
            first = (get_or tables p t).first;
            last = o;
            store = (get_or tables p t).store;
          })
          (sym (ap (λ b. last_after b k (get_or tables p t).last)
          (ap (same name) n ∙ same_itself name) ∙ ending.ending p t l i))
          ∙ sym (ap (λ x. get_or (map after_this tables) x t) e
          ∙ get_or-map after_this tables p t t l)
      each j m (inr q) =
          get_or-set_other tables p j u t (λ e. apart q e)
          ∙ sym (get_or-map after_this tables j t t m
          ∙ stays j t m (λ x f. apart q (one_by_name tables places w a j p t x i (f ∙ sym n))))
        where
          apart : (j < p) ⊎ (p < j) → j ≡ p → ⊥
          apart (inl x) e = omega (arith, x, e)
          apart (inr x) e = omega (arith, x, e)

  -- as it is found by its name
  pub found_ends : AreWithin places (length tables)
      → Ascends bytes_cmp (stored_names (at_places tables places)) → (p : ℕ) (f t : MadeTable)
      → IsFound tables places name p f
      → set tables p (record {
        name = (get_or tables p t).name;
        first = (get_or tables p t).first;
        last = Some k;
        store = (get_or tables p t).store;
      }) ≡ map after_this tables
  found_ends w a p f t h = one_ends w a p t (slice_get_within tables p f h.0) h.3
      (ap (λ (x : MadeTable). x.name) (get_or_from_slice_get tables p f t h.0) ∙ h.1)

-- ---- at most two names

-- from those that live on, those that end with a version
pub are_ending : (k : ℕ) (tables : List MadeTable) (places : List ℕ) → AreLiving tables places
    → AreEnding k tables places
are_ending k tables places h = record {
  ending = λ p t l i.
      ap (last_after true k) (h.living p t l i);
  among = h.among;
}

-- and once some have ended
pub still_ending : (consumed : List ℕ → Bool) (k : ℕ) (tables : List MadeTable) (places : List ℕ)
    → AreEnding k tables places → AreEnding k (map (table_after consumed k) tables) places
still_ending consumed k tables places h = record {
  ending = λ p t l i.
      let m = within p l in
      ap (λ (x : MadeTable). last_after true k x.last)
      (get_or-map (table_after consumed k) tables p t t m)
      ∙ ends_again (consumed (get_or tables p t).name) (get_or tables p t).last ∙ h.ending p t m i;
  among = λ p t l e.
      let m = within p l in
      h.among p t m (ends_not (consumed (get_or tables p t).name) k (get_or tables p t).last
      (sym (ap (λ (x : MadeTable). x.last) (get_or-map (table_after consumed k) tables p t t m))
      ∙ e)).0;
}
  where
    within : (p : ℕ) → p < length (map (table_after consumed k) tables) → p < length tables
    within p l = (let e = length-map tables (table_after consumed k) in omega (arith, l, e))

    ends_again : (b : Bool) (o : Option ℕ) → last_after true k (last_after b k o)
        ≡ last_after true k o
    ends_again true None = refl
    ends_again false None = refl
    ends_again b (Some m) = refl

-- what ends by two names ends by either
pub both_end : (first second consumed : List ℕ → Bool) (k : ℕ)
    → ((name : List ℕ) → consumed name ≡ (first name || second name)) → (tables : List MadeTable)
    → map (table_after second k) (map (table_after first k) tables)
    ≡ map (table_after consumed k) tables
both_end first second consumed k h [] = refl
both_end first second consumed k h (t ∷ tables) =
    ap (λ o. record { name = t.name; first = t.first; last = o; store = t.store }
    ∷ map (table_after second k) (map (table_after first k) tables))
    (ends_twice (first t.name) (second t.name) k t.last
    ∙ ap (λ b. last_after b k t.last) (sym (h t.name)))
    ∙ ap (λ ts. table_after consumed k t ∷ ts) (both_end first second consumed k h tables)

-- one of at most two names
pub among_these : (first second : Option (List ℕ)) (name : List ℕ)
    → second ≡ slice_get (these_names first second) 1
    → among name (these_names first second) ≡ (is_name first name || is_name second name)
among_these None None name e = refl
among_these None (Some b) name e = absurd (cc)
among_these (Some a) None name e = ap (λ x. x || false) (same_turned name a)
among_these (Some a) (Some b) name e = ap (λ x. x || (same name b || false)) (same_turned name a)
    ∙ ap (λ x. same a name || x) (nothing_more (same name b) ∙ same_turned name b)
  where
    nothing_more : (b : Bool) → (b || false) ≡ b
    nothing_more true = refl
    nothing_more false = refl

-- as many tables are written back as there were
pub written_back : (tables old : List MadeTable) (n : ℕ) → n ≡ length old
    → length tables ≡ length old → take n (tables ++ drop (length tables) old) ≡ tables
written_back tables old n e l = ap (λ m. take m (tables ++ drop (length tables) old)) (e ∙ sym l)
    ∙ first tables (drop (length tables) old)
  where
    first : (xs ys : List MadeTable) → take (length xs) (xs ++ ys) ≡ xs
    first [] ys = refl
    first (x ∷ xs) ys = ap (λ ts. x ∷ ts) (first xs ys)
