-- Which tables of the next version begin, and which go on.
use Rattle.std.proofs.Common.{◌≡◌, ◌≤◌, ◌<◌, ◌+◌, ℕ, suc, zero, Bool, true, false, cond, List, []}
use Rattle.std.proofs.Common.{◌∷◌, ◌++◌, map, length, take, get_or, refl, sym, ap, subst, ◌∙◌}
use Rattle.std.proofs.Common.{arith, inl, inr, length-append, append-nil, is_some}
use Rattle.std.specs.Prelude.{Some, ◌⊎◌, slice_get, ⊤}
use Rattle.std.specs.List.{filter}
use Rattle.std.specs.FinMap.{get, len, entries, find, get-entries, len-entries}
use Rattle.std.proofs.lemmas.List.{map-append, take_more, get_or_append_left}
use Rattle.std.proofs.lemmas.Option.{slice_get_within, get_or_from_slice_get}
use Rattle.std.proofs.lemmas.List.Elements.{filter-append}
use Rattle.std.proofs.Math.Seq.{take-length, get_or-append_seam}
use Rattle.relations_spec.specs.Sets.{In, Ascends}
use Rattle.relations_spec.proofs.SetLaws.{in_left, in_right, in_append}
use Rattle.prima_base.specs.Order.{bytes_cmp}
use Rattle.prima_base.specs.Columns.{Column}
use Rattle.prima_base.specs.OrderLaws.{same_is}
use Rattle.schema_catalog.specs.Tables.{Tables}
use Rattle.history_store.specs.Handing.{written}
use Rattle.smo_ops_spec.specs.OneRow.{Relation, same}
use Rattle.smo_ops_spec.proofs.PastMoments.{before_or_not}
use Rattle.version_groups_tables.specs.declared.made_table.MadeTable.{MadeTable}
use Rattle.version_groups_tables.specs.Evolving.{Comes}
use Rattle.version_groups_tables.specs.Places.{at_places, AreWithin}
use Rattle.version_groups_tables.specs.Beginning.{BeginsWith, BeginInOrder, ArePlaced}
use Rattle.version_groups_tables.specs.Stored.{stored_names}
use Rattle.version_groups_tables.proofs.BegunTables.{listed_there}
use Rattle.version_groups_tables.proofs.NamedPlaces.{one_by_name}

abbrev Listed : Type 0
Listed = List ℕ × List Column

-- what a list has with one element more
in_joined : {A : Type 0} (xs : List A) (y x : A) → In x (xs ++ y ∷ []) → In x xs ⊎ (y ≡ x)
in_joined xs y x i = elim (in_append x xs (y ∷ []) i) [
  | inl m ↦ inl m
  | inr (inl e) ↦ inr e
  | inr (inr a) ↦ absurd a
]

-- what stands at a place of a list is in it, and what is in it stands at one
in_at : {A : Type 0} (xs : List A) (k : ℕ) (d : A) → k < length xs → In (get_or xs k d) xs
in_at [] k d l = absurd (omega (arith, l))
in_at (x ∷ xs) zero d l = inl refl
in_at (x ∷ xs) (suc k) d l = inr (in_at xs k d (omega (arith, l)))

place_of : {A : Type 0} (xs : List A) (x : A) → In x xs → (i : ℕ) × (slice_get xs i ≡ Some x)
place_of [] x i = absurd i
place_of (y ∷ xs) x (inl e) = (0, ap Some e)
place_of (y ∷ xs) x (inr i) = (let h = place_of xs x i in (suc h.0, h.1))

-- tests that agree keep the same
pub filter_alike : {A : Type 0} (p q : A → Bool) (xs : List A) → ((x : A) → p x ≡ q x)
    → filter p xs ≡ filter q xs
filter_alike p q [] h = refl
filter_alike p q (x ∷ xs) h = ap (λ b. cond b (x ∷ filter p xs) (filter p xs)) (h x)
    ∙ ap (λ ys. cond (q x) (x ∷ ys) ys) (filter_alike p q xs h)

-- the last is kept just where it meets the test
filter_last : {A : Type 0} (p : A → Bool) (xs : List A) (y : A) → p y ≡ true
    → filter p (xs ++ y ∷ []) ≡ filter p xs ++ y ∷ []
filter_last p xs y e = filter-append p xs (y ∷ []) ∙ ap (λ b. filter p xs ++ cond b (y ∷ []) []) e

filter_none : {A : Type 0} (p : A → Bool) (xs : List A) (y : A) → p y ≡ false
    → filter p (xs ++ y ∷ []) ≡ filter p xs
filter_none p xs y e = filter-append p xs (y ∷ []) ∙ ap (λ b. filter p xs ++ cond b (y ∷ []) []) e
    ∙ append-nil (filter p xs)

-- a table of a schema is found under its name
pub listed_in : (tables : Tables) (e : Listed) → In e (entries tables) → get tables e.0 ≡ Some e.1
listed_in tables e i = (let h = place_of (entries tables) e i in
    listed_there (λ name columns store. ⊤) tables h.0 e h.1)

-- a table that is found in a list has its name there
pub found_among : (name : List ℕ) (listed : List Listed)
    → is_some (find bytes_cmp name listed) ≡ true → In name (map (λ (e : Listed). e.0) listed)
found_among name [] h = absurd (cc)
found_among name (e ∷ listed) h = step (found_among name listed) (same name e.0) refl h
  where
    step : (is_some (find bytes_cmp name listed) ≡ true
        → In name (map (λ (e : Listed). e.0) listed)) → (b : Bool) → same name e.0 ≡ b
        → is_some (cond b (Some e.1) (find bytes_cmp name listed)) ≡ true
        → In name (e.0 ∷ map (λ (e : Listed). e.0) listed)
    step rest true q k = inl (sym (same_is name e.0 q))
    step rest false q k = inr (rest k)

-- ---- tables that begin in their order

module _ (Is : Listed → MadeTable → Type 0) where
  -- one table more begins
  begin_last : (made : List Listed) (begun : List MadeTable) (m : Listed) (t : MadeTable)
      → BeginInOrder Is made begun → Is m t → BeginInOrder Is (made ++ m ∷ []) (begun ++ t ∷ [])
  begin_last made begun m t h b = record {
    count = length-append begun (t ∷ []) ∙ ap (λ n. n + 1) h.count
        ∙ sym (length-append made (m ∷ []));
    each = λ k d e l. elim (before_or_not k (length made)) [
      | inl s ↦ subst (λ (x : Listed). Is x (get_or (begun ++ t ∷ []) k e))
          (sym (get_or_append_left made (m ∷ []) d k s))
          (subst (λ (x : MadeTable). Is (get_or made k d) x)
          (sym (get_or_append_left begun (t ∷ []) e k (let c = h.count in omega (arith, s, c))))
          (h.each k d e s))
      | inr s ↦
          let long = length-append made (m ∷ []) in
          let here : k ≡ length made = omega (arith, s, l, long) in
          subst (λ j. Is (get_or (made ++ m ∷ []) j d) (get_or (begun ++ t ∷ []) j e)) (sym here)
          (subst (λ (x : Listed). Is x (get_or (begun ++ t ∷ []) (length made) e))
          (sym (get_or-append_seam made m [] d))
          (subst (λ (x : MadeTable). Is m x) (sym
          (ap (λ j. get_or (begun ++ t ∷ []) j e) (sym h.count)
          ∙ get_or-append_seam begun t [] e)) b))
    ];
  }

module _ (version stamp : ℕ) (rows : List ℕ → Relation) where
  -- rows count only under the name
  begins_under : (other : List ℕ → Relation) (made : Listed) (t : MadeTable)
      → other made.0 ≡ rows made.0 → BeginsWith version stamp other made t
      → BeginsWith version stamp rows made t
  begins_under other made t e h = record {
    name = h.name;
    first = h.first;
    last = h.last;
    columns = h.columns;
    keys = h.keys ∙ ap length e;
    count = h.count;
    written = λ f k l. h.written f k l ∙ ap (written f k []) e;
    later = h.later;
  }

  pub comes_under : (b : Bool) (stored old new : List MadeTable) (before : List ℕ) (place : ℕ)
      (made : Listed) → Comes b stored old new before place made.0
      (BeginsWith version stamp (λ name. rows made.0) made)
      → Comes b stored old new before place made.0 (BeginsWith version stamp rows made)
  comes_under true stored old new before place made c =
      record {
        table = c.table;
        grown = c.grown;
        last = c.last;
        begins =
            begins_under (λ name. rows made.0) made c.table refl c.begins;
      }
  comes_under false stored old new before place made c = c

  -- for the tables that begin the same rows
  pub begin_alike : (other : List ℕ → Relation) (made : List Listed) (begun : List MadeTable)
      → ((e : Listed) → In e made → other e.0 ≡ rows e.0)
      → BeginInOrder (BeginsWith version stamp other) made begun
      → BeginInOrder (BeginsWith version stamp rows) made begun
  begin_alike other made begun h b = record {
    count = b.count;
    each = λ k d e l.
        begins_under other (get_or made k d) (get_or begun k e)
        (h (get_or made k d) (in_at made k d l)) (b.each k d e l);
  }

-- ---- begin and go on

module _ (stored : List MadeTable) (before : List ℕ) (is_made : List ℕ → Bool) (Is : Listed
    → MadeTable → Type 0) where
  -- of the tables of the next version, so far as they are listed, the made ones begin and the
  -- others go on
  pub record AreComing (listed : List Listed) (begun : List MadeTable) (own : List ℕ) : Type 0 where
    pub begin : BeginInOrder Is (filter (λ (e : Listed). is_made e.0) listed) begun
    pub went_on : (p : ℕ) (t : MadeTable) → p < length stored → In p own → In p before
        × (is_made (get_or stored p t).name ≡ false)
    pub go_on : (p : ℕ) (t : MadeTable) → p < length stored → In p before
        → In (get_or stored p t).name (map (λ (e : Listed). e.0) listed)
        → is_made (get_or stored p t).name ≡ false → In p own
    pub there : (p : ℕ) → length stored ≤ p → p < length stored + length begun → In p own

  -- one table more
  module _ (within : AreWithin before (length stored))
      (ordered : Ascends bytes_cmp (stored_names (at_places stored before))) where
    -- by whether it is made
    coming_by : (b : Bool) (listed more : List Listed) (begun new : List MadeTable) (own : List ℕ)
        (place : ℕ) (e : Listed) → AreComing listed begun own → is_made e.0 ≡ b
        → more ≡ listed ++ e ∷ []
        → Comes b stored begun new before place e.0 (Is e) → AreComing more new (own ++ place ∷ [])
    coming_by true listed more begun new own place e h is all c =
        let made : Listed → Bool = λ x. is_made x.0 in
        let long : length new ≡ length begun + 1 = ap length c.grown
        ∙ length-append begun (c.table ∷ []) in
        let at = c.last in
        record {
          begin = subst (λ (x : List Listed). BeginInOrder Is x new)
              (sym (ap (filter made) all ∙ filter_last made listed e is))
              (subst (λ (x : List MadeTable). BeginInOrder Is (filter made listed ++ e ∷ []) x)
              (sym c.grown)
              (begin_last Is (filter made listed) begun e c.table h.begin c.begins));
          went_on = λ p t l i. elim (in_joined own place p i) [
            | inl m ↦ h.went_on p t l m
            | inr q ↦ absurd (omega (arith, q, l, at))
          ];
          go_on = λ p t l i j u.
              elim (in_joined (map (λ (x : Listed). x.0) listed) e.0 (get_or stored p t).name
              (subst (In (get_or stored p t).name)
              (ap (map (λ (x : Listed). x.0)) all
              ∙ map-append (λ (x : Listed). x.0) listed (e ∷ [])) j)) [
                | inl m ↦ in_left p own (place ∷ []) (h.go_on p t l i m u)
                | inr q ↦ absurd (let a = ap is_made q in cc)
              ];
          there = λ p l m. elim (before_or_not p (length stored + length begun)) [
            | inl s ↦ in_left p own (place ∷ []) (h.there p l s)
            | inr s ↦ subst (λ x. In x (own ++ place ∷ []))
                (let q : place ≡ p = omega (arith, s, m, long, at) in q)
                (in_right place own (place ∷ []) (inl refl))
          ];
        }
    coming_by false listed more begun new own place e h is all c =
        let made : Listed → Bool = λ x. is_made x.0 in
        let there = c.there in
        record {
          begin = subst (λ (x : List Listed). BeginInOrder Is x new)
              (sym (ap (filter made) all ∙ filter_none made listed e is))
              (subst (λ (x : List MadeTable). BeginInOrder Is (filter made listed) x) (sym c.same)
              h.begin);
          went_on = λ p t l i. elim (in_joined own place p i) [
            | inl m ↦ h.went_on p t l m
            | inr q ↦ subst (λ x. In x before × (is_made (get_or stored x t).name ≡ false)) q
                (c.among, ap is_made (c.named t) ∙ is)
          ];
          go_on = λ p t l i j u.
              elim (in_joined (map (λ (x : Listed). x.0) listed) e.0 (get_or stored p t).name
              (subst (In (get_or stored p t).name)
              (ap (map (λ (x : Listed). x.0)) all
              ∙ map-append (λ (x : Listed). x.0) listed (e ∷ [])) j)) [
                | inl m ↦ in_left p own (place ∷ []) (h.go_on p t l i m u)
                | inr q ↦ subst (λ x. In x (own ++ place ∷ []))
                    (one_by_name stored before within ordered place p t c.among i (c.named t ∙ q))
                    (in_right place own (place ∷ []) (inl refl))
              ];
          there = λ p l m. in_left p own (place ∷ [])
              (h.there p l (let n = ap length c.same in omega (arith, m, n)));
        }

    -- the next one of a list
    pub next_coming : (listed : List Listed) (i : ℕ) (e : Listed) (begun new : List MadeTable)
        (own more : List ℕ) (place : ℕ) → slice_get listed i ≡ Some e
        → AreComing (take i listed) begun own
        → Comes (is_made e.0) stored begun new before place e.0 (Is e) → more ≡ own ++ place ∷ []
        → AreComing (take (i + 1) listed) new more
    next_coming listed i e begun new own more place s h c m =
        subst (AreComing (take (i + 1) listed) new) (sym m)
        (coming_by (is_made e.0) (take i listed) (take (i + 1) listed) begun new own place e h refl
        (take_more listed i e (slice_get_within listed i e s)
        ∙ ap (λ (d : Listed). take i listed ++ d ∷ []) (get_or_from_slice_get listed i e e s))
        c)

  -- all tables of a schema
  module _ (next : Tables) (begun : List MadeTable) (own : List ℕ)
      (all : AreComing (entries next) begun own) where
    pub all_placed : ArePlaced stored begun before is_made next own
    all_placed = record {
      went_on = all.went_on;
      go_on = λ p t l i s u. all.go_on p t l i
          (found_among (get_or stored p t).name (entries next)
          (ap is_some (sym (get-entries next (get_or stored p t).name)) ∙ s)) u;
      begin = all.there;
    }

  pub all_coming : (next : Tables) (i n : ℕ) (begun : List MadeTable) (own : List ℕ) → n ≡ len next
      → i ≤ n → n ≤ i → AreComing (take i (entries next)) begun own
      → AreComing (entries next) begun own
  all_coming next i n begun own e l k h =
      let c = len-entries next in
      let all : i ≡ length (entries next) = omega (arith, e, l, k, c) in
      subst (λ (es : List Listed). AreComing es begun own)
      (ap (λ j. take j (entries next)) all ∙ take-length (entries next)) h

-- by what agrees on which are made
pub placed_alike : (stored begun : List MadeTable) (before : List ℕ) (made other : List ℕ → Bool)
    (next : Tables) (own : List ℕ) → ((name : List ℕ) → made name ≡ other name)
    → ArePlaced stored begun before made next own → ArePlaced stored begun before other next own
placed_alike stored begun before made other next own h p = record {
  went_on = λ q t l i. (
    (p.went_on q t l i).0,
    sym (h (get_or stored q t).name)
        ∙ (p.went_on q t l i).1,
  );
  go_on = λ q t l i s u. p.go_on q t l i s (h (get_or stored q t).name ∙ u);
  begin = p.begin;
}
