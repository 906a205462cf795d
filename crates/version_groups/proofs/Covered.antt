-- The lifelines that cover a version, and the stored tables over them.
use Rattle.std.proofs.Common.{◌≡◌, ◌≤◌, ◌<◌, ◌+◌, ℕ, suc, zero, Bool, true, false, cond, List, []}
use Rattle.std.proofs.Common.{◌∷◌, ◌++◌, map, length, get_or, refl, sym, ap, subst, ◌∙◌, arith, inl}
use Rattle.std.proofs.Common.{inr}
use Rattle.std.specs.Prelude.{Option, Some, None, slice_get, ◌⊎◌, ◌&&◌, nat_le}
use Rattle.std.specs.Option.{option_map}
use Rattle.std.proofs.lemmas.Bool.Decides.{nat_tests}
use Rattle.std.proofs.lemmas.List.{length-map}
use Rattle.std.proofs.lemmas.Option.{slice_get-get_or, slice_get_within, get_or_from_slice_get}
use Rattle.relations_spec.specs.Sets.{In}
use Rattle.prima_base.specs.Columns.{Column}
use Rattle.prima_base.specs.OrderLaws.{same_is}
use Rattle.schema_catalog.specs.Tables.{Tables}
use Rattle.smo_ops_types.specs.declared.version.Version.{Version}
use Rattle.smo_ops_types.specs.Commands.{PlainVersion, version_of}
use Rattle.smo_ops_spec.specs.OneRow.{same}
use Rattle.smo_ops_spec.specs.Past.{no_tables, newest_from}
use Rattle.smo_ops_spec.proofs.NameLaws.{same_itself}
use Rattle.smo_ops_spec.proofs.PastMoments.{before_or_not}
use Rattle.version_groups_tables.specs.declared.made_table.MadeTable.{MadeTable}
use Rattle.version_groups_tables.specs.Ending.{table_after, AreLiving}
use Rattle.version_groups_tables.specs.Places.{IsFound}
use Rattle.version_groups_tables.specs.Beginning.{BeginInOrder}
use Rattle.version_groups_tables.specs.Stored.{stored_as}
use Rattle.version_groups_tables.proofs.NamedPlaces.{none_named}
use Rattle.version_groups.specs.Covering.{line_of, AreCovered, AreOfLifelines}
use Rattle.version_groups.specs.Groups.{Kept, versions_in, places_of, newest_places, group_of}
use Rattle.version_groups.specs.Lifelines.{Lifeline, last_after, line_after, line_begun}
use Rattle.version_groups.specs.Lifelines.{lifelines_after, lifelines_from, lifelines_of, is_up_to}
use Rattle.version_groups.specs.Lifelines.{covers, first_place, place_in}

-- ---- what covers a version

pub both_true : (a b : Bool) → (a && b) ≡ true → (a ≡ true) × (b ≡ true)
both_true true b e = (refl, e)
both_true false b e = absurd (cc)

pub true_both : (a b : Bool) → a ≡ true → b ≡ true → (a && b) ≡ true
true_both true b e f = f
true_both false b e f = absurd (cc)

pub covered_from : (k : ℕ) (l : Lifeline) → covers k l ≡ true → l.first ≤ k
covered_from k l c = (let first = (both_true (nat_le l.first k) (is_up_to l.last k) c).0 in
    grind (arith, nat_tests, first))

pub covered_up_to : (k : ℕ) (l : Lifeline) → covers k l ≡ true → is_up_to l.last k ≡ true
covered_up_to k l c = (both_true (nat_le l.first k) (is_up_to l.last k) c).1

pub is_covered : (k : ℕ) (l : Lifeline) → l.first ≤ k → is_up_to l.last k ≡ true → covers k l ≡ true
is_covered k l f u = true_both (nat_le l.first k) (is_up_to l.last k)
    (let e : nat_le l.first k ≡ true = grind (arith, nat_tests, f) in e) u

pub up_to_last : (last k : ℕ) → is_up_to (Some last) k ≡ true → k ≤ last
up_to_last last k e = (let h : nat_le k last ≡ true = e in grind (arith, nat_tests, h))

-- ---- a lifeline at a place

pub line_at : (tables : List MadeTable) (p : ℕ) (t : MadeTable) → slice_get tables p ≡ Some t
    → slice_get (map line_of tables) p ≡ Some (line_of t)
line_at [] p t e = absurd (cc)
line_at (u ∷ tables) zero t e = (let is : u ≡ t = cc in ap (λ x. Some (line_of x)) is)
line_at (u ∷ tables) (suc p) t e = line_at tables p t e

pub table_at : (tables : List MadeTable) (p : ℕ) (l : Lifeline)
    → slice_get (map line_of tables) p ≡ Some l → (t : MadeTable) × (slice_get tables p ≡ Some t)
    × (line_of t ≡ l)
table_at [] p l e = absurd (cc)
table_at (u ∷ tables) zero l e = (u, refl, (let is : line_of u ≡ l = cc in is))
table_at (u ∷ tables) (suc p) l e = table_at tables p l e

-- ---- tables whose lifelines may have ended

pub lines_ended : (consumed : List ℕ → Bool) (k : ℕ) (tables : List MadeTable)
    → map line_of (map (table_after consumed k) tables)
    ≡ map (line_after consumed k) (map line_of tables)
lines_ended consumed k [] = refl
lines_ended consumed k (t ∷ tables) = ap (λ (ls : List Lifeline).
    line_of (table_after consumed k t) ∷ ls) (lines_ended consumed k tables)

-- the lifelines of versions with one more
lines_with : (before : Tables) (k : ℕ) (lines : List Lifeline) (versions : List PlainVersion)
    (v : PlainVersion)
    → lifelines_from before k lines (versions ++ v ∷ [])
    ≡ lifelines_after (newest_from before versions) (k + length versions)
    (lifelines_from before k lines versions) v
lines_with before k lines [] v = ap (λ j. lifelines_after before j lines v) (omega arith)
lines_with before k lines (w ∷ versions) v =
    lines_with w.tables (k + 1) (lifelines_after before k lines w) versions v
    ∙ ap (λ j. lifelines_after (newest_from w.tables versions) j
    (lifelines_from w.tables (k + 1) (lifelines_after before k lines w) versions) v)
    (omega arith)

pub lifelines_with : (versions : List PlainVersion) (v : PlainVersion)
    → lifelines_of (versions ++ v ∷ []) ≡ lifelines_after (newest_from no_tables versions)
    (length versions) (lifelines_of versions) v
lifelines_with versions v =
    lines_with no_tables 0 [] versions v ∙ ap
    (λ j. lifelines_after (newest_from no_tables versions) j (lifelines_of versions) v)
    (omega arith)

-- ---- tables that begin

abbrev pub a_line : List ℕ → ℕ → Option ℕ → List Column → Lifeline
a_line table first last columns = record {
  table = table;
  first = first;
  last = last;
  columns =
      columns;
}

pub line_is : (k : ℕ) (m : List ℕ × List Column) (t : MadeTable) → t.name ≡ m.0 → t.first ≡ k
    → t.last ≡ None → t.store.columns ≡ m.1 → line_of t ≡ line_begun k m
line_is k m t name first last columns =
    ap (λ (n : List ℕ). a_line n t.first t.last t.store.columns) name
    ∙ ap (λ (n : ℕ). a_line m.0 n t.last t.store.columns) first
    ∙ ap (λ (o : Option ℕ). a_line m.0 k o t.store.columns) last
    ∙ ap (λ (cs : List Column). a_line m.0 k None cs) columns

-- over lifelines that begin, in their order
pub lines_begin : (Is : List ℕ × List Column → MadeTable → Type 0) (k : ℕ)
    → ((m : List ℕ × List Column) (t : MadeTable) → Is m t → line_of t ≡ line_begun k m)
    → (made : List (List ℕ × List Column)) (begun : List MadeTable) → BeginInOrder Is made begun
    → map line_of begun ≡ map (line_begun k) made
lines_begin Is k line [] [] h = refl
lines_begin Is k line [] (t ∷ begun) h = absurd (let e = h.count in omega (arith, e))
lines_begin Is k line (m ∷ made) [] h = absurd (let e = h.count in omega (arith, e))
lines_begin Is k line (m ∷ made) (t ∷ begun) h =
    ap (λ (l : Lifeline). l ∷ map line_of begun) (line m t (h.each 0 m t (omega arith)))
    ∙ ap (λ (ls : List Lifeline). line_begun k m ∷ ls)
    (lines_begin Is k line made begun (record {
      count = (let e = h.count in omega (arith, e));
      each = λ j d u l.
          h.each (suc j) d u (omega (arith, l));
    }))

pub lines_fresh : (n : ℕ) (made : List (List ℕ × List Column)) (q : ℕ) (l : Lifeline)
    → slice_get (map (line_begun n) made) q ≡ Some l → (l.first ≡ n) × (l.last ≡ None)
lines_fresh n [] q l e = absurd (cc)
lines_fresh n (m ∷ made) zero l e =
    let is : line_begun n m ≡ l = cc in
    (ap (λ (x : Lifeline). x.first) (sym is), ap (λ (x : Lifeline). x.last) (sym is))
lines_fresh n (m ∷ made) (suc q) l e = lines_fresh n made q l e

module _ (consumed : List ℕ → Bool) (n : ℕ) where
  -- a lifeline covers each version up to this one that it covered, and no other
  still_up_to : (b : Bool) (last : Option ℕ) (j : ℕ) → j ≤ n → is_up_to last j ≡ true
      → is_up_to (last_after b n last) j ≡ true
  still_up_to true None j l h = (let e : nat_le j n ≡ true = grind (arith, nat_tests, l) in e)
  still_up_to false None j l h = refl
  still_up_to b (Some last) j l h = h

  was_up_to : (b : Bool) (last : Option ℕ) (j : ℕ) → is_up_to (last_after b n last) j ≡ true
      → is_up_to last j ≡ true
  was_up_to b None j h = refl
  was_up_to b (Some last) j h = h

  pub still_covers : (l : Lifeline) (j : ℕ) → j ≤ n → covers j l ≡ true
      → covers j (line_after consumed n l) ≡ true
  still_covers l j w c = is_covered j (line_after consumed n l) (covered_from j l c)
      (still_up_to (consumed l.table) l.last j w (covered_up_to j l c))

  pub did_cover : (l : Lifeline) (j : ℕ) → covers j (line_after consumed n l) ≡ true
      → covers j l ≡ true
  did_cover l j c = is_covered j l (covered_from j (line_after consumed n l) c)
      (was_up_to (consumed l.table) l.last j (covered_up_to j (line_after consumed n l) c))

  -- none that has ended ends with the next version
  ends_before : (b : Bool) (o : Option ℕ) (last : ℕ) → ((x : ℕ) → o ≡ Some x → x < n)
      → last_after b n o ≡ Some last → last < n + 1
  ends_before true None last f e = (let is : n ≡ last = cc in omega (arith, is))
  ends_before false None last f e = absurd (cc)
  ends_before b (Some x) last f e =
      let is : x ≡ last = cc in
      let l = f x refl in
      omega (arith, is, l)

  abbrev pub Stood : List Lifeline → ℕ → Lifeline → Type 0
  Stood lines p l = (m : Lifeline) × (slice_get lines p ≡ Some m) × (l ≡ line_after consumed n m)

  abbrev pub IsFresh : List Lifeline → ℕ → Lifeline → Type 0
  IsFresh lines p l = (length lines ≤ p) × (l.first ≡ n + 1) × (l.last ≡ None)

  abbrev pub AreFresh : List Lifeline → Type 0
  AreFresh begun = (q : ℕ) (l : Lifeline) → slice_get begun q ≡ Some l → (l.first ≡ n + 1)
      × (l.last ≡ None)

  -- a lifeline stood before, or begins with the next version
  stood_or_begins : (lines begun : List Lifeline) → AreFresh begun → (p : ℕ) (l : Lifeline)
      → slice_get (map (line_after consumed n) lines ++ begun) p ≡ Some l → Stood lines p l
      ⊎ IsFresh lines p l
  stood_or_begins [] begun f p l e = inr (let g = f p l e in (omega arith, g.0, g.1))
  stood_or_begins (m ∷ lines) begun f zero l e =
      (let is : line_after consumed n m ≡ l = cc in inl (m, refl, sym is))
  stood_or_begins (m ∷ lines) begun f (suc p) l e = elim (stood_or_begins lines begun f p l e) [
    | inl w ↦ inl w
    | inr h ↦ inr ((let low = h.0 in omega (arith, low)), h.1, h.2)
  ]

  -- ---- one version more

  module _ (lines begun all : List Lifeline) (places more : List (List ℕ))
      (h : AreCovered lines n places) (fresh : AreFresh begun)
      (is : all ≡ map (line_after consumed n) lines ++ begun)
      (within : (k p : ℕ) → In p (get_or places k []) → p < length lines) (still : (k : ℕ) → k ≤ n
      → get_or more k [] ≡ get_or places k []) (own : List ℕ)
      (newest : get_or more (n + 1) [] ≡ own)
      (living : (p : ℕ) (l : Lifeline) → slice_get all p ≡ Some l → In p own → l.last ≡ None)
      (among : (p : ℕ) (l : Lifeline) → slice_get all p ≡ Some l → l.last ≡ None → In p own)
      (apart : (p q : ℕ) (l m : Lifeline) → slice_get all p ≡ Some l → slice_get all q ≡ Some m
      → In p own → In q own → l.table ≡ m.table → p ≡ q) where
    either : (p : ℕ) (l : Lifeline) → slice_get all p ≡ Some l → Stood lines p l ⊎ IsFresh lines p l
    either p l e = stood_or_begins lines begun fresh p l
        (ap (λ (ls : List Lifeline). slice_get ls p) (sym is) ∙ e)

    begins : (p : ℕ) (l : Lifeline) → slice_get all p ≡ Some l → l.first ≤ n + 1
    begins p l e = elim (either p l e) [
      | inl w ↦
          let first : l.first ≡ w.0.first = ap (λ (x : Lifeline). x.first) w.2 in
          let low = h.begun p w.0 w.1 in
          omega (arith, first, low)
      | inr f ↦ let first = f.1 in omega (arith, first)
    ]

    ends : (p : ℕ) (l : Lifeline) (last : ℕ) → slice_get all p ≡ Some l → l.last ≡ Some last
        → last < n + 1
    ends p l last e i = elim (either p l e) [
      | inl w ↦ ends_before (consumed w.0.table) w.0.last last (λ x j. h.ended p w.0 x w.1 j)
          (ap (λ (x : Lifeline). x.last) (sym w.2) ∙ i)
      | inr f ↦ absurd (let none = f.2 in cc)
    ]

    -- a lifeline that covers the next version lives
    lives : (p : ℕ) (l : Lifeline) → slice_get all p ≡ Some l → is_up_to l.last (n + 1) ≡ true
        → l.last ≡ None
    lives p l e c = step l.last refl c
      where
        step : (o : Option ℕ) → l.last ≡ o → is_up_to o (n + 1) ≡ true → o ≡ None
        step None i u = refl
        step (Some last) i u =
            let low = ends p l last e i in
            let up = up_to_last last (n + 1) u in
            absurd (omega (arith, low, up))

    earlier_there : (k p : ℕ) (l : Lifeline) → k ≤ n → slice_get all p ≡ Some l → covers k l ≡ true
        → In p (get_or more k [])
    earlier_there k p l b e c = subst (In p) (sym (still k b)) (elim (either p l e) [
      | inl w ↦ h.there k p w.0 b w.1 (did_cover w.0 k (ap (covers k) (sym w.2) ∙ c))
      | inr f ↦ absurd (let first = f.1 in let low = covered_from k l c in
          omega (arith, first, low, b))
    ])

    earlier_covered : (k p : ℕ) (l : Lifeline) → k ≤ n → slice_get all p ≡ Some l
        → In p (get_or more k []) → covers k l ≡ true
    earlier_covered k p l b e i =
        let old = subst (In p) (still k b) i in
        elim (either p l e) [
          | inl w ↦ ap (covers k) w.2 ∙ still_covers w.0 k b (h.covered k p w.0 b w.1 old)
          | inr f ↦ absurd (let high = f.0 in let low = within k p old in omega (arith, high, low))
        ]

    earlier_one : (k p q : ℕ) (l m : Lifeline) → k ≤ n → slice_get all p ≡ Some l
        → slice_get all q ≡ Some m → l.table ≡ m.table → covers k l ≡ true → covers k m ≡ true
        → p ≡ q
    earlier_one k p q l m b e f s c d = elim (either p l e) [
      | inl w ↦ elim (either q m f) [
        | inl v ↦
            h.one k p q w.0 v.0 b w.1 v.1 (ap (λ (x : Lifeline). x.table) (sym w.2) ∙ s
            ∙ ap (λ (x : Lifeline). x.table) v.2)
            (did_cover w.0 k (ap (covers k) (sym w.2) ∙ c))
            (did_cover v.0 k (ap (covers k) (sym v.2) ∙ d))
        | inr g ↦ absurd (let first = g.1 in let low = covered_from k m d in
            omega (arith, first, low, b))
      ]
      | inr g ↦ absurd (let first = g.1 in let low = covered_from k l c in
          omega (arith, first, low, b))
    ]

    newest_there : (p : ℕ) (l : Lifeline) → slice_get all p ≡ Some l → covers (n + 1) l ≡ true
        → In p own
    newest_there p l e c = among p l e (lives p l e (covered_up_to (n + 1) l c))

    newest_covered : (p : ℕ) (l : Lifeline) → slice_get all p ≡ Some l → In p own
        → covers (n + 1) l ≡ true
    newest_covered p l e i = is_covered (n + 1) l (begins p l e)
        (ap (λ o. is_up_to o (n + 1)) (living p l e i))

    is_newest : (k : ℕ) → k ≤ n + 1 → n < k → k ≡ n + 1
    is_newest k b m = omega (arith, b, m)

    pub covered_with : AreCovered all (n + 1) more
    covered_with = record {
      begun = begins;
      ended = ends;
      there = λ k p l b e c. elim (before_or_not n k) [
        | inl m ↦
            let is = is_newest k b m in
            subst (λ j. In p (get_or more j [])) (sym is)
            (subst (In p) (sym newest) (newest_there p l e
            (subst (λ j. covers j l ≡ true) is c)))
        | inr m ↦ earlier_there k p l m e c
      ];
      covered = λ k p l b e i. elim (before_or_not n k) [
        | inl m ↦
            let is = is_newest k b m in
            subst (λ j. covers j l ≡ true) (sym is)
            (newest_covered p l e (subst (In p) newest
            (subst (λ j. In p (get_or more j [])) is i)))
        | inr m ↦ earlier_covered k p l m e i
      ];
      one = λ k p q l m b e f s c d. elim (before_or_not n k) [
        | inl j ↦
            let is = is_newest k b j in
            apart p q l m e f (newest_there p l e (subst (λ i. covers i l ≡ true) is c))
            (newest_there q m f (subst (λ i. covers i m ≡ true) is d)) s
        | inr j ↦ earlier_one k p q l m j e f s c d
      ];
    }

-- ---- groups

-- the same lifelines, and the tables of each version at the same places
pub still_of_lifelines : (old new : Kept) → new.versions ≡ old.versions → new.places ≡ old.places
    → map line_of new.stored ≡ map line_of old.stored → AreOfLifelines old → AreOfLifelines new
still_of_lifelines old new versions places lines h = record {
  lines = lines ∙ h.lines ∙ ap (λ (vs : List Version). lifelines_of (map version_of vs))
      (sym versions);
  places = subst (λ (ps : List (List ℕ)). AreCovered (map line_of new.stored) (length new.versions)
      ps) (sym places)
      (subst (λ (vs : List Version). AreCovered (map line_of new.stored) (length vs) old.places)
      (sym versions)
      (subst (λ (ls : List Lifeline). AreCovered ls (length old.versions) old.places) (sym lines)
      h.places));
}

-- a lifeline lives just where its table is one of the newest version's
pub newest_living : (kept : Kept) → AreOfLifelines kept → AreLiving kept.stored (newest_places kept)
newest_living kept h = record {
  living = λ p t l i.
      let u : MadeTable = get_or kept.stored p t in
      let at = line_at kept.stored p u (slice_get-get_or kept.stored p t l) in
      step p (line_of u) at (covered_up_to n (line_of u)
      (h.places.covered n p (line_of u) (omega arith) at i)) u.last refl;
  among = λ p t l e.
      let u : MadeTable = get_or kept.stored p t in
      let at = line_at kept.stored p u (slice_get-get_or kept.stored p t l) in
      h.places.there n p (line_of u) (omega arith) at
      (is_covered n (line_of u) (h.places.begun p (line_of u) at) (ap (λ o. is_up_to o n) e));
}
  where
    n : ℕ
    n = length kept.versions

    step : (p : ℕ) (l : Lifeline) → slice_get (map line_of kept.stored) p ≡ Some l
        → is_up_to l.last n ≡ true → (o : Option ℕ) → l.last ≡ o → o ≡ None
    step p l at u None e = refl
    step p l at u (Some last) e =
        let low = h.places.ended p l last at e in
        let up = up_to_last last n (ap (λ o. is_up_to o n) (sym e) ∙ u) in
        absurd (omega (arith, low, up))

-- ---- found by its lifeline

first_is : (test : Lifeline → Bool) (lines : List Lifeline) (p : ℕ) (l : Lifeline)
    → slice_get lines p ≡ Some l → test l ≡ true
    → ((q : ℕ) (m : Lifeline) → slice_get lines q ≡ Some m → test m ≡ true → q ≡ p)
    → first_place test lines ≡ Some p
first_is test [] p l e t one = absurd (cc)
first_is test (m ∷ lines) p l e t one = step (λ i at o. first_is test lines i l at t o) (test m)
    refl p e one
  where
    step : ((i : ℕ) → slice_get lines i ≡ Some l
        → ((q : ℕ) (x : Lifeline) → slice_get lines q ≡ Some x → test x ≡ true → q ≡ i)
        → first_place test lines ≡ Some i) → (b : Bool) → test m ≡ b → (i : ℕ)
        → slice_get (m ∷ lines) i ≡ Some l → ((q : ℕ) (x : Lifeline)
        → slice_get (m ∷ lines) q ≡ Some x → test x ≡ true → q ≡ i)
        → cond b (Some 0) (option_map suc (first_place test lines)) ≡ Some i
    step rest true u i at o = ap (λ j. Some j) (o 0 m refl u)
    step rest false u zero at o = (let is : m ≡ l = cc in absurd (let no = ap test is in cc))
    step rest false u (suc i) at o = ap (option_map suc)
        (rest i at (λ q x f v. (let s = o (suc q) x f v in omega (arith, s))))

first_none : (test : Lifeline → Bool) (lines : List Lifeline)
    → ((q : ℕ) (m : Lifeline) → slice_get lines q ≡ Some m → test m ≡ true → ⊥)
    → first_place test lines ≡ None
first_none test [] h = refl
first_none test (m ∷ lines) h = step (first_none test lines (λ q x f v. h (suc q) x f v)) (test m)
    refl
  where
    step : first_place test lines ≡ None → (b : Bool) → test m ≡ b
        → cond b (Some 0) (option_map suc (first_place test lines)) ≡ None
    step rest true u = absurd (h 0 m refl u)
    step rest false u = ap (option_map suc) rest

many_in : (kept : Kept) → length (versions_in kept) ≡ length kept.versions
many_in kept = length-map kept.versions version_of

-- there is none of a version that is not there
pub none_later : (kept : Kept) (k : ℕ) (name : List ℕ) → length kept.versions < k
    → None ≡ place_in (versions_in kept) k name
none_later kept k name l =
    let n = many_in kept in
    let out : nat_le k (length (versions_in kept)) ≡ false = grind (arith, nat_tests, l, n) in
    sym (ap (λ b. cond b (first_place (λ (l : Lifeline). same l.table name && covers k l)
    (lifelines_of (versions_in kept))) None) out)

module _ (kept : Kept) (h : AreOfLifelines kept) (k : ℕ) (name : List ℕ) where
  abbrev is_its : Lifeline → Bool
  is_its l = same l.table name && covers k l

  there_is : k ≤ length kept.versions → nat_le k (length (versions_in kept)) ≡ true
  there_is l = (let n = many_in kept in grind (arith, nat_tests, l, n))

  of_version : k ≤ length kept.versions → place_in (versions_in kept) k name
      ≡ first_place is_its (map line_of kept.stored)
  of_version l = ap (λ b. cond b (first_place is_its (lifelines_of (versions_in kept))) None)
      (there_is l) ∙ ap (first_place is_its) (sym h.lines)

  -- a table of the version is that of the lifeline
  pub found_over : k ≤ length kept.versions → (p : ℕ) (t : MadeTable)
      → IsFound kept.stored (places_of kept k) name p t
      → Some p ≡ place_in (versions_in kept) k name
  found_over l p t f =
      let at = line_at kept.stored p t f.0 in
      let own = h.places.covered k p (line_of t) l at f.3 in
      sym (of_version l ∙ first_is is_its (map line_of kept.stored) p (line_of t) at
      (true_both (same t.name name) (covers k (line_of t))
      (ap (λ n. same n name) f.1 ∙ same_itself name) own)
      (λ q m e u.
      let w = both_true (same m.table name) (covers k m) u in
      h.places.one k q p m (line_of t) l e at (same_is m.table name w.0 ∙ sym f.1) w.1 own))

  -- where the version has none, no lifeline of the name covers it
  pub none_over : k ≤ length kept.versions → stored_as name (group_of kept k) ≡ None
      → None ≡ place_in (versions_in kept) k name
  none_over l none =
      sym (of_version l ∙ first_none is_its (map line_of kept.stored) (λ q m e u.
      let w = both_true (same m.table name) (covers k m) u in
      let t = table_at kept.stored q m e in
      none_named kept.stored q t.0 (places_of kept k) name none
      (slice_get_within kept.stored q t.0 t.1) (h.places.there k q m l e w.1)
      (ap (λ (x : MadeTable). x.name) (get_or_from_slice_get kept.stored q t.0 t.0 t.1)
      ∙ ap (λ (x : Lifeline). x.table) t.2 ∙ same_is m.table name w.0)))
