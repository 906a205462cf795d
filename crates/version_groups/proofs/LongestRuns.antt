-- Lifelines are longest runs, whatever versions come after.
use Rattle.std.proofs.Common.{◌≡◌, ◌≤◌, ◌<◌, ◌+◌, ℕ, suc, zero, Bool, true, false, List, [], ◌∷◌}
use Rattle.std.proofs.Common.{◌++◌, map, length, refl, sym, ap, subst, ◌∙◌, arith, inl, inr}
use Rattle.std.proofs.Common.{length-append, append_assoc, append-nil, is_some}
use Rattle.std.specs.Prelude.{Option, Some, None, slice_get}
use Rattle.std.specs.FinMap.{get, entries}
use Rattle.relations_spec.specs.Sets.{In}
use Rattle.relations_spec.proofs.SetLaws.{in_append, from_map, from_filter}
use Rattle.prima_base.specs.Columns.{Column}
use Rattle.schema_catalog.specs.Tables.{Tables}
use Rattle.smo_ops_types.specs.Commands.{PlainVersion}
use Rattle.smo_ops_types.specs.Operators.{Operator}
use Rattle.smo_ops_spec.specs.Evolutions.{evolution_fault, schema_after_each}
use Rattle.smo_ops_spec.specs.ValidPast.{AreVersions}
use Rattle.smo_ops_spec.specs.Past.{no_tables, tables_from, newest_from}
use Rattle.smo_ops_spec.specs.Evolutions.{one_makes, one_consumes}
use Rattle.smo_ops_spec.proofs.PastLaws.{newest_added}
use Rattle.smo_ops_spec.proofs.PastMoments.{newest_tables_from, tables_still, tables_added}
use Rattle.smo_ops_spec.proofs.PastMoments.{before_or_not}
use Rattle.smo_ops_spec.proofs.MemberLaws.{all_accepted, each_table_stays, each_made_is_free}
use Rattle.version_groups_tables.proofs.PlacedTables.{listed_in}
use Rattle.version_groups.specs.Lifelines.{Lifeline, last_after, line_after, line_begun}
use Rattle.version_groups.specs.Lifelines.{made_tables, lifelines_of, is_up_to, covers}
use Rattle.version_groups.specs.LongestRuns.{of_operator, with_version, IsLongest}
use Rattle.version_groups.proofs.Covered.{covered_from, covered_up_to, is_covered, up_to_last}
use Rattle.version_groups.proofs.Covered.{did_cover, lifelines_with}

-- ---- versions with one more

got_still : (versions : List PlainVersion) (v : PlainVersion) (k : ℕ) → k < length versions
    → slice_get (versions ++ v ∷ []) k ≡ slice_get versions k
got_still [] v k l = absurd (omega (arith, l))
got_still (w ∷ versions) v zero l = refl
got_still (w ∷ versions) v (suc k) l = got_still versions v k (omega (arith, l))

got_last : (versions : List PlainVersion) (v : PlainVersion)
    → slice_get (versions ++ v ∷ []) (length versions) ≡ Some v
got_last [] v = refl
got_last (w ∷ versions) v = got_last versions v

module _ (versions : List PlainVersion) (v : PlainVersion) where
  abbrev n : ℕ
  n = length versions

  abbrev before : Tables
  before = newest_from no_tables versions

  abbrev more : List PlainVersion
  more = versions ++ v ∷ []

  long : length more ≡ n + 1
  long = length-append versions (v ∷ [])

  before_is : tables_from no_tables versions n ≡ before
  before_is = newest_tables_from no_tables versions

  -- what operators did before they did
  does_still : (does : Tables → List Operator → List ℕ → Bool) (k : ℕ) (name : List ℕ) → k ≤ n
      → with_version does more k name ≡ with_version does versions k name
  does_still does zero name l = refl
  does_still does (suc k) name l =
      ap (λ (t : Tables). of_operator does t (slice_get more k) name)
      (tables_still no_tables versions v k (omega (arith, l)))
      ∙ ap (λ (o : Option PlainVersion). of_operator does (tables_from no_tables versions k) o name)
      (got_still versions v k (omega (arith, l)))

  -- and the last one does what it does
  does_last : (does : Tables → List Operator → List ℕ → Bool) (name : List ℕ)
      → with_version does more (n + 1) name ≡ does before v.op name
  does_last does name =
      ap (λ j. with_version does more j name) (let e : n + 1 ≡ suc n = omega arith in e)
      ∙ ap (λ (t : Tables). of_operator does t (slice_get more n) name)
      (tables_still no_tables versions v n (omega arith) ∙ before_is)
      ∙ ap (λ (o : Option PlainVersion). of_operator does before o name) (got_last versions v)

  added : tables_from no_tables more (n + 1) ≡ v.tables
  added = subst (λ j. tables_from no_tables more j ≡ v.tables)
      (let e : suc n ≡ n + 1 = omega arith in e) (tables_added no_tables versions v)

  module _ (accepted : evolution_fault before v.op ≡ None)
      (tables : v.tables ≡ schema_after_each before v.op) where
    -- a lifeline that lived goes on, or has ended
    module _ (m : Lifeline) (h : IsLongest versions m) where
      abbrev l : Lifeline
      l = line_after (one_consumes before v.op) n m

      -- one that covers the new version lived, and its table is not consumed
      lived : (o : Option ℕ) → m.last ≡ o → (b : Bool) → is_up_to (last_after b n o) (n + 1) ≡ true
          → (o ≡ None) × (b ≡ false)
      lived None e true u = absurd (let low = up_to_last n (n + 1) u in omega (arith, low))
      lived None e false u = (refl, refl)
      lived (Some last) e b u =
          absurd (
          let up = up_to_last last (n + 1) u in
          let low = (h.ends last e).1 in
          omega (arith, up, low)
          )

      goes_on : covers (n + 1) l ≡ true → (m.last ≡ None)
          × (one_consumes before v.op m.table ≡ false)
      goes_on c = lived m.last refl (one_consumes before v.op m.table) (covered_up_to (n + 1) l c)

      was_there : covers (n + 1) l ≡ true → get before m.table ≡ Some m.columns
      was_there c =
          ap (λ (t : Tables). get t m.table) (sym before_is)
          ∙ h.there n (omega arith) (is_covered n m h.begun
          (ap (λ o. is_up_to o n) (goes_on c).0))

      -- so neither is it made
      unmade : covers (n + 1) l ≡ true → one_makes before v.op m.table ≡ false
      unmade c = step (one_makes before v.op m.table) refl
        where
          step : (b : Bool) → one_makes before v.op m.table ≡ b → b ≡ false
          step true e = absurd (let d = each_made_is_free before v.op m.table
              (all_accepted before v.op accepted) e
              (ap is_some (was_there c)) in let u = (goes_on c).1 in cc)
          step false e = refl

      newest_there : covers (n + 1) l ≡ true → get v.tables m.table ≡ Some m.columns
      newest_there c = ap (λ (t : Tables). get t m.table) tables
          ∙ each_table_stays before v.op m.table (unmade c) (goes_on c).1 ∙ was_there c

      ends_with : (o : Option ℕ) → m.last ≡ o → (b : Bool) → one_consumes before v.op m.table ≡ b
          → (last : ℕ) → last_after b n o ≡ Some last
          → (m.first ≤ last) × (last < n + 1)
          × (with_version one_consumes more (last + 1) m.table ≡ true)
      ends_with None e true q last i =
          let is : n ≡ last = cc in
          let first = h.begun in (
            omega (arith, is, first),
            omega (arith, is),
            ap (λ j. with_version one_consumes more (j + 1) m.table) (sym is)
                ∙ does_last one_consumes m.table ∙ q,
          )
      ends_with None e false q last i = absurd (cc)
      ends_with (Some x) e b q last i =
          let is : x ≡ last = cc in
          let own = h.ends last (e ∙ ap (λ j. Some j) is) in
          let low = own.1 in (
            own.0,
            omega (arith, low),
            does_still one_consumes (last + 1) m.table (omega (arith, low))
                ∙ own.2,
          )

      pub still_longest : IsLongest more l
      still_longest = record {
        begun = (let first = h.begun in omega (arith, first, long));
        begins = does_still one_makes m.first m.table h.begun ∙ h.begins;
        there = λ k b c. elim (before_or_not n k) [
          | inl j ↦
              let is : k ≡ n + 1 = omega (arith, j, b, long) in
              ap (λ (t : Tables). get t m.table) (ap (tables_from no_tables more) is ∙ added)
              ∙ newest_there (subst (λ i. covers i l ≡ true) is c)
          | inr j ↦ ap (λ (t : Tables). get t m.table) (tables_still no_tables versions v k j)
              ∙ h.there k j (did_cover (one_consumes before v.op) n m k c)
        ];
        inside = λ k f b c. elim (before_or_not n k) [
          | inl j ↦
              let is : k ≡ n + 1 = omega (arith, j, b, long) in
              let own = subst (λ i. covers i l ≡ true) is c in (
                ap (λ i. with_version one_makes more i m.table) is ∙ does_last one_makes m.table
                    ∙ unmade own,
                ap (λ i. with_version one_consumes more i m.table) is ∙ does_last one_consumes
                    m.table
                    ∙ (goes_on own).1,
              )
          | inr j ↦
              let own = h.inside k f j (did_cover (one_consumes before v.op) n m k c) in (
                does_still one_makes k m.table j ∙ own.0,
                does_still one_consumes k m.table j
                    ∙ own.1,
              )
        ];
        ends = λ last e. (
            let own = ends_with m.last refl (one_consumes before v.op m.table) refl last e in
            (own.0, (let low = own.1 in omega (arith, low, long)), own.2)
            );
      }

    -- a table that is made begins one
    begins_longest : (t : List ℕ × List Column) → In t (made_tables before v.op v.tables)
        → IsLongest more (line_begun (n + 1) t)
    begins_longest t i =
        let own = from_filter (λ (e : List ℕ × List Column). one_makes before v.op e.0) t
        (entries v.tables) i in
        record {
          begun = omega (arith, long);
          begins = does_last one_makes t.0 ∙ own.1;
          there = λ k b c.
              let low = covered_from k (line_begun (n + 1) t) c in
              let is : k ≡ n + 1 = omega (arith, low, b, long) in
              ap (λ (x : Tables). get x t.0) (ap (tables_from no_tables more) is ∙ added)
              ∙ listed_in v.tables t own.0;
          inside = λ k f b c. absurd (omega (arith, f, b, long));
          ends = λ last e. absurd (cc);
        }

    pub all_with : ((l : Lifeline) → In l (lifelines_of versions) → IsLongest versions l)
        → (l : Lifeline) → In l (lifelines_of more) → IsLongest more l
    all_with h l i =
        elim (in_append l (map (line_after (one_consumes before v.op) n) (lifelines_of versions))
        (map (line_begun (n + 1)) (made_tables before v.op v.tables))
        (subst (λ (ls : List Lifeline). In l ls) (lifelines_with versions v) i)) [
          | inl j ↦
              let m = from_map (line_after (one_consumes before v.op) n) l (lifelines_of versions)
              j in
              subst (IsLongest more) m.2 (still_longest m.0 (h m.0 m.1))
          | inr j ↦
              let t = from_map (line_begun (n + 1)) l (made_tables before v.op v.tables) j in
              subst (IsLongest more) t.2 (begins_longest t.0 t.1)
        ]

all_after : (versions left : List PlainVersion) (last : Option ℕ)
    → AreVersions last (newest_from no_tables versions) left
    → ((l : Lifeline) → In l (lifelines_of versions) → IsLongest versions l)
    → (l : Lifeline) → In l (lifelines_of (versions ++ left)) → IsLongest (versions ++ left) l
all_after versions [] last a h l i = subst (λ vs. IsLongest vs l) (sym (append-nil versions))
    (h l (subst (λ vs. In l (lifelines_of vs)) (append-nil versions) i))
all_after versions (v ∷ left) last a h l i =
    let is = append_assoc versions (v ∷ []) left in
    subst (λ vs. IsLongest vs l) is
    (all_after (versions ++ v ∷ []) left (Some v.stamp)
    (subst (λ (t : Tables). AreVersions (Some v.stamp) t left)
    (sym (newest_added no_tables versions v)) a.1)
    (all_with versions v a.0.accepted a.0.tables h) l
    (subst (λ vs. In l (lifelines_of vs)) (sym is) i))

-- each lifeline of versions each of which is accepted after the one before
pub all_longest : (versions : List PlainVersion) → AreVersions None no_tables versions
    → (l : Lifeline) → In l (lifelines_of versions) → IsLongest versions l
all_longest versions a = all_after [] versions None a (λ l i. absurd i)
