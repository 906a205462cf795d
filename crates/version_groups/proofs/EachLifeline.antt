-- Each table of each version has a lifeline that covers the version.
use Rattle.std.proofs.Common.{◌≡◌, ◌≤◌, ◌+◌, ℕ, suc, Bool, true, false, cond, List, [], ◌∷◌, ◌++◌}
use Rattle.std.proofs.Common.{map, length, refl, sym, ap, subst, ◌∙◌, arith, inl, inr}
use Rattle.std.proofs.Common.{length-append, append_assoc, append-nil, is_some}
use Rattle.std.specs.Prelude.{Option, Some, None, nat_le, ◌&&◌}
use Rattle.std.specs.Option.{option_map}
use Rattle.std.specs.FinMap.{get, get-empty, get-entries, entries}
use Rattle.std.proofs.lemmas.Bool.Decides.{nat_tests}
use Rattle.relations_spec.specs.Sets.{In}
use Rattle.relations_spec.proofs.SetLaws.{in_left, in_right, in_map, in_filter, from_map}
use Rattle.prima_base.specs.Columns.{Column}
use Rattle.prima_base.specs.Order.{bytes_cmp}
use Rattle.prima_base.specs.OrderLaws.{same_is}
use Rattle.schema_catalog.specs.Tables.{Tables}
use Rattle.smo_ops_types.specs.Commands.{PlainVersion}
use Rattle.smo_ops_spec.specs.Evolutions.{schema_after_each}
use Rattle.smo_ops_spec.specs.ValidPast.{AreVersions}
use Rattle.smo_ops_spec.specs.OneRow.{same}
use Rattle.smo_ops_spec.specs.Past.{no_tables, tables_from, newest_from}
use Rattle.smo_ops_spec.specs.Evolutions.{one_makes, one_consumes}
use Rattle.smo_ops_spec.proofs.NameLaws.{same_itself}
use Rattle.smo_ops_spec.proofs.PastLaws.{newest_added}
use Rattle.smo_ops_spec.proofs.PastMoments.{newest_tables_from, tables_still, tables_added}
use Rattle.smo_ops_spec.proofs.PastMoments.{before_or_not}
use Rattle.smo_ops_spec.proofs.MemberLaws.{each_table_stays, each_table_gone}
use Rattle.version_groups_tables.proofs.PlacedTables.{found_among}
use Rattle.version_groups.specs.Lifelines.{Lifeline, last_after, line_after, line_begun}
use Rattle.version_groups.specs.Lifelines.{made_tables, lifelines_of, is_up_to, covers, first_place}
use Rattle.version_groups.specs.Lifelines.{place_in}
use Rattle.version_groups.specs.LongestRuns.{IsLongest}
use Rattle.version_groups.proofs.Covered.{both_true, true_both, covered_from, covered_up_to}
use Rattle.version_groups.proofs.Covered.{is_covered, up_to_last, still_covers, lifelines_with}
use Rattle.version_groups.proofs.LongestRuns.{all_with, all_longest}

-- a lifeline of the name that covers version k
record IsOver (versions : List PlainVersion) (k : ℕ) (name : List ℕ) : Type 0 where
  line : Lifeline
  among : In line (lifelines_of versions)
  named : line.table ≡ name
  over : covers k line ≡ true

abbrev AllOver : List PlainVersion → Type 0
AllOver versions = (k : ℕ) (name : List ℕ) → k ≤ length versions
    → is_some (get (tables_from no_tables versions k) name) ≡ true → IsOver versions k name

abbrev AllLongest : List PlainVersion → Type 0
AllLongest versions = (l : Lifeline) → In l (lifelines_of versions) → IsLongest versions l

module _ (versions : List PlainVersion) (v : PlainVersion)
    (tables : v.tables ≡ schema_after_each (newest_from no_tables versions) v.op)
    (runs : AllLongest versions) (h : AllOver versions) where
  abbrev n : ℕ
  n = length versions

  abbrev before : Tables
  before = newest_from no_tables versions

  abbrev more : List PlainVersion
  more = versions ++ v ∷ []

  old_lines : List Lifeline
  old_lines = map (line_after (one_consumes before v.op) n) (lifelines_of versions)

  new_lines : List Lifeline
  new_lines = map (line_begun (n + 1)) (made_tables before v.op v.tables)

  among_old : (m : Lifeline) → In m (lifelines_of versions)
      → In (line_after (one_consumes before v.op) n m) (lifelines_of more)
  unfolding old_lines new_lines
  among_old m i =
      subst (λ (ls : List Lifeline). In (line_after (one_consumes before v.op) n m) ls)
      (sym (lifelines_with versions v))
      (in_left (line_after (one_consumes before v.op) n m) old_lines new_lines
      (in_map (line_after (one_consumes before v.op) n) m (lifelines_of versions) i))

  among_new : (t : List ℕ × List Column) → In t (made_tables before v.op v.tables)
      → In (line_begun (n + 1) t) (lifelines_of more)
  unfolding old_lines new_lines
  among_new t i =
      subst (λ (ls : List Lifeline). In (line_begun (n + 1) t) ls) (sym (lifelines_with versions v))
      (in_right (line_begun (n + 1) t) old_lines new_lines
      (in_map (line_begun (n + 1)) t (made_tables before v.op v.tables) i))

  -- a table that is made begins one
  begun_over : (name : List ℕ) → is_some (get v.tables name) ≡ true → one_makes before v.op name
      ≡ true
      → IsOver more (n + 1) name
  begun_over name s e =
      let d = from_map (λ (x : List ℕ × List Column). x.0) name (entries v.tables)
      (found_among name (entries v.tables)
      (ap is_some (sym (get-entries v.tables name)) ∙ s)) in
      record {
        line = line_begun (n + 1) d.0;
        among = among_new d.0 (in_filter (λ (x : List ℕ × List Column). one_makes before v.op x.0)
            d.0
            (entries v.tables) d.1 (ap (one_makes before v.op) d.2 ∙ e));
        named = d.2;
        over = is_covered (n + 1) (line_begun (n + 1) d.0) (omega arith) refl;
      }

  -- the lifeline of one that goes on lives
  lives : (m : Lifeline) → In m (lifelines_of versions) → covers n m ≡ true → m.last ≡ None
  lives m i c = step (runs m i) m.last refl (covered_up_to n m c)
    where
      step : IsLongest versions m → (o : Option ℕ) → m.last ≡ o → is_up_to o n ≡ true → o ≡ None
      step r None e u = refl
      step r (Some last) e u =
          absurd (
          let low = (r.ends last e).1 in
          let up = up_to_last last n u in
          omega (arith, low, up)
          )

  goes_over : (name : List ℕ) → one_consumes before v.op name ≡ false → IsOver versions n name
      → IsOver more (n + 1) name
  goes_over name e o =
      let low = covered_from n o.line o.over in
      record {
        line = line_after (one_consumes before v.op) n o.line;
        among = among_old o.line o.among;
        named = o.named;
        over = is_covered (n + 1) (line_after (one_consumes before v.op) n o.line)
            (omega (arith, low))
            (ap (λ b. is_up_to (last_after b n o.line.last) (n + 1))
            (ap (one_consumes before v.op) o.named ∙ e)
            ∙ ap (λ p. is_up_to (last_after false n p) (n + 1)) (lives o.line o.among o.over));
      }

  newest_over : (name : List ℕ) → is_some (get v.tables name) ≡ true → IsOver more (n + 1) name
  newest_over name s = step (one_makes before v.op name) refl
    where
      there : is_some (get (schema_after_each before v.op) name) ≡ true
      there = ap (λ (t : Tables). is_some (get t name)) (sym tables) ∙ s

      unmade : one_makes before v.op name ≡ false → (b : Bool) → one_consumes before v.op name ≡ b
          → IsOver more (n + 1) name
      unmade u true e = absurd (let gone = each_table_gone before v.op name u e in cc)
      unmade u false e =
          goes_over name e
          (h n name (omega arith) (ap (λ (t : Tables). is_some (get t name))
          (newest_tables_from no_tables versions)
          ∙ ap is_some (sym (each_table_stays before v.op name u e)) ∙ there))

      step : (b : Bool) → one_makes before v.op name ≡ b → IsOver more (n + 1) name
      step true e = begun_over name s e
      step false e = unmade e (one_consumes before v.op name) refl

  still_over : (k : ℕ) (name : List ℕ) → k ≤ n → IsOver versions k name → IsOver more k name
  still_over k name l o = record {
    line = line_after (one_consumes before v.op) n o.line;
    among = among_old o.line o.among;
    named = o.named;
    over = still_covers (one_consumes before v.op) n o.line k l o.over;
  }

  over_with : AllOver more
  over_with k name l s = elim (before_or_not n k) [
    | inl j ↦
        let long = length-append versions (v ∷ []) in
        let is : k ≡ suc n = omega (arith, j, l, long) in
        let next : n + 1 ≡ k = omega (arith, is) in
        subst (λ i. IsOver more i name) next
        (newest_over name (ap (λ (t : Tables). is_some (get t name))
        (sym (ap (tables_from no_tables more) is ∙ tables_added no_tables versions v)) ∙ s))
    | inr j ↦ still_over k name j (h k name j
        (ap (λ (t : Tables). is_some (get t name)) (sym (tables_still no_tables versions v k j))
        ∙ s))
  ]

none_at_first : AllOver []
none_at_first k name l s = absurd (let none : get no_tables name ≡ None =
    get-empty bytes_cmp name in let some : is_some (get no_tables name) ≡ true = s in cc)

over_after : (versions left : List PlainVersion) (last : Option ℕ)
    → AreVersions last (newest_from no_tables versions) left → AllLongest versions
    → AllOver versions → AllOver (versions ++ left)
over_after versions [] last a r h = subst AllOver (sym (append-nil versions)) h
over_after versions (v ∷ left) last a r h =
    subst AllOver (append_assoc versions (v ∷ []) left)
    (over_after (versions ++ v ∷ []) left (Some v.stamp)
    (subst (λ (t : Tables). AreVersions (Some v.stamp) t left)
    (sym (newest_added no_tables versions v)) a.1)
    (all_with versions v a.0.accepted a.0.tables r) (over_with versions v a.0.tables r h))

-- ---- found by its number

first_some : (test : Lifeline → Bool) (lines : List Lifeline) (l : Lifeline) → In l lines
    → test l ≡ true → is_some (first_place test lines) ≡ true
first_some test [] l i t = absurd i
first_some test (m ∷ lines) l i t = step (first_some test lines l) (test m) refl i
  where
    mapped : (o : Option ℕ) → is_some (option_map suc o) ≡ is_some o
    mapped None = refl
    mapped (Some p) = refl

    step : (In l lines → test l ≡ true → is_some (first_place test lines) ≡ true) → (b : Bool)
        → test m ≡ b → In l (m ∷ lines) → is_some
        (cond b (Some 0) (option_map suc (first_place test lines))) ≡ true
    step rest true u j = refl
    step rest false u (inl e) = absurd (let same = ap test e in cc)
    step rest false u (inr j) = mapped (first_place test lines) ∙ rest j t

some_first : (test : Lifeline → Bool) (lines : List Lifeline)
    → is_some (first_place test lines) ≡ true → (l : Lifeline) × In l lines × (test l ≡ true)
some_first test [] s = absurd (cc)
some_first test (m ∷ lines) s = step (some_first test lines) (test m) refl s
  where
    mapped : (o : Option ℕ) → is_some o ≡ is_some (option_map suc o)
    mapped None = refl
    mapped (Some p) = refl

    step : (is_some (first_place test lines) ≡ true → (l : Lifeline) × In l lines × (test l ≡ true))
        → (b : Bool) → test m ≡ b → is_some (cond b (Some 0)
        (option_map suc (first_place test lines))) ≡ true
        → (l : Lifeline) × In l (m ∷ lines) × (test l ≡ true)
    step rest true u q = (m, inl refl, u)
    step rest false u q = (let r = rest (mapped (first_place test lines) ∙ q) in
        (r.0, inr r.1, r.2))

module _ (versions : List PlainVersion) (a : AreVersions None no_tables versions) (k : ℕ)
    (name : List ℕ) (l : k ≤ length versions) where
  abbrev is_its : Lifeline → Bool
  is_its m = same m.table name && covers k m

  its_place : place_in versions k name ≡ first_place is_its (lifelines_of versions)
  its_place = (let up : nat_le k (length versions) ≡ true = grind (arith, nat_tests, l) in
      ap (λ b. cond b (first_place is_its (lifelines_of versions)) None) up)

  found_where : is_some (get (tables_from no_tables versions k) name) ≡ true
      → is_some (place_in versions k name) ≡ true
  found_where s =
      let o = over_after [] versions None a (λ m i. absurd i) none_at_first k name l s in
      ap is_some its_place
      ∙ first_some is_its (lifelines_of versions) o.line o.among
      (true_both (same o.line.table name) (covers k o.line)
      (ap (λ x. same x name) o.named ∙ same_itself name) o.over)

  there_where : is_some (place_in versions k name) ≡ true
      → is_some (get (tables_from no_tables versions k) name) ≡ true
  there_where s =
      let f = some_first is_its (lifelines_of versions) (ap is_some (sym its_place) ∙ s) in
      let w = both_true (same f.0.table name) (covers k f.0) f.2 in
      ap (λ x. is_some (get (tables_from no_tables versions k) x))
      (sym (same_is f.0.table name w.0)) ∙ ap is_some
      ((all_longest versions a f.0 f.1).there k l w.1)

  both_or_none : (b c : Bool) → (c ≡ true → b ≡ true) → (b ≡ true → c ≡ true) → b ≡ c
  both_or_none true c f g = sym (g refl)
  both_or_none false true f g = f refl
  both_or_none false false f g = refl

  -- a version's table has a number just where the version has the table
  pub numbered_where : is_some (place_in versions k name)
      ≡ is_some (get (tables_from no_tables versions k) name)
  numbered_where = both_or_none (is_some (place_in versions k name))
      (is_some (get (tables_from no_tables versions k) name)) found_where there_where
