-- The parts of a slice in the order in which they are walked to.
use Rattle.std.proofs.Common.{◌≡◌, ◌+◌, ◌<◌, ◌≤◌, ℕ, Bool, true, false, cond, List, [], ◌∷◌, ◌++◌}
use Rattle.std.proofs.Common.{length, reverse, refl, sym, ap, subst, ◌∙◌, inl, inr, arith}
use Rattle.std.specs.Prelude.{◌⊎◌, ◌↔◌, ◌&&◌, nat_lt}
use Rattle.std.proofs.lemmas.Bool.Decides.{nat_tests}
use Rattle.std.proofs.lemmas.List.{append-nil, reverse-append}
use Rattle.relations_spec.specs.Sets.{In}
use Rattle.relations_spec.specs.Spans.{Span, covers, forever}
use Rattle.relations_spec.specs.Timed.{Entry, at}
use Rattle.relations_spec.specs.Listing.{IsListing}
use Rattle.relations_spec.proofs.ListingLaws.{listing_same}
use Rattle.prima_base.specs.Order.{row_cmp}
use Rattle.smo_ops_spec.specs.OneRow.{Row, Relation}
use Rattle.smo_ops_spec.specs.Past.{Past}
use Rattle.plain_answers_spec.specs.Reading.{Read}
use Rattle.relations_spec.proofs.SetLaws.{in_append, in_map, from_filter}
use Rattle.smo_ops_types.specs.Commands.{PlainVersion}
use Rattle.smo_ops_spec.specs.InForce.{in_force}
use Rattle.temporal_lang_types.specs.Queries.{PlainQuery, slice_of}
use Rattle.query_pieces_spec.specs.Gathering.{HasMoment, IsGathered}
use Rattle.query_pieces_spec.proofs.Gatherings.{all_gathered}
use Rattle.query_pieces_spec.specs.Piecewise.{IsAskedOf}
use Rattle.period_split.specs.Splitting.{Part, split_by, AscendFrom, HasMoment as HasPart}
use Rattle.period_split.proofs.PartLaws.{from_split}
use Rattle.query_exec.specs.declared.route.Route.{Route}
use Rattle.query_exec.specs.Questions.{table_read}
use Rattle.query_exec.proofs.TableReads.{read_ascends}
use Rattle.query_exec.specs.Routes.{back_from, on_from, DescendFrom, IsOwn, spans_of, IsRoute}

-- ---- parts that ascend

pub later_than : (low : ℕ) (parts : List Part) (x : Part) → AscendFrom low parts → In x parts
    → low ≤ x.1
later_than low [] x h m = absurd m
later_than low (p ∷ parts) x h (inl e) = subst (λ (y : Part). low ≤ y.1) e h.0.version
later_than low (p ∷ parts) x h (inr m) = (let first = h.0.version in let rest =
    later_than (p.1 + 1) parts x h.1 m in omega arith)

pub each_lasts : (low : ℕ) (parts : List Part) (x : Part) → AscendFrom low parts → In x parts
    → x.0.start < x.0.end
each_lasts low [] x h m = absurd m
each_lasts low (p ∷ parts) x h (inl e) = subst (λ (y : Part). y.0.start < y.0.end) e h.0.lasting
each_lasts low (p ∷ parts) x h (inr m) = each_lasts (p.1 + 1) parts x h.1 m

pub covers_start : (p : Span) → p.start < p.end → covers p p.start ≡ true
covers_start p l = grind (arith, nat_tests)

pub from_covering : (p : Span) (m : ℕ) → covers p m ≡ true → (p.start ≤ m) × (m < p.end)
from_covering p m e = (grind (arith, nat_tests), grind (arith, nat_tests))

-- a moment of the slice is asked of
pub asked_of : (query : PlainQuery) (m : ℕ) → covers (slice_of query.when) m ≡ true
    → IsAskedOf query m
asked_of query m c = record {
  from = (from_covering (slice_of query.when) m c).0;
  to =
      (from_covering (slice_of query.when) m c).1;
}

covering : (p : Span) (m : ℕ) → p.start ≤ m → m < p.end → covers p m ≡ true
covering p m a b = grind (arith, nat_tests)

pub of_asked : (query : PlainQuery) (m : ℕ) → IsAskedOf query m
    → covers (slice_of query.when) m ≡ true
of_asked query m k = covering (slice_of query.when) m k.from k.to

-- ---- back

module _ (asked : ℕ) where
  from_last : (b : Bool) (p x : Part) → In x (cond b [] (p ∷ [])) → p ≡ x
  from_last true p x m = absurd m
  from_last false p x (inl e) = e
  from_last false p x (inr m) = absurd m

  pub from_back : (parts : List Part) (x : Part) → In x (back_from asked parts) → In x parts
  from_back [] x m = absurd m
  from_back (p ∷ parts) x m = step (from_back parts x)
      (in_append x (back_from asked parts) (cond (nat_lt asked p.1) [] (p ∷ [])) m)
    where
      step : (In x (back_from asked parts) → In x parts) → In x (back_from asked parts)
          ⊎ In x (cond (nat_lt asked p.1) [] (p ∷ [])) → In x (p ∷ parts)
      step more (inl k) = inr (more k)
      step more (inr k) = inl (from_last (nat_lt asked p.1) p x k)

  descend_end : (high : ℕ) (xs : List Part) (p : Part) → p.1 ≤ high
      → ((x : Part) → In x xs → p.1 ≤ x.1) → DescendFrom high xs → DescendFrom high (xs ++ p ∷ [])
  descend_end high [] p l each h = (l, tt)
  descend_end high (x ∷ xs) p l each h = (
    h.0,
    descend_end x.1 xs p (each x (inl refl)) (λ y m. each y (inr m)) h.1,
  )

  pub back_descends : (low : ℕ) (parts : List Part) → AscendFrom low parts
      → DescendFrom asked (back_from asked parts)
  back_descends low [] h = tt
  back_descends low (p ∷ parts) h = step (nat_lt asked p.1) refl (back_descends (p.1 + 1) parts h.1)
    where
      step : (b : Bool) → nat_lt asked p.1 ≡ b → DescendFrom asked (back_from asked parts)
          → DescendFrom asked (back_from asked parts ++ cond b [] (p ∷ []))
      step true e d = subst (λ (ps : List Part). DescendFrom asked ps)
          (sym (append-nil (back_from asked parts))) d
      step false e d =
          descend_end asked (back_from asked parts) p (grind (arith, nat_tests))
          (λ x m. (let more = later_than (p.1 + 1) parts x h.1 (from_back parts x m) in
          omega arith)) d

  -- ---- on

  pub on_ascends : (k low : ℕ) (parts : List Part) → (k ≤ low) ⊎ (k ≤ asked + 1)
      → AscendFrom low parts → AscendFrom k (on_from asked parts)
  on_ascends k low [] or h = tt
  on_ascends k low (p ∷ parts) or h =
      step (nat_lt asked p.1) refl or (λ l. on_ascends l (p.1 + 1) parts)
    where
      step : (b : Bool) → nat_lt asked p.1 ≡ b → (k ≤ low) ⊎ (k ≤ asked + 1)
          → ((l : ℕ) → (l ≤ p.1 + 1) ⊎ (l ≤ asked + 1) → AscendFrom (p.1 + 1) parts
          → AscendFrom l (on_from asked parts))
          → AscendFrom k (cond b (p ∷ on_from asked parts) (on_from asked parts))
      step true e (inl l) more = (
        record {
          version = (let v = h.0.version in omega arith);
          lasting =
              h.0.lasting;
        },
        more (p.1 + 1) (inl (omega arith)) h.1,
      )
      step true e (inr l) more = (
        record {
          version =
              (let v : asked < p.1 = grind (arith, nat_tests) in omega arith);
          lasting = h.0.lasting;
        },
        more (p.1 + 1) (inl (omega arith)) h.1,
      )
      step false e (inl l) more = more k (inl (let v = h.0.version in omega arith)) h.1
      step false e (inr l) more = more k (inr l) h.1

  -- ---- both

  -- where all are later, none is earlier
  none_back : (low : ℕ) (parts : List Part) → asked < low → AscendFrom low parts
      → back_from asked parts ≡ []
  none_back low [] l h = refl
  none_back low (p ∷ parts) l h =
      (let v = h.0.version in
      let later : nat_lt asked p.1 ≡ true = grind (arith, nat_tests) in
      ap (λ (b : Bool). back_from asked parts ++ cond b [] (p ∷ [])) later
      ∙ append-nil (back_from asked parts)
      ∙ none_back (p.1 + 1) parts (omega (arith, l, v)) h.1)

  all_on : (low : ℕ) (parts : List Part) → asked < low → AscendFrom low parts
      → on_from asked parts ≡ parts
  all_on low [] l h = refl
  all_on low (p ∷ parts) l h =
      (let v = h.0.version in
      let later : nat_lt asked p.1 ≡ true = grind (arith, nat_tests) in
      ap (λ (b : Bool). cond b (p ∷ on_from asked parts) (on_from asked parts)) later
      ∙ ap (λ (ps : List Part). p ∷ ps) (all_on (p.1 + 1) parts (omega (arith, l, v)) h.1))

  -- back and on from the asked version they are all
  pub in_order : (low : ℕ) (parts : List Part) → AscendFrom low parts
      → parts ≡ reverse (back_from asked parts) ++ on_from asked parts
  in_order low [] h = refl
  in_order low (p ∷ parts) h = step (nat_lt asked p.1) refl (in_order (p.1 + 1) parts h.1)
    where
      step : (b : Bool) → nat_lt asked p.1 ≡ b
          → parts ≡ reverse (back_from asked parts) ++ on_from asked parts
          → p ∷ parts ≡ reverse (back_from asked parts ++ cond b [] (p ∷ []))
          ++ cond b (p ∷ on_from asked parts) (on_from asked parts)
      step true e more =
          let l : asked < p.1 + 1 = grind (arith, nat_tests) in
          ap (λ (ps : List Part). p ∷ ps) (sym (all_on (p.1 + 1) parts l h.1))
          ∙ sym (ap (λ (ps : List Part). reverse (ps ++ []) ++ p ∷ on_from asked parts)
          (none_back (p.1 + 1) parts l h.1))
      step false e more =
          ap (λ (ps : List Part). p ∷ ps) more
          ∙ sym (ap (λ (ps : List Part). ps ++ on_from asked parts)
          (reverse-append (back_from asked parts) (p ∷ [])))

-- ---- the route

both_hold : (a b : Bool) → (a && b) ≡ true → (a ≡ true) × (b ≡ true)
both_hold true b e = (refl, e)
both_hold false b e = absurd (cc)

module _ (versions : List PlainVersion) (slice : Span) (parts : List Part)
    (made : parts ≡ split_by versions slice) (up : AscendFrom 0 parts) where
  own_part : (p : Part) → In p parts → (m : ℕ) → covers p.0 m ≡ true → (p.1 ≤ length versions)
      × ((covers (in_force versions p.1) m && covers slice m) ≡ true)
  own_part p i m c = from_split versions slice p.1 m
      (p.0, subst (λ (ps : List Part). In p ps) made i, c)

  pub is_own : (p : Part) → In p parts → IsOwn versions p
  is_own p i = record {
    there = (own_part p i p.0.start (covers_start p.0 (each_lasts 0 parts p up i))).0;
    moments = λ m c. (let h = own_part p i m c in
        from_covering (in_force versions p.1) m
        (both_hold (covers (in_force versions p.1) m) (covers slice m) h.1).0);
  }

  pub is_within : (p : Part) → In p parts → (m : ℕ) → covers p.0 m ≡ true → covers slice m ≡ true
  is_within p i m c = (let h = own_part p i m c in
      (both_hold (covers (in_force versions p.1) m) (covers slice m) h.1).1)

pub is_route : (versions : List PlainVersion) (r : Route) (parts : List Part)
    → r.asked ≤ length versions → parts ≡ split_by versions r.slice → AscendFrom 0 parts
    → r.slice.end ≤ forever → r.parts.items ≡ parts → r.earlier.items ≡ back_from r.asked parts
    → r.later.items ≡ on_from r.asked parts
    → ((m : ℕ) → m < forever → covers r.slice m ≡ true → (k : ℕ) × HasPart parts k m)
    → IsRoute versions r
is_route versions r parts there made up ends all back on each = record {
  ends = ends;
  asked = there;
  back = subst (λ (ps : List Part). DescendFrom r.asked ps) (sym back)
      (back_descends r.asked 0 parts up);
  on = subst (λ (ps : List Part). AscendFrom (r.asked + 1) ps) (sym on)
      (on_ascends r.asked (r.asked + 1) 0 parts (inr (omega arith)) up);
  earlier = λ p i. is_own versions r.slice parts made up p
      (from_back r.asked parts p (subst (λ (ps : List Part). In p ps) back i));
  later = λ p i. is_own versions r.slice parts made up p (later_in p i);
  within = λ p i. is_within versions r.slice parts made up p (later_in p i);
  order = all ∙ in_order r.asked 0 parts up ∙ ap
      (λ (ps : List Part). reverse ps ++ on_from r.asked parts) (sym back)
      ∙ ap (λ (ps : List Part). reverse r.earlier.items ++ ps) (sym on);
  each = λ p i. is_own versions r.slice parts made up p (subst (λ (ps : List Part). In p ps) all i);
  all = λ m l c. (let h = each m l c in all_in h.0 m h.1);
}
  where
    later_in : (p : Part) → In p r.later.items → In p parts
    later_in p i = (from_filter (λ (q : Part). nat_lt r.asked q.1) p parts
        (subst (λ (ps : List Part). In p ps) on i)).0

    all_in : (k m : ℕ) → HasPart parts k m → HasMoment (spans_of r.parts.items) m
    all_in k m h = (
      h.0,
      in_map (λ (p : Part). p.0) (h.0, k) r.parts.items
          (subst (λ (ps : List Part). In (h.0, k) ps) (sym all) h.1),
      h.2,
    )

-- what was gathered of all its parts, listed
pub gathered_listed : {versions : List PlainVersion} (past : Past) (r : Route) → IsRoute versions r
    → (table : List ℕ) (read : Read) (gathered entries : List (Entry Row))
    → IsGathered (table_read past r.asked table read) (spans_of r.parts.items) gathered
    → IsListing row_cmp (at row_cmp gathered) r.slice entries
    → IsListing row_cmp (table_read past r.asked table read) r.slice entries
gathered_listed past r is table read gathered entries g listed =
    listing_same row_cmp (at row_cmp gathered) (table_read past r.asked table read) r.slice entries
    agree listed
  where
    same : (m : ℕ) → r.slice.start ≤ m → m < r.slice.end
        → at row_cmp gathered m ≡ table_read past r.asked table read m
    same m a b =
        let ends = is.ends in
        all_gathered (table_read past r.asked table read) (spans_of r.parts.items) gathered g m
        (is.all m (omega arith) (covering r.slice m a b))
        (read_ascends past r.asked table read m)

    agree : (x : Row) (m : ℕ) → r.slice.start ≤ m → m < r.slice.end
        → In x (at row_cmp gathered m) ↔ In x (table_read past r.asked table read m)
    agree x m a b =
        let e = same m a b in (
          λ i. subst (λ (rows : Relation). In x rows) e i,
          λ i.
              subst (λ (rows : Relation). In x rows) (sym e) i,
        )
