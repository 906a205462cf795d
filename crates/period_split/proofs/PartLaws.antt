-- The parts of a slice, version by version, and the moments that they have.
use Rattle.std.proofs.Common.{◌≡◌, ◌<◌, ◌≤◌, ◌+◌, ℕ, zero, suc, Bool, true, false, cond, List, []}
use Rattle.std.proofs.Common.{◌∷◌, ◌++◌, map, length, get_or, refl, sym, ap, ◌∙◌, subst, inl, inr}
use Rattle.std.proofs.Common.{arith}
use Rattle.std.specs.Prelude.{◌&&◌, nat_le, nat_lt, min, max, Option, Some, None, IfSome}
use Rattle.std.specs.Option.{option_map}
use Rattle.std.specs.List.{flat_map, range_with_len}
use Rattle.std.proofs.lemmas.Bool.Decides.{nat_tests}
use Rattle.std.proofs.lemmas.List.{append-nil, length-map}
use Rattle.std.proofs.lemmas.List.Concat.{flat_map-append}
use Rattle.std.proofs.lemmas.Option.{slice_get-map, slice_get_read, slice_get_past}
use Rattle.relations_spec.specs.Sets.{In}
use Rattle.relations_spec.specs.Spans.{Span, span, forever, covers, common}
use Rattle.relations_spec.proofs.CommonMoments.{in_common, none_in_common}
use Rattle.relations_spec.proofs.SetLaws.{in_flat_map, from_flat_map}
use Rattle.smo_ops_types.specs.declared.version.Version.{Version}
use Rattle.smo_ops_types.specs.Commands.{PlainVersion, version_of}
use Rattle.smo_ops_spec.specs.InForce.{stamp_of, begins_at, in_force}
use Rattle.smo_ops_spec.specs.Past.{Past, version_at, begun_at}
use Rattle.version_groups.specs.Groups.{Kept, versions_in}
use Rattle.version_groups.specs.Representation.{Represents}
use Rattle.version_groups.proofs.OwnMoments.{own_version, own_moment}
use Rattle.period_split.specs.Splitting.{Part, as_part, part_of, parts_below, split_by, HasMoment}
use Rattle.period_split.specs.Splitting.{AscendFrom}

next_is : (k : ℕ) → k + 1 ≡ suc k
next_is k = omega arith

range_more : (a n j : ℕ) → a + n ≡ j → range_with_len a (suc n) ≡ range_with_len a n ++ j ∷ []
range_more a zero j e = let h : a ≡ j = omega (arith, e) in ap (λ x. x ∷ []) h
range_more a (suc n) j e = let h : (a + 1) + n ≡ j = omega (arith, e) in
    ap (λ (l : List ℕ). a ∷ l) (range_more (a + 1) n j h)

-- a version ends where the next begins
pub begins_next : (versions : List Version) (k : ℕ) (v : Version) → k < length versions
    → v ≡ get_or versions k v → begins_at (map version_of versions) (k + 1) ≡ v.stamp
begins_next versions k v l e = ap (begins_at (map version_of versions)) (next_is k)
    ∙ ap stamp_of (slice_get-map version_of versions k
    ∙ ap (option_map version_of) (slice_get_read versions (length versions) k v refl l e))

-- the newest has no next
pub begins_last : (versions : List PlainVersion)
    → begins_at versions (suc (length versions)) ≡ forever
begins_last versions = ap stamp_of (slice_get_past versions (length versions) (omega arith))

pub one_more : (versions : List PlainVersion) (slice : Span) (k : ℕ) (from to : ℕ)
    → from ≡ begins_at versions k → to ≡ begins_at versions (k + 1)
    → parts_below versions slice k ++ as_part k (common (span from to) slice)
    ≡ parts_below versions slice (k + 1)
one_more versions slice k from to e f =
    ap (λ n. parts_below versions slice k ++ as_part k (common (span n to) slice)) e
    ∙ ap (λ n. parts_below versions slice k ++ as_part k
    (common (span (begins_at versions k) n) slice)) (f ∙ ap (begins_at versions) (next_is k))
    ∙ sym (
    ap (flat_map (part_of versions slice)) (ap (range_with_len 0) (next_is k)
    ∙ range_more 0 k k (omega arith))
    ∙ flat_map-append (part_of versions slice) (range_with_len 0 k) (k ∷ [])
    ∙ ap (λ (ps : List Part). parts_below versions slice k ++ ps)
    (append-nil (part_of versions slice k))
    )

-- ---- the parts in turn

lasting_common : (p q r : Span) → common p q ≡ Some r → r.start < r.end
lasting_common p q r e = step (nat_lt (max p.start q.start) (min p.end q.end)) refl e
  where
    step : (b : Bool) → nat_lt (max p.start q.start) (min p.end q.end) ≡ b
        → cond b (Some (span (max p.start q.start) (min p.end q.end))) None ≡ Some r
        → r.start < r.end
    step true t k = (let same : span (max p.start q.start) (min p.end q.end) ≡ r = cc in
        subst (λ (s : Span). s.start < s.end) same (grind (arith, nat_tests)))
    step false t k = absurd (cc)

pub from_lower : (a b : ℕ) (parts : List Part) → a ≤ b → AscendFrom b parts → AscendFrom a parts
from_lower a b [] l h = tt
from_lower a b (p ∷ parts) l h = (
  let v = h.0.version in
      record { version = omega (arith, v, l); lasting = h.0.lasting },
  h.1,
)

one_first : (k : ℕ) (o : Option Span) (parts : List Part) → IfSome o (λ p. p.start < p.end)
    → AscendFrom (k + 1) parts → AscendFrom k (as_part k o ++ parts)
one_first k None parts l h = from_lower k (k + 1) parts (omega arith) h
one_first k (Some p) parts l h = (record { version = omega arith; lasting = l }, h)

module _ (versions : List PlainVersion) (slice : Span) where
  one_lasting : (k : ℕ) (o : Option Span) → common (in_force versions k) slice ≡ o
      → IfSome o (λ p. p.start < p.end)
  one_lasting k None e = tt
  one_lasting k (Some p) e = lasting_common (in_force versions k) slice p e

  in_turn : (k n : ℕ) → AscendFrom k (flat_map (part_of versions slice) (range_with_len k n))
  in_turn k zero = tt
  in_turn k (suc n) =
      one_first k (common (in_force versions k) slice)
      (flat_map (part_of versions slice) (range_with_len (k + 1) n))
      (one_lasting k (common (in_force versions k) slice) refl) (in_turn (k + 1) n)

  pub split_ascends : AscendFrom 0 (split_by versions slice)
  split_ascends = in_turn 0 (length versions + 1)

-- ---- the moments of the parts

in_range : (a n j : ℕ) → a ≤ j → j < a + n → In j (range_with_len a n)
in_range a zero j l h = absurd (omega (arith, l, h))
in_range a (suc n) j l h = step (nat_lt a j) refl
    (λ k. let g : j < (a + 1) + n = omega (arith, h) in in_range (a + 1) n j k g)
  where
    step : (b : Bool) → nat_lt a j ≡ b → (a + 1 ≤ j → In j (range_with_len (a + 1) n))
        → In j (a ∷ range_with_len (a + 1) n)
    step true e more = inr (more (grind (arith, nat_tests)))
    step false e more = inl (grind (arith, nat_tests))

from_range : (a n j : ℕ) → In j (range_with_len a n) → j < a + n
from_range a zero j i = absurd i
from_range a (suc n) j (inl e) = omega (arith, e)
from_range a (suc n) j (inr i) = let h = from_range (a + 1) n j i in omega (arith, h)

module _ (versions : List PlainVersion) (slice : Span) where
  in_part : (k m : ℕ) → covers (in_force versions k) m ≡ true → covers slice m ≡ true
      → HasMoment (part_of versions slice k) k m
  in_part k m e f = step (common (in_force versions k) slice) refl
      (in_common (in_force versions k) slice m)
    where
      both : (covers (in_force versions k) m && covers slice m) ≡ true
      both = rw (e, f) refl

      step : (o : Option Span) → common (in_force versions k) slice ≡ o
          → IfSome o (λ r. covers r m ≡ (covers (in_force versions k) m && covers slice m))
          → HasMoment (as_part k o) k m
      step None h g = absurd (let n = none_in_common (in_force versions k) slice h m in cc)
      step (Some p) h g = (p, inl refl, g ∙ both)

  from_part : (j k m : ℕ) → HasMoment (part_of versions slice j) k m → (j ≡ k)
      × ((covers (in_force versions j) m && covers slice m) ≡ true)
  from_part j k m h = step (common (in_force versions j) slice)
      (in_common (in_force versions j) slice m) h
    where
      step : (o : Option Span) → IfSome o (λ r.
          covers r m ≡ (covers (in_force versions j) m && covers slice m))
          → HasMoment (as_part j o) k m → (j ≡ k)
          × ((covers (in_force versions j) m && covers slice m) ≡ true)
      step None g h = absurd h.1
      step (Some p) g h = elim h.1 [
        | inl e ↦ (ap (λ (q : Part). q.1) e, sym g ∙ ap (λ (q : Part). covers q.0 m) e ∙ h.2)
        | inr i ↦ absurd i
      ]

  pub in_split : (k m : ℕ) → k ≤ length versions → covers (in_force versions k) m ≡ true
      → covers slice m ≡ true → HasMoment (split_by versions slice) k m
  in_split k m l e f =
      let h = in_part k m e f in (
        h.0,
        in_flat_map (part_of versions slice) k (h.0, k) (range_with_len 0 (length versions + 1))
            (in_range 0 (length versions + 1) k (omega arith) (omega (arith, l))) h.1,
        h.2,
      )

  pub from_split : (k m : ℕ) → HasMoment (split_by versions slice) k m → (k ≤ length versions)
      × ((covers (in_force versions k) m && covers slice m) ≡ true)
  from_split k m h =
      let r = from_flat_map (part_of versions slice) (h.0, k)
      (range_with_len 0 (length versions + 1)) h.1 in
      let f = from_part r.0 k m (h.0, r.2, h.2) in
      let l = from_range 0 (length versions + 1) r.0 r.1 in
      let e = f.0 in (
        omega (arith, l, e),
        subst (λ j. (covers (in_force versions j) m && covers slice m) ≡ true)
            f.0 f.1,
      )

few_begun : (m : ℕ) (versions : List PlainVersion) → length (begun_at m versions) ≤ length versions
few_begun m [] = omega arith
few_begun m (v ∷ versions) = step (nat_le v.stamp m) (few_begun m versions)
  where
    step : (b : Bool) → length (begun_at m versions) ≤ length versions
        → length (cond b (v ∷ begun_at m versions) (begun_at m versions)) ≤ suc (length versions)
    step true h = omega (arith, h)
    step false h = omega (arith, h)

covering : (p : Span) (m : ℕ) → p.start ≤ m → m < p.end → covers p m ≡ true
covering p m l h = grind (arith, nat_tests)

from_covering : (p : Span) (m : ℕ) → covers p m ≡ true → (p.start ≤ m) × (m < p.end)
from_covering p m e = (grind (arith, nat_tests), grind (arith, nat_tests))

both_hold : (a b : Bool) → (a && b) ≡ true → (a ≡ true) × (b ≡ true)
both_hold true b e = (refl, e)
both_hold false b e = absurd (cc)

module _ (kept : Kept) (past : Past) (slice : Span) (represents : Represents kept past)
    (parts : List Part) (made : parts ≡ split_by (versions_in kept) slice) where
  pub each_moment : (m : ℕ) → m < forever → covers slice m ≡ true
      → HasMoment parts (version_at past m) m
  each_moment m l e =
      let h = own_moment past represents.valid (version_at past m) m l refl in
      subst (λ (ps : List Part). HasMoment ps (version_at past m) m)
      (sym (made ∙ ap (λ (vs : List PlainVersion). split_by vs slice) represents.versions))
      (in_split past.versions slice (version_at past m) m (few_begun m past.versions)
      (covering (in_force past.versions (version_at past m)) m h.0 h.1) e)

  pub only_moments : (k m : ℕ) → HasMoment parts k m → (covers slice m ≡ true)
      × (version_at past m ≡ k)
  only_moments k m h =
      let f = from_split past.versions slice k m
      (subst (λ (ps : List Part). HasMoment ps k m)
      (made ∙ ap (λ (vs : List PlainVersion). split_by vs slice) represents.versions) h) in
      let b = both_hold (covers (in_force past.versions k) m) (covers slice m) f.1 in (
        b.1,
        own_version past represents.valid k m f.0
            (from_covering (in_force past.versions k) m b.0),
      )

-- the parts of all versions before the newest, and its own
pub whole_split : (versions : List Version) (slice : Span) (before parts : List Part) (n from : ℕ)
    → n ≡ length versions → before ≡ parts_below (map version_of versions) slice (length versions)
    → from ≡ begins_at (map version_of versions) (length versions)
    → parts ≡ before ++ as_part n (common (span from forever) slice)
    → parts ≡ split_by (map version_of versions) slice
whole_split versions slice before parts n from e b f p =
    let many : length (map version_of versions) ≡ length versions =
    length-map versions version_of in
    p
    ∙ ap (λ (ps : List Part). ps ++ as_part n (common (span from forever) slice)) b
    ∙ ap (λ k. parts_below (map version_of versions) slice (length versions)
    ++ as_part k (common (span from forever) slice)) e
    ∙ one_more (map version_of versions) slice (length versions) from forever f
    (sym (begins_last (map version_of versions))
    ∙ ap (λ k. begins_at (map version_of versions) (suc k)) many
    ∙ ap (begins_at (map version_of versions)) (sym (next_is (length versions))))
    ∙ ap (λ k. parts_below (map version_of versions) slice (k + 1)) (sym many)
