-- The loss that is found part after part is the one that the query's definition finds first.
use Rattle.std.proofs.Common.{◌≡◌, ◌+◌, ◌<◌, ◌≤◌, ℕ, zero, suc, true, List, [], ◌∷◌, ◌++◌, length}
use Rattle.std.proofs.Common.{get_or, take, take_all, refl, sym, ap, subst, ◌∙◌, inl, inr, arith}
use Rattle.std.specs.Prelude.{◌⊎◌, Option, Some, None}
use Rattle.std.specs.Option.{option_or}
use Rattle.relations_spec.specs.Sets.{In}
use Rattle.relations_spec.specs.Spans.{Span, covers, forever}
use Rattle.std.proofs.lemmas.List.{length-map}
use Rattle.smo_ops_types.specs.Commands.{PlainVersion, version_of}
use Rattle.version_groups.specs.Groups.{Kept, versions_in}
use Rattle.smo_ops_spec.specs.Losses.{Loss}
use Rattle.smo_ops_spec.specs.Past.{Past, version_at}
use Rattle.temporal_lang_types.specs.Queries.{PlainQuery, slice_of}
use Rattle.temporal_lang_spec.specs.Losing.{loss_from, first_loss_of}
use Rattle.temporal_lang_spec.proofs.FirstLaws.{no_loss}
use Rattle.query_pieces_spec.specs.Piecewise.{IsAskedOf}
use Rattle.query_pieces_spec.proofs.LeastLoss.{none_before, least_lost}
use Rattle.period_split.specs.Splitting.{Part, AscendFrom, HasMoment, split_by}
use Rattle.query_exec.specs.Losing.{first_among, AllUpTo}
use Rattle.query_exec.proofs.RouteLaws.{later_than, covers_start, asked_of, of_asked, is_own}

pub all_up_to : (n : ℕ) (parts : List Part) → ((p : Part) → In p parts → p.1 ≤ n) → AllUpTo n parts
all_up_to n [] h = tt
all_up_to n (p ∷ parts) h = (h p (inl refl), all_up_to n parts (λ q m. h q (inr m)))

pub up_to_at : (n : ℕ) (parts : List Part) (i : ℕ) (p : Part) → AllUpTo n parts → i < length parts
    → p ≡ get_or parts i p → p.1 ≤ n
up_to_at n [] i p h l e = absurd (omega arith)
up_to_at n (x ∷ parts) zero p h l e = subst (λ (q : Part). q.1 ≤ n) (sym e) h.0
up_to_at n (x ∷ parts) (suc i) p h l e = up_to_at n parts i p h.1 (omega arith) e

pub all_there : (kept : Kept) (n : ℕ) (slice : Span) (parts : List Part)
    → parts ≡ split_by (versions_in kept) slice → AscendFrom 0 parts → n ≡ length kept.versions
    → AllUpTo n parts
all_there kept n slice parts made up e =
    all_up_to n parts (λ p i. (let h = (is_own (versions_in kept) slice parts made up p i).there in
    let many = length-map kept.versions version_of in omega arith))

-- of parts that ascend the last has the greatest version
pub greatest : (low : ℕ) (parts : List Part) (i : ℕ) (last : Part) → AscendFrom low parts
    → i + 1 ≡ length parts → last ≡ get_or parts i last → (p : Part) → In p parts → p.1 ≤ last.1
greatest low [] i last h e is p m = absurd m
greatest low (x ∷ []) zero last h e is p (inl s) =
    (let k : x.1 ≡ last.1 = ap (λ (q : Part). q.1) (sym is) in let f : x.1 ≡ p.1 =
    ap (λ (q : Part). q.1) s in omega arith)
greatest low (x ∷ []) zero last h e is p (inr m) = absurd m
greatest low (x ∷ []) (suc i) last h e is p m = absurd (omega arith)
greatest low (x ∷ y ∷ parts) zero last h e is p m = absurd (omega arith)
greatest low (x ∷ y ∷ parts) (suc i) last h e is p (inl s) =
    let f : x.1 ≡ p.1 = ap (λ (q : Part). q.1) s in
    let k = greatest (x.1 + 1) (y ∷ parts) i last h.1 (omega arith) is y (inl refl) in
    let v = h.1.0.version in
    omega arith
greatest low (x ∷ y ∷ parts) (suc i) last h e is p (inr m) =
    greatest (x.1 + 1) (y ∷ parts) i last h.1 (omega arith) is p m

module _ (versions : List PlainVersion) (query : PlainQuery) where
  -- nothing is lost from any where nothing is lost from the greatest version
  pub none_among : (w : ℕ) (parts : List Part) → ((p : Part) → In p parts → p.1 ≤ w)
      → loss_from versions w query ≡ None → first_among versions query parts ≡ None
  none_among w [] h e = refl
  none_among w (p ∷ parts) h e =
      ap (λ (o : Option Loss). option_or o (first_among versions query parts))
      (none_before versions p.1 w query (h p (inl refl)) e)
      ∙ none_among w parts (λ q m. h q (inr m)) e

-- ---- the parts up to a place

pub part_in : (parts : List Part) (i : ℕ) (p : Part) → i < length parts → p ≡ get_or parts i p
    → In p parts
part_in [] i p l e = absurd (omega arith)
part_in (x ∷ parts) zero p l e = inl (sym e)
part_in (x ∷ parts) (suc i) p l e = inr (part_in parts i p (omega arith) e)

-- of parts that ascend the one at a place has the greatest version up to there
up_to : (low : ℕ) (parts : List Part) (i : ℕ) (last : Part) → AscendFrom low parts
    → i < length parts → last ≡ get_or parts i last → (p : Part) → In p (take (suc i) parts)
    → p.1 ≤ last.1
up_to low [] i last up l is p m = absurd (omega arith)
up_to low (x ∷ parts) zero last up l is p (inl s) =
    (let k : last.1 ≡ x.1 = ap (λ (q : Part). q.1) is in let f : x.1 ≡ p.1 =
    ap (λ (q : Part). q.1) s in omega arith)
up_to low (x ∷ parts) zero last up l is p (inr m) = absurd m
up_to low (x ∷ parts) (suc i) last up l is p (inl s) =
    let f : x.1 ≡ p.1 = ap (λ (q : Part). q.1) s in
    let k = later_than (x.1 + 1) parts last up.1 (part_in parts i last (omega arith) is) in
    omega arith
up_to low (x ∷ parts) (suc i) last up l is p (inr m) =
    up_to (x.1 + 1) parts i last up.1 (omega arith) is p m

-- what stands before a place, and the part at it
cut_at : (parts : List Part) (i j : ℕ) (p : Part) → i < j → j ≤ length parts → p ≡ get_or parts i p
    → (rest : List Part) × (take j parts ≡ take i parts ++ p ∷ rest)
cut_at [] i j p l k e = absurd (omega arith)
cut_at (x ∷ parts) i zero p l k e = absurd (omega arith)
cut_at (x ∷ parts) zero (suc j) p l k e = (
  take j parts,
  ap (λ (y : Part). y ∷ take j parts) (sym e),
)
cut_at (x ∷ parts) (suc i) (suc j) p l k e = (let r =
    cut_at parts i j p (omega arith) (omega arith) e in (r.0, ap (λ (ps : List Part). x ∷ ps) r.1))

module _ (versions : List PlainVersion) (query : PlainQuery) where
  among_both : (ps qs : List Part) → first_among versions query (ps ++ qs)
      ≡ option_or (first_among versions query ps) (first_among versions query qs)
  among_both [] qs = refl
  among_both (a ∷ ps) qs = ap (option_or (loss_from versions a.1 query)) (among_both ps qs)
      ∙ sym (in_turn (loss_from versions a.1 query) (first_among versions query ps)
      (first_among versions query qs))
    where
      in_turn : (a b c : Option Loss) → option_or (option_or a b) c ≡ option_or a (option_or b c)
      in_turn None b c = refl
      in_turn (Some l) b c = refl

  -- nothing is lost up to a place from whose version nothing is
  pub none_up_to : (parts : List Part) (i : ℕ) (last : Part) → AscendFrom 0 parts → i < length parts
      → last ≡ get_or parts i last → loss_from versions last.1 query ≡ None
      → first_among versions query (take (i + 1) parts) ≡ None
  none_up_to parts i last up l is e =
      ap (λ n. first_among versions query (take n parts)) (let n : i + 1 ≡ suc i = omega arith in n)
      ∙ none_among versions query last.1 (take (suc i) parts) (up_to 0 parts i last up l is) e

  -- and where something is, the first is before it or there
  pub some_up_to : (parts : List Part) (i j : ℕ) (p : Part) (l : Loss) (found : Option Loss) → i < j
      → j ≤ length parts → p ≡ get_or parts i p → loss_from versions p.1 query ≡ Some l
      → first_among versions query parts ≡ option_or (first_among versions query (take j parts))
      found
      → first_among versions query parts ≡ option_or (first_among versions query (take i parts))
      (Some l)
  some_up_to parts i j p l found a b is e h =
      let r = cut_at parts i j p a b is in
      h
      ∙ ap (λ (ps : List Part). option_or (first_among versions query ps) found) r.1
      ∙ ap (λ (o : Option Loss). option_or o found)
      (among_both (take i parts) (p ∷ r.0)
      ∙ ap (λ (o : Option Loss). option_or (first_among versions query (take i parts))
      (option_or o (first_among versions query r.0))) e)
      ∙ decided_by (first_among versions query (take i parts))
    where
      decided_by : (o : Option Loss) → option_or (option_or o (Some l)) found ≡ option_or o (Some l)
      decided_by None = refl
      decided_by (Some k) = refl

  pub all_parts : (parts : List Part) (n : ℕ) → n ≡ length parts
      → first_among versions query parts ≡ option_or (first_among versions query (take n parts))
      None
  all_parts parts n e = sym (ap (λ (ps : List Part). option_or (first_among versions query ps) None)
      (take_all n parts (omega (arith, e))) ∙ or_none (first_among versions query parts))
    where
      or_none : (o : Option Loss) → option_or o None ≡ o
      or_none None = refl
      or_none (Some k) = refl

module _ (past : Past) (query : PlainQuery) where
  -- each moment of the part is asked of, and its version is then in force
  abbrev AreAsked : List Part → Type 0
  AreAsked parts = (p : Part) → In p parts → (m : ℕ) → covers p.0 m ≡ true → IsAskedOf query m
      × (version_at past m ≡ p.1)

  -- the version in force at the moment is that of one of the parts
  abbrev IsThere : List Part → ℕ → Type 0
  IsThere parts m = (p : Part) × In p parts × (p.1 ≡ version_at past m)

  abbrev NoneElsewhere : List Part → Type 0
  NoneElsewhere parts = (m : ℕ) → IsAskedOf query m → IsThere parts m
      ⊎ (loss_from past.versions (version_at past m) query ≡ None)

  found_first : (low : ℕ) (parts : List Part) → AscendFrom low parts → AreAsked parts
      → NoneElsewhere parts → first_among past.versions query parts ≡ first_loss_of past query
  found_first low [] up asked others = sym (no_loss past query
      (λ m a b. none m (others m (record { from = a; to = b }))))
    where
      none : (m : ℕ) → IsThere [] m ⊎ (loss_from past.versions (version_at past m) query ≡ None)
          → loss_from past.versions (version_at past m) query ≡ None
      none m (inl h) = absurd h.1
      none m (inr e) = e
  found_first low (p ∷ parts) up asked others =
      step (found_first (p.1 + 1) parts up.1) (loss_from past.versions p.1 query) refl
    where
      here : IsAskedOf query p.0.start × (version_at past p.0.start ≡ p.1)
      here = asked p (inl refl) p.0.start (covers_start p.0 up.0.lasting)

      earlier : (n : ℕ) → version_at past n < version_at past p.0.start → IsThere (p ∷ parts) n
          ⊎ (loss_from past.versions (version_at past n) query ≡ None)
          → loss_from past.versions (version_at past n) query ≡ None
      earlier n l (inr e) = e
      earlier n l (inl h) = absurd (at_least h.1)
        where
          at_least : In h.0 (p ∷ parts) → ⊥
          at_least (inl s) = (let a : p.1 ≡ h.0.1 = ap (λ (q : Part). q.1) s in let b = h.2 in
              let d = here.1 in omega arith)
          at_least (inr i) = (let a = later_than (p.1 + 1) parts h.0 up.1 i in let b = h.2 in
              let d = here.1 in omega arith)

      rest : loss_from past.versions p.1 query ≡ None → (m : ℕ) → IsThere (p ∷ parts) m
          ⊎ (loss_from past.versions (version_at past m) query ≡ None)
          → IsThere parts m ⊎ (loss_from past.versions (version_at past m) query ≡ None)
      rest e m (inr f) = inr f
      rest e m (inl h) = from h.1
        where
          from : In h.0 (p ∷ parts) → IsThere parts m
              ⊎ (loss_from past.versions (version_at past m) query ≡ None)
          from (inl s) = inr (ap (λ (v : ℕ). loss_from past.versions v query)
              (sym h.2 ∙ sym (ap (λ (q : Part). q.1) s)) ∙ e)
          from (inr i) = inl (h.0, i, h.2)

      step : (AreAsked parts → NoneElsewhere parts
          → first_among past.versions query parts ≡ first_loss_of past query) → (o : Option Loss)
          → loss_from past.versions p.1 query ≡ o
          → first_among past.versions query (p ∷ parts) ≡ first_loss_of past query
      step more (Some l) e =
          ap (λ (o : Option Loss). option_or o (first_among past.versions query parts)) e
          ∙ sym (least_lost past query p.0.start l here.0
          (ap (λ (v : ℕ). loss_from past.versions v query) here.1 ∙ e)
          (λ n k less. earlier n less (others n k)))
      step more None e =
          ap (λ (o : Option Loss). option_or o (first_among past.versions query parts)) e
          ∙ more (λ q i. asked q (inr i)) (λ m k. rest e m (others m k))

  -- the parts of the query's slice
  pub first_of_parts : (parts : List Part) → AscendFrom 0 parts
      → (slice_of query.when).end ≤ forever
      → ((m : ℕ) → m < forever → covers (slice_of query.when) m ≡ true
      → HasMoment parts (version_at past m) m)
      → ((k m : ℕ) → HasMoment parts k m → (covers (slice_of query.when) m ≡ true)
      × (version_at past m ≡ k)) → first_among past.versions query parts ≡ first_loss_of past query
  first_of_parts parts up ends each only = found_first 0 parts up in_slice there
    where
      in_slice : AreAsked parts
      in_slice p i m c = (let h = only p.1 m (p.0, i, c) in (asked_of query m h.0, h.1))

      there : NoneElsewhere parts
      there m k =
          let b = k.to in
          let h = each m (omega arith) (of_asked query m k) in
          inl ((h.0, version_at past m), h.1, refl)
