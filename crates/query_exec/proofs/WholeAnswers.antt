-- A query that is not refused, over the whole slice: its tables may be read, and what is listed is
-- its answer.
use Rattle.std.proofs.Common.{◌≡◌, ◌+◌, ◌<◌, ◌≤◌, ℕ, true, List, [], ◌∷◌, ◌++◌, length, refl, sym}
use Rattle.std.proofs.Common.{ap, subst, ◌∙◌, inl, inr, arith}
use Rattle.std.specs.Prelude.{None, ◌↔◌}
use Rattle.std.specs.FinMap.{get}
use Rattle.std.proofs.lemmas.List.{length-map}
use Rattle.relations_spec.specs.Sets.{In}
use Rattle.relations_spec.specs.Spans.{Span, covers, forever}
use Rattle.relations_spec.specs.Timed.{Entry}
use Rattle.relations_spec.specs.Listing.{IsListing}
use Rattle.relations_spec.proofs.ListingLaws.{listing_same}
use Rattle.prima_base.specs.Order.{row_cmp}
use Rattle.prima_base.specs.Keeping.{kept}
use Rattle.prima_base.specs.declared.refusal.Refusal.TheVariants.{TooMany}
use Rattle.prima_base.specs.declared.refusal.What.{What}
use Rattle.cond_expr.specs.Trees.{Tree, Test}
use Rattle.smo_ops_types.specs.Commands.{PlainVersion}
use Rattle.smo_ops_spec.specs.ValidPast.{IsPast}
use Rattle.smo_ops_spec.specs.OneRow.{Row, Relation}
use Rattle.smo_ops_spec.specs.Past.{Past, tables_of, version_at}
use Rattle.smo_ops_spec.proofs.Firsts.{none_of_first, none_mapped}
use Rattle.smo_ops_versions_spec.specs.LostTables.{lost_tables}
use Rattle.smo_ops_versions_spec.specs.Migration.{migrated}
use Rattle.version_groups.specs.Groups.{Kept, versions_in}
use Rattle.version_groups.specs.Representation.{Represents}
use Rattle.version_groups.proofs.OwnMoments.{own_version}
use Rattle.plain_answers_spec.specs.Branches.{Item, PlainBranch, plain}
use Rattle.plain_answers_spec.specs.Naming.{all_references}
use Rattle.plain_answers_spec.specs.Pushing.{pushed_from, pushed_reads}
use Rattle.piece_ir_spec.specs.Rules.{Book, IsValidBook}
use Rattle.piece_ir_spec.specs.Reading.{AreQuestions, Suffices}
use Rattle.temporal_lang_types.specs.Branches.{branch_of, branches_of}
use Rattle.temporal_lang_types.specs.declared.branch.Branch.{Branch}
use Rattle.temporal_lang_types.specs.Queries.{PlainQuery, slice_of, IsLasting}
use Rattle.temporal_lang_spec.specs.Atoms.{branch_with_atoms, branches_with_atoms}
use Rattle.temporal_lang_spec.specs.Losing.{first_lost}
use Rattle.temporal_lang_spec.specs.Checking.{excess_of, excess_fault, query_tests}
use Rattle.temporal_lang_spec.specs.Accepted.{version_fault, loss_fault}
use Rattle.temporal_lang_spec.specs.Resolved.{HaveFew, AllSmall}
use Rattle.temporal_lang_spec.proofs.BranchLaws.{query_small, still_few}
use Rattle.temporal_lang_spec.specs.Answers.{asked_at, answer}
use Rattle.query_pieces_spec.specs.Piecewise.{asked_branches, IsAskedOf}
use Rattle.query_pieces_spec.proofs.ReadByPieces.{is_lasting, pushed_enough, items_kept, asked_is}
use Rattle.query_pieces_spec.proofs.ReadByPieces.{answer_is}
use Rattle.period_split.specs.Splitting.{Part, split_by}
use Rattle.query_exec.specs.declared.route.Route.{Route}
use Rattle.query_exec.specs.Accepted.{IsQueryAccepted, MayItems, MayBranches}
use Rattle.query_exec.specs.QueryPieces.{branches_pieces, all_pieces}
use Rattle.query_exec.specs.Routes.{IsRoute}
use Rattle.query_exec.proofs.RouteLaws.{each_lasts, covers_start, asked_of, of_asked}

module _ (versions : List PlainVersion) (route : Route) where
  -- none of the tables is lost on the way from a part's version
  abbrev NoneLost : List Item → Type 0
  NoneLost from = (x : Item) → In x from → (p : Part) → In p route.later.items
      → get (lost_tables versions p.1 route.asked) x.0 ≡ None

module _ (past : Past) (is : IsPast past) (route : Route) where
  may_items : (outs : List Tree) (c : Test) (i : ℕ) (from : List Item)
      → AreQuestions (tables_of past route.asked) from (pushed_from i from outs c)
      → NoneLost past.versions route from
      → MayItems past.versions route (all_references outs c) c i from
  may_items outs c i [] asked none = tt
  may_items outs c i (x ∷ from) asked none = (
    record {
      question = record { valid = is.evolved; question = asked.0 };
      kept =
          none x (inl refl);
    },
    may_items outs c (i + 1) from asked.1 (λ y m. none y (inr m)),
  )

  may_branches : (bs : List PlainBranch) → HaveFew bs → ((b : PlainBranch) → In b bs
      → Suffices (tables_of past route.asked) (pushed_reads b) b)
      → ((b : PlainBranch) → In b bs → NoneLost past.versions route b.from)
      → MayBranches past.versions route bs
  may_branches [] few s none = tt
  may_branches (b ∷ bs) few s none = (
    record {
      items = may_items b.outs b.cond 0 b.from (s b (inl refl)).asked (none b (inl refl));
      few = few.0;
    },
    may_branches bs few.1 (λ c m. s c (inr m)) (λ c m. none c (inr m)),
  )

module _ (kept_ : Kept) (past : Past) (asked query : PlainQuery)
    (represents : Represents kept_ past)
    (h : IsQueryAccepted past asked query) where
  same_version : query.version ≡ asked.version
  same_version = ap (λ (q : PlainQuery). q.version) h.atoms

  same_when : query.when ≡ asked.when
  same_when = ap (λ (q : PlainQuery). q.when) h.atoms

  same_branches : query.branches ≡ branches_with_atoms (tables_of past asked.version) asked.branches
  same_branches = ap (λ (q : PlainQuery). q.branches) h.atoms

  small : (length asked.branches ≤ 16) × HaveFew asked.branches × AllSmall asked.branches
  small =
      query_small asked (none_mapped (λ (e : What × ℕ). TooMany e.0 e.1) (excess_of asked)
      (none_of_first (excess_fault (excess_of asked)) (version_fault past asked.version
      ∷ (query_tests (tables_of past asked.version) asked
      ++ loss_fault past.versions (first_lost past asked) ∷ [])) h.accepted).0)

  -- there are no more branches than a query may have
  pub few_branches : (bs : List Branch) → branches_of bs ≡ query.branches → length bs ≤ 16
  few_branches bs e =
      let shown : length (branches_of bs) ≡ length bs = length-map bs branch_of in
      let filled : length (branches_with_atoms (tables_of past asked.version) asked.branches)
      ≡ length asked.branches = length-map asked.branches
      (branch_with_atoms (tables_of past asked.version)) in
      let same = ap (λ (xs : List PlainBranch). length xs) (e ∙ same_branches) in
      let few = small.0 in omega (arith, shown, filled, same, few)

  pub lasts : IsLasting query.when
  lasts = subst (λ w. IsLasting w) (sym same_when) (is_lasting past asked h.accepted)

  module _ (route : Route) (r : IsRoute (versions_in kept_) route)
      (at : route.asked ≡ query.version) (over : route.slice ≡ slice_of query.when) where
    here : IsRoute past.versions route
    here = subst (λ (vs : List PlainVersion). IsRoute vs route) represents.versions r

    part_asked : (p : Part) → In p route.later.items → IsAskedOf asked p.0.start
        × (version_at past p.0.start ≡ p.1)
    part_asked p i =
        let c = covers_start p.0 (each_lasts (route.asked + 1) route.later.items p here.on i) in
        let own = here.later p i in (
          asked_of asked p.0.start (subst (λ (s : Span). covers s p.0.start ≡ true)
              (over ∙ ap slice_of same_when) (here.within p i p.0.start c)),
          own_version past represents.valid p.1 p.0.start own.there (own.moments p.0.start c),
        )

    none_lost : (b : PlainBranch) → In b (asked_branches past asked)
        → NoneLost past.versions route b.from
    none_lost b m x k p i =
        let a = part_asked p i in
        subst (λ (q : ℕ). get (lost_tables past.versions p.1 q) x.0 ≡ None)
        (sym (at ∙ same_version))
        (subst (λ (v : ℕ). get (lost_tables past.versions v asked.version) x.0 ≡ None) a.1
        (items_kept past asked h.accepted p.0.start a.0 b m x k))

    may_asked : MayBranches past.versions route (asked_branches past asked)
    may_asked =
        may_branches past represents.valid route (asked_branches past asked)
        (still_few (tables_of past asked.version) asked.branches small.1)
        (λ b m. subst (λ (q : ℕ). Suffices (tables_of past q) (pushed_reads b) b)
        (sym (at ∙ same_version)) (pushed_enough past asked h.accepted b m)) none_lost

    -- the tables of its branches' items may be read
    pub may_all : MayBranches (versions_in kept_) route query.branches
    may_all =
        subst (λ (bs : List PlainBranch). MayBranches (versions_in kept_) route bs)
        (sym same_branches)
        (subst (λ (vs : List PlainVersion). MayBranches vs route (asked_branches past asked))
        (sym represents.versions) may_asked)

    module _ (relation : ℕ → Relation) (rows : (m : ℕ) → covers route.slice m ≡ true
        → relation m ≡ plain (tables_of past route.asked) query.branches
        (migrated past m route.asked)) where
      read : (m : ℕ) → IsAskedOf asked m → relation m ≡ asked_at past asked m
      read m k =
          rows m (subst (λ (s : Span). covers s m ≡ true) (sym (over ∙ ap slice_of same_when))
          (of_asked asked m k))
          ∙ ap (λ (q : ℕ). plain (tables_of past q) query.branches (migrated past m q))
          (at ∙ same_version)
          ∙ ap (λ (bs : List PlainBranch). plain (tables_of past asked.version) bs
          (migrated past m asked.version)) same_branches

      agree : (x : Row) (m : ℕ) → (slice_of asked.when).start ≤ m → m < (slice_of asked.when).end
          → In x (relation m) ↔ In x (asked_at past asked m)
      agree x m a b =
          let same : relation m ≡ asked_at past asked m = read m (record { from = a; to = b }) in (
            λ i. subst (λ (r : Relation). In x r) same i,
            λ i.
                subst (λ (r : Relation). In x r) (sym same) i,
          )

      -- and what is listed of its branches' answers is the listing of what it asks of each moment
      pub whole_listing : (entries : List (Entry Row))
          → IsListing row_cmp relation (slice_of query.when) entries
          → IsListing row_cmp (asked_at past asked) (slice_of asked.when) entries
      whole_listing entries listed =
          listing_same row_cmp relation (asked_at past asked) (slice_of asked.when) entries agree
          (subst (λ w. IsListing row_cmp relation (slice_of w) entries) same_when listed)

      -- of which its answer is what KEEP keeps
      pub whole_answer : (book : Book) → IsValidBook book → (slice_of query.when).end ≤ forever
          → (entries : List (Entry Row)) → IsListing row_cmp relation (slice_of query.when) entries
          → kept asked.keep entries ≡ answer past asked
      whole_answer book valid ends entries listed =
          answer_is past asked h.accepted book valid represents.valid represents.values
          (subst (λ w. (slice_of w).end ≤ forever) same_when ends) relation
          (λ m k. read m k ∙ asked_is past asked h.accepted book valid represents.valid
          represents.values m k)
          entries
          (subst (λ w. IsListing row_cmp relation (slice_of w) entries) same_when listed)

-- the pieces of a query are those of its branches over the parts of its slice
pub pieces_here : (book : Book) (versions : List PlainVersion) (query : PlainQuery) (q : ℕ)
    (parts : List Part) (slice : Span) (bs : List PlainBranch) → q ≡ query.version
    → parts ≡ split_by versions slice → slice ≡ slice_of query.when → bs ≡ query.branches
    → branches_pieces book versions q parts 1 bs ≡ all_pieces book versions query
pieces_here book versions query q parts slice bs e f h k =
    ap (λ (v : ℕ). branches_pieces book versions v parts 1 bs) e
    ∙ ap (λ (ps : List Part). branches_pieces book versions query.version ps 1 bs)
    (f ∙ ap (split_by versions) h)
    ∙ ap (λ (xs : List PlainBranch). branches_pieces book versions query.version
    (split_by versions (slice_of query.when)) 1 xs) k
