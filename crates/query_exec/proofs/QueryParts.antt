-- The parts of a query's slice, of which none loses a table of a query that is not refused.
use Rattle.std.proofs.Common.{◌≡◌, ℕ, List, subst}
use Rattle.std.proofs.Common.{refl}
use Rattle.std.specs.Prelude.{None}
use Rattle.std.specs.FinMap.{get}
use Rattle.relations_spec.specs.Sets.{In}
use Rattle.smo_ops_spec.specs.ValidPast.{IsPast}
use Rattle.smo_ops_spec.specs.Past.{Past, version_at}
use Rattle.smo_ops_versions_spec.specs.LostTables.{lost_tables}
use Rattle.version_groups.proofs.OwnMoments.{own_version}
use Rattle.plain_answers_spec.specs.Branches.{Item, PlainBranch}
use Rattle.temporal_lang_spec.specs.Accepted.{fault_of_query}
use Rattle.temporal_lang_types.specs.Queries.{PlainQuery, slice_of}
use Rattle.query_pieces_spec.specs.Piecewise.{asked_branches, IsAskedOf}
use Rattle.query_pieces_spec.proofs.ReadByPieces.{items_kept}
use Rattle.period_split.specs.Splitting.{Part, split_by}
use Rattle.period_split.proofs.PartLaws.{split_ascends}
use Rattle.query_exec.proofs.RouteLaws.{each_lasts, covers_start, asked_of, is_own, is_within}

module _ (past : Past) (query : PlainQuery) where
  abbrev pub asked_parts : List Part
  asked_parts = split_by past.versions (slice_of query.when)

  -- none of the tables is lost on the way from a part's version
  abbrev pub NoneLost : List Item → Type 0
  NoneLost from = (x : Item) → In x from → (p : Part) → In p asked_parts
      → get (lost_tables past.versions p.1 query.version) x.0 ≡ None

  module _ (is : IsPast past) (accepted : fault_of_query past query ≡ None) where
    part_asked : (p : Part) → In p asked_parts → IsAskedOf query p.0.start
        × (version_at past p.0.start ≡ p.1)
    part_asked p i =
        let slice = slice_of query.when in
        let up = split_ascends past.versions slice in
        let c = covers_start p.0 (each_lasts 0 asked_parts p up i) in
        let own = is_own past.versions slice asked_parts refl up p i in (
          asked_of query p.0.start
              (is_within past.versions slice asked_parts refl up p i p.0.start c),
          own_version past is p.1 p.0.start own.there (own.moments p.0.start c),
        )

    pub none_lost : (b : PlainBranch) → In b (asked_branches past query) → NoneLost b.from
    none_lost b m x k p i =
        let a = part_asked p i in
        subst (λ (v : ℕ). get (lost_tables past.versions v query.version) x.0 ≡ None) a.1
        (items_kept past query accepted p.0.start a.0 b m x k)
