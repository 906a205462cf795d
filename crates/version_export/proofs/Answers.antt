-- An answer is of the migrated databases of the slice's moments alone, whatever past they are of.
use Rattle.std.specs.Prelude.{◌≡◌, ◌↔◌, ℕ, ◌<◌, ◌≤◌, List}
use Rattle.std.proofs.Common.{sym, ap, subst, ◌∙◌}
use Rattle.relations_spec.specs.Sets.{In}
use Rattle.relations_spec.specs.Spans.{forever}
use Rattle.relations_spec.specs.Timed.{Entry}
use Rattle.relations_spec.proofs.ListingLaws.{one_listing, listing_same}
use Rattle.prima_base.specs.Order.{row_cmp}
use Rattle.prima_base.specs.OrderLaws.{row_exact}
use Rattle.prima_base.specs.Keeping.{kept}
use Rattle.schema_catalog.specs.Tables.{Tables}
use Rattle.schema_catalog.specs.Databases.{Database}
use Rattle.smo_ops_spec.specs.OneRow.{Row, Relation}
use Rattle.smo_ops_spec.specs.Past.{Past, tables_of}
use Rattle.smo_ops_spec.specs.ValidPast.{AreStates, EachStarts}
use Rattle.smo_ops_versions_spec.specs.Migration.{migrated}
use Rattle.plain_answers_spec.specs.Branches.{plain}
use Rattle.temporal_lang_types.specs.Queries.{PlainQuery, slice_of, IsLasting}
use Rattle.temporal_lang_spec.specs.Atoms.{branches_with_atoms}
use Rattle.temporal_lang_spec.specs.Answers.{asked_at, IsListingOf, listing, answer}
use Rattle.temporal_lang_spec.proofs.StageLaws.{listing_is}
use Rattle.version_export.specs.Exported.{on_version}

module _ (p r : Past) (query : PlainQuery) (version : ℕ)
    (tables : tables_of p query.version ≡ tables_of r version)
    (agree : (m : ℕ) → (slice_of query.when).start ≤ m → m < (slice_of query.when).end
    → migrated p m query.version ≡ migrated r m version) where
  -- the same is asked of each moment of the slice
  pub same_asked : (m : ℕ) → (slice_of query.when).start ≤ m → m < (slice_of query.when).end
      → asked_at p query m ≡ asked_at r (on_version version query) m
  same_asked m from to =
      ap (λ (t : Tables). plain t (branches_with_atoms t query.branches)
      (migrated p m query.version)) tables
      ∙ ap (λ (db : Database). plain (tables_of r version)
      (branches_with_atoms (tables_of r version) query.branches) db) (agree m from to)

  in_both : (x : Row) (m : ℕ) → (slice_of query.when).start ≤ m → m < (slice_of query.when).end
      → In x (asked_at p query m) ↔ In x (asked_at r (on_version version query) m)
  in_both x m from to = (
    λ h. subst (λ (rows : Relation). In x rows) (same_asked m from to) h,
    λ h. subst (λ (rows : Relation). In x rows) (sym (same_asked m from to)) h,
  )

  -- so a list of the one is a list of the other
  pub same_list : (entries : List (Entry Row)) → IsListingOf p query entries
      → IsListingOf r (on_version version query) entries
  same_list entries h = listing_same row_cmp (asked_at p query)
      (asked_at r (on_version version query)) (slice_of query.when) entries in_both h

  pub same_listing : AreStates p.states → EachStarts p.states p.versions → AreStates r.states
      → EachStarts r.states r.versions → IsLasting query.when
      → (slice_of query.when).end ≤ forever
      → listing p query ≡ listing r (on_version version query)
  same_listing a b c d lasting to =
      one_listing row_cmp row_exact (asked_at r (on_version version query)) (slice_of query.when)
      (listing p query) (listing r (on_version version query))
      (same_list (listing p query) (listing_is p query a b lasting to))
      (listing_is r (on_version version query) c d lasting to)

  pub same_answer : AreStates p.states → EachStarts p.states p.versions → AreStates r.states
      → EachStarts r.states r.versions → IsLasting query.when
      → (slice_of query.when).end ≤ forever
      → answer p query ≡ answer r (on_version version query)
  same_answer a b c d lasting to = ap (kept query.keep) (same_listing a b c d lasting to)
