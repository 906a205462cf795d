-- What is read by pieces at each moment of the slice, listed, is the answer.
use Rattle.std.proofs.Common.{◌≡◌, ◌<◌, ◌≤◌, ℕ, List, [], ◌∷◌, ◌++◌, map, sym, ap, subst, ◌∙◌}
use Rattle.std.proofs.Common.{arith}
use Rattle.std.specs.Prelude.{◌↔◌, None, nat_lt}
use Rattle.std.specs.FinMap.{get}
use Rattle.std.proofs.lemmas.Bool.Decides.{nat_tests}
use Rattle.relations_spec.specs.Sets.{In}
use Rattle.relations_spec.specs.Spans.{forever}
use Rattle.relations_spec.specs.Timed.{Entry}
use Rattle.relations_spec.specs.Listing.{IsListing}
use Rattle.relations_spec.proofs.ListingLaws.{listing_same, one_listing}
use Rattle.prima_base.specs.Order.{row_cmp}
use Rattle.prima_base.specs.OrderLaws.{row_exact}
use Rattle.prima_base.specs.Keeping.{kept}
use Rattle.prima_base.specs.declared.refusal.Refusal.TheVariants.{EmptyPeriod}
use Rattle.schema_catalog.specs.Tables.{Tables}
use Rattle.smo_ops_spec.specs.First.{first_refusal}
use Rattle.smo_ops_spec.specs.Past.{Past, tables_of, version_at}
use Rattle.smo_ops_spec.specs.ValidPast.{IsPast}
use Rattle.smo_ops_spec.specs.ValidValues.{PastHolds}
use Rattle.smo_ops_spec.specs.OneRow.{Row, Relation}
use Rattle.smo_ops_spec.proofs.Firsts.{none_of_first, none_of_both, none_mapped, met}
use Rattle.smo_ops_versions_spec.specs.LostTables.{lost_tables}
use Rattle.smo_ops_versions_spec.specs.LostNames.{lost_names}
use Rattle.smo_ops_versions_spec.proofs.MappedTables.{not_mapped}
use Rattle.plain_answers_spec.specs.Branches.{Item, PlainBranch}
use Rattle.plain_answers_spec.specs.Pushing.{pushed_reads}
use Rattle.plain_answers_spec.specs.Reading.{needed_reads}
use Rattle.piece_ir_spec.specs.Rules.{Book, IsValidBook}
use Rattle.piece_ir_spec.specs.Reading.{Suffices}
use Rattle.piece_ir_spec.proofs.ReadMoments.{moment_read}
use Rattle.temporal_lang_types.specs.declared.when.When.{When}
use Rattle.temporal_lang_types.specs.declared.when.When.TheVariants.{Always, AsOf, During}
use Rattle.temporal_lang_types.specs.Queries.{PlainQuery, slice_of, IsLasting}
use Rattle.temporal_lang_spec.specs.Atoms.{branches_with_atoms}
use Rattle.temporal_lang_spec.specs.Losing.{first_lost, query_asked}
use Rattle.temporal_lang_spec.specs.Checking.{excess_of, excess_fault, query_tests, names_tests}
use Rattle.temporal_lang_spec.specs.Checking.{types_from, arities, output_kinds, typing_tests}
use Rattle.temporal_lang_spec.specs.Checking.{period_tests, when_fault, keep_fault}
use Rattle.temporal_lang_spec.specs.Accepted.{no_way_back, loss_fault, version_fault}
use Rattle.temporal_lang_spec.specs.Accepted.{fault_of_query}
use Rattle.temporal_lang_spec.specs.Answers.{asked_at, listing, answer}
use Rattle.temporal_lang_spec.proofs.ItemsLost.{tables_there}
use Rattle.temporal_lang_spec.proofs.StageLaws.{listing_is}
use Rattle.query_pieces_spec.specs.Piecewise.{asked_branches, pieces_at, pushed_at, IsAskedOf}
use Rattle.query_pieces_spec.specs.Piecewise.{IsReadByPieces}
use Rattle.query_pieces_spec.proofs.LeastLoss.{kept_at}
use Rattle.query_pieces_spec.proofs.AskedQuestions.{suffices}
use Rattle.query_pieces_spec.proofs.PushedQuestions.{pushed_suffices}

-- a slice that is not refused has moments
lasting : (when : When) → when_fault when ≡ None → IsLasting when
lasting Always e = omega arith
lasting (AsOf m) e = omega arith
lasting (During a b) e = (let l = met (nat_lt a b) (EmptyPeriod a b) e in grind (arith, nat_tests))

module _ (past : Past) (query : PlainQuery) (accepted : fault_of_query past query ≡ None) where
  abbrev tables : Tables
  tables = tables_of past query.version

  after_version : first_refusal (query_tests tables query
      ++ loss_fault past.versions (first_lost past query) ∷ []) ≡ None
  after_version =
      (none_of_first (version_fault past query.version)
      (query_tests tables query ++ loss_fault past.versions (first_lost past query) ∷ [])
      (none_of_first (excess_fault (excess_of query))
      (version_fault past query.version ∷ (query_tests tables query
      ++ loss_fault past.versions (first_lost past query) ∷ [])) accepted).1).1

  tests_met : first_refusal (query_tests tables query) ≡ None
  tests_met = (none_of_both (query_tests tables query)
      (loss_fault past.versions (first_lost past query) ∷ []) after_version).0

  after_names : first_refusal (typing_tests tables (branches_with_atoms tables query.branches)
      ++ period_tests query.when query.keep) ≡ None
  after_names =
      (none_of_both (names_tests tables query.branches)
      (typing_tests tables (branches_with_atoms tables query.branches)
      ++ period_tests query.when query.keep) tests_met).1

  pub is_lasting : IsLasting query.when
  is_lasting =
      lasting query.when (none_of_first (when_fault query.when) (map keep_fault query.keep)
      (none_of_both (typing_tests tables (branches_with_atoms tables query.branches))
      (period_tests query.when query.keep) after_names).1).0

  pub not_lost : first_lost past query ≡ None
  not_lost =
      none_mapped (no_way_back past.versions) (first_lost past query)
      (none_of_first (loss_fault past.versions (first_lost past query)) []
      (none_of_both (query_tests tables query)
      (loss_fault past.versions (first_lost past query) ∷ []) after_version).1).0

  pub enough_asked : (b : PlainBranch) → In b (asked_branches past query)
      → Suffices tables (needed_reads b) b
  enough_asked =
      suffices tables query.branches
      (none_of_both (names_tests tables query.branches)
      (typing_tests tables (branches_with_atoms tables query.branches)
      ++ period_tests query.when query.keep) tests_met).0

  -- and so it does of the rows alone that meet the pushed conditions
  pub pushed_enough : (b : PlainBranch) → In b (asked_branches past query)
      → Suffices tables (pushed_reads b) b
  pushed_enough =
      pushed_suffices tables query.branches
      (none_of_both (names_tests tables query.branches)
      (typing_tests tables (branches_with_atoms tables query.branches)
      ++ period_tests query.when query.keep) tests_met).0
      (none_of_both (types_from tables 0 (branches_with_atoms tables query.branches))
      (arities (map (output_kinds tables) (branches_with_atoms tables query.branches)))
      (none_of_both (typing_tests tables (branches_with_atoms tables query.branches))
      (period_tests query.when query.keep) after_names).0).0

  -- no table of an item is lost on the way from a version in force in the slice
  pub items_kept : (m : ℕ) → IsAskedOf query m → (b : PlainBranch)
      → In b (asked_branches past query) → (i : Item) → In i b.from
      → get (lost_tables past.versions (version_at past m) query.version) i.0 ≡ None
  items_kept m asked b k i j =
      not_mapped past.versions (version_at past m) query.version i.0
      (tables_there (lost_names past.versions (version_at past m) query.version)
      (asked_branches past query) (kept_at past (query_asked past query) not_lost m
      (record { from = asked.from; to = asked.to })) b k i j)

  module _ (book : Book) (valid : IsValidBook book) (is : IsPast past)
      (holds : PastHolds past) where
    pub asked_is : (m : ℕ) → IsAskedOf query m → asked_at past query m ≡ pieces_at book past query m
    asked_is m asked =
        moment_read book valid past is holds.databases holds.versions m query.version needed_reads
        (asked_branches past query) enough_asked
        (items_kept m asked)

    pub pushed_is : (m : ℕ) → IsAskedOf query m
        → asked_at past query m ≡ pushed_at book past query m
    pushed_is m asked =
        moment_read book valid past is holds.databases holds.versions m query.version pushed_reads
        (asked_branches past query) pushed_enough
        (items_kept m asked)

    pub answer_is : (slice_of query.when).end ≤ forever → (relation : ℕ → Relation)
        → IsReadByPieces book past query relation → (entries : List (Entry Row))
        → IsListing row_cmp relation (slice_of query.when) entries
        → kept query.keep entries ≡ answer past query
    answer_is ends relation read entries h =
        ap (kept query.keep)
        (one_listing row_cmp row_exact (asked_at past query) (slice_of query.when) entries
        (listing past query)
        (listing_same row_cmp relation (asked_at past query) (slice_of query.when) entries agree h)
        (listing_is past query is.states is.begun is_lasting ends))
      where
        same_then : (m : ℕ) → IsAskedOf query m → relation m ≡ asked_at past query m
        same_then m asked = read m asked ∙ sym (asked_is m asked)

        agree : (x : Row) (m : ℕ) → (slice_of query.when).start ≤ m → m < (slice_of query.when).end
            → In x (relation m) ↔ In x (asked_at past query m)
        agree x m a b =
            let same : relation m ≡ asked_at past query m =
            same_then m (record { from = a; to = b }) in (
              λ i. subst (λ (r : Relation). In x r) same i,
              λ i.
                  subst (λ (r : Relation). In x r) (sym same) i,
            )
