use Rattle.std.proofs.Common.{ap}
use Rattle.relations_spec.proofs.ListingLaws.{one_listing}
use Rattle.prima_base.specs.Order.{row_cmp}
use Rattle.prima_base.specs.OrderLaws.{row_exact}
use Rattle.temporal_lang_types.specs.Queries.{slice_of}
use Rattle.prima_base.specs.Keeping.{kept}
use Rattle.temporal_lang_spec.specs.Answers.{asked_at, listing}
use Rattle.temporal_lang_spec.proofs.StageLaws.{listing_is}
use Rattle.temporal_lang_spec.proofs.laws.listing_is_the_one_list.Goals as goal

pub returns-clause-is : goal.returns-clause-is
returns-clause-is c = listing_is

pub returns-clause-one : goal.returns-clause-one
returns-clause-one c = λ past query a b p q. one_listing row_cmp row_exact (asked_at past query)
    (slice_of query.when) a b p q

pub returns-clause-answer : goal.returns-clause-answer
returns-clause-answer c = λ past query entries a b l to h.
    ap (kept query.keep) (one_listing row_cmp row_exact (asked_at past query) (slice_of query.when)
    (listing past query) entries (listing_is past query a b l to) h)
