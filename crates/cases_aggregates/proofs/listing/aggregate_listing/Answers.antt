use Rattle.prima_base.specs.Timed.{entries_of, rows_at}
use Rattle.time_aggregate.proofs.GroupLaws.{listing_itself}
use Rattle.cases_aggregates.proofs.listing.aggregate_listing.Goals as goal

pub aggregate-requires : goal.aggregate-requires
aggregate-requires c = listing_itself (rows_at c.args.rows.now.items) c.args.slice
    (entries_of c.coalesce_in_place.new.rows.items) c.ends_in_time.ensures
    c.coalesce_in_place.ensures.listing
