use Rattle.temporal_lang_types.specs.Queries.{query_of}
use Rattle.archive_core_state.proofs.QueryFaults.{checked_over}
use Rattle.archive_core_state.proofs.asked_query.resolved_query.Goals as goal

pub returns : goal.returns
returns c = λ past h. checked_over past (query_of c.args.query.now) c.args.schema.now h
    c.check_query.result c.check_query.ensures.checked c.check_query.ensures.lasting
