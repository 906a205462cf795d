use Rattle.temporal_lang_types.specs.Queries.{query_of}
use Rattle.script_cli_statement.proofs.PairedQueries.{right_wrong, both_listed}
use Rattle.script_cli_statement.proofs.pair_response.ask_right.Goals as goal

pub returns-in-Ok : goal.returns-in-Ok
returns-in-Ok g c = λ past represents h. both_listed past (query_of c.args.left.now)
    (query_of c.args.right.now) c.args.first c.in-Ok.second h
    (c.in-Ok.ensures.asked past represents)

pub returns : goal.returns
returns g c = λ past represents h. right_wrong past (query_of c.args.left.now)
    (query_of c.args.right.now) c.count_nodes.result c.in-Err.fault c.fault_behind.result
    c.count_nodes.ensures h.accepted c.fault_behind.ensures
    (c.in-Err.ensures.asked past represents)
