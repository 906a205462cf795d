use Rattle.temporal_lang_types.specs.Queries.{query_of}
use Rattle.script_cli_statement.proofs.PairedQueries.{left_wrong}
use Rattle.script_cli_statement.proofs.pair_response.ask_both.Goals as goal

pub returns-in-Ok : goal.returns-in-Ok
returns-in-Ok g c = λ past represents. c.ask_right.ensures past represents
    (c.in-Ok.ensures.asked past represents)

pub returns-in-Err : goal.returns-in-Err
returns-in-Err g c = λ past represents. left_wrong past (query_of c.args.left.now)
    (query_of c.args.right.now) c.in-Err.fault (c.in-Err.ensures.asked past represents)
