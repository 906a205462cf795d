use Rattle.std.proofs.Common.{ap}
use Rattle.temporal_lang_types.specs.Queries.{query_of}
use Rattle.temporal_lang_types.specs.declared.query.Query.{Query}
use Rattle.script_cli_statement.proofs.PairedQueries.{checks_tested, unnamed_tested}
use Rattle.script_cli_statement.proofs.aggregate_response.check_groups.Goals as goal

pub returns-in-Ok-clause-tested : goal.returns-in-Ok-clause-tested
returns-in-Ok-clause-tested c = λ past represents. checks_tested past (query_of c.args.query.now)
    c.args.items.now c.args.group _ c.in-Ok.schema.now (c.in-Ok.ensures past represents)
    c.check_aggregate.result c.check_aggregate.ensures.checked

pub returns-in-Err-clause-tested : goal.returns-in-Err-clause-tested
returns-in-Err-clause-tested c = λ past represents. unnamed_tested past (query_of c.args.query.now)
    c.args.items.now c.args.group Query c.in-Err.fault (c.in-Err.ensures past represents)
