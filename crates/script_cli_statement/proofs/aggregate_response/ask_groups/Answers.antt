use Rattle.std.proofs.Common.{◌≤◌, sym, subst}
use Rattle.temporal_lang_types.specs.Queries.{query_of, slice_of}
use Rattle.relations_spec.specs.Spans.{forever}
use Rattle.version_groups.specs.Groups.{Kept}
use Rattle.version_groups.specs.Representation.{Represents}
use Rattle.script_cli_statement.proofs.PairedQueries.{checks_wrong, asked_whole, lists_kept}
use Rattle.script_cli_statement.proofs.aggregate_response.ask_groups.Goals as goal

pub returns-in-Ok-clause-asked : goal.returns-in-Ok-clause-asked
returns-in-Ok-clause-asked g c = λ past represents.
    let shown : Represents c.groups.result.now past =
    subst (λ (k : Kept). Represents k past) (sym c.groups.ensures.groups) represents.groups in
    asked_whole past (query_of c.args.query.now) c.args.items.now c.args.group c.ask_counted.result
    (c.in-Ok.ensures.tested past shown) (c.ask_counted.ensures.asked past represents)

pub returns-in-Err-clause-asked : goal.returns-in-Err-clause-asked
returns-in-Err-clause-asked g c = λ past represents.
    let shown : Represents c.groups.result.now past =
    subst (λ (k : Kept). Represents k past) (sym c.groups.ensures.groups) represents.groups in
    checks_wrong past (query_of c.args.query.now) c.args.items.now c.args.group c.in-Err.fault
    (c.in-Err.ensures.tested past shown)

pub returns-in-Ok-clause-lists : goal.returns-in-Ok-clause-lists
returns-in-Ok-clause-lists g c =
    let past = c.ask_counted.ensures.represents in
    lists_kept past.0 (query_of c.args.query.now)
    (subst (λ w. (slice_of w).end ≤ forever) c.in-Ok.ensures.when c.slice_end-end.ensures)
    c.ask_counted.result (c.ask_counted.ensures.listed past.0 past.1)
