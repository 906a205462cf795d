use Rattle.std.proofs.Common.{◌∙◌, map, sym, ap}
use Rattle.std.specs.Option.{option_copied}
use Rattle.version_groups_tables.specs.Ending.{table_after}
use Rattle.version_groups_tables.specs.NewestTables.{is_name}
use Rattle.version_groups_tables.proofs.LifelinesEnded.{none_end, none_ends, found_ends}
use Rattle.version_groups_tables.proofs.ended_lifeline.end_named.Goals as goal

pub returns-in_default : goal.returns-in_default
returns-in_default c =
    sym (ap (λ o. map (table_after (is_name (option_copied o)) c.args.last) c.args.tables.now)
    c.in_default.is ∙ none_end c.args.last c.args.tables.now)

pub returns-in-None : goal.returns-in-None
returns-in-None c =
    let k = c.args.last in
    let tables = c.args.tables.now in
    none_ends k tables c.args.places.now c.in-Some.name.now c.requires.ending c.in-None.ensures
    ∙ ap (λ o. map (table_after (is_name (option_copied o)) k) tables) (sym c.in-Some.is)

pub returns : goal.returns
returns c =
    found_ends c.args.last c.args.tables.now c.args.places.now c.in-Some.name.now c.requires.ending
    c.requires.there c.requires.ordered c.in-Some-find_table.place
    c.in-Some-find_table.field-0-1.now
    c.index-tables-place.result c.in-Some-find_table.ensures
    ∙ ap (λ o. map (table_after (is_name (option_copied o)) c.args.last) c.args.tables.now)
    (sym c.in-Some.is)
