use Rattle.history_store_row_order.specs.Logs.{cells_of}
use Rattle.history_store_row_order.proofs.Sides.{exact_rows}
use Rattle.history_store_value_order.proofs.Places.{in_get}
use Rattle.history_store_row_order.proofs.Splicing.{no_place}
use Rattle.history_store_row_order.proofs.index_splice.found_in.Goals as goal

pub place_in-requires-clause-known : goal.place_in-requires-clause-known
place_in-requires-clause-known c = λ id k d h b.
    c.requires.known _ (in_get c.args.index.now.ids id 0 h) k d b

pub returns-in-Ok-clause-row : goal.returns-in-Ok-clause-row
returns-in-Ok-clause-row c = exact_rows _ c.args.row.now c.in-Ok.ensures.found.1

pub returns-in-Ok-2-clause-within : goal.returns-in-Ok-2-clause-within
returns-in-Ok-2-clause-within c = absurd (no_place (cells_of c.args.columns.now)
    c.args.index.now.ids c.args.row.now _ c.requires.there c.in-Ok.ensures.before
    c.in-Ok.ensures.after)

pub returns-in-Ok-2-clause-row : goal.returns-in-Ok-2-clause-row
returns-in-Ok-2-clause-row c = absurd (no_place (cells_of c.args.columns.now)
    c.args.index.now.ids c.args.row.now _ c.requires.there c.in-Ok.ensures.before
    c.in-Ok.ensures.after)
