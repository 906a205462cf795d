use Rattle.history_store_row_order.specs.Logs.{cells_of}
use Rattle.history_store_value_order.proofs.Places.{in_get}
use Rattle.history_store_row_order.proofs.Splicing.{has_place}
use Rattle.history_store_row_order.proofs.index_splice.free_in.Goals as goal

pub place_in-requires-clause-known : goal.place_in-requires-clause-known
place_in-requires-clause-known c = λ id k d h b.
    c.requires.known _ (in_get c.args.index.now.ids id 0 h) k d b

pub returns-in-Ok-clause-before : goal.returns-in-Ok-clause-before
returns-in-Ok-clause-before c = absurd (c.requires.fresh (has_place (cells_of c.args.columns.now)
    c.args.index.now.ids c.args.row.now _ c.in-Ok.ensures.found.0
    c.in-Ok.ensures.found.1))

pub returns-in-Ok-clause-after : goal.returns-in-Ok-clause-after
returns-in-Ok-clause-after c = absurd (c.requires.fresh (has_place (cells_of c.args.columns.now)
    c.args.index.now.ids c.args.row.now _ c.in-Ok.ensures.found.0
    c.in-Ok.ensures.found.1))
