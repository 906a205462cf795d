use Rattle.history_store_row_order.specs.Logs.{cells_of}
use Rattle.history_store_row_order.proofs.Splicing.{taken_none}
use Rattle.history_store_row_order.proofs.index_splice.splice_fresh.Goals as goal

pub returns-then-len-le-FEW_CHANGED_ROWS-clause-spliced :
    goal.returns-then-len-le-FEW_CHANGED_ROWS-clause-spliced
returns-then-len-le-FEW_CHANGED_ROWS-clause-spliced c =
    rw c.new.ensures.items (record {
      kept = c.args.live.now.ids;
      split =
          taken_none (cells_of c.args.columns.now) c.args.live.now.ids c.requires.live_rise;
      joined =
          c.in_ok-gained.ensures.joined;
    })

pub returns-clause-spliced : goal.returns-clause-spliced
returns-clause-spliced c =
    rw (c.in_ok-index.ensures, c.deref.ensures.value)
    (record {
      kept = c.args.live.now.ids;
      split =
          taken_none (cells_of c.args.columns.now) c.args.live.now.ids c.requires.live_rise;
      joined =
          c.in_ok-gained.ensures.joined;
    })
