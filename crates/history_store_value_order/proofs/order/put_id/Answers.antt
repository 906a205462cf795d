use Rattle.history_store_value_order.proofs.Marks.{one_with}
use Rattle.history_store_value_order.proofs.order.put_id.Goals as goal

pub returns-clause-with_it : goal.returns-clause-with_it
returns-clause-with_it c =
    let u = rw (← c.newest.ensures.value) at c.count_under-at.ensures in
    rw c.insert.ensures.ids (one_with c.args.column.now.cells c.args.index.now.ids c.args.id
    c.count_under-at.result c.requires.rises u.within u.before u.after c.requires.fresh)
