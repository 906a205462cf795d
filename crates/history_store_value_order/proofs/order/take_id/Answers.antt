use Rattle.history_store_value_order.proofs.Marks.{place_is, one_without}
use Rattle.history_store_value_order.proofs.order.take_id.Goals as goal

pub newest-requires : goal.newest-requires
newest-requires c = c.requires.known c.args.id c.requires.there

pub remove-requires : goal.remove-requires
remove-requires c =
    let u = rw (← c.newest.ensures.value) at c.count_under-at.ensures in
    (place_is c.args.column.now.cells c.args.index.now.ids c.args.id c.count_under-at.result
    c.requires.rises u.within u.before u.after c.requires.there).0

pub returns-clause-without : goal.returns-clause-without
returns-clause-without c =
    let u = rw (← c.newest.ensures.value) at c.count_under-at.ensures in
    rw c.remove.ensures.ids (one_without c.args.column.now.cells c.args.index.now.ids c.args.id
    c.count_under-at.result c.requires.rises u.within u.before u.after c.requires.there)
