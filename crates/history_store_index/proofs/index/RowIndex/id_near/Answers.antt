use Rattle.history_store_index.proofs.Blocking.{id_in}
use Rattle.history_store_index.proofs.index.RowIndex.id_near.Goals as goal

pub returns : goal.returns
returns c =
    let p = rw c.deref.ensures.value at c.place_at-block.ensures in
    let l = rw (← c.self.view_is) at c.requires in
    rw (← c.self.view_is) (id_in c.self.inside.blocks.items c.place_at-block.result.0
    c.place_at-block.result.1 c.args.at c.id.result c.index.result.now p.block p.place
    (p.within l) c.index.ensures c.id.ensures)
