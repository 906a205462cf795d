use Rattle.std.proofs.Common.{◌<◌, refl, sym, subst}
use Rattle.history_store_columns.specs.Log.{Log}
use Rattle.history_store_row_order.proofs.Cells.{cells_at}
use Rattle.history_store_writes.proofs.value_index.ValueIndex.lose.Goals as goal

pub take_each-requires-clause-known : goal.take_each-requires-clause-known
take_each-requires-clause-known c = λ q i.
    let ready = rw (← c.self.view_is) at c.requires.ready in
    subst (λ (r : Log). q < r.ids) (sym c.index-columns-self.is)
    (ready.known q c.index-columns-self.result i)

pub take_each-requires-clause-rises : goal.take_each-requires-clause-rises
take_each-requires-clause-rises c =
    let ready = rw (← c.self.view_is) at c.requires.ready in
    rw (← cells_at c.args.columns.now c.self.inside.column c.index-columns-self.result ready.within
    c.index-columns-self.is) ready.rises

pub take_each-requires-clause-there : goal.take_each-requires-clause-there
take_each-requires-clause-there c = rw (← c.self.view_is) at c.requires.there

pub returns : goal.returns
returns c =
    let ready = rw (← c.self.view_is) at c.requires.ready in
    rw (← c.self.view_is) record {
      column = refl;
      without = rw (cells_at c.args.columns.now c.self.inside.column c.index-columns-self.result
          ready.within c.index-columns-self.is) c.take_each.ensures.without;
      room = c.take_each.ensures.room;
    }
