use Rattle.std.proofs.Common.{◌<◌, refl, sym, subst}
use Rattle.history_store_columns.specs.Log.{Log}
use Rattle.history_store_row_order.proofs.Cells.{cells_at}
use Rattle.history_store_writes.proofs.value_index.ValueIndex.gain.Goals as goal

pub put_handed-requires-clause-known : goal.put_handed-requires-clause-known
put_handed-requires-clause-known c = λ q i.
    let ready = rw (← c.self.view_is) at c.requires.ready in
    subst (λ (r : Log). q < r.ids) (sym c.index-columns-self.is)
    (ready.known q c.index-columns-self.result i)

pub put_handed-requires-clause-rises : goal.put_handed-requires-clause-rises
put_handed-requires-clause-rises c =
    let ready = rw (← c.self.view_is) at c.requires.ready in
    rw (← cells_at c.args.columns.now c.self.inside.column c.index-columns-self.result ready.within
    c.index-columns-self.is) ready.rises

pub put_handed-requires-clause-new : goal.put_handed-requires-clause-new
put_handed-requires-clause-new c = λ q i.
    let new = rw (← c.self.view_is) at c.requires.new in
    subst (λ (r : Log). q < r.ids) (sym c.index-columns-self.is)
    (new q c.index-columns-self.result i)

pub put_handed-requires-clause-fresh : goal.put_handed-requires-clause-fresh
put_handed-requires-clause-fresh c = rw (← c.self.view_is) at c.requires.fresh

pub returns : goal.returns
returns c =
    let ready = rw (← c.self.view_is) at c.requires.ready in
    rw (← c.self.view_is) record {
      column = refl;
      with_them = rw (cells_at c.args.columns.now c.self.inside.column c.index-columns-self.result
          ready.within c.index-columns-self.is) c.put_handed.ensures;
    }
