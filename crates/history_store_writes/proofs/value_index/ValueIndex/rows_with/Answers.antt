use Rattle.std.proofs.Common.{◌<◌, ℕ, sym, ap, subst}
use Rattle.relations_spec.specs.Sets.{In}
use Rattle.history_store_columns.specs.Log.{Log}
use Rattle.history_store_row_order.specs.Logs.{cells_of}
use Rattle.history_store_row_order.specs.Rows.{rows_of}
use Rattle.history_store_row_order.proofs.Cells.{cells_at}
use Rattle.history_store_value_order.proofs.Marks.{ids_found}
use Rattle.history_store_writes.proofs.value_index.ValueIndex.rows_with.Goals as goal

pub count_under-end-requires-clause-known : goal.count_under-end-requires-clause-known
count_under-end-requires-clause-known c = λ q i.
    let ready = rw (← c.self.view_is) at c.requires.ready in
    subst (λ (r : Log). q < r.ids) (sym c.index-columns-self.is)
    (ready.known q c.index-columns-self.result i)

pub count_under-end-requires-clause-rises : goal.count_under-end-requires-clause-rises
count_under-end-requires-clause-rises c =
    let ready = rw (← c.self.view_is) at c.requires.ready in
    rw (← cells_at c.args.columns.now c.self.inside.column c.index-columns-self.result ready.within
    c.index-columns-self.is) ready.rises

pub count_under-requires-clause-known : goal.count_under-requires-clause-known
count_under-requires-clause-known c = λ q i.
    let ready = rw (← c.self.view_is) at c.requires.ready in
    subst (λ (r : Log). q < r.ids) (sym c.index-columns-self.is)
    (ready.known q c.index-columns-self.result i)

pub count_under-requires-clause-rises : goal.count_under-requires-clause-rises
count_under-requires-clause-rises c =
    let ready = rw (← c.self.view_is) at c.requires.ready in
    rw (← cells_at c.args.columns.now c.self.inside.column c.index-columns-self.result ready.within
    c.index-columns-self.is) ready.rises

pub over-requires-clause-known : goal.over-requires-clause-known
over-requires-clause-known c = rw (← c.self.view_is) at c.requires.known

pub over-requires-clause-whole : goal.over-requires-clause-whole
over-requires-clause-whole c = rw (← c.self.view_is) at c.requires.whole

pub returns : goal.returns
returns c =
    let ready = rw (← c.self.view_is) at c.requires.ready in
    let known : (q : ℕ) → In q c.self.inside.index.ids
    → q < c.index-columns-self.result.ids = λ q i.
    subst (λ (r : Log). q < r.ids) (sym c.index-columns-self.is)
    (ready.known q c.index-columns-self.result i) in
    let b = rw (c.ids.ensures, c.lend-value.ensures.value) at c.count_under-end.ensures.before in
    let f = rw (c.ids.ensures, c.lend-value.ensures.value) at c.count_under-end.ensures.after in
    let s = rw c.lend-value.ensures.value at c.count_under.ensures.before in
    let t = rw c.lend-value.ensures.value at c.count_under.ensures.after in
    rw (
      ← c.self.view_is,
      cells_at c.args.columns.now c.self.inside.column
          c.index-columns-self.result ready.within c.index-columns-self.is,
      c.over.ensures,
      c.min-start.ensures,
    )
    (ap (λ ids. rows_of ids (cells_of c.args.columns.now))
    (sym (ids_found c.index-columns-self.result.cells c.self.inside.index.ids c.args.value.now
    c.index-columns-self.result.ids c.count_under.result c.count_under-end.result known s t b f
    c.count_under-end.ensures.within)))
