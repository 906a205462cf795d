use Rattle.std.proofs.Common.{◌<◌, sym, ◌∙◌, subst}
use Rattle.relations_spec.specs.Sets.{Same}
use Rattle.history_store_columns.specs.Log.{Log}
use Rattle.history_store_row_order.proofs.Cells.{cells_at, length-cells_of}
use Rattle.history_store_writes.proofs.value_index.ValueIndex.of.Goals as goal

pub sort_ids-requires-clause-known : goal.sort_ids-requires-clause-known
sort_ids-requires-clause-known c = λ q i.
    subst (λ (r : Log). q < r.ids) (sym c.index-columns-column.is)
    (c.requires.known q i c.args.column c.index-columns-column.result c.requires.within)

pub returns-clause-indexed : goal.returns-clause-indexed
returns-clause-indexed c =
    let is = c.reserve.ensures.ids ∙ c.in_ok-index.ensures ∙ c.deref.ensures.value in
    let s = subst (λ ids. Same ids c.args.live.now) (sym is) c.in_ok-ids.ensures.same in
    record {
      within = subst (λ n. c.args.column < n) (sym (length-cells_of c.args.columns.now))
          c.requires.within;
      rises = rw (
        is,
        cells_at c.args.columns.now c.args.column c.index-columns-column.result
            c.requires.within c.index-columns-column.is,
      ) c.in_ok-ids.ensures.rises;
      only = λ q i. (s.there q i, λ n. n);
      all = λ q i n. s.back q i;
    }
