use Rattle.std.proofs.Common.{refl, sym, ap, ◌∙◌}
use Rattle.prima_base.specs.Order.{bytes_cmp}
use Rattle.prima_base.specs.Columns.{Column}
use Rattle.schema_catalog.proofs.Columns.{few_columns, more_columns, less_is}
use Rattle.schema_catalog.proofs.table.+are_columns.Goals as goal

pub returns-in-len1 : goal.returns-in-len1
returns-in-len1 t c = (λ _. few_columns c.args.columns.now c.in-len1.len_below, λ _. refl)

pub returns-then-is_lt : goal.returns-then-is_lt
returns-then-is_lt t c =
    more_columns c.args.columns.now c.first-item.result c.index-rest-0.result c.are_columns.result
    c.in-len1-up.len_at_least c.first-item.is c.index-rest-0.is
    (ap (λ (z : Column). bytes_cmp c.first-item.result.0 z.0) c.index-rest-0.is ∙ sym c.cmp.ensures
    ∙ less_is c.cmp.result (sym c.is_lt.ensures ∙ c.if-is_lt.true))
    c.are_columns.ensures
