use Rattle.std.proofs.Common.{ℕ, List, sym, ap, ◌∙◌}
use Rattle.relations_spec.specs.Sets.{put_in}
use Rattle.prima_base.specs.Columns.{Column}
use Rattle.smo_ops_spec.specs.Making.{column_cmp}
use Rattle.smo_ops_columns.proofs.MakingLaws.{none_in_order, one_in_order}
use Rattle.smo_ops_columns.proofs.made_column.+in_order.Goals as goal

pub returns-in-empty : goal.returns-in-empty
returns-in-empty t c = c.new.ensures.items ∙ sym
    (none_in_order c.args.columns.now c.in-empty.len_below)

pub returns-in_ok-put_column-in-len1-up : goal.returns-in_ok-put_column-in-len1-up
returns-in_ok-put_column-in-len1-up t c =
    c.in_ok-put_column-in-len1-up.ensures
    ∙ ap (λ (n : List ℕ). put_in column_cmp (n, c.first-item.result.1)
    c.in_ok-ordered-in-len1-up.ordered.items) c.in_ok-copy-in-len1-up.ensures
    ∙ ap (λ (cs : List Column). put_in column_cmp c.first-item.result cs)
    c.in_ok-ordered-in-len1-up.ensures
    ∙ one_in_order c.args.columns.now c.first-item.result c.in-len1-up.len_at_least c.first-item.is
