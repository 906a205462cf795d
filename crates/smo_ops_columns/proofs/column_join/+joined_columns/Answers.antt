use Rattle.std.proofs.Common.{ℕ, List, ap, ◌∙◌}
use Rattle.relations_spec.specs.Sets.{put_in}
use Rattle.prima_base.specs.Columns.{Column}
use Rattle.smo_ops_spec.specs.Making.{column_cmp}
use Rattle.smo_ops_columns.proofs.PairedColumns.{one_joined}
use Rattle.smo_ops_columns.proofs.column_join.+joined_columns.Goals as goal

pub returns-in_ok-put_column-in-len1-up : goal.returns-in_ok-put_column-in-len1-up
returns-in_ok-put_column-in-len1-up t c =
    c.in_ok-put_column-in-len1-up.ensures
    ∙ ap (λ (n : List ℕ). put_in column_cmp (n, c.first-item.result.1)
    c.in_ok-joined-in-len1-up.joined.items) c.in_ok-copy-in-len1-up.ensures
    ∙ ap (λ (cs : List Column). put_in column_cmp c.first-item.result cs)
    c.in_ok-joined-in-len1-up.ensures
    ∙ one_joined c.args.columns.now c.args.others.now c.first-item.result c.in-len1-up.len_at_least
    c.first-item.is
