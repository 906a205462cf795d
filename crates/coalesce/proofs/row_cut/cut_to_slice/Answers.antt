use Rattle.std.proofs.Common.{ap, ◌∙◌}
use Rattle.prima_base.specs.Timed.{entries_of}
use Rattle.coalesce.proofs.Cut.{cut_entries}
use Rattle.coalesce.proofs.Values.{cut_have_values}
use Rattle.coalesce.proofs.row_cut.cut_to_slice.Goals as goal

pub returns-clause-rows : goal.returns-clause-rows
returns-clause-rows c = ap entries_of c.cut_rows.ensures
    ∙ cut_entries c.args.slice c.args.rows.now.items

pub returns-clause-values : goal.returns-clause-values
returns-clause-values c = cut_have_values c.args.rows.now.items c.cut_rows.new.rows.items
    c.args.slice c.cut_rows.ensures
