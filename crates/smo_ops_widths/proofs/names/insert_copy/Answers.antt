use Rattle.std.proofs.Common.{sym, ◌∙◌}
use Rattle.std.specs.BTreeSet.{contains}
use Rattle.prima_base.specs.Order.{bytes_cmp}
use Rattle.smo_ops_widths.proofs.NamesInserted.{there_already}
use Rattle.smo_ops_widths.proofs.names.insert_copy.Goals as goal

pub returns-else-not-contains : goal.returns-else-not-contains
returns-else-not-contains c = there_already (contains bytes_cmp c.args.names.now) c.args.name.now
    (sym c.contains.ensures ∙ c.if-not-contains.false)
