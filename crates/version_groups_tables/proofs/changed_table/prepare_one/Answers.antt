use Rattle.std.proofs.Common.{List, sym, subst, ◌∙◌}
use Rattle.prima_base.specs.Columns.{Column}
use Rattle.version_groups_changes.specs.Changing.{AreAccepted, borrowed_changes}
use Rattle.version_groups_tables.proofs.TablesInTurn.{untouched_gained, untouched_lost}
use Rattle.version_groups_tables.proofs.changed_table.prepare_one.Goals as goal

pub returns-then-is_empty-clause-gained : goal.returns-then-is_empty-clause-gained
returns-then-is_empty-clause-gained c = untouched_gained c.args.stamp c.args.changes.now
    c.args.table.now (sym c.is_empty.ensures ∙ c.if-is_empty.true)

pub returns-then-is_empty-clause-lost : goal.returns-then-is_empty-clause-lost
returns-then-is_empty-clause-lost c = untouched_lost c.args.stamp c.args.changes.now
    c.args.table.now (sym c.is_empty.ensures ∙ c.if-is_empty.true)

pub prepare_table-requires-clause-accepted : goal.prepare_table-requires-clause-accepted
prepare_table-requires-clause-accepted c =
    subst (λ (cs : List Column). AreAccepted cs (borrowed_changes c.args.changes.now))
    c.requires.own c.requires.changeable.accepted

pub returns-clause-leads : goal.returns-clause-leads
returns-clause-leads c = rw (sym c.requires.own) at c.in_ok-prepared.ensures.change

pub returns-clause-gained : goal.returns-clause-gained
returns-clause-gained c = rw (sym c.requires.own) at c.in_ok-prepared.ensures.gained

pub returns-clause-lost : goal.returns-clause-lost
returns-clause-lost c = rw (sym c.requires.own) at c.in_ok-prepared.ensures.lost
