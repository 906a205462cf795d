use Rattle.std.proofs.Common.{ap, ◌∙◌}
use Rattle.history_store.specs.Restoring.{entries_of}
use Rattle.cases_store_tables.proofs.TestedLaws.{same_before}
use Rattle.cases_store_tables.proofs.ScannedLaws.{same_store}
use Rattle.cases_store_tables.proofs.HalvedCells.{cells_ascend}
use Rattle.cases_store_tables.proofs.tested_table.restored_from.Goals as goal

pub restore-requires-clause-store : goal.restore-requires-clause-store
restore-requires-clause-store c = same_store c.args.stored.now c.args.columns.now _ _ c.requires
    c.in_ok-scanned.ensures.keys c.in_ok-scanned.ensures.cells c.in_ok-scanned.ensures.valid

pub are_in_order-requires-clause-ascending : goal.are_in_order-requires-clause-ascending
are_in_order-requires-clause-ascending c = cells_ascend c.args.stored.now _
    (ap entries_of c.deref-2.ensures.value ∙ c.in_ok-scanned.ensures.cells)
    c.in_ok-scanned.ensures.valid

pub returns-clause-later : goal.returns-clause-later
returns-clause-later c = λ m. same_before c.args.stored.now c.in_ok-restored.restored m
    (ap (λ s. s.keys) c.in_ok-restored.ensures.table ∙ c.in_ok-scanned.ensures.keys)
    (ap (λ s. s.cells) c.in_ok-restored.ensures.table ∙ c.in_ok-scanned.ensures.cells)
