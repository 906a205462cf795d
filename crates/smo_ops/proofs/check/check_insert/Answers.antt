use Rattle.std.proofs.Common.{◌+◌, length, ◌∙◌, arith}
use Rattle.std.proofs.lemmas.Result.{err_from_is_err_and}
use Rattle.smo_ops_spec.specs.First.{first_refusal}
use Rattle.smo_ops_types.specs.Changes.{insertion}
use Rattle.smo_ops_spec.specs.Checks.{pair_names, name_faults, missing_fault, cell_faults}
use Rattle.smo_ops_spec.specs.Checks.{tests_after}
use Rattle.smo_ops.proofs.ChangeTests.{few_pairs, insert_names, insert_missing, insert_cells}
use Rattle.smo_ops.proofs.PassedOn.{test_walked}
use Rattle.smo_ops.proofs.check.check_insert.Goals as goal

pub returns-in_err-check_names : goal.returns-in_err-check_names
returns-in_err-check_names c =
    let p = err_from_is_err_and c.from_residual.result c.from_residual.ensures.1 in
    rw (p.1, p.2)
    (test_walked (first_refusal (name_faults c.args.table.now c.args.columns.now
    (pair_names c.args.cells.now)))
    (tests_after c.args.columns.now (insertion c.args.table.now c.args.cells.now) c.args.at)
    (c.args.at + length c.args.cells.now) c.in_err-check_names.field-0.0
    (insert_names c.args.table.now c.args.columns.now c.args.cells.now c.args.at)
    c.in_err-check_names.ensures)

pub returns-in_err-check_missing : goal.returns-in_err-check_missing
returns-in_err-check_missing c =
    let p = err_from_is_err_and c.from_residual-in_err-check_missing.result
    c.from_residual-in_err-check_missing.ensures.1 in
    rw (p.1, p.2)
    (test_walked (missing_fault c.args.table.now c.args.columns.now (pair_names c.args.cells.now))
    (tests_after c.args.columns.now (insertion c.args.table.now c.args.cells.now) c.args.at)
    (c.args.at + length c.args.cells.now) c.in_err-check_missing.field-0.0
    (insert_missing c.args.table.now c.args.columns.now c.args.cells.now c.args.at
    c.in_ok-check_names.ensures) c.in_err-check_missing.ensures)

pub check_cells-requires : goal.check_cells-requires
check_cells-requires c = (let h = few_pairs c.args.table.now c.args.columns.now c.args.cells.now
    c.requires.columns c.in_ok-check_names.ensures in omega arith)

pub returns-in_err-check_cells : goal.returns-in_err-check_cells
returns-in_err-check_cells c =
    let p = err_from_is_err_and c.from_residual-in_err-check_cells.result
    c.from_residual-in_err-check_cells.ensures.1 in
    rw (p.1, p.2)
    (test_walked (first_refusal (cell_faults c.args.columns.now c.args.at c.args.cells.now))
    (tests_after c.args.columns.now (insertion c.args.table.now c.args.cells.now) c.args.at)
    (c.args.at + length c.args.cells.now) c.in_err-check_cells.field-0.0
    (λ r h. insert_cells c.args.table.now c.args.columns.now c.args.cells.now c.args.at
    c.in_ok-check_names.ensures c.in_ok-check_missing.ensures ∙ h) c.in_err-check_cells.ensures)

pub overflow_cast-result : goal.overflow_cast-result
overflow_cast-result c = (let h = few_pairs c.args.table.now c.args.columns.now c.args.cells.now
    c.requires.columns c.in_ok-check_names.ensures in omega arith)

pub overflow_add-result : goal.overflow_add-result
overflow_add-result c = (let h = few_pairs c.args.table.now c.args.columns.now c.args.cells.now
    c.requires.columns c.in_ok-check_names.ensures in omega arith)

pub returns : goal.returns
returns c = (
  insert_cells c.args.table.now c.args.columns.now c.args.cells.now c.args.at
      c.in_ok-check_names.ensures c.in_ok-check_missing.ensures ∙ c.in_ok-check_cells.ensures,
  omega arith,
)
