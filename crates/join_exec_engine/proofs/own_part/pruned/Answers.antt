use Rattle.std.proofs.Common.{List, length, subst}
use Rattle.prima_base.specs.Timed.{entries_of}
use Rattle.cond_expr.specs.declared.expr.Column.{Column}
use Rattle.join_exec_spec.specs.Keeping.{borrowed_tests, AreOwnParts}
use Rattle.join_exec_spec.proofs.JoinLaws.{fit_valid}
use Rattle.join_exec_spec.specs.BorrowedOutputs.{RowBorrows}
use Rattle.join_exec_engine.proofs.PrunedRows.{kept_by, fit_kept, each_kept_too, pruned_by}
use Rattle.join_exec_engine.proofs.own_part.pruned.Goals as goal

pub passing-requires : goal.passing-requires
passing-requires c = fit_valid (length c.args.atom.columns.items)
    (entries_of c.args.atom.rows.items) c.args.atom.fit

pub invariant_of-result : goal.invariant_of-result
invariant_of-result c = record {
  own = c.args.atom.own;
  fit = fit_kept c.args.atom.columns.items (borrowed_tests c.in_ok-own.own.items)
      c.args.atom.rows.items c.in_ok-rows.rows.items
      (kept_by c.args.atom.columns.items c.deref-2.result.now c.in_ok-own.own.items
      c.deref-3.result.now c.args.atom.rows.items c.in_ok-rows.rows.items c.in_ok-rows.ensures
      c.deref-2.ensures.value c.deref-3.ensures.value)
      (length c.args.atom.columns.items) c.args.atom.fit;
}

pub returns-clause-borrowed : goal.returns-clause-borrowed
returns-clause-borrowed c = λ which. each_kept_too c.args.atom.columns.items
    (borrowed_tests c.in_ok-own.own.items) c.args.atom.rows.items c.in_ok-rows.rows.items
    (kept_by c.args.atom.columns.items c.deref-2.result.now c.in_ok-own.own.items
    c.deref-3.result.now c.args.atom.rows.items c.in_ok-rows.rows.items c.in_ok-rows.ensures
    c.deref-2.ensures.value c.deref-3.ensures.value)
    (RowBorrows which c.args.atom.columns.items)

pub returns-clause-pruned : goal.returns-clause-pruned
returns-clause-pruned c = λ m. pruned_by (borrowed_tests c.args.parts.now)
    (borrowed_tests c.in_ok-own.own.items) c.args.atom c.in_ok-rows.rows.items
    (kept_by c.args.atom.columns.items c.deref-2.result.now c.in_ok-own.own.items
    c.deref-3.result.now c.args.atom.rows.items c.in_ok-rows.rows.items c.in_ok-rows.ensures
    c.deref-2.ensures.value c.deref-3.ensures.value)
    (subst (λ (cs : List Column). AreOwnParts cs (borrowed_tests c.args.parts.now)
    (borrowed_tests c.in_ok-own.own.items)) c.deref.ensures.value c.in_ok-own.ensures) m
