use Rattle.std.proofs.Common.{List, [], ◌∷◌, subst}
use Rattle.std.specs.Prelude.{Err}
use Rattle.std.specs.FinMap.{insert, remove}
use Rattle.std.proofs.lemmas.Result.{err_from_is_err_and}
use Rattle.prima_base.specs.Columns.{Column}
use Rattle.cond_expr.specs.Seen.{test}
use Rattle.smo_ops_types.specs.Operators.{partition_table}
use Rattle.smo_ops_spec.specs.First.{first_refusal}
use Rattle.smo_ops_spec.specs.Effects.{columns_of}
use Rattle.smo_ops_spec.specs.Preconditions.{is_there, is_free, differ, test_known_in}
use Rattle.smo_ops_spec.specs.Preconditions.{test_typed_in}
use Rattle.smo_ops_spec.specs.Preconditions.{few_tables}
use Rattle.prima_base.specs.Faults.{IsTested}
use Rattle.smo_ops_spec.proofs.StepLaws.{all_met}
use Rattle.smo_ops_operators.proofs.TestSteps.{refused_so, group_stops, groups_met}
use Rattle.smo_ops_operators.proofs.operator.partition_table.after_partition.Goals as goal

pub returns-in_err-check_two_names : goal.returns-in_err-check_two_names
returns-in_err-check_two_names c =
    let p = err_from_is_err_and c.from_residual-in_err-check_two_names.result
    c.from_residual-in_err-check_two_names.ensures.1 in
    rw (p.1, p.2)
    (refused_so c.args.schema.now (partition_table c.args.table.now c.args.yes.now
    (test c.args.cond.now) c.args.no.now) c.in_err-check_two_names.field-0.0
    (group_stops (is_there c.args.schema.now c.args.table.now ∷ [])
    (differ c.args.yes.now c.args.no.now ∷ is_free c.args.schema.now (c.args.table.now ∷ [])
    c.args.yes.now ∷ is_free c.args.schema.now (c.args.table.now ∷ []) c.args.no.now ∷ [])
    (test_known_in c.args.table.now (columns_of c.args.schema.now c.args.table.now)
    (test c.args.cond.now) ∷ test_typed_in (columns_of c.args.schema.now c.args.table.now)
    (test c.args.cond.now)
    ∷ few_tables (insert (insert (remove c.args.schema.now c.args.table.now) c.args.yes.now
    (columns_of c.args.schema.now c.args.table.now)) c.args.no.now
    (columns_of c.args.schema.now c.args.table.now)) ∷ [])
    c.in_err-check_two_names.field-0.0
    (all_met (is_there c.args.schema.now c.args.table.now ∷ []) (c.in_ok-columns.ensures.there, tt))
    c.in_err-check_two_names.ensures))

pub returns-in_err-check_test : goal.returns-in_err-check_test
returns-in_err-check_test c =
    let p = err_from_is_err_and c.from_residual-in_err-check_test.result
    c.from_residual-in_err-check_test.ensures.1 in
    let there = all_met (is_there c.args.schema.now c.args.table.now ∷ [])
    (c.in_ok-columns.ensures.there, tt) in
    rw (p.1, p.2)
    (refused_so c.args.schema.now (partition_table c.args.table.now c.args.yes.now
    (test c.args.cond.now) c.args.no.now) c.in_err-check_test.field-0.0
    (group_stops
    (is_there c.args.schema.now c.args.table.now ∷ differ c.args.yes.now c.args.no.now
    ∷ is_free c.args.schema.now (c.args.table.now ∷ []) c.args.yes.now
    ∷ is_free c.args.schema.now (c.args.table.now ∷ []) c.args.no.now ∷ [])
    (test_known_in c.args.table.now (columns_of c.args.schema.now c.args.table.now)
    (test c.args.cond.now) ∷ test_typed_in (columns_of c.args.schema.now c.args.table.now)
    (test c.args.cond.now) ∷ [])
    (few_tables (insert (insert (remove c.args.schema.now c.args.table.now) c.args.yes.now
    (columns_of c.args.schema.now c.args.table.now)) c.args.no.now
    (columns_of c.args.schema.now c.args.table.now)) ∷ [])
    c.in_err-check_test.field-0.0
    (groups_met (is_there c.args.schema.now c.args.table.now ∷ [])
    (differ c.args.yes.now c.args.no.now ∷ is_free c.args.schema.now (c.args.table.now ∷ [])
    c.args.yes.now ∷ is_free c.args.schema.now (c.args.table.now ∷ []) c.args.no.now ∷ [])
    there c.in_ok-check_two_names.ensures)
    (subst (λ (cs : List Column). IsTested {A = Unit {0}}
    (first_refusal (test_known_in c.args.table.now cs (test c.args.cond.now)
    ∷ test_typed_in cs (test c.args.cond.now) ∷ [])) (Err c.in_err-check_test.field-0.0))
    c.in_ok-columns.ensures.columns c.in_err-check_test.ensures)))
