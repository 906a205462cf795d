use Rattle.std.proofs.Common.{List, [], ◌∷◌, ◌++◌, subst}
use Rattle.std.specs.Prelude.{Option, Err}
use Rattle.std.proofs.lemmas.Result.{err_from_is_err_and}
use Rattle.prima_base.specs.declared.refusal.OpRefusal.{OpRefusal}
use Rattle.prima_base.specs.Columns.{Column}
use Rattle.smo_ops_types.specs.Operators.{Operator, decompose_table}
use Rattle.smo_ops_spec.specs.First.{first_refusal}
use Rattle.smo_ops_spec.specs.Effects.{columns_of}
use Rattle.smo_ops_spec.specs.Preconditions.{is_there, differ, is_free, few_tables}
use Rattle.prima_base.specs.Faults.{IsTested}
use Rattle.smo_ops_spec.specs.After.{schema_after}
use Rattle.smo_ops_spec.proofs.StepLaws.{all_met}
use Rattle.smo_ops_operators.proofs.TestSteps.{refused_so, group_stops, groups_met}
use Rattle.smo_ops_operators.proofs.PartTests.{part_tests}
use Rattle.smo_ops_operators.proofs.MadeTables.{named_are_columns}
use Rattle.smo_ops_operators.proofs.operator.decompose_table.after_decompose.Goals as goal

pub returns-in_err-check_two_names : goal.returns-in_err-check_two_names
returns-in_err-check_two_names c =
    let p = err_from_is_err_and c.from_residual-in_err-check_two_names.result
    c.from_residual-in_err-check_two_names.ensures.1 in
    let op : Operator = decompose_table c.args.table.now c.args.left.now c.args.left_columns.now
    c.args.right.now c.args.right_columns.now in
    let there : List (Option OpRefusal) = is_there c.args.schema.now c.args.table.now ∷ [] in
    let free : List (Option OpRefusal) = differ c.args.left.now c.args.right.now
    ∷ is_free c.args.schema.now (c.args.table.now ∷ []) c.args.left.now
    ∷ is_free c.args.schema.now (c.args.table.now ∷ []) c.args.right.now ∷ [] in
    let parts : List (Option OpRefusal) = part_tests c.args.table.now
    (columns_of c.args.schema.now c.args.table.now) c.args.left.now c.args.left_columns.now
    c.args.right.now c.args.right_columns.now in
    rw (p.1, p.2)
    (refused_so c.args.schema.now op c.in_err-check_two_names.field-0.0
    (group_stops there free (parts ++ few_tables (schema_after c.args.schema.now op) ∷ [])
    c.in_err-check_two_names.field-0.0
    (all_met there (c.in_ok-columns.ensures.there, tt)) c.in_err-check_two_names.ensures))

pub returns-in_err-check_parts : goal.returns-in_err-check_parts
returns-in_err-check_parts c =
    let p = err_from_is_err_and c.from_residual-in_err-check_parts.result
    c.from_residual-in_err-check_parts.ensures.1 in
    let op : Operator = decompose_table c.args.table.now c.args.left.now c.args.left_columns.now
    c.args.right.now c.args.right_columns.now in
    let there : List (Option OpRefusal) = is_there c.args.schema.now c.args.table.now ∷ [] in
    let free : List (Option OpRefusal) = differ c.args.left.now c.args.right.now
    ∷ is_free c.args.schema.now (c.args.table.now ∷ []) c.args.left.now
    ∷ is_free c.args.schema.now (c.args.table.now ∷ []) c.args.right.now ∷ [] in
    let parts : List (Option OpRefusal) = part_tests c.args.table.now
    (columns_of c.args.schema.now c.args.table.now) c.args.left.now c.args.left_columns.now
    c.args.right.now c.args.right_columns.now in
    rw (p.1, p.2)
    (refused_so c.args.schema.now op c.in_err-check_parts.field-0.0
    (group_stops (there ++ free) parts (few_tables (schema_after c.args.schema.now op) ∷ [])
    c.in_err-check_parts.field-0.0
    (groups_met there free (all_met there (c.in_ok-columns.ensures.there, tt))
    c.in_ok-check_two_names.ensures)
    (subst (λ (cs : List Column). IsTested {A = Unit {0}}
    (first_refusal (part_tests c.args.table.now cs c.args.left.now c.args.left_columns.now
    c.args.right.now c.args.right_columns.now)) (Err c.in_err-check_parts.field-0.0))
    c.in_ok-columns.ensures.columns c.in_err-check_parts.ensures)))

pub in_two-requires-clause-first : goal.in_two-requires-clause-first
in_two-requires-clause-first c = rw (c.deref.ensures.value, c.in_ok-first.ensures)
    (named_are_columns _ c.in_ok-columns.columns.now c.in_ok-columns.ensures.valid)

pub in_two-requires-clause-second : goal.in_two-requires-clause-second
in_two-requires-clause-second c = rw (c.deref-2.ensures.value, c.in_ok-second.ensures)
    (named_are_columns _ c.in_ok-columns.columns.now c.in_ok-columns.ensures.valid)
