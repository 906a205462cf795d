use Rattle.std.proofs.Common.{◌≡◌, List, [], ◌∷◌, ap, subst, ◌∙◌}
use Rattle.std.specs.Prelude.{None, Err}
use Rattle.std.specs.FinMap.{insert}
use Rattle.std.proofs.lemmas.Result.{err_from_is_err_and}
use Rattle.prima_base.specs.declared.value.ColType.{ColType}
use Rattle.prima_base.specs.Columns.{Column}
use Rattle.cond_expr.specs.Seen.{tree}
use Rattle.smo_ops_types.specs.Operators.{add_column}
use Rattle.smo_ops_spec.specs.First.{first_refusal}
use Rattle.smo_ops_spec.specs.Effects.{columns_of}
use Rattle.smo_ops_spec.specs.Preconditions.{is_there, is_new, known_in, typed_in, few_columns}
use Rattle.smo_ops_spec.specs.Making.{with_column, type_of_value}
use Rattle.prima_base.specs.Faults.{IsTested}
use Rattle.smo_ops_spec.proofs.NextSchemas.{put_are_columns}
use Rattle.smo_ops_spec.proofs.StepLaws.{all_met, each_met}
use Rattle.smo_ops_operators.proofs.TestSteps.{refused_so, group_stops, goes_on}
use Rattle.smo_ops_operators.proofs.MadeTables.{put_again}
use Rattle.smo_ops_operators.proofs.operator.add_column.after_add_column.Goals as goal

pub returns-in_err-kind : goal.returns-in_err-kind
returns-in_err-kind c =
    let p = err_from_is_err_and c.from_residual-in_err-kind.result
    c.from_residual-in_err-kind.ensures.1 in
    let columns = columns_of c.args.schema.now c.args.table.now in
    let new : is_new c.args.table.now columns c.args.column.now ≡ None =
    subst (λ (cs : List Column). is_new c.args.table.now cs c.args.column.now ≡ None)
    c.in_ok-columns.ensures.columns c.in_ok-check_new.ensures in
    rw (p.1, p.2)
    (refused_so c.args.schema.now (add_column c.args.column.now (tree c.args.expr.now)
    c.args.table.now) c.in_err-kind.field-0.0
    (group_stops (is_there c.args.schema.now c.args.table.now
    ∷ is_new c.args.table.now columns c.args.column.now ∷ [])
    (known_in c.args.table.now columns (tree c.args.expr.now)
    ∷ typed_in columns (tree c.args.expr.now) ∷ [])
    (few_columns (with_column c.args.column.now (type_of_value columns (tree c.args.expr.now))
    columns) ∷ [])
    c.in_err-kind.field-0.0
    (all_met (is_there c.args.schema.now c.args.table.now
    ∷ is_new c.args.table.now columns c.args.column.now ∷ [])
    (c.in_ok-columns.ensures.there, (new, tt)))
    (subst (λ (cs : List Column). IsTested {A = Unit {0}}
    (first_refusal (known_in c.args.table.now cs (tree c.args.expr.now)
    ∷ typed_in cs (tree c.args.expr.now) ∷ [])) (Err c.in_err-kind.field-0.0))
    c.in_ok-columns.ensures.columns c.in_err-kind.ensures.tested)))

pub with_table-requires : goal.with_table-requires
with_table-requires c = rw (c.deref-2.ensures.value, c.in_ok-made.ensures)
    (put_are_columns (c.args.column.now, c.in_ok-kind.kind) c.in_ok-columns.columns.now
    c.in_ok-columns.ensures.valid)

pub returns : goal.returns
returns c =
    let columns = columns_of c.args.schema.now c.args.table.now in
    let new : is_new c.args.table.now columns c.args.column.now ≡ None =
    subst (λ (cs : List Column). is_new c.args.table.now cs c.args.column.now ≡ None)
    c.in_ok-columns.ensures.columns c.in_ok-check_new.ensures in
    let typed = each_met (known_in c.args.table.now columns (tree c.args.expr.now)
    ∷ typed_in columns (tree c.args.expr.now) ∷ [])
    (subst (λ (cs : List Column). first_refusal
    (known_in c.args.table.now cs (tree c.args.expr.now) ∷ typed_in cs (tree c.args.expr.now)
    ∷ []) ≡ None)
    c.in_ok-columns.ensures.columns c.in_ok-kind.ensures.tested) in
    let made : c.in_ok-made.made.items ≡ with_column c.args.column.now
    (type_of_value columns (tree c.args.expr.now)) columns =
    c.in_ok-made.ensures ∙ ap (λ (k : ColType).
    with_column c.args.column.now k c.in_ok-columns.columns.now) c.in_ok-kind.ensures.kind
    ∙ ap (λ (cs : List Column). with_column c.args.column.now
    (type_of_value cs (tree c.args.expr.now)) cs) c.in_ok-columns.ensures.columns in
    let few = subst (λ (cs : List Column). few_columns cs ≡ None) (c.deref.ensures.value ∙ made)
    c.in_ok-check_few_columns.ensures in
    goes_on c.args.schema.now (add_column c.args.column.now (tree c.args.expr.now) c.args.table.now)
    c.in_ok-next.next
    (c.in_ok-columns.ensures.there, (new, (typed.0, (typed.1.0, (few, tt)))))
    (c.in_ok-next.ensures ∙ ap (λ (cs : List Column). insert c.args.schema.now c.args.table.now cs)
    (c.deref-2.ensures.value ∙ made)
    ∙ put_again c.args.schema.now c.args.table.now
    (with_column c.args.column.now (type_of_value columns (tree c.args.expr.now)) columns))
