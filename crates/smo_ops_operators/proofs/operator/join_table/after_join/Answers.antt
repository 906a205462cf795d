use Rattle.std.proofs.Common.{List, [], ◌∷◌, ap, sym, subst, ◌∙◌}
use Rattle.std.specs.Prelude.{Option, Err}
use Rattle.std.proofs.lemmas.Result.{err_from_is_err_and}
use Rattle.prima_base.specs.declared.refusal.OpRefusal.{OpRefusal}
use Rattle.prima_base.specs.Columns.{Column}
use Rattle.cond_expr.specs.Seen.{test}
use Rattle.smo_ops_types.specs.Operators.{Operator, join_table}
use Rattle.smo_ops_spec.specs.First.{first_refusal}
use Rattle.smo_ops_spec.specs.Effects.{columns_of}
use Rattle.smo_ops_spec.specs.Preconditions.{is_there, differ, is_free, joinable, few_columns}
use Rattle.smo_ops_spec.specs.Preconditions.{test_known_in, test_typed_in}
use Rattle.smo_ops_spec.specs.Making.{joined_columns}
use Rattle.prima_base.specs.Faults.{IsTested}
use Rattle.smo_ops_spec.proofs.ColumnLaws.{in_order_are_columns}
use Rattle.smo_ops_spec.proofs.StepLaws.{all_met}
use Rattle.smo_ops_operators.proofs.TestSteps.{refused_so, group_stops}
use Rattle.smo_ops_operators.proofs.NameListLaws.{free_any}
use Rattle.smo_ops_operators.proofs.operator.join_table.after_join.Goals as goal

pub returns-in_err-check_joined : goal.returns-in_err-check_joined
returns-in_err-check_joined c =
    let p = err_from_is_err_and c.from_residual-in_err-check_joined.result
    c.from_residual-in_err-check_joined.ensures.1 in
    let cs : List Column = columns_of c.args.schema.now c.args.left.now in
    let ds : List Column = columns_of c.args.schema.now c.args.right.now in
    let op : Operator = join_table c.args.left.now c.args.right.now c.args.into.now
    (test c.args.cond.now) in
    let both : List (Option OpRefusal) = is_there c.args.schema.now c.args.left.now
    ∷ is_there c.args.schema.now c.args.right.now ∷ differ c.args.left.now c.args.right.now
    ∷ is_free c.args.schema.now (c.args.left.now ∷ c.args.right.now ∷ []) c.args.into.now
    ∷ joinable c.args.left.now cs c.args.right.now ds ∷ [] in
    let columns = c.deref.ensures.value ∙ c.in_ok-joined.ensures
    ∙ ap (λ (xs : List Column). joined_columns xs c.in_ok-others.others.now)
    c.in_ok-columns.ensures.columns ∙ ap (λ (ys : List Column). joined_columns cs ys)
    c.in_ok-others.ensures.columns in
    rw (p.1, p.2)
    (refused_so c.args.schema.now op c.in_err-check_joined.field-0.0
    (group_stops both (few_columns (joined_columns cs ds)
    ∷ test_known_in c.args.into.now (joined_columns cs ds) (test c.args.cond.now)
    ∷ test_typed_in (joined_columns cs ds) (test c.args.cond.now) ∷ []) []
    c.in_err-check_joined.field-0.0
    (all_met both (
      c.in_ok-columns.ensures.there,
      (
        c.in_ok-others.ensures.there,
        (
          c.in_ok-check_differ.ensures,
          (
            sym (free_any c.args.schema.now c.args.into.now
                (c.args.left.now ∷ c.args.right.now ∷ []) c.is_either.result c.is_either.ensures)
                ∙ c.in_ok-check_free.ensures,
            (
              sym (ap (λ (xs : List Column). joinable c.args.left.now xs c.args.right.now
                  c.in_ok-others.others.now) c.in_ok-columns.ensures.columns
                  ∙ ap (λ (ys : List Column). joinable c.args.left.now cs c.args.right.now ys)
                  c.in_ok-others.ensures.columns) ∙ c.in_ok-check_joinable.ensures,
              tt,
            ),
          ),
        ),
      ),
    ))
    (subst (λ (xs : List Column). IsTested {A = Unit {0}}
    (first_refusal (few_columns xs ∷ test_known_in c.args.into.now xs (test c.args.cond.now)
    ∷ test_typed_in xs (test c.args.cond.now) ∷ [])) (Err c.in_err-check_joined.field-0.0))
    columns c.in_err-check_joined.ensures)))

pub in_one-requires : goal.in_one-requires
in_one-requires c = rw (c.deref-2.ensures.value, c.in_ok-joined.ensures) (in_order_are_columns _)
