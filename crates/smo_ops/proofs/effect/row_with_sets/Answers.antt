use Rattle.std.proofs.Common.{map, ap, sym, subst, ◌∙◌, List}
use Rattle.std.specs.Prelude.{All}
use Rattle.prima_base.specs.declared.value.Val.{Val}
use Rattle.prima_base.specs.Columns.{IsValid}
use Rattle.prima_base.specs.Order.{shown}
use Rattle.smo_ops_types.specs.Changes.{sets_of}
use Rattle.smo_ops.proofs.EffectLaws.{values_replaced, valid_replaced, each_valid}
use Rattle.smo_ops.proofs.effect.row_with_sets.Goals as goal

pub returns-clause-row : goal.returns-clause-row
returns-clause-row c = λ row.
    let columns = c.args.own.now in
    let sets = sets_of c.args.sets.now in
    ap (map shown) c.in_ok-row.ensures
    ∙ values_replaced columns sets c.args.values.items c.in_ok-set.set.items c.requires.columns row
    (rw (c.columns.ensures, c.deref.ensures.value) at c.in_ok-set.ensures.value)

pub returns-clause-valid : goal.returns-clause-valid
returns-clause-valid c = subst (λ (vs : List Val). All (λ v. IsValid (shown v)) vs)
    (sym c.in_ok-row.ensures)
    (valid_replaced c.args.values.items c.in_ok-set.set.items
    (each_valid c.args.values.items c.requires.valid) c.in_ok-set.ensures.valid)
