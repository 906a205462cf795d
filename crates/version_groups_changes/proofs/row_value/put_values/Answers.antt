use Rattle.std.proofs.Common.{◌<◌, ◌++◌, ℕ, List, length, map, sym, ap, subst, ◌∙◌, arith}
use Rattle.std.proofs.Common.{append-nil}
use Rattle.std.specs.Prelude.{All}
use Rattle.std.proofs.lemmas.List.Elements.{All-push}
use Rattle.prima_base.specs.declared.value.Val.{Val}
use Rattle.prima_base.specs.Columns.{IsValid}
use Rattle.prima_base.specs.Order.{shown}
use Rattle.smo_ops_spec.specs.OneRow.{Row}
use Rattle.version_groups_changes.proofs.RowValues.{values_more, no_values, all_values}
use Rattle.version_groups_changes.proofs.row_value.put_values.Goals as goal

pub loop-at-init : goal.loop-at-init
loop-at-init c = record {
  from = omega arith;
  values = sym (ap (λ (l : Row). map shown c.args.values.now.items ++ l)
      (no_values c.args.row.now c.args.skip) ∙ append-nil (map shown c.args.values.now.items));
  valid = λ l. l;
}

pub loop-at-preserved : goal.loop-at-preserved
loop-at-preserved c =
    let row = c.args.row.now in
    let w = c.loop-at.invariant in
    let below : c.loop-at.at < length row = subst (λ (n : ℕ). c.loop-at.at < n) c.len-at-end.ensures
    c.loop-at-test.true in
    record {
      from = omega (arith, w.from);
      values = values_more row c.args.skip c.loop-at.at c.args.values.now.items
          c.loop-at.values.items c.push.new.self.items c.in_ok-copy_value.field-0 w.from below
          c.in_ok-copy_value.ensures.value c.in_ok-push.ensures.items w.values;
      valid = λ l. subst (λ (vs : List Val). All (λ v. IsValid (shown v)) vs)
          (sym c.in_ok-push.ensures.items)
          (All-push (λ v. IsValid (shown v)) c.loop-at.values.items c.in_ok-copy_value.field-0
          (w.valid l) c.in_ok-copy_value.ensures.valid);
    }

pub returns-clause-values : goal.returns-clause-values
returns-clause-values c =
    c.loop-at.invariant.values ∙ ap (λ (l : Row). map shown c.args.values.now.items ++ l)
    (all_values c.args.row.now c.args.skip c.loop-at.at (omega arith))
