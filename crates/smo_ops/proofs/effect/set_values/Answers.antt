use Rattle.std.proofs.Common.{Option, sym, subst, List}
use Rattle.std.specs.Prelude.{All, IfSome}
use Rattle.std.proofs.lemmas.List.Elements.{All-push}
use Rattle.prima_base.specs.declared.value.Val.{Val}
use Rattle.prima_base.specs.Columns.{IsValid}
use Rattle.prima_base.specs.Order.{shown}
use Rattle.smo_ops.proofs.EffectLaws.{zipped_more}
use Rattle.smo_ops.proofs.effect.set_values.Goals as goal

pub loop-name-preserved : goal.loop-name-preserved
loop-name-preserved c = record {
  value = zipped_more _ c.args.columns.now c.loop-name.set.items c.push.new.self.items
      c.loop-name.name-index c.loop-name-item.result c.in_ok-set_value.field-0 c.loop-name-test.true
      c.loop-name-item.is c.loop-name.invariant.value
      (c.in_ok-set_value.ensures.value c.args.columns.now c.requires.atoms)
      c.in_ok-push.ensures.items;
  valid = subst (λ (os : List (Option Val)). All
      (λ (o : Option Val). IfSome o (λ v. IsValid (shown v))) os) (sym c.in_ok-push.ensures.items)
      (All-push (λ (o : Option Val). IfSome o (λ v. IsValid (shown v))) c.loop-name.set.items
      c.in_ok-set_value.field-0 c.loop-name.invariant.valid c.in_ok-set_value.ensures.valid);
}
