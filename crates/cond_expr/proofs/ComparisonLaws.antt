-- The same comparison, and one with its sides exchanged.
use Rattle.std.proofs.Common.{◌≡◌, true, refl, ap, ◌∙◌}
use Rattle.std.specs.Ordering.{ordering_reverse}
use Rattle.std.specs.declared.cmp.Ordering.{Ordering}
use Rattle.std.specs.declared.cmp.Ordering.TheVariants.{Less, Equal, Greater}
use Rattle.prima_base.specs.Order.{value_cmp}
use Rattle.prima_base.specs.OrderLaws.{value_total}
use Rattle.prima_base.specs.declared.value.Value.{Value}
use Rattle.cond_expr.specs.declared.expr.CmpOp.{CmpOp}
use Rattle.cond_expr.specs.declared.expr.CmpOp.TheVariants.{Eq, Ne, Lt, Le, Gt, Ge}
use Rattle.cond_expr.specs.Comparisons.{turned_op, same_way}
use Rattle.cond_expr.specs.Values.{agrees}

pub same_way_is : (o p : CmpOp) → same_way o p ≡ true → o ≡ p
same_way_is Eq Eq e = refl
same_way_is Eq Ne e = absurd (cc)
same_way_is Eq Lt e = absurd (cc)
same_way_is Eq Le e = absurd (cc)
same_way_is Eq Gt e = absurd (cc)
same_way_is Eq Ge e = absurd (cc)
same_way_is Ne Eq e = absurd (cc)
same_way_is Ne Ne e = refl
same_way_is Ne Lt e = absurd (cc)
same_way_is Ne Le e = absurd (cc)
same_way_is Ne Gt e = absurd (cc)
same_way_is Ne Ge e = absurd (cc)
same_way_is Lt Eq e = absurd (cc)
same_way_is Lt Ne e = absurd (cc)
same_way_is Lt Lt e = refl
same_way_is Lt Le e = absurd (cc)
same_way_is Lt Gt e = absurd (cc)
same_way_is Lt Ge e = absurd (cc)
same_way_is Le Eq e = absurd (cc)
same_way_is Le Ne e = absurd (cc)
same_way_is Le Lt e = absurd (cc)
same_way_is Le Le e = refl
same_way_is Le Gt e = absurd (cc)
same_way_is Le Ge e = absurd (cc)
same_way_is Gt Eq e = absurd (cc)
same_way_is Gt Ne e = absurd (cc)
same_way_is Gt Lt e = absurd (cc)
same_way_is Gt Le e = absurd (cc)
same_way_is Gt Gt e = refl
same_way_is Gt Ge e = absurd (cc)
same_way_is Ge Eq e = absurd (cc)
same_way_is Ge Ne e = absurd (cc)
same_way_is Ge Lt e = absurd (cc)
same_way_is Ge Le e = absurd (cc)
same_way_is Ge Gt e = absurd (cc)
same_way_is Ge Ge e = refl

pub agrees_reversed : (o : CmpOp) (r : Ordering)
    → agrees (turned_op o) (ordering_reverse r) ≡ agrees o r
agrees_reversed Eq Less = refl
agrees_reversed Eq Equal = refl
agrees_reversed Eq Greater = refl
agrees_reversed Ne Less = refl
agrees_reversed Ne Equal = refl
agrees_reversed Ne Greater = refl
agrees_reversed Lt Less = refl
agrees_reversed Lt Equal = refl
agrees_reversed Lt Greater = refl
agrees_reversed Le Less = refl
agrees_reversed Le Equal = refl
agrees_reversed Le Greater = refl
agrees_reversed Gt Less = refl
agrees_reversed Gt Equal = refl
agrees_reversed Gt Greater = refl
agrees_reversed Ge Less = refl
agrees_reversed Ge Equal = refl
agrees_reversed Ge Greater = refl

pub agrees_turned : (o : CmpOp) (x y : Value)
    → agrees (turned_op o) (value_cmp y x) ≡ agrees o (value_cmp x y)
agrees_turned o x y = ap (agrees (turned_op o)) (value_total.antisymm y x)
    ∙ agrees_reversed o (value_cmp x y)
