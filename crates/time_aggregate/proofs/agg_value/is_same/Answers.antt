use Rattle.std.proofs.Common.{◌∙◌, sym, ap}
use Rattle.prima_base.specs.Order.{shown}
use Rattle.prima_base.specs.Groups.{one}
use Rattle.prima_base.specs.Groups.{amount}
use Rattle.time_aggregate.proofs.ValueLaws.{same_value}
use Rattle.time_aggregate.proofs.agg_value.is_same.Goals as goal

pub returns-in-Of-Of : goal.returns-in-Of-Of
returns-in-Of-Of c =
    let s = same_value (shown c.in-Of-Of.v) (shown c.in-Of-Of.w) in
    let a = ap amount c.in-Of-Of.is-0 in
    let b = ap amount c.in-Of-Of.is-1 in (
      λ e. a ∙ ap one (s.0 (sym c.eq.ensures ∙ e)) ∙ sym b,
      λ e.
          let q = sym a ∙ e ∙ b in c.eq.ensures ∙ s.1 (cc),
    )
