use Rattle.std.proofs.Common.{ap, subst}
use Rattle.std.specs.Prelude.{Err}
use Rattle.std.specs.Option.{option_map}
use Rattle.prima_base.specs.declared.refusal.Refusal.TheVariants.{InverseMisses}
use Rattle.schema_catalog.specs.declared.difference.SameFault.{SameFault}
use Rattle.schema_catalog.specs.Differences.{IsSame}
use Rattle.smo_ops_spec.proofs.InverseLaws.{no_first, first_is}
use Rattle.smo_ops_operators.proofs.inverse.check_given_back.Goals as goal

pub returns-in-Ok : goal.returns-in-Ok
returns-in-Ok c = ap (option_map InverseMisses)
    (no_first c.args.before.now c.args.last.now c.in-Ok.ensures)

pub returns-in-Err-Differs : goal.returns-in-Err-Differs
returns-in-Err-Differs c =
    ap (option_map InverseMisses)
    (first_is c.args.before.now c.args.last.now c.in-Err-Differs.name
    (subst (λ (f : SameFault). IsSame c.args.before.now c.args.last.now (Err f))
    c.in-Err-Differs.field-0-is c.in-Err-Differs.ensures))
