use Rattle.std.proofs.Common.{◌≡◌, sym, subst}
use Rattle.std.specs.Prelude.{Option}
use Rattle.prima_base.specs.declared.refusal.OpRefusal.{OpRefusal}
use Rattle.prima_base.specs.Faults.{IsTestedAs}
use Rattle.smo_ops_types.specs.Operators.{operator_of}
use Rattle.smo_ops_spec.specs.After.{schema_after}
use Rattle.smo_ops_spec.proofs.OneMembers.{one_member_fault}
use Rattle.smo_ops_operators.proofs.AfterLaws.{still_valid}
use Rattle.smo_ops_operators.proofs.operator.after.Goals as goal

pub returns-clause-evolution : goal.returns-clause-evolution
returns-clause-evolution c = subst (λ (f : Option OpRefusal).
    IsTestedAs (λ next. next ≡ schema_after c.args.schema.now (operator_of c.args.op.now)) f
    c.next_schema.result)
    (sym (one_member_fault c.args.schema.now (operator_of c.args.op.now))) c.next_schema.ensures

pub returns-clause-valid : goal.returns-clause-valid
returns-clause-valid c = still_valid c.args.schema.now (operator_of c.args.op.now)
    c.next_schema.result c.next_schema.ensures
