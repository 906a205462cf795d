use Rattle.std.proofs.Common.{sym, subst}
use Rattle.smo_ops_spec.specs.After.{IsValid}
use Rattle.smo_ops_spec.proofs.PastSteps.{beginning_is_past}
use Rattle.tests_rules.proofs.operator.nothing.Goals as goal

pub returns : goal.returns
returns c = subst IsValid (sym c.empty.ensures) beginning_is_past.tables
