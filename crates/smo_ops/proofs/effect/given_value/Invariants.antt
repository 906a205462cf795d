use Rattle.std.proofs.Common.{◌≡◌, drop}
use Rattle.smo_ops_spec.specs.OneRow.{given}
use Rattle.smo_ops.proofs.effect.given_value.Given as goal

abbrev pub invariant-loop-column : goal.invariant-loop-column
invariant-loop-column l = given l.cells l.name ≡ given (drop l.column-index l.cells) l.name
