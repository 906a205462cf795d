use Rattle.std.proofs.Common.{◌≤◌, length}
use Rattle.smo_ops_spec.specs.Past.{Past}
use Rattle.version_groups.specs.Representation.{Represents}
use Rattle.script_cli_statement.proofs.response.count_lifelines.Given as goal

abbrev pub invariant-loop-i : goal.invariant-loop-i
invariant-loop-i l = (past : Past) → Represents l.groups past → l.i ≤ length past.sizes
