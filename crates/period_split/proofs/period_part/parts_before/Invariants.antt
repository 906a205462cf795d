use Rattle.std.proofs.Common.{◌≡◌, map}
use Rattle.smo_ops_types.specs.Commands.{version_of}
use Rattle.smo_ops_spec.specs.InForce.{begins_at}
use Rattle.period_split.specs.Splitting.{parts_below}
use Rattle.period_split.proofs.period_part.parts_before.Given as goal

abbrev pub invariant-loop-number : goal.invariant-loop-number
invariant-loop-number l = record {
  begin : l.begin ≡ begins_at (map version_of l.versions) l.number;
  parts : l.parts.items ≡ parts_below (map version_of l.versions) l.fn.slice l.number;
}
