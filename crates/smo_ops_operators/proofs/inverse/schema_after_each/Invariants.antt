use Rattle.std.proofs.Common.{◌≡◌, ◌+◌, drop}
use Rattle.schema_catalog.specs.Tables.{Tables}
use Rattle.smo_ops_types.specs.Operators.{evolutions_of}
use Rattle.smo_ops_spec.specs.First.{first_refusal}
use Rattle.smo_ops_spec.specs.After.{AllHaveFewNodes}
use Rattle.smo_ops_spec.specs.Inverses.{way_back}
use Rattle.smo_ops_operators.proofs.inverse.schema_after_each.Given as goal

abbrev pub invariant-loop-i : goal.invariant-loop-i
invariant-loop-i l = record {
  turn : (before : Tables) → first_refusal (way_back before l.schema 1 (evolutions_of l.ops))
      ≡ first_refusal (way_back before l.now (l.i + 1) (evolutions_of (drop l.i l.ops)));
  small : AllHaveFewNodes (evolutions_of (drop l.i l.ops));
}
