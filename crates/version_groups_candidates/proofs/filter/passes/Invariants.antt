use Rattle.std.proofs.Common.{◌≡◌, [], drop, get_or}
use Rattle.version_groups_candidates.specs.Filters.{passes}
use Rattle.version_groups_candidates.proofs.filter.passes.Given as goal

abbrev pub invariant-loop-one : goal.invariant-loop-one
invariant-loop-one g l = record {
  same : l.rows ≡ l.fn.rows;
  rest : passes l.filter (get_or l.fn.rows l.at [])
      ≡ passes (drop l.one-index l.filter) (get_or l.fn.rows l.at []);
}
