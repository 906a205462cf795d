use Rattle.std.proofs.Common.{◌≡◌, ◌≤◌, ◌+◌, drop}
use Rattle.temporal_lang_spec.specs.Atoms.{sources_of}
use Rattle.temporal_lang_spec.specs.Checking.{holders}
use Rattle.temporal_lang.proofs.item.holders_of.Given as goal

abbrev pub invariant-loop-table : goal.invariant-loop-table
invariant-loop-table l = record {
  sum : l.count + holders (sources_of l.schema (drop l.table-index l.from)) l.name
      ≡ holders (sources_of l.schema l.from) l.name;
  few : l.count ≤ l.table-index;
}
