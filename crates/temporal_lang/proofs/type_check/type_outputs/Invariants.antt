use Rattle.std.proofs.Common.{◌≡◌, ◌+◌, ◌++◌, map, drop}
use Rattle.std.specs.Prelude.{None, Some}
use Rattle.std.specs.List.{flat_map}
use Rattle.cond_expr.specs.Seen.{tree}
use Rattle.cond_expr.specs.Kinds.{kinds_of, kind_of}
use Rattle.cond_expr.specs.Faults.{references, first_unknown}
use Rattle.smo_ops_spec.specs.First.{first_refusal}
use Rattle.temporal_lang_spec.specs.Checking.{trees_types, outputs_nodes}
use Rattle.temporal_lang_spec.specs.Resolved.{AreSmall}
use Rattle.temporal_lang.proofs.type_check.type_outputs.Given as goal

abbrev pub invariant-loop-out : goal.invariant-loop-out
invariant-loop-out l = record {
  faults : first_refusal (trees_types (kinds_of l.columns) l.at (map tree l.outs))
      ≡ first_refusal (trees_types (kinds_of l.columns) l.next
      (map tree (drop l.out-index l.outs)));
  nodes : l.next + outputs_nodes (map tree (drop l.out-index l.outs))
      ≡ l.at + outputs_nodes (map tree l.outs);
  kinds : map Some l.kinds.items ++ map (kind_of (kinds_of l.columns))
      (map tree (drop l.out-index l.outs)) ≡ map (kind_of (kinds_of l.columns)) (map tree l.outs);
  small : AreSmall (map tree (drop l.out-index l.outs));
  known : first_unknown (kinds_of l.columns) (flat_map references
      (map tree (drop l.out-index l.outs))) ≡ None;
}
