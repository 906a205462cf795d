use Rattle.std.proofs.Common.{◌≡◌, Option, map, take}
use Rattle.std.specs.Prelude.{All, IfSome}
use Rattle.std.specs.List.{AllZip}
use Rattle.std.specs.Option.{option_map, unwrap_or}
use Rattle.prima_base.specs.declared.value.Val.{Val}
use Rattle.prima_base.specs.Columns.{Column, IsValid}
use Rattle.prima_base.specs.Order.{shown}
use Rattle.schema_catalog.specs.Databases.{cell}
use Rattle.smo_ops_spec.specs.OneRow.{set_value}
use Rattle.smo_ops_types.specs.Changes.{sets_of}
use Rattle.smo_ops.proofs.effect.set_values.Given as goal

abbrev pub invariant-loop-name : goal.invariant-loop-name
invariant-loop-name l = record {
  value : AllZip (λ (c : Column) (o : Option Val).
      unwrap_or (option_map shown o) (cell l.columns (map shown l.values) c.0)
      ≡ set_value l.columns (map shown l.values) (sets_of l.sets) c.0) (take l.name-index l.columns)
      l.set.items;
  valid : All (λ (o : Option Val). IfSome o (λ v. IsValid (shown v))) l.set.items;
}
