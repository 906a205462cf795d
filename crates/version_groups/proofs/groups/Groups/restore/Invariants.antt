use Rattle.std.proofs.Common.{◌≡◌, ◌++◌, ℕ, map}
use Rattle.std.specs.Prelude.{Option}
use Rattle.std.specs.Vec.Iter.{into_iter_items}
use Rattle.smo_ops_types.specs.Commands.{version_of}
use Rattle.smo_ops_spec.specs.After.{IsValid}
use Rattle.smo_ops_spec.specs.ValidPast.{AreVersions}
use Rattle.smo_ops_spec.specs.Past.{no_tables, newest_from}
use Rattle.version_groups_tables.specs.Restoring.{stores_of}
use Rattle.version_groups.specs.Groups.{versions_in}
use Rattle.version_groups.specs.Restoring.{AreRestored}
use Rattle.version_groups.proofs.groups.Groups.restore.Given as goal

abbrev pub invariant-loop-version : goal.invariant-loop-version
invariant-loop-version l = record {
  restored : AreRestored l.groups;
  done : l.groups.versions ++ into_iter_items l.version-iterator ≡ l.fn.versions.list.items;
  taken : stores_of l.groups.stored ++ into_iter_items l.left ≡ l.fn.stores.items;
  valid : IsValid (newest_from no_tables (versions_in l.groups));
  accepted : (last : Option ℕ) × AreVersions last (newest_from no_tables (versions_in l.groups))
      (map version_of (into_iter_items l.version-iterator));
}
