use Rattle.std.proofs.Common.{◌≡◌, ◌+◌, ◌++◌, ◌∙◌, List, ℕ, length, append_assoc, refl, ap, sym}
use Rattle.std.proofs.Common.{subst}
use Rattle.std.specs.FinMap.{entries}
use Rattle.std.specs.Vec.Iter.{into_iter_items}
use Rattle.prima_base.specs.Columns.{Column}
use Rattle.history_store.specs.Store.{Store}
use Rattle.smo_ops_types.specs.Operators.{operator_of, evolution_of}
use Rattle.smo_ops_spec.specs.After.{IsValid}
use Rattle.smo_ops_spec.specs.Past.{no_tables, newest_from}
use Rattle.smo_ops_spec.specs.Evolutions.{one_makes}
use Rattle.smo_ops_spec.proofs.MemberLaws.{all_accepted, each_is_valid}
use Rattle.version_groups_tables.specs.declared.made_table.MadeTable.{MadeTable}
use Rattle.version_groups_tables.specs.Evolving.{ComeNext}
use Rattle.version_groups_tables.specs.Stored.{stored_as}
use Rattle.version_groups_tables.specs.Places.{at_places}
use Rattle.version_groups_tables.specs.Restoring.{stores_of, HaveColumns, BeginsOver, HasColumns}
use Rattle.version_groups_tables.specs.Restoring.{OthersAre, is_one_of}
use Rattle.version_groups_tables.proofs.PlacedTables.{filter_alike}
use Rattle.version_groups_tables.proofs.RestoredTables.{one_of_made, come_alike}
use Rattle.version_groups.specs.Groups.{Kept, versions_in, newest_places, newest_group}
use Rattle.version_groups.proofs.GroupPlaces.{newest_places_are, newest_is}
use Rattle.version_groups.proofs.RestoredVersions.{version_again, come_again, others_stored}
use Rattle.version_groups.proofs.RestoredVersions.{comes_over, stores_with, restored_with}
use Rattle.version_groups.proofs.groups.Groups.restore_version.Goals as goal

pub restored_tables-requires-clause-schema : goal.restored_tables-requires-clause-schema
restored_tables-requires-clause-schema c =
    let before = newest_from no_tables (versions_in c.args.self.now) in
    let op = evolution_of c.args.version.op in
    subst IsValid (sym c.requires.tables)
    (each_is_valid before op c.requires.schema (all_accepted before op c.requires.accepted))

pub restored_tables-requires-clause-due : goal.restored_tables-requires-clause-due
restored_tables-requires-clause-due c =
    let before = newest_from no_tables (versions_in c.args.self.now) in
    let op = evolution_of c.args.version.op in
    subst (HaveColumns (into_iter_items c.args.stores.now))
    (filter_alike (λ (e : List ℕ × List Column). one_makes before op e.0)
    (λ (e : List ℕ × List Column). is_one_of c.made.result e.0) (entries c.args.version.schema)
    (λ e. sym (one_of_made c.made.result before (operator_of c.args.version.op)
    (c.made.ensures.names before) e.0)))
    c.requires.due

pub restored_tables-requires-clause-others : goal.restored_tables-requires-clause-others
restored_tables-requires-clause-others c =
    let a = c.self.inside in
    let before = newest_from no_tables (versions_in c.args.self.now) in
    let op = evolution_of c.args.version.op in
    let group : newest_group c.args.self.now ≡ at_places c.deref.result.now c.deref-2.result.now =
    ap newest_group (sym c.self.view_is) ∙ newest_is a c.self.invariant
    ∙ ap (λ ts. at_places ts a.newest.items) (sym c.deref.ensures.value)
    ∙ ap (at_places c.deref.result.now) (sym c.deref-2.ensures.value) in
    subst (λ (ts : List MadeTable). OthersAre c.args.version.schema (is_one_of c.made.result)
    (λ name. stored_as name ts)) group
    (others_stored c.args.self.now c.requires.restored op c.args.version.schema c.requires.tables
    (is_one_of c.made.result)
    (one_of_made c.made.result before (operator_of c.args.version.op)
    (c.made.ensures.names before)))

pub install_version-requires-clause-come : goal.install_version-requires-clause-come
install_version-requires-clause-come c =
    let old = c.args.self.now in
    let mid = c.reserve_version.new.self in
    let begun = c.in_ok-tables.tables.begun.items in
    let places = c.in_ok-tables.tables.places.items in
    let a = c.self.inside in
    let before = newest_from no_tables (versions_in old) in
    let op = evolution_of c.args.version.op in
    let kept : c.deref.result.now ≡ old.stored = c.deref.ensures.value
    ∙ ap (λ (k : Kept). k.stored) c.self.view_is in
    let own : c.deref-2.result.now ≡ newest_places old = c.deref-2.ensures.value
    ∙ sym (newest_places_are a c.self.invariant) ∙ ap newest_places c.self.view_is in
    let number : c.newest-number.result + 1 ≡ length old.versions + 1 =
    ap (λ n. n + 1) c.newest-number.ensures in
    let made = come_alike c.deref.result.now c.deref-2.result.now (is_one_of c.made.result)
    (one_makes before op) (BeginsOver (c.newest-number.result + 1)) HasColumns c.args.version.schema
    begun places
    (one_of_made c.made.result before (operator_of c.args.version.op)
    (c.made.ensures.names before))
    c.in_ok-tables.ensures.next in
    let next : ComeNext old.stored (newest_places old) (one_makes before op)
    (BeginsOver (length old.versions + 1)) HasColumns c.args.version.schema begun places =
    subst (λ ts. ComeNext ts (newest_places old) (one_makes before op)
    (BeginsOver (length old.versions + 1)) HasColumns c.args.version.schema begun places) kept
    (subst (λ ps. ComeNext c.deref.result.now ps (one_makes before op)
    (BeginsOver (length old.versions + 1)) HasColumns c.args.version.schema begun places) own
    (subst (λ n. ComeNext c.deref.result.now c.deref-2.result.now (one_makes before op)
    (BeginsOver n)
    HasColumns c.args.version.schema begun places) number made)) in
    come_again old mid c.args.version begun places (sym c.reserve_version.ensures.same.versions)
    (sym c.reserve_version.ensures.stored)
    (comes_over old c.requires.restored (evolution_of c.args.version.op) c.args.version begun places
    refl c.requires.accepted c.requires.tables next)

pub returns-clause-restored : goal.returns-clause-restored
returns-clause-restored c =
    let a = c.self.inside in
    let old = c.args.self.now in
    let mid = c.reserve_version.new.self in
    let begun = c.in_ok-tables.tables.begun.items in
    let places = c.in_ok-tables.tables.places.items in
    let has = version_again old c.install_version.new.self c.args.version begun places mid.versions
    mid.stored mid.places mid.spare mid.beginnings c.reserve_version.ensures.same.versions
    c.reserve_version.ensures.stored c.reserve_version.ensures.same.places
    c.install_version.ensures in
    let before = newest_from no_tables (versions_in old) in
    let op = evolution_of c.args.version.op in
    let kept : c.deref.result.now ≡ old.stored = c.deref.ensures.value
    ∙ ap (λ (k : Kept). k.stored) c.self.view_is in
    let own : c.deref-2.result.now ≡ newest_places old = c.deref-2.ensures.value
    ∙ sym (newest_places_are a c.self.invariant) ∙ ap newest_places c.self.view_is in
    let number : c.newest-number.result + 1 ≡ length old.versions + 1 =
    ap (λ n. n + 1) c.newest-number.ensures in
    let made = come_alike c.deref.result.now c.deref-2.result.now (is_one_of c.made.result)
    (one_makes before op) (BeginsOver (c.newest-number.result + 1)) HasColumns c.args.version.schema
    begun places
    (one_of_made c.made.result before (operator_of c.args.version.op)
    (c.made.ensures.names before))
    c.in_ok-tables.ensures.next in
    let next : ComeNext old.stored (newest_places old) (one_makes before op)
    (BeginsOver (length old.versions + 1)) HasColumns c.args.version.schema begun places =
    subst (λ ts. ComeNext ts (newest_places old) (one_makes before op)
    (BeginsOver (length old.versions + 1)) HasColumns c.args.version.schema begun places) kept
    (subst (λ ps. ComeNext c.deref.result.now ps (one_makes before op)
    (BeginsOver (length old.versions + 1)) HasColumns c.args.version.schema begun places) own
    (subst (λ n. ComeNext c.deref.result.now c.deref-2.result.now (one_makes before op)
    (BeginsOver n)
    HasColumns c.args.version.schema begun places) number made)) in
    restored_with old c.install_version.new.self c.requires.restored c.args.version begun places has
    next

pub returns-clause-taken : goal.returns-clause-taken
returns-clause-taken c =
    let old = c.args.self.now in
    let mid = c.reserve_version.new.self in
    let begun = c.in_ok-tables.tables.begun.items in
    let places = c.in_ok-tables.tables.places.items in
    let left = into_iter_items c.restored_tables.new.stores in
    let has = version_again old c.install_version.new.self c.args.version begun places mid.versions
    mid.stored mid.places mid.spare mid.beginnings c.reserve_version.ensures.same.versions
    c.reserve_version.ensures.stored c.reserve_version.ensures.same.places
    c.install_version.ensures in
    ap (λ (ss : List Store). ss ++ left) (stores_with old c.install_version.new.self
    c.requires.restored c.args.version begun places has)
    ∙ append_assoc (stores_of old.stored) (stores_of begun) left
    ∙ ap (λ (ss : List Store). stores_of old.stored ++ ss) c.in_ok-tables.ensures.taken
