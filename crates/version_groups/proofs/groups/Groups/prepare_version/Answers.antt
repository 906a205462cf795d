use Rattle.std.proofs.Common.{◌≡◌, ◌+◌, length, None, refl, sym, ap, subst, ◌∙◌, arith}
use Rattle.relations_spec.specs.Sets.{Ascends}
use Rattle.prima_base.specs.Order.{bytes_cmp}
use Rattle.schema_catalog.specs.Tables.{Tables}
use Rattle.schema_catalog.specs.Databases.{IsDatabase}
use Rattle.smo_ops_spec.specs.Evolutions.{evolution_fault, schema_after_each}
use Rattle.smo_ops_spec.specs.After.{IsValid}
use Rattle.smo_ops_types.specs.Commands.{version_of}
use Rattle.smo_ops_types.specs.Operators.{evolution_of, evolutions_of}
use Rattle.smo_ops_spec.specs.Past.{newest_tables, newest_database}
use Rattle.version_groups_tables.specs.Stored.{stored_names}
use Rattle.version_groups_tables.specs.Evolving.{IsEvolved}
use Rattle.version_groups_tables.specs.NewestTables.{AreStored}
use Rattle.version_groups_tables.specs.Places.{at_places, AreWithin}
use Rattle.version_groups.specs.Groups.{Kept, newest_places, newest_group}
use Rattle.version_groups.proofs.Applied.{as_many}
use Rattle.version_groups.proofs.GroupPlaces.{newest_places_are, newest_is}
use Rattle.version_groups.proofs.PreparedCommands.{schema_is, op_accepted, few_versions, stored_now}
use Rattle.version_groups.proofs.PreparedCommands.{operator_ready, is_same}
use Rattle.version_groups.proofs.groups.Groups.prepare_version.Goals as goal

pub overflow_add-number : goal.overflow_add-number
overflow_add-number c =
    let v = c.args.version in
    let h = c.requires in
    let few = few_versions c.args.self.now h.0 v.stamp (evolution_of v.op)
    (evolutions_of v.inverse.items) h.1 h.2.stamp h.2.accepted in
    let n = as_many c.args.self.now h.0 h.1 in
    let is = c.newest-number.ensures in
    omega (arith, few, n, is)

pub begin_version-requires-clause-schema : goal.begin_version-requires-clause-schema
begin_version-requires-clause-schema c =
    let a = c.self.inside in
    let v = c.args.version in
    let h = c.requires in
    let schema = c.newest_schema-schema.ensures
    ∙ schema_is c.args.self.now h.0 h.1 a.nothing a.versions.list.items c.self.invariant.nothing
    (ap (λ (k : Kept). k.versions) c.self.view_is) in
    subst IsValid (sym schema) h.1.valid.tables

pub begin_version-requires-clause-accepted : goal.begin_version-requires-clause-accepted
begin_version-requires-clause-accepted c =
    let a = c.self.inside in
    let v = c.args.version in
    let h = c.requires in
    let schema = c.newest_schema-schema.ensures
    ∙ schema_is c.args.self.now h.0 h.1 a.nothing a.versions.list.items c.self.invariant.nothing
    (ap (λ (k : Kept). k.versions) c.self.view_is) in
    subst (λ (t : Tables). evolution_fault t (evolution_of v.op) ≡ None) (sym schema)
    (op_accepted c.args.self.now h.0 v.stamp (evolution_of v.op) (evolutions_of v.inverse.items) h.1
    h.2.stamp h.2.accepted)

pub begin_version-requires-clause-next : goal.begin_version-requires-clause-next
begin_version-requires-clause-next c =
    let a = c.self.inside in
    let v = c.args.version in
    let h = c.requires in
    let schema = c.newest_schema-schema.ensures
    ∙ schema_is c.args.self.now h.0 h.1 a.nothing a.versions.list.items c.self.invariant.nothing
    (ap (λ (k : Kept). k.versions) c.self.view_is) in
    h.2.found ∙ ap (λ (t : Tables). schema_after_each t (evolution_of v.op)) (sym schema)

pub begin_version-requires-clause-valid : goal.begin_version-requires-clause-valid
begin_version-requires-clause-valid c = c.requires.2.stamp

pub begin_version-requires-clause-there : goal.begin_version-requires-clause-there
begin_version-requires-clause-there c =
    let a = c.self.inside in
    subst (λ ts. AreWithin c.deref-2.result.now (length ts)) (sym c.deref.ensures.value)
    (subst (λ ps. AreWithin ps (length a.stored.items)) (sym c.deref-2.ensures.value)
    c.self.invariant.newest_there)

pub begin_version-requires-clause-ordered : goal.begin_version-requires-clause-ordered
begin_version-requires-clause-ordered c =
    let a = c.self.inside in
    subst (λ ts. Ascends bytes_cmp (stored_names (at_places ts c.deref-2.result.now)))
    (sym c.deref.ensures.value)
    (subst (λ ps. Ascends bytes_cmp (stored_names (at_places a.stored.items ps)))
    (sym c.deref-2.ensures.value) c.self.invariant.newest)

pub begin_version-requires-clause-stored : goal.begin_version-requires-clause-stored
begin_version-requires-clause-stored c =
    let a = c.self.inside in
    let v = c.args.version in
    let h = c.requires in
    let schema = c.newest_schema-schema.ensures
    ∙ schema_is c.args.self.now h.0 h.1 a.nothing a.versions.list.items c.self.invariant.nothing
    (ap (λ (k : Kept). k.versions) c.self.view_is) in
    let group : newest_group c.args.self.now ≡ at_places c.deref.result.now c.deref-2.result.now =
    ap newest_group (sym c.self.view_is) ∙ newest_is a c.self.invariant
    ∙ ap (λ ts. at_places ts a.newest.items) (sym c.deref.ensures.value)
    ∙ ap (at_places c.deref.result.now) (sym c.deref-2.ensures.value) in (
      newest_database h.0,
      subst (λ (t : Tables). IsDatabase t (newest_database h.0)) (sym schema) h.1.valid.database,
      subst (λ (t : Tables). AreStored t (newest_database h.0) v.stamp
          (at_places c.deref.result.now c.deref-2.result.now)) (sym schema)
          (subst (AreStored (newest_tables h.0) (newest_database h.0) v.stamp) group
          (stored_now c.args.self.now h.0 v.stamp (evolution_of v.op)
          (evolutions_of v.inverse.items)
          h.1 h.2.stamp h.2.accepted)),
    )

pub returns-in_err-tables-clause-same : goal.returns-in_err-tables-clause-same
returns-in_err-tables-clause-same c = is_same c.args.self.now

pub returns-clause-prepared : goal.returns-clause-prepared
returns-clause-prepared c = λ past represents checked.
    let a = c.self.inside in
    let version = c.args.version in
    let stamp = version.stamp in
    let op = evolution_of version.op in
    let inverse = evolutions_of version.inverse.items in
    let schema = c.newest_schema-schema.ensures
    ∙ schema_is c.args.self.now past represents a.nothing a.versions.list.items
    c.self.invariant.nothing (ap (λ (k : Kept). k.versions) c.self.view_is) in
    let group : newest_group c.args.self.now ≡ at_places c.deref.result.now c.deref-2.result.now =
    ap newest_group (sym c.self.view_is) ∙ newest_is a c.self.invariant
    ∙ ap (λ ts. at_places ts a.newest.items) (sym c.deref.ensures.value)
    ∙ ap (at_places c.deref.result.now) (sym c.deref-2.ensures.value) in
    let stored = subst (λ (t : Tables). AreStored t (newest_database past) stamp
    (at_places c.deref.result.now c.deref-2.result.now)) (sym schema)
    (subst (AreStored (newest_tables past) (newest_database past) stamp) group
    (stored_now c.args.self.now past stamp op inverse represents checked.stamp checked.accepted)) in
    let made = c.in_ok-tables.ensures (newest_database past)
    (subst (λ (t : Tables). IsDatabase t (newest_database past)) (sym schema)
    represents.valid.database) stored in
    let kept : c.deref.result.now ≡ c.args.self.now.stored = c.deref.ensures.value
    ∙ ap (λ (k : Kept). k.stored) c.self.view_is in
    let own : c.deref-2.result.now ≡ newest_places c.args.self.now = c.deref-2.ensures.value
    ∙ sym (newest_places_are a c.self.invariant) ∙ ap newest_places c.self.view_is in
    let number : c.newest-number.result + 1 ≡ length c.args.self.now.versions + 1 =
    ap (λ n. n + 1) c.newest-number.ensures in
    let begun = c.in_ok-tables.tables.begun.items in
    let places = c.in_ok-tables.tables.places.items in
    operator_ready c.args.self.now past stamp op inverse represents checked.stamp checked.accepted
    checked.constants c.reserve_version.new.self c.reserve_version.ensures.same
    c.reserve_version.ensures.stored
    c.in_ok-reserve_version.ensures.room version begun places
    (let n = c.len.ensures in let b = c.in_ok-reserve_version.ensures.beginnings in
    omega (arith, n, b))
    (subst (λ ts. IsEvolved ts (newest_places c.args.self.now) (length c.args.self.now.versions + 1)
    (newest_tables past) (newest_database past) stamp op inverse (version_of version) begun
    places) kept
    (subst (λ ps. IsEvolved c.deref.result.now ps (length c.args.self.now.versions + 1)
    (newest_tables past) (newest_database past) stamp op inverse (version_of version) begun
    places) own
    (subst (λ n. IsEvolved c.deref.result.now c.deref-2.result.now n (newest_tables past)
    (newest_database past) stamp op inverse (version_of version) begun places) number
    (subst (λ (t : Tables). IsEvolved c.deref.result.now c.deref-2.result.now
    (c.newest-number.result + 1) t (newest_database past) stamp op inverse (version_of version)
    begun places) schema made)))) _ refl refl refl refl
