use Rattle.std.proofs.Common.{◌≡◌, refl, sym, ap, subst, ◌∙◌, arith}
use Rattle.relations_spec.specs.Sets.{Ascends}
use Rattle.prima_base.specs.Order.{bytes_cmp}
use Rattle.schema_catalog.specs.Tables.{Tables}
use Rattle.smo_ops_types.specs.Changes.{changes_of}
use Rattle.smo_ops.specs.TablePlaces.{StandAt}
use Rattle.version_groups_tables.specs.declared.made_table.MadeTable.{MadeTable}
use Rattle.version_groups_tables.specs.Stored.{stored_names}
use Rattle.std.specs.Prelude.{List, length}
use Rattle.version_groups_tables.specs.Changing.{AreChangeable, AreOfSchema, ArePrepared}
use Rattle.version_groups_tables.specs.Changing.{all_gained}
use Rattle.version_groups_tables.specs.Changing.{all_lost}
use Rattle.version_groups_tables.specs.Places.{at_places, AreWithin}
use Rattle.version_groups.specs.declared.groups.Groups.TheInside.{Inside}
use Rattle.version_groups.specs.Groups.{Kept, newest_group}
use Rattle.version_groups.specs.GroupFields.{groups_view}
use Rattle.version_groups.specs.Room.{IsSame}
use Rattle.version_groups.proofs.GroupPlaces.{newest_is, view_same, are_groups, names_kept}
use Rattle.version_groups.proofs.GroupPlaces.{lines_kept}
use Rattle.version_groups.proofs.PreparedCommands.{schema_is, of_newest_schema, changeable_now}
use Rattle.version_groups.proofs.PreparedCommands.{changes_ready}
use Rattle.version_groups.proofs.groups.Groups.prepare_changes.Goals as goal

pub prepare_tables-requires-clause-there : goal.prepare_tables-requires-clause-there
prepare_tables-requires-clause-there c = subst
    (λ ps. AreWithin ps (length c.self.inside.stored.items)) (sym c.deref.ensures.value)
    c.self.invariant.newest_there

pub prepare_tables-requires-clause-ordered : goal.prepare_tables-requires-clause-ordered
prepare_tables-requires-clause-ordered c = subst
    (λ ps. Ascends bytes_cmp (stored_names (at_places c.self.inside.stored.items ps)))
    (sym c.deref.ensures.value) c.self.invariant.newest

pub prepare_tables-requires-clause-schema : goal.prepare_tables-requires-clause-schema
prepare_tables-requires-clause-schema c =
    let a = c.self.inside in
    let h = c.requires.accepted in
    let own : newest_group c.args.self.now ≡ at_places a.stored.items a.newest.items =
    ap newest_group (sym c.self.view_is) ∙ newest_is a c.self.invariant in
    let group : newest_group c.args.self.now ≡ at_places a.stored.items c.deref.result.now = own
    ∙ ap (at_places a.stored.items) (sym c.deref.ensures.value) in
    let ordered : Ascends bytes_cmp (stored_names (newest_group c.args.self.now)) =
    subst (λ (ts : List MadeTable). Ascends bytes_cmp (stored_names ts)) (sym own)
    c.self.invariant.newest in
    let schema = c.newest_schema-schema.ensures
    ∙ schema_is c.args.self.now h.0 h.1 a.nothing a.versions.list.items c.self.invariant.nothing
    (ap (λ (k : Kept). k.versions) c.self.view_is) in
    subst (λ (t : Tables). AreOfSchema t (at_places a.stored.items c.deref.result.now)) (sym schema)
    (subst (AreOfSchema _) group
    (of_newest_schema c.args.self.now h.0 c.args.stamp (changes_of c.args.changes.now) h.1
    c.requires.valid h.2 ordered))

pub prepare_tables-requires-clause-changes : goal.prepare_tables-requires-clause-changes
prepare_tables-requires-clause-changes c =
    let a = c.self.inside in
    let h = c.requires.accepted in
    let schema = c.newest_schema-schema.ensures
    ∙ schema_is c.args.self.now h.0 h.1 a.nothing a.versions.list.items c.self.invariant.nothing
    (ap (λ (k : Kept). k.versions) c.self.view_is) in
    subst (λ (t : Tables). StandAt t (changes_of c.args.changes.now) c.args.places.now) (sym schema)
    h.3

pub prepare_tables-requires-clause-changeable : goal.prepare_tables-requires-clause-changeable
prepare_tables-requires-clause-changeable c =
    let a = c.self.inside in
    let h = c.requires.accepted in
    let own : newest_group c.args.self.now ≡ at_places a.stored.items a.newest.items =
    ap newest_group (sym c.self.view_is) ∙ newest_is a c.self.invariant in
    let group : newest_group c.args.self.now ≡ at_places a.stored.items c.deref.result.now = own
    ∙ ap (at_places a.stored.items) (sym c.deref.ensures.value) in
    let ordered : Ascends bytes_cmp (stored_names (newest_group c.args.self.now)) =
    subst (λ (ts : List MadeTable). Ascends bytes_cmp (stored_names ts)) (sym own)
    c.self.invariant.newest in
    subst (AreChangeable c.args.stamp (changes_of c.args.changes.now)) group
    (changeable_now c.args.self.now h.0 c.args.stamp (changes_of c.args.changes.now) h.1
    c.requires.valid h.2 ordered)

pub invariant_of-self : goal.invariant_of-self
invariant_of-self c =
    let a = c.self.inside in
    let b : Inside = record a { stored = c.prepare_tables.new.tables } in
    are_groups a b refl refl refl c.self.invariant refl
    (names_kept a.stored.items c.prepare_tables.new.tables.items c.prepare_tables.ensures.same)
    (lines_kept a.stored.items c.prepare_tables.new.tables.items c.prepare_tables.ensures.same)

pub returns-clause-same : goal.returns-clause-same
returns-clause-same c =
    let a = c.self.inside in
    let b : Inside = record a { stored = c.prepare_tables.new.tables } in
    subst (λ (k : Kept). IsSame k (groups_view b)) c.self.view_is
    (view_same a b refl refl refl c.prepare_tables.ensures.same (omega arith) (omega arith))

pub returns-clause-prepared : goal.returns-clause-prepared
returns-clause-prepared c = λ past represents accepted.
    let a = c.self.inside in
    let b : Inside = record a { stored = c.prepare_tables.new.tables } in
    let its = changes_of c.args.changes.now in
    let own : newest_group c.args.self.now ≡ at_places a.stored.items a.newest.items =
    ap newest_group (sym c.self.view_is) ∙ newest_is a c.self.invariant in
    let group : newest_group c.args.self.now ≡ at_places a.stored.items c.deref.result.now = own
    ∙ ap (at_places a.stored.items) (sym c.deref.ensures.value) in
    let ordered : Ascends bytes_cmp (stored_names (newest_group c.args.self.now)) =
    subst (λ (ts : List MadeTable). Ascends bytes_cmp (stored_names ts)) (sym own)
    c.self.invariant.newest in
    let same : IsSame c.args.self.now (groups_view b) =
    subst (λ (k : Kept). IsSame k (groups_view b)) c.self.view_is
    (view_same a b refl refl refl c.prepare_tables.ensures.same (omega arith) (omega arith)) in
    let now : newest_group (groups_view b) ≡ at_places b.stored.items c.deref.result.now =
    newest_is b
    (are_groups a b refl refl refl c.self.invariant refl
    (names_kept a.stored.items c.prepare_tables.new.tables.items c.prepare_tables.ensures.same)
    (lines_kept a.stored.items c.prepare_tables.new.tables.items c.prepare_tables.ensures.same))
    ∙ ap (at_places b.stored.items) (sym c.deref.ensures.value) in
    changes_ready c.args.self.now past c.args.stamp its represents c.requires.valid accepted ordered
    c.requires.constants (groups_view b) same c.in_ok-made.made.prepared.items
    (subst (λ (ts : List MadeTable). ArePrepared c.args.stamp its ts
    c.in_ok-made.made.prepared.items)
    (sym now) c.in_ok-made.ensures.ready) _ refl refl
    (c.in_ok-made.ensures.gained ∙ ap (all_gained c.args.stamp its) (sym group))
    (c.in_ok-made.ensures.lost ∙ ap (all_lost c.args.stamp its) (sym group))

pub returns-in_err-made-clause-same : goal.returns-in_err-made-clause-same
returns-in_err-made-clause-same c =
    let a = c.self.inside in
    let b : Inside = record a { stored = c.prepare_tables.new.tables } in
    subst (λ (k : Kept). IsSame k (groups_view b)) c.self.view_is
    (view_same a b refl refl refl c.prepare_tables.ensures.same (omega arith) (omega arith))

pub invariant_of-self-2 : goal.invariant_of-self-2
invariant_of-self-2 c =
    let a = c.self.inside in
    let b : Inside = record a { stored = c.prepare_tables.new.tables } in
    are_groups a b refl refl refl c.self.invariant refl
    (names_kept a.stored.items c.prepare_tables.new.tables.items c.prepare_tables.ensures.same)
    (lines_kept a.stored.items c.prepare_tables.new.tables.items c.prepare_tables.ensures.same)
