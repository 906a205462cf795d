use Rattle.std.proofs.Common.{◌≡◌, ◌∙◌, ℕ, List, [], ◌∷◌, ap, sym, subst}
use Rattle.std.specs.Prelude.{None}
use Rattle.std.proofs.lemmas.Result.{IfOk-weaker}
use Rattle.std.specs.FinMap.{get}
use Rattle.schema_catalog.specs.Tables.{Tables}
use Rattle.smo_ops_spec.specs.After.{op_fault, IsValid, migrate}
use Rattle.smo_ops_spec.specs.Effects.{rows_under}
use Rattle.smo_ops_spec.specs.Evolutions.{evolution_fault, one_makes}
use Rattle.smo_ops_spec.proofs.OneMembers.{one_member_fault}
use Rattle.smo_ops_types.specs.Commands.{PlainVersion}
use Rattle.smo_ops_types.specs.Operators.{Operator, operator_of, evolutions_of}
use Rattle.version_groups_tables.specs.Evolving.{AreNext}
use Rattle.version_groups_tables.specs.MadeRows.{made_rows}
use Rattle.version_groups_tables.specs.Places.{at_places}
use Rattle.version_groups_tables.proofs.MigratedTables.{fit_after, others_after, next_evolved}
use Rattle.version_groups_tables.proofs.evolution.begin_version.Goals as goal

abbrev a_version : ℕ → List Operator → List (List Operator) → Tables → PlainVersion
a_version stamp op inverse tables = record {
  stamp = stamp;
  op = op;
  inverse = inverse;
  tables =
      tables;
}

its_fault : (before : Tables) (op : Operator) → evolution_fault before (op ∷ []) ≡ None
    → op_fault before op ≡ None
its_fault before op accepted = sym (one_member_fault before op) ∙ accepted

pub migrate_rows-requires-clause-accepted : goal.migrate_rows-requires-clause-accepted
migrate_rows-requires-clause-accepted c = its_fault c.args.before.now
    (operator_of c.args.version.now.op) c.requires.accepted

pub migrate_rows-requires-clause-stored : goal.migrate_rows-requires-clause-stored
migrate_rows-requires-clause-stored c = (
  c.args.version.now.stamp,
  c.requires.valid,
  c.requires.stored.0,
  c.requires.stored.1,
  c.requires.stored.2,
)

pub next_tables-requires-clause-schema : goal.next_tables-requires-clause-schema
next_tables-requires-clause-schema c =
    subst IsValid (sym c.requires.next) (c.next_schema_is_valid.ensures c.args.before.now
    (operator_of c.args.version.now.op) c.requires.schema
    (its_fault c.args.before.now (operator_of c.args.version.now.op) c.requires.accepted))

pub next_tables-requires-clause-relations : goal.next_tables-requires-clause-relations
next_tables-requires-clause-relations c =
    let v = c.args.version.now in
    let it = made_rows c.made.result c.in_ok-rows.rows in
    let h = c.requires.stored in
    fit_after c.args.before.now (operator_of v.op) h.0 v.stamp
    (at_places c.args.tables.now c.args.places.now) c.requires.schema.schema
    (its_fault c.args.before.now (operator_of v.op) c.requires.accepted) h.1 h.2 it
    (c.made.ensures.names c.args.before.now) (c.made.ensures.second c.args.before.now)
    (c.in_ok-rows.ensures v.stamp c.requires.valid h.0 h.1 h.2) v.schema c.requires.next

pub next_tables-requires-clause-others : goal.next_tables-requires-clause-others
next_tables-requires-clause-others c =
    let v = c.args.version.now in
    let it = made_rows c.made.result c.in_ok-rows.rows in
    let h = c.requires.stored in
    others_after c.args.before.now (operator_of v.op) h.0 v.stamp
    (at_places c.args.tables.now c.args.places.now) c.requires.schema.schema
    (its_fault c.args.before.now (operator_of v.op) c.requires.accepted) h.1 h.2 it
    (c.made.ensures.names c.args.before.now) (c.made.ensures.second c.args.before.now)
    (c.in_ok-rows.ensures v.stamp c.requires.valid h.0 h.1 h.2) v.schema c.requires.next

pub returns : goal.returns
returns c = λ database whole stored.
    let v = c.args.version.now in
    let op = operator_of v.op in
    let it = made_rows c.made.result c.in_ok-rows.rows in
    let group = at_places c.args.tables.now c.args.places.now in
    IfOk-weaker c.next_tables.result _ _
    (λ t h. record {
      version = ap (a_version v.stamp (op ∷ []) (evolutions_of v.inverse.items)) c.requires.next;
      tables = subst (λ (next : Tables). AreNext c.args.tables.now c.args.places.now c.args.number
          v.stamp (one_makes c.args.before.now (op ∷ []))
          (λ name. rows_under (get (migrate c.args.before.now op database) name)) next
          t.begun.items t.places.items)
          c.requires.next
          (next_evolved c.args.before.now op database v.stamp group c.requires.schema.schema
          (its_fault c.args.before.now op c.requires.accepted) whole stored it
          (c.made.ensures.names c.args.before.now) (c.made.ensures.second c.args.before.now)
          (c.in_ok-rows.ensures v.stamp c.requires.valid database whole stored) v.schema
          c.requires.next
          c.args.places.now c.args.number c.args.tables.now t.begun.items t.places.items h);
    })
    c.next_tables.ensures
