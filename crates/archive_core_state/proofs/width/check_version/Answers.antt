use Rattle.std.proofs.Common.{◌≡◌, List, sym, ap, subst}
use Rattle.std.specs.Prelude.{None}
use Rattle.prima_base.specs.Faults.{IsTested}
use Rattle.smo_ops_types.specs.Operators.{Operator, evolution_of, evolutions_of}
use Rattle.smo_ops_types.specs.Commands.{versions_of}
use Rattle.smo_ops_spec.specs.Checks.{Fault}
use Rattle.smo_ops_spec.specs.After.{AllHaveFewNodes}
use Rattle.smo_ops_spec.specs.Inverses.{inverse_fault}
use Rattle.smo_ops_spec.specs.Past.{no_tables, newest_from}
use Rattle.smo_ops_widths.specs.Widths.{widest, with_version}
use Rattle.archive_core_state.proofs.AcceptedWidths.{past_versions, operator_met, inverse_met}
use Rattle.archive_core_state.proofs.AcceptedWidths.{few_nodes, few_nodes_each, measured}
use Rattle.archive_core_state.proofs.width.check_version.Goals as goal

pub widest-requires-clause-versions : goal.widest-requires-clause-versions
widest-requires-clause-versions c = past_versions c.args.groups.now c.requires.0 c.requires.1
    c.versions.result.now c.versions.ensures

pub widest-requires-clause-accepted : goal.widest-requires-clause-accepted
widest-requires-clause-accepted c =
    let v = c.args.version.now in
    operator_met c.args.groups.now c.requires.0 c.requires.1 c.versions.result.now
    c.versions.ensures v.stamp (evolution_of v.op) (evolutions_of v.inverse.items) c.requires.2

pub widest-requires-clause-inverse : goal.widest-requires-clause-inverse
widest-requires-clause-inverse c =
    let v = c.args.version.now in
    subst (λ (inverse : List (List Operator)). inverse_fault (newest_from no_tables (versions_of
    c.versions.result.now)) (evolution_of v.op) inverse ≡ None)
    (sym (ap evolutions_of c.deref.ensures.value))
    (inverse_met c.args.groups.now c.requires.0 c.requires.1 c.versions.result.now
    c.versions.ensures v.stamp (evolution_of v.op) (evolutions_of v.inverse.items) c.requires.2)

pub widest-requires-clause-operator : goal.widest-requires-clause-operator
widest-requires-clause-operator c =
    let v = c.args.version.now in
    few_nodes c.args.groups.now c.requires.0 c.requires.1 c.versions.result.now
    c.versions.ensures v.stamp (evolution_of v.op) (evolutions_of v.inverse.items) c.requires.2

pub widest-requires-clause-few : goal.widest-requires-clause-few
widest-requires-clause-few c =
    let v = c.args.version.now in
    subst AllHaveFewNodes (sym (ap evolutions_of c.deref.ensures.value))
    (few_nodes_each c.args.groups.now c.requires.0 c.requires.1 c.versions.result.now
    c.versions.ensures v.stamp (evolution_of v.op) (evolutions_of v.inverse.items) c.requires.2)

pub returns : goal.returns
returns c past represents =
    let v = c.args.version.now in
    let measure = subst (λ (inverse : List (List Operator)). c.in_ok-measure.measure ≡ widest
    (with_version (versions_of c.versions.result.now) v.stamp (evolution_of v.op) inverse))
    (ap evolutions_of c.deref.ensures.value) (c.in_ok-measure.ensures v.stamp) in
    subst (λ (fault : Fault). IsTested fault c.check_measure.result)
    (measured c.args.groups.now past represents c.versions.result.now c.versions.ensures v.stamp
    (evolution_of v.op) (evolutions_of v.inverse.items) c.in_ok-measure.measure measure)
    c.check_measure.ensures
