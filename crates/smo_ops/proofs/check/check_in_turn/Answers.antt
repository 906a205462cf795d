use Rattle.std.proofs.Common.{refl, ap, ◌≡◌, ◌+◌, ◌∙◌, arith}
use Rattle.std.specs.Prelude.{map}
use Rattle.std.proofs.lemmas.Result.{err_from_is_err_and}
use Rattle.std.proofs.lemmas.List.{length-map}
use Rattle.schema_catalog.specs.Tables.{name_at}
use Rattle.smo_ops_types.specs.Changes.{change_of, changes_of}
use Rattle.smo_ops_spec.specs.Checks.{change_fault, changes_fault, change_nodes}
use Rattle.smo_ops.proofs.SmallLaws.{counted_few, counted_small, few_nodes}
use Rattle.smo_ops.proofs.ManyChanges.{change_refused, change_accepted, change_is_small}
use Rattle.smo_ops.proofs.ManyChanges.{one_more_stands}
use Rattle.smo_ops.proofs.PassedOn.{passed_on}
use Rattle.smo_ops.proofs.check.check_in_turn.Goals as goal

pub loop-change-init : goal.loop-change-init
loop-change-init c = record {
  faults = refl;
  small = counted_small (changes_of c.args.changes.now) c.requires.counted;
  nodes = omega arith;
  tables = ap (map (name_at c.args.schema.now)) c.in_ok-places.ensures;
}

pub check_change-requires-clause-small : goal.check_change-requires-clause-small
check_change-requires-clause-small c = (change_is_small c.args.changes.now
    c.loop-change.change-index c.change-item.result c.loop-change-test.true c.change-item.is
    c.loop-change.invariant.small).0

pub check_change-requires-clause-place : goal.check_change-requires-clause-place
check_change-requires-clause-place c =
    let few = counted_few (changes_of c.args.changes.now) c.requires.counted in
    let count = length-map c.args.changes.now change_of in
    omega arith

pub returns-in_err-checked-clause-checked : goal.returns-in_err-checked-clause-checked
returns-in_err-checked-clause-checked c =
    let p = err_from_is_err_and c.from_residual-in_err-checked.result
    c.from_residual-in_err-checked.ensures.1 in
    rw (p.1, p.2)
    (passed_on (change_fault c.args.schema.now (change_of c.change-item.result) c.loop-change.at)
    (changes_fault c.args.schema.now (changes_of c.args.changes.now))
    c.in_err-checked.field-0.0
    (λ r h. c.loop-change.invariant.faults
    ∙ change_refused c.args.schema.now c.args.changes.now c.loop-change.change-index
    c.loop-change.at c.change-item.result c.loop-change-test.true c.change-item.is r h)
    c.in_err-checked.ensures.checked)

pub loop-change-preserved : goal.loop-change-preserved
loop-change-preserved c =
    let small = change_is_small c.args.changes.now c.loop-change.change-index c.change-item.result
    c.loop-change-test.true c.change-item.is c.loop-change.invariant.small in
    let few = few_nodes c.args.schema.now (change_of c.change-item.result) c.loop-change.at
    c.in_ok-checked.ensures.valid c.requires.narrow small.0
    c.in_ok-checked.ensures.checked in
    let next : c.in_ok-checked.checked.next
    ≡ c.loop-change.at + change_nodes (change_of c.change-item.result) =
    c.in_ok-checked.ensures.next in
    record {
      faults = c.loop-change.invariant.faults
          ∙ change_accepted c.args.schema.now c.args.changes.now c.loop-change.change-index
          c.loop-change.at c.change-item.result c.loop-change-test.true c.change-item.is
          c.in_ok-checked.checked.next next c.in_ok-checked.ensures.checked;
      small = small.1;
      nodes = omega arith;
      tables = one_more_stands c.args.schema.now c.args.changes.now c.loop-change.change-index
          c.change-item.result c.loop-change.places.items c.put_place.new.places.items
          c.in_ok-checked.checked.place c.loop-change-test.true c.change-item.is
          c.in_ok-put_place.ensures c.in_ok-checked.ensures.table c.loop-change.invariant.tables;
    }
