use Rattle.std.proofs.Common.{◌≡◌, ◌∙◌, Bool, true, false, List, ℕ, length, ap, sym, subst}
use Rattle.std.specs.Prelude.{IfOk, OnOk}
use Rattle.std.specs.Vec.Iter.{into_iter_items}
use Rattle.prima_base.specs.Columns.{Column}
use Rattle.smo_ops_operators.specs.Names.{is_one_of}
use Rattle.version_groups_tables.specs.Places.{at_places, IsFound}
use Rattle.version_groups_tables.specs.Stored.{stored_as}
use Rattle.version_groups_tables.specs.Evolving.{Comes}
use Rattle.version_groups_tables.specs.Restoring.{HaveColumns, with_made, BeginsOver, IsStored}
use Rattle.version_groups_tables.proofs.NextPlaces.{is_there, made_unless_kept}
use Rattle.version_groups_tables.proofs.RestoredTables.{goes_over}
use Rattle.version_groups_tables.proofs.restoration.restored_place.Goals as goal

pub begin_over-requires : goal.begin_over-requires
begin_over-requires c =
    let name = c.args.table.now.0 in
    let group = at_places c.args.tables.now c.args.places.now in
    let made : is_one_of c.args.names name ≡ true =
    made_unless_kept (IsStored c.args.table.now.1) (stored_as name group)
    (is_one_of c.args.names name) c.has.result (λ h. h)
    (ap (is_one_of c.args.names) (sym c.name-2.ensures.value) ∙ sym c.has.ensures)
    (λ e. ap (λ n. stored_as n group) (sym c.name.ensures.value) ∙ c.in-None.ensures e)
    c.requires.others in record {
      due = (
        c.requires.due.0,
        subst (λ (b : Bool). HaveColumns (into_iter_items c.args.stores.now)
            (with_made b c.args.table.now c.requires.due.0)) made c.requires.due.1,
      );
    }

pub returns-in-Some-clause-next : goal.returns-in-Some-clause-next
returns-in-Some-clause-next c =
    let name = c.args.table.now.0 in
    let unmade : is_one_of c.args.names name ≡ false =
    ap (is_one_of c.args.names) (sym c.name-2.ensures.value) ∙ sym c.has.ensures
    ∙ c.in-Some.ensures.0 in
    let found : IsFound c.args.tables.now c.args.places.now name c.in-Some.place
    c.in-Some.field-0-1.now =
    subst (λ n. IsFound c.args.tables.now c.args.places.now n c.in-Some.place
    c.in-Some.field-0-1.now) c.name.ensures.value c.in-Some.ensures.1 in
    goes_over c.args.tables.now c.args.begun.now.items c.args.places.now c.in-Some.place name
    c.args.table.now.1 c.in-Some.field-0-1.now found (c.requires.others unmade)

pub returns-in-Some-clause-there : goal.returns-in-Some-clause-there
returns-in-Some-clause-there c =
    let found : IsFound c.args.tables.now c.args.places.now c.args.table.now.0 c.in-Some.place
    c.in-Some.field-0-1.now =
    subst (λ n. IsFound c.args.tables.now c.args.places.now n c.in-Some.place
    c.in-Some.field-0-1.now) c.name.ensures.value c.in-Some.ensures.1 in
    is_there c.args.tables.now c.args.places.now c.in-Some.place c.args.table.now.0
    (length c.args.begun.now.items) c.in-Some.field-0-1.now found

pub returns-in-None-clause-comes : goal.returns-in-None-clause-comes
returns-in-None-clause-comes c =
    let name = c.args.table.now.0 in
    let group = at_places c.args.tables.now c.args.places.now in
    let made : is_one_of c.args.names name ≡ true =
    made_unless_kept (IsStored c.args.table.now.1) (stored_as name group)
    (is_one_of c.args.names name) c.has.result (λ h. h)
    (ap (is_one_of c.args.names) (sym c.name-2.ensures.value) ∙ sym c.has.ensures)
    (λ e. ap (λ n. stored_as n group) (sym c.name.ensures.value) ∙ c.in-None.ensures e)
    c.requires.others in
    subst (λ (b : Bool). IfOk c.begin_over.result (λ p. Comes b c.args.tables.now
    c.args.begun.now.items c.begin_over.new.begun.items c.args.places.now p name
    (BeginsOver c.args.version c.args.table.now))) (sym made) c.begin_over.ensures.begun

pub returns-in-None-clause-due : goal.returns-in-None-clause-due
returns-in-None-clause-due c =
    let name = c.args.table.now.0 in
    let group = at_places c.args.tables.now c.args.places.now in
    let made : is_one_of c.args.names name ≡ true =
    made_unless_kept (IsStored c.args.table.now.1) (stored_as name group)
    (is_one_of c.args.names name) c.has.result (λ h. h)
    (ap (is_one_of c.args.names) (sym c.name-2.ensures.value) ∙ sym c.has.ensures)
    (λ e. ap (λ n. stored_as n group) (sym c.name.ensures.value) ∙ c.in-None.ensures e)
    c.requires.others in
    subst (λ (b : Bool). (more : List (List ℕ × List Column))
    → HaveColumns (into_iter_items c.args.stores.now) (with_made b c.args.table.now more)
    → OnOk c.begin_over.result (HaveColumns (into_iter_items c.begin_over.new.stores) more))
    (sym made) c.begin_over.ensures.due
