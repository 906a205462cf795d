use Rattle.std.proofs.Common.{◌≡◌, ◌∙◌, Bool, true, false, length, sym, ap, subst}
use Rattle.std.specs.Prelude.{IfOk, ◌||◌}
use Rattle.std.specs.Option.{option_copied}
use Rattle.prima_base.specs.Columns.{IsRelation}
use Rattle.smo_ops_spec.specs.OneRow.{Relation}
use Rattle.version_groups_tables.specs.Becoming.{Begins}
use Rattle.version_groups_tables.specs.Beginning.{BeginsWith}
use Rattle.version_groups_tables.specs.Evolving.{IsNextTable, Comes}
use Rattle.version_groups_tables.specs.MadeRows.{made_rows}
use Rattle.version_groups_tables.specs.Places.{at_places, IsFound}
use Rattle.version_groups_tables.specs.NewestTables.{is_name, next_rows, IsStoredBefore}
use Rattle.version_groups_tables.specs.Stored.{stored_as}
use Rattle.version_groups_tables.proofs.NextPlaces.{goes_there, is_there, neither_made, second_made}
use Rattle.version_groups_tables.proofs.NextPlaces.{made_unless_kept}
use Rattle.version_groups_tables.proofs.evolution.next_place.Goals as goal

pub begin_after-requires-in-None-clause-relation : goal.begin_after-requires-in-None-clause-relation
begin_after-requires-in-None-clause-relation c =
    let name = c.args.table.now.0 in
    let group = at_places c.args.tables.now c.args.places.now in
    let first : is_name (option_copied c.args.names.first) name ≡ false =
    ap (is_name (option_copied c.args.names.first)) (sym c.name.ensures.value)
    ∙ sym c.is_name.ensures ∙ c.if-is_name.false in
    let second : is_name (option_copied c.args.names.second) name ≡ true =
    made_unless_kept (IsStoredBefore c.args.stamp c.args.table.now.1) (stored_as name group)
    (is_name (option_copied c.args.names.second) name) c.is_name-2.result (λ h. h)
    (ap (is_name (option_copied c.args.names.second)) (sym c.name-3.ensures.value)
    ∙ sym c.is_name-2.ensures)
    (λ e. ap (λ n. stored_as n group) (sym c.name-2.ensures.value) ∙ c.in-None.ensures e)
    (c.requires.others first) in
    let made = made_rows c.args.names c.args.rows.now in
    let own = second_made made c.args.stamp group name first second in
    subst (IsRelation c.args.table.now.1) (own ∙ sym c.deref-in-None.ensures.value)
    c.requires.relation

pub returns-in-Some-clause-next : goal.returns-in-Some-clause-next
returns-in-Some-clause-next c =
    let name = c.args.table.now.0 in
    let group = at_places c.args.tables.now c.args.places.now in
    let first : is_name (option_copied c.args.names.first) name ≡ false =
    ap (is_name (option_copied c.args.names.first)) (sym c.name.ensures.value)
    ∙ sym c.is_name.ensures ∙ c.if-is_name.false in
    let second : is_name (option_copied c.args.names.second) name ≡ false =
    ap (is_name (option_copied c.args.names.second)) (sym c.name-3.ensures.value)
    ∙ sym c.is_name-2.ensures ∙ c.in-Some.ensures.0 in
    let found : IsFound c.args.tables.now c.args.places.now name c.in-Some.place
    c.in-Some.field-0-1.now =
    subst (λ n. IsFound c.args.tables.now c.args.places.now n c.in-Some.place
    c.in-Some.field-0-1.now) c.name-2.ensures.value c.in-Some.ensures.1 in
    subst (λ (rows : Relation). IsNextTable c.args.tables.now c.args.begun.now.items
    c.args.begun.now.items c.in-Some.place name (Begins c.args.table.now.1 c.args.stamp rows))
    (sym (neither_made (made_rows c.args.names c.args.rows.now) c.args.stamp group name first
    second))
    (goes_there c.args.tables.now c.args.begun.now.items c.args.places.now c.in-Some.place name
    c.args.table.now.1 c.args.stamp c.in-Some.field-0-1.now found (c.requires.others first second))

pub returns-in-Some-clause-there : goal.returns-in-Some-clause-there
returns-in-Some-clause-there c =
    let name = c.args.table.now.0 in
    let found : IsFound c.args.tables.now c.args.places.now name c.in-Some.place
    c.in-Some.field-0-1.now =
    subst (λ n. IsFound c.args.tables.now c.args.places.now n c.in-Some.place
    c.in-Some.field-0-1.now) c.name-2.ensures.value c.in-Some.ensures.1 in
    is_there c.args.tables.now c.args.places.now c.in-Some.place name
    (length c.args.begun.now.items) c.in-Some.field-0-1.now found

pub returns-in-None-clause-next : goal.returns-in-None-clause-next
returns-in-None-clause-next c =
    let name = c.args.table.now.0 in
    let group = at_places c.args.tables.now c.args.places.now in
    let first : is_name (option_copied c.args.names.first) name ≡ false =
    ap (is_name (option_copied c.args.names.first)) (sym c.name.ensures.value)
    ∙ sym c.is_name.ensures ∙ c.if-is_name.false in
    let second : is_name (option_copied c.args.names.second) name ≡ true =
    made_unless_kept (IsStoredBefore c.args.stamp c.args.table.now.1) (stored_as name group)
    (is_name (option_copied c.args.names.second) name) c.is_name-2.result (λ h. h)
    (ap (is_name (option_copied c.args.names.second)) (sym c.name-3.ensures.value)
    ∙ sym c.is_name-2.ensures)
    (λ e. ap (λ n. stored_as n group) (sym c.name-2.ensures.value) ∙ c.in-None.ensures e)
    (c.requires.others first) in
    let made = made_rows c.args.names c.args.rows.now in
    let own = second_made made c.args.stamp group name first second in
    subst (λ (rows : Relation). IfOk c.begin_after-in-None.result
    (λ p. IsNextTable c.args.tables.now c.args.begun.now.items
    c.begin_after-in-None.new.begun.items p name
    (Begins c.args.table.now.1 c.args.stamp rows))) (c.deref-in-None.ensures.value ∙ sym own)
    c.begin_after-in-None.ensures.next

pub returns-in-None-clause-comes : goal.returns-in-None-clause-comes
returns-in-None-clause-comes c =
    let name = c.args.table.now.0 in
    let group = at_places c.args.tables.now c.args.places.now in
    let first : is_name (option_copied c.args.names.first) name ≡ false =
    ap (is_name (option_copied c.args.names.first)) (sym c.name.ensures.value)
    ∙ sym c.is_name.ensures ∙ c.if-is_name.false in
    let second : is_name (option_copied c.args.names.second) name ≡ true =
    made_unless_kept (IsStoredBefore c.args.stamp c.args.table.now.1) (stored_as name group)
    (is_name (option_copied c.args.names.second) name) c.is_name-2.result (λ h. h)
    (ap (is_name (option_copied c.args.names.second)) (sym c.name-3.ensures.value)
    ∙ sym c.is_name-2.ensures)
    (λ e. ap (λ n. stored_as n group) (sym c.name-2.ensures.value) ∙ c.in-None.ensures e)
    (c.requires.others first) in
    let made = made_rows c.args.names c.args.rows.now in
    let own = second_made made c.args.stamp group name first second in
    let P : Bool → Relation → Type 0 = λ is_made rows. IfOk c.begin_after-in-None.result
    (λ p. Comes is_made c.args.tables.now c.args.begun.now.items
    c.begin_after-in-None.new.begun.items c.args.places.now p name
    (BeginsWith c.args.version c.args.stamp (λ name. rows) c.args.table.now)) in
    let rows = next_rows made c.args.stamp group name in
    subst (λ b. P b rows) (sym (ap (λ b. b || is_name made.second name) first ∙ second))
    (subst (P true) (c.deref-in-None.ensures.value ∙ sym own) c.begin_after-in-None.ensures.begun)
