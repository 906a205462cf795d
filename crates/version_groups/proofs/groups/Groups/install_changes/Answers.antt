use Rattle.std.proofs.Common.{◌≡◌, get_or, refl, sym, ap, subst, ◌∙◌}
use Rattle.std.specs.Prelude.{List, ℕ, length}
use Rattle.relations_spec.specs.Sets.{In, Ascends}
use Rattle.prima_base.specs.Order.{bytes_cmp}
use Rattle.version_groups_tables.specs.declared.made_table.MadeTable.{MadeTable}
use Rattle.version_groups_tables.specs.Stored.{stored_names}
use Rattle.version_groups_tables.specs.Places.{at_places, AreWithin}
use Rattle.version_groups_tables.specs.Changing.{HaveRoom, AreMade}
use Rattle.version_groups.specs.declared.groups.Groups.TheInside.{Inside}
use Rattle.version_groups.specs.Groups.{Kept, newest_group}
use Rattle.version_groups.specs.GroupFields.{groups_view}
use Rattle.version_groups.specs.Installing.{HasChanges}
use Rattle.version_groups.proofs.GroupPlaces.{newest_is, are_groups, names_made, lines_made}
use Rattle.version_groups.proofs.GroupPlaces.{has_changes}
use Rattle.version_groups.proofs.groups.Groups.install_changes.Goals as goal

pub install_tables-requires-clause-there : goal.install_tables-requires-clause-there
install_tables-requires-clause-there c = subst
    (λ ps. AreWithin ps (length c.self.inside.stored.items)) (sym c.deref.ensures.value)
    c.self.invariant.newest_there

pub install_tables-requires-clause-ordered : goal.install_tables-requires-clause-ordered
install_tables-requires-clause-ordered c = subst
    (λ ps. Ascends bytes_cmp (stored_names (at_places c.self.inside.stored.items ps)))
    (sym c.deref.ensures.value) c.self.invariant.newest

pub install_tables-requires-clause-room : goal.install_tables-requires-clause-room
install_tables-requires-clause-room c =
    let a = c.self.inside in
    let group : newest_group c.args.self.now ≡ at_places a.stored.items c.deref.result.now =
    ap newest_group (sym c.self.view_is) ∙ newest_is a c.self.invariant
    ∙ ap (at_places a.stored.items) (sym c.deref.ensures.value) in
    subst (λ (ts : List MadeTable). HaveRoom ts c.args.prepared.items) group c.requires

pub invariant_of-self : goal.invariant_of-self
invariant_of-self c =
    let a = c.self.inside in
    let b : Inside = record a { stored = c.install_tables.new.tables } in
    are_groups a b refl refl refl c.self.invariant refl
    (names_made c.args.prepared.items a.stored.items c.install_tables.new.tables.items
    c.install_tables.ensures.each)
    (lines_made c.args.prepared.items a.stored.items c.install_tables.new.tables.items
    c.install_tables.ensures.each)

pub returns : goal.returns
returns c =
    let a = c.self.inside in
    let b : Inside = record a { stored = c.install_tables.new.tables } in
    let made = subst (λ (ps : List ℕ). AreMade (at_places a.stored.items ps) c.args.prepared.items
    (at_places b.stored.items ps)) c.deref.ensures.value c.install_tables.ensures.made in
    let others = subst (λ (ps : List ℕ). (p : ℕ) (d : MadeTable) → (In p ps → ⊥)
    → get_or b.stored.items p d ≡ get_or a.stored.items p d) c.deref.ensures.value
    c.install_tables.ensures.others in
    subst (λ (k : Kept). HasChanges k (groups_view b) c.args.prepared.items) c.self.view_is
    (has_changes a b refl refl refl c.self.invariant c.args.prepared.items made
    c.install_tables.ensures.each others)
