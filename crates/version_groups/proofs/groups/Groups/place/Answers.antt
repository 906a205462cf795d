use Rattle.std.proofs.Common.{◌≡◌, ℕ, List, ap, sym, subst, ◌∙◌}
use Rattle.std.specs.Prelude.{Option, None, MatchOption}
use Rattle.version_groups_tables.specs.declared.made_table.MadeTable.{MadeTable}
use Rattle.version_groups_tables.specs.Stored.{stored_as}
use Rattle.version_groups_tables.specs.Places.{at_places, IsFound}
use Rattle.version_groups.specs.Covering.{AreOfLifelines}
use Rattle.version_groups.specs.Groups.{Kept, places_of, stored_at, table_in}
use Rattle.version_groups.proofs.Covered.{found_over, none_over, none_later}
use Rattle.version_groups.proofs.groups.Groups.place.Goals as goal

pub returns-in_err-places-clause-lifeline : goal.returns-in_err-places-clause-lifeline
returns-in_err-places-clause-lifeline c = c.from_residual.ensures
    ∙ none_later c.args.self.now c.args.version c.args.name.now c.in_err-places.ensures.0

pub returns-in_err-places-clause-stored : goal.returns-in_err-places-clause-stored
returns-in_err-places-clause-stored c =
    let none : table_in c.args.self.now c.args.version c.args.name.now ≡ None =
    ap (λ ps. stored_as c.args.name.now (at_places c.args.self.now.stored ps))
    c.in_err-places.ensures.1 in
    subst (λ (o : Option ℕ). MatchOption o (table_in c.args.self.now c.args.version c.args.name.now
    ≡ None) (λ p. stored_at c.args.self.now p
    ≡ table_in c.args.self.now c.args.version c.args.name.now))
    (sym c.from_residual.ensures) none

pub returns-in-Some-clause-lifeline : goal.returns-in-Some-clause-lifeline
returns-in-Some-clause-lifeline c =
    let kept : c.deref.result.now ≡ c.args.self.now.stored = c.deref.ensures.value
    ∙ ap (λ (k : Kept). k.stored) c.self.view_is in
    let own = c.in_ok-places.ensures in
    found_over c.args.self.now (subst AreOfLifelines c.self.view_is c.self.invariant.lifelines)
    c.args.version c.args.name.now own.0 c.in-Some.place c.in-Some.field-0-1.now
    (subst (λ (ts : List MadeTable). IsFound ts (places_of c.args.self.now c.args.version)
    c.args.name.now c.in-Some.place c.in-Some.field-0-1.now) kept
    (subst (λ (ps : List ℕ). IsFound c.deref.result.now ps c.args.name.now c.in-Some.place
    c.in-Some.field-0-1.now) own.1 c.in-Some.ensures))

pub returns-in-None-clause-lifeline : goal.returns-in-None-clause-lifeline
returns-in-None-clause-lifeline c =
    let kept : c.deref.result.now ≡ c.args.self.now.stored = c.deref.ensures.value
    ∙ ap (λ (k : Kept). k.stored) c.self.view_is in
    let own = c.in_ok-places.ensures in
    none_over c.args.self.now (subst AreOfLifelines c.self.view_is c.self.invariant.lifelines)
    c.args.version c.args.name.now own.0
    (ap (λ (ts : List MadeTable). stored_as c.args.name.now
    (at_places ts (places_of c.args.self.now c.args.version))) (sym kept)
    ∙ ap (λ (ps : List ℕ). stored_as c.args.name.now (at_places c.deref.result.now ps)) (sym own.1)
    ∙ c.in-None.ensures)
