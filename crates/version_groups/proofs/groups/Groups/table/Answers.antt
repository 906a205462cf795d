use Rattle.std.proofs.Common.{◌≡◌, ◌<◌, ℕ, List, get_or, length, ap, sym, subst, ◌∙◌, arith}
use Rattle.std.specs.Prelude.{Some, slice_get}
use Rattle.std.specs.Option.{option_copied}
use Rattle.std.proofs.lemmas.Option.{slice_get_within, get_or_from_slice_get}
use Rattle.smo_ops_types.specs.Commands.{PlainVersion}
use Rattle.smo_ops_spec.specs.Past.{Past}
use Rattle.smo_ops_spec.specs.Sizes.{Size}
use Rattle.version_groups_tables.specs.declared.made_table.MadeTable.{MadeTable}
use Rattle.version_groups_tables.specs.Stored.{stored_as}
use Rattle.version_groups_tables.specs.Places.{at_places, IsFound}
use Rattle.version_groups.specs.Covering.{AreOfLifelines}
use Rattle.version_groups.specs.Groups.{Kept, places_of}
use Rattle.version_groups.specs.Lifelines.{place_in}
use Rattle.version_groups.specs.Representation.{Represents}
use Rattle.version_groups.specs.Sizes.{HasSize, KeepsSize}
use Rattle.version_groups.proofs.Covered.{found_over}
use Rattle.version_groups.proofs.groups.Groups.table.Goals as goal

-- a table that stands at a place has the size that stands there
kept_size : (kept : Kept) (past : Past) → Represents kept past → (p : ℕ) (size : Size)
    (t : MadeTable) → slice_get kept.stored p ≡ Some t
    → KeepsSize (get_or past.sizes p size) t.store
kept_size kept past represents p size t at =
    let within : p < length past.sizes =
    (let l = slice_get_within kept.stored p t at in let n = represents.sizes.count in
    omega (arith, l, n)) in
    let is : get_or kept.stored p t ≡ t = get_or_from_slice_get kept.stored p t t at in
    let has = subst (λ (x : MadeTable). HasSize (get_or past.sizes p size) x) is
    (represents.sizes.each p size t within) in
    record { keys = has.keys; columns = has.columns }

pub returns-in_err-places-clause-stored : goal.returns-in_err-places-clause-stored
returns-in_err-places-clause-stored c = ap (λ o. option_copied o) c.from_residual.ensures
    ∙ sym (ap (λ ps. stored_as c.args.name.now (at_places c.args.self.now.stored ps))
    c.in_err-places.ensures.1)

pub returns-in-Some-clause-stored : goal.returns-in-Some-clause-stored
returns-in-Some-clause-stored c =
    let kept : c.deref.result.now ≡ c.args.self.now.stored = c.deref.ensures.value
    ∙ ap (λ (k : Kept). k.stored) c.self.view_is in
    sym (ap (λ (ts : List MadeTable). stored_as c.args.name.now
    (at_places ts (places_of c.args.self.now c.args.version))) (sym kept)
    ∙ ap (λ (ps : List ℕ). stored_as c.args.name.now (at_places c.deref.result.now ps))
    (sym c.in_ok-places.ensures.1) ∙ c.in-Some.ensures.2)

pub returns-in-None-clause-stored : goal.returns-in-None-clause-stored
returns-in-None-clause-stored c =
    let kept : c.deref.result.now ≡ c.args.self.now.stored = c.deref.ensures.value
    ∙ ap (λ (k : Kept). k.stored) c.self.view_is in
    sym (ap (λ (ts : List MadeTable). stored_as c.args.name.now
    (at_places ts (places_of c.args.self.now c.args.version))) (sym kept)
    ∙ ap (λ (ps : List ℕ). stored_as c.args.name.now (at_places c.deref.result.now ps))
    (sym c.in_ok-places.ensures.1) ∙ c.in-None.ensures)

pub returns-in-Some-clause-sizes : goal.returns-in-Some-clause-sizes
returns-in-Some-clause-sizes c = λ past p size represents is.
    let kept : c.deref.result.now ≡ c.args.self.now.stored = c.deref.ensures.value
    ∙ ap (λ (k : Kept). k.stored) c.self.view_is in
    let own = c.in_ok-places.ensures in
    let t = c.in-Some.table.now in
    let found = subst (λ (ts : List MadeTable). IsFound ts
    (places_of c.args.self.now c.args.version) c.args.name.now c.in-Some.field-0-0 t) kept
    (subst (λ (ps : List ℕ). IsFound c.deref.result.now ps c.args.name.now c.in-Some.field-0-0 t)
    own.1 c.in-Some.ensures) in
    let place : Some c.in-Some.field-0-0 ≡ Some p =
    found_over c.args.self.now (subst AreOfLifelines c.self.view_is c.self.invariant.lifelines)
    c.args.version c.args.name.now own.0 c.in-Some.field-0-0 t found
    ∙ ap (λ (vs : List PlainVersion). place_in vs c.args.version c.args.name.now)
    represents.versions ∙ is in
    let here : c.in-Some.field-0-0 ≡ p = cc in
    kept_size c.args.self.now past represents p size t (ap (λ n. slice_get c.args.self.now.stored n)
    (sym here) ∙ found.0)
