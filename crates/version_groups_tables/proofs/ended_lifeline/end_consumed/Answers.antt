use Rattle.std.proofs.Common.{◌≡◌, ◌∙◌, ℕ, List, [], ◌∷◌, map, sym, ap, subst}
use Rattle.std.specs.Prelude.{slice_get, ◌||◌}
use Rattle.std.specs.Option.{option_copied}
use Rattle.relations_spec.specs.Sets.{Ascends}
use Rattle.prima_base.specs.Order.{bytes_cmp}
use Rattle.smo_ops_types.specs.Operators.{operator_of}
use Rattle.smo_ops_spec.specs.Preconditions.{among}
use Rattle.smo_ops_spec.specs.Evolutions.{one_consumes}
use Rattle.smo_ops_spec.proofs.OneMembers.{one_consumes_of_one}
use Rattle.version_groups_tables.specs.declared.made_table.MadeTable.{MadeTable}
use Rattle.version_groups_tables.specs.Ending.{AreEnding, table_after}
use Rattle.version_groups_tables.specs.Places.{at_places}
use Rattle.version_groups_tables.specs.NewestTables.{is_name}
use Rattle.version_groups_tables.specs.Stored.{stored_names}
use Rattle.version_groups_tables.proofs.LifelinesEnded.{names_still, are_ending, still_ending}
use Rattle.version_groups_tables.proofs.LifelinesEnded.{among_these}
use Rattle.version_groups_tables.proofs.LifelinesEnded.{both_end}
use Rattle.version_groups_tables.proofs.ended_lifeline.end_consumed.Goals as goal

pub end_named-requires-clause-ending : goal.end_named-requires-clause-ending
end_named-requires-clause-ending c = are_ending c.args.last c.args.tables.now c.args.places.now
    c.requires.living

pub end_named-requires-2-clause-ordered : goal.end_named-requires-2-clause-ordered
end_named-requires-2-clause-ordered c =
    let first = is_name (option_copied c.consumed-names.result.first) in
    subst (Ascends bytes_cmp)
    (sym (ap (λ (ts : List MadeTable). stored_names (at_places ts c.args.places.now))
    c.end_named.ensures ∙ names_still first c.args.last c.args.tables.now c.args.places.now))
    c.requires.ordered

pub end_named-requires-2-clause-ending : goal.end_named-requires-2-clause-ending
end_named-requires-2-clause-ending c =
    let first = is_name (option_copied c.consumed-names.result.first) in
    subst (λ (ts : List MadeTable). AreEnding c.args.last ts c.args.places.now)
    (sym c.end_named.ensures)
    (still_ending first c.args.last c.args.tables.now c.args.places.now
    (are_ending c.args.last c.args.tables.now c.args.places.now c.requires.living))

pub returns : goal.returns
returns c = λ before.
    let op = operator_of c.args.op.now in
    let names = c.consumed-names.result in
    let first = is_name (option_copied names.first) in
    let second = is_name (option_copied names.second) in
    let either : (name : List ℕ) → one_consumes before (op ∷ []) name ≡ (first name || second name)
    = λ name. one_consumes_of_one before op name ∙ ap (among name)
    (c.consumed-names.ensures.names before)
    ∙ among_these (option_copied names.first) (option_copied names.second) name
    (c.consumed-names.ensures.second before
    ∙ ap (λ ns. slice_get ns 1) (c.consumed-names.ensures.names before)) in
    c.end_named-2.ensures ∙ ap (map (table_after second c.args.last)) c.end_named.ensures
    ∙ both_end first second (one_consumes before (op ∷ [])) c.args.last either c.args.tables.now
