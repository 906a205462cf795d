use Rattle.std.proofs.Common.{◌≡◌, ◌+◌, ◌∙◌, Some, List, sym, ap, subst, arith}
use Rattle.std.specs.Option.{option_copied}
use Rattle.std.specs.Result.{IfOk}
use Rattle.prima_base.specs.declared.value.Value.{Value}
use Rattle.history_store.specs.Store.{AllBefore, relation_at}
use Rattle.version_groups_tables.specs.Stored.{stored_as}
use Rattle.version_groups_tables.specs.NewestTables.{rows_stored}
use Rattle.version_groups_tables.specs.Evolving.{IsEarlier, rows_named}
use Rattle.version_groups_tables.specs.Places.{at_places}
use Rattle.version_groups_changes.proofs.Applying.{all_later}
use Rattle.version_groups_tables.proofs.evolution.current_rows.Goals as goal

pub returns-in-Some-find_stored : goal.returns-in-Some-find_stored
returns-in-Some-find_stored g c = λ stamp valid earlier.
    let s = c.in-Some-find_stored.store.now in
    let group = at_places c.args.tables.now c.args.places.now in
    let under : Some s ≡ stored_as c.in-Some.name.now group = c.in-Some-find_stored.ensures in
    let own : AllBefore s stamp = subst (IsEarlier stamp) (sym under)
    (earlier c.in-Some.name.now) in
    let is : relation_at s stamp ≡ rows_named stamp (option_copied c.args.name) group =
    ap (rows_stored stamp) under ∙ ap (λ o. rows_named stamp (option_copied o) group)
    (sym c.in-Some.is) in
    subst (λ (rows : List (List Value)). IfOk c.current.result (λ v. v.items ≡ rows)) is
    (c.current.ensures.rows stamp valid (all_later s stamp (stamp + 1) (omega arith) own))
