use Rattle.std.proofs.Common.{◌≡◌, ◌∙◌, ◌++◌, List, Some, sym, ap, subst, length}
use Rattle.std.specs.Option.{option_map}
use Rattle.std.specs.Result.{IfOk}
use Rattle.std.proofs.lemmas.Result.{IfOk-weaker}
use Rattle.relations_spec.specs.Sets.{set_of}
use Rattle.prima_base.specs.Order.{row_cmp}
use Rattle.prima_base.specs.declared.value.Value.{Value}
use Rattle.history_store.specs.Store.{relation_at}
use Rattle.smo_ops_spec.specs.Inserting.{relation_after_each, insertions}
use Rattle.smo_ops_spec.specs.Effects.{gained_rows}
use Rattle.version_groups_changes.specs.Changing.{IsChange, borrowed_changes}
use Rattle.version_groups_changes.proofs.Applying.{given_relation, relation_ascends}
use Rattle.version_groups_changes.proofs.change.prepare_table.Goals as goal

pub prepare_given-requires-clause-relation : goal.prepare_given-requires-clause-relation
prepare_given-requires-clause-relation c =
    let its = borrowed_changes c.args.changes.now in
    let given : insertions c.args.columns.now
    (borrowed_changes c.args.changes.now) ≡ Some c.in-Some.rows.items =
    sym c.in_ok-given.ensures ∙ ap (option_map (λ v. v.items)) c.in-Some.is in
    rw c.requires.same (given_relation c.args.columns.now its c.in-Some.rows.items
    c.requires.columns c.requires.accepted given)

pub returns-in-Some-clause-change : goal.returns-in-Some-clause-change
returns-in-Some-clause-change c =
    let its = borrowed_changes c.args.changes.now in
    let given : insertions c.args.columns.now
    (borrowed_changes c.args.changes.now) ≡ Some c.in-Some.rows.items =
    sym c.in_ok-given.ensures ∙ ap (option_map (λ v. v.items)) c.in-Some.is in
    let is : set_of row_cmp (relation_at c.args.store.now c.args.stamp ++ c.in-Some.rows.items)
    ≡ relation_after_each c.args.columns.now its (relation_at c.args.store.now c.args.stamp) =
    sym (c.insertions_are_a_union.ensures.relation c.args.columns.now its c.in-Some.rows.items
    (relation_at c.args.store.now c.args.stamp) (relation_ascends c.args.store.now c.args.stamp)
    given) in
    subst (λ (r : List (List Value)). IfOk c.prepare_given.result
    (λ p. IsChange c.prepare_given.new.store c.args.stamp r p)) is
    c.prepare_given.ensures.change

pub returns-in-Some-clause-gained : goal.returns-in-Some-clause-gained
returns-in-Some-clause-gained c =
    let its = borrowed_changes c.args.changes.now in
    let given : insertions c.args.columns.now
    (borrowed_changes c.args.changes.now) ≡ Some c.in-Some.rows.items =
    sym c.in_ok-given.ensures ∙ ap (option_map (λ v. v.items)) c.in-Some.is in
    let is : set_of row_cmp (relation_at c.args.store.now c.args.stamp ++ c.in-Some.rows.items)
    ≡ relation_after_each c.args.columns.now its (relation_at c.args.store.now c.args.stamp) =
    sym (c.insertions_are_a_union.ensures.relation c.args.columns.now its c.in-Some.rows.items
    (relation_at c.args.store.now c.args.stamp) (relation_ascends c.args.store.now c.args.stamp)
    given) in
    IfOk-weaker c.prepare_given.result _ _ (λ p e. e
    ∙ ap (λ r. length (gained_rows (relation_at c.args.store.now c.args.stamp) r)) is)
    c.prepare_given.ensures.gained

pub returns-in-Some-clause-lost : goal.returns-in-Some-clause-lost
returns-in-Some-clause-lost c =
    let its = borrowed_changes c.args.changes.now in
    let given : insertions c.args.columns.now
    (borrowed_changes c.args.changes.now) ≡ Some c.in-Some.rows.items =
    sym c.in_ok-given.ensures ∙ ap (option_map (λ v. v.items)) c.in-Some.is in
    let is : set_of row_cmp (relation_at c.args.store.now c.args.stamp ++ c.in-Some.rows.items)
    ≡ relation_after_each c.args.columns.now its (relation_at c.args.store.now c.args.stamp) =
    sym (c.insertions_are_a_union.ensures.relation c.args.columns.now its c.in-Some.rows.items
    (relation_at c.args.store.now c.args.stamp) (relation_ascends c.args.store.now c.args.stamp)
    given) in
    IfOk-weaker c.prepare_given.result _ _ (λ p e. e
    ∙ ap (λ r. length (gained_rows r (relation_at c.args.store.now c.args.stamp))) is)
    c.prepare_given.ensures.lost
