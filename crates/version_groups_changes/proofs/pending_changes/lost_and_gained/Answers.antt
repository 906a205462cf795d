use Rattle.std.proofs.Common.{List, ◌∙◌, subst}
use Rattle.std.specs.Map.{keys_of}
use Rattle.std.proofs.lemmas.Result.{IfOk-weaker}
use Rattle.prima_base.specs.Columns.{Column, IsRelation}
use Rattle.history_store.specs.Store.{relation_at}
use Rattle.smo_ops_spec.specs.Inserting.{relation_after_each}
use Rattle.version_groups_changes.specs.Changing.{borrowed_changes}
use Rattle.version_groups_changes.specs.PendingChanges.{LeadsTo}
use Rattle.version_groups_changes.proofs.Applying.{kept_each}
use Rattle.version_groups_changes.proofs.PendingLaws.{as_ascends, lost_are, gained_are}
use Rattle.version_groups_changes.proofs.pending_changes.lost_and_gained.Goals as goal

pub returns-clause-lost : goal.returns-clause-lost
returns-clause-lost c = λ m l h.
    let its = borrowed_changes c.args.changes.now in
    let old = relation_at c.args.store.now m in
    let new = relation_after_each c.args.columns.now its old in
    let known = c.in_ok-pending.pending in
    let o : IsRelation c.args.columns.now old =
    subst (λ columns. IsRelation columns old) c.requires.same
    (c.rows_are_a_relation.ensures m l h) in
    let n = kept_each c.args.columns.now its old c.requires.columns c.requires.accepted o in
    let leads : LeadsTo known old new = subst
    (λ (columns : List Column). LeadsTo known old (relation_after_each columns its old))
    c.in_ok-own.ensures (c.in_ok-pending.ensures m l h) in
    IfOk-weaker c.lost_and_gained_by_now.result _ _
    (λ p e. e ∙ lost_are known old new (as_ascends (keys_of known)
    c.lost_and_gained_by_now.ensures.ordered) o.ascending n.ascending leads)
    c.lost_and_gained_by_now.ensures.lost

pub returns-clause-gained : goal.returns-clause-gained
returns-clause-gained c = λ m l h.
    let its = borrowed_changes c.args.changes.now in
    let old = relation_at c.args.store.now m in
    let new = relation_after_each c.args.columns.now its old in
    let known = c.in_ok-pending.pending in
    let o : IsRelation c.args.columns.now old =
    subst (λ columns. IsRelation columns old) c.requires.same
    (c.rows_are_a_relation.ensures m l h) in
    let n = kept_each c.args.columns.now its old c.requires.columns c.requires.accepted o in
    let leads : LeadsTo known old new = subst
    (λ (columns : List Column). LeadsTo known old (relation_after_each columns its old))
    c.in_ok-own.ensures (c.in_ok-pending.ensures m l h) in
    IfOk-weaker c.lost_and_gained_by_now.result _ _
    (λ p e. e ∙ gained_are known old new (as_ascends (keys_of known)
    c.lost_and_gained_by_now.ensures.ordered) o.ascending n.ascending leads)
    c.lost_and_gained_by_now.ensures.gained
