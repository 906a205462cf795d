use Rattle.std.proofs.Common.{◌≡◌, length, subst}
use Rattle.std.specs.Result.{IfOk}
use Rattle.smo_ops_spec.specs.Effects.{gained_rows}
use Rattle.smo_ops_spec.specs.Inserting.{relation_after_each}
use Rattle.smo_ops_spec.specs.OneRow.{Relation}
use Rattle.version_groups_changes.specs.Changing.{IsChange, borrowed_changes}
use Rattle.version_groups_changes.proofs.Becoming.{same_relation, same_before}
use Rattle.version_groups_changes.proofs.change.prepare_indexed.Goals as goal

pub prepare_pending-requires-clause-before : goal.prepare_pending-requires-clause-before
prepare_pending-requires-clause-before c = same_before c.args.store.now c.index_each.new.store
    c.index_each.new.store.spare c.index_each.new.store.indexed c.index_each.ensures.same
    c.args.stamp c.requires.before

pub returns-clause-change : goal.returns-clause-change
returns-clause-change c =
    let old = c.args.store.now in
    let mid = c.index_each.new.store in
    let is = same_relation old mid mid.spare mid.indexed c.index_each.ensures.same c.args.stamp in
    let its = borrowed_changes c.args.changes.now in
    subst (λ (rows : Relation). IfOk c.prepare_pending.result
    (λ p. IsChange c.prepare_pending.new.store c.args.stamp
    (relation_after_each c.args.columns.now its rows) p)) is c.prepare_pending.ensures.change

pub returns-clause-gained : goal.returns-clause-gained
returns-clause-gained c =
    let old = c.args.store.now in
    let mid = c.index_each.new.store in
    let is = same_relation old mid mid.spare mid.indexed c.index_each.ensures.same c.args.stamp in
    let its = borrowed_changes c.args.changes.now in
    subst (λ (rows : Relation). IfOk c.prepare_pending.result
    (λ p. length p.gained ≡ length (gained_rows rows
    (relation_after_each c.args.columns.now its rows)))) is c.prepare_pending.ensures.gained

pub returns-clause-lost : goal.returns-clause-lost
returns-clause-lost c =
    let old = c.args.store.now in
    let mid = c.index_each.new.store in
    let is = same_relation old mid mid.spare mid.indexed c.index_each.ensures.same c.args.stamp in
    let its = borrowed_changes c.args.changes.now in
    subst (λ (rows : Relation). IfOk c.prepare_pending.result
    (λ p. length p.lost ≡ length (gained_rows (relation_after_each c.args.columns.now its rows)
    rows))) is c.prepare_pending.ensures.lost
