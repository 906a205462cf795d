use Rattle.std.proofs.Common.{◌≡◌, ℕ, true, false, cond, List, map, ap, subst, ◌∙◌}
use Rattle.std.specs.Prelude.{not, if◌then◌else◌}
use Rattle.std.specs.List.{filter}
use Rattle.std.specs.Map.{lookup}
use Rattle.std.specs.BTreeMap.{is_at}
use Rattle.std.specs.Ordering.{is_eq}
use Rattle.std.proofs.lemmas.Result.{on_ok_weaker}
use Rattle.relations_spec.specs.Sets.{In, has, put_in, set_of}
use Rattle.prima_base.specs.Order.{row_cmp}
use Rattle.prima_base.specs.Columns.{Column}
use Rattle.cond_expr.specs.declared.expr.Expr.{Expr}
use Rattle.cond_expr.specs.Seen.{test}
use Rattle.history_store.specs.Store.{relation_at}
use Rattle.smo_ops_types.specs.Changes.{sets_of}
use Rattle.smo_ops_spec.specs.OneRow.{Row, Relation, row_of, meets, with_sets}
use Rattle.version_groups_changes.specs.PendingChanges.{LeadsTo, told}
use Rattle.version_groups_changes.proofs.PendingLaws.{has_put, has_left, has_made, set_leads}
use Rattle.version_groups_changes.proofs.pending_changes.apply.Goals as goal

pub returns-in_ok-row-in-Insert : goal.returns-in_ok-row-in-Insert
returns-in_ok-row-in-Insert c = λ m now l h r e.
    let its = c.args.own.now in
    let stored = relation_at c.args.store.now m in
    let row = c.in_ok-row-in-Insert.row in
    let is : row ≡ row_of its c.in-Insert.cells.items = c.in_ok-row-in-Insert.ensures
    ∙ ap (λ (cs : List Column). row_of cs c.deref.result.now) c.columns.ensures
    ∙ ap (row_of its) c.deref.ensures.value in
    rw c.in-Insert.is
    (on_ok_weaker c.set_row.result
    (λ g. subst (λ (x : Row). LeadsTo c.set_row.new.pending stored (put_in row_cmp x now)) is
    (set_leads c.args.pending.now c.set_row.new.pending stored now (put_in row_cmp row now) e
    (λ q. is_eq (row_cmp row q)) true g (has_put now row r.ascending)))
    (c.set_row.ensures m l h))

pub returns-in_ok-lost-in-Delete : goal.returns-in_ok-lost-in-Delete
returns-in_ok-lost-in-Delete c = λ m now l h r e.
    let passes = meets c.args.own.now (test c.in-Delete.cond) in
    let stored = relation_at c.args.store.now m in
    let lost = c.in_ok-lost-in-Delete.lost.items in
    rw c.in-Delete.is
    (on_ok_weaker c.set_each.result
    (λ g. set_leads c.args.pending.now c.set_each.new.pending stored now
    (filter (λ row. not (passes row)) now) e (λ q. has row_cmp q lost) false g
    (has_left now passes lost (c.in_ok-lost-in-Delete.ensures m now l h r e)))
    (c.set_each.ensures m l h))

pub returns-in_ok-set_each-in-Update : goal.returns-in_ok-set_each-in-Update
returns-in_ok-set_each-in-Update c = λ m now l h r e.
    let its = c.args.own.now in
    let stored = relation_at c.args.store.now m in
    let passes = meets its (test c.in-Update.cond) in
    let f = with_sets its (sets_of c.in-Update.sets.items) in
    let lost = c.in_ok-lost-in-Update.lost.items in
    let left = filter (λ row. not (passes row)) now in
    let mid = c.set_each-in-Update.new.pending in
    let new = c.set_each-in-Update-2.new.pending in
    let are = c.in_ok-lost-in-Update.ensures m now l h r e in
    let same : c.deref-in-Update-2.result.now ≡ lost = c.deref-in-Update-2.ensures.value in
    let made : c.in_ok-gained-in-Update.gained.items ≡ map f lost =
    c.in_ok-gained-in-Update.ensures (λ row i.
    r.fitting row (are.only row (subst (In row) same i)).0)
    ∙ ap (λ (sets : List (List ℕ × Expr)). map (with_sets its (sets_of sets))
    c.deref-in-Update-2.result.now) c.deref-in-Update.ensures.value
    ∙ ap (map f) same in
    let first : LeadsTo mid stored left = set_leads c.args.pending.now mid stored now left e
    (λ q. has row_cmp q lost) false (c.in_ok-set_each-in-Update.ensures m l h)
    (has_left now passes lost are) in
    rw c.in-Update.is
    (on_ok_weaker c.set_each-in-Update-2.result
    (λ g. set_leads mid new stored left (set_of row_cmp
    (map (λ (row : Row). if passes row then f row else row) now)) first
    (λ q. has row_cmp q (map f lost)) true
    (λ q. g q ∙ ap (λ (rows : Relation). cond (has row_cmp q rows)
    (told (has row_cmp q stored) true) (lookup (is_at (row_cmp q)) mid)) made)
    (has_made now passes lost are f))
    (c.set_each-in-Update-2.ensures m l h))
