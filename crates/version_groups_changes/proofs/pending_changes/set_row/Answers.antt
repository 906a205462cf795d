use Rattle.std.proofs.Common.{◌≡◌, ◌≢◌, arith, sym, ◌∙◌}
use Rattle.std.specs.Prelude.{Some, None}
use Rattle.std.proofs.lemmas.Grind.{common_steps}
use Rattle.std.proofs.lemmas.Result.{on_ok_weaker}
use Rattle.std.specs.Map.{lookup}
use Rattle.std.specs.BTreeMap.{is_at}
use Rattle.relations_spec.specs.Sets.{has}
use Rattle.prima_base.specs.Order.{row_cmp}
use Rattle.history_store.specs.Store.{relation_at}
use Rattle.version_groups_changes.proofs.PendingLaws.{told_same, told_other, one_set}
use Rattle.version_groups_changes.proofs.pending_changes.set_row.Goals as goal

pub returns-then-there-holds : goal.returns-then-there-holds
returns-then-there-holds c = λ m l h.
    let row = c.args.row in
    let stored = relation_at c.args.store.now m in
    let same : c.args.there ≡ c.holds.result = grind (arith, common_steps) in
    on_ok_weaker c.set.result
    (λ g q. one_set row q stored c.args.there None (lookup (is_at (row_cmp q)) c.args.pending.now)
    (lookup (is_at (row_cmp q)) c.set.new.self) (g q)
    (told_same (has row_cmp row stored) c.args.there (sym (same ∙ c.holds.ensures.now m l h))))
    c.set.ensures

pub returns : goal.returns
returns c = λ m l h.
    let row = c.args.row in
    let stored = relation_at c.args.store.now m in
    let apart : c.args.there ≢ c.holds.result = grind (arith, common_steps) in
    on_ok_weaker c.set-2.result
    (λ g q. one_set row q stored c.args.there (Some c.args.there)
    (lookup (is_at (row_cmp q)) c.args.pending.now)
    (lookup (is_at (row_cmp q)) c.set-2.new.self) (g q)
    (told_other (has row_cmp row stored) c.args.there
    (λ e. apart (sym e ∙ sym (c.holds.ensures.now m l h)))))
    c.set-2.ensures
