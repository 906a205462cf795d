use Rattle.std.proofs.Common.{rules, ◌≡◌, ◌+◌, ◌<◌, [], ◌∷◌, length, ap, ◌∙◌, arith, length-append}
use Rattle.std.proofs.lemmas.Grind.{common_steps}
use Rattle.prima_base.specs.Columns.{Column}
use Rattle.history_store_writes.proofs.Others.{one_pushed}
use Rattle.history_store_writes.proofs.Rows.{kinds_more}
use Rattle.history_store_writes.proofs.row_change.empty_columns.Goals as goal

pub loop-kind-preserved : goal.loop-kind-preserved
loop-kind-preserved c =
    let i = c.loop-kind.invariant in
    let k = c.loop-kind.kind-index in
    let xs = c.loop-kind.empty.items in
    let x = c.new.result in
    let columns = c.args.columns.now in
    let d = c.loop-kind-item.result in
    let b : k < length columns = first_of (search rules, grind (arith, common_steps)) in
    let kinds = kinds_more xs x columns k d i.kinds b
    (c.new.ensures.kind ∙ ap (λ (p : Column). p.1) c.loop-kind-item.is) in
    record {
      counted = rw c.in_ok-push.ensures.items
          (length-append xs (x ∷ []) ∙ ap (λ n. n + 1) i.counted);
      kinds = rw c.in_ok-push.ensures.items kinds;
      cells = rw c.in_ok-push.ensures.items (one_pushed (λ y. y.cells ≡ []) xs x i.cells
          c.new.ensures.cells);
      ids = rw c.in_ok-push.ensures.items (one_pushed (λ y. y.ids ≡ 0) xs x i.ids
          c.new.ensures.ids);
    }
