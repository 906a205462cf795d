use Rattle.std.proofs.Common.{rules, arith, ◌≡◌, ◌+◌, ◌∷◌, ◌++◌, [], take, sym, ap, ◌∙◌}
use Rattle.std.proofs.Common.{append_assoc}
use Rattle.std.specs.Prelude.{None}
use Rattle.std.proofs.lemmas.Grind.{common_steps}
use Rattle.history_store_row_order.specs.Handing.{no_owners}
use Rattle.history_store_row_order.proofs.SideBySide.{no_owners-more}
use Rattle.history_store_row_order.proofs.walk.add_new.Goals as goal

pub loop-row-preserved : goal.loop-row-preserved
loop-row-preserved c =
    let w = c.loop-row.invariant in
    let rows = c.args.rows.now in
    let t : take (c.loop-row.row-index + 1) rows ≡ take c.loop-row.row-index rows
    ++ c.row-item.result ∷ [] = grind (arith, common_steps) in
    let pushed : c.push-in-loop-row.new.self.items ≡ c.loop-row.owners.items ++ None ∷ [] =
    search rules in
    let gained : c.push.new.self.items ≡ c.loop-row.gained.items ++ c.row-item.result ∷ [] =
    grind (arith, common_steps) in
    record {
      owners =
          pushed ∙ ap (λ os. os ++ None ∷ []) w.owners
          ∙ append_assoc c.args.owners.now.items (no_owners (take c.loop-row.row-index rows))
          (None ∷ [])
          ∙ ap (λ os. c.args.owners.now.items ++ os)
          (sym (no_owners-more (take c.loop-row.row-index rows) c.row-item.result)
          ∙ ap no_owners (sym t));
      gained =
          gained ∙ ap (λ rs. rs ++ c.row-item.result ∷ []) w.gained
          ∙ append_assoc c.args.gained.now.items (take c.loop-row.row-index rows)
          (c.row-item.result ∷ [])
          ∙ ap (λ rs. c.args.gained.now.items ++ rs) (sym t);
    }
