use Rattle.std.proofs.Common.{◌≡◌, List, [], ◌∷◌, ◌++◌, ap, ◌∙◌}
use Rattle.std.specs.Prelude.{not}
use Rattle.cond_expr.specs.Seen.{test}
use Rattle.prima_base.specs.Columns.{Column}
use Rattle.smo_ops_spec.specs.OneRow.{Row, meets}
use Rattle.smo_maps.proofs.KeptRows.{kept_more, turned}
use Rattle.smo_maps.proofs.partition_table.parted.Goals as goal

pub loop-row-preserved : goal.loop-row-preserved
loop-row-preserved c =
    let met : c.in_ok-met.met ≡ meets c.args.columns.now (test c.args.cond.now) c.row-item.result =
    c.in_ok-met.ensures ∙ ap (λ (cs : List Column).
    meets cs (test c.args.cond.now) c.row-item.result) c.in_ok-own.ensures in
    record {
      yes = kept_more (meets c.args.columns.now (test c.args.cond.now)) c.args.rows.now
          c.loop-row.row-index c.row-item.result c.in_ok-met.met c.loop-row.yes.items
          c.push_into.new.yes.items
          c.loop-row-test.true c.row-item.is met c.loop-row.invariant.yes
          c.in_ok-push_into.ensures.yes;
      no = kept_more (λ (row : Row). not (meets c.args.columns.now (test c.args.cond.now) row))
          c.args.rows.now c.loop-row.row-index c.row-item.result (not c.in_ok-met.met)
          c.loop-row.no.items c.push_into.new.no.items
          c.loop-row-test.true c.row-item.is (ap not met) c.loop-row.invariant.no
          (c.in_ok-push_into.ensures.no ∙ ap (λ rows. c.loop-row.no.items ++ rows)
          (turned c.in_ok-met.met (c.row-item.result ∷ []) []));
    }
