use Rattle.std.proofs.Common.{Bor, ap, ◌∙◌}
use Rattle.prima_base.specs.declared.row.Row.{Row as OneRow}
use Rattle.cond_expr.specs.Seen.{test}
use Rattle.smo_ops_spec.specs.OneRow.{Row, meets}
use Rattle.smo_maps.specs.Picking.{picked_row}
use Rattle.smo_maps.proofs.KeptRows.{shown_more}
use Rattle.smo_maps.proofs.join_table.append_joined.Goals as goal

pub loop-partner-preserved : goal.loop-partner-preserved
loop-partner-preserved c = shown_more (meets c.args.own.now (test c.args.cond.now))
    (λ (b : Bor OneRow). b.now) (picked_row c.args.sources.now c.args.row.now)
    c.args.made.now.items c.loop-partner.made.items c.push_where.new.made.items c.args.partners.now
    c.loop-partner.partner-index c.partner-item.result c.in_ok-joined.joined c.in_ok-met.met
    c.loop-partner-test.true c.partner-item.is c.loop-partner.invariant
    (c.in_ok-joined.ensures ∙ ap (λ (a : Row).
    picked_row c.args.sources.now a c.values-in-loop-partner.result.now) c.values.ensures
    ∙ ap (picked_row c.args.sources.now c.args.row.now) c.values-in-loop-partner.ensures)
    c.in_ok-met.ensures c.in_ok-push_where.ensures
