use Rattle.std.proofs.Common.{◌≡◌, sym, ap, subst, ◌∙◌, arith}
use Rattle.smo_ops_types.specs.Commands.{versions_of}
use Rattle.smo_ops_spec.specs.Past.{no_tables, tables_from}
use Rattle.smo_ops_versions_spec.proofs.WaySteps.{taken_stays}
use Rattle.smo_ops_widths.specs.Widths.{Widths, own_widths, widths_of, widths_stepped}
use Rattle.smo_ops_widths.specs.Shown.{Show}
use Rattle.smo_ops_widths.proofs.VersionLaws.{on_step}
use Rattle.smo_ops_widths.specs.AtHand.{all_widths}
use Rattle.smo_ops_widths.proofs.read_version.widths_ahead.Goals as goal

pub loop-k-init : goal.loop-k-init
loop-k-init c =
    let versions = versions_of c.args.versions.now in
    record {
      low = omega arith;
      high = c.requires.order;
      shown = subst (λ (w : Widths). Show (all_widths c.in_ok-widths.widths) w)
          (ap own_widths c.tables_at.ensures
          ∙ sym (taken_stays versions widths_stepped c.args.stored
          (own_widths (tables_from no_tables versions c.args.stored)))) c.in_ok-widths.ensures;
    }

pub loop-k-preserved : goal.loop-k-preserved
loop-k-preserved c =
    let vs = c.args.versions.now.list.items in
    let below = c.loop-k-test.true in
    let there = c.requires.there in
    let low = c.loop-k.invariant.low in
    record {
      low = omega (arith, low);
      high = omega (arith, below);
      shown = subst (λ (w : Widths). Show (all_widths c.carry.new.widths) w)
          (on_step vs c.loop-k.k c.index.result.now c.tables_at-before.result.now c.args.stored
          (omega (arith, below, there)) c.index.ensures c.tables_at-before.ensures low)
          (c.in_ok-carry.ensures
          (widths_of (versions_of c.args.versions.now) c.args.stored c.loop-k.k)
          c.loop-k.invariant.shown);
    }

pub returns : goal.returns
returns c =
    let test = c.loop-k-test.false in
    let high = c.loop-k.invariant.high in
    let end : c.loop-k.k ≡ c.args.asked = omega (arith, test, high) in
    subst (λ n. Show (all_widths c.loop-k.widths)
    (widths_of (versions_of c.args.versions.now) c.args.stored n)) end c.loop-k.invariant.shown
