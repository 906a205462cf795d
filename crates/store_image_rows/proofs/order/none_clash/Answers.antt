use Rattle.std.proofs.Common.{sym, ◌∙◌}
use Rattle.store_image_rows.proofs.Walking.{clashes_here, clash_after, none_left}
use Rattle.store_image_rows.proofs.order.none_clash.Goals as goal

pub returns-then-clash : goal.returns-then-clash
returns-then-clash g c =
    sym (c.loop-i.invariant ∙ clashes_here _ c.args.showing.now c.loop-i.i c.index-showing-i.result
    c.index-showing-i-in-loop-i.result c.loop-i.auto.i c.loop-i-test.true c.index-showing-i.is
    c.index-showing-i-in-loop-i.is (sym c.if-clash.ensures))

pub loop-i-preserved : goal.loop-i-preserved
loop-i-preserved g c =
    c.loop-i.invariant ∙ clash_after _ c.args.showing.now c.loop-i.i c.index-showing-i.result
    c.index-showing-i-in-loop-i.result c.loop-i.auto.i c.loop-i-test.true c.index-showing-i.is
    c.index-showing-i-in-loop-i.is (sym c.if-clash.ensures)

pub returns : goal.returns
returns g c = sym (c.loop-i.invariant ∙ none_left _ c.args.showing.now c.loop-i.i c.loop-i.auto.i
    c.loop-i-test.false)
