use Rattle.std.proofs.Common.{sym, ◌∙◌}
use Rattle.smo_ops.proofs.CheckLaws.{name_fine}
use Rattle.smo_ops.proofs.check.check_names.Goals as goal

pub loop-i-preserved : goal.loop-i-preserved
loop-i-preserved g c =
    c.loop-i.invariant
    ∙ name_fine c.args.table.now c.args.columns.now c.args.pairs.now c.loop-i.i
    c.index-pairs-i.result c.loop-i-test.true c.index-pairs-i.is
    (sym c.has_name.ensures ∙ c.if-has_name.false)
    (sym c.has_name-in-loop-i.ensures ∙ c.if-not-has_name.false)
