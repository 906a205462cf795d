use Rattle.std.proofs.Common.{sym, ap, ◌∙◌, arith}
use Rattle.history_store_writes.specs.ValueIndexes.{Indexed}
use Rattle.history_store_writes.proofs.Others.{one_indexed, none_indexed}
use Rattle.history_store_writes.proofs.other_index.index_of.Goals as goal

pub returns-then-column-clause-there : goal.returns-then-column-clause-there
returns-then-column-clause-there c =
    sym (one_indexed c.args.others.now c.args.column c.loop-k.k c.index-others-k.result
    c.loop-k-test.true (ap (λ (x : Indexed). x.column) (sym c.index-others-k.is)
    ∙ sym c.column.ensures ∙ c.if-column.true))

pub returns-clause-there : goal.returns-clause-there
returns-clause-there c = sym (none_indexed c.args.others.now c.args.column
    (λ j d h. c.loop-k.invariant j d (omega (arith, h))))
