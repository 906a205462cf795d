use Rattle.std.proofs.Common.{◌-◌, arith, ap, ◌∙◌}
use Rattle.std.specs.List.{insert}
use Rattle.history_store_index.proofs.Blocking.{insert_after}
use Rattle.history_store_index.proofs.index.Block.insert_split.Goals as goal

pub returns-clause-whole : goal.returns-clause-whole
returns-clause-whole c =
    rw c.insert-2.ensures (insert_after c.split-upper.new.self c.split-upper.result
    (c.args.at - c.len-half.result) c.args.at c.args.id
    (omega (arith, c.len-half.ensures.len, c.if-at-half.false))
    ∙ ap (λ l. insert l c.args.at c.args.id) c.split-upper.ensures.whole)
