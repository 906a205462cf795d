use Rattle.std.proofs.Common.{◌++◌, ap, ◌∙◌, arith}
use Rattle.std.proofs.lemmas.Grind.{common_steps}
use Rattle.history_store_writes.specs.Writing.{end_keys, new_keys, unpaired}
use Rattle.history_store_writes.proofs.Carry.{carried}
use Rattle.history_store_writes.proofs.row_change.apply.Goals as goal

pub returns-clause-keys : goal.returns-clause-keys
returns-clause-keys c =
    c.hand_rows.ensures.keys
    ∙ ap (λ keys. keys ++ new_keys c.args.stamp (unpaired c.args.gained.items c.args.lost.now))
    c.end_keys.ensures.keys
    ∙ ap (λ ids. end_keys ids c.args.stamp c.args.keys.now.items
    ++ new_keys c.args.stamp (unpaired c.args.gained.items c.args.lost.now))
    c.split_at.ensures.back
    ∙ carried c.args.keys.now.items c.args.lost.now c.args.gained.items c.args.stamp
    c.min-paired.result (grind (arith, common_steps))
    (λ k d h. grind (arith, common_steps, c.requires.known k d h))
