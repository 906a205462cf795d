use Rattle.std.proofs.Common.{rules}
use Rattle.piece_prune.proofs.Pruned.{filtered_live}
use Rattle.piece_prune.proofs.KeptPieces.{filtered_told}
use Rattle.piece_prune.proofs.liveness.left.Goals as goal

pub returns-clause-living : goal.returns-clause-living
returns-clause-living c = filtered_live _ c.args.before.now _ (λ x b g k. search rules) _ _
    c.requires c.retain.ensures.filtered

pub returns-clause-told : goal.returns-clause-told
returns-clause-told c = filtered_told _ _ (λ x b g k. search rules) _ _
    c.retain.ensures.filtered
