use Rattle.std.proofs.Common.{◌≡◌, rules}
use Rattle.std.proofs.lemmas.Fn.{always_returns_same}
use Rattle.version_export.specs.Turns.{moment_of}
use Rattle.version_export.proofs.row_turn.put_in_order.Goals as goal

pub returns-clause-order : goal.returns-clause-order
returns-clause-order c = c.in_ok-sort_by_key.ensures.sorted moment_of
    (always_returns_same _ (λ a r. r ≡ moment_of a.0.now) _ (λ a r q k. search rules))

pub returns-clause-stable : goal.returns-clause-stable
returns-clause-stable c = c.in_ok-sort_by_key.ensures.stable moment_of
    (always_returns_same _ (λ a r. r ≡ moment_of a.0.now) _ (λ a r q k. search rules))
