use Rattle.std.proofs.Common.{◌≡◌, ℕ, rules}
use Rattle.std.proofs.lemmas.Fn.{always_returns_same}
use Rattle.prima_base.specs.declared.timed_row.TimedRow.{TimedRow}
use Rattle.join_exec_levels.specs.Grouping.{magnitude}
use Rattle.join_exec_levels.proofs.group.in_turn.Goals as goal

-- by what a row is put in its place
abbrev key : TimedRow → ℕ × ℕ
key t = (magnitude t.period, t.period.start)

pub returns-clause-order : goal.returns-clause-order
returns-clause-order c = c.sort_unstable_by_key.ensures.sorted key
    (always_returns_same _ (λ a r. r ≡ key a.0.now) _ (λ a r q k. search rules))
