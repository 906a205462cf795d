use Rattle.std.proofs.Common.{◌≡◌, ◌++◌, length, map}
use Rattle.cases_store_tables.proofs.tested_table.take_keys.Given as goal

abbrev pub invariant-keys : goal.invariant-keys
invariant-keys g l = l.keys.items ++ map (λ k. k.period) l.scan ≡ map (λ k. k.period) l.initial.scan

abbrev pub decreases-keys : goal.decreases-keys
decreases-keys g l = length l.scan
