use Rattle.std.proofs.Common.{◌≡◌, ◌≤◌, [], vec_len}
use Rattle.std.specs.Prelude.{All}
use Rattle.history_store_index.proofs.index.fill_spare.Given as goal

abbrev pub invariant-loop-k : goal.invariant-loop-k
invariant-loop-k l = record {
  empty : All (λ b. b ≡ []) l.spare.items;
  kept : vec_len l.initial.spare ≤ vec_len l.spare;
  count : l.k ≤ vec_len l.spare;
}
