use Rattle.std.proofs.Common.{◌≡◌, ◌<◌, ℕ, length, get_or, vec_len, vec_capacity}
use Rattle.history_store_index.specs.Blocks.{before}
use Rattle.history_store_index.proofs.index.recount.Given as goal

abbrev pub invariant-loop-k : goal.invariant-loop-k
invariant-loop-k l = record {
  long : vec_len l.starts ≡ length l.blocks;
  counted : (j : ℕ) → j < l.k → j < length l.blocks → get_or l.starts.items j 0 ≡ before j l.blocks;
  capacity : vec_capacity l.starts ≡ vec_capacity l.initial.starts;
}
