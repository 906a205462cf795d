use Rattle.std.proofs.Common.{◌≡◌, ◌+◌, ◌++◌, take, vec_len, vec_capacity}
use Rattle.prima_base.proofs.reserved.push_all_reserved.Given as goal

abbrev pub invariant-loop-item : goal.invariant-loop-item
invariant-loop-item g l = record {
  items : l.to.items ≡ l.initial.to.items ++ take l.item-index l.items;
  len : vec_len l.to ≡ vec_len l.initial.to + l.item-index;
  capacity : vec_capacity l.to ≡ vec_capacity l.initial.to;
}
