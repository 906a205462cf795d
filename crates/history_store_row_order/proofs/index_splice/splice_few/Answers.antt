use Rattle.std.proofs.Common.{arith}
use Rattle.history_store_row_order.specs.Indexes.{without}
use Rattle.history_store_row_order.proofs.index_splice.splice_few.Goals as goal

pub gained_places-requires-clause-kept_rise : goal.gained_places-requires-clause-kept_rise
gained_places-requires-clause-kept_rise c = rw c.deref.ensures.value
    c.in_ok-found.ensures.split.rises

pub gained_places-requires-clause-placed : goal.gained_places-requires-clause-placed
gained_places-requires-clause-placed c = rw c.deref.ensures.value c.in_ok-found.ensures.placed

pub returns-clause-spliced : goal.returns-clause-spliced
returns-clause-spliced c =
    let j = rw (c.deref.ensures.value, c.deref-2.ensures.value) at c.in_ok-to.ensures.joined in
    record {
      kept = without c.in_ok-found.from.items c.args.live.now.ids;
      split =
          c.in_ok-found.ensures.split;
      joined = j;
    }

pub returns-clause-placed : goal.returns-clause-placed
returns-clause-placed c =
    let p = rw c.deref.ensures.value at c.in_ok-to.ensures.placed in (
      c.in_ok-found.ensures.placed,
      p,
      (let n = c.in_ok-to.ensures.count in let f =
          c.requires.few_gained in omega (arith, n, f)),
    )
