use Rattle.std.proofs.Common.{◌≡◌, ◌-◌, true, arith, sym, ◌∙◌, refl}
use Rattle.std.specs.Ordering.{is_lt}
use Rattle.std.specs.declared.cmp.Ordering.{Ordering}
use Rattle.std.specs.declared.cmp.Ordering.TheVariants.{Less, Equal, Greater}
use Rattle.history_store_row_order.specs.Logs.{cells_of}
use Rattle.history_store_row_order.proofs.SideBySide.{all_less}
use Rattle.history_store_row_order.proofs.walk.is_after.Goals as goal

is_less : (o : Ordering) → is_lt o ≡ true → o ≡ Less
is_less Less e = refl
is_less Equal e = cc
is_less Greater e = cc

pub compare_now-requires-clause-known : goal.compare_now-requires-clause-known
compare_now-requires-clause-known c = λ k d h.
    rw c.id_at.ensures (c.requires.known (c.len-count.result - 1) k d (omega arith) h)

pub returns : goal.returns
returns c = λ t k h.
    let e = rw c.id_at.ensures at (sym c.compare_now.ensures
    ∙ is_less c.compare_now.result (sym c.is_lt.ensures ∙ t)) in
    all_less (cells_of c.args.columns.now) c.args.live.now.ids c.args.row.now
    (c.len-count.result - 1) c.requires.live_rise (omega arith) e k (omega arith)
