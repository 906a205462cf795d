-- That the value of an entry is valid, and that it is borrowed, is no data: there is at most one
-- proof of it.
use Rattle.std.specs.Prelude.{Option, Some, None, IfSome}
use Rattle.std.proofs.Props.{props}
use Rattle.prima_base.specs.declared.value.Val.{Val}
use Rattle.prima_base.specs.declared.value.Val.TheVariants.{Int as ValInt, Slice, Own}
use Rattle.prima_base.specs.Columns.{IsValid}
use Rattle.prima_base.specs.Order.{shown, IsBorrowed}
use Rattle.history_store_columns.specs.declared.scan.CellEntry.{CellEntry}
use Rattle.join_exec_spec.specs.Fitting.{valid_once}

pub valid_head_once : (head : Option CellEntry)
    → IsProp (IfSome head (λ e. IsValid (shown e.value)))
valid_head_once None = hlevel props
valid_head_once (Some e) = valid_once (shown e.value)

borrowed_once : (v : Val) → IsProp (IsBorrowed v)
borrowed_once (ValInt n) = hlevel props
borrowed_once (Slice s) = hlevel props
borrowed_once (Own t) = hlevel props

pub borrowed_head_once : (head : Option CellEntry)
    → IsProp (IfSome head (λ e. IsBorrowed e.value))
borrowed_head_once None = hlevel props
borrowed_head_once (Some e) = borrowed_once e.value
