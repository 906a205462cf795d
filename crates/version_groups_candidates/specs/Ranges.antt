-- The rows that can meet a condition: those between two cuts in their order, by the constants to
-- which top-level parts of the condition pin the first columns.
use Rattle.std.specs.Prelude.{Bool, true, false, not, List, [], ◌∷◌, ◌++◌, Option, Some, None}
use Rattle.std.specs.Prelude.{if◌then◌else◌}
use Rattle.std.specs.declared.cmp.Ordering.{Ordering}
use Rattle.std.specs.declared.cmp.Ordering.TheVariants.{Less, Equal, Greater}
use Rattle.prima_base.specs.declared.value.Value.{Value}
use Rattle.prima_base.specs.Order.{value_cmp}
use Rattle.cond_expr.specs.declared.expr.Column.{Column}
use Rattle.cond_expr.specs.declared.expr.CmpOp.{CmpOp}
use Rattle.cond_expr.specs.declared.expr.CmpOp.TheVariants.{Eq, Lt, Le, Gt, Ge}
use Rattle.cond_expr.specs.Trees.{Test}
use Rattle.cond_expr.specs.Parts.{parts}
use Rattle.cond_expr.specs.PinnedParts.{pinned, pinned_by}
use Rattle.history_store.specs.Cuts.{Cut}
use Rattle.version_groups_candidates.specs.declared.end.Side.{Side}
use Rattle.version_groups_candidates.specs.declared.end.Side.TheVariants.{Low, High}

abbrev pub cut_at : List Value → Bool → Cut
cut_at values after = record { values = values; after = after }

-- the cut of rows that begin with these values besides
abbrev pub with_lead : List Value → Cut → Cut
with_lead values c = cut_at (values ++ c.values) c.after

-- where a column is equal to a constant, the columns after it decide too
abbrev pub led_by : Option Value → Cut → Cut → Cut
led_by None later here = here
led_by (Some v) later here = with_lead (v ∷ []) later

-- ---- the ends of a range of one column

-- before the rows with this constant, or after them
pub record End : Type 0 where
  pub value : Value
  pub after : Bool

-- which comparison leaves its constant out at this side, and which has it
abbrev pub without_it : Side → CmpOp
without_it Low = Gt
without_it High = Lt

abbrev pub with_it : Side → CmpOp
with_it Low = Ge
with_it High = Le

abbrev pub is_low : Side → Bool
is_low Low = true
is_low High = false

-- the end at a constant that is left out, or else at one that is not
abbrev pub end_at : Side → Option Value → Option Value → Option End
end_at side (Some v) with_too = Some (record { value = v; after = is_low side })
end_at side None (Some v) = Some (record { value = v; after = not (is_low side) })
end_at side None None = None

-- where the part ends the column's values at this side
abbrev pub end_of : Side → Column → Test → Option End
end_of side c part = end_at side (pinned_by (without_it side) c part)
    (pinned_by (with_it side) c part)

-- an end whose constant compares so with another's leaves no more rows than that one
abbrev pub leaves_fewer : Side → Ordering → Bool → Bool
leaves_fewer Low Less after = false
leaves_fewer Low Equal after = after
leaves_fewer Low Greater after = true
leaves_fewer High Less after = true
leaves_fewer High Equal after = not after
leaves_fewer High Greater after = false

-- that of the two ends which leaves fewer rows
abbrev pub tighter : Side → Option End → Option End → Option End
tighter side None other = other
tighter side (Some a) None = Some a
tighter side (Some a) (Some b) = if leaves_fewer side (value_cmp a.value b.value) a.after
    then Some a else Some b

-- the tightest of the ends by the parts and of this one
abbrev pub tightest : Side → Column → List Test → Option End → Option End
tightest side c [] end = end
tightest side c (part ∷ parts) end = tighter side (end_of side c part) (tightest side c parts end)

abbrev pub bounded : Option End → Bool → Cut
bounded (Some end) free = cut_at (end.value ∷ []) end.after
bounded None free = cut_at [] free

-- ---- the cuts

-- no row before this cut can meet the condition
abbrev pub low_cut : List Column → Test → Cut
low_cut [] t = cut_at [] false
low_cut (c ∷ columns) t = led_by (pinned Eq c t) (low_cut columns t)
    (bounded (tightest Low c (parts t) None) false)

-- nor can one after this
abbrev pub high_cut : List Column → Test → Cut
high_cut [] t = cut_at [] true
high_cut (c ∷ columns) t = led_by (pinned Eq c t) (high_cut columns t)
    (bounded (tightest High c (parts t) None) true)
