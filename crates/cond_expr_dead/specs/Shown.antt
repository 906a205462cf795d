-- What the values and the comparisons of the code stand for.
use Rattle.std.specs.Prelude.{◌++◌, [], ◌∷◌, Option, Some, None}
use Rattle.prima_base.specs.declared.value.Value.{Value}
use Rattle.prima_base.specs.declared.value.Value.TheVariants.{Int, Text}
use Rattle.cond_expr.specs.Parts.{Bound}
use Rattle.cond_expr_dead.specs.declared.trial.Tried.{Tried}
use Rattle.cond_expr_dead.specs.declared.trial.Tried.TheVariants.{Number, Bytes, Longer}
use Rattle.cond_expr_dead.specs.declared.bound.ColumnBound.{ColumnBound}

abbrev pub tried_value : Tried → Value
tried_value (Number n) = Int n
tried_value (Bytes t) = Text t.now
tried_value (Longer prefix last) = Text (prefix.now ++ last ∷ [])

abbrev pub tried_values : Option Tried → Option Value
tried_values None = None
tried_values (Some t) = Some (tried_value t)

abbrev pub bound_shown : ColumnBound → Bound
bound_shown b = record { atom = b.atom; name = b.name.now; op = b.op; limit = b.limit.now }

abbrev pub bounds_shown : Option ColumnBound → Option Bound
bounds_shown None = None
bounds_shown (Some b) = Some (bound_shown b)
