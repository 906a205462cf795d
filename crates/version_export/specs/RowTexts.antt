-- The values that a row shows.
use Rattle.std.specs.Prelude.{List, map}
use Rattle.prima_base.specs.declared.value.Value.{Value}
use Rattle.prima_base.specs.declared.value.Val.{Val}
use Rattle.prima_base.specs.Order.{shown}

abbrev pub shown_row : List Val → List Value
shown_row values = map shown values
