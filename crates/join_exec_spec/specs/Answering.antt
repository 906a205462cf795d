-- What is answered of choices of one row of each of several lists.
use Rattle.std.specs.Prelude.{List, [], ◌∷◌, map, if◌then◌else◌}
use Rattle.std.specs.List.{flat_map}
use Rattle.relations_spec.specs.Timed.{Entry}
use Rattle.prima_base.specs.declared.value.Value.{Value}
use Rattle.cond_expr.specs.declared.expr.Column.{Column}
use Rattle.cond_expr.specs.Trees.{Tree, Test}
use Rattle.cond_expr.specs.Values.{value}
use Rattle.cond_expr.specs.Rows.{cells}
use Rattle.join_exec_spec.specs.Keeping.{meets}

-- the rows of a choice, one after the other
abbrev pub one_row : {V : Type 0} → List (List V) → List V
one_row {V} choice = flat_map (λ (row : List V). row) choice

-- the values of the outputs
abbrev pub outputs : List Column → List Tree → List Value → List Value
outputs columns outs row = map (value (cells columns row)) outs

-- these in the choice's period, where it meets the condition
abbrev pub answer : List Column → List Tree → Test → Entry (List Value) → List (Entry (List Value))
answer columns outs cond e = if meets columns cond e.item
    then record { item = outputs columns outs e.item; period = e.period } ∷ [] else []

abbrev pub answers : List Column → List Tree → Test → List (Entry (List Value))
    → List (Entry (List Value))
answers columns outs cond entries = flat_map (answer columns outs cond) entries
