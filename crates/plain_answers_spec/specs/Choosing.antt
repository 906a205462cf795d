-- What a condition and outputs are over a choice of one row per atom, and what they answer over all
-- choices.
use Rattle.std.specs.Prelude.{◌≡◌, ℕ, zero, suc, List, [], ◌∷◌, map, pos, Bool, true}
use Rattle.std.specs.List.{filter}
use Rattle.relations_spec.specs.Choices.{Chosen, choices}
use Rattle.prima_base.specs.declared.value.Value.{Value}
use Rattle.prima_base.specs.declared.value.Value.TheVariants.{Int}
use Rattle.prima_base.specs.Columns.{Column}
use Rattle.schema_catalog.specs.Databases.{cell}
use Rattle.cond_expr.specs.Trees.{Tree, Test}
use Rattle.cond_expr.specs.Values.{Cells, over, value, truth}
use Rattle.smo_ops_spec.specs.OneRow.{Row, Relation}

-- what the columns of an atom have in a choice of one row per atom
abbrev pub chosen_cell : List (List Column) → List Row → ℕ → List ℕ → Value
chosen_cell [] rows i name = Int (pos 0)
chosen_cell (cs ∷ columns) [] i name = Int (pos 0)
chosen_cell (cs ∷ columns) (row ∷ rows) zero name = cell cs row name
chosen_cell (cs ∷ columns) (row ∷ rows) (suc i) name = chosen_cell columns rows i name

abbrev pub chosen_cells : List (List Column) → List Row → Cells
chosen_cells columns rows = over (chosen_cell columns rows)

-- the choice meets the condition
abbrev pub choice_meets : List (List Column) → Test → List Row → Bool
choice_meets columns cond choice = truth (chosen_cells columns choice) cond

-- the values of the outputs, in written order
abbrev pub answered : List (List Column) → List Tree → List Row → Row
answered columns outs choice = map (value (chosen_cells columns choice)) outs

-- of each choice of one row per relation that meets the condition, the values of the outputs
abbrev pub answers_over : List (List Column) → List Relation → List Tree → Test → List Row
answers_over columns relations outs cond =
    map (answered columns outs) (filter (choice_meets columns cond) (choices relations))

-- a choice of one row per relation meets the condition, and its outputs are the row
pub record Gives (columns : List (List Column)) (relations : List Relation) (outs : List Tree)
    (cond : Test)
    (row : Row) : Type 0 where
  pub choice : List Row
  pub chosen : Chosen choice relations
  pub met : choice_meets columns cond choice ≡ true
  pub is : answered columns outs choice ≡ row
