-- The lines of commands, byte for byte.
use Rattle.std.specs.Prelude.{ℕ, ◌++◌, List, [], ◌∷◌, map, codes, decimal}
use Rattle.prima_base.specs.declared.value.Value.{Value}
use Rattle.cond_expr.specs.Trees.{Tree}
use Rattle.smo_ops_types.specs.Changes.{PlainChange, insertion, deletion, update}
use Rattle.smo_ops_types.specs.Commands.{PlainBody, changing, evolving, PlainCommand}
use Rattle.smo_ops_spec.specs.Checks.{pair_names}
use Rattle.smo_parse.specs.TreeTexts.{value_text}
use Rattle.smo_parse.specs.Texts.{listed, part_text, expr_text, cond_text, evolution_text}

abbrev pub cell_values : List (List ℕ × Value) → List Value
cell_values [] = []
cell_values (c ∷ cells) = c.1 ∷ cell_values cells

-- COLUMN = EXPR
abbrev pub set_text : List ℕ × Tree → List ℕ
set_text s = s.0 ++ codes " = " ++ expr_text s.1

abbrev pub change_text : PlainChange → List ℕ
change_text (insertion t cells) = codes "INSERT INTO " ++ part_text t (pair_names cells)
    ++ codes " VALUES (" ++ listed (map value_text (cell_values cells)) ++ codes ")"
change_text (deletion t c) = codes "DELETE FROM " ++ t ++ codes " WHERE " ++ cond_text c
change_text (update t sets c) = codes "UPDATE " ++ t ++ codes " SET " ++ listed (map set_text sets)
    ++ codes " WHERE " ++ cond_text c

-- each after THEN
abbrev pub then_texts : List PlainChange → List ℕ
then_texts [] = []
then_texts (c ∷ changes) = codes " THEN " ++ change_text c ++ then_texts changes

abbrev pub changes_text : List PlainChange → List ℕ
changes_text [] = []
changes_text (c ∷ changes) = change_text c ++ then_texts changes

-- an EVOLVE without an inverse
abbrev pub body_text : PlainBody → List ℕ
body_text (changing changes) = changes_text changes
body_text (evolving op inverse) = codes "EVOLVE " ++ evolution_text op

abbrev pub command_text : PlainCommand → List ℕ
command_text c = codes "AT " ++ decimal c.stamp ++ codes " " ++ body_text c.body

-- with its `;`
abbrev pub line : PlainCommand → List ℕ
line c = command_text c ++ codes ";"

-- the script: each line ends with an LF
abbrev pub script : List PlainCommand → List ℕ
script [] = []
script (c ∷ commands) = line c ++ 10 ∷ script commands
