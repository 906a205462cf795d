-- Reading names, values, expressions, conditions, operators, changes and commands, from left to
-- right.
use Rattle.std.specs.Prelude.{ℕ, zero, suc, Bool, ◌==◌, ◌&&◌, not, nat_le, nat_lt, if◌then◌else◌}
use Rattle.std.specs.Prelude.{List, [], ◌∷◌, map}
use Rattle.std.specs.Int.{w64, cast_signed}
use Rattle.prima_base.specs.Bytes.{is_text_byte, is_digit, is_name_byte}
use Rattle.prima_base.specs.Columns.{Column}
use Rattle.prima_base.specs.declared.value.ColType.{ColType}
use Rattle.prima_base.specs.declared.value.ColType.TheVariants.{Int as IntType, Text as TextType}
use Rattle.prima_base.specs.declared.value.Value.{Value}
use Rattle.prima_base.specs.declared.value.Value.TheVariants.{Int, Text}
use Rattle.prima_base.specs.Limits.{max_name, max_text, max_depth}
use Rattle.cond_expr.specs.declared.expr.Whose.TheVariants.{Atom}
use Rattle.cond_expr.specs.declared.expr.CmpOp.{CmpOp}
use Rattle.cond_expr.specs.declared.expr.CmpOp.TheVariants.{Eq, Ne, Lt, Le, Gt, Ge}
use Rattle.cond_expr.specs.Trees.{Tree, column, constant, length_of, joined, choose, Test, never}
use Rattle.cond_expr.specs.Trees.{always, compared, all_of, some_of, fails}
use Rattle.cond_expr.specs.Seen.{trees_of, tests_of}
use Rattle.smo_ops_types.specs.Operators.{Operator, nop, create_table, drop_table, rename_table}
use Rattle.smo_ops_types.specs.Operators.{copy_table, merge_table, partition_table, decompose_table}
use Rattle.smo_ops_types.specs.Operators.{join_table, add_column, drop_column, rename_column}
use Rattle.smo_ops_types.specs.Changes.{PlainChange, insertion, deletion, update}
use Rattle.smo_ops_types.specs.Commands.{PlainBody, changing, evolving, PlainCommand}
use Rattle.command_codec_spec.specs.Reading.{Parser, Unexpected, bind, pure, map_to, pair, byte}
use Rattle.command_codec_spec.specs.Reading.{by_tag, run, digits, list_parser}

-- at most this
abbrev pub up_to : ℕ → ℕ → Bool
up_to most x = nat_le x most

-- ---- names and values

-- a name's first byte is no digit
abbrev pub is_name_start : ℕ → Bool
is_name_start b = is_name_byte b && not (is_digit b)

abbrev pub is_name_length : ℕ → Bool
is_name_length n = nat_lt 0 n && nat_le n max_name

-- a name of so many bytes
unfoldable pub name_text : ℕ → Parser (List ℕ)
name_text zero = λ ts. Unexpected ts
name_text (suc k) = bind (byte is_name_start) (λ b. map_to (λ l. b ∷ l) (run is_name_byte k))

unfoldable pub name : Parser (List ℕ)
name = by_tag is_name_length name_text

-- the length, at most 4,096, and that many bytes
unfoldable pub text : Parser (List ℕ)
text = bind (digits max_text 2 0) (λ n. run is_text_byte n)

-- a number of 8 bytes
unfoldable pub number_64 : Parser ℕ
number_64 = digits 18446744073709551615 8 0

abbrev pub value_arm : ℕ → Parser Value
value_arm tag = if tag == 0 then map_to (λ n. Int (cast_signed w64 n)) number_64
    else map_to Text text

unfoldable pub value : Parser Value
value = by_tag (up_to 1) value_arm

abbrev pub type_of_tag : ℕ → ColType
type_of_tag tag = if tag == 0 then IntType else TextType

unfoldable pub column_type : Parser ColType
column_type = map_to type_of_tag (byte (up_to 1))

-- ---- expressions and conditions

-- what reads a tree
pub record Level : Type 0 where
  pub expr : Parser Tree
  pub cond : Parser Test

abbrev pub sign_of_tag : ℕ → CmpOp
sign_of_tag tag = if tag == 0 then Eq else (if tag == 1 then Ne
    else (if tag == 2 then Lt else (if tag == 3 then Le else (if tag == 4 then Gt else Ge))))

unfoldable pub sign : Parser CmpOp
sign = map_to sign_of_tag (byte (up_to 5))

-- Where no level may stand below, LENGTH, CASE, comparisons and NOT cannot stand, and a list has no
-- part.
abbrev pub is_expr_tag : Bool → ℕ → Bool
is_expr_tag deeper x = if deeper then nat_le x 4 else nat_le x 3 && not (x == 2)

abbrev pub is_cond_tag : Bool → ℕ → Bool
is_cond_tag deeper x = if deeper then nat_le x 5 else nat_le x 4 && not (x == 2)

abbrev pub most_parts : Bool → ℕ → ℕ
most_parts deeper most = if deeper then most else 0

-- what is read after a tag, as its tree or condition
abbrev pub chosen : (Test × Tree) × Tree → Tree
chosen ((met, taken), other) = choose met taken other

abbrev pub comparison : (CmpOp × Tree) × Tree → Test
comparison ((operation, left), right) = compared operation left right

-- whether a level may stand below, and what reads it
module _ (deeper : Bool) (inside : Level) where
  abbrev pub expr_arm : ℕ → Parser Tree
  expr_arm tag =
      if tag == 0 then map_to (λ n. column (Atom 0) n) name
      else (if tag == 1 then map_to constant value else
      (if tag == 2 then map_to length_of inside.expr
      else (if tag == 3 then map_to (λ l. joined (trees_of l))
      (list_parser 1 (most_parts deeper 255) inside.expr) else
      map_to chosen (pair (pair inside.cond inside.expr) inside.expr))))

  unfoldable pub expr : Parser Tree
  expr = by_tag (is_expr_tag deeper) expr_arm

  abbrev pub cond_arm : ℕ → Parser Test
  cond_arm tag =
      if tag == 0 then pure never else (if tag == 1 then pure always else
      (if tag == 2 then map_to comparison
      (pair (pair sign inside.expr) inside.expr) else
      (if tag == 3 then map_to (λ l. all_of (tests_of l))
      (list_parser 2 (most_parts deeper 65535) inside.cond) else
      (if tag == 4 then map_to (λ l. some_of (tests_of l))
      (list_parser 2 (most_parts deeper 65535) inside.cond) else map_to fails inside.cond))))

  unfoldable pub cond : Parser Test
  cond = by_tag (is_cond_tag deeper) cond_arm

abbrev pub nothing : Level
nothing = record { expr = λ ts. Unexpected ts; cond = λ ts. Unexpected ts }

abbrev pub made : Bool → Level → Level
made deeper inside = record { expr = expr deeper inside; cond = cond deeper inside }

-- a tree of at most so many levels
abbrev pub level : ℕ → Level
level zero = nothing
level (suc d) = made (nat_lt 0 d) (level d)

unfoldable pub outermost : Level
outermost = level max_depth

-- ---- operators, changes and commands

unfoldable pub column_of : Parser Column
column_of = pair name column_type

unfoldable pub columns : Parser (List Column)
columns = list_parser 1 255 column_of

unfoldable pub names : Parser (List (List ℕ))
names = list_parser 1 255 name

unfoldable pub two_names : Parser (List ℕ × List ℕ)
two_names = pair name name

unfoldable pub three_names : Parser ((List ℕ × List ℕ) × List ℕ)
three_names = pair two_names name

-- what is read after a tag, as its operator
abbrev pub created_table : List ℕ × List Column → Operator
created_table (table, own) = create_table table own

abbrev pub renamed_table : List ℕ × List ℕ → Operator
renamed_table (table, into) = rename_table table into

abbrev pub copied_table : List ℕ × List ℕ → Operator
copied_table (table, into) = copy_table table into

abbrev pub merged_table : (List ℕ × List ℕ) × List ℕ → Operator
merged_table ((left, right), into) = merge_table left right into

abbrev pub partition_of : ((List ℕ × List ℕ) × Test) × List ℕ → Operator
partition_of (((table, met), cond), others) = partition_table table met cond others

abbrev pub decompose_of : (((List ℕ × List ℕ) × List (List ℕ)) × List ℕ) × List (List ℕ) → Operator
decompose_of ((((table, left), left_columns), right), right_columns) =
    decompose_table table left left_columns right right_columns

abbrev pub joined_tables : ((List ℕ × List ℕ) × List ℕ) × Test → Operator
joined_tables (((left, right), into), cond) = join_table left right into cond

abbrev pub added_column : (List ℕ × List ℕ) × Tree → Operator
added_column ((table, added), computed) = add_column added computed table

abbrev pub dropped_column : List ℕ × List ℕ → Operator
dropped_column (table, dropped) = drop_column dropped table

abbrev pub renamed_column : (List ℕ × List ℕ) × List ℕ → Operator
renamed_column ((table, renamed), into) = rename_column renamed table into

abbrev pub operator_arm : ℕ → Parser Operator
operator_arm tag =
    if tag == 0 then pure nop else
    (if tag == 1 then map_to created_table (pair name columns) else
    (if tag == 2 then map_to drop_table name else
    (if tag == 3 then map_to renamed_table two_names else
    (if tag == 4 then map_to copied_table two_names else
    (if tag == 5 then map_to merged_table three_names else
    (if tag == 6 then map_to partition_of (pair (pair two_names outermost.cond) name) else
    (if tag == 7 then map_to decompose_of (pair (pair (pair two_names names) name) names) else
    (if tag == 8 then map_to joined_tables (pair three_names outermost.cond) else
    (if tag == 9 then map_to added_column (pair two_names outermost.expr) else
    (if tag == 10 then map_to dropped_column two_names else
    map_to renamed_column three_names))))))))))

unfoldable pub operator : Parser Operator
operator = by_tag (up_to 11) operator_arm

unfoldable pub operators : Parser (List Operator)
operators = list_parser 4 4294967295 operator

unfoldable pub cell : Parser (List ℕ × Value)
cell = pair name value

unfoldable pub cells : Parser (List (List ℕ × Value))
cells = list_parser 4 4294967295 cell

unfoldable pub set : Parser (List ℕ × Tree)
set = pair name outermost.expr

unfoldable pub sets : Parser (List (List ℕ × Tree))
sets = list_parser 4 4294967295 set

-- what is read after a tag, as its change
abbrev pub insert_of : List ℕ × List (List ℕ × Value) → PlainChange
insert_of (table, row) = insertion table row

abbrev pub delete_of : List ℕ × Test → PlainChange
delete_of (table, met) = deletion table met

abbrev pub update_of : (List ℕ × List (List ℕ × Tree)) × Test → PlainChange
update_of ((table, changed), met) = update table changed met

abbrev pub change_arm : ℕ → Parser PlainChange
change_arm tag =
    if tag == 0 then map_to insert_of (pair name cells) else
    (if tag == 1 then map_to delete_of (pair name outermost.cond) else
    map_to update_of (pair (pair name sets) outermost.cond))

unfoldable pub change : Parser PlainChange
change = by_tag (up_to 2) change_arm

unfoldable pub changes : Parser (List PlainChange)
changes = list_parser 4 4294967295 change

-- each operator that is read is the one member of its version's operator
abbrev pub evolved : Operator × List Operator → PlainBody
evolved (op, inverse) = evolving (op ∷ []) (map (λ o. o ∷ []) inverse)

abbrev pub body_arm : ℕ → Parser PlainBody
body_arm tag = if tag == 0 then map_to changing changes
    else map_to evolved (pair operator operators)

unfoldable pub body : Parser PlainBody
body = by_tag (up_to 1) body_arm

abbrev pub a_command : ℕ × PlainBody → PlainCommand
a_command (at, content) = record { stamp = at; body = content }

-- the greatest stamp is 2^64 - 2
unfoldable pub command : Parser PlainCommand
command = map_to a_command (pair (digits 18446744073709551614 8 0) body)
