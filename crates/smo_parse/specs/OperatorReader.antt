-- Reading operators, from left to right.
use Rattle.std.specs.Prelude.{ℕ, Bool, false, if◌then◌else◌, ◌||◌, List, ◌∷◌, codes}
use Rattle.prima_base.specs.declared.value.ColType.{ColType}
use Rattle.prima_base.specs.declared.value.ColType.TheVariants.{Int, Text}
use Rattle.prima_base.specs.Columns.{Column}
use Rattle.cond_expr.specs.Trees.{Test, always}
use Rattle.smo_ops_types.specs.Operators.{Operator, nop, create_table, drop_table, rename_table}
use Rattle.smo_ops_types.specs.Operators.{copy_table, merge_table, partition_table, decompose_table}
use Rattle.smo_ops_types.specs.Operators.{join_table, add_column, drop_column, rename_column}
use Rattle.lexer_spec.specs.Lexemes.{Lexeme, is_word, is_sign}
use Rattle.lexer_combinators.specs.Parsing.{Parser, Arm, No, Takes, bind, pure, map_to, lead}
use Rattle.lexer_combinators.specs.Parsing.{choose, option, many}
use Rattle.lexer_trees_spec.specs.Reader.{outermost, follow_cond}
use Rattle.lexer_trees_spec.specs.Constants.{name, names}
use Rattle.lexer_trees_spec.specs.Where.{outer_where, follow_where}

-- ---- parts of operators

abbrev pub type_arm : Lexeme → Arm ColType
type_arm x = if is_word (codes "INT") x then Takes (pure Int)
    else (if is_word (codes "TEXT") x then Takes (pure Text) else No)

unfoldable pub column_type : Parser ColType
column_type = choose type_arm

unfoldable pub column : Parser Column
column = bind name (λ n. map_to (λ k. (n, k)) column_type)

unfoldable pub columns : Parser (List Column)
columns = bind column (λ c. map_to (λ l. c ∷ l) (many (is_sign (codes ",")) column))

-- ---- the operators, each after its first word or words

-- after CREATE
unfoldable pub create_rest : Parser Operator
create_rest = lead (is_word (codes "TABLE")) (bind name
    (λ r. lead (is_sign (codes "(")) (bind columns
    (λ l. lead (is_sign (codes ")")) (pure (create_table r l))))))

-- after DROP TABLE
unfoldable pub drop_table_rest : Parser Operator
drop_table_rest = map_to (λ r. drop_table r) name

-- after DROP COLUMN
unfoldable pub drop_column_rest : Parser Operator
drop_column_rest = bind name (λ n. lead (is_word (codes "FROM"))
    (map_to (λ r. drop_column n r) name))

abbrev pub drop_arm : Lexeme → Arm Operator
drop_arm x = if is_word (codes "TABLE") x then Takes drop_table_rest
    else (if is_word (codes "COLUMN") x then Takes drop_column_rest else No)

-- after DROP
unfoldable pub drop_rest : Parser Operator
drop_rest = choose drop_arm

-- after RENAME TABLE
unfoldable pub rename_table_rest : Parser Operator
rename_table_rest = bind name (λ r. lead (is_word (codes "INTO"))
    (map_to (λ t. rename_table r t) name))

-- after RENAME COLUMN
unfoldable pub rename_column_rest : Parser Operator
rename_column_rest = bind name (λ b. lead (is_word (codes "IN"))
    (bind name (λ r. lead (is_word (codes "TO")) (map_to (λ c. rename_column b r c) name))))

abbrev pub rename_arm : Lexeme → Arm Operator
rename_arm x = if is_word (codes "TABLE") x then Takes rename_table_rest
    else (if is_word (codes "COLUMN") x then Takes rename_column_rest else No)

-- after RENAME
unfoldable pub rename_rest : Parser Operator
rename_rest = choose rename_arm

-- after COPY
unfoldable pub copy_rest : Parser Operator
copy_rest = lead (is_word (codes "TABLE")) (bind name
    (λ r. lead (is_word (codes "INTO")) (map_to (λ t. copy_table r t) name)))

-- after MERGE
unfoldable pub merge_rest : Parser Operator
merge_rest = lead (is_word (codes "TABLE")) (bind name
    (λ r. lead (is_sign (codes ",")) (bind name
    (λ s. lead (is_word (codes "INTO")) (map_to (λ t. merge_table r s t) name)))))

-- after PARTITION
unfoldable pub partition_rest : Parser Operator
partition_rest = lead (is_word (codes "TABLE"))
    (bind name (λ r. lead (is_word (codes "INTO")) (bind name (λ s. lead (is_word (codes "WITH"))
    (bind (outermost false).cond (λ c. lead (is_sign (codes ","))
    (map_to (λ t. partition_table r s c t) name)))))))

-- a table's name and, in brackets, the names of its columns
unfoldable pub part : Parser (List ℕ × List (List ℕ))
part = bind name (λ s. lead (is_sign (codes "("))
    (bind names (λ xs. lead (is_sign (codes ")")) (pure (s, xs)))))

-- after DECOMPOSE
unfoldable pub decompose_rest : Parser Operator
decompose_rest = lead (is_word (codes "TABLE"))
    (bind name (λ r. lead (is_word (codes "INTO"))
    (bind part (λ p. lead (is_sign (codes ","))
    (map_to (λ q. decompose_table r p.0 p.1 q.0 q.1) part)))))

-- after JOIN
unfoldable pub join_rest : Parser Operator
join_rest = lead (is_word (codes "TABLE")) (bind name
    (λ r. lead (is_sign (codes ",")) (bind name
    (λ s. lead (is_word (codes "INTO")) (bind name
    (λ t. map_to (λ c. join_table r s t c) (outer_where false)))))))

-- after ADD
unfoldable pub add_rest : Parser Operator
add_rest = lead (is_word (codes "COLUMN")) (bind name
    (λ n. lead (is_word (codes "AS")) (bind (outermost false).expr
    (λ e. lead (is_word (codes "INTO")) (map_to (λ r. add_column n e r) name)))))

abbrev pub operator_arm : Lexeme → Arm Operator
operator_arm x =
    if is_word (codes "NOP") x then Takes (pure nop)
    else (if is_word (codes "CREATE") x then Takes create_rest else
    (if is_word (codes "DROP") x then Takes drop_rest
    else (if is_word (codes "RENAME") x then Takes rename_rest else
    (if is_word (codes "COPY") x then Takes copy_rest
    else (if is_word (codes "MERGE") x then Takes merge_rest else
    (if is_word (codes "PARTITION") x then Takes partition_rest
    else (if is_word (codes "DECOMPOSE") x then Takes decompose_rest else
    (if is_word (codes "JOIN") x then Takes join_rest
    else (if is_word (codes "ADD") x then Takes add_rest else No)))))))))

unfoldable pub operator : Parser Operator
operator = choose operator_arm

-- ---- what may stand after a whole one and still go on with it

-- The lexemes with which some whole operator goes on: WHERE, of a JOIN without one, and AND and OR,
-- of a JOIN's condition. In front of each other lexeme every operator is at its end.
abbrev pub follow_operator : Lexeme → Bool
follow_operator = follow_where false
