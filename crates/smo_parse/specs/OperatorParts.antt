-- The parts of an operator that are trees: the condition of a PARTITION or JOIN, and the expression
-- of an ADD COLUMN.
use Rattle.std.specs.Prelude.{false, List}
use Rattle.smo_ops_types.specs.Operators.{Operator}
use Rattle.lexer_spec.specs.Lexemes.{Lexeme}
use Rattle.lexer_combinators.specs.Grammar.{Size}
use Rattle.lexer_combinators.specs.Derivations.{Derivation, derivation, after_lexeme, first_of}
use Rattle.lexer_combinators.specs.Derivations.{rest_of, source_of}
use Rattle.lexer_trees_spec.specs.Where.{IsWhere}
use Rattle.smo_parse.specs.Productions.{IsTest, IsTree, IsPartitionTable, IsJoinTable, IsAddColumn}

-- PARTITION TABLE name INTO name WITH, and then the condition
abbrev pub partition_condition : (o : Operator) (s : Size) (f : List Lexeme)
    → IsPartitionTable o s f → Derivation IsTest
partition_condition o s f h =
    let whole : Derivation IsPartitionTable = derivation o s f h in
    let after_table = rest_of (after_lexeme (after_lexeme whole)) in
    let after_into = rest_of (after_lexeme after_table) in
    first_of (after_lexeme after_into)

-- JOIN TABLE name , name INTO name, and then what may follow
abbrev pub join_condition : (o : Operator) (s : Size) (f : List Lexeme) → IsJoinTable o s f
    → Derivation (IsWhere false)
join_condition o s f h =
    let whole : Derivation IsJoinTable = derivation o s f h in
    let after_left = rest_of (after_lexeme (after_lexeme whole)) in
    let after_right = rest_of (after_lexeme after_left) in
    let after_into = rest_of (after_lexeme after_right) in
    source_of after_into

-- ADD COLUMN name AS, and then the expression
abbrev pub column_value : (o : Operator) (s : Size) (f : List Lexeme) → IsAddColumn o s f
    → Derivation IsTree
column_value o s f h =
    let whole : Derivation IsAddColumn = derivation o s f h in
    let after_name = rest_of (after_lexeme (after_lexeme whole)) in
    first_of (after_lexeme after_name)
