-- The grammar of operators: which lexemes spell which operator, and of what size it is. An operator
-- has one expression or condition at most, and its size is that of this tree.
use Rattle.std.specs.Prelude.{ℕ, false, List, codes}
use Rattle.prima_base.specs.declared.value.ColType.{ColType}
use Rattle.prima_base.specs.declared.value.ColType.TheVariants.{Int, Text}
use Rattle.prima_base.specs.Columns.{Column}
use Rattle.cond_expr.specs.Trees.{Tree, Test, always}
use Rattle.smo_ops_types.specs.Operators.{Operator, nop, create_table, drop_table, rename_table}
use Rattle.smo_ops_types.specs.Operators.{copy_table, merge_table, partition_table, decompose_table}
use Rattle.smo_ops_types.specs.Operators.{join_table, add_column, drop_column, rename_column}
use Rattle.lexer_spec.specs.Lexemes.{word, sign}
use Rattle.lexer_combinators.specs.Grammar.{Grammar}
use Rattle.lexer_combinators.specs.Grammar as grammar
use Rattle.lexer_trees_spec.specs.Grammar.{IsExpr, IsCond}
use Rattle.lexer_trees_spec.specs.Constants.{name_grammar, names_grammar}
use Rattle.lexer_trees_spec.specs.Where.{IsWhere}

-- ---- parts of operators

-- INT | TEXT
abbrev pub IsType : Grammar ColType
IsType = grammar.alt (grammar.lead (word (codes "INT")) (grammar.pure Int))
    (grammar.lead (word (codes "TEXT")) (grammar.pure Text))

-- name type
abbrev pub IsColumn : Grammar Column
IsColumn = grammar.seq name_grammar (λ column. grammar.map (λ kind. (column, kind)) IsType)

-- name type { , name type }
abbrev pub AreColumns : Grammar (List Column)
AreColumns = grammar.list (sign (codes ",")) IsColumn

-- name ( names ): a table, and the columns that it gets
abbrev pub IsPart : Grammar (List ℕ × List (List ℕ))
IsPart = grammar.seq name_grammar (λ table. grammar.lead (sign (codes "("))
    (grammar.seq names_grammar (λ columns. grammar.lead (sign (codes ")"))
    (grammar.pure (table, columns)))))

-- a condition, and an expression, over one table
abbrev pub IsTest : Grammar Test
IsTest = IsCond false

abbrev pub IsTree : Grammar Tree
IsTree = IsExpr false

-- ---- the twelve operators

-- NOP
abbrev pub IsNop : Grammar Operator
IsNop = grammar.lead (word (codes "NOP")) (grammar.pure nop)

-- CREATE TABLE name ( name type { , name type } )
abbrev pub IsCreateTable : Grammar Operator
IsCreateTable = grammar.lead (word (codes "CREATE"))
    (grammar.lead (word (codes "TABLE")) (grammar.seq name_grammar (λ table.
    grammar.lead (sign (codes "(")) (grammar.seq AreColumns
    (λ columns. grammar.lead (sign (codes ")")) (grammar.pure (create_table table columns)))))))

-- DROP TABLE name
abbrev pub IsDropTable : Grammar Operator
IsDropTable = grammar.lead (word (codes "DROP"))
    (grammar.lead (word (codes "TABLE")) (grammar.map (λ table. drop_table table) name_grammar))

-- RENAME TABLE name INTO name
abbrev pub IsRenameTable : Grammar Operator
IsRenameTable = grammar.lead (word (codes "RENAME"))
    (grammar.lead (word (codes "TABLE")) (grammar.seq name_grammar (λ table.
    grammar.lead (word (codes "INTO")) (grammar.map (λ into. rename_table table into)
    name_grammar))))

-- COPY TABLE name INTO name
abbrev pub IsCopyTable : Grammar Operator
IsCopyTable = grammar.lead (word (codes "COPY"))
    (grammar.lead (word (codes "TABLE")) (grammar.seq name_grammar (λ table.
    grammar.lead (word (codes "INTO")) (grammar.map (λ into. copy_table table into) name_grammar))))

-- MERGE TABLE name , name INTO name
abbrev pub IsMergeTable : Grammar Operator
IsMergeTable = grammar.lead (word (codes "MERGE"))
    (grammar.lead (word (codes "TABLE")) (grammar.seq name_grammar
    (λ left. grammar.lead (sign (codes ",")) (grammar.seq name_grammar (λ right.
    grammar.lead (word (codes "INTO")) (grammar.map (λ into. merge_table left right into)
    name_grammar))))))

-- PARTITION TABLE name INTO name WITH cond , name
abbrev pub IsPartitionTable : Grammar Operator
IsPartitionTable = grammar.lead (word (codes "PARTITION"))
    (grammar.lead (word (codes "TABLE")) (grammar.seq name_grammar
    (λ table. grammar.lead (word (codes "INTO")) (grammar.seq name_grammar (λ yes.
    grammar.lead (word (codes "WITH")) (grammar.seq IsTest
    (λ c. grammar.lead (sign (codes ","))
    (grammar.map (λ no. partition_table table yes c no) name_grammar))))))))

-- DECOMPOSE TABLE name INTO name ( names ) , name ( names )
abbrev pub IsDecomposeTable : Grammar Operator
IsDecomposeTable = grammar.lead (word (codes "DECOMPOSE"))
    (grammar.lead (word (codes "TABLE")) (grammar.seq name_grammar
    (λ table. grammar.lead (word (codes "INTO"))
    (grammar.seq IsPart (λ left. grammar.lead (sign (codes ","))
    (grammar.map (λ right. decompose_table table left.0 left.1 right.0 right.1) IsPart))))))

-- JOIN TABLE name , name INTO name [ WHERE cond ]
abbrev pub IsJoinTable : Grammar Operator
IsJoinTable = grammar.lead (word (codes "JOIN"))
    (grammar.lead (word (codes "TABLE")) (grammar.seq name_grammar
    (λ left. grammar.lead (sign (codes ",")) (grammar.seq name_grammar (λ right.
    grammar.lead (word (codes "INTO")) (grammar.seq name_grammar
    (λ into. grammar.map (λ c. join_table left right into c) (IsWhere false))))))))

-- ADD COLUMN name AS expr INTO name
abbrev pub IsAddColumn : Grammar Operator
IsAddColumn = grammar.lead (word (codes "ADD"))
    (grammar.lead (word (codes "COLUMN")) (grammar.seq name_grammar
    (λ column. grammar.lead (word (codes "AS")) (grammar.seq IsTree (λ e.
    grammar.lead (word (codes "INTO")) (grammar.map (λ table. add_column column e table)
    name_grammar))))))

-- DROP COLUMN name FROM name
abbrev pub IsDropColumn : Grammar Operator
IsDropColumn = grammar.lead (word (codes "DROP"))
    (grammar.lead (word (codes "COLUMN")) (grammar.seq name_grammar (λ column.
    grammar.lead (word (codes "FROM")) (grammar.map (λ table. drop_column column table)
    name_grammar))))

-- RENAME COLUMN name IN name TO name
abbrev pub IsRenameColumn : Grammar Operator
IsRenameColumn = grammar.lead (word (codes "RENAME"))
    (grammar.lead (word (codes "COLUMN")) (grammar.seq name_grammar
    (λ column. grammar.lead (word (codes "IN")) (grammar.seq name_grammar (λ table.
    grammar.lead (word (codes "TO")) (grammar.map (λ into. rename_column column table into)
    name_grammar))))))

abbrev pub IsOperator : Grammar Operator
IsOperator = grammar.alt IsNop (grammar.alt IsCreateTable
    (grammar.alt IsDropTable (grammar.alt IsRenameTable
    (grammar.alt IsCopyTable (grammar.alt IsMergeTable
    (grammar.alt IsPartitionTable (grammar.alt IsDecomposeTable
    (grammar.alt IsJoinTable (grammar.alt IsAddColumn
    (grammar.alt IsDropColumn IsRenameColumn))))))))))
