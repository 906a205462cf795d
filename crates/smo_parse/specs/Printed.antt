-- Printing an operator and reading it again.
use Rattle.std.specs.Prelude.{◌≡◌, ℕ, List, [], length, Option, None, Result, Ok, Err}
use Rattle.cond_expr.specs.Sizes.{depth_of, test_depth}
use Rattle.smo_ops_types.specs.declared.op.Op.{Op}
use Rattle.smo_ops_types.specs.Operators.{Operator, operator_of, nop, create_table, drop_table}
use Rattle.smo_ops_types.specs.Operators.{rename_table, copy_table, merge_table, partition_table}
use Rattle.smo_ops_types.specs.Operators.{decompose_table, join_table, add_column, drop_column}
use Rattle.smo_ops_types.specs.Operators.{rename_column}
use Rattle.lexer_spec.specs.declared.token.Token.{Token}
use Rattle.lexer_spec.specs.declared.fault.LexFault.{LexFault}
use Rattle.lexer_combinators.specs.declared.fault.ParseFault.{ParseFault}
use Rattle.lexer_combinators.specs.declared.fault.ParseFault.TheVariants as fault
use Rattle.lexer_spec.specs.Lexed.{Lexes}
use Rattle.lexer_combinators.specs.Parsing.{Parsed}
use Rattle.lexer_combinators.specs.Found.{IsRead, AnswersAs, lexemes_from}
use Rattle.smo_parse.specs.Productions.{IsOperator}
use Rattle.smo_parse.specs.OperatorReader.{operator}
use Rattle.smo_parse.specs.Texts.{operator_text}

-- the depth of its expression or condition; 0 where it has none
abbrev pub tree_depth : Operator → ℕ
tree_depth (partition_table r s c t) = test_depth c
tree_depth (join_table r s t c) = test_depth c
tree_depth (add_column n e r) = depth_of e
tree_depth nop = 0
tree_depth (create_table r cs) = 0
tree_depth (drop_table r) = 0
tree_depth (rename_table r t) = 0
tree_depth (copy_table r t) = 0
tree_depth (merge_table r s t) = 0
tree_depth (decompose_table r s xs t ys) = 0
tree_depth (drop_column n r) = 0
tree_depth (rename_column b r c) = 0

-- this operator was read, up to this place, unless memory ran out
abbrev pub IsWhole : Operator → ℕ → Result (Op × ℕ) ParseFault → Type 0
IsWhole o n (Ok r) = (operator_of r.0 ≡ o) × (r.1 ≡ n)
IsWhole o n (Err fault.NoMemory) = Unit {0}
IsWhole o n (Err (fault.Syntax at)) = ⊥
IsWhole o n (Err fault.RanOut) = ⊥
IsWhole o n (Err (fault.TooMany w most)) = ⊥

-- Whatever tokens the operator's text has by the lexical grammar, they come without a fault and are
-- read as this operator, with nothing left; and so it is with whatever call keeps what reading
-- operators ensures.
abbrev pub IsReadAgain : Operator → Type 0
IsReadAgain o = (ts : List Token) (e : Option LexFault) → Lexes 0 (operator_text o) ts e →
    (e ≡ None)
    × ((m : ℕ) × (operator 0 (lexemes_from ts 0) ≡ Parsed o m []))
    × ((r : Result (Op × ℕ) ParseFault) → IsRead operator_of IsOperator ts 0 r
    → AnswersAs operator_of (operator 0 (lexemes_from ts 0)) ts r → IsWhole o (length ts) r)
