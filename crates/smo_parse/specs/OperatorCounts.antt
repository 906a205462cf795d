-- What is counted at each token of an operator: at those of its expression or condition what is
-- counted there, and at each other nothing.
use Rattle.std.specs.Prelude.{false, List, [], ◌∷◌, ◌++◌, map}
use mathlib.Core.Logic.{inl, inr}
use Rattle.smo_ops_types.specs.Operators.{Operator}
use Rattle.cond_expr.specs.Trees.{Test}
use Rattle.lexer_spec.specs.Lexemes.{Lexeme}
use Rattle.lexer_combinators.specs.Grammar.{Size}
use Rattle.lexer_combinators.specs.TokenCounts.{TokenCounts, plain}
use Rattle.lexer_combinators.specs.ListOverflows.{Overflow, count_overflow}
use Rattle.lexer_trees_spec.specs.TreeCounts.{expr_counts, cond_counts}
use Rattle.lexer_trees_spec.specs.Where.{IsWhere}
use Rattle.smo_parse.specs.Productions.{IsPartitionTable, IsJoinTable, IsAddColumn, IsOperator}
use Rattle.smo_parse.specs.OperatorParts.{partition_condition, join_condition, column_value}

-- nothing at each of these
abbrev pub uncounted : List Lexeme → List TokenCounts
uncounted f = map (λ x. plain) f

-- PARTITION TABLE name INTO name WITH, the condition, a comma and a name
abbrev pub partition_counts : (o : Operator) (s : Size) (f : List Lexeme) → IsPartitionTable o s f
    → List TokenCounts
partition_counts o s f h =
    let condition = partition_condition o s f h in
    plain ∷ plain ∷ plain ∷ plain ∷ plain ∷ plain
    ∷ (cond_counts false condition.value condition.size condition.lexemes condition.derives
    ++ plain ∷ plain ∷ [])

-- nothing, or WHERE and the condition
abbrev pub where_counts : (c : Test) (s : Size) (f : List Lexeme) → IsWhere false c s f
    → List TokenCounts
where_counts c s f (inl h) = []
where_counts c s f (inr h) = plain ∷ cond_counts false c s h.0 h.2

-- JOIN TABLE name , name INTO name, and what may follow
abbrev pub join_counts : (o : Operator) (s : Size) (f : List Lexeme) → IsJoinTable o s f
    → List TokenCounts
join_counts o s f h =
    let condition = join_condition o s f h in
    plain ∷ plain ∷ plain ∷ plain ∷ plain ∷ plain ∷ plain
    ∷ where_counts condition.value condition.size condition.lexemes condition.derives

-- ADD COLUMN name AS, the expression, INTO and a name
abbrev pub add_counts : (o : Operator) (s : Size) (f : List Lexeme) → IsAddColumn o s f
    → List TokenCounts
add_counts o s f h =
    let value = column_value o s f h in
    plain ∷ plain ∷ plain ∷ plain
    ∷ (expr_counts false value.value value.size value.lexemes value.derives ++ plain ∷ plain ∷ [])

-- by the production, in their order
abbrev pub operator_counts : (o : Operator) (s : Size) (f : List Lexeme) → IsOperator o s f
    → List TokenCounts
operator_counts o s f (inl h) = uncounted f
operator_counts o s f (inr (inl h)) = uncounted f
operator_counts o s f (inr (inr (inl h))) = uncounted f
operator_counts o s f (inr (inr (inr (inl h)))) = uncounted f
operator_counts o s f (inr (inr (inr (inr (inl h))))) = uncounted f
operator_counts o s f (inr (inr (inr (inr (inr (inl h)))))) = uncounted f
operator_counts o s f (inr (inr (inr (inr (inr (inr (inl h))))))) = partition_counts o s f h
operator_counts o s f (inr (inr (inr (inr (inr (inr (inr (inl h)))))))) = uncounted f
operator_counts o s f (inr (inr (inr (inr (inr (inr (inr (inr (inl h))))))))) = join_counts o s f h
operator_counts o s f (inr (inr (inr (inr (inr (inr (inr (inr (inr (inl h)))))))))) =
    add_counts o s f h
operator_counts o s f (inr (inr (inr (inr (inr (inr (inr (inr (inr (inr (inl h))))))))))) =
    uncounted f
operator_counts o s f (inr (inr (inr (inr (inr (inr (inr (inr (inr (inr (inr h))))))))))) =
    uncounted f

-- at which of them a count passes its limit
abbrev pub operator_overflows : Overflow IsOperator
operator_overflows = count_overflow IsOperator operator_counts
