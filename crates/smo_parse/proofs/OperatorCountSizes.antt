-- What is counted at each token of an operator is together its size.
use Rattle.std.proofs.Common.{◌≡◌, ℕ, zero, suc, max, false, List, [], ◌∷◌, ◌++◌, inl, inr, refl}
use Rattle.std.proofs.Common.{sym, ap, ◌∙◌, arith}
use Rattle.std.proofs.Math.Nat.{zero-max}
use Rattle.cond_expr.specs.Trees.{Test}
use Rattle.smo_ops_types.specs.Operators.{Operator}
use Rattle.lexer_spec.specs.Lexemes.{Lexeme}
use Rattle.lexer_combinators.specs.Grammar.{Size, nothing_counted}
use Rattle.lexer_combinators.specs.TokenCounts.{TokenCounts, plain, nodes_in, deepest, AddUp}
use Rattle.lexer_trees_spec.specs.TreeCounts.{expr_counts, cond_counts}
use Rattle.lexer_trees_spec.proofs.CountSizes.{nodes_append, expr_adds_up, cond_adds_up}
use Rattle.lexer_trees_spec.specs.Where.{IsWhere}
use Rattle.smo_parse.specs.Productions.{IsPartitionTable, IsJoinTable, IsAddColumn, IsOperator}
use Rattle.smo_parse.specs.OperatorCounts.{uncounted, partition_counts, where_counts, join_counts}
use Rattle.smo_parse.specs.OperatorCounts.{add_counts, operator_counts}
use Rattle.smo_parse.specs.OperatorParts.{partition_condition, join_condition, column_value}
use Rattle.smo_parse.proofs.OperatorTokens.{partition_parts, join_parts, add_parts}
use Rattle.smo_parse.proofs.OperatorCounted.{Uncounted, operator_length, nop_counts, create_counts}
use Rattle.smo_parse.proofs.OperatorCounted.{drop_table_counts, rename_table_counts, copy_counts}
use Rattle.smo_parse.proofs.OperatorCounted.{merge_counts, decompose_counts, drop_column_counts}
use Rattle.smo_parse.proofs.OperatorCounted.{rename_column_counts}

-- the nodes and the depth
abbrev Together : List TokenCounts → Size → Type 0
Together ms s = (nodes_in ms ≡ s.nodes) × (deepest ms ≡ s.depth)

same_size : (ms : List TokenCounts) (s t : Size) → s ≡ t → Together ms t → Together ms s
same_size ms s t e h = (h.0 ∙ ap (λ z. z.nodes) (sym e), h.1 ∙ ap (λ z. z.depth) (sym e))

-- a token that counts nothing before them
one_more : (ms : List TokenCounts) (s : Size) → Together ms s → Together (plain ∷ ms) s
one_more ms s h = (omega (arith, h.0), zero-max (deepest ms) ∙ h.1)

-- so many of them
abbrev plains : ℕ → List TokenCounts → List TokenCounts
plains zero ms = ms
plains (suc k) ms = plain ∷ plains k ms

several_more : (k : ℕ) (ms : List TokenCounts) (s : Size) → Together ms s → Together (plains k ms) s
several_more zero ms s h = h
several_more (suc k) ms s h = one_more (plains k ms) s (several_more k ms s h)

none_at_all : (f : List Lexeme) → Together (uncounted f) nothing_counted
none_at_all [] = (refl, refl)
none_at_all (x ∷ f) = one_more (uncounted f) nothing_counted (none_at_all f)

-- and after them
deepest_after : (ms ks : List TokenCounts) → deepest ks ≡ 0 → deepest (ms ++ ks) ≡ deepest ms
deepest_after [] ks e = e
deepest_after (m ∷ ms) ks e = ap (max m.depth) (deepest_after ms ks e)

two_after : (ms : List TokenCounts) (s : Size) → Together ms s
    → Together (ms ++ plain ∷ plain ∷ []) s
two_after ms s h = (
  omega (arith, nodes_append ms (plain ∷ plain ∷ []), h.0),
  deepest_after ms (plain ∷ plain ∷ []) refl ∙ h.1,
)

bare_together : (s : Size) (f : List Lexeme) → Uncounted s → Together (uncounted f) s
bare_together s f z = let h = none_at_all f in (h.0 ∙ sym z.no_nodes, h.1 ∙ sym z.not_deep)

partition_together : (o : Operator) (s : Size) (f : List Lexeme) (h : IsPartitionTable o s f)
    → Together (partition_counts o s f h) s
partition_together o s f h =
    let c = partition_condition o s f h in
    let counts : List TokenCounts = cond_counts false c.value c.size c.lexemes c.derives in
    let a = cond_adds_up false c.value c.size c.lexemes c.derives in
    same_size (partition_counts o s f h) s c.size (partition_parts o s f h).size_is
    (several_more 6 (counts ++ plain ∷ plain ∷ []) c.size (two_after counts c.size (a.1, a.2)))

where_together : (c : Test) (s : Size) (f : List Lexeme) (h : IsWhere false c s f)
    → Together (where_counts c s f h) s
where_together c s f (inl h) = same_size [] s nothing_counted h.1 (refl, refl)
where_together c s f (inr h) = let a = cond_adds_up false c s h.0 h.2 in
    one_more (cond_counts false c s h.0 h.2) s (a.1, a.2)

join_together : (o : Operator) (s : Size) (f : List Lexeme) (h : IsJoinTable o s f)
    → Together (join_counts o s f h) s
join_together o s f h =
    let c = join_condition o s f h in
    same_size (join_counts o s f h) s c.size (join_parts o s f h).size_is
    (several_more 7 (where_counts c.value c.size c.lexemes c.derives) c.size
    (where_together c.value c.size c.lexemes c.derives))

add_together : (o : Operator) (s : Size) (f : List Lexeme) (h : IsAddColumn o s f)
    → Together (add_counts o s f h) s
add_together o s f h =
    let e = column_value o s f h in
    let counts : List TokenCounts = expr_counts false e.value e.size e.lexemes e.derives in
    let a = expr_adds_up false e.value e.size e.lexemes e.derives in
    same_size (add_counts o s f h) s e.size (add_parts o s f h).size_is
    (several_more 4 (counts ++ plain ∷ plain ∷ []) e.size (two_after counts e.size (a.1, a.2)))

together : (o : Operator) (s : Size) (f : List Lexeme) (h : IsOperator o s f)
    → Together (operator_counts o s f h) s
together o s f (inl h) = bare_together s f (nop_counts o s f h)
together o s f (inr (inl h)) = bare_together s f (create_counts o s f h)
together o s f (inr (inr (inl h))) = bare_together s f (drop_table_counts o s f h)
together o s f (inr (inr (inr (inl h)))) = bare_together s f (rename_table_counts o s f h)
together o s f (inr (inr (inr (inr (inl h))))) = bare_together s f (copy_counts o s f h)
together o s f (inr (inr (inr (inr (inr (inl h)))))) = bare_together s f (merge_counts o s f h)
together o s f (inr (inr (inr (inr (inr (inr (inl h))))))) = partition_together o s f h
together o s f (inr (inr (inr (inr (inr (inr (inr (inl h)))))))) =
    bare_together s f (decompose_counts o s f h)
together o s f (inr (inr (inr (inr (inr (inr (inr (inr (inl h))))))))) = join_together o s f h
together o s f (inr (inr (inr (inr (inr (inr (inr (inr (inr (inl h)))))))))) = add_together o s f h
together o s f (inr (inr (inr (inr (inr (inr (inr (inr (inr (inr (inl h))))))))))) =
    bare_together s f (drop_column_counts o s f h)
together o s f (inr (inr (inr (inr (inr (inr (inr (inr (inr (inr (inr h))))))))))) =
    bare_together s f (rename_column_counts o s f h)

pub operator_adds_up : (o : Operator) (s : Size) (f : List Lexeme) (h : IsOperator o s f)
    → AddUp (operator_counts o s f h) s f
operator_adds_up o s f h = let t = together o s f h in (operator_length o s f h, t.0, t.1)
