-- The reader of operators goes along their token counts.
use Rattle.std.proofs.Common.{◌≡◌, ℕ, ◌+◌, ◌≤◌, max, false, List, [], ◌∷◌, ◌++◌, length, codes}
use Rattle.std.proofs.Common.{Some, inl, inr, refl, sym, ap, ◌∙◌, subst, append-nil, arith}
use Rattle.std.proofs.Common.{length-append}
use Rattle.prima_base.specs.declared.refusal.What.{What}
use Rattle.cond_expr.specs.Trees.{Tree, Test}
use Rattle.smo_ops_types.specs.Operators.{Operator, partition_table, join_table, add_column}
use Rattle.lexer_spec.specs.Lexemes.{Lexeme, word, sign, is_word, is_sign}
use Rattle.lexer_combinators.specs.Grammar.{Grammar}
use Rattle.lexer_combinators.specs.Parsing.{Out, Parsed, Unexpected, LimitExceeded, Parser, Stops}
use Rattle.lexer_combinators.specs.Parsing.{Fine, Exceeds, limit, arm_run, single_arm, and_then}
use Rattle.lexer_combinators.specs.Parsing.{bind, pure, map_to, lead}
use Rattle.lexer_combinators.specs.Grammar.{Size, nothing_counted, both, no_end, AreMore}
use Rattle.lexer_combinators.specs.Grammar as grammar
use Rattle.lexer_combinators.specs.Derivations.{Derivation}
use Rattle.lexer_trees_spec.specs.Constants.{as_name, name, name_grammar, names_grammar}
use Rattle.lexer_combinators.specs.TokenCounts.{TokenCounts, plain}
use Rattle.lexer_trees_spec.specs.TreeCounts.{expr_counts, cond_counts}
use Rattle.lexer_trees_spec.specs.Reader.{outermost, level, follow_expr, follow_cond}
use Rattle.lexer_trees_spec.proofs.Endings.{expr_free, cond_free}
use Rattle.lexer_combinators.proofs.Counted.{along, bind_along, map_along, plain_along}
use Rattle.lexer_trees_spec.proofs.CountSizes.{expr_length, cond_length}
use Rattle.lexer_trees_spec.proofs.CountsJoined.{expr_read, cond_read, cond_counted}
use Rattle.lexer_trees_spec.specs.Where.{IsWhere, outer_where}
use Rattle.lexer_combinators.proofs.Places.{length_map}
use Rattle.smo_parse.specs.Productions.{IsType, IsColumn, AreColumns, IsPart, IsTest, IsTree, IsNop}
use Rattle.smo_parse.specs.Productions.{IsCreateTable, IsDropTable, IsRenameTable, IsCopyTable}
use Rattle.smo_parse.specs.Productions.{IsMergeTable, IsPartitionTable, IsDecomposeTable}
use Rattle.smo_parse.specs.Productions.{IsJoinTable, IsAddColumn, IsDropColumn, IsRenameColumn}
use Rattle.smo_parse.specs.Productions.{IsOperator}
use Rattle.smo_parse.specs.OperatorReader.{operator, operator_arm, partition_rest, join_rest}
use Rattle.smo_parse.specs.OperatorReader.{add_rest, follow_operator}
use Rattle.smo_parse.specs.OperatorCounts.{uncounted, partition_counts, where_counts, join_counts}
use Rattle.smo_parse.specs.OperatorCounts.{add_counts, operator_counts}
use Rattle.smo_parse.specs.OperatorParts.{partition_condition, join_condition, column_value}
use Rattle.smo_parse.proofs.OperatorCorrectness.{operator_correct}
use Rattle.smo_parse.proofs.OperatorTokens.{in_partition, in_join, in_add, PartitionParts}
use Rattle.smo_parse.proofs.OperatorTokens.{partition_parts, JoinParts, join_parts, AddParts}
use Rattle.smo_parse.proofs.OperatorTokens.{add_parts}
use Rattle.smo_parse.proofs.PrintThenRead.{got}

-- ---- what counts nothing

pub record Uncounted (s : Size) : Type 0 where
  pub no_nodes : s.nodes ≡ 0
  pub not_deep : s.depth ≡ 0
  pub not_wide : (w : What) → s.wide w ≡ 0

none_counted : (s : Size) → s ≡ nothing_counted → Uncounted s
none_counted s e = record {
  no_nodes = ap (λ z. z.nodes) e;
  not_deep = ap (λ z. z.depth) e;
  not_wide = λ w. ap (λ z. z.wide w) e;
}

both_zero : (a b : ℕ) → a ≡ 0 → b ≡ 0 → max a b ≡ 0
both_zero a b e f = ap (λ x. max x b) e ∙ ap (max 0) f

both_uncounted : (s t u : Size) → s ≡ both t u → Uncounted t → Uncounted u → Uncounted s
both_uncounted s t u e h k = record {
  no_nodes = omega (arith, ap (λ z. z.nodes) e, h.no_nodes, k.no_nodes);
  not_deep = ap (λ z. z.depth) e ∙ both_zero t.depth u.depth h.not_deep k.not_deep;
  not_wide = λ w. ap (λ z. z.wide w) e ∙ both_zero (t.wide w) (u.wide w) (h.not_wide w)
      (k.not_wide w);
}

-- a grammar without trees
abbrev CountsNothing : {A : Type 0} → Grammar A → Type 0
CountsNothing {A} G = (a : A) (s : Size) (f : List Lexeme) → G a s f → Uncounted s

pure_counts : {A : Type 0} (v : A) → CountsNothing (grammar.pure v)
pure_counts v a s f h = none_counted s h.1

lead_counts : {A : Type 0} (x : Lexeme) (G : Grammar A) → CountsNothing G
    → CountsNothing (grammar.lead x G)
lead_counts x G g a s f h = g a s h.0 h.2

map_counts : {A B : Type 0} (m : A → B) (G : Grammar A) → CountsNothing G
    → CountsNothing (grammar.map m G)
map_counts m G g b s f h = g h.0 s f h.2

bind_counts : {A B : Type 0} (G : Grammar A) (H : A → Grammar B) → CountsNothing G
    → ((a : A) → CountsNothing (H a)) → CountsNothing (grammar.seq G H)
bind_counts G H g k b s f h = both_uncounted s h.1 h.2 h.5 (g h.0 h.1 h.3 h.7) (k h.0 b h.2 h.4 h.8)

name_counts : CountsNothing name_grammar
name_counts a s f h = none_counted s h.2

more_counts : {A : Type 0} (x : Lexeme) (G : Grammar A) → CountsNothing G → (j : ℕ)
    → CountsNothing (AreMore x no_end G j)
more_counts x G g j [] s f h = none_counted s h.0
more_counts x G g j (a ∷ l) s f h = both_uncounted s h.0 h.1 h.4 (g a h.0 h.2 h.6)
    (more_counts x G g (j + 1) l h.1 h.3 h.7)

list_counts : {A : Type 0} (x : Lexeme) (G : Grammar A) → CountsNothing G
    → CountsNothing (grammar.list x G)
list_counts x G g = bind_counts G (λ a. grammar.map (λ l. a ∷ l) (AreMore x no_end G 0)) g
    (λ a. map_counts (λ l. a ∷ l) (AreMore x no_end G 0) (more_counts x G g 0))

type_counts : CountsNothing IsType
type_counts a s f (inl h) = lead_counts _ _ (pure_counts _) a s f h
type_counts a s f (inr h) = lead_counts _ _ (pure_counts _) a s f h

columns_count : CountsNothing AreColumns
columns_count = list_counts _ IsColumn (bind_counts _ _ name_counts
    (λ n. map_counts _ _ type_counts))

part_counts : CountsNothing IsPart
part_counts = bind_counts _ _ name_counts (λ t.
    lead_counts _ _ (bind_counts _ _ (list_counts _ _ name_counts)
    (λ l. lead_counts _ _ (pure_counts _))))

pub nop_counts : CountsNothing IsNop
nop_counts = lead_counts _ _ (pure_counts _)

pub create_counts : CountsNothing IsCreateTable
create_counts = lead_counts _ _ (lead_counts _ _
    (bind_counts _ _ name_counts (λ t. lead_counts _ _
    (bind_counts _ _ columns_count (λ l. lead_counts _ _ (pure_counts _))))))

pub drop_table_counts : CountsNothing IsDropTable
drop_table_counts = lead_counts _ _ (lead_counts _ _ (map_counts _ _ name_counts))

pub rename_table_counts : CountsNothing IsRenameTable
rename_table_counts = lead_counts _ _ (lead_counts _ _
    (bind_counts _ _ name_counts (λ t. lead_counts _ _ (map_counts _ _ name_counts))))

pub copy_counts : CountsNothing IsCopyTable
copy_counts = lead_counts _ _ (lead_counts _ _
    (bind_counts _ _ name_counts (λ t. lead_counts _ _ (map_counts _ _ name_counts))))

pub merge_counts : CountsNothing IsMergeTable
merge_counts = lead_counts _ _ (lead_counts _ _
    (bind_counts _ _ name_counts (λ r. lead_counts _ _
    (bind_counts _ _ name_counts (λ s. lead_counts _ _ (map_counts _ _ name_counts))))))

pub decompose_counts : CountsNothing IsDecomposeTable
decompose_counts = lead_counts _ _ (lead_counts _ _
    (bind_counts _ _ name_counts (λ r. lead_counts _ _
    (bind_counts _ _ part_counts (λ p. lead_counts _ _ (map_counts _ _ part_counts))))))

pub drop_column_counts : CountsNothing IsDropColumn
drop_column_counts = lead_counts _ _ (lead_counts _ _
    (bind_counts _ _ name_counts (λ n. lead_counts _ _ (map_counts _ _ name_counts))))

pub rename_column_counts : CountsNothing IsRenameColumn
rename_column_counts = lead_counts _ _ (lead_counts _ _
    (bind_counts _ _ name_counts (λ b. lead_counts _ _
    (bind_counts _ _ name_counts (λ r. lead_counts _ _ (map_counts _ _ name_counts))))))

-- ---- along no counts

uncounted_along : {A : Type 0} (a : A) (n : ℕ) (f : List Lexeme) → n ≤ 256
    → along 32 a n (uncounted f) f ≡ Parsed a n []
uncounted_along a n [] h = refl
uncounted_along a n (x ∷ f) h = plain_along 32 a n h (uncounted f) x f ∙ uncounted_along a n f h

-- an operator without a tree
bare : (o : Operator) (s : Size) (f : List Lexeme) → IsOperator o s f → Uncounted s
    → operator 0 f ≡ along 32 o 0 (uncounted f) f
bare o s f h z =
    let P : List Lexeme → Type 0 = λ l. Fine 32 o s 0 [] (operator 0 l) in
    let fine : Fine 32 o s 0 [] (operator 0 f) =
    subst P (append-nil f) (operator_correct.complete 0 (omega arith) o s f [] h tt) in
    by_out (operator 0 f) fine ∙ sym (uncounted_along o 0 f (omega arith))
  where
    by_out : (out : Out Operator) → Fine 32 o s 0 [] out → out ≡ Parsed o 0 []
    by_out (Parsed b m rest) i = let e : m ≡ 0 = omega (arith, i.2, z.no_nodes) in
        ap (λ x. Parsed x m rest) i.0 ∙ ap (λ k. Parsed o k rest) e ∙ ap (Parsed o 0) i.1
    by_out (Unexpected m rest) i = absurd i
    by_out (LimitExceeded w m rest) i = let g =
        got o s (LimitExceeded w m rest) (omega (arith, z.no_nodes)) (omega (arith, z.not_deep))
        (λ v. omega (arith, z.not_wide v)) i in let y : LimitExceeded w m rest ≡ Parsed o g.0 [] =
        g.1 in cc

-- ---- with a tree

name_run : (x : Lexeme) (a : List ℕ) (n : ℕ) (ts : List Lexeme) → as_name x ≡ Some a
    → name n (x ∷ ts) ≡ Parsed a n ts
unfolding name
name_run x a n ts e = ap (λ o. arm_run (single_arm o) x n ts) e

bind_name : {B : Type 0} (g : List ℕ → Parser B) (x : Lexeme) (a : List ℕ) (n : ℕ)
    (ts : List Lexeme) → as_name x ≡ Some a → bind name g n (x ∷ ts) ≡ g a n ts
bind_name g x a n ts e = ap (λ o. and_then o g) (name_run x a n ts e)

cond_on : (c : Test) (s : Size) (k : List Lexeme) (h : IsTest c s k) (us : List Lexeme)
    → Stops (follow_cond (cond_free false c s k h)) us
    → (outermost false).cond 0 (k ++ us) ≡ along 32 c 0 (cond_counts false c s k h) (k ++ us)
unfolding outermost
cond_on c s k h us stops = cond_read false c s k h 32 0 (omega arith) us stops

expr_on : (e : Tree) (s : Size) (k : List Lexeme) (h : IsTree e s k) (us : List Lexeme)
    → Stops (follow_expr (expr_free false e s k h)) us
    → (outermost false).expr 0 (k ++ us) ≡ along 32 e 0 (expr_counts false e s k h) (k ++ us)
unfolding outermost
expr_on e s k h us stops = expr_read false e s k h 32 0 (omega arith) us stops

-- a name after one more token, and nothing else
ends_in_name : {A : Type 0} (m : ℕ) → m ≤ 256 → (make : List ℕ → A) (x z : Lexeme) (t : List ℕ)
    → as_name z ≡ Some t → map_to make name m (z ∷ [])
    ≡ along 32 (make t) m (plain ∷ plain ∷ []) (x ∷ z ∷ [])
ends_in_name m few make x z t e = bind_name (λ n. pure (make n)) z t m [] e
    ∙ sym (plain_along 32 (make t) m few (plain ∷ []) x (z ∷ [])
    ∙ plain_along 32 (make t) m few [] z [])

-- ---- of each operator that has a tree

-- PARTITION
partition_run : (x : Lexeme) (a : List ℕ) (y : Lexeme) (b : List ℕ) (c : Test) (u : Size)
    (k : List Lexeme) (i : IsTest c u k) (z : Lexeme) (t : List ℕ) → as_name x ≡ Some a
    → as_name y ≡ Some b → as_name z ≡ Some t →
    operator 0 (in_partition x y k z) ≡ along 32 (partition_table a b c t) 0
    (plain ∷ plain ∷ plain ∷ plain ∷ plain ∷ plain
    ∷ (cond_counts false c u k i ++ plain ∷ plain ∷ [])) (in_partition x y k z)
unfolding operator partition_rest
partition_run x a y b c u k i z t ex ey ez =
    bind_name _ x a 0 _ ex ∙ bind_name _ y b 0 _ ey
    ∙ bind_along 32 (outermost false).cond (λ c.
    lead (is_sign (codes ",")) (map_to (λ t. partition_table a b c t) name)) c
    (partition_table a b c t) (cond_counts false c u k i) (plain ∷ plain ∷ []) k
    (sign (codes ",") ∷ z ∷ []) 0 (omega arith)
    (cond_length false c u k i) (cond_on c u k i (sign (codes ",") ∷ z ∷ []) refl)
    (λ m few e. ends_in_name m few (λ t. partition_table a b c t) (sign (codes ",")) z t ez)

module _ (o : Operator) (s : Size) (f : List Lexeme) (h : IsPartitionTable o s f) where
  abbrev condition : Derivation IsTest
  condition = partition_condition o s f h

  parts : PartitionParts o s f condition
  parts = partition_parts o s f h

  partition_counted : operator 0 f ≡ along 32 o 0 (partition_counts o s f h) f
  partition_counted =
      ap (operator 0) parts.tokens_are
      ∙ partition_run parts.table.token parts.table.name parts.first.token parts.first.name
      condition.value condition.size condition.lexemes condition.derives parts.second.token
      parts.second.name parts.table.spells parts.first.spells parts.second.spells
      ∙ sym (ap (λ l. along 32 o 0 (partition_counts o s f h) l) parts.tokens_are
      ∙ ap (λ v. along 32 v 0 (partition_counts o s f h)
      (in_partition parts.table.token parts.first.token condition.lexemes parts.second.token))
      parts.operator_is)

  partition_length : length (partition_counts o s f h) ≡ length f
  partition_length =
      let counts = cond_counts false condition.value condition.size condition.lexemes
      condition.derives in
      omega (
        arith,
        ap length parts.tokens_are,
        cond_length false condition.value condition.size condition.lexemes condition.derives,
        length-append counts (plain ∷ plain ∷ []),
        length-append condition.lexemes (sign (codes ",") ∷ parts.second.token ∷ []),
      )

-- JOIN
where_counted : (c : Test) (s : Size) (f : List Lexeme) (h : IsWhere false c s f)
    → outer_where false 0 f ≡ along 32 c 0 (where_counts c s f h) f
unfolding outer_where
where_counted c s f (inl h) = ap ((outer_where false) 0) h.2 ∙ ap (λ v. Parsed v 0 []) (sym h.0)
    ∙ ap (Parsed c 0) (sym h.2)
where_counted c s f (inr h) = ap ((outer_where false) 0) h.1 ∙ cond_counted false c s h.0 h.2
    ∙ ap (λ l. along 32 c 0 (plain ∷ cond_counts false c s h.0 h.2) l) (sym h.1)

where_length : (c : Test) (s : Size) (f : List Lexeme) (h : IsWhere false c s f)
    → length (where_counts c s f h) ≡ length f
where_length c s f (inl h) = sym (ap length h.2)
where_length c s f (inr h) = omega (arith, ap length h.1, cond_length false c s h.0 h.2)

-- what is read after its tokens before the WHERE
pub join_run : (x : Lexeme) (a : List ℕ) (y : Lexeme) (b : List ℕ) (z : Lexeme) (t : List ℕ)
    (l : List Lexeme) → as_name x ≡ Some a → as_name y ≡ Some b → as_name z ≡ Some t
    → operator 0 (in_join x y z l) ≡ map_to (λ c. join_table a b t c) (outer_where false) 0 l
unfolding operator join_rest
join_run x a y b z t l ex ey ez = bind_name _ x a 0 _ ex ∙ bind_name _ y b 0 _ ey
    ∙ bind_name _ z t 0 _ ez

module _ (o : Operator) (s : Size) (f : List Lexeme) (h : IsJoinTable o s f) where
  abbrev where_part : Derivation (IsWhere false)
  where_part = join_condition o s f h

  joins : JoinParts o s f where_part
  joins = join_parts o s f h

  join_counted : operator 0 f ≡ along 32 o 0 (join_counts o s f h) f
  join_counted =
      let make : Test → Operator = λ c.
      join_table joins.left.name joins.right.name joins.into.name c in
      let counted = where_counted where_part.value where_part.size where_part.lexemes
      where_part.derives in
      let counts = where_counts where_part.value where_part.size where_part.lexemes
      where_part.derives in
      ap (operator 0) joins.tokens_are
      ∙ join_run joins.left.token joins.left.name joins.right.token joins.right.name
      joins.into.token joins.into.name where_part.lexemes joins.left.spells joins.right.spells
      joins.into.spells
      ∙ ap (λ out. and_then out (λ c. pure (make c))) counted
      ∙ map_along 32 make where_part.value 0 counts where_part.lexemes
      ∙ sym (ap (λ l. along 32 o 0 (join_counts o s f h) l) joins.tokens_are
      ∙ ap (λ v. along 32 v 0 (join_counts o s f h)
      (in_join joins.left.token joins.right.token joins.into.token where_part.lexemes))
      joins.operator_is)

  join_length : length (join_counts o s f h) ≡ length f
  join_length = omega (
    arith,
    ap length joins.tokens_are,
    where_length where_part.value where_part.size where_part.lexemes where_part.derives,
  )

-- ADD
add_run : (x : Lexeme) (a : List ℕ) (e : Tree) (u : Size) (k : List Lexeme) (i : IsTree e u k)
    (z : Lexeme) (t : List ℕ) → as_name x ≡ Some a → as_name z ≡ Some t →
    operator 0 (in_add x k z) ≡ along 32 (add_column a e t) 0
    (plain ∷ plain ∷ plain ∷ plain ∷ (expr_counts false e u k i ++ plain ∷ plain ∷ []))
    (in_add x k z)
unfolding operator add_rest
add_run x a e u k i z t ex ez =
    bind_name _ x a 0 _ ex
    ∙ bind_along 32 (outermost false).expr (λ e.
    lead (is_word (codes "INTO")) (map_to (λ r. add_column a e r) name)) e (add_column a e t)
    (expr_counts false e u k i) (plain ∷ plain ∷ []) k (word (codes "INTO") ∷ z ∷ []) 0
    (omega arith)
    (expr_length false e u k i) (expr_on e u k i (word (codes "INTO") ∷ z ∷ []) refl)
    (λ m few y. ends_in_name m few (λ r. add_column a e r) (word (codes "INTO")) z t ez)

module _ (o : Operator) (s : Size) (f : List Lexeme) (h : IsAddColumn o s f) where
  abbrev tree : Derivation IsTree
  tree = column_value o s f h

  adds : AddParts o s f tree
  adds = add_parts o s f h

  add_counted : operator 0 f ≡ along 32 o 0 (add_counts o s f h) f
  add_counted =
      ap (operator 0) adds.tokens_are
      ∙ add_run adds.column.token adds.column.name tree.value tree.size tree.lexemes tree.derives
      adds.table.token adds.table.name adds.column.spells adds.table.spells
      ∙ sym (ap (λ l. along 32 o 0 (add_counts o s f h) l) adds.tokens_are
      ∙ ap (λ v. along 32 v 0 (add_counts o s f h)
      (in_add adds.column.token tree.lexemes adds.table.token)) adds.operator_is)

  add_length : length (add_counts o s f h) ≡ length f
  add_length =
      let counts = expr_counts false tree.value tree.size tree.lexemes tree.derives in
      omega (
        arith,
        ap length adds.tokens_are,
        expr_length false tree.value tree.size tree.lexemes tree.derives,
        length-append counts (plain ∷ plain ∷ []),
        length-append tree.lexemes (word (codes "INTO") ∷ adds.table.token ∷ []),
      )

-- ---- any operator

pub operator_counted : (o : Operator) (s : Size) (f : List Lexeme) (h : IsOperator o s f)
    → operator 0 f ≡ along 32 o 0 (operator_counts o s f h) f
operator_counted o s f (inl h) = bare o s f (inl h) (nop_counts o s f h)
operator_counted o s f (inr (inl h)) = bare o s f (inr (inl h)) (create_counts o s f h)
operator_counted o s f (inr (inr (inl h))) = bare o s f (inr (inr (inl h)))
    (drop_table_counts o s f h)
operator_counted o s f (inr (inr (inr (inl h)))) =
    bare o s f (inr (inr (inr (inl h)))) (rename_table_counts o s f h)
operator_counted o s f (inr (inr (inr (inr (inl h))))) =
    bare o s f (inr (inr (inr (inr (inl h))))) (copy_counts o s f h)
operator_counted o s f (inr (inr (inr (inr (inr (inl h)))))) =
    bare o s f (inr (inr (inr (inr (inr (inl h)))))) (merge_counts o s f h)
operator_counted o s f (inr (inr (inr (inr (inr (inr (inl h))))))) = partition_counted o s f h
operator_counted o s f (inr (inr (inr (inr (inr (inr (inr (inl h)))))))) =
    bare o s f (inr (inr (inr (inr (inr (inr (inr (inl h)))))))) (decompose_counts o s f h)
operator_counted o s f (inr (inr (inr (inr (inr (inr (inr (inr (inl h))))))))) =
    join_counted o s f h
operator_counted o s f (inr (inr (inr (inr (inr (inr (inr (inr (inr (inl h)))))))))) =
    add_counted o s f h
operator_counted o s f (inr (inr (inr (inr (inr (inr (inr (inr (inr (inr (inl h))))))))))) =
    bare o s f (inr (inr (inr (inr (inr (inr (inr (inr (inr (inr (inl h)))))))))))
    (drop_column_counts o s f h)
operator_counted o s f (inr (inr (inr (inr (inr (inr (inr (inr (inr (inr (inr h))))))))))) =
    bare o s f (inr (inr (inr (inr (inr (inr (inr (inr (inr (inr (inr h)))))))))))
    (rename_column_counts o s f h)

pub operator_length : (o : Operator) (s : Size) (f : List Lexeme) (h : IsOperator o s f)
    → length (operator_counts o s f h) ≡ length f
operator_length o s f (inl h) = length_map (λ x. plain) f
operator_length o s f (inr (inl h)) = length_map (λ x. plain) f
operator_length o s f (inr (inr (inl h))) = length_map (λ x. plain) f
operator_length o s f (inr (inr (inr (inl h)))) = length_map (λ x. plain) f
operator_length o s f (inr (inr (inr (inr (inl h))))) = length_map (λ x. plain) f
operator_length o s f (inr (inr (inr (inr (inr (inl h)))))) = length_map (λ x. plain) f
operator_length o s f (inr (inr (inr (inr (inr (inr (inl h))))))) = partition_length o s f h
operator_length o s f (inr (inr (inr (inr (inr (inr (inr (inl h)))))))) = length_map (λ x. plain) f
operator_length o s f (inr (inr (inr (inr (inr (inr (inr (inr (inl h))))))))) = join_length o s f h
operator_length o s f (inr (inr (inr (inr (inr (inr (inr (inr (inr (inl h)))))))))) =
    add_length o s f h
operator_length o s f (inr (inr (inr (inr (inr (inr (inr (inr (inr (inr (inl h))))))))))) =
    length_map (λ x. plain) f
operator_length o s f (inr (inr (inr (inr (inr (inr (inr (inr (inr (inr (inr h))))))))))) =
    length_map (λ x. plain) f
