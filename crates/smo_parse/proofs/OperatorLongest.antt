-- The longest operator is read.
use Rattle.std.proofs.Common.{◌≡◌, ℕ, suc, ◌+◌, true, false, cond, List, [], ◌∷◌, ◌++◌, length}
use Rattle.std.proofs.Common.{take, codes, inl, inr, refl, sym, ap, ◌∙◌, subst, arith}
use Rattle.std.proofs.Common.{length-append}
use Rattle.cond_expr.specs.Trees.{Test, always}
use Rattle.smo_ops_types.specs.Operators.{Operator, join_table}
use Rattle.lexer_spec.specs.Lexemes.{Lexeme, word, is_word}
use Rattle.lexer_combinators.specs.Grammar.{Grammar}
use Rattle.lexer_combinators.specs.Parsing.{Out, Parsed, Unexpected, LimitExceeded, Parser, Fine}
use Rattle.lexer_combinators.specs.Parsing.{Valid, CanGoOn, IsCorrectParser, and_then, pure}
use Rattle.lexer_combinators.specs.Grammar.{Size, nothing_counted, both}
use Rattle.lexer_combinators.specs.Derivations.{Derivation}
use Rattle.lexer_trees_spec.specs.Grammar as g
use Rattle.lexer_trees_spec.specs.Grammar.{leaf, IsCond}
use Rattle.lexer_trees_spec.specs.Reader.{outermost}
use Rattle.lexer_combinators.specs.Found.{Ends}
use Rattle.lexer_spec.proofs.Cases.{by_test}
use Rattle.lexer_spec.proofs.LexemeTests.{word_exact}
use Rattle.lexer_trees_spec.proofs.Longest.{cond_longest}
use Rattle.lexer_trees_spec.specs.Where.{IsWhere, outer_where}
use Rattle.smo_parse.specs.Productions.{IsTest, IsNop, IsCreateTable, IsDropTable, IsRenameTable}
use Rattle.smo_parse.specs.Productions.{IsCopyTable, IsMergeTable, IsPartitionTable}
use Rattle.smo_parse.specs.Productions.{IsDecomposeTable, IsJoinTable, IsAddColumn, IsDropColumn}
use Rattle.smo_parse.specs.Productions.{IsRenameColumn, IsOperator}
use Rattle.smo_parse.specs.OperatorReader.{operator, create_rest, drop_rest, rename_rest, copy_rest}
use Rattle.smo_parse.specs.OperatorReader.{merge_rest, partition_rest, decompose_rest, add_rest}
use Rattle.smo_parse.specs.OperatorReader.{follow_operator}
use Rattle.lexer_combinators.proofs.Alternatives.{stops_never}
use Rattle.smo_parse.proofs.OperatorCorrectness.{ends, create_correct, drop_correct, rename_correct}
use Rattle.smo_parse.proofs.OperatorCorrectness.{copy_correct, merge_correct, partition_correct}
use Rattle.smo_parse.proofs.OperatorCorrectness.{decompose_correct, add_correct}
use Rattle.smo_parse.specs.OperatorParts.{join_condition}
use Rattle.smo_parse.proofs.OperatorTokens.{in_join, JoinParts, join_parts}
use Rattle.smo_parse.proofs.OperatorCounted.{join_run}

-- it is read whatever follows
abbrev ReadsOn : Operator → Size → List Lexeme → List Lexeme → Type 0
ReadsOn o s prefix rest = Fine 32 o s 0 rest (operator 0 (prefix ++ rest))

-- ---- those that end by themselves, by their first words

by_word : (w : List ℕ) (p : Parser Operator) (G : Grammar Operator) → IsCorrectParser 0 32 p G ends
    → ((ts : List Lexeme) → operator 0 (word w ∷ ts) ≡ p 0 ts) →
    (o : Operator) (s : Size) (prefix more rest : List Lexeme) → prefix ≡ word w ∷ more → G o s more
    → ReadsOn o s prefix rest
by_word w p G correct run o s prefix more rest e h =
    let P : Out Operator → Type 0 = λ out. Fine 32 o s 0 rest out in
    subst P (sym (ap (λ l. operator 0 (l ++ rest)) e ∙ run (more ++ rest)))
    (correct.complete 0 (omega arith) o s more rest h (stops_never rest))

nop_on : (o : Operator) (s : Size) (prefix rest : List Lexeme) → IsNop o s prefix
    → ReadsOn o s prefix rest
unfolding operator
nop_on o s prefix rest h =
    let same : prefix ≡ word (codes "NOP") ∷ [] = h.1 ∙ ap (λ l. word (codes "NOP") ∷ l) h.2.2 in
    let P : Out Operator → Type 0 = λ out. Fine 32 o s 0 rest out in
    let Q : Size → Type 0 = λ u. Valid 32 u in
    subst P (sym (ap (λ l. operator 0 (l ++ rest)) same)) (
      sym h.2.0,
      refl,
      omega (arith, ap (λ z. z.nodes) h.2.1),
      subst Q (sym h.2.1) (omega arith, λ w. omega arith),
    )

module _ (ts : List Lexeme) where
  unfold_create : operator 0 (word (codes "CREATE") ∷ ts) ≡ create_rest 0 ts
  unfolding operator
  unfold_create = refl

  unfold_drop : operator 0 (word (codes "DROP") ∷ ts) ≡ drop_rest 0 ts
  unfolding operator
  unfold_drop = refl

  unfold_rename : operator 0 (word (codes "RENAME") ∷ ts) ≡ rename_rest 0 ts
  unfolding operator
  unfold_rename = refl

  unfold_copy : operator 0 (word (codes "COPY") ∷ ts) ≡ copy_rest 0 ts
  unfolding operator
  unfold_copy = refl

  unfold_merge : operator 0 (word (codes "MERGE") ∷ ts) ≡ merge_rest 0 ts
  unfolding operator
  unfold_merge = refl

  unfold_partition : operator 0 (word (codes "PARTITION") ∷ ts) ≡ partition_rest 0 ts
  unfolding operator
  unfold_partition = refl

  unfold_decompose : operator 0 (word (codes "DECOMPOSE") ∷ ts) ≡ decompose_rest 0 ts
  unfolding operator
  unfold_decompose = refl

  unfold_add : operator 0 (word (codes "ADD") ∷ ts) ≡ add_rest 0 ts
  unfolding operator
  unfold_add = refl

-- ---- JOIN, whose condition may go on

where_none : outer_where false 0 [] ≡ Parsed always 0 []
unfolding outer_where
where_none = refl

where_not : (x : Lexeme) (rest : List Lexeme) → is_word (codes "WHERE") x ≡ false
    → outer_where false 0 (x ∷ rest) ≡ Parsed always 0 (x ∷ rest)
unfolding outer_where
where_not x rest f = ap (λ b. cond b ((outermost false).cond 0 rest) (Parsed always 0 (x ∷ rest))) f

where_some : (rest : List Lexeme) → outer_where false 0 (word (codes "WHERE") ∷ rest)
    ≡ (outermost false).cond 0 rest
unfolding outer_where
where_some rest = refl

missing : (c : Test) (u : Size) (k rest : List Lexeme) → c ≡ always → u ≡ nothing_counted → k ≡ []
    → outer_where false 0 rest ≡ Parsed always 0 rest
    → Fine 32 c u 0 rest (outer_where false 0 (k ++ rest))
missing c u k rest ec eu ek run =
    let P : Out Test → Type 0 = λ out. Fine 32 c u 0 rest out in
    let Q : Size → Type 0 = λ z. Valid 32 z in
    subst P (sym (ap (λ l. outer_where false 0 (l ++ rest)) ek ∙ run)) (
      sym ec,
      refl,
      omega (arith, ap (λ z. z.nodes) eu),
      subst Q (sym eu) (omega arith, λ w. omega arith),
    )

with_true : (x : Lexeme) → is_word (codes "WHERE") x ≡ true
    → IsWhere false always leaf (x ∷ word (codes "TRUE") ∷ [])
with_true x t = inr (
  word (codes "TRUE") ∷ [],
  ap (λ y. y ∷ word (codes "TRUE") ∷ []) (word_exact (codes "WHERE") x t),
  g.one_conj false always leaf _ (g.one_fact false always leaf _ (g.truth false)),
)

take_next : {A : Type 0} (f : List A) (x : A) (rest : List A)
    → take (length f + 1) (f ++ x ∷ rest) ≡ f ++ x ∷ []
take_next [] x rest = refl
take_next (y ∷ f) x rest = let e : length (y ∷ f) + 1 ≡ suc (length f + 1) = omega arith in
    ap (λ n. take n (y ∷ (f ++ x ∷ rest))) e ∙ ap (λ l. y ∷ l) (take_next f x rest)

-- with what stands after it nothing goes on
halts : {A : Type 0} (G : Grammar A) (prefix : List Lexeme) (x : Lexeme) (rest : List Lexeme)
    → Ends G (prefix ++ x ∷ rest) (length prefix) → CanGoOn G (prefix ++ x ∷ []) → ⊥
halts G prefix x rest e h =
    let P : List Lexeme → Type 0 = λ l. CanGoOn G l in
    e (omega (arith, length-append prefix (x ∷ rest))) (subst P (sym (take_next prefix x rest)) h)

-- another value of what was read
mapped : {A B : Type 0} (make : A → B) (a : A) (u : Size) (rest : List Lexeme) (out : Out A)
    → Fine 32 a u 0 rest out → Fine 32 (make a) u 0 rest (and_then out (λ x. pure (make x)))
mapped make a u rest (Parsed b m r) h = (ap make h.0, h.1, h.2, h.3)
mapped make a u rest (Unexpected c r) h = h
mapped make a u rest (LimitExceeded w c r) h = h

module _ (o : Operator) (s : Size) (prefix : List Lexeme) (h : IsJoinTable o s prefix) where
  abbrev where_part : Derivation (IsWhere false)
  where_part = join_condition o s prefix h

  joins : JoinParts o s prefix where_part
  joins = join_parts o s prefix h

  -- its tokens with others from the WHERE on
  abbrev with_where : List Lexeme → List Lexeme
  with_where l = in_join joins.left.token joins.right.token joins.into.token l

  -- another condition in its place
  other : (c : Test) (u : Size) (l : List Lexeme) → IsWhere false c u l → (p : Operator)
      × (v : Size) × IsOperator p v (with_where l)
  other c u l i =
      let left = joins.left in
      let right = joins.right in
      let into = joins.into in
      let named : Lexeme → List Lexeme = λ x. x ∷ [] in (
        join_table left.name right.name into.name c,
        both nothing_counted (both nothing_counted (both nothing_counted u)),
        inr (inr (inr (inr (inr (inr (inr (inr (inl (
          _,
          refl,
          (
            _,
            refl,
            (
              left.name,
              nothing_counted,
              both nothing_counted (both nothing_counted u),
              named left.token,
              _,
              refl,
              refl,
              (left.token, left.spells, refl, refl),
              (
                _,
                refl,
                (
                  right.name,
                  nothing_counted,
                  both nothing_counted u,
                  named right.token,
                  _,
                  refl,
                  refl,
                  (right.token, right.spells, refl, refl),
                  (
                    _,
                    refl,
                    (
                      into.name,
                      nothing_counted,
                      u,
                      named into.token,
                      l,
                      refl,
                      refl,
                      (into.token, into.spells, refl, refl),
                      (c, refl, i),
                    ),
                  ),
                ),
              ),
            ),
          ),
        ))))))))),
      )

  -- a longer condition would be a longer operator
  longer : (k : List Lexeme) (x : Lexeme) → prefix ≡ with_where k
      → ((more : List Lexeme) (c : Test) (u : Size) → IsWhere false c u ((k ++ x ∷ []) ++ more)
      → CanGoOn IsOperator (prefix ++ x ∷ []))
  longer k x e more c u i =
      let j = other c u ((k ++ x ∷ []) ++ more) i in
      let P : List Lexeme → Type 0 = λ l. CanGoOn IsOperator (l ++ x ∷ []) in
      subst P (sym e) (more, j.0, j.1, j.2)

  cond_ends : (k m : List Lexeme) → k ≡ word (codes "WHERE") ∷ m → prefix ≡ with_where k
      → (l : List Lexeme) → Ends IsOperator (prefix ++ l) (length prefix)
      → Ends IsTest (m ++ l) (length m)
  cond_ends k m i w [] e some = absurd (omega (arith, some, length-append m []))
  cond_ends k m i w (x ∷ l) e some = λ can.
      let C : List Lexeme → Type 0 = λ m. CanGoOn IsTest m in
      let on = subst C (take_next m x l) can in
      let Q : List Lexeme → Type 0 = λ n. IsWhere false on.1 on.2 ((n ++ x ∷ []) ++ on.0) in
      halts IsOperator prefix x l e (longer k x w on.0 on.1 on.2
      (subst Q (sym i) (inr ((m ++ x ∷ []) ++ on.0, refl, on.3))))

  by_where : (c : Test) (u : Size) (k : List Lexeme) → IsWhere false c u k → prefix ≡ with_where k
      → (rest : List Lexeme) → Ends IsOperator (prefix ++ rest) (length prefix)
      → Fine 32 c u 0 rest (outer_where false 0 (k ++ rest))
  by_where c u k (inl i) w [] e = missing c u k [] i.0 i.1 i.2 where_none
  by_where c u k (inl i) w (x ∷ rest) e = by_test (is_word (codes "WHERE") x)
      (λ t. let P : List Lexeme → Type 0 = λ l.
      IsWhere false always leaf ((l ++ x ∷ []) ++ word (codes "TRUE") ∷ []) in
      absurd (halts IsOperator prefix x rest e
      (longer k x w (word (codes "TRUE") ∷ []) always leaf
      (subst P (sym i.2) (with_true x t)))))
      (λ f. missing c u k (x ∷ rest) i.0 i.1 i.2 (where_not x rest f))
  by_where c u k (inr i) w rest e =
      let P : Out Test → Type 0 = λ out. Fine 32 c u 0 rest out in
      subst P (sym (ap (λ l. outer_where false 0 (l ++ rest)) i.1 ∙ where_some (i.0 ++ rest)))
      (cond_longest false c u i.0 rest (i.0 ++ rest) refl i.2 (cond_ends k i.0 i.1 w rest e))

  join_on : (rest : List Lexeme) → Ends IsOperator (prefix ++ rest) (length prefix)
      → ReadsOn o s prefix rest
  join_on rest e =
      let left = joins.left in
      let right = joins.right in
      let into = joins.into in
      let c = where_part in
      let make : Test → Operator = λ c. join_table left.name right.name into.name c in
      let fine : Fine 32 c.value c.size 0 rest (outer_where false 0 (c.lexemes ++ rest)) =
      by_where c.value c.size c.lexemes c.derives joins.tokens_are rest e in
      let P : Out Operator → Type 0 = λ out. Fine 32 o s 0 rest out in
      let Q : Size → Type 0 = λ z. Fine 32 o z 0 rest
      (and_then (outer_where false 0 (c.lexemes ++ rest)) (λ c. pure (make c))) in
      let R : Operator → Type 0 = λ v. Fine 32 v c.size 0 rest
      (and_then (outer_where false 0 (c.lexemes ++ rest)) (λ c. pure (make c))) in
      subst P (sym (ap (λ l. operator 0 (l ++ rest)) joins.tokens_are
      ∙ join_run left.token left.name right.token right.name into.token into.name
      (c.lexemes ++ rest) left.spells right.spells into.spells))
      (subst Q (sym joins.size_is) (subst R (sym joins.operator_is)
      (mapped make c.value c.size rest (outer_where false 0 (c.lexemes ++ rest)) fine)))

-- ---- any operator

on : (o : Operator) (s : Size) (prefix rest : List Lexeme) → IsOperator o s prefix
    → Ends IsOperator (prefix ++ rest) (length prefix) → ReadsOn o s prefix rest
on o s prefix rest (inl h) e = nop_on o s prefix rest h
on o s prefix rest (inr (inl h)) e = by_word (codes "CREATE") create_rest _ (create_correct ends)
    unfold_create o s prefix h.0 rest h.1 h.2
on o s prefix rest (inr (inr (inl h))) e = by_word (codes "DROP") drop_rest _ (drop_correct ends)
    unfold_drop o s prefix h.0 rest h.1 (inl h.2)
on o s prefix rest (inr (inr (inr (inl h)))) e =
    by_word (codes "RENAME") rename_rest _ (rename_correct ends) unfold_rename o s prefix h.0 rest
    h.1 (inl h.2)
on o s prefix rest (inr (inr (inr (inr (inl h))))) e =
    by_word (codes "COPY") copy_rest _ (copy_correct ends) unfold_copy o s prefix h.0 rest h.1 h.2
on o s prefix rest (inr (inr (inr (inr (inr (inl h)))))) e =
    by_word (codes "MERGE") merge_rest _ (merge_correct ends) unfold_merge o s prefix h.0 rest h.1
    h.2
on o s prefix rest (inr (inr (inr (inr (inr (inr (inl h))))))) e =
    by_word (codes "PARTITION") partition_rest _ (partition_correct ends) unfold_partition o s
    prefix h.0 rest h.1 h.2
on o s prefix rest (inr (inr (inr (inr (inr (inr (inr (inl h)))))))) e =
    by_word (codes "DECOMPOSE") decompose_rest _ (decompose_correct ends) unfold_decompose o s
    prefix h.0 rest h.1 h.2
on o s prefix rest (inr (inr (inr (inr (inr (inr (inr (inr (inl h))))))))) e =
    join_on o s prefix h rest e
on o s prefix rest (inr (inr (inr (inr (inr (inr (inr (inr (inr (inl h)))))))))) e =
    by_word (codes "ADD") add_rest _ (add_correct ends) unfold_add o s prefix h.0 rest h.1 h.2
on o s prefix rest (inr (inr (inr (inr (inr (inr (inr (inr (inr (inr (inl h))))))))))) e =
    by_word (codes "DROP") drop_rest _ (drop_correct ends) unfold_drop o s prefix h.0 rest h.1
    (inr h.2)
on o s prefix rest (inr (inr (inr (inr (inr (inr (inr (inr (inr (inr (inr h))))))))))) e =
    by_word (codes "RENAME") rename_rest _ (rename_correct ends) unfold_rename o s prefix h.0 rest
    h.1 (inr h.2)

pub operator_longest : (o : Operator) (s : Size) (prefix rest ts : List Lexeme)
    → ts ≡ prefix ++ rest → IsOperator o s prefix → Ends IsOperator ts (length prefix)
    → Fine 32 o s 0 rest (operator 0 ts)
operator_longest o s prefix rest ts w h e =
    let P : List Lexeme → Type 0 = λ l. Ends IsOperator l (length prefix) in
    let Q : List Lexeme → Type 0 = λ l. Fine 32 o s 0 rest (operator 0 l) in
    subst Q (sym w) (on o s prefix rest h (subst P w e))
