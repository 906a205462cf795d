-- What is the same is equal, and what is equal is the same.
use Rattle.std.proofs.Common.{◌≡◌, ◌≤◌, ◌==◌, ◌&&◌, ℕ, suc, Bool, true, false, List, [], ◌∷◌, map}
use Rattle.std.proofs.Common.{drop, length, refl, sym, ap, subst, ◌∙◌, arith}
use Rattle.std.proofs.lemmas.Bool.{and_parts, and_from, eqb-true, eq-eqb}
use Rattle.std.proofs.lemmas.Cmp.{tied_itself}
use Rattle.std.proofs.lemmas.List.{drop_all}
use Rattle.std.specs.declared.cmp.Ordering.{Ordering}
use Rattle.std.specs.declared.cmp.Ordering.TheVariants.{Less, Equal, Greater}
use Rattle.std.specs.Ordering.{is_eq}
use Rattle.prima_base.specs.Order.{same, row_cmp, value_cmp, value_eq}
use Rattle.prima_base.specs.OrderLaws.{value_total, row_exact, same_is}
use Rattle.prima_base.specs.declared.value.Value.{Value}
use Rattle.cond_expr.specs.declared.expr.Whose.{Whose}
use Rattle.cond_expr.specs.declared.expr.Whose.TheVariants.{Free, Alias, Atom}
use Rattle.cond_expr.specs.declared.expr.CmpOp.{CmpOp}
use Rattle.cond_expr.specs.declared.expr.CmpOp.TheVariants.{Eq, Ne, Lt, Le, Gt, Ge}
use Rattle.cond_expr.specs.declared.expr.Expr.{Expr}
use Rattle.cond_expr.specs.declared.expr.Cond.{Cond}
use Rattle.cond_expr.specs.Comparisons.{same_way}
use Rattle.cond_expr.proofs.ComparisonLaws.{same_way_is}
use Rattle.cond_expr.specs.Trees.{Tree, column, constant, length_of, joined, choose, Trees}
use Rattle.cond_expr.specs.Trees.{no_trees, a_tree, Test, never, always, compared, all_of, some_of}
use Rattle.cond_expr.specs.Trees.{fails, Tests, no_tests, a_test}
use Rattle.cond_expr.specs.Seen.{tree, test, trees_of, tests_of}
use Rattle.smo_ops_spec.proofs.NameLaws.{same_itself}
use Rattle.piece_ir_spec.specs.Pieces.{PlainPiece}
use Rattle.piece_ir.specs.Sameness.{same_whose, same_tree, same_trees, same_test, same_tests}
use Rattle.piece_ir.specs.Sameness.{same_names, same_outs, same_piece, same_pieces}

-- ---- at the end of a list

more_than_none : (n : ℕ) → (suc n == 0) ≡ false
more_than_none n = grind arith

trees_left : (others : List Expr) → (length others == 0)
    ≡ same_trees no_trees (trees_of (map tree others))
trees_left [] = refl
trees_left (e ∷ others) = more_than_none (length others)

tests_left : (others : List Cond) → (length others == 0)
    ≡ same_tests no_tests (tests_of (map test others))
tests_left [] = refl
tests_left (c ∷ others) = more_than_none (length others)

pub trees_end : (parts bs others : List Expr) (i : ℕ) (none : Bool) → length parts ≤ i
    → same_trees (trees_of (map tree parts)) (trees_of (map tree bs))
    ≡ same_trees (trees_of (map tree (drop i parts))) (trees_of (map tree others))
    → none ≡ (length others == 0) → none ≡ same_trees (trees_of (map tree parts))
    (trees_of (map tree bs))
trees_end parts bs others i none l e h =
    h ∙ trees_left others ∙ ap (λ (es : List Expr).
    same_trees (trees_of (map tree es)) (trees_of (map tree others))) (sym (drop_all i parts l))
    ∙ sym e

pub tests_end : (parts bs others : List Cond) (i : ℕ) (none : Bool) → length parts ≤ i
    → same_tests (tests_of (map test parts)) (tests_of (map test bs))
    ≡ same_tests (tests_of (map test (drop i parts))) (tests_of (map test others))
    → none ≡ (length others == 0) → none ≡ same_tests (tests_of (map test parts))
    (tests_of (map test bs))
tests_end parts bs others i none l e h =
    h ∙ tests_left others ∙ ap (λ (cs : List Cond).
    same_tests (tests_of (map test cs)) (tests_of (map test others))) (sym (drop_all i parts l))
    ∙ sym e

-- ---- what is the same is equal

whose_is : (w v : Whose) → same_whose w v ≡ true → w ≡ v
whose_is Free Free e = refl
whose_is (Alias a) (Alias b) e = ap Alias (same_is a b e)
whose_is (Atom i) (Atom j) e = ap Atom (eqb-true i j e)
whose_is _ _ e = absurd (cc)

-- values alone in a row
one_alike : (v w : Value) → value_cmp v w ≡ Equal → row_cmp (v ∷ []) (w ∷ []) ≡ Equal
one_alike v w e = rw e refl

only_one : (v w : Value) → v ∷ [] ≡ w ∷ [] → v ≡ w
only_one v w e = cc

value_is : (v w : Value) → value_eq v w ≡ true → v ≡ w
value_is v w e = step (value_cmp v w) refl e
  where
    step : (o : Ordering) → value_cmp v w ≡ o → is_eq o ≡ true → v ≡ w
    step Less q h = absurd (cc)
    step Equal q h = only_one v w (row_exact.same (v ∷ []) (w ∷ []) (one_alike v w q))
    step Greater q h = absurd (cc)

mutual
  tree_is : (t u : Tree) → same_tree t u ≡ true → t ≡ u
  tree_is (column w n) (column v m) e =
      let h = and_parts (same_whose w v) (same n m) e in
      ap (λ x. column x n) (whose_is w v h.0) ∙ ap (column v) (same_is n m h.1)
  tree_is (constant v) (constant w) e = ap constant (value_is v w e)
  tree_is (length_of t) (length_of u) e = ap length_of (tree_is t u e)
  tree_is (joined ts) (joined us) e = ap joined (trees_are ts us e)
  tree_is (choose c t u) (choose d v w) e =
      let h = and_parts (same_test c d) (same_tree t v && same_tree u w) e in
      let k = and_parts (same_tree t v) (same_tree u w) h.1 in
      ap (λ x. choose x t u) (test_is c d h.0) ∙ ap (λ x. choose d x u) (tree_is t v k.0)
      ∙ ap (choose d v) (tree_is u w k.1)
  tree_is _ _ e = absurd (cc)

  trees_are : (ts us : Trees) → same_trees ts us ≡ true → ts ≡ us
  trees_are no_trees no_trees e = refl
  trees_are (a_tree t ts) (a_tree u us) e =
      let h = and_parts (same_tree t u) (same_trees ts us) e in
      ap (λ x. a_tree x ts) (tree_is t u h.0) ∙ ap (a_tree u) (trees_are ts us h.1)
  trees_are _ _ e = absurd (cc)

  pub test_is : (c d : Test) → same_test c d ≡ true → c ≡ d
  test_is never never e = refl
  test_is always always e = refl
  test_is (compared o t u) (compared p v w) e =
      let h = and_parts (same_way o p) (same_tree t v && same_tree u w) e in
      let k = and_parts (same_tree t v) (same_tree u w) h.1 in
      ap (λ x. compared x t u) (same_way_is o p h.0) ∙ ap (λ x. compared p x u) (tree_is t v k.0)
      ∙ ap (compared p v) (tree_is u w k.1)
  test_is (all_of cs) (all_of ds) e = ap all_of (tests_are cs ds e)
  test_is (some_of cs) (some_of ds) e = ap some_of (tests_are cs ds e)
  test_is (fails c) (fails d) e = ap fails (test_is c d e)
  test_is _ _ e = absurd (cc)

  tests_are : (cs ds : Tests) → same_tests cs ds ≡ true → cs ≡ ds
  tests_are no_tests no_tests e = refl
  tests_are (a_test c cs) (a_test d ds) e =
      let h = and_parts (same_test c d) (same_tests cs ds) e in
      ap (λ x. a_test x cs) (test_is c d h.0) ∙ ap (a_test d) (tests_are cs ds h.1)
  tests_are _ _ e = absurd (cc)

names_are : (names others : List (List ℕ)) → same_names names others ≡ true → names ≡ others
names_are [] [] e = refl
names_are (a ∷ names) (b ∷ others) e =
    let h = and_parts (same a b) (same_names names others) e in
    ap (λ x. x ∷ names) (same_is a b h.0) ∙ ap (λ xs. b ∷ xs) (names_are names others h.1)
names_are _ _ e = absurd (cc)

pub outs_are : (outs others : List (List ℕ × Tree)) → same_outs outs others ≡ true → outs ≡ others
outs_are [] [] e = refl
outs_are (a ∷ outs) (b ∷ others) e =
    let h = and_parts (same a.0 b.0 && same_tree a.1 b.1) (same_outs outs others) e in
    let k = and_parts (same a.0 b.0) (same_tree a.1 b.1) h.0 in
    ap (λ (n : List ℕ). (n, a.1) ∷ outs) (same_is a.0 b.0 k.0)
    ∙ ap (λ (t : Tree). (b.0, t) ∷ outs) (tree_is a.1 b.1 k.1)
    ∙ ap (λ xs. b ∷ xs) (outs_are outs others h.1)
outs_are _ _ e = absurd (cc)

piece_is : (p q : PlainPiece) → same_piece p q ≡ true → p ≡ q
piece_is p q e =
    let h = and_parts (same_names p.atoms q.atoms)
    (same_test p.cond q.cond && same_outs p.outs q.outs) e in
    let k = and_parts (same_test p.cond q.cond) (same_outs p.outs q.outs) h.1 in
    ap (λ (atoms : List (List ℕ)). record { atoms = atoms; cond = p.cond; outs = p.outs })
    (names_are p.atoms q.atoms h.0)
    ∙ ap (λ (c : Test). record { atoms = q.atoms; cond = c; outs = p.outs })
    (test_is p.cond q.cond k.0)
    ∙ ap (λ (outs : List (List ℕ × Tree)). record { atoms = q.atoms; cond = q.cond; outs = outs })
    (outs_are p.outs q.outs k.1)

pub same_are : (ps qs : List PlainPiece) → same_pieces ps qs ≡ true → ps ≡ qs
same_are [] [] e = refl
same_are (p ∷ ps) (q ∷ qs) e =
    let h = and_parts (same_piece p q) (same_pieces ps qs) e in
    ap (λ x. x ∷ ps) (piece_is p q h.0) ∙ ap (λ xs. q ∷ xs) (same_are ps qs h.1)
same_are _ _ e = absurd (cc)

-- ---- what is equal is the same

way_itself : (o : CmpOp) → same_way o o ≡ true
way_itself Eq = refl
way_itself Ne = refl
way_itself Lt = refl
way_itself Le = refl
way_itself Gt = refl
way_itself Ge = refl

whose_itself : (w : Whose) → same_whose w w ≡ true
whose_itself Free = refl
whose_itself (Alias a) = same_itself a
whose_itself (Atom i) = eq-eqb i i refl

value_itself : (v : Value) → value_eq v v ≡ true
value_itself v = ap is_eq (tied_itself value_total v)

mutual
  tree_itself : (t : Tree) → same_tree t t ≡ true
  tree_itself (column w n) = and_from (same_whose w w) (same n n) (whose_itself w) (same_itself n)
  tree_itself (constant v) = value_itself v
  tree_itself (length_of t) = tree_itself t
  tree_itself (joined ts) = trees_themselves ts
  tree_itself (choose c t u) = and_from (same_test c c) (same_tree t t && same_tree u u)
      (test_itself c) (and_from (same_tree t t) (same_tree u u) (tree_itself t) (tree_itself u))

  trees_themselves : (ts : Trees) → same_trees ts ts ≡ true
  trees_themselves no_trees = refl
  trees_themselves (a_tree t ts) = and_from (same_tree t t) (same_trees ts ts) (tree_itself t)
      (trees_themselves ts)

  test_itself : (c : Test) → same_test c c ≡ true
  test_itself never = refl
  test_itself always = refl
  test_itself (compared o t u) = and_from (same_way o o) (same_tree t t && same_tree u u)
      (way_itself o) (and_from (same_tree t t) (same_tree u u) (tree_itself t) (tree_itself u))
  test_itself (all_of cs) = tests_themselves cs
  test_itself (some_of cs) = tests_themselves cs
  test_itself (fails c) = test_itself c

  tests_themselves : (cs : Tests) → same_tests cs cs ≡ true
  tests_themselves no_tests = refl
  tests_themselves (a_test c cs) = and_from (same_test c c) (same_tests cs cs) (test_itself c)
      (tests_themselves cs)

names_themselves : (names : List (List ℕ)) → same_names names names ≡ true
names_themselves [] = refl
names_themselves (a ∷ names) = and_from (same a a) (same_names names names) (same_itself a)
    (names_themselves names)

outs_themselves : (outs : List (List ℕ × Tree)) → same_outs outs outs ≡ true
outs_themselves [] = refl
outs_themselves (a ∷ outs) =
    and_from (same a.0 a.0 && same_tree a.1 a.1) (same_outs outs outs)
    (and_from (same a.0 a.0) (same_tree a.1 a.1) (same_itself a.0) (tree_itself a.1))
    (outs_themselves outs)

piece_itself : (p : PlainPiece) → same_piece p p ≡ true
piece_itself p =
    and_from (same_names p.atoms p.atoms) (same_test p.cond p.cond && same_outs p.outs p.outs)
    (names_themselves p.atoms)
    (and_from (same_test p.cond p.cond) (same_outs p.outs p.outs) (test_itself p.cond)
    (outs_themselves p.outs))

pieces_themselves : (ps : List PlainPiece) → same_pieces ps ps ≡ true
pieces_themselves [] = refl
pieces_themselves (p ∷ ps) = and_from (same_piece p p) (same_pieces ps ps) (piece_itself p)
    (pieces_themselves ps)

pub are_same : (ps qs : List PlainPiece) → ps ≡ qs → same_pieces ps qs ≡ true
are_same ps qs e = subst (λ (xs : List PlainPiece). same_pieces ps xs ≡ true) e
    (pieces_themselves ps)
