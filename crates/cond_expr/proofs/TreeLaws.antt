-- Laws of values, truth and what is put for references.
use Rattle.std.specs.Prelude.{◌≡◌, ℕ, List, not, length, take, pos}
use Rattle.std.proofs.Common.{refl, ap}
use Rattle.prima_base.specs.declared.value.Value.{Value}
use Rattle.prima_base.specs.declared.value.Value.TheVariants.{Int, Text}
use Rattle.cond_expr.specs.declared.expr.Whose.{Whose}
use Rattle.cond_expr.specs.Trees.{Tree, column, constant, length_of, joined, choose, Trees}
use Rattle.cond_expr.specs.Trees.{no_trees, a_tree, Test, never, always, compared, all_of, some_of}
use Rattle.cond_expr.specs.Trees.{fails, Tests, no_tests, a_test, Filling, fill, fill_trees}
use Rattle.cond_expr.specs.Trees.{fill_test, fill_tests, Within, TreesWithin, TestWithin}
use Rattle.cond_expr.specs.Trees.{TestsWithin}
use Rattle.prima_base.specs.Order.{bytes_of}
use Rattle.cond_expr.specs.Values.{Cells, value, texts, truth, all_true, some_true}

-- the value after references are filled is the value where the fillings are computed
mutual
  pub value_fill : (at : Cells) (s : Filling) (t : Tree)
      → value at (fill s t) ≡ value (λ w n. value at (s w n)) t
  value_fill at s (column w n) = refl
  value_fill at s (constant v) = refl
  value_fill at s (length_of t) = ap (λ (v : Value). Int (pos (length (bytes_of v))))
      (value_fill at s t)
  value_fill at s (joined ts) = ap (λ (b : List ℕ). Text (take 4096 b)) (texts_fill at s ts)
  value_fill at s (choose c a b) = rw (truth_fill at s c, value_fill at s a, value_fill at s b) refl

  pub texts_fill : (at : Cells) (s : Filling) (ts : Trees)
      → texts at (fill_trees s ts) ≡ texts (λ w n. value at (s w n)) ts
  texts_fill at s no_trees = refl
  texts_fill at s (a_tree t ts) = rw (value_fill at s t, texts_fill at s ts) refl

  pub truth_fill : (at : Cells) (s : Filling) (c : Test)
      → truth at (fill_test s c) ≡ truth (λ w n. value at (s w n)) c
  truth_fill at s never = refl
  truth_fill at s always = refl
  truth_fill at s (compared o a b) = rw (value_fill at s a, value_fill at s b) refl
  truth_fill at s (all_of cs) = all_fill at s cs
  truth_fill at s (some_of cs) = some_fill at s cs
  truth_fill at s (fails c) = ap not (truth_fill at s c)

  pub all_fill : (at : Cells) (s : Filling) (cs : Tests)
      → all_true at (fill_tests s cs) ≡ all_true (λ w n. value at (s w n)) cs
  all_fill at s no_tests = refl
  all_fill at s (a_test c cs) = rw (truth_fill at s c, all_fill at s cs) refl

  pub some_fill : (at : Cells) (s : Filling) (cs : Tests)
      → some_true at (fill_tests s cs) ≡ some_true (λ w n. value at (s w n)) cs
  some_fill at s no_tests = refl
  some_fill at s (a_test c cs) = rw (truth_fill at s c, some_fill at s cs) refl

-- a value depends on the named references alone
module _ (P : Whose → List ℕ → Type 0) (at by : Cells) (like : (w : Whose) (n : List ℕ) → P w n
    → at w n ≡ by w n) where
  mutual
    pub value_like : (t : Tree) → Within P t → value at t ≡ value by t
    value_like (column x n) w = like x n w
    value_like (constant v) w = refl
    value_like (length_of t) w = ap (λ (v : Value). Int (pos (length (bytes_of v))))
        (value_like t w)
    value_like (joined ts) w = ap (λ (b : List ℕ). Text (take 4096 b)) (texts_like ts w)
    value_like (choose c a b) w = rw (truth_like c w.0, value_like a w.1, value_like b w.2) refl

    pub texts_like : (ts : Trees) → TreesWithin P ts → texts at ts ≡ texts by ts
    texts_like no_trees w = refl
    texts_like (a_tree t ts) w = rw (value_like t w.0, texts_like ts w.1) refl

    pub truth_like : (c : Test) → TestWithin P c → truth at c ≡ truth by c
    truth_like never w = refl
    truth_like always w = refl
    truth_like (compared o a b) w = rw (value_like a w.0, value_like b w.1) refl
    truth_like (all_of cs) w = all_like cs w
    truth_like (some_of cs) w = some_like cs w
    truth_like (fails c) w = ap not (truth_like c w)

    pub all_like : (cs : Tests) → TestsWithin P cs → all_true at cs ≡ all_true by cs
    all_like no_tests w = refl
    all_like (a_test c cs) w = rw (truth_like c w.0, all_like cs w.1) refl

    pub some_like : (cs : Tests) → TestsWithin P cs → some_true at cs ≡ some_true by cs
    some_like no_tests w = refl
    some_like (a_test c cs) w = rw (truth_like c w.0, some_like cs w.1) refl

-- references of what is filled are references of the fillings
module _ (P Q : Whose → List ℕ → Type 0) (s : Filling) (to : (w : Whose) (n : List ℕ) → P w n
    → Within Q (s w n)) where
  mutual
    pub within_fill : (t : Tree) → Within P t → Within Q (fill s t)
    within_fill (column x n) w = to x n w
    within_fill (constant v) w = tt
    within_fill (length_of t) w = within_fill t w
    within_fill (joined ts) w = trees_within_fill ts w
    within_fill (choose c a b) w = (test_within_fill c w.0, within_fill a w.1, within_fill b w.2)

    pub trees_within_fill : (ts : Trees) → TreesWithin P ts → TreesWithin Q (fill_trees s ts)
    trees_within_fill no_trees w = tt
    trees_within_fill (a_tree t ts) w = (within_fill t w.0, trees_within_fill ts w.1)

    pub test_within_fill : (c : Test) → TestWithin P c → TestWithin Q (fill_test s c)
    test_within_fill never w = tt
    test_within_fill always w = tt
    test_within_fill (compared o a b) w = (within_fill a w.0, within_fill b w.1)
    test_within_fill (all_of cs) w = tests_within_fill cs w
    test_within_fill (some_of cs) w = tests_within_fill cs w
    test_within_fill (fails c) w = test_within_fill c w

    pub tests_within_fill : (cs : Tests) → TestsWithin P cs → TestsWithin Q (fill_tests s cs)
    tests_within_fill no_tests w = tt
    tests_within_fill (a_test c cs) w = (test_within_fill c w.0, tests_within_fill cs w.1)

-- each reference filled by itself
mutual
  pub fill_itself : (t : Tree) → fill column t ≡ t
  fill_itself (column w n) = refl
  fill_itself (constant v) = refl
  fill_itself (length_of t) = ap length_of (fill_itself t)
  fill_itself (joined ts) = ap joined (trees_fill_itself ts)
  fill_itself (choose c a b) = rw (test_fill_itself c, fill_itself a, fill_itself b) refl

  pub trees_fill_itself : (ts : Trees) → fill_trees column ts ≡ ts
  trees_fill_itself no_trees = refl
  trees_fill_itself (a_tree t ts) = rw (fill_itself t, trees_fill_itself ts) refl

  pub test_fill_itself : (c : Test) → fill_test column c ≡ c
  test_fill_itself never = refl
  test_fill_itself always = refl
  test_fill_itself (compared o a b) = rw (fill_itself a, fill_itself b) refl
  test_fill_itself (all_of cs) = ap all_of (tests_fill_itself cs)
  test_fill_itself (some_of cs) = ap some_of (tests_fill_itself cs)
  test_fill_itself (fails c) = ap fails (test_fill_itself c)

  pub tests_fill_itself : (cs : Tests) → fill_tests column cs ≡ cs
  tests_fill_itself no_tests = refl
  tests_fill_itself (a_test c cs) = rw (test_fill_itself c, tests_fill_itself cs) refl

-- filled twice
mutual
  pub fill_twice : (s r : Filling) (t : Tree) → fill s (fill r t) ≡ fill (λ w n. fill s (r w n)) t
  fill_twice s r (column w n) = refl
  fill_twice s r (constant v) = refl
  fill_twice s r (length_of t) = ap length_of (fill_twice s r t)
  fill_twice s r (joined ts) = ap joined (trees_fill_twice s r ts)
  fill_twice s r (choose c a b) = rw (test_fill_twice s r c, fill_twice s r a, fill_twice s r b)
      refl

  pub trees_fill_twice : (s r : Filling) (ts : Trees)
      → fill_trees s (fill_trees r ts) ≡ fill_trees (λ w n. fill s (r w n)) ts
  trees_fill_twice s r no_trees = refl
  trees_fill_twice s r (a_tree t ts) = rw (fill_twice s r t, trees_fill_twice s r ts) refl

  pub test_fill_twice : (s r : Filling) (c : Test)
      → fill_test s (fill_test r c) ≡ fill_test (λ w n. fill s (r w n)) c
  test_fill_twice s r never = refl
  test_fill_twice s r always = refl
  test_fill_twice s r (compared o a b) = rw (fill_twice s r a, fill_twice s r b) refl
  test_fill_twice s r (all_of cs) = ap all_of (tests_fill_twice s r cs)
  test_fill_twice s r (some_of cs) = ap some_of (tests_fill_twice s r cs)
  test_fill_twice s r (fails c) = ap fails (test_fill_twice s r c)

  pub tests_fill_twice : (s r : Filling) (cs : Tests)
      → fill_tests s (fill_tests r cs) ≡ fill_tests (λ w n. fill s (r w n)) cs
  tests_fill_twice s r no_tests = refl
  tests_fill_twice s r (a_test c cs) = rw (test_fill_twice s r c, tests_fill_twice s r cs) refl
