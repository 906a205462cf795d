-- The readers of expressions and conditions are good for their formats, at each depth.
use Rattle.std.proofs.Common.{◌≡◌, ℕ, zero, suc, ◌+◌, ◌*◌, ◌^◌, ◌<◌, ◌≤◌, pos, Bool, true, false}
use Rattle.std.proofs.Common.{cond as either, nat_lt, List, [], ◌∷◌, ◌++◌, length, refl, sym, ap}
use Rattle.std.proofs.Common.{◌∙◌, subst, arith}
use Rattle.std.specs.List.{flat_map, AllByRecursion}
use Rattle.std.proofs.lemmas.Bool.{leb-true, ltb-false}
use Rattle.std.proofs.lemmas.List.Concat.{flat_map-cons}
use Rattle.prima_base.specs.Bytes.{IsName}
use Rattle.prima_base.specs.Columns.{IsValid}
use Rattle.prima_base.specs.declared.value.Value.{Value}
use Rattle.prima_base.specs.declared.value.Value.TheVariants.{Int}
use Rattle.cond_expr.specs.declared.expr.Whose.TheVariants.{Atom}
use Rattle.cond_expr.specs.declared.expr.CmpOp.{CmpOp}
use Rattle.cond_expr.specs.Trees.{Tree, column, constant, length_of, joined, choose, Trees}
use Rattle.cond_expr.specs.Trees.{no_trees, a_tree, Test, never, always, compared, all_of, some_of}
use Rattle.cond_expr.specs.Trees.{fails, Tests, no_tests, a_test}
use Rattle.cond_expr.specs.Seen.{trees_of, tests_of}
use Rattle.cond_expr.specs.Sizes.{depth_of, trees_depth, test_depth, tests_depth, count_of}
use Rattle.command_codec_spec.specs.Reading.{Out, Parsed, Unexpected, Parser, IsCorrectParser}
use Rattle.command_codec_spec.specs.Reading.{and_then, pair, by_tag, items, list_parser}
use Rattle.command_codec_spec.specs.Encoding.{number, name_bytes, value_bytes, sign_tag, number_of}
use Rattle.command_codec_spec.specs.Encoding.{tree_bytes, trees_bytes, test_bytes, tests_bytes}
use Rattle.command_codec_spec.specs.Encoding.{list_bytes}
use Rattle.command_codec_spec.specs.Valid.{TreeFits, TreesFit, TestFits, TestsFit, TreeNamed}
use Rattle.command_codec_spec.specs.Valid.{TreesNamed, TestNamed, TestsNamed, IsTree, IsTest}
use Rattle.command_codec_spec.specs.Reader.{name, value, sign, Level, most_parts, is_expr_tag}
use Rattle.command_codec_spec.specs.Reader.{expr_arm, expr, is_cond_tag, cond_arm, cond, nothing}
use Rattle.command_codec_spec.specs.Reader.{made, level, outermost}
use Rattle.command_codec_spec.specs.Reader.{chosen, comparison}
use Rattle.command_codec_spec.proofs.Correctness.{by_test, true_false, retold, pair_correct}
use Rattle.command_codec_spec.proofs.Correctness.{ArmCorrect, parts_correct, parts_read}
use Rattle.command_codec_spec.proofs.Correctness.{tagged_correct}
use Rattle.command_codec_spec.proofs.Numbers.{of_both}
use Rattle.command_codec_spec.proofs.PartFormats.{name_correct, value_correct, sign_correct}
use Rattle.command_codec_spec.proofs.PartFormats.{Counted}
use Rattle.command_codec_spec.proofs.PartFormats.{no_items_correct, items_correct, list_correct}
use Rattle.command_codec_spec.proofs.PartFormats.{zero_valid}

-- a tree of at most so many levels that has a spelling
abbrev pub TreeWithin : ℕ → Tree → Type 0
TreeWithin d t = (TreeFits t × (depth_of t ≤ d)) × TreeNamed t

abbrev pub TestWithin : ℕ → Test → Type 0
TestWithin d c = (TestFits c × (test_depth c ≤ d)) × TestNamed c

-- each tree has a level
one_level : (t : Tree) → 0 < depth_of t
one_level (column w n) = omega arith
one_level (constant v) = omega arith
one_level (length_of t) = omega arith
one_level (joined ts) = omega arith
one_level (choose c a b) = omega arith

one_test_level : (c : Test) → 0 < test_depth c
one_test_level never = omega arith
one_test_level always = omega arith
one_test_level (compared o a b) = omega arith
one_test_level (all_of cs) = omega arith
one_test_level (some_of cs) = omega arith
one_test_level (fails c) = omega arith

-- ---- lists of trees, and of conditions

list_of : Trees → List Tree
list_of no_trees = []
list_of (a_tree t ts) = t ∷ list_of ts

listed_again : (ts : Trees) → trees_of (list_of ts) ≡ ts
unfolding list_of
listed_again no_trees = refl
listed_again (a_tree t ts) = ap (a_tree t) (listed_again ts)

pub trees_count : (l : List Tree) → count_of (trees_of l) ≡ length l
trees_count [] = refl
trees_count (t ∷ l) = let h = trees_count l in let e : count_of (trees_of l) + 1 ≡ suc (length l) =
    omega (arith, h) in e

pub trees_encoded : (l : List Tree) → trees_bytes (trees_of l) ≡ flat_map tree_bytes l
trees_encoded [] = refl
trees_encoded (t ∷ l) = ap (λ x. tree_bytes t ++ x) (trees_encoded l)
    ∙ sym (flat_map-cons tree_bytes t l)

all_trees : (d : ℕ) (l : List Tree) → AllByRecursion (TreeWithin d) l
    → (TreesFit (trees_of l) × (trees_depth (trees_of l) ≤ d)) × TreesNamed (trees_of l)
all_trees d [] h = ((tt, omega arith), tt)
all_trees d (t ∷ l) (((fits, low), named), later) = let r = all_trees d l later in
    (((fits, r.0.0), (let b = r.0.1 in omega (arith, low, b))), (named, r.1))

of_trees : (d : ℕ) (l : List Tree) → TreesFit (trees_of l) → trees_depth (trees_of l) ≤ d
    → TreesNamed (trees_of l) → AllByRecursion (TreeWithin d) l
of_trees d [] f h n = tt
of_trees d (t ∷ l) f h n = (((f.0, omega (arith, h)), n.0), of_trees d l f.1 (omega (arith, h)) n.1)

tests_in : Tests → List Test
tests_in no_tests = []
tests_in (a_test c cs) = c ∷ tests_in cs

tests_again : (cs : Tests) → tests_of (tests_in cs) ≡ cs
unfolding tests_in
tests_again no_tests = refl
tests_again (a_test c cs) = ap (a_test c) (tests_again cs)

pub tests_count : (l : List Test) → number_of (tests_of l) ≡ length l
tests_count [] = refl
tests_count (c ∷ l) = let h = tests_count l in let e : number_of (tests_of l) + 1 ≡ suc (length l) =
    omega (arith, h) in e

pub tests_encoded : (l : List Test) → tests_bytes (tests_of l) ≡ flat_map test_bytes l
tests_encoded [] = refl
tests_encoded (c ∷ l) = ap (λ x. test_bytes c ++ x) (tests_encoded l)
    ∙ sym (flat_map-cons test_bytes c l)

all_tests : (d : ℕ) (l : List Test) → AllByRecursion (TestWithin d) l
    → (TestsFit (tests_of l) × (tests_depth (tests_of l) ≤ d)) × TestsNamed (tests_of l)
all_tests d [] h = ((tt, omega arith), tt)
all_tests d (c ∷ l) (((fits, low), named), later) = let r = all_tests d l later in
    (((fits, r.0.0), (let b = r.0.1 in omega (arith, low, b))), (named, r.1))

of_tests : (d : ℕ) (l : List Test) → TestsFit (tests_of l) → tests_depth (tests_of l) ≤ d
    → TestsNamed (tests_of l) → AllByRecursion (TestWithin d) l
of_tests d [] f h n = tt
of_tests d (c ∷ l) f h n = (((f.0, omega (arith, h)), n.0), of_tests d l f.1 (omega (arith, h)) n.1)

-- ---- one level

pub record LevelCorrect (d : ℕ) (L : Level) : Type 0 where
  pub expr : IsCorrectParser L.expr (TreeWithin d) tree_bytes
  pub cond : IsCorrectParser L.cond (TestWithin d) test_bytes

-- what is read after a tag
tag_read : {A : Type 0} (takes : ℕ → Bool) (arm : ℕ → Parser A) (x : ℕ) (ts : List ℕ)
    → takes x ≡ true → by_tag takes arm (x ∷ ts) ≡ arm x ts
tag_read takes arm x ts e = ap (λ b. and_then (either b (Parsed x ts) (Unexpected (x ∷ ts))) arm) e

always_expr : (deeper : Bool) → (is_expr_tag deeper 0 ≡ true) × (is_expr_tag deeper 1 ≡ true)
    × (is_expr_tag deeper 3 ≡ true)
always_expr true = (refl, refl, refl)
always_expr false = (refl, refl, refl)

deeper_expr : (deeper : Bool) → deeper ≡ true → (is_expr_tag deeper 2 ≡ true)
    × (is_expr_tag deeper 4 ≡ true)
deeper_expr true e = (refl, refl)
deeper_expr false e = true_false (sym e)

length_deeper : (deeper : Bool) → is_expr_tag deeper 2 ≡ true → deeper ≡ true
length_deeper true e = refl
length_deeper false e = e

case_deeper : (deeper : Bool) → is_expr_tag deeper 4 ≡ true → deeper ≡ true
case_deeper true e = refl
case_deeper false e = e

no_other_expr : (deeper : Bool) (n : ℕ) → is_expr_tag deeper (suc (suc (suc (suc (suc n))))) ≡ true
    → ⊥
no_other_expr true n e = absurd (omega (arith, leb-true (suc (suc (suc (suc (suc n))))) 4 e))
no_other_expr false n e = absurd (omega (
  arith,
  leb-true (suc (suc (suc (suc (suc n))))) 3 (of_both _ _ e).0,
))

always_cond : (deeper : Bool) → (is_cond_tag deeper 0 ≡ true) × (is_cond_tag deeper 1 ≡ true)
    × (is_cond_tag deeper 3 ≡ true) × (is_cond_tag deeper 4 ≡ true)
always_cond true = (refl, refl, refl, refl)
always_cond false = (refl, refl, refl, refl)

deeper_cond : (deeper : Bool) → deeper ≡ true → (is_cond_tag deeper 2 ≡ true)
    × (is_cond_tag deeper 5 ≡ true)
deeper_cond true e = (refl, refl)
deeper_cond false e = true_false (sym e)

compared_deeper : (deeper : Bool) → is_cond_tag deeper 2 ≡ true → deeper ≡ true
compared_deeper true e = refl
compared_deeper false e = e

fails_deeper : (deeper : Bool) → is_cond_tag deeper 5 ≡ true → deeper ≡ true
fails_deeper true e = refl
fails_deeper false e = e

no_other_cond : (deeper : Bool) (n : ℕ) → is_cond_tag deeper (suc (suc (suc (suc (suc (suc n))))))
    ≡ true → ⊥
no_other_cond true n e = absurd (omega (arith, leb-true (suc (suc (suc (suc (suc (suc n)))))) 5 e))
no_other_cond false n e = absurd (omega (
  arith,
  leb-true (suc (suc (suc (suc (suc (suc n)))))) 4 (of_both _ _ e).0,
))

-- a list of parts, of which none can stand where no level may stand below
module _ {A : Type 0} (p : Parser A) (Is : A → Type 0) (encode : A → List ℕ) (deeper : Bool)
    (correct : deeper ≡ true → IsCorrectParser p Is encode) (none : deeper ≡ false → (a : A) → Is a
    → ⊥) where
  no_part : deeper ≡ false → (l : List A) → AllByRecursion Is l → length l ≤ 0
  no_part f [] h = omega arith
  no_part f (a ∷ l) h = absurd (none f a h.0)

  no_items : (n : ℕ) → n ≤ 0 → IsCorrectParser (items p n) (Counted p Is encode n) (flat_map encode)
  no_items zero h = no_items_correct p Is encode
  no_items (suc n) h = absurd (omega (arith, h))

  by_depth : (k most : ℕ) → most < 2 ^ (8 * k) → (b : Bool) → b ≡ deeper
      → IsCorrectParser (list_parser k (most_parts b most) p) (λ l. (length l ≤ most)
      × AllByRecursion Is l) (list_bytes k encode)
  by_depth k most fits true same = list_correct p Is encode k most fits
      (λ n h. items_correct p Is encode (correct (sym same)) n)
  by_depth k most fits false same =
      retold (list_parser k 0 p) (λ l. (length l ≤ 0) × AllByRecursion Is l) (λ l. (length l ≤ most)
      × AllByRecursion Is l) (list_bytes k encode) (list_bytes k encode)
      (λ l h. ((omega (arith, h.0), h.1), refl))
      (λ l h. (no_part (sym same) l h.1, h.1))
      (list_correct p Is encode k 0 (omega (arith, fits)) no_items)

  pub parts_list_correct : (k most : ℕ) → most < 2 ^ (8 * k)
      → IsCorrectParser (list_parser k (most_parts deeper most) p) (λ l. (length l ≤ most)
      × AllByRecursion Is l) (list_bytes k encode)
  parts_list_correct k most fits = by_depth k most fits deeper refl

-- with at most e levels below
module _ (deeper : Bool) (e : ℕ) (inside : Level) (deep : deeper ≡ true → LevelCorrect e inside)
    (shallow : deeper ≡ false → e ≡ 0) where
  abbrev D : ℕ
  D = suc e

  -- where a part stands, a level may stand below
  has_level : 0 < e → deeper ≡ true
  has_level h = by_test deeper (λ t. t) (λ f. absurd (let z = shallow f in omega (arith, z, h)))

  above_tree : (t : Tree) → depth_of t ≤ e → deeper ≡ true
  above_tree t h = has_level (let a = one_level t in omega (arith, a, h))

  above_test : (c : Test) → test_depth c ≤ e → deeper ≡ true
  above_test c h = has_level (let a = one_test_level c in omega (arith, a, h))

  no_tree : deeper ≡ false → (t : Tree) → TreeWithin e t → ⊥
  no_tree f t h = true_false (sym (above_tree t h.0.1) ∙ f)

  no_test : deeper ≡ false → (c : Test) → TestWithin e c → ⊥
  no_test f c h = true_false (sym (above_test c h.0.1) ∙ f)

  -- ---- the parts after each tag of an expression

  abbrev Exprs : List Tree → Type 0
  Exprs l = (length l ≤ 255) × AllByRecursion (TreeWithin e) l

  exprs_correct : IsCorrectParser (list_parser 1 (most_parts deeper 255) inside.expr) Exprs
      (list_bytes 1 tree_bytes)
  exprs_correct = parts_list_correct inside.expr (TreeWithin e) tree_bytes deeper
      (λ t. (deep t).expr) no_tree 1 255 (omega arith)

  abbrev Cases : (Test × Tree) × Tree → Type 0
  Cases x = (TestWithin e x.0.0 × TreeWithin e x.0.1) × TreeWithin e x.1

  abbrev cases_bytes : (Test × Tree) × Tree → List ℕ
  cases_bytes x = test_bytes x.0.0 ++ tree_bytes x.0.1 ++ tree_bytes x.1

  cases_correct : LevelCorrect e inside → IsCorrectParser
      (pair (pair inside.cond inside.expr) inside.expr) Cases cases_bytes
  cases_correct L = pair_correct (pair inside.cond inside.expr) (λ x. TestWithin e x.0
      × TreeWithin e x.1) (λ x. test_bytes x.0 ++ tree_bytes x.1) inside.expr (TreeWithin e)
      tree_bytes
      (pair_correct inside.cond (TestWithin e) test_bytes inside.expr (TreeWithin e) tree_bytes
      L.cond L.expr) L.expr

  a_column : (n : List ℕ) → IsName n → TreeWithin D (column (Atom 0) n)
      × (tree_bytes (column (Atom 0) n) ≡ 0 ∷ name_bytes n)
  a_column n h = (((refl, omega arith), h), refl)

  a_constant : (v : Value) → IsValid v → TreeWithin D (constant v)
      × (tree_bytes (constant v) ≡ 1 ∷ value_bytes v)
  a_constant v h = (((tt, omega arith), h), refl)

  a_length : (t : Tree) → TreeWithin e t → TreeWithin D (length_of t)
      × (tree_bytes (length_of t) ≡ 2 ∷ tree_bytes t)
  a_length t h = (((h.0.0, (let a = h.0.1 in omega (arith, a))), h.1), refl)

  a_concat : (l : List Tree) → Exprs l → TreeWithin D (joined (trees_of l))
      × (tree_bytes (joined (trees_of l)) ≡ 3 ∷ list_bytes 1 tree_bytes l)
  a_concat l h =
      let r = all_trees e l h.1 in
      let n = trees_count l in (
        ((((let a = h.0 in omega (arith, a, n)), r.0.0), (let a = r.0.1 in omega (arith, a))), r.1),
        ap (λ m. 3 ∷ number 1 m ++ trees_bytes (trees_of l)) n
            ∙ ap (λ x. 3 ∷ number 1 (length l) ++ x) (trees_encoded l),
      )

  a_case : (x : (Test × Tree) × Tree) → Cases x → TreeWithin D (choose x.0.0 x.0.1 x.1)
      × (tree_bytes (choose x.0.0 x.0.1 x.1) ≡ 4 ∷ cases_bytes x)
  a_case ((c, a), b)
      ((((c_fits, c_low), c_named), ((a_fits, a_low), a_named)), ((b_fits, b_low), b_named)) = (
        (
          ((c_fits, a_fits, b_fits), omega (arith, c_low, a_low, b_low)),
          (c_named, a_named, b_named),
        ),
        refl,
      )

  abbrev tree_at : (x : ℕ) → Parser Tree → Type 0
  tree_at x p = ArmCorrect (TreeWithin D) tree_bytes x p

  expr_arms : (x : ℕ) → is_expr_tag deeper x ≡ true → tree_at x (expr_arm deeper inside x)
  expr_arms zero t = parts_correct name IsName name_bytes name_correct (λ n. column (Atom 0) n)
      (TreeWithin D) tree_bytes 0 a_column
  expr_arms (suc zero) t = parts_correct value IsValid value_bytes value_correct constant
      (TreeWithin D) tree_bytes 1 a_constant
  expr_arms (suc (suc zero)) t = parts_correct inside.expr (TreeWithin e) tree_bytes
      (deep (length_deeper deeper t)).expr length_of (TreeWithin D) tree_bytes 2 a_length
  expr_arms (suc (suc (suc zero))) t = parts_correct
      (list_parser 1 (most_parts deeper 255) inside.expr)
      Exprs (list_bytes 1 tree_bytes) exprs_correct (λ l. joined (trees_of l)) (TreeWithin D)
      tree_bytes 3 a_concat
  expr_arms (suc (suc (suc (suc zero)))) t =
      parts_correct (pair (pair inside.cond inside.expr) inside.expr) Cases cases_bytes
      (cases_correct (deep (case_deeper deeper t))) chosen (TreeWithin D)
      tree_bytes 4 a_case
  expr_arms (suc (suc (suc (suc (suc n))))) t = absurd (no_other_expr deeper n t)

  abbrev read_expr : List ℕ → Out Tree
  read_expr ts = by_tag (is_expr_tag deeper) (expr_arm deeper inside) ts

  concat_again : (l : List Tree) (rest : List ℕ) → TreeWithin D (joined (trees_of l))
      → read_expr (tree_bytes (joined (trees_of l)) ++ rest) ≡ Parsed (joined (trees_of l)) rest
  concat_again l rest (((count, fits), low), named) =
      let n = trees_count l in
      let few : length l ≤ 255 = omega (arith, count, n) in
      let all = of_trees e l fits (omega (arith, low)) named in
      ap (λ x. read_expr (x ++ rest)) (a_concat l (few, all)).1
      ∙ tag_read (is_expr_tag deeper) (expr_arm deeper inside) 3 (list_bytes 1 tree_bytes l ++ rest)
      (always_expr deeper).2
      ∙ parts_read (list_parser 1 (most_parts deeper 255) inside.expr) Exprs
      (list_bytes 1 tree_bytes)
      exprs_correct (λ l. joined (trees_of l)) (TreeWithin D) tree_bytes 3 a_concat l (few, all)
      rest

  expr_again : (t : Tree) → TreeWithin D t → (rest : List ℕ)
      → read_expr (tree_bytes t ++ rest) ≡ Parsed t rest
  expr_again (column w n) h rest =
      tag_read (is_expr_tag deeper) (expr_arm deeper inside) 0 (name_bytes n ++ rest)
      (always_expr deeper).0
      ∙ parts_read name IsName name_bytes name_correct (λ n. column (Atom 0) n) (TreeWithin D)
      tree_bytes 0 a_column n h.1 rest
      ∙ ap (λ v. Parsed (column v n) rest) (sym h.0.0)
  expr_again (constant v) h rest =
      tag_read (is_expr_tag deeper) (expr_arm deeper inside) 1 (value_bytes v ++ rest)
      (always_expr deeper).1
      ∙ parts_read value IsValid value_bytes value_correct constant (TreeWithin D) tree_bytes 1
      a_constant v h.1 rest
  expr_again (length_of t) h rest =
      let b : depth_of t ≤ e = omega (arith, h.0.1) in
      let deeper_is = above_tree t b in
      tag_read (is_expr_tag deeper) (expr_arm deeper inside) 2 (tree_bytes t ++ rest)
      (deeper_expr deeper deeper_is).0
      ∙ parts_read inside.expr (TreeWithin e) tree_bytes (deep deeper_is).expr length_of
      (TreeWithin D) tree_bytes 2 a_length t ((h.0.0, b), h.1) rest
  expr_again (joined ts) h rest = let P : Trees → Type 0 = λ x. TreeWithin D (joined x)
      → read_expr (tree_bytes (joined x) ++ rest) ≡ Parsed (joined x) rest in
      subst P (listed_again ts) (concat_again (list_of ts) rest) h
  expr_again (choose c a b) (((c_fits, a_fits, b_fits), low), (c_named, a_named, b_named)) rest =
      let dc : test_depth c ≤ e = omega (arith, low) in
      let da : depth_of a ≤ e = omega (arith, low) in
      let db : depth_of b ≤ e = omega (arith, low) in
      let deeper_is = above_tree a da in
      tag_read (is_expr_tag deeper) (expr_arm deeper inside) 4 (cases_bytes ((c, a), b) ++ rest)
      (deeper_expr deeper deeper_is).1
      ∙ parts_read (pair (pair inside.cond inside.expr) inside.expr) Cases cases_bytes
      (cases_correct (deep deeper_is)) chosen (TreeWithin D) tree_bytes 4
      a_case ((c, a), b)
      ((((c_fits, dc), c_named), ((a_fits, da), a_named)), ((b_fits, db), b_named)) rest

  expr_correct : IsCorrectParser (expr deeper inside) (TreeWithin D) tree_bytes
  unfolding expr
  expr_correct = tagged_correct (is_expr_tag deeper) (expr_arm deeper inside) (TreeWithin D)
      tree_bytes (constant (Int (pos 0))) ((tt, omega arith), zero_valid)
      expr_arms expr_again

  -- ---- the parts after each tag of a condition

  abbrev Conds : List Test → Type 0
  Conds l = (length l ≤ 65535) × AllByRecursion (TestWithin e) l

  conds_correct : IsCorrectParser (list_parser 2 (most_parts deeper 65535) inside.cond) Conds
      (list_bytes 2 test_bytes)
  conds_correct = parts_list_correct inside.cond (TestWithin e) test_bytes deeper
      (λ t. (deep t).cond) no_test 2 65535 (omega arith)

  abbrev Sides : (CmpOp × Tree) × Tree → Type 0
  Sides x = (Unit {0} × TreeWithin e x.0.1) × TreeWithin e x.1

  abbrev sides_bytes : (CmpOp × Tree) × Tree → List ℕ
  sides_bytes x = (sign_tag x.0.0 ∷ []) ++ tree_bytes x.0.1 ++ tree_bytes x.1

  sides_correct : LevelCorrect e inside → IsCorrectParser (pair (pair sign inside.expr) inside.expr)
      Sides sides_bytes
  sides_correct L = pair_correct (pair sign inside.expr) (λ x. Unit {0} × TreeWithin e x.1)
      (λ x. (sign_tag x.0 ∷ []) ++ tree_bytes x.1) inside.expr (TreeWithin e) tree_bytes
      (pair_correct sign (λ o. Unit {0}) (λ o. sign_tag o ∷ []) inside.expr (TreeWithin e)
      tree_bytes sign_correct L.expr) L.expr

  a_comparison : (x : (CmpOp × Tree) × Tree) → Sides x → TestWithin D (compared x.0.0 x.0.1 x.1)
      × (test_bytes (compared x.0.0 x.0.1 x.1) ≡ 2 ∷ sides_bytes x)
  a_comparison ((o, a), b) ((any, ((a_fits, a_low), a_named)), ((b_fits, b_low), b_named)) = (
    (((a_fits, b_fits), omega (arith, a_low, b_low)), (a_named, b_named)),
    refl,
  )

  an_and : (l : List Test) → Conds l → TestWithin D (all_of (tests_of l))
      × (test_bytes (all_of (tests_of l)) ≡ 3 ∷ list_bytes 2 test_bytes l)
  an_and l h =
      let r = all_tests e l h.1 in
      let n = tests_count l in (
        ((((let a = h.0 in omega (arith, a, n)), r.0.0), (let a = r.0.1 in omega (arith, a))), r.1),
        ap (λ m. 3 ∷ number 2 m ++ tests_bytes (tests_of l)) n
            ∙ ap (λ x. 3 ∷ number 2 (length l) ++ x) (tests_encoded l),
      )

  an_or : (l : List Test) → Conds l → TestWithin D (some_of (tests_of l))
      × (test_bytes (some_of (tests_of l)) ≡ 4 ∷ list_bytes 2 test_bytes l)
  an_or l h =
      let r = all_tests e l h.1 in
      let n = tests_count l in (
        ((((let a = h.0 in omega (arith, a, n)), r.0.0), (let a = r.0.1 in omega (arith, a))), r.1),
        ap (λ m. 4 ∷ number 2 m ++ tests_bytes (tests_of l)) n
            ∙ ap (λ x. 4 ∷ number 2 (length l) ++ x) (tests_encoded l),
      )

  a_not : (c : Test) → TestWithin e c → TestWithin D (fails c)
      × (test_bytes (fails c) ≡ 5 ∷ test_bytes c)
  a_not c h = (((h.0.0, (let a = h.0.1 in omega (arith, a))), h.1), refl)

  cond_arms : (x : ℕ) → is_cond_tag deeper x ≡ true
      → ArmCorrect (TestWithin D) test_bytes x (cond_arm deeper inside x)
  cond_arms zero t = λ ts. ((((tt, omega arith), tt), refl))
  cond_arms (suc zero) t = λ ts. ((((tt, omega arith), tt), refl))
  cond_arms (suc (suc zero)) t =
      parts_correct (pair (pair sign inside.expr) inside.expr) Sides sides_bytes
      (sides_correct (deep (compared_deeper deeper t))) comparison
      (TestWithin D) test_bytes 2 a_comparison
  cond_arms (suc (suc (suc zero))) t = parts_correct
      (list_parser 2 (most_parts deeper 65535) inside.cond) Conds (list_bytes 2 test_bytes)
      conds_correct
      (λ l. all_of (tests_of l)) (TestWithin D) test_bytes 3 an_and
  cond_arms (suc (suc (suc (suc zero)))) t = parts_correct
      (list_parser 2 (most_parts deeper 65535) inside.cond) Conds (list_bytes 2 test_bytes)
      conds_correct
      (λ l. some_of (tests_of l)) (TestWithin D) test_bytes 4 an_or
  cond_arms (suc (suc (suc (suc (suc zero))))) t =
      parts_correct inside.cond (TestWithin e) test_bytes (deep (fails_deeper deeper t)).cond fails
      (TestWithin D) test_bytes 5 a_not
  cond_arms (suc (suc (suc (suc (suc (suc n)))))) t = absurd (no_other_cond deeper n t)

  abbrev read_cond : List ℕ → Out Test
  read_cond ts = by_tag (is_cond_tag deeper) (cond_arm deeper inside) ts

  and_again : (l : List Test) (rest : List ℕ) → TestWithin D (all_of (tests_of l))
      → read_cond (test_bytes (all_of (tests_of l)) ++ rest) ≡ Parsed (all_of (tests_of l)) rest
  and_again l rest (((count, fits), low), named) =
      let n = tests_count l in
      let few : length l ≤ 65535 = omega (arith, count, n) in
      let all = of_tests e l fits (omega (arith, low)) named in
      ap (λ x. read_cond (x ++ rest)) (an_and l (few, all)).1
      ∙ tag_read (is_cond_tag deeper) (cond_arm deeper inside) 3 (list_bytes 2 test_bytes l ++ rest)
      (always_cond deeper).2
      ∙ parts_read (list_parser 2 (most_parts deeper 65535) inside.cond) Conds
      (list_bytes 2 test_bytes)
      conds_correct (λ l. all_of (tests_of l)) (TestWithin D) test_bytes 3 an_and l (few, all)
      rest

  or_again : (l : List Test) (rest : List ℕ) → TestWithin D (some_of (tests_of l))
      → read_cond (test_bytes (some_of (tests_of l)) ++ rest) ≡ Parsed (some_of (tests_of l)) rest
  or_again l rest (((count, fits), low), named) =
      let n = tests_count l in
      let few : length l ≤ 65535 = omega (arith, count, n) in
      let all = of_tests e l fits (omega (arith, low)) named in
      ap (λ x. read_cond (x ++ rest)) (an_or l (few, all)).1
      ∙ tag_read (is_cond_tag deeper) (cond_arm deeper inside) 4 (list_bytes 2 test_bytes l ++ rest)
      (always_cond deeper).3
      ∙ parts_read (list_parser 2 (most_parts deeper 65535) inside.cond) Conds
      (list_bytes 2 test_bytes)
      conds_correct (λ l. some_of (tests_of l)) (TestWithin D) test_bytes 4 an_or l (few, all)
      rest

  cond_again : (c : Test) → TestWithin D c → (rest : List ℕ)
      → read_cond (test_bytes c ++ rest) ≡ Parsed c rest
  cond_again never h rest = tag_read (is_cond_tag deeper) (cond_arm deeper inside) 0 rest
      (always_cond deeper).0
  cond_again always h rest = tag_read (is_cond_tag deeper) (cond_arm deeper inside) 1 rest
      (always_cond deeper).1
  cond_again (compared o a b) (((a_fits, b_fits), low), (a_named, b_named)) rest =
      let da : depth_of a ≤ e = omega (arith, low) in
      let db : depth_of b ≤ e = omega (arith, low) in
      let deeper_is = above_tree a da in
      tag_read (is_cond_tag deeper) (cond_arm deeper inside) 2 (sides_bytes ((o, a), b) ++ rest)
      (deeper_cond deeper deeper_is).0
      ∙ parts_read (pair (pair sign inside.expr) inside.expr) Sides sides_bytes
      (sides_correct (deep deeper_is)) comparison (TestWithin D) test_bytes
      2 a_comparison ((o, a), b)
      ((tt, ((a_fits, da), a_named)), ((b_fits, db), b_named)) rest
  cond_again (all_of cs) h rest = let P : Tests → Type 0 = λ x. TestWithin D (all_of x)
      → read_cond (test_bytes (all_of x) ++ rest) ≡ Parsed (all_of x) rest in
      subst P (tests_again cs) (and_again (tests_in cs) rest) h
  cond_again (some_of cs) h rest = let P : Tests → Type 0 = λ x. TestWithin D (some_of x)
      → read_cond (test_bytes (some_of x) ++ rest) ≡ Parsed (some_of x) rest in
      subst P (tests_again cs) (or_again (tests_in cs) rest) h
  cond_again (fails c) h rest =
      let b : test_depth c ≤ e = omega (arith, h.0.1) in
      let deeper_is = above_test c b in
      tag_read (is_cond_tag deeper) (cond_arm deeper inside) 5 (test_bytes c ++ rest)
      (deeper_cond deeper deeper_is).1
      ∙ parts_read inside.cond (TestWithin e) test_bytes (deep deeper_is).cond fails (TestWithin D)
      test_bytes 5 a_not c ((h.0.0, b), h.1) rest

  cond_correct : IsCorrectParser (cond deeper inside) (TestWithin D) test_bytes
  unfolding cond
  cond_correct = tagged_correct (is_cond_tag deeper) (cond_arm deeper inside) (TestWithin D)
      test_bytes always ((tt, omega arith), tt) cond_arms cond_again

  pub made_correct : LevelCorrect D (made deeper inside)
  made_correct = record { expr = expr_correct; cond = cond_correct }

-- ---- all levels

pub level_correct : (d : ℕ) → LevelCorrect (suc d) (level (suc d))
level_correct zero = made_correct (nat_lt 0 0) 0 nothing (λ t. true_false (sym t)) (λ f. refl)
level_correct (suc d) = made_correct (nat_lt 0 (suc d)) (suc d) (level (suc d))
    (λ t. level_correct d) (λ f. absurd (omega (arith, ltb-false 0 (suc d) f)))

pub expr_correct_outermost : IsCorrectParser outermost.expr IsTree tree_bytes
unfolding outermost
expr_correct_outermost = (level_correct 31).expr

pub cond_correct_outermost : IsCorrectParser outermost.cond IsTest test_bytes
unfolding outermost
cond_correct_outermost = (level_correct 31).cond
