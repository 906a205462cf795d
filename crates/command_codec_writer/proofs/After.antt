-- What is written part by part stands after what was there, and how many conditions a list has.
use Rattle.std.proofs.Common.{◌≡◌, ℕ, List, [], ◌∷◌, ◌++◌, map, length, refl, sym, ap, ◌∙◌, rules}
use Rattle.std.proofs.Common.{add-one}
use Rattle.std.proofs.lemmas.List.{append_assoc}
use Rattle.std.specs.declared.alloc.Global.{Global}
use Rattle.std.specs.declared.boxed.Box.{Box}
use Rattle.cond_expr.specs.declared.expr.Expr.{Expr}
use Rattle.cond_expr.specs.declared.expr.Cond.{Cond, the_lemmas}
use Rattle.cond_expr.specs.declared.expr.Cond.TheViews.{Not}
use Rattle.cond_expr.specs.Trees.{fails}
use Rattle.cond_expr.specs.Seen.{tree, test, trees_of, tests_of}
use Rattle.cond_expr.specs.Sizes.{count_of}
use Rattle.cond_expr.proofs.SeenLaws.{count_is_length}
use Rattle.command_codec_spec.specs.Encoding.{number, number_of, trees_bytes, tests_bytes}

pub one_more : (o p q a b : List ℕ) → p ≡ o ++ a → q ≡ p ++ b → q ≡ o ++ (a ++ b)
one_more o p q a b e f = f ∙ ap (λ x. x ++ b) e ∙ append_assoc o a b

pub number_is_length : (cs : List Cond) → number_of (tests_of (map test cs)) ≡ length cs
number_is_length [] = refl
number_is_length (c ∷ cs) = rw (number_is_length cs, add-one) refl

pub test_of_not : (p : Box Cond Global) → test (Not p) ≡ fails (test p.value)
test_of_not p = search (rules, the_lemmas)

-- the conditions of an AND or an OR, after its tag and their count
pub conds_written : (o p q : List ℕ) (tag k n : ℕ) (d items : List Cond) → k ≡ n → length d ≡ n
    → d ≡ items → p ≡ o ++ (tag ∷ number 2 k) → q ≡ p ++ tests_bytes (tests_of (map test d))
    → q ≡ o ++ (tag ∷ number 2 (number_of (tests_of (map test items)))
    ++ tests_bytes (tests_of (map test items)))
conds_written o p q tag k n d items e f g h i =
    let m : k ≡ number_of (tests_of (map test items)) = e ∙ sym f ∙ ap length g
    ∙ sym (number_is_length items) in
    one_more o p q (tag ∷ number 2 (number_of (tests_of (map test items))))
    (tests_bytes (tests_of (map test items))) (h ∙ ap (λ x. o ++ (tag ∷ number 2 x)) m)
    (i ∙ ap (λ x. p ++ tests_bytes (tests_of (map test x))) g)

-- the parts of a CONCAT, after its tag and their count
pub exprs_written : (o p q : List ℕ) (tag k n : ℕ) (d items : List Expr) → k ≡ n → length d ≡ n
    → d ≡ items → p ≡ o ++ (tag ∷ number 1 k) → q ≡ p ++ trees_bytes (trees_of (map tree d))
    → q ≡ o ++ (tag ∷ number 1 (count_of (trees_of (map tree items)))
    ++ trees_bytes (trees_of (map tree items)))
exprs_written o p q tag k n d items e f g h i =
    let m : k ≡ count_of (trees_of (map tree items)) = e ∙ sym f ∙ ap length g
    ∙ sym (count_is_length items) in
    one_more o p q (tag ∷ number 1 (count_of (trees_of (map tree items))))
    (trees_bytes (trees_of (map tree items))) (h ∙ ap (λ x. o ++ (tag ∷ number 1 x)) m)
    (i ∙ ap (λ x. p ++ trees_bytes (trees_of (map tree x))) g)

pub three_more : (o p q r s t a b d : List ℕ) → p ≡ o ++ t → q ≡ p ++ a → r ≡ q ++ b → s ≡ r ++ d
    → s ≡ o ++ (t ++ a ++ b ++ d)
three_more o p q r s t a b d e f g h = one_more o r s (t ++ a ++ b) d
    (one_more o q r (t ++ a) b (one_more o p q t a e f) g) h
