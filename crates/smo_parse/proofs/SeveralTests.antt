-- The text of an AND or an OR of two parts or more.
use Rattle.std.proofs.Common.{◌≡◌, ℕ, ◌≤◌, Bool, true, List, [], ◌∷◌, ◌++◌, length, get_or, map}
use Rattle.std.proofs.Common.{drop, ap, ◌∙◌, arith}
use Rattle.std.proofs.lemmas.List.{append_assoc}
use Rattle.cond_expr.specs.declared.expr.Cond.{Cond}
use Rattle.cond_expr.specs.Seen.{test, tests_of}
use Rattle.smo_parse.specs.TreeTexts.{test_text, tests_text, more_tests_text}

pub of_several : (q : Bool) (none word : List ℕ) (parts : List Cond) (first : Cond)
    → 2 ≤ length parts → first ≡ get_or parts 0 first
    → test_text q true (test first) ++ more_tests_text q word (tests_of (map test (drop 1 parts)))
    ≡ tests_text q none word (tests_of (map test parts))
of_several q none word [] first l e = absurd (omega arith)
of_several q none word (c ∷ []) first l e = absurd (omega arith)
of_several q none word (c ∷ d ∷ parts) first l e =
    ap (λ (x : Cond). test_text q true (test x)
    ++ more_tests_text q word (tests_of (map test (d ∷ parts)))) e

-- the first, and then the others, after what was written before
pub written : (q : Bool) (none word before middle after : List ℕ) (parts others : List Cond)
    (first : Cond) → 2 ≤ length parts → first ≡ get_or parts 0 first → others ≡ drop 1 parts
    → middle ≡ before ++ test_text q true (test first)
    → after ≡ middle ++ more_tests_text q word (tests_of (map test others))
    → after ≡ before ++ tests_text q none word (tests_of (map test parts))
written q none word before middle after parts others first l e o m a =
    a
    ∙ ap (λ x. x ++ more_tests_text q word (tests_of (map test others))) m
    ∙ append_assoc before (test_text q true (test first)) _
    ∙ ap (λ (cs : List Cond). before ++ (test_text q true (test first)
    ++ more_tests_text q word (tests_of (map test cs)))) o
    ∙ ap (λ x. before ++ x) (of_several q none word parts first l e)
