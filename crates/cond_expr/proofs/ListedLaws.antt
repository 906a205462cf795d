-- The first unknown reference of the rest of a list.
use Rattle.std.proofs.Common.{◌≡◌, ℕ, ◌+◌, ◌<◌, suc, List, ◌∷◌, map, length, drop, get_or}
use Rattle.std.proofs.Common.{drop-cons, add-one, sym, ap, ◌∙◌}
use Rattle.std.specs.Option.{option_or}
use Rattle.cond_expr.specs.declared.expr.Expr.{Expr}
use Rattle.cond_expr.specs.declared.expr.Cond.{Cond}
use Rattle.cond_expr.specs.Seen.{tree, test, trees_of, tests_of}
use Rattle.cond_expr.specs.Kinds.{Kinds}
use Rattle.cond_expr.specs.Faults.{references, trees_references, test_references, tests_references}
use Rattle.cond_expr.specs.Faults.{first_unknown}
use Rattle.cond_expr.proofs.FaultLaws.{unknown_append}

pub drop_one : {X : Type 0} (xs : List X) (i : ℕ) (x : X) → i < length xs → x ≡ get_or xs i x
    → drop i xs ≡ x ∷ drop (i + 1) xs
drop_one {X} xs i x h is =
    drop-cons xs i x h ∙ ap (λ (y : X). y ∷ drop (suc i) xs) (sym is)
    ∙ ap (λ (k : ℕ). x ∷ drop k xs) (sym (add-one i))

pub unknown_in_list : (of : Kinds) (es : List Expr) (i : ℕ) (e : Expr) → i < length es
    → e ≡ get_or es i e
    → first_unknown of (trees_references (trees_of (map tree (drop i es))))
    ≡ option_or (first_unknown of (references (tree e)))
    (first_unknown of (trees_references (trees_of (map tree (drop (i + 1) es)))))
unknown_in_list of es i e h is =
    ap (λ (l : List Expr). first_unknown of (trees_references (trees_of (map tree l))))
    (drop_one es i e h is)
    ∙ unknown_append of (references (tree e))
    (trees_references (trees_of (map tree (drop (i + 1) es))))

pub unknown_in_conds : (of : Kinds) (cs : List Cond) (i : ℕ) (c : Cond) → i < length cs
    → c ≡ get_or cs i c
    → first_unknown of (tests_references (tests_of (map test (drop i cs))))
    ≡ option_or (first_unknown of (test_references (test c)))
    (first_unknown of (tests_references (tests_of (map test (drop (i + 1) cs)))))
unknown_in_conds of cs i c h is =
    ap (λ (l : List Cond). first_unknown of (tests_references (tests_of (map test l))))
    (drop_one cs i c h is)
    ∙ unknown_append of (test_references (test c))
    (tests_references (tests_of (map test (drop (i + 1) cs))))
