-- The first lost column that references name, of joined references and of one.
use Rattle.std.proofs.Common.{◌≡◌, ◌<◌, ◌+◌, ℕ, List, [], ◌∷◌, ◌++◌, map, length, get_or, drop}
use Rattle.std.proofs.Common.{refl}
use Rattle.std.proofs.Common.{sym, ap, ◌∙◌}
use Rattle.std.specs.Prelude.{Option, Some, None}
use Rattle.std.specs.Option.{option_or}
use Rattle.cond_expr.specs.declared.expr.ColRef.{ColRef}
use Rattle.cond_expr.specs.declared.expr.Expr.{Expr}
use Rattle.cond_expr.specs.declared.expr.Cond.{Cond}
use Rattle.cond_expr.specs.Seen.{tree, test, trees_of, tests_of}
use Rattle.cond_expr.specs.Faults.{references, trees_references, test_references, tests_references}
use Rattle.smo_ops_spec.specs.Losses.{Loss}
use Rattle.smo_ops_spec.proofs.Firsts.{drop_at}
use Rattle.smo_ops_versions_spec.specs.LostNames.{first_named}

pub or_either : (o p q : Option Loss) → option_or o (option_or p q) ≡ option_or (option_or o p) q
or_either None p q = refl
or_either (Some l) p q = refl

pub named_both : (loss : List ℕ → Option Loss) (xs ys : List ColRef)
    → first_named loss (xs ++ ys) ≡ option_or (first_named loss xs) (first_named loss ys)
named_both loss [] ys = refl
named_both loss (x ∷ xs) ys = ap (option_or (loss x.name)) (named_both loss xs ys)
    ∙ or_either (loss x.name) (first_named loss xs) (first_named loss ys)

pub or_nothing : (o : Option Loss) → option_or o None ≡ o
or_nothing None = refl
or_nothing (Some l) = refl

pub named_one : (loss : List ℕ → Option Loss) (x : ColRef)
    → first_named loss (x ∷ []) ≡ loss x.name
named_one loss x = or_nothing (loss x.name)

pub both_lost : (f : List ℕ → Option Loss) (xs ys : List ColRef) (x y z : Option Loss)
    → x ≡ first_named f xs → y ≡ first_named f ys → z ≡ option_or x y
    → z ≡ first_named f (xs ++ ys)
both_lost f xs ys x y z p q r = r ∙ ap (λ (o : Option Loss). option_or o y) p
    ∙ ap (option_or (first_named f xs)) q ∙ sym (named_both f xs ys)

-- one turn of a loop over parts
turn : (f : List ℕ → Option Loss) (xs ys all : List ColRef) (x y z w : Option Loss)
    → all ≡ xs ++ ys → y ≡ first_named f xs → z ≡ option_or x y
    → option_or x (first_named f all) ≡ w → option_or z (first_named f ys) ≡ w
turn f xs ys all x y z w e p r h =
    ap (λ (o : Option Loss). option_or o (first_named f ys)) r
    ∙ sym (or_either x y (first_named f ys))
    ∙ ap (option_or x) (ap (λ (o : Option Loss). option_or o (first_named f ys)) p
    ∙ sym (named_both f xs ys) ∙ ap (first_named f) (sym e)) ∙ h

pub next_part : (f : List ℕ → Option Loss) (es : List Expr) (i : ℕ) (e : Expr)
    (x y z w : Option Loss) → i < length es → e ≡ get_or es i e
    → y ≡ first_named f (references (tree e)) → z ≡ option_or x y
    → option_or x (first_named f (trees_references (trees_of (map tree (drop i es))))) ≡ w
    → option_or z (first_named f (trees_references (trees_of (map tree (drop (i + 1) es))))) ≡ w
next_part f es i e x y z w l is p r h = turn f (references (tree e))
    (trees_references (trees_of (map tree (drop (i + 1) es))))
    (trees_references (trees_of (map tree (drop i es)))) x y z w
    (ap (λ (xs : List Expr). trees_references (trees_of (map tree xs))) (drop_at es i e l is)) p r h

pub next_cond : (f : List ℕ → Option Loss) (cs : List Cond) (i : ℕ) (c : Cond)
    (x y z w : Option Loss) → i < length cs → c ≡ get_or cs i c
    → y ≡ first_named f (test_references (test c)) → z ≡ option_or x y
    → option_or x (first_named f (tests_references (tests_of (map test (drop i cs))))) ≡ w
    → option_or z (first_named f (tests_references (tests_of (map test (drop (i + 1) cs))))) ≡ w
next_cond f cs i c x y z w l is p r h = turn f (test_references (test c))
    (tests_references (tests_of (map test (drop (i + 1) cs))))
    (tests_references (tests_of (map test (drop i cs)))) x y z w
    (ap (λ (xs : List Cond). tests_references (tests_of (map test xs))) (drop_at cs i c l is)) p r h
