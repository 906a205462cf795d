-- An atom's own parts, part by part.
use Rattle.std.proofs.Common.{◌≡◌, ◌+◌, ◌<◌, ◌≤◌, ℕ, List, [], ◌∷◌, ◌++◌, map, length, get_or, drop}
use Rattle.std.proofs.Common.{ap, sym, ◌∙◌, append_assoc, append-nil}
use Rattle.std.specs.List.{filter}
use Rattle.std.proofs.lemmas.List.{map-append, drop_more, drop_all}
use Rattle.std.proofs.lemmas.List.Elements.{filter-append}
use Rattle.cond_expr.specs.declared.expr.Cond.{Cond}
use Rattle.cond_expr.specs.Seen.{test, tests_of}
use Rattle.cond_expr.specs.Parts.{parts, all_parts}
use Rattle.cond_expr.specs.Trees.{Test, fill_test}
use Rattle.cond_expr.specs.Faults.{test_references}
use Rattle.plain_answers_spec.specs.Pushing.{are_own, as_first}

abbrev pub own_filled : ℕ → List Test → List Test
own_filled i ts = map (fill_test (as_first i)) (filter (λ t. are_own i (test_references t)) ts)

-- those of some parts, and then those of others
pub joined : (i : ℕ) (xs ys : List Test) → own_filled i (xs ++ ys) ≡ own_filled i xs
    ++ own_filled i ys
joined i xs ys =
    ap (map (fill_test (as_first i))) (filter-append (λ t. are_own i (test_references t)) xs ys)
    ∙ map-append (fill_test (as_first i)) (filter (λ t. are_own i (test_references t)) xs)
    (filter (λ t. are_own i (test_references t)) ys)

-- one member more
pub more_members : (i : ℕ) (cs : List Cond) (k : ℕ) (c : Cond) (old new : List Test) → k < length cs
    → c ≡ get_or cs k c → new ≡ old ++ own_filled i (parts (test c))
    → new ++ own_filled i (all_parts (tests_of (map test (drop (k + 1) cs)))) ≡ old
    ++ own_filled i (all_parts (tests_of (map test (drop k cs))))
more_members i cs k c old new l is e =
    ap (λ (ts : List Test). ts ++ own_filled i (all_parts (tests_of (map test (drop (k + 1) cs)))))
    e
    ∙ append_assoc old (own_filled i (parts (test c)))
    (own_filled i (all_parts (tests_of (map test (drop (k + 1) cs)))))
    ∙ ap (λ (ts : List Test). old ++ ts)
    (sym (joined i (parts (test c)) (all_parts (tests_of (map test (drop (k + 1) cs)))))
    ∙ ap (λ (l : List Cond). own_filled i (all_parts (tests_of (map test l))))
    (sym (drop_more cs k c l ∙ ap (λ (x : Cond). x ∷ drop (k + 1) cs) (sym is))))

-- none are left
pub no_members : (i : ℕ) (cs : List Cond) (k : ℕ) (old : List Test) → length cs ≤ k
    → old ++ own_filled i (all_parts (tests_of (map test (drop k cs)))) ≡ old
no_members i cs k old l = ap (λ (rest : List Cond).
    old ++ own_filled i (all_parts (tests_of (map test rest)))) (drop_all k cs l) ∙ append-nil old
