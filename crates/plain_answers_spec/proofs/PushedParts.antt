-- What is pushed to an item is a part of the condition, said of the item.
use Rattle.std.proofs.Common.{◌≡◌, ℕ, zero, ◌+◌, Bool, true, false, cond, List, [], ◌∷◌, ◌++◌, map}
use Rattle.std.proofs.Common.{refl, sym, ap, subst, ◌∙◌, inl, inr, arith}
use Rattle.std.specs.Prelude.{⊤, ◌==◌, ◌&&◌, pos, if◌then◌else◌}
use Rattle.std.specs.List.{filter, list_all}
use Rattle.std.proofs.lemmas.Bool.{and_parts, eqb-true, eq-eqb, cond-true}
use Rattle.relations_spec.specs.Sets.{In}
use Rattle.relations_spec.proofs.SetLaws.{in_append, in_left, in_right, from_map, from_filter}
use Rattle.prima_base.specs.declared.value.Value.TheVariants.{Int}
use Rattle.cond_expr.specs.declared.expr.ColRef.{ColRef}
use Rattle.cond_expr.specs.declared.expr.Whose.{Whose}
use Rattle.cond_expr.specs.declared.expr.Whose.TheVariants.{Free, Alias, Atom}
use Rattle.cond_expr.specs.Trees.{Tree, column, constant, length_of, joined, choose, Trees}
use Rattle.cond_expr.specs.Trees.{no_trees, a_tree, Test, never, always, compared, all_of, some_of}
use Rattle.cond_expr.specs.Trees.{fails, Tests, no_tests, a_test, Filling, fill, fill_trees}
use Rattle.cond_expr.specs.Trees.{fill_test, fill_tests, Within, TreesWithin, TestWithin}
use Rattle.cond_expr.specs.Trees.{TestsWithin}
use Rattle.cond_expr.specs.Seen.{tests_of}
use Rattle.cond_expr.specs.Faults.{test_references}
use Rattle.cond_expr.specs.Parts as top
use Rattle.cond_expr.proofs.TreeLaws.{test_fill_twice}
use Rattle.plain_answers_spec.specs.Branches.{PlainBranch}
use Rattle.plain_answers_spec.specs.Naming.{is_to, is_atom, all_references}
use Rattle.cond_expr.specs.Parts.{parts_but_true as parts, all_parts_but_true as all_parts}
use Rattle.plain_answers_spec.specs.Reading.{Read, said_of, IsPartOf, AsMany, AreEnough}
use Rattle.plain_answers_spec.specs.Pushing.{are_own, own_parts, as_first, pushed_cond, pushed_from}
use Rattle.plain_answers_spec.specs.Pushing.{pushed_reads}
use Rattle.plain_answers_spec.proofs.NameLaws.{in_names_at}
use Rattle.cond_expr.proofs.ReferenceLaws.{Each, test_within_each}

-- ---- a filling that leaves each reference leaves the tree

module _ (s : Filling) where
  abbrev Stays : Whose → List ℕ → Type 0
  Stays w n = s w n ≡ column w n

  mutual
    stays : (t : Tree) → Within Stays t → fill s t ≡ t
    stays (column w n) h = h
    stays (constant v) h = refl
    stays (length_of t) h = ap length_of (stays t h)
    stays (joined ts) h = ap joined (trees_stay ts h)
    stays (choose c a b) h = ap (λ (x : Test). choose x (fill s a) (fill s b)) (test_stays c h.0)
        ∙ ap (λ (x : Tree). choose c x (fill s b)) (stays a h.1) ∙ ap (choose c a) (stays b h.2)

    trees_stay : (ts : Trees) → TreesWithin Stays ts → fill_trees s ts ≡ ts
    trees_stay no_trees h = refl
    trees_stay (a_tree t ts) h = ap (λ (x : Tree). a_tree x (fill_trees s ts)) (stays t h.0)
        ∙ ap (a_tree t) (trees_stay ts h.1)

    test_stays : (c : Test) → TestWithin Stays c → fill_test s c ≡ c
    test_stays never h = refl
    test_stays always h = refl
    test_stays (compared o a b) h = ap (λ (x : Tree). compared o x (fill s b)) (stays a h.0)
        ∙ ap (compared o a) (stays b h.1)
    test_stays (all_of cs) h = ap all_of (tests_stay cs h)
    test_stays (some_of cs) h = ap some_of (tests_stay cs h)
    test_stays (fails c) h = ap fails (test_stays c h)

    tests_stay : (cs : Tests) → TestsWithin Stays cs → fill_tests s cs ≡ cs
    tests_stay no_tests h = refl
    tests_stay (a_test c cs) h = ap (λ (x : Test). a_test x (fill_tests s cs)) (test_stays c h.0)
        ∙ ap (a_test c) (tests_stay cs h.1)

-- ---- said of atom 0 and back

abbrev there_and_back : ℕ → Filling
there_and_back i w n = fill (said_of i) (as_first i w n)

own_stays : (i : ℕ) (w : Whose) (n : List ℕ) → is_atom i w ≡ true
    → there_and_back i w n ≡ column w n
own_stays i Free n e = absurd (cc)
own_stays i (Alias a) n e = absurd (cc)
own_stays i (Atom j) n e =
    let q : i ≡ j = eqb-true i j e in
    ap (fill (said_of i)) (cond-true (j == i) (column (Atom 0) n) (column (Atom j) n)
    (eq-eqb j i (sym q)))
    ∙ ap (λ (k : ℕ). column (Atom k) n) q

each_own : (i : ℕ) (rs : List ColRef) → list_all (is_to i) rs ≡ true
    → Each (Stays (there_and_back i)) rs
each_own i [] h r m = absurd m
each_own i (x ∷ rs) h r (inl e) = subst (λ (y : ColRef).
    there_and_back i y.whose y.name ≡ column y.whose y.name) e
    (own_stays i x.whose x.name (and_parts (is_to i x) (list_all (is_to i) rs) h).0)
each_own i (x ∷ rs) h r (inr m) = each_own i rs (and_parts (is_to i x) (list_all (is_to i) rs) h).1
    r m

all_own : (i : ℕ) (rs : List ColRef) → are_own i rs ≡ true → list_all (is_to i) rs ≡ true
all_own i [] h = absurd (cc)
all_own i (r ∷ rs) h = h

back_again : (i : ℕ) (t : Test) → are_own i (test_references t) ≡ true
    → fill_test (said_of i) (fill_test (as_first i) t) ≡ t
back_again i t h =
    test_fill_twice (said_of i) (as_first i) t
    ∙ test_stays (there_and_back i) t (test_within_each (Stays (there_and_back i)) t
    (each_own i (test_references t) (all_own i (test_references t) h)))

-- ---- parts

-- it is no AND, and not TRUE
abbrev IsOne : Test → Type 0
IsOne never = ⊤
IsOne always = ⊥
IsOne (compared o a b) = ⊤
IsOne (all_of cs) = ⊥
IsOne (some_of cs) = ⊤
IsOne (fails c) = ⊤

mutual
  -- a top-level part that names a column is a part
  kept_part : (c t : Test) (i : ℕ) → are_own i (test_references t) ≡ true → In t (top.parts c)
      → In t (parts c) × IsOne t
  kept_part never t i h (inl e) = (inl e, subst IsOne e tt)
  kept_part never t i h (inr m) = absurd m
  kept_part always t i h (inl e) = absurd (let k : are_own i (test_references always) ≡ true =
      ap (λ (x : Test). are_own i (test_references x)) e ∙ h in cc)
  kept_part always t i h (inr m) = absurd m
  kept_part (compared o a b) t i h (inl e) = (inl e, subst IsOne e tt)
  kept_part (compared o a b) t i h (inr m) = absurd m
  kept_part (all_of cs) t i h m = kept_parts cs t i h m
  kept_part (some_of cs) t i h (inl e) = (inl e, subst IsOne e tt)
  kept_part (some_of cs) t i h (inr m) = absurd m
  kept_part (fails c) t i h (inl e) = (inl e, subst IsOne e tt)
  kept_part (fails c) t i h (inr m) = absurd m

  kept_parts : (cs : Tests) (t : Test) (i : ℕ) → are_own i (test_references t) ≡ true
      → In t (top.all_parts cs) → In t (all_parts cs) × IsOne t
  kept_parts no_tests t i h m = absurd m
  kept_parts (a_test c cs) t i h m = elim (in_append t (top.parts c) (top.all_parts cs) m) [
    | inl x ↦ let k = kept_part c t i h x in (in_left t (parts c) (all_parts cs) k.0, k.1)
    | inr x ↦ let k = kept_parts cs t i h x in (in_right t (parts c) (all_parts cs) k.0, k.1)
  ]

-- filled, it has itself as its one part
one_part : (s : Filling) (t u : Test) → IsOne t → In u (parts (fill_test s t)) → fill_test s t ≡ u
one_part s never u h (inl e) = e
one_part s never u h (inr m) = absurd m
one_part s always u h m = absurd h
one_part s (compared o a b) u h (inl e) = e
one_part s (compared o a b) u h (inr m) = absurd m
one_part s (all_of cs) u h m = absurd h
one_part s (some_of cs) u h (inl e) = e
one_part s (some_of cs) u h (inr m) = absurd m
one_part s (fails c) u h (inl e) = e
one_part s (fails c) u h (inr m) = absurd m

-- a part of an AND is one of some member
of_member : (ts : List Test) (u : Test) → In u (all_parts (tests_of ts)) → (t : Test) × In t ts
    × In u (parts t)
of_member [] u m = absurd m
of_member (t ∷ ts) u m = elim (in_append u (parts t) (all_parts (tests_of ts)) m) [
  | inl x ↦ (t, inl refl, x)
  | inr x ↦ let k = of_member ts u x in (k.0, inr k.1, k.2)
]

pushed_is_part : (i : ℕ) (c : Test) → IsPartOf i (pushed_cond i c) c
pushed_is_part i c u m =
    let member = of_member (map (fill_test (as_first i)) (own_parts i c)) u m in
    let filled = from_map (fill_test (as_first i)) member.0 (own_parts i c) member.1 in
    let own = from_filter (λ t. are_own i (test_references t)) filled.0 (top.parts c) filled.1 in
    let kept = kept_part c filled.0 i own.1 own.0 in
    let is : fill_test (as_first i) filled.0 ≡ u =
    one_part (as_first i) filled.0 u kept.1
    (subst (λ (x : Test). In u (parts x)) (sym filled.2) member.2) in
    subst (λ (x : Test). In x (parts c)) (sym (back_again i filled.0 own.1)
    ∙ ap (fill_test (said_of i)) is) kept.0

-- ---- all items

many_pushed : {X : Type 0} (k : ℕ) (from : List X) (outs : List Tree) (c : Test)
    → AsMany (pushed_from k from outs c) from
many_pushed k [] outs c = tt
many_pushed k (x ∷ from) outs c = many_pushed (k + 1) from outs c

pushed_enough : {X : Type 0} (k : ℕ) (from : List X) (outs : List Tree) (c : Test)
    → AreEnough k (pushed_from k from outs c) outs c
pushed_enough k [] outs c = tt
pushed_enough k (x ∷ from) outs c = (
  record {
    part = pushed_is_part k c;
    keeps = λ n m.
        in_names_at k (all_references outs c) n m;
  },
  pushed_enough (k + 1) from outs c,
)

pub is_pushed : (b : PlainBranch) → AsMany (pushed_reads b) b.from
    × AreEnough 0 (pushed_reads b) b.outs b.cond
is_pushed b = (many_pushed 0 b.from b.outs b.cond, pushed_enough 0 b.from b.outs b.cond)
