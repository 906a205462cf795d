-- The first unknown reference of joined lists, and that what has a type has no unknown reference.
use Rattle.std.specs.Prelude.{◌≡◌, ℕ, List, [], ◌∷◌, ◌++◌, Bool, true, false, ◌&&◌, Option, Some}
use Rattle.std.specs.Prelude.{None, is_some, is_none, cond}
use Rattle.std.proofs.Common.{refl, ap, ◌∙◌}
use Rattle.std.specs.Option.{option_or}
use Rattle.prima_base.specs.declared.value.ColType.{ColType}
use Rattle.prima_base.specs.declared.value.ColType.TheVariants.{Int as INT, Text as TEXT}
use Rattle.cond_expr.specs.declared.expr.ColRef.{ColRef}
use Rattle.cond_expr.specs.Trees.{Tree, column, constant, length_of, joined, choose, Trees}
use Rattle.cond_expr.specs.Trees.{no_trees, a_tree, Test, never, always, compared, all_of, some_of}
use Rattle.cond_expr.specs.Trees.{fails, Tests, no_tests, a_test}
use Rattle.cond_expr.specs.Kinds.{Kinds, kind_of, all_text, is_typed, all_typed, is_text, same_kind}
use Rattle.cond_expr.specs.Faults.{references, trees_references, test_references, tests_references}
use Rattle.cond_expr.specs.Faults.{first_unknown}

append_step : (b : Bool) (n : List ℕ) (x y z : Option (List ℕ)) → z ≡ option_or x y
    → cond b (Some n) z ≡ option_or (cond b (Some n) x) y
append_step true n x y z h = refl
append_step false n x y z h = h

pub unknown_append : (of : Kinds) (a b : List ColRef)
    → first_unknown of (a ++ b) ≡ option_or (first_unknown of a) (first_unknown of b)
unknown_append of [] b = refl
unknown_append of (r ∷ a) b =
    append_step (is_none (of r.whose r.name)) r.name (first_unknown of a) (first_unknown of b)
    (first_unknown of (a ++ b)) (unknown_append of a b)

none_twice : (of : Kinds) (a b : List ColRef) → first_unknown of a ≡ None
    → first_unknown of b ≡ None → first_unknown of (a ++ b) ≡ None
none_twice of a b f g = unknown_append of a b
    ∙ ap (λ (o : Option (List ℕ)). option_or o (first_unknown of b)) f ∙ g

some_text : (o : Option ColType) → is_text o ≡ true → is_some o ≡ true
some_text None h = absurd (cc)
some_text (Some k) h = refl

some_same : (x y : Option ColType) → same_kind x y ≡ true → (is_some x ≡ true) × (is_some y ≡ true)
some_same None y h = absurd (cc)
some_same (Some k) None h = absurd (cc)
some_same (Some k) (Some l) h = (refl, refl)

some_cond : (b : Bool) (x : Option ColType) → is_some (cond b x None) ≡ true → (b ≡ true)
    × (is_some x ≡ true)
some_cond true x h = (refl, h)
some_cond false x h = absurd (cc)

both : (a b : Bool) → (a && b) ≡ true → (a ≡ true) × (b ≡ true)
both true b h = (refl, h)
both false b h = absurd (cc)

known_column : (o : Option ColType) (n : List ℕ) → is_some o ≡ true
    → cond (is_none o) (Some n) None ≡ None
known_column None n h = absurd (cc)
known_column (Some k) n h = refl

mutual
  pub known_tree : (of : Kinds) (t : Tree) → is_some (kind_of of t) ≡ true
      → first_unknown of (references t) ≡ None
  known_tree of (column w n) h = known_column (of w n) n h
  known_tree of (constant v) h = refl
  known_tree of (length_of t) h = known_tree of t
      (some_text (kind_of of t) (some_cond (is_text (kind_of of t)) (Some INT) h).0)
  known_tree of (joined ts) h = known_trees of ts (some_cond (all_text of ts) (Some TEXT) h).0
  known_tree of (choose c a b) h =
      let w = both (is_typed of c) (same_kind (kind_of of a) (kind_of of b))
      (some_cond (is_typed of c && same_kind (kind_of of a) (kind_of of b)) (kind_of of a)
      h).0 in
      let s = some_same (kind_of of a) (kind_of of b) w.1 in
      none_twice of (test_references c) (references a ++ references b) (known_test of c w.0)
      (none_twice of (references a) (references b) (known_tree of a s.0) (known_tree of b s.1))

  pub known_trees : (of : Kinds) (ts : Trees) → all_text of ts ≡ true
      → first_unknown of (trees_references ts) ≡ None
  known_trees of no_trees h = refl
  known_trees of (a_tree t ts) h =
      let w = both (is_text (kind_of of t)) (all_text of ts) h in
      none_twice of (references t) (trees_references ts)
      (known_tree of t (some_text (kind_of of t) w.0)) (known_trees of ts w.1)

  pub known_test : (of : Kinds) (c : Test) → is_typed of c ≡ true
      → first_unknown of (test_references c) ≡ None
  known_test of never h = refl
  known_test of always h = refl
  known_test of (compared o a b) h =
      let s = some_same (kind_of of a) (kind_of of b) h in
      none_twice of (references a) (references b) (known_tree of a s.0) (known_tree of b s.1)
  known_test of (all_of cs) h = known_tests of cs h
  known_test of (some_of cs) h = known_tests of cs h
  known_test of (fails c) h = known_test of c h

  pub known_tests : (of : Kinds) (cs : Tests) → all_typed of cs ≡ true
      → first_unknown of (tests_references cs) ≡ None
  known_tests of no_tests h = refl
  known_tests of (a_test c cs) h =
      let w = both (is_typed of c) (all_typed of cs) h in
      none_twice of (test_references c) (tests_references cs) (known_test of c w.0)
      (known_tests of cs w.1)

pub known_typed : (of : Kinds) (t : Tree) (k : ColType) → kind_of of t ≡ Some k
    → first_unknown of (references t) ≡ None
known_typed of t k h = known_tree of t (ap is_some h)
