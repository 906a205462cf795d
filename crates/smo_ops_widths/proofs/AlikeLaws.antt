-- What operators make of widths whose numbers are in a relation, which sums, products and greater
-- ones keep, is so too: as of numbers that are one where they stop.
use Rattle.std.proofs.Common.{◌≡◌, ◌+◌, ◌*◌, ℕ, Bool, true, false, List, [], ◌∷◌, max, refl}
use Rattle.std.proofs.Common.{◌∙◌}
use Rattle.std.specs.Prelude.{if◌then◌else◌, Option, Some, None}
use Rattle.prima_base.specs.Columns.{Column, names_of}
use Rattle.cond_expr.specs.Trees.{Tree, Trees, Test, Tests, column, constant, length_of, joined}
use Rattle.cond_expr.specs.Trees.{choose, no_trees, a_tree, never, always, compared, all_of}
use Rattle.cond_expr.specs.Trees.{some_of, fails, no_tests, a_test}
use Rattle.smo_ops_spec.specs.OneRow.{same}
use Rattle.smo_ops_spec.specs.Preconditions.{among}
use Rattle.smo_ops_widths.specs.Widths.{Width, Sizes, sized, trees_sized, test_sized}
use Rattle.smo_ops_widths.specs.Widths.{tests_sized, with_size, sized_as}
use Rattle.smo_ops_widths.specs.Widths.{merged_width, part_width, joined_width, equalities}
use Rattle.smo_ops_widths.specs.Widths.{size_of_both, sum_of_sizes, measure}
use Rattle.smo_ops_widths.specs.Widths.{measure_of}
use Rattle.smo_ops_widths.specs.Counted.{stopped, AreBy, SameStopped, AreAlike, MayBeAlike}
use Rattle.smo_ops_widths.proofs.StoppedLaws.{add_stopped, max_stopped, mul_stopped}

-- a relation of numbers that sums, products and greater ones keep
pub record IsKept (R : ℕ → ℕ → Type 0) : Type 0 where
  pub same : (a : ℕ) → R a a
  pub add : (a b x y : ℕ) → R a x → R b y → R (a + b) (x + y)
  pub mul : (a b x y : ℕ) → R a x → R b y → R (a * b) (x * y)
  pub greater : (a b x y : ℕ) → R a x → R b y → R (max a b) (max x y)

pub same_stopped : IsKept SameStopped
same_stopped = record {
  same = λ a. refl;
  add = add_stopped;
  mul = mul_stopped;
  greater = max_stopped;
}

pub are_alike : (a : Width) → AreAlike a a
are_alike a = record { pieces = refl; atoms = refl; cond = refl; size = λ n. refl }

pub alike_on : (a b c : Width) → AreAlike a b → AreAlike b c → AreAlike a c
alike_on a b c p q = record {
  pieces = p.pieces ∙ q.pieces;
  atoms = p.atoms ∙ q.atoms;
  cond = p.cond ∙ q.cond;
  size = λ n. p.size n ∙ q.size n;
}

module _ (R : ℕ → ℕ → Type 0) (kept : IsKept R) where
  if_so : (o : Bool) (a b x y : ℕ) → R a x → R b y → R (if o then a else b) (if o then x else y)
  if_so true a b x y p q = p
  if_so false a b x y p q = q

  -- ---- trees

  module _ (f g : Sizes) (h : (n : List ℕ) → R (f n) (g n)) where
    one_more : (a b : ℕ) → R a b → R (a + 1) (b + 1)
    one_more a b p = kept.add a 1 b 1 p (kept.same 1)

    mutual
      pub sized_so : (t : Tree) → R (sized f t) (sized g t)
      sized_so (column w n) = h n
      sized_so (constant v) = kept.same 1
      sized_so (length_of t) = one_more (sized f t) (sized g t) (sized_so t)
      sized_so (joined ts) = one_more (trees_sized f ts) (trees_sized g ts) (trees_so ts)
      sized_so (choose c a b) = one_more (test_sized f c + sized f a + sized f b)
          (test_sized g c + sized g a + sized g b)
          (kept.add (test_sized f c + sized f a) (sized f b) (test_sized g c + sized g a)
          (sized g b) (kept.add (test_sized f c) (sized f a) (test_sized g c) (sized g a)
          (test_so c) (sized_so a)) (sized_so b))

      trees_so : (ts : Trees) → R (trees_sized f ts) (trees_sized g ts)
      trees_so no_trees = kept.same 0
      trees_so (a_tree t ts) = kept.add (sized f t) (trees_sized f ts) (sized g t)
          (trees_sized g ts) (sized_so t) (trees_so ts)

      pub test_so : (c : Test) → R (test_sized f c) (test_sized g c)
      test_so never = kept.same 1
      test_so always = kept.same 1
      test_so (compared o a b) = one_more (sized f a + sized f b) (sized g a + sized g b)
          (kept.add (sized f a) (sized f b) (sized g a) (sized g b) (sized_so a) (sized_so b))
      test_so (all_of cs) = one_more (tests_sized f cs) (tests_sized g cs) (tests_so cs)
      test_so (some_of cs) = one_more (tests_sized f cs) (tests_sized g cs) (tests_so cs)
      test_so (fails c) = one_more (test_sized f c) (test_sized g c) (test_so c)

      tests_so : (cs : Tests) → R (tests_sized f cs) (tests_sized g cs)
      tests_so no_tests = kept.same 0
      tests_so (a_test c cs) = kept.add (test_sized f c) (tests_sized f cs) (test_sized g c)
          (tests_sized g cs) (test_so c) (tests_so cs)

    pub sum_so : (columns : List Column) → R (sum_of_sizes columns f) (sum_of_sizes columns g)
    sum_so [] = kept.same 0
    sum_so (c ∷ columns) = kept.add (f c.0) (sum_of_sizes columns f) (g c.0)
        (sum_of_sizes columns g) (h c.0) (sum_so columns)

  -- ---- of one width

  module _ (a b : Width) (h : AreBy R a b) where
    pub part_so : (more : ℕ) (c : Test) → AreBy R (part_width more c a) (part_width more c b)
    part_so more c = record {
      pieces = h.pieces;
      atoms = h.atoms;
      cond =
          kept.add (a.cond + more) (test_sized a.size c) (b.cond + more) (test_sized b.size c)
          (kept.add a.cond more b.cond more h.cond (kept.same more))
          (test_so a.size b.size h.size c);
      size = h.size;
    }

    pub with_size_so : (n : List ℕ) (k l : ℕ) → R k l
        → AreBy R (with_size (sized_as n k a.size) a) (with_size (sized_as n l b.size) b)
    with_size_so n k l e = record {
      pieces = h.pieces;
      atoms = h.atoms;
      cond = h.cond;
      size = λ m. if_so (same m n) k (a.size m) l (b.size m) e (h.size m);
    }

    pub measure_so : (columns : List Column) → R (measure columns a) (measure columns b)
    measure_so columns =
        kept.mul a.pieces (a.atoms + a.cond + sum_of_sizes columns a.size)
        b.pieces (b.atoms + b.cond + sum_of_sizes columns b.size) h.pieces
        (kept.add (a.atoms + a.cond) (sum_of_sizes columns a.size) (b.atoms + b.cond)
        (sum_of_sizes columns b.size) (kept.add a.atoms a.cond b.atoms b.cond h.atoms h.cond)
        (sum_so a.size b.size h.size columns))

  -- ---- of two

  module _ (a b x y : Width) (p : AreBy R a x) (q : AreBy R b y) where
    pub merged_so : AreBy R (merged_width a b) (merged_width x y)
    merged_so = record {
      pieces = kept.add a.pieces b.pieces x.pieces y.pieces p.pieces q.pieces;
      atoms = kept.greater a.atoms b.atoms x.atoms y.atoms p.atoms q.atoms;
      cond = kept.greater a.cond b.cond x.cond y.cond p.cond q.cond;
      size = λ n. kept.greater (a.size n) (b.size n) (x.size n) (y.size n) (p.size n) (q.size n);
    }

    equal_so : (cs ds : List Column) → R (equalities cs ds a.size b.size)
        (equalities cs ds x.size y.size)
    equal_so [] ds = kept.same 0
    equal_so (c ∷ cs) ds = kept.add
        (if among c.0 (names_of ds) then 1 + a.size c.0 + b.size c.0 else 0)
        (equalities cs ds a.size b.size)
        (if among c.0 (names_of ds) then 1 + x.size c.0 + y.size c.0 else 0)
        (equalities cs ds x.size y.size)
        (if_so (among c.0 (names_of ds)) (1 + a.size c.0 + b.size c.0) 0
        (1 + x.size c.0 + y.size c.0) 0
        (kept.add (1 + a.size c.0) (b.size c.0) (1 + x.size c.0) (y.size c.0)
        (kept.add 1 (a.size c.0) 1 (x.size c.0) (kept.same 1) (p.size c.0)) (q.size c.0))
        (kept.same 0)) (equal_so cs ds)

    both_so : (cs : List Column) (n : List ℕ)
        → R (size_of_both cs a.size b.size n) (size_of_both cs x.size y.size n)
    both_so cs n = if_so (among n (names_of cs)) (a.size n) (b.size n) (x.size n) (y.size n)
        (p.size n) (q.size n)

    pub joined_so : (cs ds : List Column) (c : Test)
        → AreBy R (joined_width cs ds c a b) (joined_width cs ds c x y)
    joined_so cs ds c = record {
      pieces = kept.mul a.pieces b.pieces x.pieces y.pieces p.pieces q.pieces;
      atoms = kept.add a.atoms b.atoms x.atoms y.atoms p.atoms q.atoms;
      cond =
          kept.add (a.cond + b.cond + 1 + equalities cs ds a.size b.size)
          (test_sized (size_of_both cs a.size b.size) c)
          (x.cond + y.cond + 1 + equalities cs ds x.size y.size)
          (test_sized (size_of_both cs x.size y.size) c)
          (kept.add (a.cond + b.cond + 1) (equalities cs ds a.size b.size) (x.cond + y.cond + 1)
          (equalities cs ds x.size y.size) (kept.add (a.cond + b.cond) 1 (x.cond + y.cond) 1
          (kept.add a.cond b.cond x.cond y.cond p.cond q.cond) (kept.same 1)) (equal_so cs ds))
          (test_so (size_of_both cs a.size b.size) (size_of_both cs x.size y.size)
          (both_so cs) c);
      size = both_so cs;
    }

-- ---- of what may be there

pub measures_same : (a b : Option Width) → MayBeAlike a b → (columns : List Column)
    → stopped (measure_of columns a) ≡ stopped (measure_of columns b)
measures_same None None h columns = refl
measures_same None (Some b) h columns = absurd h
measures_same (Some a) None h columns = absurd h
measures_same (Some a) (Some b) h columns = measure_so SameStopped same_stopped a b h columns
