-- A filling keeps kinds as it keeps values.
use Rattle.std.specs.Prelude.{◌≡◌, ℕ, List, [], ◌∷◌, Bool, true, false, ◌&&◌, Option, Some, None}
use Rattle.std.specs.Prelude.{cond, if◌then◌else◌}
use Rattle.std.proofs.Common.{refl, sym, ap, ◌∙◌}
use Rattle.cond_expr.specs.Trees.{Tree, column, constant, length_of, joined, choose, Trees}
use Rattle.cond_expr.specs.Trees.{no_trees, a_tree, Test, never, always, compared, all_of, some_of}
use Rattle.cond_expr.specs.Trees.{fails, Tests, no_tests, a_test, Filling, fill, fill_trees}
use Rattle.cond_expr.specs.Trees.{fill_test, fill_tests, Within, TreesWithin, TestWithin}
use Rattle.cond_expr.specs.Trees.{TestsWithin}
use Rattle.prima_base.specs.declared.value.Value.{Value}
use Rattle.prima_base.specs.declared.value.Value.TheVariants.{Int, Text}
use Rattle.prima_base.specs.declared.value.ColType.{ColType}
use Rattle.prima_base.specs.declared.value.ColType.TheVariants.{Int as INT, Text as TEXT}
use Rattle.prima_base.specs.declared.value.Val.{Val}
use Rattle.prima_base.specs.Order.{shown}
use Rattle.cond_expr.specs.declared.expr.Whose.{Whose}
use Rattle.cond_expr.specs.declared.expr.Column.{Column}
use Rattle.cond_expr.specs.Kinds.{Kinds, kind_of, all_text, is_typed, all_typed, is_text, same_type}
use Rattle.cond_expr.specs.Kinds.{same_kind, value_kind, kinds_of, Fits, AreOf}
use Rattle.cond_expr.specs.Rows.{flat, names}
use Rattle.cond_expr.specs.Values.{Cells, value, truth}

mutual
  pub kind_fill : (of : Kinds) (s : Filling) (t : Tree)
      → kind_of of (fill s t) ≡ kind_of (λ w n. kind_of of (s w n)) t
  kind_fill of s (column w n) = refl
  kind_fill of s (constant v) = refl
  kind_fill of s (length_of t) = rw (kind_fill of s t) refl
  kind_fill of s (joined ts) = rw (text_fill of s ts) refl
  kind_fill of s (choose c a b) = rw (typed_fill of s c, kind_fill of s a, kind_fill of s b) refl

  pub text_fill : (of : Kinds) (s : Filling) (ts : Trees)
      → all_text of (fill_trees s ts) ≡ all_text (λ w n. kind_of of (s w n)) ts
  text_fill of s no_trees = refl
  text_fill of s (a_tree t ts) = rw (kind_fill of s t, text_fill of s ts) refl

  pub typed_fill : (of : Kinds) (s : Filling) (c : Test)
      → is_typed of (fill_test s c) ≡ is_typed (λ w n. kind_of of (s w n)) c
  typed_fill of s never = refl
  typed_fill of s always = refl
  typed_fill of s (compared o a b) = rw (kind_fill of s a, kind_fill of s b) refl
  typed_fill of s (all_of cs) = all_typed_fill of s cs
  typed_fill of s (some_of cs) = all_typed_fill of s cs
  typed_fill of s (fails c) = typed_fill of s c

  pub all_typed_fill : (of : Kinds) (s : Filling) (cs : Tests)
      → all_typed of (fill_tests s cs) ≡ all_typed (λ w n. kind_of of (s w n)) cs
  all_typed_fill of s no_tests = refl
  all_typed_fill of s (a_test c cs) = rw (typed_fill of s c, all_typed_fill of s cs) refl

-- what has a type has a value of that type
int_of : (b : Bool) (k : ColType) → cond b (Some INT) None ≡ Some k → INT ≡ k
int_of true k h = (cc)
int_of false k h = absurd (cc)

text_of : (b : Bool) (k : ColType) → cond b (Some TEXT) None ≡ Some k → TEXT ≡ k
text_of true k h = (cc)
text_of false k h = absurd (cc)

same_types : (x y : ColType) → same_type x y ≡ true → x ≡ y
same_types INT INT h = refl
same_types INT TEXT h = absurd (cc)
same_types TEXT INT h = absurd (cc)
same_types TEXT TEXT h = refl

same_kinds : (x y : Option ColType) (k : ColType) → same_kind x y ≡ true → x ≡ Some k → y ≡ Some k
same_kinds None y k h e = absurd (cc)
same_kinds (Some a) None k h e = absurd (cc)
same_kinds (Some a) (Some b) k h e = (let s = same_types a b h in cc)

both_kinds : (b d : Bool) (x y : Option ColType) (k : ColType)
    → (d ≡ true → x ≡ Some k → y ≡ Some k) → cond (b && d) x None ≡ Some k → (x ≡ Some k)
    × (y ≡ Some k)
both_kinds true true x y k same h = (h, same refl h)
both_kinds true false x y k same h = absurd (cc)
both_kinds false d x y k same h = absurd (cc)

one_of : (b : Bool) (x y : Value) (k : ColType) → value_kind x ≡ k → value_kind y ≡ k
    → value_kind (if b then x else y) ≡ k
one_of true x y k f g = f
one_of false x y k f g = g

pub kept : (of : Kinds) (at : Cells) (t : Tree) (k : ColType) → Fits of at → kind_of of t ≡ Some k
    → value_kind (value at t) ≡ k
kept of at (column w n) k fits h = fits w n k h
kept of at (constant v) k fits h = (cc)
kept of at (length_of t) k fits h = int_of (is_text (kind_of of t)) k h
kept of at (joined ts) k fits h = text_of (all_text of ts) k h
kept of at (choose c a b) k fits h =
    let s = both_kinds (is_typed of c) (same_kind (kind_of of a) (kind_of of b)) (kind_of of a)
    (kind_of of b) k
    (same_kinds (kind_of of a) (kind_of of b) k) h in
    one_of (truth at c) (value at a) (value at b) k (kept of at a k fits s.0)
    (kept of at b k fits s.1)

first_fits : (b : Bool) (v x : Value) (c k : ColType) (o : Option ColType) → value_kind v ≡ c
    → (o ≡ Some k → value_kind x ≡ k)
    → cond b (Some c) o ≡ Some k → value_kind (cond b v x) ≡ k
first_fits true v x c k o f step h = (cc)
first_fits false v x c k o f step h = step h

pub row_fits : (cs : List Column) (vs : List Val) → AreOf cs vs → Fits (kinds_of cs) (flat cs vs)
row_fits [] vs a w n k h = absurd (cc)
row_fits (c ∷ cs) [] a w n k h = absurd a
row_fits (c ∷ cs) (v ∷ vs) a w n k h =
    first_fits (names w n c) (shown v) (flat cs vs w n) c.kind k (kinds_of cs w n) a.0
    (row_fits cs vs a.1 w n k) h
