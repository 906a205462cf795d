-- Trees put for the columns of atoms.
use Rattle.std.specs.Prelude.{◌≡◌, ℕ, List}
use Rattle.std.proofs.Common.{refl, ap, ◌∙◌}
use Rattle.std.proofs.Math.Path.{fun_ext}
use Rattle.prima_base.specs.declared.value.Value.{Value}
use Rattle.cond_expr.specs.declared.expr.Whose.{Whose}
use Rattle.cond_expr.specs.declared.expr.Whose.TheVariants.{Free, Alias, Atom}
use Rattle.cond_expr.specs.Trees.{Tree, Test, fill, fill_test, for_atoms}
use Rattle.cond_expr.specs.Values.{Cells, over, value, truth}
use Rattle.cond_expr.proofs.TreeLaws.{value_fill, truth_fill}

in_place : (at : ℕ → List ℕ → Value) (s : ℕ → List ℕ → Tree) (w : Whose) (n : List ℕ)
    → value (over at) (for_atoms s w n) ≡ over (λ i m. value (over at) (s i m)) w n
in_place at s Free n = refl
in_place at s (Alias a) n = refl
in_place at s (Atom i) n = refl

in_all_places : (at : ℕ → List ℕ → Value) (s : ℕ → List ℕ → Tree)
    → (λ (w : Whose) (n : List ℕ). value (over at) (for_atoms s w n))
    ≡ over (λ i m. value (over at) (s i m))
in_all_places at s = fun_ext (λ w. fun_ext (λ n. in_place at s w n))

pub value_for_atoms : (at : ℕ → List ℕ → Value) (s : ℕ → List ℕ → Tree) (t : Tree)
    → value (over at) (fill (for_atoms s) t) ≡ value (over (λ i n. value (over at) (s i n))) t
value_for_atoms at s t = value_fill (over at) (for_atoms s) t
    ∙ ap (λ (e : Cells). value e t) (in_all_places at s)

pub truth_for_atoms : (at : ℕ → List ℕ → Value) (s : ℕ → List ℕ → Tree) (c : Test)
    → truth (over at) (fill_test (for_atoms s) c) ≡ truth (over (λ i n. value (over at) (s i n))) c
truth_for_atoms at s c = truth_fill (over at) (for_atoms s) c
    ∙ ap (λ (e : Cells). truth e c) (in_all_places at s)
