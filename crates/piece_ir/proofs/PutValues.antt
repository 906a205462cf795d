-- To substitute an expression for a column is to put its value there.
use Rattle.std.specs.Prelude.{◌≡◌, ℕ, ◌==◌, ◌&&◌, List, Bool, true, false, if◌then◌else◌}
use Rattle.std.proofs.Common.{refl, sym, ap, subst, ◌∙◌}
use Rattle.std.proofs.Math.Path.{fun_ext}
use Rattle.prima_base.specs.declared.value.Value.{Value}
use Rattle.cond_expr.specs.declared.expr.Whose.{Whose}
use Rattle.cond_expr.specs.declared.expr.Whose.TheVariants.{Atom}
use Rattle.cond_expr.specs.Trees.{Tree, Test, column, fill, fill_test, Within}
use Rattle.cond_expr.specs.Values.{over, value, truth}
use Rattle.cond_expr.proofs.TreeLaws.{value_fill, value_like}
use Rattle.cond_expr.proofs.AtomLaws.{value_for_atoms, truth_for_atoms}
use Rattle.smo_ops_spec.specs.OneRow.{same}
use Rattle.piece_ir.specs.Substituting.{IsOwn, to_atom, put_column, with_value}

module _ (at : ℕ → List ℕ → Value) (i : ℕ) (c : List ℕ) (e : Tree) (own : Within IsOwn e) where
  own_like : (w : Whose) (n : List ℕ) → IsOwn w n
      → value (over at) (to_atom i w n) ≡ over (λ k m. at i m) w n
  own_like w n h = subst (λ (x : Whose). at i n ≡ over (λ k m. at i m) x n) (sym h) refl

  said : value (over at) (fill (to_atom i) e) ≡ value (over (λ k m. at i m)) e
  said = value_fill (over at) (to_atom i) e ∙ value_like IsOwn
      (λ w n. value (over at) (to_atom i w n)) (over (λ k m. at i m)) own_like e own

  abbrev put : ℕ → List ℕ → Tree
  put j n = if (j == i) && same n c then fill (to_atom i) e else column (Atom j) n

  put_is : (j : ℕ) (n : List ℕ) → value (over at) (put j n) ≡ with_value at i c e j n
  put_is j n = step ((j == i) && same n c)
    where
      step : (b : Bool) → value (over at) (if b then fill (to_atom i) e else column (Atom j) n)
          ≡ (if b then value (over (λ k m. at i m)) e else at j n)
      step true = said
      step false = refl

  put_all : (λ (j : ℕ) (n : List ℕ). value (over at) (put j n)) ≡ with_value at i c e
  put_all = fun_ext (λ j. fun_ext (λ n. put_is j n))

  pub value_put : (t : Tree) → value (over at) (fill (put_column i c e) t)
      ≡ value (over (with_value at i c e)) t
  value_put t = value_for_atoms at put t ∙ ap (λ (f : ℕ → List ℕ → Value). value (over f) t) put_all

  pub truth_put : (d : Test) → truth (over at) (fill_test (put_column i c e) d)
      ≡ truth (over (with_value at i c e)) d
  truth_put d = truth_for_atoms at put d ∙ ap (λ (f : ℕ → List ℕ → Value). truth (over f) d) put_all
