-- A piece in which an expression stands for a column answers what the piece does where the column
-- has the value of the expression.
use Rattle.std.specs.Prelude.{◌≡◌, ℕ, Bool, List, [], ◌∷◌, map}
use Rattle.std.proofs.Common.{refl, ap, ◌∙◌}
use Rattle.std.proofs.Math.Path.{fun_ext}
use Rattle.std.specs.List.{filter}
use Rattle.relations_spec.specs.Sets.{set_of}
use Rattle.relations_spec.specs.Choices.{choices}
use Rattle.prima_base.specs.Columns.{Column}
use Rattle.prima_base.specs.Order.{row_cmp}
use Rattle.prima_base.specs.declared.value.Value.{Value}
use Rattle.schema_catalog.specs.Tables.{Tables}
use Rattle.schema_catalog.specs.Databases.{Database}
use Rattle.cond_expr.specs.Trees.{Tree, Filling, fill, fill_test, Within}
use Rattle.cond_expr.specs.Values.{value, truth}
use Rattle.smo_ops_spec.specs.OneRow.{Row}
use Rattle.plain_answers_spec.specs.Choosing.{chosen_cell, answered, choice_meets}
use Rattle.piece_ir_spec.specs.Pieces.{PlainPiece, out_trees, atom_columns, atom_rows}
use Rattle.piece_ir_spec.specs.Pieces.{piece_answers, means}
use Rattle.piece_ir_spec.specs.Unfolding.{filled_outs}
use Rattle.piece_ir.specs.Substituting.{IsOwn, put_column, substituted, cells_with_value}
use Rattle.piece_ir.specs.Substituting.{answers_with_value, means_with_value}
use Rattle.piece_ir.proofs.PutValues.{value_put, truth_put}

filled_trees : (f : Filling) (outs : List (List ℕ × Tree))
    → out_trees (filled_outs f outs) ≡ map (fill f) (out_trees outs)
filled_trees f [] = refl
filled_trees f (o ∷ outs) = ap (λ (ts : List Tree). fill f o.1 ∷ ts) (filled_trees f outs)

module _ (i : ℕ) (c : List ℕ) (e : Tree) (own : Within IsOwn e) (columns : List (List Column))
  where
    values : (ts : List Tree) (choice : List Row)
        → answered columns (map (fill (put_column i c e)) ts) choice
        ≡ map (value (cells_with_value columns choice i c e)) ts
    values [] choice = refl
    values (t ∷ ts) choice =
        ap (λ (v : Value). v ∷ answered columns (map (fill (put_column i c e)) ts) choice)
        (value_put (chosen_cell columns choice) i c e own t)
        ∙ ap (λ (vs : List Value). value (cells_with_value columns choice i c e) t ∷ vs)
        (values ts choice)

module _ (tables : Tables) (db : Database) (p : PlainPiece) (i : ℕ) (c : List ℕ) (e : Tree)
    (own : Within IsOwn e) where
  abbrev columns : List (List Column)
  columns = atom_columns tables p.atoms

  abbrev meets : List Row → Bool
  meets choice = truth (cells_with_value columns choice i c e) p.cond

  same_meets : choice_meets columns (fill_test (put_column i c e) p.cond) ≡ meets
  same_meets = fun_ext (λ choice. truth_put (chosen_cell columns choice) i c e own p.cond)

  answers : piece_answers tables db (substituted p i c e) ≡ answers_with_value tables db p i c e
  answers =
      ap (λ (ts : List Tree). map (answered columns ts)
      (filter (choice_meets columns (fill_test (put_column i c e) p.cond))
      (choices (atom_rows db p.atoms)))) (filled_trees (put_column i c e) p.outs)
      ∙ ap (λ (q : List Row → Bool).
      map (answered columns (map (fill (put_column i c e)) (out_trees p.outs)))
      (filter q (choices (atom_rows db p.atoms)))) same_meets
      ∙ ap (λ (g : List Row → Row). map g (filter meets (choices (atom_rows db p.atoms))))
      (fun_ext (λ choice. values i c e own columns (out_trees p.outs) choice))

  pub put_means : means tables db (substituted p i c e) ≡ means_with_value tables db p i c e
  put_means = ap (set_of row_cmp) answers
