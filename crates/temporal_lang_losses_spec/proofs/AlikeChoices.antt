-- In databases that agree up to losses each choice of rows of tables that are not lost has another
-- one that has the same in each column that is not lost.
use Rattle.std.proofs.Common.{◌≡◌, ℕ, zero, suc, List, [], ◌∷◌, refl, inl, inr}
use Rattle.std.specs.Prelude.{Option, None}
use Rattle.std.specs.FinMap.{get}
use Rattle.relations_spec.specs.Sets.{In}
use Rattle.relations_spec.specs.Choices.{Chosen}
use Rattle.prima_base.specs.declared.value.Value.{Value}
use Rattle.schema_catalog.specs.Tables.{Tables}
use Rattle.schema_catalog.specs.Databases.{Database}
use Rattle.smo_ops_spec.specs.OneRow.{Row}
use Rattle.smo_ops_spec.specs.Effects.{columns_of, rows_under}
use Rattle.smo_ops_spec.specs.Losses.{Loss}
use Rattle.plain_answers_spec.specs.Choosing.{chosen_cell}
use Rattle.piece_ir_spec.specs.Pieces.{atom_columns, atom_rows}
use Rattle.smo_ops_versions_spec.specs.ColumnLosses.{Losses, table_loss, column_loss, lost_columns}
use Rattle.temporal_lang_losses_spec.specs.Agreeing.{AgreeUpTo}
use Rattle.temporal_lang_losses_spec.proofs.KeptRows.{AlikeRows, Follow, kept_follow}

-- the loss of a column of an atom; none where there is no such atom
abbrev pub atom_loss : Losses → List (List ℕ) → ℕ → List ℕ → Option Loss
atom_loss losses [] i n = None
atom_loss losses (a ∷ atoms) zero n = column_loss losses a n
atom_loss losses (a ∷ atoms) (suc i) n = atom_loss losses atoms i n

-- the same in each column of the atoms that is not lost
abbrev pub Alike : Losses → List (List ℕ) → (ℕ → List ℕ → Value) → (ℕ → List ℕ → Value) → Type 0
Alike losses atoms f g = (i : ℕ) (n : List ℕ) → atom_loss losses atoms i n ≡ None → f i n ≡ g i n

-- none of them is lost itself
abbrev pub NoneLost : Losses → List (List ℕ) → Type 0
NoneLost losses atoms = (n : List ℕ) → In n atoms → table_loss losses n ≡ None

module _ (tables : Tables) (losses : Losses) (a b : Database)
    (agree : AgreeUpTo tables losses a b) where
  pub rows_follow : (n : List ℕ) → table_loss losses n ≡ None
      → Follow (lost_columns (get losses n)) (columns_of tables n) (rows_under (get a n))
      (rows_under (get b n))
  rows_follow n e = kept_follow (lost_columns (get losses n)) (columns_of tables n)
      (rows_under (get a n)) (rows_under (get b n)) ((agree n).rows e)

  -- the other choice
  pub alike_choice : (atoms : List (List ℕ)) → NoneLost losses atoms → (choice : List Row)
      → Chosen choice (atom_rows a atoms)
      → (other : List Row) × Chosen other (atom_rows b atoms)
      × Alike losses atoms (chosen_cell (atom_columns tables atoms) choice)
      (chosen_cell (atom_columns tables atoms) other)
  alike_choice [] h [] c = ([], tt, λ i n e. refl)
  alike_choice [] h (row ∷ choice) c = absurd c
  alike_choice (x ∷ atoms) h [] c = absurd c
  alike_choice (x ∷ atoms) h (row ∷ choice) c =
      both (rows_follow x (h x (inl refl)) row c.0)
      (alike_choice atoms (λ n m. h n (inr m)) choice c.1)
    where
      both : (other : Row) × In other (rows_under (get b x))
          × AlikeRows (lost_columns (get losses x)) (columns_of tables x) row other
          → (others : List Row) × Chosen others (atom_rows b atoms)
          × Alike losses atoms (chosen_cell (atom_columns tables atoms) choice)
          (chosen_cell (atom_columns tables atoms) others)
          → (other : List Row) × Chosen other (atom_rows b (x ∷ atoms))
          × Alike losses (x ∷ atoms) (chosen_cell (atom_columns tables (x ∷ atoms)) (row ∷ choice))
          (chosen_cell (atom_columns tables (x ∷ atoms)) other)
      both (other, m, l) (others, ms, ls) = (other ∷ others, (m, ms), at)
        where
          at : Alike losses (x ∷ atoms)
              (chosen_cell (atom_columns tables (x ∷ atoms)) (row ∷ choice))
              (chosen_cell (atom_columns tables (x ∷ atoms)) (other ∷ others))
          at zero n e = l n e
          at (suc i) n e = ls i n e
