-- What a choice of rows of a valid database has in each column: valid values of the columns' types.
use Rattle.std.proofs.Common.{◌≡◌, ℕ, zero, suc, true, false, cond, List, [], ◌∷◌, refl, sym, ap}
use Rattle.std.proofs.Common.{◌∙◌, inl, inr, arith}
use Rattle.std.specs.Prelude.{pos, Option, Some, None, is_some, ⊤}
use Rattle.std.specs.Option.{unwrap_or}
use Rattle.std.specs.FinMap.{get}
use Rattle.std.proofs.lemmas.Int.{ints}
use Rattle.relations_spec.specs.Sets.{In}
use Rattle.relations_spec.specs.Choices.{Chosen}
use Rattle.prima_base.specs.declared.value.Value.TheVariants.{Int}
use Rattle.prima_base.specs.declared.value.ColType.{ColType}
use Rattle.prima_base.specs.Columns.{Column, IsValid, IsRow}
use Rattle.prima_base.specs.Order.{same}
use Rattle.schema_catalog.specs.Tables.{Tables}
use Rattle.schema_catalog.specs.Databases.{cell, DatabaseEntry, Rows, Lost, Database, IsEntry}
use Rattle.cond_expr.specs.declared.expr.Whose.{Whose}
use Rattle.cond_expr.specs.declared.expr.Whose.TheVariants.{Free, Alias, Atom}
use Rattle.cond_expr.specs.Kinds.{Fits, value_kind}
use Rattle.smo_ops_spec.specs.OneRow.{Row}
use Rattle.smo_ops_spec.specs.Effects.{rows_under}
use Rattle.smo_ops_spec.specs.ValidValues.{IsValidDatabase, EntryHolds, AreValues}
use Rattle.smo_ops_spec.proofs.NameLaws.{type_of, cell_typed}
use Rattle.plain_answers_spec.specs.Choosing.{chosen_cell, chosen_cells}
use Rattle.piece_ir_spec.specs.Pieces.{atom_columns, atom_rows}
use Rattle.piece_ir_spec.specs.Typed.{atom_kinds}
use Rattle.piece_ir_spec.proofs.AtomKinds.{atom_kind, kinds_at, known_atom}

no_number : IsValid (Int (pos 0))
no_number = (omega (arith, ints), omega (arith, ints))

cell_valid : (columns : List Column) (row : Row) (n : List ℕ) → AreValues row
    → IsValid (cell columns row n)
cell_valid [] row n h = no_number
cell_valid (c ∷ columns) [] n h = no_number
cell_valid (c ∷ columns) (v ∷ row) n h =
    elim (same c.0 n) as (λ b. IsValid (cond b v (cell columns row n))) [
      | true ↦ h v (inl refl)
      | false ↦ cell_valid columns row n (λ w m. h w (inr m))
    ]

row_fits : (x : Option (List Column)) (e : Option DatabaseEntry) → IsEntry x e → EntryHolds e
    → (row : Row) → In row (rows_under e) → IsRow (unwrap_or x []) row × AreValues row
row_fits None None i h row m = absurd m
row_fits None (Some e) i h row m = absurd i
row_fits (Some cs) None i h row m = absurd i
row_fits (Some cs) (Some (Rows rows)) i h row m = (i.fitting row m, h row m)
row_fits (Some cs) (Some (Lost k j)) i h row m = absurd i

abbrev IsOfAtom : Whose → Type 0
IsOfAtom Free = ⊥
IsOfAtom (Alias a) = ⊥
IsOfAtom (Atom i) = ⊤

module _ (tables : Tables) (db : Database) (d : IsValidDatabase tables db) where
  only_atoms : (atoms : List (List ℕ)) (w : Whose) (n : List ℕ) (k : ColType)
      → atom_kinds tables atoms w n ≡ Some k → IsOfAtom w
  only_atoms atoms w n k e = known_atom (atom_columns tables atoms) IsOfAtom w n (ap is_some e)
      (λ i q. tt)

  chosen_typed : (atoms : List (List ℕ)) (choice : List Row) → Chosen choice (atom_rows db atoms)
      → (i : ℕ) (n : List ℕ) (k : ColType)
      → atom_kind (atom_columns tables atoms) i n ≡ Some k
      → value_kind (chosen_cell (atom_columns tables atoms) choice i n) ≡ k
  chosen_typed [] choice h i n k e = absurd (cc)
  chosen_typed (a ∷ atoms) [] h i n k e = absurd h
  chosen_typed (a ∷ atoms) (row ∷ choice) h zero n k e =
      let f = row_fits (get tables a) (get db a) (d.database a) (d.values a) row h.0 in
      type_of (cell (unwrap_or (get tables a) []) row n) k
      (cell_typed (unwrap_or (get tables a) []) row n k f.0 e)
  chosen_typed (a ∷ atoms) (row ∷ choice) h (suc i) n k e = chosen_typed atoms choice h.1 i n k e

  chosen_valid : (atoms : List (List ℕ)) (choice : List Row) → Chosen choice (atom_rows db atoms)
      → (i : ℕ) (n : List ℕ)
      → IsValid (chosen_cell (atom_columns tables atoms) choice i n)
  chosen_valid [] choice h i n = no_number
  chosen_valid (a ∷ atoms) [] h i n = absurd h
  chosen_valid (a ∷ atoms) (row ∷ choice) h zero n =
      cell_valid (unwrap_or (get tables a) []) row n
      (row_fits (get tables a) (get db a) (d.database a) (d.values a) row h.0).1
  chosen_valid (a ∷ atoms) (row ∷ choice) h (suc i) n = chosen_valid atoms choice h.1 i n

  module _ (atoms : List (List ℕ)) (choice : List Row)
      (h : Chosen choice (atom_rows db atoms)) where
    pub cells_fit : Fits (atom_kinds tables atoms) (chosen_cells (atom_columns tables atoms) choice)
    cells_fit Free n k e = absurd (only_atoms atoms Free n k e)
    cells_fit (Alias a) n k e = absurd (only_atoms atoms (Alias a) n k e)
    cells_fit (Atom i) n k e = chosen_typed atoms choice h i n k
        (sym (kinds_at (atom_columns tables atoms) i n) ∙ e)

    pub cells_valid : (w : Whose) (n : List ℕ)
        → IsValid (chosen_cells (atom_columns tables atoms) choice w n)
    cells_valid Free n = no_number
    cells_valid (Alias a) n = no_number
    cells_valid (Atom i) n = chosen_valid atoms choice h i n
