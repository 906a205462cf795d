-- Over one relation the answers are the outputs of the rows that meet the condition.
use Rattle.std.proofs.Common.{◌≡◌, ℕ, zero, suc, Bool, true, false, List, [], ◌∷◌, map, refl, sym}
use Rattle.std.proofs.Common.{ap, ◌∙◌, arith}
use Rattle.std.specs.Prelude.{◌==◌, cond, pos, if◌then◌else◌}
use Rattle.std.specs.List.{filter}
use Rattle.relations_spec.specs.Choices.{choices}
use Rattle.prima_base.specs.declared.value.Value.TheVariants.{Int}
use Rattle.prima_base.specs.Columns.{Column}
use Rattle.schema_catalog.specs.Databases.{cell}
use Rattle.cond_expr.specs.declared.expr.Whose.{Whose}
use Rattle.cond_expr.specs.declared.expr.Whose.TheVariants.{Free, Alias, Atom}
use Rattle.cond_expr.specs.Trees.{Tree, Test}
use Rattle.cond_expr.specs.Values.{Cells, value, truth}
use Rattle.smo_ops_spec.specs.OneRow.{Row, Relation, own_cells, meets}
use Rattle.plain_answers_spec.specs.Choosing.{chosen_cell, chosen_cells, choice_meets, answered}
use Rattle.plain_answers_spec.specs.Choosing.{answers_over}

none_first : (k : ℕ) → (0 == suc k) ≡ false
none_first k = grind (arith)

-- the one atom's cells are those of the row
pub own_alike : (cs : List Column) (row : Row)
    → ◌≡◌ {A = Cells} (chosen_cells (cs ∷ []) (row ∷ [])) (own_cells cs row)
own_alike cs row = λ i w n. pointwise w n i
  where
    at_atom : (k : ℕ) (n : List ℕ) → chosen_cell (cs ∷ []) (row ∷ []) k n
        ≡ (if 0 == k then cell cs row n else Int (pos 0))
    at_atom zero n = refl
    at_atom (suc k) n = sym (ap (λ (b : Bool). if b then cell cs row n else Int (pos 0))
        (none_first k))

    pointwise : (w : Whose) (n : List ℕ) → chosen_cells (cs ∷ []) (row ∷ []) w n
        ≡ own_cells cs row w n
    pointwise Free n = refl
    pointwise (Alias a) n = refl
    pointwise (Atom k) n = at_atom k n

module _ (cs : List Column) (outs : List Tree) (c : Test) where
  one_choice : (rows : Relation) → choices (rows ∷ []) ≡ map (λ row. row ∷ []) rows
  one_choice [] = refl
  one_choice (row ∷ rows) = ap (λ (xs : List (List Row)). (row ∷ []) ∷ xs) (one_choice rows)

  kept : (rows : Relation) → filter (choice_meets (cs ∷ []) c) (map (λ row. row ∷ []) rows)
      ≡ map (λ row. row ∷ []) (filter (meets cs c) rows)
  kept [] = refl
  kept (row ∷ rows) =
      ap (λ (b : Bool). cond b ((row ∷ []) ∷ filter (choice_meets (cs ∷ []) c)
      (map (λ r. r ∷ []) rows))
      (filter (choice_meets (cs ∷ []) c) (map (λ r. r ∷ []) rows)))
      (ap (λ (at : Cells). truth at c) (own_alike cs row))
      ∙ step (meets cs c row) (kept rows)
    where
      step : (b : Bool) → filter (choice_meets (cs ∷ []) c) (map (λ r. r ∷ []) rows)
          ≡ map (λ r. r ∷ []) (filter (meets cs c) rows)
          → cond b ((row ∷ []) ∷ filter (choice_meets (cs ∷ []) c) (map (λ r. r ∷ []) rows))
          (filter (choice_meets (cs ∷ []) c) (map (λ r. r ∷ []) rows))
          ≡ map (λ r. r ∷ []) (cond b (row ∷ filter (meets cs c) rows) (filter (meets cs c) rows))
      step true e = ap (λ (xs : List (List Row)). (row ∷ []) ∷ xs) e
      step false e = e

  outputs : (rows : Relation) → map (answered (cs ∷ []) outs) (map (λ row. row ∷ []) rows)
      ≡ map (λ row. map (value (own_cells cs row)) outs) rows
  outputs [] = refl
  outputs (row ∷ rows) =
      ap (λ (at : Cells). map (value at) outs
      ∷ map (answered (cs ∷ []) outs) (map (λ r. r ∷ []) rows)) (own_alike cs row)
      ∙ ap (λ (rs : List Row). map (value (own_cells cs row)) outs ∷ rs) (outputs rows)

  pub one_relation : (rows : Relation) → answers_over (cs ∷ []) (rows ∷ []) outs c
      ≡ map (λ row. map (value (own_cells cs row)) outs) (filter (meets cs c) rows)
  one_relation rows =
      ap (λ (xs : List (List Row)). map (answered (cs ∷ []) outs)
      (filter (choice_meets (cs ∷ []) c) xs))
      (one_choice rows)
      ∙ ap (map (answered (cs ∷ []) outs)) (kept rows)
      ∙ outputs (filter (meets cs c) rows)
