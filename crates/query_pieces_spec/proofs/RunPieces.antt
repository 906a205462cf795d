-- Entries of pieces that are run one by one are together what the pieces mean.
use Rattle.std.proofs.Common.{◌≡◌, ℕ, List, [], ◌∷◌, ◌++◌, refl, sym, subst, inl, inr}
use Rattle.std.specs.Prelude.{◌⊎◌}
use Rattle.std.specs.List.{flat_map}
use Rattle.relations_spec.specs.Sets.{In}
use Rattle.relations_spec.specs.Timed.{Entry, at}
use Rattle.relations_spec.proofs.SetLaws.{in_left, in_right, in_set, from_set, in_flat_map}
use Rattle.relations_spec.proofs.SetLaws.{from_flat_map, one_list, set_ascends}
use Rattle.relations_spec.proofs.Held.{in_at, at_ascends}
use Rattle.prima_base.specs.Order.{row_cmp}
use Rattle.prima_base.specs.OrderLaws.{row_exact}
use Rattle.schema_catalog.specs.Tables.{Tables}
use Rattle.schema_catalog.specs.Databases.{Database}
use Rattle.smo_ops_spec.specs.OneRow.{Row, Relation}
use Rattle.piece_ir_spec.specs.Pieces.{PlainPiece, piece_answers, means, all_mean}
use Rattle.query_pieces_spec.proofs.Gatherings.{either, of_either, of_first, of_second}

module _ (tables : Tables) (db : Database) where
  -- one of the pieces gives the row
  abbrev Given : List PlainPiece → Row → Type 0
  Given ps x = (p : PlainPiece) × In p ps × In x (piece_answers tables db p)

  given : (ps : List PlainPiece) (x : Row) → In x (all_mean tables db ps) → Given ps x
  given ps x m = from_flat_map (piece_answers tables db) x ps
      (from_set row_cmp row_exact x (flat_map (piece_answers tables db) ps) m)

  from_given : (ps : List PlainPiece) (x : Row) → Given ps x → In x (all_mean tables db ps)
  from_given ps x g = in_set row_cmp row_exact x (flat_map (piece_answers tables db) ps)
      (in_flat_map (piece_answers tables db) g.0 x ps g.1 g.2)

  pub none_run : (m : ℕ) → at row_cmp [] m ≡ all_mean tables db []
  none_run m =
      one_list row_cmp row_exact (at row_cmp [] m) (all_mean tables db [])
      (at_ascends row_cmp row_exact [] m) (set_ascends row_cmp row_exact []) (record {
        there = λ x k. absurd ((in_at row_cmp row_exact [] x m).0 k).1;
        back = λ x k. absurd (given [] x k).1;
      })

  pub one_more_run : (ps : List PlainPiece) (p : PlainPiece) (a b : List (Entry Row)) (m : ℕ)
      → at row_cmp a m ≡ all_mean tables db ps → at row_cmp b m ≡ means tables db p
      → at row_cmp (a ++ b) m ≡ all_mean tables db (ps ++ p ∷ [])
  one_more_run ps p a b m e f =
      one_list row_cmp row_exact (at row_cmp (a ++ b) m) (all_mean tables db (ps ++ p ∷ []))
      (at_ascends row_cmp row_exact (a ++ b) m)
      (set_ascends row_cmp row_exact (flat_map (piece_answers tables db) (ps ++ p ∷ []))) (record {
        there = λ x k. there x (of_either a b x m k);
        back = λ x k. (let g = given (ps ++ p ∷ []) x k in
            back x g.0 g.2 (either g.0 ps (p ∷ []) g.1));
      })
    where
      there : (x : Row) → In x (at row_cmp a m) ⊎ In x (at row_cmp b m)
          → In x (all_mean tables db (ps ++ p ∷ []))
      there x (inl k) = (let g = given ps x (subst (λ (r : Relation). In x r) e k) in
          from_given (ps ++ p ∷ []) x (g.0, in_left g.0 ps (p ∷ []) g.1, g.2))
      there x (inr k) =
          from_given (ps ++ p ∷ []) x (
            p,
            in_right p ps (p ∷ []) (inl refl),
            from_set row_cmp row_exact x (piece_answers tables db p)
                (subst (λ (r : Relation). In x r) f k),
          )

      back : (x : Row) (q : PlainPiece) → In x (piece_answers tables db q) → In q ps ⊎ In q (p ∷ [])
          → In x (at row_cmp (a ++ b) m)
      back x q g (inl k) = of_first a b x m (subst (λ (r : Relation). In x r) (sym e)
          (from_given ps x (q, k, g)))
      back x q g (inr (inl s)) =
          of_second a b x m (subst (λ (r : Relation). In x r) (sym f)
          (in_set row_cmp row_exact x (piece_answers tables db p)
          (subst (λ (y : PlainPiece). In x (piece_answers tables db y)) (sym s) g)))
      back x q g (inr (inr k)) = absurd k
