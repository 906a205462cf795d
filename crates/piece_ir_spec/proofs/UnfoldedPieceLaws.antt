-- Pieces that stand for what is asked of a table are well-typed; and so they are at the neighbours
-- on the way, if the table is not lost from there.
use Rattle.std.proofs.Common.{◌≡◌, ◌+◌, ◌≤◌, ◌<◌, ℕ, List, [], ◌∷◌, sym, ap, subst, ◌∙◌, arith}
use Rattle.std.specs.Prelude.{None}
use Rattle.std.specs.FinMap.{get}
use Rattle.smo_ops_types.specs.Commands.{PlainVersion}
use Rattle.smo_ops_spec.specs.Past.{no_tables, tables_from}
use Rattle.smo_ops_versions_spec.specs.LostTables.{lost_tables}
use Rattle.smo_ops_versions_spec.proofs.WaySteps.{brought_stays, brought_forward, brought_back}
use Rattle.plain_answers_spec.specs.Reading.{Read}
use Rattle.piece_ir_spec.specs.Pieces.{PlainPiece}
use Rattle.piece_ir_spec.specs.Typed.{AllTyped}
use Rattle.piece_ir_spec.specs.Rules.{Book, IsValidBook}
use Rattle.piece_ir_spec.specs.Chains.{brought, to_previous, to_next, unfolded_to}
use Rattle.piece_ir_spec.specs.Beginnings.{first_piece}
use Rattle.piece_ir_spec.specs.UnfoldedPieces.{MayBeAsked, StandFor}
use Rattle.smo_ops_versions_spec.proofs.MappedTables.{none_forward}
use Rattle.piece_ir_spec.proofs.ReadMoments.{table_typed}

module _ (book : Book) (versions : List PlainVersion) (v q : ℕ) (table : List ℕ) (r : Read) where
  pub stand_typed : IsValidBook book → (ps : List PlainPiece) → MayBeAsked versions q table r
      → StandFor book versions v q table r ps → AllTyped (tables_from no_tables versions v) ps
  stand_typed valid ps may h =
      subst (λ (xs : List PlainPiece). AllTyped (tables_from no_tables versions v) xs)
      (sym h.unfolded)
      (table_typed versions may.valid book valid v q table r may.question h.kept)

  -- the first piece stands for it at its own version
  pub stand_first : (ps : List PlainPiece) → v ≡ q → ps ≡ first_piece table r ∷ []
      → StandFor book versions v q table r ps
  stand_first ps e is =
      let low : v ≤ q = omega arith in
      record {
        kept = none_forward versions v q table low;
        unfolded = is ∙ sym (brought_stays versions (brought book) q (first_piece table r ∷ []))
            ∙ ap (λ (k : ℕ). unfolded_to book versions k q (first_piece table r ∷ [])) (sym e);
      }

  pub stand_next : (ps news : List PlainPiece) → q ≤ v
      → get (lost_tables versions (v + 1) q) table ≡ None → StandFor book versions v q table r ps
      → news ≡ to_next book versions v ps → StandFor book versions (v + 1) q table r news
  stand_next ps news l kept h is = record {
    kept = kept;
    unfolded = is ∙ ap (to_next book versions v) h.unfolded
        ∙ sym (brought_back versions (brought book) v q (first_piece table r ∷ []) l);
  }

-- to version v from the next one
pub stand_previous : (book : Book) (versions : List PlainVersion) (v q : ℕ) (table : List ℕ)
    (r : Read) (ps news : List PlainPiece) → v < q
    → StandFor book versions (v + 1) q table r ps → news ≡ to_previous book versions v ps
    → StandFor book versions v q table r news
stand_previous book versions v q table r ps news l h is =
    let low : v ≤ q = omega arith in
    record {
      kept = none_forward versions v q table low;
      unfolded = is ∙ ap (to_previous book versions v) h.unfolded
          ∙ sym (brought_forward versions (brought book) v q (first_piece table r ∷ []) l);
    }
