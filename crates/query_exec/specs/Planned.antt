-- What is planned for a table of the asked version: in each part of a slice the pieces that are not
-- dead.
use Rattle.std.specs.Prelude.{◌≡◌, ℕ, List, [], ◌∷◌, map, ⊤}
use Rattle.std.specs.List.{filter, flat_map}
use Rattle.relations_spec.specs.Spans.{Span}
use Rattle.smo_ops_types.specs.Commands.{PlainVersion}
use Rattle.smo_ops_spec.specs.Past.{no_tables, tables_from}
use Rattle.plain_answers_spec.specs.Reading.{Read}
use Rattle.piece_ir_spec.specs.Rules.{Book}
use Rattle.piece_ir.specs.Shown.{shown_pieces}
use Rattle.piece_prune.specs.DeadPieces.{LeavesLiving, lives}
use Rattle.piece_ir_spec.specs.Beginnings.{first_piece}
use Rattle.piece_ir_spec.specs.Chains.{unfolded_to}
use Rattle.period_split.specs.Splitting.{Part}
use Rattle.piece_ir.specs.ExplainedPieces.{PlainExplained}
use Rattle.query_exec.specs.QueryPieces.{explained_in}
use Rattle.query_exec.specs.declared.part_piece.PartPieces.{PartPieces}

-- in one part
pub record IsPlanned (book : Book) (versions : List PlainVersion) (q : ℕ) (table : List ℕ)
    (r : Read) (p : Part) (x : PartPieces) : Type 0 where
  pub part : x.part ≡ p
  pub living : LeavesLiving (tables_from no_tables versions p.1)
      (unfolded_to book versions p.1 q (first_piece table r ∷ [])) (shown_pieces x.pieces.items)
  pub told : shown_pieces x.pieces.items ≡ filter lives
      (unfolded_to book versions p.1 q (first_piece table r ∷ []))

-- in each of several, in their order
abbrev pub ArePlanned : Book → List PlainVersion → ℕ → List ℕ → Read → List Part → List PartPieces
    → Type 0
ArePlanned book versions q table r [] [] = ⊤
ArePlanned book versions q table r [] (x ∷ plan) = ⊥
ArePlanned book versions q table r (p ∷ parts) [] = ⊥
ArePlanned book versions q table r (p ∷ parts) (x ∷ plan) = IsPlanned book versions q table r p x
    × ArePlanned book versions q table r parts plan

-- the moments of the parts, and the pieces for an item of a branch
abbrev pub planned_spans : List PartPieces → List Span
planned_spans plan = map (λ (x : PartPieces). x.part.0) plan

abbrev pub own_pieces : ℕ → ℕ → PartPieces → List PlainExplained
own_pieces branch atom x = map (explained_in branch atom x.part) (shown_pieces x.pieces.items)

abbrev pub planned_pieces : ℕ → ℕ → List PartPieces → List PlainExplained
planned_pieces branch atom plan = flat_map (own_pieces branch atom) plan
