-- The pieces of a query: for each branch and item in text order, and for each version that is in
-- force in the slice, those into which what is asked of the item's table unfolds there, but for the
-- dead.
use Rattle.std.specs.Prelude.{◌≡◌, ℕ, ◌+◌, ◌++◌, List, [], ◌∷◌, map}
use Rattle.std.specs.List.{filter, flat_map}
use Rattle.relations_spec.specs.Sets.{In}
use Rattle.cond_expr.specs.declared.expr.ColRef.{ColRef}
use Rattle.cond_expr.specs.Trees.{Test}
use Rattle.smo_ops_types.specs.Commands.{PlainVersion}
use Rattle.smo_ops_spec.specs.Past.{no_tables, tables_from}
use Rattle.plain_answers_spec.specs.Branches.{Item, PlainBranch}
use Rattle.plain_answers_spec.specs.Naming.{all_references}
use Rattle.plain_answers_spec.specs.Reading.{Read}
use Rattle.piece_ir_spec.specs.Pieces.{PlainPiece}
use Rattle.piece_ir_spec.specs.Rules.{Book}
use Rattle.piece_prune.specs.DeadPieces.{IsDeadPiece, lives}
use Rattle.piece_ir.specs.ExplainedPieces.{PlainExplained}
use Rattle.piece_ir_spec.specs.Beginnings.{first_piece}
use Rattle.piece_ir_spec.specs.Chains.{unfolded_to}
use Rattle.temporal_lang_types.specs.Queries.{PlainQuery, slice_of}
use Rattle.period_split.specs.Splitting.{Part, split_by}
use Rattle.query_exec.specs.Questions.{own_read}

-- a piece over the version of a part, for this item of this branch, each numbered from 1
abbrev pub explained_in : ℕ → ℕ → Part → PlainPiece → PlainExplained
explained_in branch atom p piece = record {
  period = p.0;
  branch = branch;
  atom = atom;
  version =
      p.1;
  piece = piece;
}

-- what is asked of a table of version q, in one part of a slice, dead pieces too; and in several
abbrev pub part_pieces : Book → List PlainVersion → ℕ → List ℕ → Read → ℕ → ℕ → Part
    → List PlainExplained
part_pieces book versions q table r branch atom p =
    map (explained_in branch atom p) (unfolded_to book versions p.1 q (first_piece table r ∷ []))

abbrev pub table_pieces : Book → List PlainVersion → ℕ → List ℕ → Read → ℕ → ℕ → List Part
    → List PlainExplained
table_pieces book versions q table r branch atom parts =
    flat_map (part_pieces book versions q table r branch atom) parts

-- of items, the first of which has this place
abbrev pub items_pieces : Book → List PlainVersion → ℕ → List Part → List ColRef → Test → ℕ → ℕ
    → List Item → List PlainExplained
items_pieces book versions q parts references cond branch i [] = []
items_pieces book versions q parts references cond branch i (x ∷ from) =
    table_pieces book versions q x.0 (own_read i references cond) branch (i + 1) parts
    ++ items_pieces book versions q parts references cond branch (i + 1) from

abbrev pub branch_pieces : Book → List PlainVersion → ℕ → List Part → ℕ → PlainBranch
    → List PlainExplained
branch_pieces book versions q parts n b = items_pieces book versions q parts
    (all_references b.outs b.cond) b.cond n 0 b.from

-- of branches, the first of which has this number
abbrev pub branches_pieces : Book → List PlainVersion → ℕ → List Part → ℕ → List PlainBranch
    → List PlainExplained
branches_pieces book versions q parts n [] = []
branches_pieces book versions q parts n (b ∷ branches) =
    branch_pieces book versions q parts n b ++ branches_pieces book versions q parts (n + 1)
    branches

-- of a query whose references are to atoms
abbrev pub all_pieces : Book → List PlainVersion → PlainQuery → List PlainExplained
all_pieces book versions query =
    branches_pieces book versions query.version (split_by versions (slice_of query.when)) 1
    query.branches

-- those that are not dead, in their order
pub data AreAlive (versions : List PlainVersion) : List PlainExplained → List PlainExplained
    → Type 0 where
  none_alive : AreAlive versions [] []
  one_dead : (e : PlainExplained) (es alive : List PlainExplained)
      → IsDeadPiece (tables_from no_tables versions e.version) e.piece → AreAlive versions es alive
      → AreAlive versions (e ∷ es) alive
  one_alive : (e : PlainExplained) (es alive : List PlainExplained)
      → ¬ IsDeadPiece (tables_from no_tables versions e.version) e.piece
      → AreAlive versions es alive
      → AreAlive versions (e ∷ es) (e ∷ alive)

-- one of some pieces, which is not dead
pub record IsAlive (versions : List PlainVersion) (pieces : List PlainExplained)
    (e : PlainExplained) : Type 0 where
  pub among : In e pieces
  pub alive : ¬ IsDeadPiece (tables_from no_tables versions e.version) e.piece

-- the pieces of a query
abbrev pub ArePieces : Book → List PlainVersion → PlainQuery → List PlainExplained → Type 0
ArePieces book versions query list = AreAlive versions (all_pieces book versions query) list

-- ---- the same, by a function

-- those that the few values that are tried do not find dead
abbrev pub alive_of : List PlainExplained → List PlainExplained
alive_of list = filter (λ (e : PlainExplained). lives e.piece) list

-- The pieces of a query. Of one that is not refused, over groups that represent its past, they are
-- the only ones: `explain` finds them, and `ArePieces` is met by one list at most.
abbrev pub living_pieces : Book → List PlainVersion → PlainQuery → List PlainExplained
living_pieces book versions query = alive_of (all_pieces book versions query)

-- what is left of pieces without the dead
pub record AreLeft (versions : List PlainVersion) (pieces list : List PlainExplained) : Type 0 where
  pub alive : AreAlive versions pieces list
  pub told : list ≡ alive_of pieces
