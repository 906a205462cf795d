-- What a query asks of each moment of its slice, read by pieces.
use Rattle.std.specs.Prelude.{◌≡◌, ℕ, ◌<◌, ◌≤◌, List}
use Rattle.smo_ops_spec.specs.OneRow.{Relation}
use Rattle.smo_ops_spec.specs.Past.{Past}
use Rattle.plain_answers_spec.specs.Branches.{PlainBranch}
use Rattle.plain_answers_spec.specs.Pushing.{pushed_reads}
use Rattle.plain_answers_spec.specs.Reading.{needed_reads}
use Rattle.piece_ir_spec.specs.Rules.{Book}
use Rattle.piece_ir_spec.specs.Reading.{asked_by_pieces}
use Rattle.temporal_lang_spec.specs.Losing.{query_asked}
use Rattle.temporal_lang_types.specs.Queries.{PlainQuery, slice_of}

-- the query's branches, with each reference made one to an atom
abbrev pub asked_branches : Past → PlainQuery → List PlainBranch
asked_branches past query = (query_asked past query).branches

-- what the branches answer at the moment over the pieces of their items' tables, of which the
-- columns that they name are read
abbrev pub pieces_at : Book → Past → PlainQuery → ℕ → Relation
pieces_at book past query m = asked_by_pieces book past m query.version needed_reads
    (asked_branches past query)

-- the same, with of each table the rows alone that meet the condition which is pushed to the item
abbrev pub pushed_at : Book → Past → PlainQuery → ℕ → Relation
pushed_at book past query m = asked_by_pieces book past m query.version pushed_reads
    (asked_branches past query)

-- the moment is one of the query's slice
pub record IsAskedOf (query : PlainQuery) (m : ℕ) : Type 0 where
  pub from : (slice_of query.when).start ≤ m
  pub to : m < (slice_of query.when).end

-- at each moment of the slice the relation is what is read by pieces
abbrev pub IsReadByPieces : Book → Past → PlainQuery → (ℕ → Relation) → Type 0
IsReadByPieces book past query relation = (m : ℕ) → IsAskedOf query m
    → relation m ≡ pieces_at book past query m
