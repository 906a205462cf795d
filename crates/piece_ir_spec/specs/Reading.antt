-- What a query reads of a moment: for each item what is read of its table, by pieces unfolded to
-- the version then in force.
use Rattle.std.specs.Prelude.{ℕ, List, [], ◌∷◌}
use Rattle.std.specs.List.{flat_map}
use Rattle.relations_spec.specs.Sets.{set_of}
use Rattle.prima_base.specs.Order.{row_cmp}
use Rattle.schema_catalog.specs.Tables.{Tables}
use Rattle.smo_ops_spec.specs.OneRow.{Row, Relation}
use Rattle.smo_ops_spec.specs.Past.{Past, tables_of, version_at, database_at}
use Rattle.plain_answers_spec.specs.Choosing.{answers_over}
use Rattle.plain_answers_spec.specs.Branches.{Item, PlainBranch, item_columns}
use Rattle.plain_answers_spec.specs.Reading.{Read, read_columns, AsMany, AreEnough}
use Rattle.piece_ir_spec.specs.Pieces.{all_mean}
use Rattle.piece_ir_spec.specs.Rules.{Book}
use Rattle.piece_ir_spec.specs.Chains.{unfolded_to}
use Rattle.piece_ir_spec.specs.Beginnings.{IsQuestion, first_piece}

-- of each item's table something is asked
abbrev pub AreQuestions : Tables → List Item → List Read → Type 0
AreQuestions tables [] reads = Unit {0}
AreQuestions tables (i ∷ from) [] = Unit {0}
AreQuestions tables (i ∷ from) (r ∷ reads) = IsQuestion tables i.0 r
    × AreQuestions tables from reads

-- for each item of the branch something is asked of its table, and it is enough for the branch
pub record Suffices (tables : Tables) (reads : List Read) (b : PlainBranch) : Type 0 where
  pub many : AsMany reads b.from
  pub asked : AreQuestions tables b.from reads
  pub enough : AreEnough 0 reads b.outs b.cond

-- what is asked of a table of version q, by its pieces at the moment
abbrev pub unfolded_read : Book → Past → ℕ → ℕ → List ℕ → Read → Relation
unfolded_read book past m q table r =
    all_mean (tables_of past (version_at past m)) (database_at past m)
    (unfolded_to book past.versions (version_at past m) q (first_piece table r ∷ []))

abbrev pub unfolded_reads : Book → Past → ℕ → ℕ → List Read → List Item → List Relation
unfolded_reads book past m q [] from = []
unfolded_reads book past m q (r ∷ reads) [] = []
unfolded_reads book past m q (r ∷ reads) (i ∷ from) =
    unfolded_read book past m q i.0 r ∷ unfolded_reads book past m q reads from

-- the branch's answers over these
abbrev pub unfolded_answers : Book → Past → ℕ → ℕ → (PlainBranch → List Read) → PlainBranch
    → List Row
unfolded_answers book past m q reads b =
    answers_over (read_columns (reads b) (item_columns (tables_of past q) b.from))
    (unfolded_reads book past m q (reads b) b.from) b.outs b.cond

abbrev pub asked_by_pieces : Book → Past → ℕ → ℕ → (PlainBranch → List Read) → List PlainBranch
    → Relation
asked_by_pieces book past m q reads branches =
    set_of row_cmp (flat_map (unfolded_answers book past m q reads) branches)
