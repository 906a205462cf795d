-- What is read at the moments of one version, and of one table.
use Rattle.std.proofs.Common.{◌≡◌, ℕ, List, [], ◌∷◌, sym, ap, subst, ◌∙◌, append-nil}
use Rattle.std.specs.List.{flat_map}
use Rattle.relations_spec.specs.Sets.{set_of}
use Rattle.prima_base.specs.Order.{row_cmp}
use Rattle.schema_catalog.specs.Databases.{IsDatabase}
use Rattle.smo_ops_spec.specs.OneRow.{Row}
use Rattle.smo_ops_spec.specs.ValidPast.{IsPast}
use Rattle.smo_ops_spec.specs.ValidValues.{PastHolds}
use Rattle.smo_ops_spec.specs.Past.{Past, tables_of, version_at, database_at}
use Rattle.plain_answers_spec.specs.Choosing.{answers_over}
use Rattle.plain_answers_spec.specs.Branches.{PlainBranch, item_columns}
use Rattle.plain_answers_spec.specs.Reading.{Read, needed_reads, read_columns}
use Rattle.piece_ir_spec.specs.Pieces.{PlainPiece, all_mean}
use Rattle.piece_ir_spec.specs.Rules.{Book}
use Rattle.piece_prune.specs.DeadPieces.{LeavesLiving}
use Rattle.piece_prune.proofs.Pruned.{mean_the_same}
use Rattle.piece_ir_spec.specs.Beginnings.{first_piece}
use Rattle.piece_ir_spec.specs.Chains.{unfolded_to}
use Rattle.piece_ir_spec.specs.Reading.{unfolded_read, unfolded_reads, unfolded_answers}
use Rattle.piece_ir_spec.specs.UnfoldedPieces.{StandFor}
use Rattle.temporal_lang_types.specs.Queries.{PlainQuery}
use Rattle.query_pieces_spec.specs.Piecewise.{asked_branches, pieces_at}

-- the pieces that stand at the version in force for what is asked of a table
pub standing_read : (book : Book) (past : Past) (m q k : ℕ) (table : List ℕ) (r : Read)
    (ps : List PlainPiece) → version_at past m ≡ k
    → StandFor book past.versions k q table r ps
    → all_mean (tables_of past k) (database_at past m) ps ≡ unfolded_read book past m q table r
standing_read book past m q k table r ps e h =
    ap (λ (xs : List PlainPiece). all_mean (tables_of past k) (database_at past m) xs) h.unfolded
    ∙ ap (λ (v : ℕ). all_mean (tables_of past v) (database_at past m)
    (unfolded_to book past.versions v q (first_piece table r ∷ []))) (sym e)

-- and so do those that are not dead
pub living_read : (book : Book) (past : Past) → IsPast past → PastHolds past
    → (m q k : ℕ) (table : List ℕ) (r : Read) (ps living : List PlainPiece) → version_at past m ≡ k
    → StandFor book past.versions k q table r ps → LeavesLiving (tables_of past k) ps living
    → all_mean (tables_of past k) (database_at past m) living ≡ unfolded_read book past m q table r
living_read book past is holds m q k table r ps living e h a =
    mean_the_same (tables_of past k) (database_at past m)
    (record {
      database = subst (λ (v : ℕ). IsDatabase (tables_of past v) (database_at past m)) e
          (is.each m);
      values = holds.databases m;
    }) ps living a
    ∙ standing_read book past m q k table r ps e h

-- one branch
pub one_branch_read : (book : Book) (past : Past) (query : PlainQuery) (b : PlainBranch) (m : ℕ)
    → asked_branches past query ≡ b ∷ []
    → pieces_at book past query m
    ≡ set_of row_cmp (answers_over (read_columns (needed_reads b)
    (item_columns (tables_of past query.version) b.from))
    (unfolded_reads book past m query.version (needed_reads b) b.from) b.outs b.cond)
one_branch_read book past query b m e =
    ap (λ (bs : List PlainBranch). set_of row_cmp
    (flat_map (unfolded_answers book past m query.version needed_reads) bs)) e
    ∙ ap (λ (rows : List Row). set_of row_cmp rows)
    (append-nil (unfolded_answers book past m query.version needed_reads b))
