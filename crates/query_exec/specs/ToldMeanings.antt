-- What the pieces that are told of a query mean, over every valid database of their versions, and
-- not only over the ones that are there.
use Rattle.std.specs.Prelude.{◌≡◌, ℕ, ◌+◌, ◌++◌, List, [], ◌∷◌, map}
use Rattle.std.specs.FinMap.{get}
use Rattle.relations_spec.specs.Sets.{In}
use Rattle.schema_catalog.specs.Databases.{Database}
use Rattle.cond_expr.specs.declared.expr.ColRef.{ColRef}
use Rattle.cond_expr.specs.Trees.{Test}
use Rattle.smo_ops_types.specs.Commands.{PlainVersion}
use Rattle.smo_ops_spec.specs.Effects.{columns_of, rows_under}
use Rattle.smo_ops_spec.specs.Past.{no_tables, tables_from}
use Rattle.smo_ops_versions_spec.specs.Migration.{migrated_from}
use Rattle.plain_answers_spec.specs.Branches.{Item, PlainBranch}
use Rattle.plain_answers_spec.specs.Naming.{all_references}
use Rattle.plain_answers_spec.specs.Reading.{Read, read_of}
use Rattle.piece_ir_spec.specs.Pieces.{PlainPiece, all_mean}
use Rattle.piece_ir_spec.specs.Rules.{IsValidDatabase}
use Rattle.piece_ir.specs.ExplainedPieces.{PlainExplained}
use Rattle.temporal_lang_types.specs.Queries.{PlainQuery, slice_of}
use Rattle.period_split.specs.Splitting.{Part, split_by}
use Rattle.query_exec.specs.QueryPieces.{explained_in}
use Rattle.query_exec.specs.Questions.{own_read}

-- the pieces alone
abbrev pub pieces_alone : List PlainExplained → List PlainPiece
pieces_alone list = map (λ (e : PlainExplained). e.piece) list

-- told for one item of a branch, both numbered from 1, over the version of one part: each with just
-- these numbers, this version and period; and over each valid database of the version they mean,
-- all together, what is asked of the item's table in that database, migrated to version q
pub record AreOfPart (versions : List PlainVersion) (q : ℕ) (table : List ℕ) (r : Read)
    (branch atom : ℕ) (p : Part) (list : List PlainExplained) : Type 0 where
  pub each : (e : PlainExplained) → In e list → e ≡ explained_in branch atom p e.piece
  pub mean : (db : Database) → IsValidDatabase (tables_from no_tables versions p.1) db
      → all_mean (tables_from no_tables versions p.1) db (pieces_alone list)
      ≡ read_of r (columns_of (tables_from no_tables versions q) table)
      (rows_under (get (migrated_from versions p.1 q db) table))

-- part after part
pub data AreOfTable (versions : List PlainVersion) (q : ℕ) (table : List ℕ) (r : Read)
    (branch atom : ℕ) : List Part → List PlainExplained → Type 0 where
  no_part : AreOfTable versions q table r branch atom [] []
  a_part : (p : Part) (parts : List Part) (first rest : List PlainExplained)
      → AreOfPart versions q table r branch atom p first
      → AreOfTable versions q table r branch atom parts rest
      → AreOfTable versions q table r branch atom (p ∷ parts) (first ++ rest)

-- item after item, the first of which has this place
pub data AreOfItems (versions : List PlainVersion) (q : ℕ) (parts : List Part)
    (references : List ColRef) (cond : Test) (branch : ℕ) : ℕ → List Item → List PlainExplained
    → Type 0 where
  no_item : (i : ℕ) → AreOfItems versions q parts references cond branch i [] []
  an_item : (i : ℕ) (x : Item) (from : List Item) (first rest : List PlainExplained)
      → AreOfTable versions q x.0 (own_read i references cond) branch (i + 1) parts first
      → AreOfItems versions q parts references cond branch (i + 1) from rest
      → AreOfItems versions q parts references cond branch i (x ∷ from) (first ++ rest)

-- branch after branch, the first of which has this number
pub data AreOfBranches (versions : List PlainVersion) (q : ℕ) (parts : List Part) : ℕ
    → List PlainBranch → List PlainExplained → Type 0 where
  no_branch : (n : ℕ) → AreOfBranches versions q parts n [] []
  a_branch : (n : ℕ) (b : PlainBranch) (branches : List PlainBranch)
      (first rest : List PlainExplained)
      → AreOfItems versions q parts (all_references b.outs b.cond) b.cond n 0 b.from first
      → AreOfBranches versions q parts (n + 1) branches rest
      → AreOfBranches versions q parts n (b ∷ branches) (first ++ rest)

-- those of a query whose references are to atoms, over the versions in force in its slice
abbrev pub MeanWhatIsAsked : List PlainVersion → PlainQuery → List PlainExplained → Type 0
MeanWhatIsAsked versions query list =
    AreOfBranches versions query.version (split_by versions (slice_of query.when)) 1 query.branches
    list
