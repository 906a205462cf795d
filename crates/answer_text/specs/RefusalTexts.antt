-- The lines of refusals: the number of each, and the values that it keeps.
use Rattle.std.specs.Prelude.{ℕ, List, [], ◌∷◌, ◌++◌, codes, decimal}
use Rattle.std.specs.List.{flat_map}
use Rattle.prima_base.specs.declared.refusal.What.{What}
use Rattle.prima_base.specs.declared.refusal.What.TheVariants as what
use Rattle.prima_base.specs.declared.refusal.OpKind.{OpKind}
use Rattle.prima_base.specs.declared.refusal.OpKind.TheVariants as kind
use Rattle.prima_base.specs.declared.refusal.OpRefusal.{OpRefusal}
use Rattle.prima_base.specs.declared.refusal.OpRefusal.TheVariants as op
use Rattle.prima_base.specs.declared.refusal.Refusal.{Refusal}
use Rattle.prima_base.specs.declared.refusal.Refusal.TheVariants as refusal

-- a value that a refusal keeps: a number, or words
pub data Kept : Type 0 where
  number : ℕ → Kept
  word : List ℕ → Kept

abbrev pub kept_text : Kept → List ℕ
kept_text (number n) = codes " " ++ decimal n
kept_text (word bytes) = codes " " ++ bytes

-- what there is too much of
abbrev pub what_word : What → List ℕ
what_word what.Nodes = codes "nodes"
what_word what.Depth = codes "depth"
what_word what.Parts = codes "parts"
what_word what.Tables = codes "tables"
what_word what.Branches = codes "branches"
what_word what.Outputs = codes "outputs"
what_word what.Keeps = codes "keeps"
what_word what.Changes = codes "changes"
what_word what.Columns = codes "columns"
what_word what.Inverse = codes "inverse"
what_word what.Versions = codes "versions"

-- the capital words of a kind of operator
abbrev pub kind_words : OpKind → List ℕ
kind_words kind.Nop = codes "NOP"
kind_words kind.CreateTable = codes "CREATE TABLE"
kind_words kind.DropTable = codes "DROP TABLE"
kind_words kind.RenameTable = codes "RENAME TABLE"
kind_words kind.CopyTable = codes "COPY TABLE"
kind_words kind.MergeTable = codes "MERGE TABLE"
kind_words kind.PartitionTable = codes "PARTITION TABLE"
kind_words kind.DecomposeTable = codes "DECOMPOSE TABLE"
kind_words kind.JoinTable = codes "JOIN TABLE"
kind_words kind.AddColumn = codes "ADD COLUMN"
kind_words kind.DropColumn = codes "DROP COLUMN"
kind_words kind.RenameColumn = codes "RENAME COLUMN"

-- the number of an operator's refusal, and what it keeps
abbrev pub op_number : OpRefusal → ℕ
op_number (op.NoTable table) = 22
op_number (op.NoColumn table column) = 23
op_number (op.WrongType place) = 25
op_number (op.Exists table) = 26
op_number (op.ColumnExists table column) = 27
op_number (op.ColumnsDiffer left right) = 28
op_number (op.BadCover table) = 29
op_number (op.LastColumn table) = 30
op_number (op.SameTable table) = 31
op_number (op.TooMany w limit) = 38

abbrev pub op_kept : OpRefusal → List Kept
op_kept (op.NoTable table) = word table ∷ []
op_kept (op.NoColumn table column) = word column ∷ []
op_kept (op.WrongType place) = number place ∷ []
op_kept (op.Exists table) = word table ∷ []
op_kept (op.ColumnExists table column) = word table ∷ word column ∷ []
op_kept (op.ColumnsDiffer left right) = word left ∷ word right ∷ []
op_kept (op.BadCover table) = word table ∷ []
op_kept (op.LastColumn table) = word table ∷ []
op_kept (op.SameTable table) = word table ∷ []
op_kept (op.TooMany w limit) = word (what_word w) ∷ number limit ∷ []

abbrev pub number_of : Refusal → ℕ
number_of (refusal.Syntax place) = 10
number_of refusal.Unfinished = 11
number_of refusal.TooLong = 12
number_of (refusal.StampNotLater given last) = 20
number_of (refusal.NoVersion asked newest) = 21
number_of (refusal.NoTable table) = 22
number_of (refusal.NoColumn column) = 23
number_of (refusal.Ambiguous name) = 24
number_of (refusal.WrongType place) = 25
number_of (refusal.Exists table) = 26
number_of (refusal.ColumnExists table column) = 27
number_of (refusal.ColumnsDiffer left right) = 28
number_of (refusal.BadCover table) = 29
number_of (refusal.LastColumn table) = 30
number_of (refusal.SameTable table) = 31
number_of (refusal.InverseMisses table) = 32
number_of (refusal.InverseOp at why) = 32
number_of (refusal.NoInverse version k) = 33
number_of (refusal.EmptyPeriod start end) = 34
number_of (refusal.ColumnMissing table column) = 35
number_of (refusal.Arity branch) = 36
number_of (refusal.JournalFull at need limit) = 37
number_of (refusal.TooMany w limit) = 38
number_of (refusal.TooWide measure) = 39
number_of (refusal.SchemaMoved began newest) = 50
number_of (refusal.TooLongStamp stamp bytes) = 51
number_of (refusal.Begun session) = 52
number_of (refusal.NotBegun session) = 53
number_of (refusal.CursorOpen session cursor) = 54
number_of (refusal.NoCursor session cursor) = 55
number_of (refusal.NoOutput place outputs) = 56
number_of (refusal.NotANumber place) = 57

abbrev pub kept_of : Refusal → List Kept
kept_of (refusal.Syntax place) = number place ∷ []
kept_of refusal.Unfinished = []
kept_of refusal.TooLong = []
kept_of (refusal.StampNotLater given last) = number given ∷ number last ∷ []
kept_of (refusal.NoVersion asked newest) = number asked ∷ number newest ∷ []
kept_of (refusal.NoTable table) = word table ∷ []
kept_of (refusal.NoColumn column) = word column ∷ []
kept_of (refusal.Ambiguous name) = word name ∷ []
kept_of (refusal.WrongType place) = number place ∷ []
kept_of (refusal.Exists table) = word table ∷ []
kept_of (refusal.ColumnExists table column) = word table ∷ word column ∷ []
kept_of (refusal.ColumnsDiffer left right) = word left ∷ word right ∷ []
kept_of (refusal.BadCover table) = word table ∷ []
kept_of (refusal.LastColumn table) = word table ∷ []
kept_of (refusal.SameTable table) = word table ∷ []
kept_of (refusal.InverseMisses table) = word table ∷ []
kept_of (refusal.InverseOp at why) = number at ∷ number (op_number why) ∷ op_kept why
kept_of (refusal.NoInverse version k) = number version ∷ word (kind_words k) ∷ []
kept_of (refusal.EmptyPeriod start end) = number start ∷ number end ∷ []
kept_of (refusal.ColumnMissing table column) = word table ∷ word column ∷ []
kept_of (refusal.Arity branch) = number branch ∷ []
kept_of (refusal.JournalFull at need limit) = number at ∷ number need ∷ number limit ∷ []
kept_of (refusal.TooMany w limit) = word (what_word w) ∷ number limit ∷ []
kept_of (refusal.TooWide measure) = number measure ∷ []
kept_of (refusal.SchemaMoved began newest) = number began ∷ number newest ∷ []
kept_of (refusal.TooLongStamp stamp bytes) = number stamp ∷ number bytes ∷ []
kept_of (refusal.Begun session) = number session ∷ []
kept_of (refusal.NotBegun session) = number session ∷ []
kept_of (refusal.CursorOpen session cursor) = number session ∷ word cursor ∷ []
kept_of (refusal.NoCursor session cursor) = number session ∷ word cursor ∷ []
kept_of (refusal.NoOutput place outputs) = number place ∷ number outputs ∷ []
kept_of (refusal.NotANumber place) = number place ∷ []

-- `error`, the number and the kept values
unfoldable pub refusal_text : Refusal → List ℕ
refusal_text r = codes "error " ++ decimal (number_of r) ++ flat_map kept_text (kept_of r)
    ++ codes "\n"
