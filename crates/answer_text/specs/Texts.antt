-- The lines of replies, by their bytes. Each is ended by a line feed.
use Rattle.std.specs.Prelude.{ℕ, Bool, true, false, List, [], ◌∷◌, ◌++◌, ◌+◌, ◌==◌, length, map}
use Rattle.std.specs.Prelude.{codes, decimal, Option, Some, None, if◌then◌else◌}
use Rattle.std.specs.List.{flat_map}
use Rattle.std.specs.Option.{unwrap_or}
use Rattle.std.specs.FinMap.{entries}
use Rattle.std.specs.Fmt.{signed_decimal}
use Rattle.relations_spec.specs.Timed.{Entry}
use Rattle.prima_base.specs.declared.period.TheConstants.{FOREVER}
use Rattle.prima_base.specs.declared.value.Value.{Value}
use Rattle.prima_base.specs.Columns.{Column}
use Rattle.prima_base.specs.Groups.{Amount, Group}
use Rattle.prima_base.specs.Groups as groups
use Rattle.schema_catalog.specs.Tables.{Tables}
use Rattle.smo_ops_types.specs.Operators.{Operator}
use Rattle.smo_ops_types.specs.Commands.{PlainVersion}
use Rattle.smo_ops_spec.specs.InForce.{begins_at}
use Rattle.smo_ops_spec.specs.Sizes.{Size, cells_in}
use Rattle.smo_parse.specs.TreeTexts.{value_text}
use Rattle.smo_parse.specs.Texts.{listed, column_text, evolution_text}
use Rattle.piece_ir.specs.ExplainedPieces.{PlainExplained}
use Rattle.answer_text.specs.PieceTexts.{piece_text}

-- so many rows were gained and lost at this moment
unfoldable pub changed_text : ℕ → ℕ → ℕ → List ℕ
changed_text stamp gained lost = codes "ok " ++ decimal stamp ++ codes " +" ++ decimal gained
    ++ codes " -" ++ decimal lost ++ codes "\n"

-- this version was made at this moment
unfoldable pub evolved_text : ℕ → ℕ → List ℕ
evolved_text stamp version = codes "ok " ++ decimal stamp ++ codes " version " ++ decimal version
    ++ codes "\n"

-- changes, or the version that was made
abbrev pub made_text : ℕ → ℕ → ℕ → Option ℕ → List ℕ
made_text stamp gained lost None = changed_text stamp gained lost
made_text stamp gained lost (Some version) = evolved_text stamp version

-- the whole archive was stored
unfoldable pub checkpoint_text : List ℕ
checkpoint_text = codes "ok checkpoint\n"

-- the words of the call are wrong
unfoldable pub wrong_words_text : List ℕ
wrong_words_text = codes "fault 2\n"

-- the file is no journal, and this is where it is damaged
unfoldable pub not_a_journal_text : ℕ → List ℕ
not_a_journal_text place = codes "fault 6 " ++ decimal place ++ codes "\n"

-- the end of a period, which may still go on
abbrev pub end_text : ℕ → List ℕ
end_text end = if end == FOREVER then codes "now" else decimal end

-- the values of a row, each after a space
abbrev pub values_text : List Value → List ℕ
values_text values = flat_map (λ v. codes " " ++ value_text v) values

-- the head of a row's line, with the period where the periods are told
abbrev pub head_text : Bool → ℕ → ℕ → List ℕ
head_text false start end = codes "row"
head_text true start end = codes "row " ++ decimal start ++ codes " " ++ end_text end

-- a row, after its period where the periods are told
abbrev pub row_text : Bool → Entry (List Value) → List ℕ
row_text told e = head_text told e.period.start e.period.end ++ values_text e.item ++ codes "\n"

-- the line after the rows
abbrev pub count_text : ℕ → List ℕ
count_text count = codes "end " ++ decimal count ++ codes "\n"

-- the rows, and then how many they are
unfoldable pub listing_text : Bool → List (Entry (List Value)) → List ℕ
listing_text told entries = flat_map (row_text told) entries ++ count_text (length entries)

-- ---- pairs of entries, and groups of rows

abbrev pub period_text : ℕ → ℕ → List ℕ
period_text start end = codes " " ++ decimal start ++ codes " " ++ end_text end

-- an entry after a word: its period and its values
abbrev pub entry_text : List ℕ → Entry (List Value) → List ℕ
entry_text w e = (w ++ period_text e.period.start e.period.end) ++ values_text e.item

-- two entries, with the periods of both
unfoldable pub pair_text : Entry (List Value) → Entry (List Value) → List ℕ
pair_text left right = entry_text (codes "pair") left
    ++ (entry_text (codes " with") right ++ codes "\n")

-- pairs of entries, a line each, and then how many they are
abbrev pub line_of_pair : Entry (List Value) × Entry (List Value) → List ℕ
line_of_pair pair = pair_text pair.0 pair.1

unfoldable pub pairs_text : List (Entry (List Value) × Entry (List Value)) → List ℕ
pairs_text pairs = flat_map line_of_pair pairs ++ count_text (length pairs)

-- what an aggregate has of a group
abbrev pub amount_text : Amount → List ℕ
amount_text (groups.count n) = decimal n
amount_text (groups.one v) = value_text v
amount_text (groups.sum n) = signed_decimal n

abbrev pub amounts_text : List Amount → List ℕ
amounts_text amounts = flat_map (λ a. codes " " ++ amount_text a) amounts

-- a group and what the aggregates have of it, after its period where the periods are told
unfoldable pub aggregate_text : Bool → Entry Group → List ℕ
aggregate_text told e = head_text told e.period.start e.period.end
    ++ (values_text e.item.key ++ (amounts_text e.item.amounts ++ codes "\n"))

-- groups, a line each, and then how many they are
unfoldable pub aggregates_text : Bool → List (Entry Group) → List ℕ
aggregates_text told entries = flat_map (aggregate_text told) entries
    ++ count_text (length entries)

-- ---- the pieces of a query

-- the head of a piece's line: the moments in which it is run, the branch and the atom that it is
-- run for, and the version that it reads
unfoldable pub piece_head : PlainExplained → List ℕ
piece_head e =
    codes "piece " ++ decimal e.period.start ++ codes " " ++ end_text e.period.end
    ++ codes " " ++ decimal e.branch ++ codes " " ++ decimal e.atom ++ codes " "
    ++ decimal e.version ++ codes " "

abbrev pub explained_text : PlainExplained → List ℕ
explained_text e = piece_head e ++ (piece_text e.piece ++ codes "\n")

-- the pieces, and then how many they are
unfoldable pub explain_text : List PlainExplained → List ℕ
explain_text list = flat_map explained_text list ++ count_text (length list)

-- ---- versions

-- operators, each after THEN
abbrev pub more_operators : List (List Operator) → List ℕ
more_operators [] = []
more_operators (op ∷ ops) = codes " THEN " ++ evolution_text op ++ more_operators ops

-- the inverse, where one is named
abbrev pub inverse_text : List (List Operator) → List ℕ
inverse_text [] = []
inverse_text (op ∷ ops) = codes " INVERSE " ++ evolution_text op ++ more_operators ops

-- the head of a version's line: its number, and the moments from which and up to which it is in
-- force
unfoldable pub version_head : ℕ → ℕ → ℕ → List ℕ
version_head k start end = codes "version " ++ decimal k ++ codes " " ++ decimal start ++ codes " "
    ++ end_text end

-- version 0, which no operator made
abbrev pub first_version_text : ℕ → List ℕ
first_version_text end = version_head 0 0 end ++ codes "\n"

abbrev pub version_text : ℕ → PlainVersion → ℕ → List ℕ
version_text k v end = version_head k v.stamp end
    ++ (codes " " ++ (evolution_text v.op ++ (inverse_text v.inverse ++ codes "\n")))

-- versions, the first of which has this number: each ends where the first of those after it begins
abbrev pub version_texts : ℕ → List PlainVersion → List ℕ
version_texts k [] = []
version_texts k (v ∷ versions) = version_text k v (begins_at versions 1)
    ++ version_texts (k + 1) versions

-- all versions, and then how many they are
unfoldable pub versions_text : List PlainVersion → List ℕ
versions_text versions = first_version_text (begins_at versions 1)
    ++ (version_texts 1 versions ++ count_text (length versions + 1))

-- ---- tables

-- a table with its columns
abbrev pub table_text : List ℕ × List Column → List ℕ
table_text t = codes "table " ++ (t.0 ++ (codes " "
    ++ (listed (map column_text t.1) ++ codes "\n")))

abbrev pub tables_text : List (List ℕ × List Column) → List ℕ
tables_text [] = []
tables_text (t ∷ tables) = table_text t ++ tables_text tables

-- the tables of a version, and then how many they are
unfoldable pub schema_text : Tables → List ℕ
schema_text tables = tables_text (entries tables) ++ count_text (length (entries tables))

-- ---- lifelines

-- the line of a lifeline: its table, its first version and its last, its keys, and its cells
unfoldable pub size_text : List ℕ → ℕ → ℕ → ℕ → ℕ → List ℕ
size_text table first last keys cells =
    codes "size " ++ table ++ codes " " ++ decimal first ++ codes " " ++ decimal last ++ codes " "
    ++ decimal keys ++ codes " " ++ decimal cells ++ codes "\n"

-- a lifeline; the last version of one that lives is this one, the newest of all
abbrev pub lifeline_text : ℕ → Size → List ℕ
lifeline_text newest s = size_text s.table s.first (unwrap_or s.last newest) s.keys
    (cells_in s.columns)

-- all lifelines, where this version is the newest, and then how many they are
unfoldable pub sizes_text : ℕ → List Size → List ℕ
sizes_text newest sizes = flat_map (lifeline_text newest) sizes ++ count_text (length sizes)
