-- What an archive answers to a query, over all of history, and tells of it.
use Rattle.std.specs.Prelude.{◌≡◌, ℕ, ◌≤◌, List, [], length, Some, None, Bool}
use Rattle.std.specs.Prelude.{true, false, Result, Err, MatchResult}
use Rattle.std.specs.declared.vec.Vec.{Vec}
use Rattle.std.specs.declared.alloc.Global.{Global}
use Rattle.prima_base.specs.Faults.{IsTested}
use Rattle.prima_base.specs.Timed.{entries_of}
use Rattle.prima_base.specs.declared.fault.CallFault.{CallFault}
use Rattle.prima_base.specs.declared.fault.CallFault.TheVariants.{Refused}
use Rattle.prima_base.specs.declared.refusal.Refusal.{Refusal}
use Rattle.answer_text.specs.declared.listing.Listing.{Listing}
use Rattle.schema_catalog.specs.Tables.{Tables}
use Rattle.piece_ir_spec.specs.Rules.{Book}
use Rattle.smo_ops_spec.specs.Checks.{Fault}
use Rattle.smo_ops_spec.specs.First.{first_refusal}
use Rattle.smo_ops_spec.specs.Past.{Past, tables_of}
use Rattle.temporal_lang_types.specs.declared.when.When.{When}
use Rattle.temporal_lang_types.specs.declared.when.When.TheVariants.{Always, AsOf, During}
use Rattle.temporal_lang_types.specs.declared.query.Query.{Query}
use Rattle.temporal_lang_types.specs.Queries.{PlainQuery, query_of, IsLasting}
use Rattle.relations_spec.specs.Timed.{Entry}
use Rattle.prima_base.specs.Keeping.{kept}
use Rattle.smo_ops_spec.specs.OneRow.{Row}
use Rattle.temporal_lang_spec.specs.Answers.{answer, IsListingOf}
use Rattle.prima_base.specs.declared.refusal.OpKind.{OpKind}
use Rattle.prima_base.specs.declared.refusal.Refusal.TheVariants.{NoInverse}
use Rattle.temporal_lang_spec.specs.Accepted.{fault_of_query, HasNoWayBack}
pub use Rattle.temporal_lang_spec.specs.Losing.{query_asked}
use Rattle.temporal_lang_spec.specs.Checking.{excess_of, query_tests}
use Rattle.piece_ir.specs.ExplainedPieces.{PlainExplained, all_explained}
use Rattle.piece_ir.specs.declared.explained.Explained.{Explained}
use Rattle.query_exec.specs.QueryPieces.{ArePieces, living_pieces}
use Rattle.query_exec.specs.ToldMeanings.{MeanWhatIsAsked}

-- the periods of the entries are told, but where one moment is asked of
abbrev pub tells_periods : When → Bool
tells_periods Always = true
tells_periods (AsOf m) = false
tells_periods (During a b) = true

-- none of the causes of a refusal is there
abbrev pub IsNotRefused : Past → PlainQuery → Type 0
IsNotRefused past query = fault_of_query past query ≡ None

-- why a query is not answered: its first refusal; that memory runs out is free
abbrev pub IsWrong : Past → PlainQuery → CallFault Refusal → Type 0
IsWrong past query fault = IsTested {A = Listing} (fault_of_query past query) (Err fault)

-- the one listing of a query that is not refused
pub record IsListed (past : Past) (query : PlainQuery) (listing : Listing) : Type 0 where
  pub accepted : fault_of_query past query ≡ None
  pub rows : entries_of listing.rows.items ≡ answer past query
  pub periods : listing.periods ≡ tells_periods query.when

-- the same without the listing's function: what KEEP keeps of entries that are the one list of what
-- is asked. Each entry's row holds at each moment of its period, which lies in the slice and is as
-- long as it can be; each row that holds at a moment of the slice has an entry there; and the
-- entries ascend, strictly, by row, then start
pub record IsKeptOfList (past : Past) (query : PlainQuery) (listing : Listing) : Type 0 where
  pub entries : List (Entry Row)
  pub list : IsListingOf past query entries
  pub keeps : entries_of listing.rows.items ≡ kept query.keep entries

-- what an archive answers to a query
abbrev pub IsAsked : Past → PlainQuery → Result Listing (CallFault Refusal) → Type 0
IsAsked past query result = MatchResult result (λ listing. IsListed past query listing)
    (λ fault. IsWrong past query fault)

-- it is refused for want of an inverse over a version only where there is none: at a moment of the
-- slice that version is gone back over, names no inverse, has none that is derived, and loses an
-- item of the query; the filling of a dropped column is no inverse
abbrev pub TellsWayBack : Past → PlainQuery → Result Listing (CallFault Refusal) → Type 0
TellsWayBack past query result = (k : ℕ) → (kind : OpKind)
    → result ≡ Err (Refused (NoInverse k kind)) → HasNoWayBack past query k kind

-- ---- the pieces of a query

-- none where it is refused
abbrev pub IfAccepted : Fault → Type 0 → List PlainExplained → Type 0
IfAccepted None are pieces = are
IfAccepted (Some r) are pieces = pieces ≡ []

-- else those of the query with each reference made one to an atom
abbrev pub ArePiecesOf : Book → Past → PlainQuery → List PlainExplained → Type 0
ArePiecesOf book past query pieces =
    IfAccepted (fault_of_query past query) (ArePieces book past.versions (query_asked past query)
    pieces) pieces

-- the same by a function: the list that is told of a query that is not refused
abbrev pub pieces_told : Book → Past → PlainQuery → List PlainExplained
pieces_told book past query = living_pieces book past.versions
    (query_asked past query)

-- the pieces of a query that is not refused, told; over every valid database of their versions they
-- mean what is asked of its items' tables
pub record AreTold (book : Book) (past : Past) (query : PlainQuery) (pieces : List PlainExplained) :
    Type 0 where
  pub accepted : fault_of_query past query ≡ None
  pub are : ArePieces book past.versions (query_asked past query) pieces
  pub told : pieces ≡ pieces_told book past query
  pub meant : MeanWhatIsAsked past.versions (query_asked past query) pieces

-- what an archive tells of a query: its pieces, or why it is refused
abbrev pub IsExplained : Book → Past → PlainQuery
    → Result (Vec Explained Global) (CallFault Refusal) → Type 0
IsExplained book past query result =
    MatchResult result (λ list. AreTold book past query (all_explained list.items))
    (λ fault. IsWrong past query fault)

-- ---- the steps of an answer

-- the tables of the version that a query names, whose counts are within their limits
pub record IsAskedSchema (past : Past) (query : PlainQuery) (tables : Tables) : Type 0 where
  pub few : excess_of query ≡ None
  pub there : query.version ≤ length past.versions
  pub schema : tables ≡ tables_of past query.version

-- a query that passes the tests over its version's tables, with each reference made one to an atom
pub record IsChecked (past : Past) (query : PlainQuery) (checked : Query) : Type 0 where
  pub few : excess_of query ≡ None
  pub there : query.version ≤ length past.versions
  pub tests : first_refusal (query_tests (tables_of past query.version) query) ≡ None
  pub atoms : query_of checked ≡ query_asked past query
  pub lasting : IsLasting query.when

-- a query that is not refused, with each reference made one to an atom
pub record IsQueryPrepared (past : Past) (query : PlainQuery) (checked : Query) : Type 0 where
  pub accepted : fault_of_query past query ≡ None
  pub there : query.version ≤ length past.versions
  pub atoms : query_of checked ≡ query_asked past query
  pub lasting : IsLasting query.when
