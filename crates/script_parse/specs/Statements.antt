-- Statements as plain data, and the one that a statement of the code stands for.
use Rattle.std.specs.Prelude.{ℕ, List, [], ◌∷◌, map}
use Rattle.smo_ops_types.specs.Operators.{Operator}
use Rattle.smo_ops_types.specs.Commands.{PlainBody, evolving, PlainCommand, command_of}
use Rattle.temporal_lang_types.specs.declared.relation.Relation.{Relation}
use Rattle.temporal_lang_types.specs.declared.agg_item.AggItem.{AggItem}
use Rattle.temporal_lang_types.specs.Queries.{PlainQuery, query_of}
use Rattle.sessions.specs.Requests.{Request, request_of}
use Rattle.script_parse.specs.declared.statement.Statement.{Statement}
use Rattle.script_parse.specs.declared.statement.Statement.TheVariants.{Write, Ask, Explain}
use Rattle.script_parse.specs.declared.statement.Statement.TheVariants.{ShowVersions, ShowSchema}
use Rattle.script_parse.specs.declared.statement.Statement.TheVariants.{ShowSizes, ShowCursors}
use Rattle.script_parse.specs.declared.statement.Statement.TheVariants.{Checkpoint, Session}
use Rattle.script_parse.specs.declared.statement.Statement.TheVariants.{Pairs, Aggregate}

-- each operator that is written has one member, and so has each of its inverse
abbrev pub evolving_by : Operator → List Operator → PlainBody
evolving_by op inverse = evolving (op ∷ []) (map (λ o. o ∷ []) inverse)

pub data PlainStatement : Type 0 where
  write : PlainCommand → PlainStatement
  ask : PlainQuery → PlainStatement
  -- which pieces the query runs
  explain : PlainQuery → PlainStatement
  -- the pairs of entries of two answers whose periods stand in the relation
  pairs : PlainQuery → Relation → PlainQuery → PlainStatement
  -- what groups of rows have, by so many of their first outputs
  aggregate : List AggItem → ℕ → PlainQuery → PlainStatement
  -- what the session with this number asks for
  session : ℕ → Request → PlainStatement
  show_versions : PlainStatement
  -- the version's number
  show_schema : ℕ → PlainStatement
  show_sizes : PlainStatement
  show_cursors : PlainStatement
  -- what the archive holds is to be stored as a whole
  checkpoint : PlainStatement

abbrev pub statement_of : Statement → PlainStatement
statement_of (Write c) = write (command_of c)
statement_of (Ask q) = ask (query_of q)
statement_of (Explain q) = explain (query_of q)
statement_of (Pairs left relation right) = pairs (query_of left) relation (query_of right)
statement_of (Aggregate items group q) = aggregate items.items group (query_of q)
statement_of (Session s request) = session s (request_of request)
statement_of ShowVersions = show_versions
statement_of (ShowSchema version) = show_schema version
statement_of ShowSizes = show_sizes
statement_of ShowCursors = show_cursors
statement_of Checkpoint = checkpoint
