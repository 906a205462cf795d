-- What an export rebuilds: a past whose version 1 answers each query as the exported version does.
use Rattle.std.specs.Prelude.{◌≡◌, ◌≤◌, ℕ, List, None}
use Rattle.relations_spec.specs.Spans.{forever}
use Rattle.smo_ops_types.specs.Commands.{PlainCommand}
use Rattle.smo_ops_spec.specs.Past.{Past}
use Rattle.smo_ops_spec.specs.History.{past_of, IsHistory}
use Rattle.temporal_lang_types.specs.Queries.{PlainQuery, slice_of}
use Rattle.temporal_lang_spec.specs.Accepted.{fault_of_query}
use Rattle.temporal_lang_spec.specs.Answers.{answer}
use Rattle.version_export.specs.Exported.{on_version}

-- a query that is accepted on the one version is accepted on version 1 of the other past, and has
-- the same answer there
abbrev pub AnswersAlike : Past → ℕ → Past → Type 0
AnswersAlike past version other = (query : PlainQuery) → query.version ≡ version
    → (slice_of query.when).end ≤ forever → fault_of_query past query ≡ None
    → (fault_of_query other (on_version 1 query) ≡ None)
    × (answer past query ≡ answer other (on_version 1 query))

-- the commands are a history, and its past answers alike
pub record Rebuilds (commands : List PlainCommand) (past : Past) (version : ℕ) : Type 0 where
  pub history : IsHistory commands
  pub answers : AnswersAlike past version (past_of commands)
