-- The past after a statement is valid where it was before it.
use Rattle.std.proofs.Common.{◌≡◌, ◌<◌, ℕ, List, [], ◌∷◌, refl, sym, subst}
use Rattle.std.specs.Prelude.{Option, Some, None}
use Rattle.relations_spec.specs.Spans.{forever}
use Rattle.smo_ops_types.specs.Commands.{PlainBody, changing, evolving, PlainCommand}
use Rattle.smo_ops_spec.specs.Checks.{Fault}
use Rattle.smo_ops_spec.specs.Accepts.{command_fault}
use Rattle.smo_ops_spec.specs.ValidPast.{last_or_nought, IsPast}
use Rattle.smo_ops_spec.specs.Past.{Past, next_past, past_with, tables_of}
use Rattle.smo_ops_spec.proofs.Firsts.{none_of_first}
use Rattle.smo_ops_spec.proofs.PastSteps.{stays_valid, stamp_accepted}
use Rattle.smo_ops_spec.proofs.PastSteps.{counts_accepted, body_accepted}
use Rattle.piece_ir_spec.specs.Constants.{ValidInVersions, ValidInEvolution}
use Rattle.piece_ir_spec.proofs.HeldValues.{valid_next}
use Rattle.temporal_lang_spec.specs.Accepted.{version_fault, fault_of_query}
use Rattle.temporal_lang_spec.specs.Answers.{answer}
use Rattle.smo_ops_types.specs.Changes.{PlainChange}
use Rattle.sessions.specs.Shared.{newest}
use Rattle.sessions.specs.SessionStates.{PlainTransaction}
use Rattle.sessions.specs.Requests.{Request, beginning, buffering, committing, aborting, opening}
use Rattle.sessions.specs.Requests.{fetching, closing, IsTimely}
use Rattle.sessions.specs.Steps as steps
use Rattle.sessions.specs.Steps.{changes_so_far}
use Rattle.script_cli_vault.specs.Shown.{need_of}
use Rattle.script_parse.specs.Statements.{PlainStatement, write, ask, explain, show_versions}
use Rattle.script_parse.specs.Statements.{show_schema, show_sizes, show_cursors, checkpoint, pairs}
use Rattle.script_parse.specs.Statements.{aggregate, session}
use Rattle.temporal_lang_spec.specs.PairFaults.{fault_of_pairs}
use Rattle.temporal_lang_spec.specs.AggregateFaults.{fault_of_aggregate}
use Rattle.period_join.specs.RelatedEntries.{related_entries}
use Rattle.time_aggregate.specs.Aggregated.{aggregated}
use Rattle.answer_text.specs.Texts.{pairs_text, aggregates_text}
use Rattle.script_parse.specs.Reading.{Reading, Blank, Refused, Whole, reading}
use Rattle.script_cli_vault.specs.ArchiveOnDisk.{tells_periods, pieces_told, commit_fault}
use Rattle.script_cli_vault.proofs.ArchiveOnDisk.{committed_by_past}
use Rattle.script_cli_vault.specs.ArchiveOnDisk.{checkpoint_fault}
use Rattle.script_cli_statement.specs.Given.{Given}
use Rattle.script_cli_statement.specs.Replies.{Recorded, answered, refused_or, put_command}
use Rattle.script_cli_statement.specs.Replies.{put_image, shared_by, world_of, request_reply}
use Rattle.script_cli_statement.specs.Replies.{session_reply, statement_reply, reading_reply, reply}
use Rattle.answer_text.specs.Texts.{listing_text, explain_text, schema_text}
use Rattle.script_cli_statement.specs.Written.{IsWritten, HasWritten}
use Rattle.script_cli_statement.proofs.WrittenStatements.{has_written}

-- accepted commands make it, at moments before the end of time, and the constants of its versions
-- are valid
pub record IsOfScript (past : Past) : Type 0 where
  pub made : IsPast past
  pub ends : last_or_nought past.last < forever
  pub constants : ValidInVersions past.versions

last_is : (past : Past) (stamp : ℕ) (body : PlainBody)
    → last_or_nought (next_past stamp body past).last ≡ stamp
last_is past stamp (changing changes) = refl
last_is past stamp (evolving op inverse) = refl

pub command_keeps : (past : Past) (command : PlainCommand) → IsOfScript past
    → (command.stamp < forever)
    × ValidInEvolution command.body → command_fault past command ≡ None
    → IsOfScript (past_with past command)
command_keeps past command h written e = record {
  made = stays_valid past command.stamp command.body h.made (stamp_accepted past command e)
      (counts_accepted past command e) (body_accepted past command e);
  ends = subst (λ n. n < forever) (sym (last_is past command.stamp command.body)) written.0;
  constants = valid_next past command.stamp command.body h.constants written.1;
}

put_keeps : (now : Recorded) (command : PlainCommand) → IsOfScript now.past
    → (command.stamp < forever) × ValidInEvolution command.body → (fault : Fault)
    → (fault ≡ None → command_fault now.past command ≡ None)
    → IsOfScript (refused_or fault now (put_command command now)).after.past
put_keeps now command h written None met = command_keeps now.past command h written (met refl)
put_keeps now command h written (Some r) met = h

image_keeps : (now : Recorded) (fault : Fault) → IsOfScript now.past
    → IsOfScript (refused_or fault now (put_image now)).after.past
image_keeps now None h = h
image_keeps now (Some r) h = h

same_past : (now : Recorded) (fault : Fault) (text : List ℕ) → IsOfScript now.past
    → IsOfScript (refused_or fault now (answered text now)).after.past
same_past now None text h = h
same_past now (Some r) text h = h

-- what a session asks for: a COMMIT that is not refused adds its one command
module _ (limit : Given) (now : Recorded) (h : IsOfScript now.past) where
  committed_keeps : (stamp : ℕ) (changes : List PlainChange) → stamp < forever
      → steps.changes_fault need_of (shared_by limit now) stamp changes ≡ None
      → IsOfScript (steps.shared_after need_of stamp changes (shared_by limit now)).past
  committed_keeps stamp [] l e = h
  committed_keeps stamp (c ∷ changes) l e =
      let command = steps.command_at stamp (c ∷ changes) in
      command_keeps now.past command h (l, tt) (none_of_first (command_fault now.past command)
      (steps.room_fault (shared_by limit now) (need_of command) ∷ []) e).0

  commit_keeps : (s stamp : ℕ) (t : Option PlainTransaction) → stamp < forever → (fault : Fault)
      → steps.commit_fault need_of (shared_by limit now) s stamp t ≡ fault
      → now.sessions.transaction s ≡ t
      → IsOfScript (refused_or fault now (request_reply limit s (committing stamp) now)).after.past
  commit_keeps s stamp t l (Some r) e same = h
  commit_keeps s stamp t l None e same =
      let shared = shared_by limit now in
      let all = none_of_first (steps.schema_fault s (newest shared) t)
      (steps.changes_fault need_of shared stamp (changes_so_far t) ∷ []) e in
      let its = none_of_first (steps.changes_fault need_of shared stamp (changes_so_far t)) []
      all.1 in
      subst (λ (o : Option PlainTransaction).
      IsOfScript (steps.shared_after need_of stamp (changes_so_far o) shared).past) (sym same)
      (committed_keeps stamp (changes_so_far t) l its.0)

  told_keeps : (s : ℕ) (request : Request) (fault : Fault)
      → (steps.shared_then need_of (world_of limit now) s request).past ≡ now.past
      → IsOfScript (refused_or fault now (request_reply limit s request now)).after.past
  told_keeps s request None same = subst IsOfScript (sym same) h
  told_keeps s request (Some r) same = h

  session_keeps : (s : ℕ) (request : Request) → IsTimely request
      → IsOfScript (session_reply limit s request now).after.past
  session_keeps s (committing stamp) l = commit_keeps s stamp (now.sessions.transaction s) l
      (steps.fault_of need_of (world_of limit now) s (committing stamp)) refl refl
  session_keeps s beginning l = told_keeps s beginning
      (steps.fault_of need_of (world_of limit now) s beginning) refl
  session_keeps s (buffering changes) l = told_keeps s (buffering changes)
      (steps.fault_of need_of (world_of limit now) s (buffering changes)) refl
  session_keeps s aborting l = told_keeps s aborting
      (steps.fault_of need_of (world_of limit now) s aborting) refl
  session_keeps s (opening name query) l = told_keeps s (opening name query)
      (steps.fault_of need_of (world_of limit now) s (opening name query)) refl
  session_keeps s (fetching name count) l = told_keeps s (fetching name count)
      (steps.fault_of need_of (world_of limit now) s (fetching name count)) refl
  session_keeps s (closing name) l = told_keeps s (closing name)
      (steps.fault_of need_of (world_of limit now) s (closing name)) refl

module _ (limit : Given) where
  statement_keeps : (now : Recorded) (s : PlainStatement) → IsWritten s → IsOfScript now.past
      → IsOfScript (statement_reply limit s now).after.past
  statement_keeps now (write command) written h =
      put_keeps now command h written (commit_fault now.past now.at limit.limit command)
      (committed_by_past now.past now.at limit.limit command)
  statement_keeps now (ask query) written h =
      same_past now (fault_of_query now.past query)
      (listing_text (tells_periods query.when) (answer now.past query)) h
  statement_keeps now (explain query) written h =
      same_past now (fault_of_query now.past query)
      (explain_text (pieces_told limit.book now.past query)) h
  statement_keeps now (pairs left relation right) written h =
      same_past now (fault_of_pairs now.past left right) (pairs_text (related_entries relation
      (answer now.past left) (answer now.past right))) h
  statement_keeps now (aggregate items group query) written h =
      same_past now (fault_of_aggregate now.past items group query) (aggregates_text
      (tells_periods query.when) (aggregated group items (answer now.past query))) h
  statement_keeps now (session s request) written h = session_keeps limit now h s request written.0
  statement_keeps now show_versions written h = h
  statement_keeps now (show_schema version) written h =
      same_past now (version_fault now.past version) (schema_text (tables_of now.past version)) h
  statement_keeps now show_sizes written h = h
  statement_keeps now show_cursors written h = h
  statement_keeps now checkpoint written h = image_keeps now
      (checkpoint_fault now.past now.at limit.limit) h

  reading_keeps : (now : Recorded) (r : Reading) → HasWritten r → IsOfScript now.past
      → IsOfScript (reading_reply limit r now).after.past
  reading_keeps now Blank has h = h
  reading_keeps now (Refused r) has h = h
  reading_keeps now (Whole s) has h = statement_keeps now s has h

  pub reply_keeps : (now : Recorded) (text : List ℕ) → IsOfScript now.past
      → IsOfScript (reply limit now text).after.past
  unfolding reply
  reply_keeps now text h = reading_keeps now (reading text) (has_written text) h
