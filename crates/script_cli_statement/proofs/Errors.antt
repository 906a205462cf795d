-- A reply counts as an error exactly where its line is one.
use Rattle.std.proofs.Common.{◌≡◌, ℕ, Bool, true, false, List, [], ◌∷◌, ◌++◌, length, refl, sym}
use Rattle.std.specs.Prelude.{map, Some, None}
use Rattle.std.specs.FinMap.{entries}
use Rattle.relations_spec.specs.Timed.{Entry}
use Rattle.prima_base.specs.Columns.{Column}
use Rattle.prima_base.specs.declared.value.Value.{Value}
use Rattle.prima_base.specs.declared.refusal.Refusal.{Refusal}
use Rattle.schema_catalog.specs.Tables.{Tables}
use Rattle.smo_ops_types.specs.Commands.{PlainBody, changing, evolving, PlainCommand, PlainVersion}
use Rattle.smo_ops_spec.specs.Checks.{Fault}
use Rattle.smo_ops_spec.specs.Past.{Past, past_with, tables_of}
use Rattle.smo_ops_spec.specs.Sizes.{Size}
use Rattle.script_cli_vault.specs.ArchiveOnDisk.{commit_fault, checkpoint_fault}
use Rattle.piece_ir.specs.ExplainedPieces.{PlainExplained}
use Rattle.temporal_lang_spec.specs.Accepted.{version_fault, fault_of_query}
use Rattle.temporal_lang_spec.specs.Answers.{answer}
use Rattle.script_parse.specs.Statements.{PlainStatement, write, ask, explain, show_versions}
use Rattle.script_parse.specs.Statements.{show_schema, show_sizes, show_cursors, checkpoint, pairs}
use Rattle.script_parse.specs.Statements.{aggregate, session}
use Rattle.prima_base.specs.Groups.{Group}
use Rattle.temporal_lang_spec.specs.PairFaults.{fault_of_pairs}
use Rattle.temporal_lang_spec.specs.AggregateFaults.{fault_of_aggregate}
use Rattle.period_join.specs.RelatedEntries.{related_entries}
use Rattle.time_aggregate.specs.Aggregated.{aggregated}
use Rattle.answer_text.specs.Texts.{pair_text, pairs_text, aggregate_text, aggregates_text}
use Rattle.script_parse.specs.Reading.{Reading, Blank, Refused, Whole, reading}
use Rattle.script_cli_vault.specs.ArchiveOnDisk.{tells_periods, pieces_told}
use Rattle.answer_text.specs.Texts.{changed_text, evolved_text, checkpoint_text, listing_text}
use Rattle.answer_text.specs.Texts.{piece_head, explain_text, tables_text, count_text, version_head}
use Rattle.answer_text.specs.Texts.{versions_text, schema_text, size_text, sizes_text}
use Rattle.answer_text.specs.SessionTexts.{begun_text, buffered_text, empty_text, aborted_text}
use Rattle.answer_text.specs.SessionTexts.{opened_text, closed_text, cursor_text, cursors_text}
use Rattle.answer_text.specs.RefusalTexts.{refusal_text}
use Rattle.sessions.specs.Steps.{Answer, begun, buffered, committed, committed_nothing, aborted}
use Rattle.sessions.specs.Steps.{opened, fetched, closed, fault_of, answer_of}
use Rattle.sessions.specs.Lines.{line_of}
use Rattle.script_cli_vault.specs.Shown.{need_of}
use Rattle.script_cli_statement.specs.SessionLines.{said_text}
use Rattle.script_cli_statement.specs.Given.{Given}
use Rattle.script_cli_statement.specs.Replies.{Recorded, Reply, refused, answered, put_command}
use Rattle.script_cli_statement.specs.Replies.{put_image, refused_or, body_text, statement_reply}
use Rattle.script_cli_statement.specs.Replies.{world_of, request_reply, reading_reply, reply}
use Rattle.script_cli_sample.specs.Summary.{is_error_line}

abbrev BothKnown : Reply → Type 0
BothKnown r = r.is_error ≡ is_error_line r.text

refusal_told : (r : Refusal) (now : Recorded) → BothKnown (refused r now)
unfolding refusal_text
refusal_told r now = refl

body_told : (stamp : ℕ) (body : PlainBody) (past next : Past)
    → is_error_line (body_text stamp body past next) ≡ false
unfolding changed_text evolved_text
body_told stamp (changing changes) past next = refl
body_told stamp (evolving op inverse) past next = refl

put_told : (command : PlainCommand) (now : Recorded) → BothKnown (put_command command now)
put_told command now = sym (body_told command.stamp command.body now.past
    (past_with now.past command))

image_told : (now : Recorded) → BothKnown (put_image now)
unfolding checkpoint_text
image_told now = refl

listing_told : (told : Bool) (entries : List (Entry (List Value))) (now : Recorded)
    → BothKnown (answered (listing_text told entries) now)
unfolding listing_text
listing_told told [] now = refl
listing_told false (e ∷ entries) now = refl
listing_told true (e ∷ entries) now = refl

pairs_told : (related : List (Entry (List Value) × Entry (List Value))) (now : Recorded)
    → BothKnown (answered (pairs_text related) now)
unfolding pairs_text pair_text
pairs_told [] now = refl
pairs_told (p ∷ related) now = refl

groups_told : (told : Bool) (entries : List (Entry Group)) (now : Recorded)
    → BothKnown (answered (aggregates_text told entries) now)
unfolding aggregates_text aggregate_text
groups_told told [] now = refl
groups_told false (e ∷ entries) now = refl
groups_told true (e ∷ entries) now = refl

pieces_told_so : (pieces : List PlainExplained) (now : Recorded)
    → BothKnown (answered (explain_text pieces) now)
unfolding explain_text piece_head
pieces_told_so [] now = refl
pieces_told_so (e ∷ pieces) now = refl

versions_told : (versions : List PlainVersion) (now : Recorded)
    → BothKnown (answered (versions_text versions) now)
unfolding versions_text version_head
versions_told versions now = refl

tables_told : (tables : List (List ℕ × List Column)) (n : ℕ)
    → is_error_line (tables_text tables ++ count_text n) ≡ false
tables_told [] n = refl
tables_told (t ∷ tables) n = refl

schema_told : (tables : Tables) (now : Recorded) → BothKnown (answered (schema_text tables) now)
unfolding schema_text
schema_told tables now = sym (tables_told (entries tables) (length (entries tables)))

sizes_told : (newest : ℕ) (sizes : List Size) (now : Recorded)
    → BothKnown (answered (sizes_text newest sizes) now)
unfolding sizes_text size_text
sizes_told newest [] now = refl
sizes_told newest (s ∷ sizes) now = refl

cursors_told : (cursors : List (ℕ × List ℕ × ℕ × ℕ)) (now : Recorded)
    → BothKnown (answered (cursors_text cursors) now)
unfolding cursors_text cursor_text
cursors_told [] now = refl
cursors_told (c ∷ cursors) now = refl

-- what a session is answered is no error
said_is_none : (answer : Answer) → is_error_line (said_text answer) ≡ false
unfolding begun_text buffered_text changed_text empty_text aborted_text opened_text listing_text
    closed_text
said_is_none (begun version) = refl
said_is_none (buffered count) = refl
said_is_none (committed stamp gained lost) = refl
said_is_none committed_nothing = refl
said_is_none aborted = refl
said_is_none (opened count) = refl
said_is_none (fetched told []) = refl
said_is_none (fetched false (e ∷ entries)) = refl
said_is_none (fetched true (e ∷ entries)) = refl
said_is_none closed = refl

refused_told : (fault : Fault) (now : Recorded) (r : Reply) → BothKnown r
    → BothKnown (refused_or fault now r)
refused_told None now r h = h
refused_told (Some refusal) now r h = refusal_told refusal now

statement_told : (limit : Given) (s : PlainStatement) (now : Recorded)
    → BothKnown (statement_reply limit s now)
statement_told limit (write command) now = refused_told
    (commit_fault now.past now.at limit.limit command) now (put_command command now)
    (put_told command now)
statement_told limit (ask query) now = refused_told (fault_of_query now.past query) now
    (answered (listing_text (tells_periods query.when) (answer now.past query)) now)
    (listing_told (tells_periods query.when) (answer now.past query) now)
statement_told limit (explain query) now = refused_told (fault_of_query now.past query) now
    (answered (explain_text (pieces_told limit.book now.past query)) now)
    (pieces_told_so (pieces_told limit.book now.past query) now)
statement_told limit (pairs left relation right) now = refused_told
    (fault_of_pairs now.past left right) now (answered (pairs_text (related_entries relation
    (answer now.past left) (answer now.past right))) now)
    (pairs_told (related_entries relation (answer now.past left) (answer now.past right)) now)
statement_told limit (aggregate items group query) now = refused_told
    (fault_of_aggregate now.past items group query) now (answered (aggregates_text
    (tells_periods query.when) (aggregated group items (answer now.past query))) now)
    (groups_told (tells_periods query.when) (aggregated group items (answer now.past query)) now)
statement_told limit (session s request) now = refused_told
    (fault_of need_of (world_of limit now) s request) now (request_reply limit s request now)
    (sym (said_is_none (answer_of need_of (world_of limit now) s request)))
statement_told limit show_versions now = versions_told now.past.versions now
statement_told limit (show_schema version) now =
    refused_told (version_fault now.past version) now
    (answered (schema_text (tables_of now.past version)) now)
    (schema_told (tables_of now.past version) now)
statement_told limit show_sizes now = sizes_told (length now.past.versions) now.past.sizes now
statement_told limit show_cursors now = cursors_told (map line_of now.sessions.cursors) now
statement_told limit checkpoint now = refused_told (checkpoint_fault now.past now.at limit.limit)
    now (put_image now) (image_told now)

reading_told : (limit : Given) (r : Reading) (now : Recorded)
    → BothKnown (reading_reply limit r now)
reading_told limit Blank now = refl
reading_told limit (Refused r) now = refusal_told r now
reading_told limit (Whole s) now = statement_told limit s now

pub error_told : (limit : Given) (now : Recorded) (text : List ℕ)
    → (reply limit now text).is_error ≡ is_error_line (reply limit now text).text
unfolding reply
error_told limit now text = reading_told limit (reading text) now
