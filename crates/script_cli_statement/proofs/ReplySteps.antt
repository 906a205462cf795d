-- What stands after a statement is the past of the records that it put, and the gate after them.
use Rattle.std.proofs.Common.{◌≡◌, ℕ, ◌+◌, ◌-◌, Bool, true, false, List, [], ◌∷◌, ◌++◌}
use Rattle.std.proofs.Common.{length}
use Rattle.std.proofs.Common.{refl, sym, ap, ◌∙◌, subst, arith, length-append}
use Rattle.std.specs.Prelude.{Option, Some, None, if◌then◌else◌}
use Rattle.std.specs.Int.{w64, to_be_bytes}
use Rattle.std.proofs.lemmas.List.{append-nil, map-append}
use Rattle.smo_ops_types.specs.Commands.{PlainCommand}
use Rattle.smo_ops_spec.specs.Checks.{Fault}
use Rattle.smo_ops_spec.specs.Accepts.{command_fault}
use Rattle.smo_ops_spec.specs.Past as pasts
use Rattle.smo_ops_spec.specs.Past.{Past, past_with}
use Rattle.smo_ops_spec.proofs.Firsts.{none_of_first}
use Rattle.temporal_lang_spec.specs.Accepted.{version_fault, fault_of_query}
use Rattle.journal.specs.Records.{Record, before_gate, body}
use Rattle.journal.proofs.Putting.{before_gate-push}
use Rattle.archive_core_file_spec.specs.LogRecords.{LogRecord, logged, checkpointed, record_of}
use Rattle.archive_core_file_spec.specs.LogRecords.{records_of}
use Rattle.archive_core_file_spec.specs.LogRecords.{gate_after, after_record, after_records}
use Rattle.archive_core_file_spec.specs.LogRecords.{AreSound}
use Rattle.archive_core_file_spec.proofs.Records.{after_append}
use Rattle.script_cli_vault.specs.ArchiveOnDisk.{commit_fault}
use Rattle.script_cli_vault.proofs.ArchiveOnDisk.{committed_by_past}
use Rattle.script_cli_vault.specs.ArchiveOnDisk.{checkpoint_fault}
use Rattle.smo_ops_types.specs.Changes.{PlainChange}
use Rattle.sessions.specs.Shared.{newest}
use Rattle.sessions.specs.SessionStates.{PlainTransaction}
use Rattle.sessions.specs.Requests.{Request, beginning, buffering, committing, aborting}
use Rattle.sessions.specs.Requests.{opening as opening_cursor, fetching, closing}
use Rattle.sessions.specs.Steps as steps
use Rattle.sessions.specs.Steps.{changes_so_far}
use Rattle.script_cli_vault.specs.Shown.{need_of}
use Rattle.script_parse.specs.Statements.{PlainStatement, write, ask, explain, show_versions}
use Rattle.script_parse.specs.Statements.{show_schema, show_sizes, show_cursors, checkpoint, pairs}
use Rattle.script_parse.specs.Statements.{aggregate, session}
use Rattle.temporal_lang_spec.specs.PairFaults.{fault_of_pairs}
use Rattle.temporal_lang_spec.specs.AggregateFaults.{fault_of_aggregate}
use Rattle.script_parse.specs.Reading.{Reading, Blank, Refused, Whole, reading}
use Rattle.script_cli_statement.specs.Given.{Given}
use Rattle.script_cli_statement.specs.Due.{Due, command_due, image_due, due_length, past_after_due}
use Rattle.script_cli_statement.specs.Due.{commands_due, IsRecordOf, AreRecordsOf, AreFirstOf}
use Rattle.script_cli_statement.specs.Puts.{is_command, put_for}
use Rattle.script_cli_statement.specs.Replies.{Recorded, StandsAfter, recorded_with, Reply}
use Rattle.script_cli_statement.specs.Replies.{answered, refused_or, put, shared_by, world_of}
use Rattle.script_cli_statement.specs.Replies.{changes_due, request_due, request_reply}
use Rattle.script_cli_statement.specs.Replies.{session_reply, reply, statement_reply}
use Rattle.script_cli_statement.specs.Replies.{reading_reply}
use Rattle.script_cli_statement.specs.Responses.{put_of}

-- ---- one record more

record_length : (r : Record) → length (body r) ≡ 9 + length r.1
record_length r = omega (arith, length-append (to_be_bytes w64 (length r.1)) r.1)

gate_push : (log : List LogRecord) (r : LogRecord)
    → gate_after (log ++ r ∷ []) ≡ gate_after log + 10 + length (record_of r).1
gate_push log r =
    ap (λ (l : List Record). length (before_gate l)) (map-append record_of log (r ∷ []))
    ∙ omega (
      arith,
      ap (λ (l : List ℕ). length l) (before_gate-push (records_of log) (record_of r)),
      length-append (before_gate (records_of log)) (1 ∷ body (record_of r)),
      record_length (record_of r),
    )

its_length : (due : Due) (r : LogRecord) → IsRecordOf due r
    → length (record_of r).1 ≡ due_length due
its_length (command_due command) (logged c) is =
    ap (λ (x : PlainCommand). length (record_of (logged x)).1) is
its_length (command_due command) (checkpointed image) is = absurd is
its_length (image_due past) (logged c) is = absurd is
its_length (image_due past) (checkpointed image) is = is.length

-- what may be put after a past: its record is sound there, and leads to the past after it
record IsDueAt (past : Past) (due : Due) : Type 0 where
  sound : (r : LogRecord) → IsRecordOf due r → AreSound past (r ∷ [])
  leads : (r : LogRecord) → IsRecordOf due r → after_record past r ≡ past_after_due past due

command_there : (past : Past) (command : PlainCommand) → command_fault past command ≡ None
    → IsDueAt past (command_due command)
command_there past command accepted = record { sound = sound; leads = leads }
  where
    sound : (r : LogRecord) → IsRecordOf (command_due command) r → AreSound past (r ∷ [])
    sound (logged c) is = (subst (λ x. command_fault past x ≡ None) (sym is) accepted, tt)
    sound (checkpointed image) is = absurd is

    leads : (r : LogRecord) → IsRecordOf (command_due command) r
        → after_record past r ≡ past_with past command
    leads (logged c) is = ap (past_with past) is
    leads (checkpointed image) is = absurd is

image_at : (past : Past) → IsDueAt past (image_due past)
image_at past = record { sound = sound; leads = leads }
  where
    sound : (r : LogRecord) → IsRecordOf (image_due past) r → AreSound past (r ∷ [])
    sound (logged c) is = absurd is
    sound (checkpointed image) is = (is.shows, tt)

    leads : (r : LogRecord) → IsRecordOf (image_due past) r → after_record past r ≡ past
    leads (logged c) is = absurd is
    leads (checkpointed image) is = is.shows

-- with one record more
stands_push : (records : List LogRecord) (now : Recorded) (due : Due) (r : LogRecord)
    → StandsAfter records now → IsDueAt now.past due → IsRecordOf due r
    → StandsAfter (records ++ r ∷ []) (recorded_with now due)
stands_push records now due r stands here is = record {
  past = sym (here.leads r is) ∙ ap (λ past. after_record past r) stands.past
      ∙ sym (after_append pasts.beginning records (r ∷ []));
  at = ap (λ n. n + 10 + due_length due) stands.at
      ∙ sym (gate_push records r ∙ ap (λ n. gate_after records + 10 + n) (its_length due r is));
}

-- with none
stands_still : (records log : List LogRecord) (now next : Recorded) → next.past ≡ now.past
    → next.at ≡ now.at → log ≡ [] → StandsAfter records now → StandsAfter (records ++ log) next
stands_still records log now next past at none stands =
    subst (λ (l : List LogRecord). StandsAfter l next)
    (sym (ap (λ (l : List LogRecord). records ++ l) none ∙ append-nil records))
    (record { past = past ∙ stands.past; at = at ∙ stands.at })

-- ---- a statement

abbrev pub one_if : Bool → ℕ
one_if b = if b then 1 else 0

-- it puts nothing and changes nothing, or one thing that may be put there
pub record IsStep (now : Recorded) (reply : Reply) : Type 0 where
  pub sound : (log : List LogRecord) → AreFirstOf reply.puts log → AreSound now.past log
  pub past : (log : List LogRecord) → AreRecordsOf reply.puts log
      → reply.after.past ≡ after_records now.past log
  pub recorded_is : (records log : List LogRecord) → StandsAfter records now
      → AreRecordsOf reply.puts log → StandsAfter (records ++ log) reply.after
  pub counted : length (commands_due reply.puts) ≡ one_if (is_command (put_of reply))

pub none_of : (log : List LogRecord) → AreRecordsOf [] log → log ≡ []
none_of [] are = refl
none_of (r ∷ log) are = absurd are

pub none_first : (log : List LogRecord) → AreFirstOf [] log → log ≡ []
none_first [] are = refl
none_first (r ∷ log) are = absurd are

no_command : (b : Bool) → is_command (put_for b []) ≡ false
no_command true = refl
no_command false = refl

-- it puts nothing, and the past and the gate are as they were
pub puts_nothing : (now : Recorded) (reply : Reply) → reply.puts ≡ []
    → reply.after.past ≡ now.past → reply.after.at ≡ now.at → IsStep now reply
puts_nothing now reply none past at = record {
  sound = λ log are. subst (AreSound now.past)
      (sym (none_first log (subst (λ l. AreFirstOf l log) none are))) tt;
  past = λ log are. past ∙ ap (after_records now.past) (sym (empty log are));
  recorded_is = λ records log stands are.
      stands_still records log now reply.after past at (empty log are) stands;
  counted = ap (λ (l : List Due). length (commands_due l)) none
      ∙ ap one_if (sym (no_command reply.is_error))
      ∙ ap (λ (l : List Due). one_if (is_command (put_for reply.is_error l))) (sym none);
}
  where
    empty : (log : List LogRecord) → AreRecordsOf reply.puts log → log ≡ []
    empty log are = none_of log (subst (λ l. AreRecordsOf l log) none are)

-- and so is all else
pub unchanged : (now : Recorded) (reply : Reply) → reply.puts ≡ [] → reply.after ≡ now
    → IsStep now reply
unchanged now reply none same = puts_nothing now reply none
    (ap (λ (n : Recorded). n.past) same) (ap (λ (n : Recorded). n.at) same)

refused_step : (now : Recorded) (fault : Fault) (text : List ℕ)
    → IsStep now (refused_or fault now (answered text now))
refused_step now None text = unchanged now (answered text now) refl refl
refused_step now (Some r) text = unchanged now (refused_or (Some r) now (answered text now)) refl
    refl

one_counted : (due : Due) → length (commands_due (due ∷ []))
    ≡ one_if (is_command (put_for false (due ∷ [])))
one_counted (command_due command) = refl
one_counted (image_due past) = refl

put_step : (now : Recorded) (text : List ℕ) (due : Due) (fault : Fault)
    → (fault ≡ None → IsDueAt now.past due) → IsStep now (refused_or fault now (put text due now))
put_step now text due (Some r) here = unchanged now (refused_or (Some r) now (put text due now))
    refl refl
put_step now text due None here = record {
  sound = sound;
  past = past;
  recorded_is = recorded_so;
  counted = one_counted due;
}
  where
    sound : (log : List LogRecord) → AreFirstOf (due ∷ []) log → AreSound now.past log
    sound [] are = tt
    sound (r ∷ []) are = (here refl).sound r are.0
    sound (r ∷ s ∷ log) are = absurd are.1

    past : (log : List LogRecord) → AreRecordsOf (due ∷ []) log
        → past_after_due now.past due ≡ after_records now.past log
    past [] are = absurd are
    past (r ∷ []) are = sym ((here refl).leads r are.0)
    past (r ∷ s ∷ log) are = absurd are.1

    recorded_so : (records log : List LogRecord) → StandsAfter records now
        → AreRecordsOf (due ∷ []) log → StandsAfter (records ++ log) (recorded_with now due)
    recorded_so records [] stands are = absurd are
    recorded_so records (r ∷ []) stands are =
        stands_push records now due r stands (here refl) are.0
    recorded_so records (r ∷ s ∷ log) stands are = absurd are.1

-- a reply that puts one thing which may be put there
one_step : (now : Recorded) (reply : Reply) (due : Due) → reply.puts ≡ due ∷ []
    → reply.after.past ≡ past_after_due now.past due
    → reply.after.at ≡ now.at + 10 + due_length due → reply.is_error ≡ false
    → IsDueAt now.past due → IsStep now reply
one_step now reply due puts past at told here = record {
  sound = λ log are. whole.sound log (subst (λ l. AreFirstOf l log) puts are);
  past = λ log are. past ∙ whole.past log (subst (λ l. AreRecordsOf l log) puts are);
  recorded_is = λ records log stands are.
      let h = whole.recorded_is records log stands (subst (λ l. AreRecordsOf l log) puts are) in
      record { past = past ∙ h.past; at = at ∙ h.at };
  counted = ap (λ (l : List Due). length (commands_due l)) puts ∙ one_counted due
      ∙ sym (ap (λ b. one_if (is_command (put_for b reply.puts))) told
      ∙ ap (λ (l : List Due). one_if (is_command (put_for false l))) puts);
}
  where
    whole : IsStep now (refused_or None now (put [] due now))
    whole = put_step now [] due None (λ e. here)

-- ---- what a session asks for

-- a request that puts nothing
told_step : (limit : Given) (now : Recorded) (s : ℕ) (request : Request) (fault : Fault)
    → request_due now.sessions s request ≡ []
    → (steps.shared_then need_of (world_of limit now) s request).past ≡ now.past
    → (steps.shared_then need_of (world_of limit now) s request).place ≡ now.at
    → IsStep now (refused_or fault now (request_reply limit s request now))
told_step limit now s request None none past at =
    puts_nothing now (request_reply limit s request now) none past at
told_step limit now s request (Some r) none past at =
    unchanged now (refused_or (Some r) now (request_reply limit s request now)) refl refl

-- the one command of a COMMIT is due where it is accepted
commit_due : (limit : Given) (now : Recorded) (s stamp : ℕ) (t : Option PlainTransaction)
    (c : PlainChange) (changes : List PlainChange) → changes_so_far t ≡ c ∷ changes
    → steps.commit_fault need_of (shared_by limit now) s stamp t ≡ None
    → IsDueAt now.past (command_due (steps.command_at stamp (c ∷ changes)))
commit_due limit now s stamp t c changes are e =
    let shared = shared_by limit now in
    let command = steps.command_at stamp (c ∷ changes) in
    let all = none_of_first (steps.schema_fault s (newest shared) t)
    (steps.changes_fault need_of shared stamp (changes_so_far t) ∷ []) e in
    let its = none_of_first (steps.changes_fault need_of shared stamp (changes_so_far t)) [] all.1
    in
    let accepted : steps.fault_of_command need_of shared command ≡ None =
    ap (steps.changes_fault need_of shared stamp) (sym are) ∙ its.0 in
    command_there now.past command (none_of_first (command_fault now.past command)
    (steps.room_fault shared (need_of command) ∷ []) accepted).0

commit_step : (limit : Given) (now : Recorded) (s stamp : ℕ) (fault : Fault)
    → steps.fault_of need_of (world_of limit now) s (committing stamp) ≡ fault
    → IsStep now (refused_or fault now (request_reply limit s (committing stamp) now))
commit_step limit now s stamp (Some r) e = unchanged now
    (refused_or (Some r) now (request_reply limit s (committing stamp) now)) refl refl
commit_step limit now s stamp None e =
    by (changes_so_far (now.sessions.transaction s)) refl
  where
    by : (changes : List PlainChange) → changes_so_far (now.sessions.transaction s) ≡ changes
        → IsStep now (request_reply limit s (committing stamp) now)
    by [] are = puts_nothing now (request_reply limit s (committing stamp) now)
        (ap (changes_due stamp) are)
        (ap (λ l. (steps.shared_after need_of stamp l (shared_by limit now)).past) are)
        (ap (λ l. (steps.shared_after need_of stamp l (shared_by limit now)).place) are)
    by (c ∷ changes) are =
        let command = steps.command_at stamp (c ∷ changes) in
        let here = commit_due limit now s stamp (now.sessions.transaction s) c changes are e in
        let next : now.at + need_of command - 1 ≡ now.at + 10 + due_length (command_due command) =
        omega arith in
        one_step now (request_reply limit s (committing stamp) now) (command_due command)
        (ap (changes_due stamp) are)
        (ap (λ l. (steps.shared_after need_of stamp l (shared_by limit now)).past) are)
        (ap (λ l. (steps.shared_after need_of stamp l (shared_by limit now)).place) are ∙ next)
        refl here

session_step : (limit : Given) (now : Recorded) (s : ℕ) (request : Request)
    → IsStep now (session_reply limit s request now)
session_step limit now s (committing stamp) = commit_step limit now s stamp
    (steps.fault_of need_of (world_of limit now) s (committing stamp)) refl
session_step limit now s beginning = told_step limit now s beginning
    (steps.fault_of need_of (world_of limit now) s beginning) refl refl refl
session_step limit now s (buffering changes) = told_step limit now s (buffering changes)
    (steps.fault_of need_of (world_of limit now) s (buffering changes)) refl refl refl
session_step limit now s aborting = told_step limit now s aborting
    (steps.fault_of need_of (world_of limit now) s aborting) refl refl refl
session_step limit now s (opening_cursor name query) =
    told_step limit now s (opening_cursor name query)
    (steps.fault_of need_of (world_of limit now) s (opening_cursor name query)) refl refl refl
session_step limit now s (fetching name count) = told_step limit now s (fetching name count)
    (steps.fault_of need_of (world_of limit now) s (fetching name count)) refl refl refl
session_step limit now s (closing name) = told_step limit now s (closing name)
    (steps.fault_of need_of (world_of limit now) s (closing name)) refl refl refl

statement_step : (limit : Given) (now : Recorded) (s : PlainStatement)
    → IsStep now (statement_reply limit s now)
statement_step limit now (write command) =
    put_step now _ (command_due command) (commit_fault now.past now.at limit.limit command)
    (λ e. command_there now.past command
    (committed_by_past now.past now.at limit.limit command e))
statement_step limit now (ask query) = refused_step now (fault_of_query now.past query) _
statement_step limit now (explain query) = refused_step now (fault_of_query now.past query) _
statement_step limit now (pairs left relation right) =
    refused_step now (fault_of_pairs now.past left right) _
statement_step limit now (aggregate items group query) =
    refused_step now (fault_of_aggregate now.past items group query) _
statement_step limit now (session s request) = session_step limit now s request
statement_step limit now show_versions = unchanged now (statement_reply limit show_versions now)
    refl refl
statement_step limit now (show_schema version) = refused_step now (version_fault now.past version) _
statement_step limit now show_sizes = unchanged now (statement_reply limit show_sizes now) refl refl
statement_step limit now show_cursors =
    unchanged now (statement_reply limit show_cursors now) refl refl
statement_step limit now checkpoint = put_step now _ (image_due now.past)
    (checkpoint_fault now.past now.at limit.limit) (λ e. image_at now.past)

reading_step : (limit : Given) (now : Recorded) (r : Reading)
    → IsStep now (reading_reply limit r now)
reading_step limit now Blank = unchanged now (reading_reply limit Blank now) refl refl
reading_step limit now (Refused r) = unchanged now (reading_reply limit (Refused r) now) refl refl
reading_step limit now (Whole s) = statement_step limit now s

pub reply_step : (limit : Given) (now : Recorded) (text : List ℕ)
    → IsStep now (reply limit now text)
unfolding reply
reply_step limit now text = reading_step limit now (reading text)
