-- How many commands were put, counted as they are, is how many the script puts.
use Rattle.std.proofs.Common.{◌≡◌, ℕ, Bool, true, false, List, [], ◌∷◌, length, refl, sym, ap, ◌∙◌}
use Rattle.std.proofs.Common.{subst, arith}
use Rattle.std.specs.Prelude.{Option, Some, None}
use Rattle.std.specs.Io.KnownBytes.{Consumes, IsAtEnd}
use Rattle.disk_model.specs.Meaning.{IfKnown}
use Rattle.disk_model.specs.declared.disk.Disk.{Ghosts}
use Rattle.archive_core_file_spec.specs.LogRecords.{LogRecord, commands_in}
use Rattle.script_cli_statement.specs.ArchiveOnDisk.{ArchiveContent, Archive, Opened, IsMounted}
use Rattle.script_parse.specs.Script.{Whole as Text}
use Rattle.script_cli_statement.specs.Given.{Given}
use Rattle.script_cli_statement.specs.Due.{Due, command_due, image_due, commands_due}
use Rattle.script_cli_statement.specs.Puts.{is_error, is_command, put_for}
use Rattle.script_cli_statement.specs.Replies.{Recorded, reply}
use Rattle.script_cli.specs.Output.{script_puts, all_puts}
use Rattle.script_cli_statement.specs.Responses.{put_of}
use Rattle.script_cli.specs.Driving.{CountsPuts, CountsOpening, status_of}
use Rattle.script_cli.specs.Runs.{IsOpening, is_whole}
use Rattle.script_cli.specs.Sampling.{IsCounted}
use Rattle.script_cli.specs.declared.script_run.ScriptRun.{ScriptRun}
use Rattle.script_cli_statement.specs.declared.stop_reason.StopReason.{StopReason}
use Rattle.script_cli_statement.specs.declared.stop_reason.StopReason.TheVariants as reason
use Rattle.script_cli.specs.declared.status.Status.{Status}
use Rattle.script_cli.specs.declared.status.Status.TheVariants.{Done, Refused, Words, ReadFault}
use Rattle.script_cli.specs.declared.status.Status.TheVariants.{WriteFault, DiskFault, NotAJournal}
use Rattle.script_cli.specs.declared.status.Status.TheVariants.{NoMemory, InputLimit}
use Rattle.script_cli_statement.specs.declared.reply_kind.ReplyKind.{ReplyKind}
use Rattle.script_cli.proofs.OneReading.{OpensOnce}
use Rattle.script_cli.proofs.Recording.{part_step}
use Rattle.script_cli_statement.proofs.ReplySteps.{one_if}
use Rattle.script_cli.proofs.Reaching.{Reached, all_parts, consumed_still}
use Rattle.script_cli.proofs.Telling.{told_end}

error_for : (b : Bool) (due : List Due) → is_error (put_for b due) ≡ b
error_for true due = refl
error_for false [] = refl
error_for false (command_due command ∷ due) = refl
error_for false (image_due past ∷ due) = refl

-- ---- one statement: the `ok` line of a command tells that one was put

module _ (limit : Given) (now : Recorded) (text : List ℕ) (put : ReplyKind)
    (is : put ≡ put_of (reply limit now text)) where
  counted : length (commands_due (reply limit now text).puts) ≡ one_if (is_command put)
  counted = (part_step limit now (Text text)).counted
      ∙ ap (λ (p : ReplyKind). one_if (is_command p)) (sym is)

  pub one_put : is_command put ≡ true → length (commands_due (reply limit now text).puts) ≡ 1
  one_put e = counted ∙ ap one_if e

  pub none_put : is_command put ≡ false → length (commands_due (reply limit now text).puts) ≡ 0
  none_put e = counted ∙ ap one_if e

  -- and an `error` line that the reply is one
  pub error_put : is_error put ≡ (reply limit now text).is_error
  error_put = ap is_error is ∙ error_for (reply limit now text).is_error (reply limit now text).puts

-- ---- a script that was read to its end

counts_end : (status : Status) (limit : Given) (start : Recorded) (left : Option (List ℕ))
    (puts : ℕ) → IfKnown left (λ script. puts
    ≡ length (commands_due (script_puts limit start script)))
    → CountsPuts status limit start left puts
counts_end Done limit start left puts told = told
counts_end Refused limit start left puts told = told
counts_end Words limit start left puts told = tt
counts_end ReadFault limit start left puts told = tt
counts_end WriteFault limit start left puts told = tt
counts_end DiskFault limit start left puts told = tt
counts_end (NotAJournal place) limit start left puts told = tt
counts_end NoMemory limit start left puts told = tt
counts_end InputLimit limit start left puts told = tt

pub counts_stopped : (h : StopReason) (limit : Given) (start : Recorded) (left : Option (List ℕ))
    (puts : ℕ) → CountsPuts (status_of h) limit start left puts
counts_stopped reason.WriteFault limit start left puts = tt
counts_stopped reason.DiskFault limit start left puts = tt
counts_stopped reason.NoMemory limit start left puts = tt

pub counts_whole : (status : Status) (limit : Given) (start : Recorded) (left : Option (List ℕ))
    (puts : ℕ) → is_whole status ≡ true → CountsPuts status limit start left puts
    → IfKnown left (λ script. puts ≡ length (commands_due (script_puts limit start script)))
counts_whole Done limit start left puts e counts = counts
counts_whole Refused limit start left puts e counts = counts
counts_whole Words limit start left puts e counts = cc
counts_whole ReadFault limit start left puts e counts = cc
counts_whole WriteFault limit start left puts e counts = cc
counts_whole DiskFault limit start left puts e counts = cc
counts_whole (NotAJournal place) limit start left puts e counts = cc
counts_whole NoMemory limit start left puts e counts = cc
counts_whole InputLimit limit start left puts e counts = cc

pub counts_at_end : {D : Type 0} {g : Ghosts D} (limit : Given) (start : Recorded)
    (o m : Archive D g) (a b c u v : Option (List ℕ)) (s : ScriptRun) (n : ℕ) (status : Status)
    (r : Reached limit start o m a b u v s n)
    → Consumes b c [] → IsAtEnd c → CountsPuts status limit start a s.puts
counts_at_end limit start o m a b c u v s n status r consumes end =
    let whole = ap (λ l. length (commands_due (all_puts limit start l)))
    (all_parts limit start o m r.run s r.begun_so r.taken u v r.fed) in
    let counted : s.puts ≡ length (commands_due (script_puts limit start r.taken)) =
    omega (arith, r.fed.counted, r.begun_so.puts, whole) in
    counts_end status limit start a s.puts (told_end limit start
    (λ script. s.puts ≡ length (commands_due (script_puts limit start script))) a c r.taken
    (consumed_still a b c r.taken r.consumed consumes) end counted)

-- ---- the commands of the file

pub opening_counted : OpensOnce → (seen : Option (List ℕ)) (standing : ArchiveContent) (at : ℕ)
    (opened : Opened) → IfKnown seen (λ file. IsMounted file standing at opened)
    → CountsOpening seen opened.commands
opening_counted once seen standing at opened mounted file opening is opens =
    let here : IfKnown (Some file) (λ x. IsMounted x standing at opened) =
    subst (λ s. IfKnown s (λ x. IsMounted x standing at opened)) is mounted in
    here.counted.commands ∙ ap (λ (l : List LogRecord). length (commands_in l))
    (once file here.log opening here.opens opens)

pub start_counted : (seen : Option (List ℕ)) (start : Recorded) (count : ℕ) → IsOpening start seen
    → CountsOpening seen count → IsCounted start count seen
start_counted None start count opened counts = tt
start_counted (Some file) start count (opening, opens, is) counts =
    (opening, opens, is, counts file opening refl opens)
