-- What a sample wrote and left, by how the reading of its script ended.
use Rattle.std.proofs.Common.{◌≡◌, inl, inr, ◌+◌, ℕ, Bool, true, List, [], ◌++◌, length, refl, sym}
use Rattle.std.proofs.Common.{ap, ◌∙◌, subst, arith}
use Rattle.std.specs.Prelude.{Option, Some, None, Err}
use Rattle.std.specs.Io.KnownBytes.{Appends, Consumes}
use Rattle.std.proofs.Math.Seq.{take-length}
use Rattle.disk_model.specs.Meaning.{Meaning}
use Rattle.archive_core_file_spec.specs.LogRecords.{LogRecord}
use Rattle.archive_core_file_spec.specs.Opening.{Opens}
use Rattle.script_parse.specs.Script.{StatementPart}
use Rattle.script_cli_sample.specs.Summary.{summary}
use Rattle.script_cli_statement.specs.Due.{Due, AreRecordsOf, AreFirstOf, commands_due}
use Rattle.script_cli_statement.specs.Given.{Given}
use Rattle.script_cli_statement.specs.Replies.{Recorded}
use Rattle.script_cli.specs.Output.{output, has_error, script_puts, all_puts, parts_of}
use Rattle.script_cli.specs.Files.{OpensPrefix, EndsAs}
use Rattle.script_cli_statement.specs.StopReasons.{SaidCounted}
use Rattle.script_cli.specs.Driving.{RanScript, CountsPuts, CountsOpening, status_of}
use Rattle.script_cli.specs.Runs.{Ran, RanOpened, SinkCounted, DiskCounted, begun, is_whole}
use Rattle.script_cli.specs.Runs.{logged_in}
use Rattle.script_cli.specs.Sampling.{WroteSummary, SampleLeft, Sampled, RanSample, PutsSummary}
use Rattle.script_cli.specs.Sampling.{ToldBy, EndsSample, told_after, stop_of, was_read}
use Rattle.script_cli_statement.specs.declared.stop_reason.StopReason.{StopReason}
use Rattle.script_cli_statement.specs.declared.stop_reason.StopReason.TheVariants as reason
use Rattle.script_cli.specs.declared.status.Status.{Status}
use Rattle.script_cli.specs.declared.status.Status.TheVariants.{Done, Refused, Words, ReadFault}
use Rattle.script_cli.specs.declared.status.Status.TheVariants.{WriteFault, DiskFault, NotAJournal}
use Rattle.script_cli.specs.declared.status.Status.TheVariants.{NoMemory, InputLimit}
use Rattle.script_cli.proofs.Counting.{counts_whole, start_counted}
use Rattle.script_cli.proofs.DueRecords.{all_first}
use Rattle.script_cli.proofs.Telling.{told_end, ran_whole, attempted_prefix}

-- ---- what is told

pub told_by_reason : (driven : Status) (h : StopReason) (text : List ℕ) (u w : Option (List ℕ))
    → PutsSummary {T = Unit {0}} (Err h) text u w → ToldBy driven (status_of h) text u w
told_by_reason driven reason.WriteFault text u w puts = inr (inl (refl, puts))
told_by_reason driven reason.DiskFault text u w puts = absurd puts
told_by_reason driven reason.NoMemory text u w puts = inr (inr (refl, puts))

stop_wrote : (driven : Status) (text : List ℕ) (faulty : Bool) (u w : Option (List ℕ)) → w ≡ u
    → WroteSummary (stop_of driven) text faulty u w
stop_wrote Done text faulty u w same = same
stop_wrote Refused text faulty u w same = same
stop_wrote Words text faulty u w same = same
stop_wrote ReadFault text faulty u w same = same
stop_wrote WriteFault text faulty u w same = same
stop_wrote DiskFault text faulty u w same = same
stop_wrote (NotAJournal place) text faulty u w same = same
stop_wrote NoMemory text faulty u w same = same
stop_wrote InputLimit text faulty u w same = same

-- ---- the counts of faults

pub sink_told : (h : StopReason) (old new : ℕ) → SaidCounted {T = Unit {0}} (Err h) old new
    → SinkCounted (status_of h) old new
sink_told reason.WriteFault old new said = said
sink_told reason.DiskFault old new said = absurd said
sink_told reason.NoMemory old new said = said

pub sink_whole : (driven : Status) (old new : ℕ) → is_whole driven ≡ true → new ≡ old
    → SinkCounted driven old new
sink_whole Done old new e same = same
sink_whole Refused old new e same = same
sink_whole Words old new e same = cc
sink_whole ReadFault old new e same = cc
sink_whole WriteFault old new e same = cc
sink_whole DiskFault old new e same = cc
sink_whole (NotAJournal place) old new e same = cc
sink_whole NoMemory old new e same = cc
sink_whole InputLimit old new e same = cc

pub sink_stop : (driven : Status) (n : ℕ) → SinkCounted (stop_of driven) n n
sink_stop Done n = refl
sink_stop Refused n = refl
sink_stop Words n = refl
sink_stop ReadFault n = refl
sink_stop WriteFault n = refl
sink_stop DiskFault n = refl
sink_stop (NotAJournal place) n = refl
sink_stop NoMemory n = refl
sink_stop InputLimit n = refl

disk_whole : (driven : Status) (old new : ℕ) → is_whole driven ≡ true → DiskCounted driven old new
    → new ≡ old
disk_whole Done old new e counted = counted
disk_whole Refused old new e counted = counted
disk_whole Words old new e counted = cc
disk_whole ReadFault old new e counted = cc
disk_whole WriteFault old new e counted = cc
disk_whole DiskFault old new e counted = cc
disk_whole (NotAJournal place) old new e counted = cc
disk_whole NoMemory old new e counted = cc
disk_whole InputLimit old new e counted = cc

pub disk_told : (driven : Status) (h : StopReason) (text : List ℕ) (u w : Option (List ℕ))
    (old new : ℕ)
    → is_whole driven ≡ true → PutsSummary {T = Unit {0}} (Err h) text u w
    → DiskCounted driven old new
    → DiskCounted (status_of h) old new
disk_told driven reason.WriteFault text u w old new e puts counted =
    disk_whole driven old new e counted
disk_told driven reason.DiskFault text u w old new e puts counted = absurd puts
disk_told driven reason.NoMemory text u w old new e puts counted =
    disk_whole driven old new e counted

pub disk_stop : (driven : Status) (old new : ℕ) → DiskCounted driven old new
    → DiskCounted (stop_of driven) old new
disk_stop Done old new counted = counted
disk_stop Refused old new counted = counted
disk_stop Words old new counted = counted
disk_stop ReadFault old new counted = counted
disk_stop WriteFault old new counted = counted
disk_stop DiskFault old new counted = counted
disk_stop (NotAJournal place) old new counted = counted
disk_stop NoMemory old new counted = counted
disk_stop InputLimit old new counted = counted

-- ---- what is left on the disk

ends_with_all : (status : Status) (opening done log : List LogRecord) (c : List ℕ)
    → (status ≡ DiskFault → ⊥) → EndsAs status opening done log c → Opens c (opening ++ log)
ends_with_all Done opening done log c not_failed ends = ends
ends_with_all Refused opening done log c not_failed ends = ends
ends_with_all Words opening done log c not_failed ends = ends
ends_with_all ReadFault opening done log c not_failed ends = ends
ends_with_all WriteFault opening done log c not_failed ends = ends
ends_with_all DiskFault opening done log c not_failed ends = absurd (not_failed refl)
ends_with_all (NotAJournal place) opening done log c not_failed ends = ends
ends_with_all NoMemory opening done log c not_failed ends = ends
ends_with_all InputLimit opening done log c not_failed ends = ends

whole_not_failed : (status : Status) → is_whole status ≡ true → status ≡ DiskFault → ⊥
whole_not_failed status e is = let here : is_whole DiskFault ≡ true =
    subst (λ s. is_whole s ≡ true) is e in cc

stop_not_failed : (driven : Status) → (stop_of driven ≡ DiskFault → ⊥) → driven ≡ DiskFault → ⊥
stop_not_failed driven not_failed is = not_failed (ap stop_of is)

stop_not_read : (driven : Status) → was_read (stop_of driven) ≡ true → ⊥
stop_not_read Done e = cc
stop_not_read Refused e = cc
stop_not_read Words e = cc
stop_not_read ReadFault e = cc
stop_not_read WriteFault e = cc
stop_not_read DiskFault e = cc
stop_not_read (NotAJournal place) e = cc
stop_not_read NoMemory e = cc
stop_not_read InputLimit e = cc

all_of_them : (opening log : List LogRecord) (c : List ℕ) → Opens c (opening ++ log)
    → OpensPrefix opening log c
all_of_them opening log c opens = (
  length log,
  omega arith,
  subst (λ (l : List LogRecord). Opens c (opening ++ l)) (sym (take-length log)) opens,
)

-- a whole reading answered all statements
none_left : (limit : Given) (start : Recorded) (status : Status) (a c u w : Option (List ℕ))
    (ran : Ran limit start status a c u w) → is_whole status ≡ true
    → parts_of ran.taken ≡ ran.whole ++ begun status ran.rest
none_left limit start Done a c u w ran e = ran.are ∙ ap (λ l. ran.whole ++ l) ran.wrote.0.answered
none_left limit start Refused a c u w ran e = ran.are
    ∙ ap (λ l. ran.whole ++ l) ran.wrote.0.answered
none_left limit start Words a c u w ran e = cc
none_left limit start ReadFault a c u w ran e = cc
none_left limit start WriteFault a c u w ran e = cc
none_left limit start DiskFault a c u w ran e = cc
none_left limit start (NotAJournal place) a c u w ran e = cc
none_left limit start NoMemory a c u w ran e = cc
none_left limit start InputLimit a c u w ran e = cc

-- and took the whole script
all_taken : (limit : Given) (start : Recorded) (status : Status) (script : List ℕ)
    (c u w : Option (List ℕ)) (ran : Ran limit start status (Some script) c u w)
    → is_whole status ≡ true → script ≡ ran.taken
all_taken limit start Done script c u w ran e =
    told_end limit start (λ s. s ≡ ran.taken) (Some script) c ran.taken ran.consumed ran.wrote.0.end
    refl
all_taken limit start Refused script c u w ran e =
    told_end limit start (λ s. s ≡ ran.taken) (Some script) c ran.taken ran.consumed ran.wrote.0.end
    refl
all_taken limit start Words script c u w ran e = cc
all_taken limit start ReadFault script c u w ran e = cc
all_taken limit start WriteFault script c u w ran e = cc
all_taken limit start DiskFault script c u w ran e = cc
all_taken limit start (NotAJournal place) script c u w ran e = cc
all_taken limit start NoMemory script c u w ran e = cc
all_taken limit start InputLimit script c u w ran e = cc

faulty_taken : (limit : Given) (start : Recorded) (a c u w : Option (List ℕ)) (text : List ℕ)
    (status : Status) (ran : Ran limit start status a c u w) (x y : Option (List ℕ))
    → is_whole status ≡ true → Appends x y text
    → WroteSummary status text (has_error limit start ran.taken) x y
faulty_taken limit start a c u w text Done ran x y e all = (all, ran.wrote.1)
faulty_taken limit start a c u w text Refused ran x y e all = (all, ran.wrote.1)
faulty_taken limit start a c u w text Words ran x y e all = cc
faulty_taken limit start a c u w text ReadFault ran x y e all = cc
faulty_taken limit start a c u w text WriteFault ran x y e all = cc
faulty_taken limit start a c u w text DiskFault ran x y e all = cc
faulty_taken limit start a c u w text (NotAJournal place) ran x y e all = cc
faulty_taken limit start a c u w text NoMemory ran x y e all = cc
faulty_taken limit start a c u w text InputLimit ran x y e all = cc

-- what the script puts begins with what was tried
more_of : (limit : Given) (now : Recorded) (driven : Status) (script : List ℕ)
    (left : Option (List ℕ)) (taken : List ℕ) (whole rest : List StatementPart)
    → Consumes (Some script) left taken → parts_of taken ≡ whole ++ rest
    → (more : List Due) × (script_puts limit now script
    ≡ all_puts limit now (whole ++ begun driven rest) ++ more)
more_of limit now driven script None taken whole rest k are = absurd k
more_of limit now driven script (Some ys) taken whole rest k are =
    let f = attempted_prefix limit now driven taken ys whole rest are in
    (f.0, ap (script_puts limit now) k ∙ f.1)

module _ (limit : Given) (script : List ℕ) (driven : Status) (left : Option (List ℕ))
    (kept : List ℕ) (old new : Meaning) (r : RanOpened limit driven (Some script) left (Some [])
    (Some kept) old new) where
  abbrev log : List LogRecord
  log = logged_in r.log

  -- they are records of the first of what the script puts
  its_first : AreFirstOf (script_puts limit r.start script) log
  its_first =
      let more = more_of limit r.start driven script left r.ran.taken r.ran.whole r.ran.rest
      r.ran.consumed r.ran.are in
      subst (λ (l : List Due). AreFirstOf l log) (sym more.1)
      (all_first (all_puts limit r.start (r.ran.whole ++ begun driven r.ran.rest)) more.0 log
      r.log.all_are)

  prefix_given : (file : List ℕ) (opening : List LogRecord) → (driven ≡ DiskFault → ⊥)
      → old.seen ≡ Some file → Opens file opening → (c : List ℕ) × (new.seen ≡ Some c)
      × OpensPrefix opening log c
  prefix_given file opening not_failed is opens =
      let given = r.disk.given file opening not_failed is opens in (
        given.0,
        given.1,
        all_of_them opening log given.0
            (ends_with_all driven opening r.log.done log given.0 not_failed given.2),
      )

  module _ (whole : is_whole driven ≡ true) where
    script_taken : script ≡ r.ran.taken
    script_taken = all_taken limit r.start driven script left (Some []) (Some kept) r.ran whole

    its_all : AreRecordsOf (script_puts limit r.start script) log
    its_all = subst (λ (l : List Due). AreRecordsOf l log)
        (sym (ap (all_puts limit r.start) (none_left limit r.start driven (Some script) left
        (Some []) (Some kept) r.ran whole)) ∙ sym (ap (script_puts limit r.start) script_taken))
        r.log.all_are

    left_whole : (status : Status) → SampleLeft limit script r.start status old new
    left_whole status = record {
      log = log;
      first = its_first;
      all = λ read. its_all;
      any_moment = r.disk.any_moment;
      exit = λ file opening read honest is opens c may.
          ends_with_all driven opening r.log.done log c (whole_not_failed driven whole)
          (r.disk.exit file opening honest is opens c may);
      given = λ file opening not_failed is opens.
          prefix_given file opening (whole_not_failed driven whole) is opens;
      holds = λ file opening read is opens. r.disk.holds file opening
          (whole_not_failed driven whole) is opens;
    }

    kept_is : kept ≡ output limit r.start script
    kept_is = ran_whole limit r.start driven (Some script) left (Some []) (Some kept) r.ran whole

    wrote_told : (status : Status) (text : List ℕ) (u w : Option (List ℕ))
        → ToldBy driven status text u w → WroteSummary status text (has_error limit r.start script)
        u w
    wrote_told status text u w (inl (is, all)) =
        subst (λ s. WroteSummary s text (has_error limit r.start script) u w) (sym is)
        (subst (λ x. WroteSummary driven text (has_error limit r.start x) u w) (sym script_taken)
        (faulty_taken limit r.start (Some script) left (Some []) (Some kept) text driven r.ran u
        w whole all))
    wrote_told status text u w (inr (inl (is, less))) =
        subst (λ s. WroteSummary s text (has_error limit r.start script) u w) (sym is) less
    wrote_told status text u w (inr (inr (is, same))) =
        subst (λ s. WroteSummary s text (has_error limit r.start script) u w) (sym is) same

  left_stop : SampleLeft limit script r.start (stop_of driven) old new
  left_stop = record {
    log = log;
    first = its_first;
    all = λ read. absurd (stop_not_read driven read);
    any_moment = r.disk.any_moment;
    exit = λ file opening read honest is opens c may. absurd (stop_not_read driven read);
    given = λ file opening not_failed is opens.
        prefix_given file opening (stop_not_failed driven not_failed) is opens;
    holds = λ file opening read is opens. absurd (stop_not_read driven read);
  }

  -- the sample, by how the reading of its script ended
  here : (size count : ℕ) (status : Status) (u w : Option (List ℕ)) → CountsOpening old.seen count
      → EndsSample driven status (summary size
      (count + length (commands_due (script_puts limit r.start script))) kept) u w
      → Sampled size limit script status u w old new
  here size count status u w counts (inl (whole, told)) = record {
    start = r.start;
    count = count;
    opened = start_counted old.seen r.start count r.opened counts;
    wrote = wrote_told whole status (told_after size limit r.start count script) u w
        (subst (λ k. ToldBy driven status (summary size
        (count + length (commands_due (script_puts limit r.start script))) k) u w)
        (kept_is whole) told);
    disk = left_whole whole status;
  }
  here size count status u w counts (inr (is, same)) = record {
    start = r.start;
    count = count;
    opened = start_counted old.seen r.start count r.opened counts;
    wrote = subst (λ s. WroteSummary s (told_after size limit r.start count script)
        (has_error limit r.start script) u w) (sym is)
        (stop_wrote driven (told_after size limit r.start count script)
        (has_error limit r.start script) u w same);
    disk = subst (λ s. SampleLeft limit script r.start s old new) (sym is) left_stop;
  }

  pub sample_is : (size count : ℕ) (status : Status) (u w : Option (List ℕ)) (start : Recorded)
      → r.start ≡ start → CountsOpening old.seen count
      → EndsSample driven status (summary size
      (count + length (commands_due (script_puts limit start script))) kept) u w
      → Sampled size limit script status u w old new
  sample_is size count status u w start is counts ended =
      here size count status u w counts (subst
      (λ s. EndsSample driven status (summary size
      (count + length (commands_due (script_puts limit s script))) kept) u w) (sym is) ended)

-- ---- the reading of its script

module _ (size : ℕ) (limit : Given) (script : List ℕ) (start : Recorded) (count : ℕ)
    (status : Status) (u w : Option (List ℕ)) (driven : Status) (made : List ℕ)
    (left : Option (List ℕ)) (before kept : List ℕ) (old new : Meaning) (at : ℕ)
    (is : made ≡ script) (none : before ≡ [])
    (ran_script : RanScript limit start driven (Some made) left (Some before) (Some kept) old new
    at) where
  drove_script : RanScript limit start driven (Some script) left (Some []) (Some kept) old new at
  drove_script = subst (λ s. RanScript limit start driven (Some s) left (Some []) (Some kept) old
      new
      at) is (subst (λ s. RanScript limit start driven (Some made) left (Some s) (Some kept) old new
      at)
      none ran_script)

  pub sample_stops : status ≡ stop_of driven → w ≡ u
      → RanSample size limit script start count status u w old new at
  sample_stops ends same = record {
    driven = driven;
    left = left;
    kept = kept;
    ran_script = drove_script;
    ended = inr (ends, same);
  }

  pub sample_tells : (puts : ℕ) (said : List ℕ) → is_whole driven ≡ true
      → CountsPuts driven limit start (Some made) puts → said ≡ kept
      → ToldBy driven status (summary size (count + puts) said) u w
      → RanSample size limit script start count status u w old new at
  sample_tells puts said whole counts same told =
      let counted : puts ≡ length (commands_due (script_puts limit start script)) =
      subst (λ s. puts ≡ length (commands_due (script_puts limit start s))) is
      (counts_whole driven limit start (Some made) puts whole counts) in
      record {
        driven = driven;
        left = left;
        kept = kept;
        ran_script = drove_script;
        ended = inl (
          whole,
          subst (λ n. ToldBy driven status (summary size (count + n) kept) u w)
              counted (subst (λ k. ToldBy driven status (summary size (count + puts) k) u w) same
              told),
        );
      }
