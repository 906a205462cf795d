-- How far a run has come, and what it leaves.
use Rattle.std.proofs.Common.{◌≡◌, ◌≤◌, ◌+◌, ℕ, false, refl, List, [], ◌∷◌, ◌++◌, length, take, sym}
use Rattle.std.proofs.Common.{ap, ◌∙◌, subst, append-nil, arith, length-append, inl, inr}
use Rattle.std.specs.Prelude.{Option, ◌||◌}
use Rattle.std.specs.Io.KnownBytes.{Consumes, Appends, IsAtEnd, Keeps}
use Rattle.std.proofs.KnownBytes.{Consumes-trans, Consumes-kept}
use Rattle.std.proofs.lemmas.List.{take_at}
use Rattle.prima_io.specs.Moves.{AppendsPrefix}
use Rattle.disk_model.specs.Meaning.{IsValid}
use Rattle.disk_model.specs.declared.disk.Disk.{Ghosts}
use Rattle.script_cli_statement.specs.ArchiveOnDisk.{Archive, below, place_of}
use Rattle.sessions.specs.SessionStates.{no_sessions}
use Rattle.sessions.specs.Meaning.{sessions_of}
use Rattle.script_parse.specs.Script.{StatementPart, parts_from, tail_from, ending}
use Rattle.script_parse.specs.Splitting.{fresh}
use Rattle.archive_core_file_spec.specs.LogRecords.{LogRecord}
use Rattle.script_cli_statement.specs.Due.{Due, AreRecordsOf}
use Rattle.script_cli_statement.specs.Putting.{HasPut}
use Rattle.script_cli_statement.specs.Given.{Given}
use Rattle.script_cli_statement.specs.Replies.{Recorded, IsFresh}
use Rattle.script_cli.specs.Output.{part_reply, all_puts, recorded_after, any_error, parts_of}
use Rattle.script_cli.specs.Output.{ending_of, has_error, tail_text, tail_is_due}
use Rattle.script_cli.specs.declared.script_run.ScriptRun.{ScriptRun}
use Rattle.script_cli_statement.specs.declared.stop_reason.StopReason.{StopReason}
use Rattle.script_cli_statement.specs.declared.stop_reason.StopReason.TheVariants as reason
use Rattle.script_cli_statement.specs.Responses.{RepresentsAt, PutBetween}
use Rattle.script_cli.specs.Taking.{Fed, Stopped, RepresentsRun, next_reply, parts_after}
use Rattle.script_cli.specs.Taking.{ending_after}
use Rattle.script_cli.specs.Runs.{Log, Wrote, WroteAll, begun, logged_in}
use Rattle.script_cli.specs.Driving.{RanScript, PutBy, Ends, is_faulty, status_of}
use Rattle.script_cli.specs.Limits.{longest_script}
use Rattle.script_cli.specs.declared.status.Status.{Status}
use Rattle.script_cli.specs.declared.status.Status.TheVariants.{Done, Refused, Words, ReadFault}
use Rattle.script_cli.specs.declared.status.Status.TheVariants.{WriteFault, DiskFault, NotAJournal}
use Rattle.script_cli.specs.declared.status.Status.TheVariants.{NoMemory, InputLimit}
use Rattle.script_cli.proofs.DueRecords.{records_together}
use Rattle.script_cli.proofs.PutsAfter.{put_then, put_some, then_between}
use Rattle.script_cli.proofs.Taking.{put-append, took_none, took_more, took_longer, halted_after}

-- the run at its beginning, which read nothing yet
pub record IsStart (start : ScriptRun) : Type 0 where
  pub splitter : start.splitter ≡ fresh
  pub sessions : sessions_of start.sessions ≡ no_sessions
  pub refused : start.refused ≡ false
  pub puts : start.puts ≡ 0

-- these bytes were taken, and the statements that ended in them were answered
pub record Reached {D : Type 0} {g : Ghosts D} (limit : Given) (start : Recorded)
    (a b : Archive D g) (left_old left_new written_old written_new : Option (List ℕ))
    (script_run : ScriptRun) (count : ℕ) : Type 0 where
  pub run : ScriptRun
  pub begun_so : IsStart run
  pub taken : List ℕ
  pub consumed : Consumes left_old left_new taken
  pub counted : count ≡ length taken
  pub fed : Fed limit start run script_run a b taken [] written_old written_new

module _ {D : Type 0} {g : Ghosts D} (limit : Given) (start : Recorded) (a b : Archive D g)
    (run script_run : ScriptRun) (begun_so : IsStart run) (taken : List ℕ) (u v : Option (List ℕ))
    (fed : Fed limit start run script_run a b taken [] u v) where
  pub parts_is : (more : List ℕ) → parts_of (taken ++ more) ≡ fed.parts
      ++ parts_after script_run more
  parts_is more = ap (λ s. parts_from s.mode s.kept (taken ++ more)) (sym begun_so.splitter)
      ∙ fed.cut more

  pub ending_is : ending_of taken ≡ ending_after script_run []
  ending_is = ap ending_of (sym (append-nil taken))
      ∙ ap (λ s. ending (tail_from s.mode s.kept (taken ++ []))) (sym begun_so.splitter)
      ∙ fed.end []

  pub all_parts : parts_of taken ≡ fed.parts
  all_parts = ap parts_of (sym (append-nil taken)) ∙ parts_is [] ∙ append-nil fed.parts

  pub faulty_is : is_faulty script_run ≡ has_error limit start taken
  faulty_is =
      ap (λ x. x || tail_is_due (ending_after script_run []))
      (fed.refused ∙ ap (λ x. x || any_error limit start fed.parts) begun_so.refused)
      ∙ ap (λ l. any_error limit start l || tail_is_due (ending_after script_run []))
      (sym all_parts)
      ∙ ap (λ e. any_error limit start (parts_of taken) || tail_is_due e) (sym ending_is)

-- what the first of these statements puts
next_puts : (limit : Given) (now : Recorded) (rest : List StatementPart)
    → all_puts limit now (take 1 rest) ≡ (next_reply limit now rest).puts
next_puts limit now [] = refl
next_puts limit now (p ∷ rest) = append-nil (part_reply limit now p).puts

next_put : (limit : Given) (start : Recorded) (whole rest : List StatementPart)
    → all_puts limit start whole ++ (next_reply limit (recorded_after limit start whole) rest).puts
    ≡ all_puts limit start (whole ++ take 1 rest)
next_put limit start whole rest =
    ap (λ l. all_puts limit start whole ++ l)
    (sym (next_puts limit (recorded_after limit start whole) rest))
    ∙ sym (put-append limit start whole (take 1 rest))

-- ---- the records of a run

module _ {D : Type 0} {g : Ghosts D} (limit : Given) (start : Recorded) (status : Status)
    (whole rest : List StatementPart) (a b : Archive D g) where
  -- no statement was begun: those of the statements that were answered whole
  pub whole_log : begun status rest ≡ [] → PutBetween a b (all_puts limit start whole)
      → Log limit start status whole rest
  whole_log none puts = record {
    done = puts.0;
    begun_with = [];
    done_are = puts.1;
    all_are = subst (λ (l : List LogRecord). AreRecordsOf
        (all_puts limit start (whole ++ begun status rest)) l) (sym (append-nil puts.0))
        (subst (λ (l : List StatementPart). AreRecordsOf (all_puts limit start l) puts.0)
        (sym (ap (λ (l : List StatementPart). whole ++ l) none ∙ append-nil whole)) puts.1);
  }

  pub whole_put : (none : begun status rest ≡ [])
      → (puts : PutBetween a b (all_puts limit start whole))
      → HasPut (below a) (below b) (place_of a) (place_of b) (logged_in (whole_log none puts))
  unfolding whole_log
  whole_put none puts = subst (λ (l : List LogRecord).
      HasPut (below a) (below b) (place_of a) (place_of b) l) (sym (append-nil puts.0)) puts.2

-- the record of the next is after them
next_log : (limit : Given) (start : Recorded) (whole rest : List StatementPart)
    (done its : List LogRecord) → AreRecordsOf (all_puts limit start whole) done
    → AreRecordsOf (next_reply limit (recorded_after limit start whole) rest).puts its
    → AreRecordsOf (all_puts limit start (whole ++ take 1 rest)) (done ++ its)
next_log limit start whole rest done its first then =
    subst (λ (l : List Due). AreRecordsOf l (done ++ its)) (next_put limit start whole rest)
    (records_together (all_puts limit start whole)
    (next_reply limit (recorded_after limit start whole) rest).puts done its first then)

-- the start of a run
pub reach_start : {D : Type 0} {g : Ghosts D} (limit : Given) (start : Recorded)
    (archive : Archive D g) (a u : Option (List ℕ)) (s : ScriptRun) → IsValid (below archive)
    → IsStart s
    → RepresentsAt archive limit start → IsFresh start → Consumes a a []
    → Reached limit start archive archive a a u u s 0
reach_start limit start archive a u s law h represents unbegun k =
    record {
      run = s;
      begun_so = h;
      taken = [];
      consumed = k;
      counted = refl;
      fed =
          took_none limit start s archive [] u law (record {
            archive = represents;
            sessions = h.sessions ∙ sym unbegun;
          });
    }

pub consumed_still : (a b c : Option (List ℕ)) (taken : List ℕ) → Consumes a b taken
    → Consumes b c [] → Consumes a c taken
consumed_still a b c taken k none = subst (Consumes a c) (append-nil taken)
    (Consumes-trans a b c taken [] k none)

within_still : (n : ℕ) (taken : List ℕ) → n ≡ length taken → n ≤ longest_script
    → length taken ≤ longest_script
within_still n taken counted l = subst (λ k. k ≤ longest_script) counted l

module _ {D : Type 0} {g : Ghosts D} (limit : Given) (start : Recorded)
    (o m : Archive D g) {a b c u v : Option (List ℕ)} {s : ScriptRun} {n : ℕ} where
  pub drove_read : Reached limit start o m a b u v s n → n ≤ longest_script → Keeps b c
      → RanScript limit start ReadFault a c u v (below o) (below m) (place_of o)
  drove_read r l k = record {
    ran = record {
      taken = r.taken;
      consumed = Consumes-kept a b c r.taken r.consumed k;
      whole = r.fed.parts;
      rest = [];
      are = all_parts limit start o m r.run s r.begun_so r.taken u v r.fed
          ∙ sym (append-nil r.fed.parts);
      between = v;
      replied = r.fed.wrote;
      wrote = (within_still n r.taken r.counted l, refl, refl);
    };
    log = whole_log limit start ReadFault r.fed.parts [] o m refl r.fed.puts;
    puts = (place_of m, whole_put limit start ReadFault r.fed.parts [] o m refl r.fed.puts);
  }

  pub drove_limit : (r : Reached limit start o m a b u v s n) (chunk : List ℕ) → Consumes b c chunk
      → n ≡ longest_script → length chunk ≡ 1
      → RanScript limit start InputLimit a c u v (below o) (below m) (place_of o)
  drove_limit r chunk k e l = record {
    ran = record {
      taken = r.taken ++ chunk;
      consumed = Consumes-trans a b c r.taken chunk r.consumed k;
      whole = r.fed.parts;
      rest = parts_after s chunk;
      are = parts_is limit start o m r.run s r.begun_so r.taken u v r.fed chunk;
      between = v;
      replied = r.fed.wrote;
      wrote = (
        length-append r.taken chunk ∙ omega (arith, r.counted, e, l),
        sym (ap parts_of (take_at r.taken chunk longest_script (sym r.counted ∙ e))
            ∙ all_parts limit start o m r.run s r.begun_so r.taken u v r.fed),
        refl,
      );
    };
    log = whole_log limit start InputLimit r.fed.parts (parts_after s chunk) o m refl
        r.fed.puts;
    puts = (
      place_of m,
      whole_put limit start InputLimit r.fed.parts (parts_after s chunk) o m
          refl r.fed.puts,
    );
  }

-- what the run had answered when it stopped, and in which reply it did
stopped : {D : Type 0} {g : Ghosts D} (limit : Given) (start : Recorded) (o m e : Archive D g)
    (a b u v w : Option (List ℕ)) (s : ScriptRun) (n : ℕ) (h : StopReason)
    (r : Reached limit start o m a b u v s n) (chunk : List ℕ)
    → ((now : Recorded) → RepresentsRun m s limit now
    → Stopped h limit now (parts_after s chunk) m e v w)
    → Stopped h limit start (r.fed.parts ++ parts_after s chunk) o e u w
stopped limit start o m e a b u v w s n h r chunk f =
    halted_after limit start h r.fed.parts (parts_after s chunk) o m e u v w r.fed.puts
    r.fed.wrote (f (recorded_after limit start r.fed.parts) r.fed.represents)

module _ {D : Type 0} {g : Ghosts D} (limit : Given) (start : Recorded) (o e : Archive D g)
    (u w : Option (List ℕ)) where
  wrote_stopped : (h : StopReason) (c : Option (List ℕ)) (taken : List ℕ)
      (parts : List StatementPart)
      → length taken ≤ longest_script → (x : Stopped h limit start parts o e u w)
      → Wrote (status_of h) limit start taken x.whole x.rest c x.between w
  wrote_stopped reason.WriteFault c taken parts l x = (l, inl x.stops.0)
  wrote_stopped reason.DiskFault c taken parts l x =
      (l, x.stops.0, (x.stops.1.what, x.stops.1.due_is))
  wrote_stopped reason.NoMemory c taken parts l x = (l, x.stops.0)

  puts_stopped : (h : StopReason) (parts : List StatementPart) → IsValid (below e)
      → (x : Stopped h limit start parts o e u w)
      → (log : Log limit start (status_of h) x.whole x.rest)
      × PutBy (status_of h) (below o) (below e) (place_of o) log.done (logged_in log)
  puts_stopped reason.WriteFault parts law x =
      let its = x.stops.1 in (
        record {
          done = x.puts.0;
          begun_with = its.0;
          done_are = x.puts.1;
          all_are = next_log limit start x.whole x.rest x.puts.0 its.0 x.puts.1 its.1;
        },
        (
          place_of e,
          put_then (below o) (below x.mid) (below e) (place_of o) (place_of x.mid)
              (place_of e) x.puts.0 its.0 x.puts.2 its.2,
        ),
      )
  puts_stopped reason.DiskFault parts law x =
      let may = x.stops.1 in
      let next = next_reply limit (recorded_after limit start x.whole) x.rest in (
        record {
          done = x.puts.0;
          begun_with = may.its_record ∷ [];
          done_are = x.puts.1;
          all_are = next_log limit start x.whole x.rest x.puts.0 (may.its_record ∷ []) x.puts.1
              (subst (λ (l : List Due). AreRecordsOf l (may.its_record ∷ [])) (sym may.due_is)
              (may.is_its, tt));
        },
        put_some (below o) (below x.mid) (below e) (place_of o) (place_of x.mid) x.puts.0 next.puts
            law x.puts.2 may,
      )
  puts_stopped reason.NoMemory parts law x =
      let all = subst (PutBetween o e) (append-nil (all_puts limit start x.whole))
      (then_between o x.mid e (all_puts limit start x.whole) [] x.puts x.stops.1) in (
        whole_log limit start NoMemory x.whole x.rest o e refl all,
        (place_of e, whole_put limit start NoMemory x.whole x.rest o e refl all),
      )

module _ {D : Type 0} {g : Ghosts D} (limit : Given) (start : Recorded)
    (o m e : Archive D g) {a b c u v w : Option (List ℕ)} {s : ScriptRun} {n : ℕ} where
  pub reach : (r : Reached limit start o m a b u v s n) (chunk : List ℕ) (k : ℕ) (next : ScriptRun)
      → Consumes b c chunk → k ≡ n + length chunk
      → ((now : Recorded) → RepresentsRun m s limit now → Fed limit now s next m e chunk [] v w)
      → Reached limit start o e a c u w next k
  unfolding took_longer
  reach r chunk k next consumes is f = record {
    run = r.run;
    begun_so = r.begun_so;
    taken = r.taken ++ chunk;
    consumed = Consumes-trans a b c r.taken chunk r.consumed consumes;
    counted = is ∙ ap (λ j. j + length chunk) r.counted ∙ sym (length-append r.taken chunk);
    fed = took_more limit start r.run s next o m e (r.taken ++ chunk) chunk [] u v w
        (took_longer limit start r.run s o m r.taken [] chunk u v r.fed)
        (f (recorded_after limit start r.fed.parts) r.fed.represents);
  }

  pub ran_stopped : (h : StopReason) (r : Reached limit start o m a b u v s n) (chunk : List ℕ)
      → IsValid (below e) → n + length chunk ≤ longest_script → Consumes b c chunk
      → ((now : Recorded) → RepresentsRun m s limit now
      → Stopped h limit now (parts_after s chunk) m e v w)
      → RanScript limit start (status_of h) a c u w (below o) (below e) (place_of o)
  ran_stopped h r chunk law l k f =
      let x = stopped limit start o m e a b u v w s n h r chunk f in
      let puts = puts_stopped limit start o e u w h (r.fed.parts ++ parts_after s chunk) law x in
      let within : length (r.taken ++ chunk) ≤ longest_script =
      omega (arith, l, r.counted, length-append r.taken chunk) in
      record {
        ran = record {
          taken = r.taken ++ chunk;
          consumed = Consumes-trans a b c r.taken chunk r.consumed k;
          whole = x.whole;
          rest = x.rest;
          are = parts_is limit start o m r.run s r.begun_so r.taken u v r.fed chunk ∙ x.are;
          between = x.between;
          replied = x.wrote;
          wrote = wrote_stopped limit start o e u w h c (r.taken ++ chunk)
              (r.fed.parts ++ parts_after s chunk) within x;
        };
        log = puts.0;
        puts = puts.1;
      }

module _ {D : Type 0} {g : Ghosts D} (limit : Given) (start : Recorded)
    (o m : Archive D g) {a b c u v w : Option (List ℕ)} {s : ScriptRun} {n : ℕ}
    (r : Reached limit start o m a b u v s n)
    (within : n ≤ longest_script) (consumes : Consumes b c []) (end : IsAtEnd c) where
  ended : (status : Status) → Wrote status limit start r.taken r.fed.parts [] c v w
      → (log : Log limit start status r.fed.parts [])
      × PutBy status (below o) (below m) (place_of o) log.done (logged_in log)
      → RanScript limit start status a c u w (below o) (below m) (place_of o)
  ended status wrote puts = record {
    ran = record {
      taken = r.taken;
      consumed = consumed_still a b c r.taken r.consumed consumes;
      whole = r.fed.parts;
      rest = [];
      are = all_parts limit start o m r.run s r.begun_so r.taken u v r.fed
          ∙ sym (append-nil r.fed.parts);
      between = v;
      replied = r.fed.wrote;
      wrote = wrote;
    };
    log = puts.0;
    puts = puts.1;
  }

  wrote_all : Appends v w (tail_text (ending_after s [])) → WroteAll r.taken [] c v w
  wrote_all p = record {
    end = end;
    within = within_still n r.taken r.counted within;
    answered = refl;
    all = subst (λ e. Appends v w (tail_text e))
        (sym (ending_is limit start o m r.run s r.begun_so r.taken u v r.fed)) p;
  }

  pub drove_end : (status : Status) → Ends status s v w
      → RanScript limit start status a c u w (below o) (below m) (place_of o)
  drove_end Done e = ended Done (
    wrote_all e.0,
    sym (faulty_is limit start o m r.run s r.begun_so r.taken u v r.fed) ∙ e.1,
  ) (
    whole_log limit start Done r.fed.parts [] o m refl r.fed.puts,
    (place_of m, whole_put limit start Done r.fed.parts [] o m refl r.fed.puts),
  )
  drove_end Refused e = ended Refused (
    wrote_all e.0,
    sym (faulty_is limit start o m r.run s r.begun_so r.taken u v r.fed) ∙ e.1,
  ) (
    whole_log limit start Refused r.fed.parts [] o m refl r.fed.puts,
    (place_of m, whole_put limit start Refused r.fed.parts [] o m refl r.fed.puts),
  )
  drove_end WriteFault e = ended WriteFault (
    within_still n r.taken r.counted within,
    inr (record {
      end = end;
      answered = refl;
      prefix = subst (λ x. AppendsPrefix v w (tail_text x))
          (sym (ending_is limit start o m r.run s r.begun_so r.taken u v r.fed)) e;
    }),
  ) (
    whole_log limit start WriteFault r.fed.parts [] o m refl r.fed.puts,
    (place_of m, whole_put limit start WriteFault r.fed.parts [] o m refl r.fed.puts),
  )
  drove_end Words e = absurd e
  drove_end ReadFault e = absurd e
  drove_end DiskFault e = absurd e
  drove_end (NotAJournal place) e = absurd e
  drove_end NoMemory e = absurd e
  drove_end InputLimit e = absurd e
