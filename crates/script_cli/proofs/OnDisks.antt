-- What a run leaves on the disk that was opened before it.
use Rattle.std.proofs.Common.{◌≡◌, ◌⊎◌, inl, inr, ⊎_elim, ℕ, zero, suc, IsTrue, List, [], ◌++◌}
use Rattle.std.proofs.Common.{length, take, drop, refl, sym, ap, ◌∙◌, subst, arith, length-append}
use Rattle.std.proofs.Common.{take-append-drop}
use Rattle.std.specs.Prelude.{Option, Some, None}
use Rattle.std.proofs.lemmas.List.{append-nil, map-append, length-map, take-map, take-append-le}
use Rattle.disk_model.specs.Meaning.{Meaning, IfKnown, IsValid}
use Rattle.disk_model.specs.Moments.{GoesOn, Leaves, Turns}
use Rattle.disk_model.specs.MomentLaws.{still_honest, turns_weaker}
use Rattle.disk_model.specs.declared.disk.Disk.{Ghosts}
use Rattle.journal.specs.Records.{Record, Holds, StandsFor}
use Rattle.journal.specs.JournalFiles.{Stands}
use Rattle.journal.specs.Mounting.{SameOrNine}
use Rattle.journal.specs.Puts.{HoldsPrefix, StandsForPrefix}
use Rattle.journal.specs.MountLaws.{none_yet, mount_then}
use Rattle.smo_ops_spec.specs.Past.{beginning}
use Rattle.archive_core_file_spec.specs.LogRecords.{LogRecord, record_of, records_of, AreEncoded}
use Rattle.archive_core_file_spec.specs.LogRecords.{AreAccepted, AreSound, past_recorded}
use Rattle.archive_core_file_spec.specs.Opening.{Opens, IsSound}
use Rattle.archive_core_file_spec.proofs.Records.{accepted_append, sound_accepted, sound_prefix}
use Rattle.archive_core_file_spec.proofs.Records.{sound_append}
use Rattle.piece_ir_spec.specs.Rules.{Book}
use Rattle.script_cli_statement.specs.ArchiveOnDisk.{Archive, Opened, standing_of, below, place_of}
use Rattle.script_cli_statement.specs.ArchiveOnDisk.{HoldsAt, IsMounted}
use Rattle.script_parse.specs.Script.{StatementPart}
use Rattle.script_cli_statement.specs.Due.{AreRecordsOf}
use Rattle.sessions.specs.SessionStates.{no_sessions}
use Rattle.script_cli_statement.specs.Replies.{Recorded, recorded, IsFresh}
use Rattle.script_cli.specs.Output.{all_puts}
use Rattle.script_cli_statement.specs.Putting.{HasPut}
use Rattle.script_cli.specs.Driving.{PutsSome, RanScript, PutBy, HasOpened}
use Rattle.script_cli_statement.specs.Responses.{RepresentsAt}
use Rattle.script_cli.specs.Files.{OpensPrefix, EndsAs, IsSoundFile}
use Rattle.script_cli.specs.Runs.{RanOpened, IsOpening, begun, given_by, logged_in}
use Rattle.script_cli.specs.declared.status.Status.{Status}
use Rattle.script_cli.specs.declared.status.Status.TheVariants.{Done, Refused, Words, ReadFault}
use Rattle.script_cli.specs.declared.status.Status.TheVariants.{WriteFault, DiskFault, NotAJournal}
use Rattle.script_cli.specs.declared.status.Status.TheVariants.{NoMemory, InputLimit}
use Rattle.script_cli.proofs.DueRecords.{encoded_append, encoded_prefix}
use Rattle.script_cli.proofs.Recording.{put_sound}
use Rattle.script_cli.proofs.OneReading.{OpensOnce}

-- ---- files that hold records

module _ (opening log : List LogRecord) (first : AreEncoded opening) (then : AreEncoded log) where
  -- all of them
  pub opens_all : AreAccepted beginning opening → AreSound (past_recorded opening) log
      → (c : List ℕ) → StandsFor c (records_of (opening ++ log)) → Opens c (opening ++ log)
  opens_all accepted sound c stands = record {
    stands = stands;
    encoded = encoded_append opening log first then;
    accepted = accepted_append beginning opening log accepted
        (sound_accepted (past_recorded opening) log sound);
  }

  sound_taken : AreSound (past_recorded opening) log → (n : ℕ)
      → AreSound (past_recorded opening) (take n log)
  sound_taken sound n = sound_prefix (past_recorded opening) (take n log) (drop n log)
      (subst (AreSound (past_recorded opening)) (sym (take-append-drop n log)) sound)

  -- or a prefix
  pub opens_prefix : AreAccepted beginning opening → AreSound (past_recorded opening) log
      → (c : List ℕ) → StandsForPrefix (records_of opening) (records_of log) 0
      (length (records_of log)) c → OpensPrefix opening log c
  opens_prefix accepted sound c (n, low, high, stands) = (
    n,
    omega (arith, high, length-map log record_of),
    record {
      stands = subst (StandsFor c) (ap (λ (l : List Record). records_of opening ++ l)
          (take-map record_of n log) ∙ sym (map-append record_of opening (take n log))) stands;
      encoded = encoded_append opening (take n log) first (encoded_prefix n log then);
      accepted = accepted_append beginning opening (take n log) accepted
          (sound_accepted (past_recorded opening) (take n log) (sound_taken sound n));
    },
  )

-- a prefix of what is sound after sound records leaves a sound file
pub sound_opening : (opening log : List LogRecord) → AreSound beginning opening
    → AreSound (past_recorded opening) log → (c : List ℕ) → OpensPrefix opening log c
    → IsSoundFile c
sound_opening opening log first sound c (n, high, opens) = (
  opening ++ take n log,
  record {
    stands = opens.stands;
    encoded = opens.encoded;
    sound = sound_append beginning opening (take n log) first
        (sound_prefix (past_recorded opening) (take n log) (drop n log)
        (subst (AreSound (past_recorded opening)) (sym (take-append-drop n log)) sound));
  },
)

-- a sound file opens
pub sound_opens : (file : List ℕ) (log : List LogRecord) → IsSound file log → Opens file log
sound_opens file log is = record {
  stands = is.stands;
  encoded = is.encoded;
  accepted =
      sound_accepted beginning log is.sound;
}

-- none yet, where a crash leaves the file, or at most nine bytes where it had no more
pub opens_none_yet : (file : List ℕ) (opening put : List LogRecord) → Opens file opening
    → (c : List ℕ) → SameOrNine file c → OpensPrefix opening put c
opens_none_yet file opening put opens c same =
    let none = none_yet file (records_of opening) [] opens.stands 0 c same in (
      0,
      omega arith,
      subst (Opens c) (sym (append-nil opening))
          (record {
            stands = subst (StandsFor c) (none_taken none.0) none.3;
            encoded = opens.encoded;
            accepted = opens.accepted;
          }),
    )
  where
    none_taken : (n : ℕ) → records_of opening ++ take n [] ≡ records_of opening
    none_taken zero = append-nil (records_of opening)
    none_taken (suc n) = append-nil (records_of opening)

-- a prefix of these is one of more
pub prefix_of_more : (opening put more : List LogRecord) (c : List ℕ) → OpensPrefix opening put c
    → OpensPrefix opening (put ++ more) c
prefix_of_more opening put more c (n, high, opens) = (
  n,
  omega (arith, high, length-append put more),
  subst (λ (l : List LogRecord). Opens c (opening ++ l)) (sym (take-append-le n put more high))
      opens,
)

-- ---- what was put, by the status

some_or_all : (status : Status) (old new : Meaning) (at : ℕ) (done put : List LogRecord)
    → PutBy status old new at done put
    → ((status ≡ DiskFault) × PutsSome old new at done put)
    ⊎ ((next : ℕ) × HasPut old new at next put
    × ((opening : List LogRecord) (c : List ℕ) → Opens c (opening ++ put)
    → EndsAs status opening done put c))
some_or_all Done old new at done put (next, has) = inr (next, has, λ opening c opens. opens)
some_or_all Refused old new at done put (next, has) = inr (next, has, λ opening c opens. opens)
some_or_all Words old new at done put (next, has) = inr (next, has, λ opening c opens. opens)
some_or_all ReadFault old new at done put (next, has) = inr (next, has, λ opening c opens. opens)
some_or_all WriteFault old new at done put (next, has) = inr (next, has, λ opening c opens. opens)
some_or_all DiskFault old new at done put some = inl (refl, some)
some_or_all (NotAJournal place) old new at done put (next, has) =
    inr (next, has, λ opening c opens. opens)
some_or_all NoMemory old new at done put (next, has) = inr (next, has, λ opening c opens. opens)
some_or_all InputLimit old new at done put (next, has) = inr (next, has, λ opening c opens. opens)

-- ---- an opened archive, and a run after it

module _ (old mid new : Meaning) (at : ℕ) (file : List ℕ) (opening done put : List LogRecord)
    (opens : Opens file opening) (sound : AreSound (past_recorded opening) put)
    (done_sound : AreSound (past_recorded opening) done) where
  module _ (goes : GoesOn old mid) (turns : Turns old mid (SameOrNine file))
      (stands : Stands mid at (records_of opening)) (honest : IsTrue mid.is_honest) where
    leaves_prefix : AreEncoded put → GoesOn mid new
        → Leaves mid new (HoldsPrefix (records_of opening) (records_of put) 0
        (length (records_of put))) → Turns old new (OpensPrefix opening put)
    leaves_prefix then further leaves =
        turns_weaker old new (StandsForPrefix (records_of opening) (records_of put) 0
        (length (records_of put))) (OpensPrefix opening put)
        (mount_then file (records_of opening) (records_of put) opens.stands old mid new
        (length (records_of put)) goes turns further leaves)
        (opens_prefix opening put opens.encoded then opens.accepted sound)

    pub moments_of : (status : Status) → PutBy status mid new at done put
        → Turns old new (OpensPrefix opening put)
    moments_of status puts = ⊎_elim
        (λ some. leaves_prefix some.1.encoded some.1.goes (some.1.leaves opening honest stands))
        (λ all. let have = all.1.have opening honest stands in
        leaves_prefix all.1.encoded have.goes have.leaves)
        (some_or_all status mid new at done put puts)

    exit_some : PutsSome mid new at done put → (c : List ℕ) → new.may_leave c
        → Opens c (opening ++ done) ⊎ Opens c (opening ++ put)
    exit_some some c left = ⊎_elim
        (λ h. inl (opens_all opening done opens.encoded some.done_encoded opens.accepted done_sound
        c (inr h)))
        (λ h. inr (opens_all opening put opens.encoded some.encoded opens.accepted sound c (inr h)))
        (some.exit opening honest stands c left)

    pub exit_of : (status : Status) → PutBy status mid new at done put → (c : List ℕ)
        → new.may_leave c → EndsAs status opening done put c
    exit_of status puts c left = ⊎_elim
        (λ some. subst (λ (s : Status). EndsAs s opening done put c) (sym some.0)
        (exit_some some.1 c left))
        (λ all. let now = (all.1.have opening honest stands).stands in
        all.2 opening c (opens_all opening put opens.encoded all.1.encoded opens.accepted sound c
        (inr (subst (λ f. Holds f (records_of (opening ++ put))) (sym (now.durable c left))
        (subst (λ (l : List Record). Holds now.file l) (sym (map-append record_of opening put))
        now.holds)))))
        (some_or_all status mid new at done put puts)

  pub given_of : (status : Status) → (status ≡ DiskFault → ⊥) → PutBy status mid new at done put
      → HoldsAt mid at (records_of opening)
      → (c : List ℕ) × (new.seen ≡ Some c) × EndsAs status opening done put c
  given_of status not_failed puts held = ⊎_elim
      (λ some. absurd (not_failed some.0))
      (λ all. let now = all.1.holds opening held in (
        now.file,
        now.seen,
        all.2 opening now.file
            (opens_all opening put opens.encoded all.1.encoded opens.accepted sound now.file
            (inr now.holds)),
      ))
      (some_or_all status mid new at done put puts)

  pub held_of : (status : Status) → (status ≡ DiskFault → ⊥) → PutBy status mid new at done put
      → HoldsAt mid at (records_of opening)
      → (c : List ℕ) × (new.seen ≡ Some c) × Holds c (records_of (opening ++ put))
  held_of status not_failed puts held = ⊎_elim
      (λ some. absurd (not_failed some.0))
      (λ all. let now = all.1.holds opening held in (now.file, now.seen, now.holds))
      (some_or_all status mid new at done put puts)

-- ---- what an opened archive stands for

module _ {D : Type 0} {g : Ghosts D} (old : Meaning) (limit : ℕ) (book : Book)
    (archive : Archive D g) (has : HasOpened old limit archive) where
  start_told : (seen : Option (List ℕ)) → IfKnown seen (λ file. (opened : Opened)
      × IsMounted file (standing_of archive) (place_of archive) opened)
      → (start : Recorded) × RepresentsAt archive (given_by limit book) start
      × IsOpening start seen × IsFresh start
  start_told None told = (
    record { past = has.represents.0; at = place_of archive; sessions = no_sessions },
    record { past = has.represents.1; place = refl; limit_is = has.limit_is },
    tt,
    refl,
  )
  start_told (Some file) (opened, mounted) = (
    recorded mounted.log,
    record { past = mounted.represents; place = mounted.place; limit_is = has.limit_is },
    (mounted.log, mounted.opens, refl),
    refl,
  )

  -- the start of a script after it
  pub start_of : (start : Recorded) × RepresentsAt archive (given_by limit book) start
      × IsOpening start old.seen × IsFresh start
  start_of = start_told old.seen has.mounted

-- the start is that of the records as which the file opens
pub start_is : OpensOnce → (seen : Option (List ℕ)) (start : Recorded) (file : List ℕ)
    (opening : List LogRecord) → seen ≡ Some file → IsOpening start seen → Opens file opening
    → start ≡ recorded opening
start_is once seen start file opening is opened opens =
    let here : IsOpening start (Some file) = subst (IsOpening start) is opened in
    here.2 ∙ ap recorded (once file here.0 opening here.1 opens)

module _ {D : Type 0} {g : Ghosts D} (once : OpensOnce) (old : Meaning) (limit : ℕ) (book : Book)
    (archive : Archive D g) (has : HasOpened old limit archive) (start : Recorded)
    (opened : IsOpening start old.seen) (unbegun : IsFresh start)
    (status : Status) (a b u v : Option (List ℕ)) (new : Meaning) (law : IsValid new)
    (ran_script : RanScript (given_by limit book) start status a b u v (below archive) new
    (place_of archive)) where
  abbrev done : List LogRecord
  done = ran_script.log.done

  abbrev all : List LogRecord
  all = logged_in ran_script.log

  module _ (file : List ℕ) (opening : List LogRecord) (is : old.seen ≡ Some file)
      (opens : Opens file opening) where
    put_after : (parts : List StatementPart) (log : List LogRecord)
        → AreRecordsOf (all_puts (given_by limit book) start parts) log
        → AreSound (past_recorded opening) log
    put_after parts log are =
        put_sound (given_by limit book) opening parts log
        (subst (λ n. AreRecordsOf (all_puts (given_by limit book) n parts) log)
        (start_is once old.seen start file opening is opened opens) are)

    sound : AreSound (past_recorded opening) all
    sound = put_after (ran_script.ran.whole ++ begun status ran_script.ran.rest) all
        ran_script.log.all_are

    done_sound : AreSound (past_recorded opening) done
    done_sound = put_after ran_script.ran.whole done ran_script.log.done_are

  pub ran_opened : RanOpened (given_by limit book) status a b u v old new
  ran_opened = record {
    start = start;
    opened = opened;
    fresh = unbegun;
    ran = ran_script.ran;
    log = ran_script.log;
    disk = record {
      any_moment = λ file opening honest is opens.
          moments_of old (below archive) new (place_of archive) file opening done all opens
          (sound file opening is opens)
          (done_sound file opening is opens) has.goes (has.turns file honest is)
          (has.stands file opening honest is opens)
          (still_honest old (below archive) has.goes honest) status ran_script.puts;
      exit = λ file opening honest is opens.
          exit_of old (below archive) new (place_of archive) file opening done all opens
          (sound file opening is opens)
          (done_sound file opening is opens) has.goes (has.turns file honest is)
          (has.stands file opening honest is opens)
          (still_honest old (below archive) has.goes honest) status ran_script.puts;
      given = λ file opening not_failed is opens.
          given_of old (below archive) new (place_of archive) file opening done all opens
          (sound file opening is opens)
          (done_sound file opening is opens) status not_failed ran_script.puts
          (has.holds file opening is opens);
      holds = λ file opening not_failed is opens.
          held_of old (below archive) new (place_of archive) file opening done all opens
          (sound file opening is opens)
          (done_sound file opening is opens) status not_failed ran_script.puts
          (has.holds file opening is opens);
    };
  }

  pub ran_opened_start : ran_opened.start ≡ start
  unfolding ran_opened
  ran_opened_start = refl

-- its moments join those of the disk
pub put_goes : (status : Status) (old new : Meaning) (at : ℕ) (done put : List LogRecord)
    → PutBy status old new at done put → GoesOn old new
put_goes status old new at done put puts = ⊎_elim (λ some. some.1.goes) (λ all. all.1.goes)
    (some_or_all status old new at done put puts)
