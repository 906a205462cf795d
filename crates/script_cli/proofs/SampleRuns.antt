-- What a sample wrote and left, said of the records as which the file opened.
use Rattle.std.proofs.Common.{◌≡◌, ◌⊎◌, inl, inr, ⊎_elim, ℕ, Bool, true, IsTrue, List, [], ◌++◌}
use Rattle.std.proofs.Common.{length, refl, sym, ap, ◌∙◌, subst, length-append}
use Rattle.std.specs.Prelude.{Option, Some, None}
use Rattle.std.specs.Io.KnownBytes.{Appends}
use Rattle.disk_model.specs.Meaning.{Meaning, IfKnown, borrowed_as}
use Rattle.disk_model.specs.BorrowLaws.{borrowed_turns}
use Rattle.disk_model.specs.Moments.{UntilSynced}
use Rattle.disk_model.specs.MomentLaws.{turns_weaker, until_weaker}
use Rattle.smo_ops_spec.specs.Past.{beginning}
use Rattle.archive_core_file_spec.specs.LogRecords.{LogRecord, commands_in, AreSound}
use Rattle.archive_core_file_spec.specs.Opening.{Opens, Damages}
use Rattle.script_cli_sample.specs.Summary.{summary}
use Rattle.script_cli_statement.specs.Due.{Due, AreRecordsOf, AreFirstOf, commands_due}
use Rattle.script_cli_statement.specs.Given.{Given}
use Rattle.script_cli_statement.specs.Replies.{Recorded, recorded}
use Rattle.script_cli.specs.Output.{output, has_error, script_puts, parts_of}
use Rattle.script_cli.specs.Files.{OpensPrefix, IsSoundFile, LeavesPrefix}
use Rattle.script_cli.specs.Runs.{NotOpened, ToldUnopened, IsOpening, RefusesFile, SourceCounted}
use Rattle.script_cli.specs.Runs.{is_whole}
use Rattle.script_cli.specs.Sampling.{WroteSummary, SampleLeft, Sampled, IsCounted, told_after}
use Rattle.script_cli.specs.Sampling.{end_of, was_read}
use Rattle.script_cli.specs.declared.status.Status.{Status}
use Rattle.script_cli.specs.declared.status.Status.TheVariants.{Done, Refused, Words, ReadFault}
use Rattle.script_cli.specs.declared.status.Status.TheVariants.{WriteFault, DiskFault, NotAJournal}
use Rattle.script_cli.specs.declared.status.Status.TheVariants.{NoMemory, InputLimit}
use Rattle.script_cli.proofs.OneReading.{OpensOnce, DamagedOnce, NeverBoth}
use Rattle.script_cli.proofs.OnDisks.{sound_opening}
use Rattle.script_cli.proofs.Recording.{first_put_sound}
use Rattle.script_cli.proofs.Telling.{unopened_not_whole, unopened_damaged, unopened_told}
use Rattle.script_cli.proofs.Telling.{opens_not_damaged, none_left}
use Rattle.script_cli.proofs.Borrowed.{not_opened_borrowed}

-- the relation of a sample over a disk, for any script
abbrev pub Over : (size : ℕ) (limit : Given) (script : List ℕ) → Status → Option (List ℕ)
    → Option (List ℕ) → Option (List ℕ) → Option (List ℕ) → ℕ → ℕ → Meaning → Meaning → Type 0
Over size limit script status a c u w f h old new = NotOpened status a c u w f h old new
    ⊎ Sampled size limit script status u w old new

-- ---- a status that no sample ends with

wrote_not_words : (text : List ℕ) (faulty : Bool) (u w : Option (List ℕ)) (status : Status)
    → status ≡ Words → WroteSummary status text faulty u w → ⊥
wrote_not_words text faulty u w status is wrote =
    subst (λ s. WroteSummary s text faulty u w) is wrote

wrote_not_damaged : (text : List ℕ) (faulty : Bool) (u w : Option (List ℕ)) (status : Status)
    (place : ℕ) → status ≡ NotAJournal place → WroteSummary status text faulty u w → ⊥
wrote_not_damaged text faulty u w status place is wrote =
    subst (λ s. WroteSummary s text faulty u w) is wrote

told_source : (status : Status) (u w : Option (List ℕ)) (f h : ℕ) (seen then : Option (List ℕ))
    (n : ℕ) → ToldUnopened status u w f h seen then → SourceCounted status n n
told_source Done u w f h seen then n t = refl
told_source Refused u w f h seen then n t = refl
told_source Words u w f h seen then n t = refl
told_source ReadFault u w f h seen then n t = absurd t
told_source WriteFault u w f h seen then n t = refl
told_source DiskFault u w f h seen then n t = refl
told_source (NotAJournal place) u w f h seen then n t = refl
told_source NoMemory u w f h seen then n t = refl
told_source InputLimit u w f h seen then n t = refl

wrote_source : (status : Status) (text : List ℕ) (faulty : Bool) (u w : Option (List ℕ)) (n : ℕ)
    → WroteSummary status text faulty u w → SourceCounted status n n
wrote_source Done text faulty u w n wrote = refl
wrote_source Refused text faulty u w n wrote = refl
wrote_source Words text faulty u w n wrote = refl
wrote_source ReadFault text faulty u w n wrote = absurd wrote
wrote_source WriteFault text faulty u w n wrote = refl
wrote_source DiskFault text faulty u w n wrote = refl
wrote_source (NotAJournal place) text faulty u w n wrote = refl
wrote_source NoMemory text faulty u w n wrote = refl
wrote_source InputLimit text faulty u w n wrote = refl

-- how it ended, by whether an `error` line was told
whole_told : (status : Status) (text : List ℕ) (faulty : Bool) (u w : Option (List ℕ))
    → is_whole status ≡ true → WroteSummary status text faulty u w → Appends u w text
    × (status ≡ end_of faulty)
whole_told Done text faulty u w e (all, is) = (all, ap end_of (sym is))
whole_told Refused text faulty u w e (all, is) = (all, ap end_of (sym is))
whole_told Words text faulty u w e wrote = cc
whole_told ReadFault text faulty u w e wrote = cc
whole_told WriteFault text faulty u w e wrote = cc
whole_told DiskFault text faulty u w e wrote = cc
whole_told (NotAJournal place) text faulty u w e wrote = cc
whole_told NoMemory text faulty u w e wrote = cc
whole_told InputLimit text faulty u w e wrote = cc

-- ---- the records of the file

-- where the disk tells it, the start and the count are theirs
counted_is : OpensOnce → (seen : Option (List ℕ)) (start : Recorded) (count : ℕ) (file : List ℕ)
    (opening : List LogRecord) → seen ≡ Some file → IsCounted start count seen → Opens file opening
    → (start ≡ recorded opening) × (count ≡ length (commands_in opening))
counted_is once seen start count file opening is counted opens =
    let here : IsCounted start count (Some file) = subst (IsCounted start count) is counted in
    let same : here.0 ≡ opening = once file here.0 opening here.1 opens in
    (here.2 ∙ ap recorded same, here.3 ∙ ap (λ (l : List LogRecord). length (commands_in l)) same)

opening_of : (seen : Option (List ℕ)) (start : Recorded) (count : ℕ) → IsCounted start count seen
    → IsOpening start seen
opening_of None start count counted = tt
opening_of (Some file) start count counted = (counted.0, counted.1, counted.2)

module _ (size : ℕ) (limit : Given) (script : List ℕ) (status : Status) (a c u w : Option (List ℕ))
    (f h : ℕ) (old new : Meaning) (over : Over size limit script status a c u w f h old new) where
  pub sample_not_words : status ≡ Words → ⊥
  sample_not_words is = ⊎_elim
      (λ n. subst (λ s. ToldUnopened s u w f h old.seen new.seen) is n.told)
      (λ s. wrote_not_words (told_after size limit s.start s.count script)
      (has_error limit s.start script) u w status is s.wrote)
      over

  pub sample_source : (n : ℕ) → SourceCounted status n n
  sample_source n = ⊎_elim
      (λ x. told_source status u w f h old.seen new.seen n x.told)
      (λ s. wrote_source status (told_after size limit s.start s.count script)
      (has_error limit s.start script) u w n s.wrote)
      over

  pub sample_damaged : (place : ℕ) → status ≡ NotAJournal place
      → IfKnown old.seen (λ file. Damages file place)
  sample_damaged place is = ⊎_elim
      (λ n. unopened_told status u w f h old.seen new.seen place is n.told)
      (λ s. absurd (wrote_not_damaged (told_after size limit s.start s.count script)
      (has_error limit s.start script) u w status place is s.wrote))
      over

  pub sample_refuses : DamagedOnce → NeverBoth → (file : List ℕ) (place : ℕ) → old.seen ≡ Some file
      → Damages file place → RefusesFile place status a c
  sample_refuses place_once apart file place is damages = ⊎_elim
      (λ n. record {
        kept = n.kept;
        status_is =
            unopened_damaged place_once status u w f h old.seen new.seen file place is damages
            n.told;
      })
      (λ s. absurd (opens_not_damaged apart old.seen s.start file place is
      (opening_of old.seen s.start s.count s.opened) damages))
      over

  module _ (once : OpensOnce) (file : List ℕ) (opening : List LogRecord) (is : old.seen ≡ Some file)
      (opens : Opens file opening) where
    abbrev due : List Due
    due = script_puts limit (recorded opening) script

    here_of : (s : Sampled size limit script status u w old new) → (s.start ≡ recorded opening)
        × (s.count ≡ length (commands_in opening))
    here_of s = counted_is once old.seen s.start s.count file opening is s.opened opens

    text_is : (s : Sampled size limit script status u w old new)
        → told_after size limit s.start s.count script
        ≡ summary size (length (commands_in opening ++ commands_due due))
        (output limit (recorded opening) script)
    text_is s =
        let here = here_of s in
        ap (λ n. told_after size limit s.start n script) here.1
        ∙ ap (λ x. told_after size limit x (length (commands_in opening)) script) here.0
        ∙ ap (λ n. summary size n (output limit (recorded opening) script))
        (sym (length-append (commands_in opening) (commands_due due)))

    pub sample_whole : is_whole status ≡ true
        → Appends u w (summary size (length (commands_in opening ++ commands_due due))
        (output limit (recorded opening) script))
        × (status ≡ end_of (has_error limit (recorded opening) script))
    sample_whole e = ⊎_elim
        (λ n. absurd (unopened_not_whole status u w f h old.seen new.seen n.told e))
        (λ s.
        let told = whole_told status (told_after size limit s.start s.count script)
        (has_error limit s.start script) u w e s.wrote in (
          subst (Appends u w) (text_is s) told.0,
          told.1
              ∙ ap (λ x. end_of (has_error limit x script)) (here_of s).0,
        ))
        over

    -- its records are of the first of what the script puts after the opening ones
    its_first : (s : Sampled size limit script status u w old new) → AreFirstOf due s.disk.log
    its_first s = subst (λ (n : Recorded). AreFirstOf (script_puts limit n script) s.disk.log)
        (here_of s).0 s.disk.first

    pub sample_crash : IsTrue old.is_honest → LeavesPrefix old new opening due
    sample_crash honest = ⊎_elim
        (λ n. ([], tt, none_left status file opening old new is opens honest n.disk))
        (λ s. (s.disk.log, its_first s, inr (s.disk.any_moment file opening honest is opens)))
        over

    pub sample_sound : IsTrue old.is_honest → AreSound beginning opening
        → UntilSynced old new IsSoundFile
    sample_sound honest sound = ⊎_elim
        (λ n. until_weaker old new (OpensPrefix opening []) IsSoundFile
        (none_left status file opening old new is opens honest n.disk)
        (λ x p. sound_opening opening [] sound tt x p))
        (λ s. inr (turns_weaker old new (OpensPrefix opening s.disk.log) IsSoundFile
        (s.disk.any_moment file opening honest is opens)
        (λ x p. sound_opening opening s.disk.log sound
        (first_put_sound limit opening (parts_of script) s.disk.log (its_first s)) x p)))
        over

    pub sample_held : IsTrue old.is_honest → is_whole status ≡ true → (log : List LogRecord)
        × AreRecordsOf due log × ((x : List ℕ) → new.may_leave x → Opens x (opening ++ log))
    sample_held honest e = ⊎_elim
        (λ n. absurd (unopened_not_whole status u w f h old.seen new.seen n.told e))
        (λ s. (
          s.disk.log,
          subst (λ (n : Recorded). AreRecordsOf (script_puts limit n script) s.disk.log)
              (here_of s).0 (s.disk.all (read_whole status e)),
          λ x may. s.disk.exit file opening (read_whole status e) honest is opens x may,
        ))
        over
      where
        read_whole : (status : Status) → is_whole status ≡ true → was_read status ≡ true
        read_whole Done e = refl
        read_whole Refused e = refl
        read_whole Words e = cc
        read_whole ReadFault e = cc
        read_whole WriteFault e = refl
        read_whole DiskFault e = cc
        read_whole (NotAJournal place) e = cc
        read_whole NoMemory e = cc
        read_whole InputLimit e = cc

-- ---- over a borrowed disk

module _ (name other : ℕ) (old new : Meaning) where
  left_borrowed : (limit : Given) (script : List ℕ) (start : Recorded) (status : Status)
      → SampleLeft limit script start status (borrowed_as name old) (borrowed_as other new)
      → SampleLeft limit script start status old new
  left_borrowed limit script start status d = record {
    log = d.log;
    first = d.first;
    all = d.all;
    any_moment = λ file opening honest seen opens.
        borrowed_turns name other old new (OpensPrefix opening d.log)
        (d.any_moment file opening honest seen opens);
    exit = d.exit;
    given = d.given;
    holds = d.holds;
  }

  pub borrowed_sample : (size : ℕ) (limit : Given) (script : List ℕ) (status : Status)
      (a c u w : Option (List ℕ)) (f h : ℕ) → Over size limit script status a c u w f h
      (borrowed_as name old) (borrowed_as other new)
      → Over size limit script status a c u w f h old new
  borrowed_sample size limit script status a c u w f h (inl n) =
      inl (not_opened_borrowed name other old new status a c u w f h n)
  borrowed_sample size limit script status a c u w f h (inr s) = inr (record {
    start = s.start;
    count = s.count;
    opened = s.opened;
    wrote = s.wrote;
    disk = left_borrowed limit script s.start status s.disk;
  })
