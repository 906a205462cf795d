-- What a run wrote and left, said of the whole script where the source tells it.
use Rattle.std.proofs.Common.{◌≡◌, ◌⊎◌, inl, inr, ⊎_elim, ℕ, true, IsTrue, List, [], ◌∷◌, ◌++◌}
use Rattle.std.proofs.Common.{drop, refl, sym, ap, ◌∙◌, subst, append-nil, append_assoc}
use Rattle.std.proofs.Common.{take-append-drop}
use Rattle.std.specs.Prelude.{Option, Some, None}
use Rattle.std.specs.Io.KnownBytes.{Consumes, Appends, IsAtEnd}
use Rattle.std.proofs.KnownBytes.{Appends-trans, Appends-nil}
use Rattle.prima_io.specs.Moves.{AppendsPrefix}
use Rattle.prima_io.proofs.Prefixes.{after, longer, whole as all_of}
use Rattle.disk_model.specs.Meaning.{Meaning, IfKnown, IsValid}
use Rattle.disk_model.specs.Moments.{Leaves, Turns, UntilSynced}
use Rattle.disk_model.specs.MomentLaws.{turns_weaker, until_weaker}
use Rattle.journal.specs.Mounting.{SameOrNine, IsNotSynced, KeepsFile}
use Rattle.smo_ops_spec.specs.Past.{beginning}
use Rattle.archive_core_file_spec.specs.LogRecords.{LogRecord, AreSound}
use Rattle.archive_core_file_spec.specs.Opening.{Opens, Damages}
use Rattle.script_parse.specs.Script.{StatementPart, parts_from, tail_of}
use Rattle.script_cli_statement.specs.Due.{Due, AreRecordsOf, AreFirstOf}
use Rattle.script_cli_statement.specs.Given.{Given}
use Rattle.script_cli_statement.specs.Replies.{Recorded, recorded}
use Rattle.script_cli.specs.Output.{part_reply, replies, replies_of, all_puts, script_puts}
use Rattle.script_cli.specs.Output.{recorded_after, parts_of, ending_of, output, tail_text}
use Rattle.script_cli.specs.Taking.{next_reply}
use Rattle.script_cli.specs.Files.{OpensPrefix, IsSoundFile, LeavesPrefix}
use Rattle.script_cli.specs.Runs.{Ran, WroteTail, RanOpened, IsOpening, ToldUnopened, IsUntouched}
use Rattle.script_cli.specs.Runs.{RunsOver, RefusesFile, begun, is_whole, logged_in}
use Rattle.script_cli.specs.declared.status.Status.{Status}
use Rattle.script_cli.specs.declared.status.Status.TheVariants.{Done, Refused, Words, ReadFault}
use Rattle.script_cli.specs.declared.status.Status.TheVariants.{WriteFault, DiskFault, NotAJournal}
use Rattle.script_cli.specs.declared.status.Status.TheVariants.{NoMemory, InputLimit}
use Rattle.script_cli.proofs.Taking.{replies-append, put-append}
use Rattle.script_cli.proofs.Prefixes.{mode_after_script, parts-append}
use Rattle.script_cli.proofs.DueRecords.{all_first}
use Rattle.script_cli.proofs.OneReading.{OpensOnce, DamagedOnce, NeverBoth}
use Rattle.script_cli.proofs.Recording.{put_sound}
use Rattle.script_cli.proofs.OnDisks.{opens_none_yet, sound_opening, start_is}

nothing_said : (u : Option (List ℕ)) (text : List ℕ) → AppendsPrefix u u text
nothing_said u text = ([], text, refl, Appends-nil u)

-- nothing more was written
pub kept_prefix : (u v : Option (List ℕ)) (text : List ℕ) → v ≡ u → AppendsPrefix u v text
kept_prefix u v text same = subst (λ x. AppendsPrefix u x text) (sym same) (nothing_said u text)

module _ (limit : Given) (start : Recorded) where
  -- the next reply is a prefix of the others
  next_prefix : (now : Recorded) (rest : List StatementPart) (u v : Option (List ℕ))
      → AppendsPrefix u v (next_reply limit now rest).text
      → AppendsPrefix u v (replies limit now rest)
  next_prefix now [] u v p = p
  next_prefix now (x ∷ rest) u v p = longer u v (part_reply limit now x).text
      (replies limit (part_reply limit now x).after rest) p

  -- a script's replies begin with those to its prefix
  replies_begin : (xs ys : List ℕ) → replies_of limit start (xs ++ ys) ≡ replies_of limit start xs
      ++ replies limit (recorded_after limit start (parts_of xs))
      (parts_from (mode_after_script xs) (tail_of xs) ys)
  replies_begin xs ys = ap (replies limit start) (parts-append xs ys)
      ∙ replies-append limit start (parts_of xs)
      (parts_from (mode_after_script xs) (tail_of xs) ys)

  -- a prefix of the replies to a prefix is a prefix of the output
  prefix_more : (u w : Option (List ℕ)) (xs ys : List ℕ)
      → AppendsPrefix u w (replies_of limit start xs)
      → AppendsPrefix u w (output limit start (xs ++ ys))
  prefix_more u w xs ys p =
      longer u w (replies_of limit start (xs ++ ys)) (tail_text (ending_of (xs ++ ys)))
      (subst (AppendsPrefix u w) (sym (replies_begin xs ys))
      (longer u w (replies_of limit start xs) _ p))

  prefix_told : (a c u w : Option (List ℕ)) (taken : List ℕ) → Consumes a c taken
      → AppendsPrefix u w (replies_of limit start taken)
      → IfKnown a (λ script. AppendsPrefix u w (output limit start script))
  prefix_told None c u w taken k p = tt
  prefix_told (Some script) None u w taken k p = absurd k
  prefix_told (Some script) (Some ys) u w taken k p =
      subst (λ s. AppendsPrefix u w (output limit start s)) (sym k) (prefix_more u w taken ys p)

  -- the whole script was taken
  pub told_end : (P : List ℕ → Type 0) (a c : Option (List ℕ)) (taken : List ℕ) → Consumes a c taken
      → IsAtEnd c → P taken → IfKnown a P
  told_end P None c taken k e p = tt
  told_end P (Some script) None taken k e p = absurd k
  told_end P (Some script) (Some ys) taken k e p =
      subst P (sym (k ∙ ap (λ l. taken ++ l) e ∙ append-nil taken)) p

  module _ {status : Status} {a c u w : Option (List ℕ)}
      (ran : Ran limit start status a c u w) where
    -- a prefix of the next reply was written
    said_next : AppendsPrefix ran.between w (next_reply limit (recorded_after limit start ran.whole)
        ran.rest).text → AppendsPrefix u w (replies_of limit start ran.taken)
    said_next p =
        let now = recorded_after limit start ran.whole in
        subst (AppendsPrefix u w) (sym (ap (replies limit start) ran.are
        ∙ replies-append limit start ran.whole ran.rest))
        (after u ran.between w (replies limit start ran.whole) (replies limit now ran.rest)
        ran.replied (next_prefix now ran.rest ran.between w p))

    said_prefix : AppendsPrefix ran.between w
        (next_reply limit (recorded_after limit start ran.whole) ran.rest).text
        → IfKnown a (λ script. AppendsPrefix u w (output limit start script))
    said_prefix p = prefix_told a c u w ran.taken ran.consumed (said_next p)

    said_nothing : w ≡ ran.between → IfKnown a
        (λ script. AppendsPrefix u w (output limit start script))
    said_nothing same = said_prefix (kept_prefix ran.between w _ same)

    -- all statements were answered
    all_replies : ran.rest ≡ [] → Appends u ran.between (replies_of limit start ran.taken)
    all_replies none = subst (λ l. Appends u ran.between (replies limit start l))
        (sym (ran.are ∙ ap (λ l. ran.whole ++ l) none ∙ append-nil ran.whole)) ran.replied

    said_tail : WroteTail ran.taken ran.rest c ran.between w
        → IfKnown a (λ script. AppendsPrefix u w (output limit start script))
    said_tail t = told_end (λ script. AppendsPrefix u w (output limit start script)) a c ran.taken
        ran.consumed t.end
        (after u ran.between w (replies_of limit start ran.taken) (tail_text (ending_of ran.taken))
        (all_replies t.answered) t.prefix)

    said_all : ran.rest ≡ [] → IsAtEnd c → Appends ran.between w (tail_text (ending_of ran.taken))
        → IfKnown a (λ script. Appends u w (output limit start script))
    said_all none end all = told_end (λ script. Appends u w (output limit start script)) a c
        ran.taken ran.consumed end
        (Appends-trans u ran.between w (replies_of limit start ran.taken)
        (tail_text (ending_of ran.taken)) (all_replies none) all)

  weaker_told : (a : Option (List ℕ)) (P Q : List ℕ → Type 0)
      → ((script : List ℕ) → P script → Q script) → IfKnown a P → IfKnown a Q
  weaker_told None P Q f p = tt
  weaker_told (Some script) P Q f p = f script p

  pub ran_whole : (status : Status) (a c u w : Option (List ℕ)) → Ran limit start status a c u w
      → is_whole status ≡ true → IfKnown a (λ script. Appends u w (output limit start script))
  ran_whole Done a c u w r e = said_all r r.wrote.0.answered r.wrote.0.end r.wrote.0.all
  ran_whole Refused a c u w r e = said_all r r.wrote.0.answered r.wrote.0.end r.wrote.0.all
  ran_whole Words a c u w r e = cc
  ran_whole ReadFault a c u w r e = cc
  ran_whole WriteFault a c u w r e = cc
  ran_whole DiskFault a c u w r e = cc
  ran_whole (NotAJournal place) a c u w r e = cc
  ran_whole NoMemory a c u w r e = cc
  ran_whole InputLimit a c u w r e = cc

  pub ran_prefix : (status : Status) (a c u w : Option (List ℕ)) → Ran limit start status a c u w
      → IfKnown a (λ script. AppendsPrefix u w (output limit start script))
  ran_prefix Done a c u w r = weaker_told a _ _
      (λ script p. all_of u w (output limit start script) p) (ran_whole Done a c u w r refl)
  ran_prefix Refused a c u w r = weaker_told a _ _
      (λ script p. all_of u w (output limit start script) p) (ran_whole Refused a c u w r refl)
  ran_prefix Words a c u w r = absurd r.wrote
  ran_prefix ReadFault a c u w r = said_nothing r r.wrote.2
  ran_prefix WriteFault a c u w r = ⊎_elim (λ p. said_prefix r p) (λ t. said_tail r t) r.wrote.1
  ran_prefix DiskFault a c u w r = said_nothing r r.wrote.1
  ran_prefix (NotAJournal place) a c u w r = absurd r.wrote
  ran_prefix NoMemory a c u w r = said_nothing r r.wrote.1
  ran_prefix InputLimit a c u w r = said_nothing r r.wrote.2

-- ---- what is left on the disk

-- those begun are the first of the rest, or none
begun_is : (status : Status) (rest : List StatementPart) → (more : List StatementPart)
    × (rest ≡ begun status rest ++ more)
begun_is Done rest = (rest, refl)
begun_is Refused rest = (rest, refl)
begun_is Words rest = (rest, refl)
begun_is ReadFault rest = (rest, refl)
begun_is WriteFault rest = (drop 1 rest, sym (take-append-drop 1 rest))
begun_is DiskFault rest = (drop 1 rest, sym (take-append-drop 1 rest))
begun_is (NotAJournal place) rest = (rest, refl)
begun_is NoMemory rest = (rest, refl)
begun_is InputLimit rest = (rest, refl)

module _ (limit : Given) (start : Recorded) where
  puts_begin : (xs ys : List ℕ) → script_puts limit start (xs ++ ys) ≡ script_puts limit start xs
      ++ all_puts limit (recorded_after limit start (parts_of xs))
      (parts_from (mode_after_script xs) (tail_of xs) ys)
  puts_begin xs ys = ap (all_puts limit start) (parts-append xs ys)
      ∙ put-append limit start (parts_of xs) (parts_from (mode_after_script xs) (tail_of xs) ys)

  -- those that were attempted are the first of those that the script puts
  pub attempted_prefix : (status : Status) (taken ys : List ℕ) (whole rest : List StatementPart)
      → parts_of taken ≡ whole ++ rest
      → (more : List Due) × (script_puts limit start (taken ++ ys)
      ≡ all_puts limit start (whole ++ begun status rest) ++ more)
  attempted_prefix status taken ys whole rest are =
      let b = begun_is status rest in
      let first : parts_of taken ≡ (whole ++ begun status rest) ++ b.0 = are
      ∙ ap (λ l. whole ++ l) b.1 ∙ sym (append_assoc whole (begun status rest) b.0) in
      let tried = all_puts limit start (whole ++ begun status rest) in
      let others = all_puts limit (recorded_after limit start (whole ++ begun status rest)) b.0 in
      let later = all_puts limit (recorded_after limit start (parts_of taken))
      (parts_from (mode_after_script taken) (tail_of taken) ys) in (
        others ++ later,
        puts_begin taken ys ∙ ap (λ l. l ++ later)
            (ap (all_puts limit start) first ∙ put-append limit start (whole ++ begun status rest)
            b.0) ∙ append_assoc tried others later,
      )

module _ (limit : Given) (opening log : List LogRecord) (status : Status) (taken : List ℕ)
    (whole rest : List StatementPart) (old new : Meaning) (are : parts_of taken ≡ whole ++ rest)
    (its : AreRecordsOf (all_puts limit (recorded opening) (whole ++ begun status rest)) log)
    (turns : Turns old new (OpensPrefix opening log)) where
  prefix_told_on_disk : (a c : Option (List ℕ)) → Consumes a c taken
      → IfKnown a (λ script. LeavesPrefix old new opening
      (script_puts limit (recorded opening) script))
  prefix_told_on_disk None c k = tt
  prefix_told_on_disk (Some script) None k = absurd k
  prefix_told_on_disk (Some script) (Some ys) k =
      let f = attempted_prefix limit (recorded opening) status taken ys whole rest are in
      let tried = all_puts limit (recorded opening) (whole ++ begun status rest) in
      let all : script_puts limit (recorded opening) script ≡ tried ++ f.0 =
      ap (script_puts limit (recorded opening)) k ∙ f.1 in (
        log,
        subst (λ (l : List Due). AreFirstOf l log) (sym all) (all_first tried f.0 log its),
        inr turns,
      )

told_always : (a : Option (List ℕ)) (P : List ℕ → Type 0) → ((script : List ℕ) → P script)
    → IfKnown a P
told_always None P f = tt
told_always (Some script) P f = f script

-- ---- a file that was not opened

-- no file that opens is told as damaged, and nothing was written for another fault
pub unopened_kept : NeverBoth → (status : Status) (u w : Option (List ℕ)) (f h : ℕ)
    (seen then : Option (List ℕ)) (file : List ℕ) (opening : List LogRecord) → seen ≡ Some file
    → Opens file opening
    → ToldUnopened status u w f h seen then → w ≡ u
unopened_kept apart Done u w f h seen then file opening is opens t = absurd t
unopened_kept apart Refused u w f h seen then file opening is opens t = absurd t
unopened_kept apart Words u w f h seen then file opening is opens t = absurd t
unopened_kept apart ReadFault u w f h seen then file opening is opens t = absurd t
unopened_kept apart WriteFault u w f h seen then file opening is opens t = absurd t
unopened_kept apart DiskFault u w f h seen then file opening is opens t = t
unopened_kept apart (NotAJournal place) u w f h seen then file opening is opens t =
    absurd (apart file opening place opens (subst (λ s. IfKnown s (λ x. Damages x place)) is t.1))
unopened_kept apart NoMemory u w f h seen then file opening is opens t = t
unopened_kept apart InputLimit u w f h seen then file opening is opens t = absurd t

pub unopened_not_whole : (status : Status) (u w : Option (List ℕ)) (f h : ℕ)
    (seen then : Option (List ℕ)) → ToldUnopened status u w f h seen then → is_whole status ≡ true
    → ⊥
unopened_not_whole Done u w f h seen then t e = t
unopened_not_whole Refused u w f h seen then t e = t
unopened_not_whole Words u w f h seen then t e = t
unopened_not_whole ReadFault u w f h seen then t e = t
unopened_not_whole WriteFault u w f h seen then t e = t
unopened_not_whole DiskFault u w f h seen then t e = cc
unopened_not_whole (NotAJournal place) u w f h seen then t e = cc
unopened_not_whole NoMemory u w f h seen then t e = cc
unopened_not_whole InputLimit u w f h seen then t e = t

-- where it is damaged, its place is told, unless the disk failed or memory ran out
pub unopened_damaged : DamagedOnce → (status : Status) (u w : Option (List ℕ)) (f h : ℕ)
    (seen then : Option (List ℕ)) (file : List ℕ) (place : ℕ) → seen ≡ Some file
    → Damages file place
    → ToldUnopened status u w f h seen then → (status ≡ NotAJournal place)
    ⊎ ((status ≡ DiskFault) ⊎ (status ≡ NoMemory))
unopened_damaged place_once Done u w f h seen then file place is damages t = absurd t
unopened_damaged place_once Refused u w f h seen then file place is damages t = absurd t
unopened_damaged place_once Words u w f h seen then file place is damages t = absurd t
unopened_damaged place_once ReadFault u w f h seen then file place is damages t = absurd t
unopened_damaged place_once WriteFault u w f h seen then file place is damages t = absurd t
unopened_damaged place_once DiskFault u w f h seen then file place is damages t = inr (inl refl)
unopened_damaged place_once (NotAJournal p) u w f h seen then file place is damages t =
    inl (ap NotAJournal (place_once file p place (subst (λ s. IfKnown s (λ x. Damages x p)) is t.1)
    damages))
unopened_damaged place_once NoMemory u w f h seen then file place is damages t = inr (inr refl)
unopened_damaged place_once InputLimit u w f h seen then file place is damages t = absurd t

pub unopened_told : (status : Status) (u w : Option (List ℕ)) (f h : ℕ)
    (seen then : Option (List ℕ)) (place : ℕ) → status ≡ NotAJournal place
    → ToldUnopened status u w f h seen then
    → IfKnown seen (λ file. Damages file place)
unopened_told status u w f h seen then place is t =
    let here = subst (λ s. ToldUnopened s u w f h seen then) is t in here.1

-- a file that opens is not damaged
pub opens_not_damaged : NeverBoth → (seen : Option (List ℕ)) (start : Recorded) (file : List ℕ)
    (place : ℕ) → seen ≡ Some file → IsOpening start seen → Damages file place → ⊥
opens_not_damaged apart seen start file place is opened damages =
    let here : IsOpening start (Some file) = subst (IsOpening start) is opened in
    apart file here.0 place here.1 damages

-- of a run that stands as told, no damage is told
ran_not_damaged : (limit : Given) (start : Recorded) (status : Status) (place : ℕ)
    (a c u w : Option (List ℕ)) → status ≡ NotAJournal place → Ran limit start status a c u w → ⊥
ran_not_damaged limit start status place a c u w is ran =
    let here = subst (λ s. Ran limit start s a c u w) is ran in here.wrote

-- nothing was put after the opening records
pub none_left : (status : Status) (file : List ℕ) (opening : List LogRecord) (old new : Meaning)
    → old.seen ≡ Some file → Opens file opening → IsTrue old.is_honest
    → ((status ≡ DiskFault) × IsNotSynced old new) ⊎ KeepsFile old new
    → UntilSynced old new (OpensPrefix opening [])
none_left status file opening old new is opens honest (inl early) = inl (early.1 honest)
none_left status file opening old new is opens honest (inr late) =
    inr (turns_weaker old new (SameOrNine file) (OpensPrefix opening []) (late file honest is)
    (λ x same. opens_none_yet file opening [] opens x same))

-- ---- a run over a disk

module _ (limit : Given) (status : Status) (a c u w : Option (List ℕ)) (f h : ℕ)
    (old new : Meaning) where
  module _ (once : OpensOnce) (apart : NeverBoth) (file : List ℕ) (opening : List LogRecord)
      (is : old.seen ≡ Some file) (opens : Opens file opening) where
    start_here : (r : RanOpened limit status a c u w old new) → r.start ≡ recorded opening
    start_here r = start_is once old.seen r.start file opening is r.opened opens

    -- the records are of what the statements put after the opening ones
    its_records : (r : RanOpened limit status a c u w old new)
        → AreRecordsOf (all_puts limit (recorded opening) (r.ran.whole ++ begun status r.ran.rest))
        (logged_in r.log)
    its_records r = subst (λ (n : Recorded). AreRecordsOf
        (all_puts limit n (r.ran.whole ++ begun status r.ran.rest)) (logged_in r.log))
        (start_here r) r.log.all_are

    pub prefix_over : RunsOver limit status a c u w f h old new
        → IfKnown a (λ script. AppendsPrefix u w (output limit (recorded opening) script))
    prefix_over (inl n) = told_always a (λ script.
        AppendsPrefix u w (output limit (recorded opening) script))
        (λ script. kept_prefix u w (output limit (recorded opening) script)
        (unopened_kept apart status u w f h old.seen new.seen file opening is opens n.told))
    prefix_over (inr r) = subst (λ s. IfKnown a
        (λ script. AppendsPrefix u w (output limit s script))) (start_here r)
        (ran_prefix limit r.start status a c u w r.ran)

    pub whole_over : is_whole status ≡ true → RunsOver limit status a c u w f h old new
        → IfKnown a (λ script. Appends u w (output limit (recorded opening) script))
    whole_over e (inl n) = absurd (unopened_not_whole status u w f h old.seen new.seen n.told e)
    whole_over e (inr r) = subst (λ s. IfKnown a (λ script. Appends u w (output limit s script)))
        (start_here r)
        (ran_whole limit r.start status a c u w r.ran e)

    pub crash_over : IsTrue old.is_honest → RunsOver limit status a c u w f h old new
        → IfKnown a (λ script. LeavesPrefix old new opening
        (script_puts limit (recorded opening) script))
    crash_over honest (inl n) = told_always a
        (λ script. LeavesPrefix old new opening (script_puts limit (recorded opening) script))
        (λ script. ([], tt, none_left status file opening old new is opens honest n.disk))
    crash_over honest (inr r) =
        prefix_told_on_disk limit opening (logged_in r.log) status r.ran.taken r.ran.whole
        r.ran.rest old new r.ran.are (its_records r)
        (r.disk.any_moment file opening honest is opens) a c r.ran.consumed

    pub sound_over : IsTrue old.is_honest → AreSound beginning opening
        → RunsOver limit status a c u w f h old new → UntilSynced old new IsSoundFile
    sound_over honest sound (inl n) =
        until_weaker old new (OpensPrefix opening []) IsSoundFile
        (none_left status file opening old new is opens honest n.disk)
        (λ x p. sound_opening opening [] sound tt x p)
    sound_over honest sound (inr r) =
        let log = logged_in r.log in
        let put = put_sound limit opening (r.ran.whole ++ begun status r.ran.rest) log
        (its_records r) in
        inr (turns_weaker old new (OpensPrefix opening log) IsSoundFile
        (r.disk.any_moment file opening honest is opens)
        (λ x p. sound_opening opening log sound put x p))

  pub damaged_over : (place : ℕ) → status ≡ NotAJournal place
      → RunsOver limit status a c u w f h old new → IfKnown old.seen (λ file. Damages file place)
  damaged_over place is (inl n) = unopened_told status u w f h old.seen new.seen place is n.told
  damaged_over place is (inr r) = absurd (ran_not_damaged limit r.start status place a c u w is
      r.ran)

  pub refuses_over : DamagedOnce → NeverBoth → (file : List ℕ) (place : ℕ) → old.seen ≡ Some file
      → Damages file place → RunsOver limit status a c u w f h old new
      → RefusesFile place status a c
  refuses_over place_once apart file place is damages (inl n) =
      record {
        kept = n.kept;
        status_is = unopened_damaged place_once status u w f h old.seen
            new.seen file place is damages n.told;
      }
  refuses_over place_once apart file place is damages (inr r) =
      absurd (opens_not_damaged apart old.seen r.start file place is r.opened damages)

-- ---- a run that called no disk

module _ {D : Type 0} (M : D → Meaning) (status : Status) (a c u w : Option (List ℕ))
    (disk back : D) (none : IsUntouched status a c u w disk back) where
  pub untouched_leaves : IsValid (M disk) → (P : List ℕ → Type 0) → UntilSynced (M disk) (M back) P
  untouched_leaves law P = inl (subst (λ d. Leaves (M disk) (M d) (M disk).may_leave)
      (sym none.disk) (λ x left. law.only_now x left))

  pub crash_untouched : IsValid (M disk) → (limit : Given) (opening : List LogRecord)
      → IfKnown a (λ script. LeavesPrefix (M disk) (M back) opening
      (script_puts limit (recorded opening) script))
  crash_untouched law limit opening = told_always a
      (λ script. LeavesPrefix (M disk) (M back) opening
      (script_puts limit (recorded opening) script))
      (λ script. ([], tt, untouched_leaves law (OpensPrefix opening [])))

  pub prefix_untouched : (limit : Given) (start : Recorded)
      → IfKnown a (λ script. AppendsPrefix u w (output limit start script))
  prefix_untouched limit start = told_always a
      (λ script. AppendsPrefix u w (output limit start script))
      (λ script. kept_prefix u w (output limit start script) none.wrote)

  pub not_whole_untouched : is_whole status ≡ true → ⊥
  not_whole_untouched e = let here : is_whole NoMemory ≡ true =
      subst (λ s. is_whole s ≡ true) none.memory e in cc

  pub refuses_untouched : (place : ℕ) → RefusesFile place status a c
  refuses_untouched place = record { kept = none.kept; status_is = inr (inr none.memory) }

  pub not_damaged_untouched : (place : ℕ) → status ≡ NotAJournal place → ⊥
  not_damaged_untouched place is = let here : NotAJournal place ≡ NoMemory = sym is ∙ none.memory in
      cc
