-- What was acknowledged stays in each file that a crash may leave at the exit.
use Rattle.std.proofs.Common.{◌≡◌, ◌⊎◌, inl, inr, ℕ, IsTrue, List, [], ◌∷◌, ◌++◌, take, refl, sym}
use Rattle.std.proofs.Common.{⊎_elim, subst, append-nil, arith, take_all}
use Rattle.std.specs.Prelude.{Option, Some}
use Rattle.std.specs.Io.KnownBytes.{Keeps}
use Rattle.prima_io.specs.Moves.{AppendsPrefix}
use Rattle.prima_io.proofs.Prefixes.{whole as all_of}
use Rattle.disk_model.specs.Meaning.{Meaning, IsValid}
use Rattle.disk_model.specs.Moments.{GoesOn, UntilSynced}
use Rattle.disk_model.specs.MomentLaws.{leaves_now, turns_now}
use Rattle.archive_core_file_spec.specs.LogRecords.{LogRecord}
use Rattle.archive_core_file_spec.specs.Opening.{Opens}
use Rattle.script_parse.specs.Script.{StatementPart}
use Rattle.script_cli_statement.specs.Due.{Due, AreRecordsOf}
use Rattle.script_cli_statement.specs.Given.{Given}
use Rattle.script_cli_statement.specs.Replies.{Recorded, recorded}
use Rattle.script_cli.specs.Files.{OpensPrefix, EndsAs}
use Rattle.script_cli.specs.Output.{all_puts, recorded_after, ending_of, tail_text}
use Rattle.script_cli.specs.Runs.{Wrote, WroteTail, RanOpened, RunsOver, IsUntouched, begun}
use Rattle.script_cli.specs.Runs.{KeepsAnswered, StaysUnanswered}
use Rattle.script_cli.specs.Taking.{next_reply}
use Rattle.script_cli.specs.declared.status.Status.{Status}
use Rattle.script_cli.specs.declared.status.Status.TheVariants.{Done, Refused, Words, ReadFault}
use Rattle.script_cli.specs.declared.status.Status.TheVariants.{WriteFault, DiskFault, NotAJournal}
use Rattle.script_cli.specs.declared.status.Status.TheVariants.{NoMemory, InputLimit}
use Rattle.script_cli.proofs.OneReading.{OpensOnce, NeverBoth}
use Rattle.script_cli.proofs.OnDisks.{start_is}
use Rattle.script_cli.proofs.Taking.{put-append}
use Rattle.script_cli.proofs.Telling.{kept_prefix, none_left, unopened_kept}

-- ---- by the status

module _ (opening done log : List LogRecord) (c : List ℕ) where
  ends_some : (status : Status) → EndsAs status opening done log c
      → Opens c (opening ++ done) ⊎ Opens c (opening ++ log)
  ends_some Done ends = inr ends
  ends_some Refused ends = inr ends
  ends_some Words ends = inr ends
  ends_some ReadFault ends = inr ends
  ends_some WriteFault ends = inr ends
  ends_some DiskFault ends = ends
  ends_some (NotAJournal place) ends = inr ends
  ends_some NoMemory ends = inr ends
  ends_some InputLimit ends = inr ends

  ends_all : (status : Status) → (status ≡ DiskFault → ⊥) → EndsAs status opening done log c
      → Opens c (opening ++ log)
  ends_all Done other ends = ends
  ends_all Refused other ends = ends
  ends_all Words other ends = ends
  ends_all ReadFault other ends = ends
  ends_all WriteFault other ends = ends
  ends_all DiskFault other ends = absurd (other refl)
  ends_all (NotAJournal place) other ends = ends
  ends_all NoMemory other ends = ends
  ends_all InputLimit other ends = ends

module _ (limit : Given) (start : Recorded) (taken : List ℕ) (whole rest : List StatementPart)
    (left u w : Option (List ℕ)) where
  abbrev next_text : List ℕ
  next_text = (next_reply limit (recorded_after limit start whole) rest).text

  abbrev last_text : List ℕ
  last_text = tail_text (ending_of taken)

  -- after the replies a prefix of the next one was written, or of what is due at the end
  wrote_next : (status : Status) → Wrote status limit start taken whole rest left u w
      → AppendsPrefix u w next_text ⊎ AppendsPrefix u w last_text
  wrote_next Done wrote = inr (all_of u w last_text wrote.0.all)
  wrote_next Refused wrote = inr (all_of u w last_text wrote.0.all)
  wrote_next Words wrote = absurd wrote
  wrote_next ReadFault wrote = inl (kept_prefix u w next_text wrote.2)
  wrote_next WriteFault wrote = by wrote.1
    where
      by : AppendsPrefix u w next_text ⊎ WroteTail taken rest left u w
          → AppendsPrefix u w next_text ⊎ AppendsPrefix u w last_text
      by (inl next) = inl next
      by (inr tail) = inr tail.prefix
  wrote_next DiskFault wrote = inl (kept_prefix u w next_text wrote.1)
  wrote_next (NotAJournal place) wrote = absurd wrote
  wrote_next NoMemory wrote = inl (kept_prefix u w next_text wrote.1)
  wrote_next InputLimit wrote = inl (kept_prefix u w next_text wrote.2)

  -- where the disk failed, no byte of the next reply was written
  wrote_none : (status : Status) → Wrote status limit start taken whole rest left u w
      → (w ≡ u) ⊎ (status ≡ DiskFault → ⊥)
  wrote_none Done wrote = inr (λ is. cc)
  wrote_none Refused wrote = inr (λ is. cc)
  wrote_none Words wrote = absurd wrote
  wrote_none ReadFault wrote = inr (λ is. cc)
  wrote_none WriteFault wrote = inr (λ is. cc)
  wrote_none DiskFault wrote = inl wrote.1
  wrote_none (NotAJournal place) wrote = absurd wrote
  wrote_none NoMemory wrote = inr (λ is. cc)
  wrote_none InputLimit wrote = inr (λ is. cc)

-- the records behind those that are known
rest_are : (xs ys : List Due) (a b : List LogRecord) → AreRecordsOf xs a
    → AreRecordsOf (xs ++ ys) (a ++ b) → AreRecordsOf ys b
rest_are [] ys [] b known are = are
rest_are [] ys (r ∷ a) b known are = absurd known
rest_are (x ∷ xs) ys [] b known are = absurd known
rest_are (x ∷ xs) ys (r ∷ a) b known are = rest_are xs ys a b known.1 are.1

none_more : (log : List LogRecord) → AreRecordsOf [] log → log ≡ []
none_more [] are = refl
none_more (r ∷ log) are = absurd are

-- the statement that was begun is the next one, or none
begun_are : (limit : Given) (now : Recorded) (status : Status) (rest : List StatementPart)
    (log : List LogRecord) → AreRecordsOf (all_puts limit now (begun status rest)) log
    → AreRecordsOf (all_puts limit now (take 1 rest)) log ⊎ (log ≡ [])
begun_are limit now Done rest log are = inr (none_more log are)
begun_are limit now Refused rest log are = inr (none_more log are)
begun_are limit now Words rest log are = inr (none_more log are)
begun_are limit now ReadFault rest log are = inr (none_more log are)
begun_are limit now WriteFault rest log are = inl are
begun_are limit now DiskFault rest log are = inl are
begun_are limit now (NotAJournal place) rest log are = inr (none_more log are)
begun_are limit now NoMemory rest log are = inr (none_more log are)
begun_are limit now InputLimit rest log are = inr (none_more log are)

-- ---- what is left

-- a prefix of no records
none_yet : (opening : List LogRecord) (c : List ℕ) → Opens c opening → OpensPrefix opening [] c
none_yet opening c opens = (0, omega arith, subst (Opens c) (sym (append-nil opening)) opens)

none_there : (opening : List LogRecord) (c : List ℕ) → OpensPrefix opening [] c → Opens c opening
none_there opening c prefix =
    let none : take prefix.0 [] ≡ [] = take_all prefix.0 [] (omega arith) in
    subst (Opens c) (append-nil opening) (subst (λ l. Opens c (opening ++ l)) none prefix.2)

-- at the exit of a call whose first sync may not have succeeded
left_now : (old new : Meaning) (P : List ℕ → Type 0) → IsValid new → GoesOn old new
    → ((c : List ℕ) → old.may_leave c → P c) → UntilSynced old new P
    → (c : List ℕ) → new.may_leave c → P c
left_now old new P law goes before (inl early) c left =
    before c (leaves_now old new old.may_leave law goes early c left)
left_now old new P law goes before (inr late) c left = turns_now old new P law late c left

module _ (limit : Given) (status : Status) (a c u w : Option (List ℕ)) (old new : Meaning)
    (opening : List LogRecord) (file : List ℕ) (honest : IsTrue old.is_honest)
    (is : old.seen ≡ Some file) (opens : Opens file opening) where
  ran_answered : (r : RanOpened limit status a c u w old new)
      → KeepsAnswered limit r.start opening a c u w new.may_leave
  ran_answered r =
      let done = r.log.done in
      let more = r.log.begun_with in
      let whole = r.ran.whole in
      let rest = r.ran.rest in
      let now = recorded_after limit r.start whole in
      let apart : AreRecordsOf (all_puts limit r.start whole
      ++ all_puts limit now (begun status rest)) (done ++ more) =
      subst (λ l. AreRecordsOf l (done ++ more))
      (put-append limit r.start whole (begun status rest)) r.log.all_are in
      record {
        taken = r.ran.taken;
        consumed = r.ran.consumed;
        whole = whole;
        rest = rest;
        are = r.ran.are;
        between = r.ran.between;
        replied = r.ran.replied;
        next = wrote_next limit r.start r.ran.taken whole rest c r.ran.between w status r.ran.wrote;
        log = done;
        log_are = r.log.done_are;
        more = more;
        more_are = begun_are limit now status rest more
            (rest_are (all_puts limit r.start whole) (all_puts limit now (begun status rest)) done
            more r.log.done_are apart);
        held = λ x left. ends_some opening done (done ++ more) x status
            (r.disk.exit file opening honest is opens x left);
        next_held = ⊎_elim (λ same. inl same)
            (λ other. inr (λ x left. ends_all opening done (done ++ more) x status other
            (r.disk.exit file opening honest is opens x left)))
            (wrote_none limit r.start r.ran.taken whole rest c r.ran.between w status r.ran.wrote);
      }

  pub answered_over : OpensOnce → NeverBoth → (f h : ℕ) → IsValid new → GoesOn old new
      → RunsOver limit status a c u w f h old new
      → StaysUnanswered opening a c u w old.may_leave new.may_leave
      ⊎ KeepsAnswered limit (recorded opening) opening a c u w new.may_leave
  answered_over once apart f h law goes (inl n) = inl (record {
    kept = n.kept;
    wrote = unopened_kept apart status u w f h old.seen new.seen file opening is opens n.told;
    held = λ before x left. none_there opening x (left_now old new (OpensPrefix opening []) law goes
        (λ y earlier. none_yet opening y (before y earlier))
        (none_left status file opening old new is opens honest n.disk) x left);
  })
  answered_over once apart f h law goes (inr r) =
      inr (subst (λ s. KeepsAnswered limit s opening a c u w new.may_leave)
      (start_is once old.seen r.start file opening is r.opened opens) (ran_answered r))

-- memory ran out before the disk was called
pub answered_untouched : {D : Type 0} (M : D → Meaning) (status : Status)
    (a c u w : Option (List ℕ)) (disk back : D) → IsUntouched status a c u w disk back
    → (opening : List LogRecord)
    → StaysUnanswered opening a c u w (M disk).may_leave (M back).may_leave
answered_untouched M status a c u w disk back none opening = record {
  kept = none.kept;
  wrote = none.wrote;
  held = λ before. subst (λ d. (x : List ℕ) → (M d).may_leave x → Opens x opening)
      (sym none.disk) before;
}
