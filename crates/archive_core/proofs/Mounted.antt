-- From the records of a file to what mounting it says.
use Rattle.std.proofs.Common.{◌≡◌, inl, inr, ℕ, ◌+◌, ◌≤◌, List, [], ◌∷◌, ◌++◌, length, refl, sym}
use Rattle.std.proofs.Common.{subst, ap, ◌∙◌, arith, Some, None}
use Rattle.std.specs.Prelude.{Option, nat_le, false, if◌then◌else◌}
use Rattle.std.proofs.lemmas.Bool.Decides.{nat_tests}
use Rattle.std.proofs.lemmas.List.{length-map}
use Rattle.disk_model.specs.Meaning.{Meaning, IfKnown, BothKnown}
use Rattle.journal.specs.Records.{Record, StandsFor, before_gate, empty_journal, opened_file}
use Rattle.journal.specs.Reading.{records_in, record_of as plain_record, IsOpened}
use Rattle.journal.specs.MountLaws.{opened_stands, opened_records}
use Rattle.journal.specs.JournalFiles.{Stands}
use Rattle.journal.specs.declared.rec.Rec.{Rec}
use Rattle.archive_core_file_spec.specs.LogRecords.{LogRecord, logged, records_of, gate_after}
use Rattle.archive_core_file_spec.specs.LogRecords.{replayed_of}
use Rattle.archive_core_file_spec.specs.Opening.{HasFaultAt, Damages, Opens}
use Rattle.archive_core_replay.specs.Memory.{ArchiveContent}
use Rattle.archive_core_replay.specs.declared.opened.Opened.{Opened}
use Rattle.archive_core_replay.specs.Restoring.{IsRestored}
use Rattle.archive_core.specs.Mounting.{IsMounted}
use Rattle.archive_core.specs.DiskReads.{HoldsAt}
use Rattle.archive_core.proofs.Held.{held_opened}

gate_is : (file : List ℕ) (recs : List Rec) (at : ℕ) (log : List LogRecord) → IsOpened file recs at
    → records_in recs ≡ records_of log → at ≡ gate_after log
gate_is file recs at log (inl short) same =
    short.2 ∙ ap (λ (l : List Record). length (before_gate l)) (ap records_in (sym short.1) ∙ same)
gate_is file recs at log (inr read) same = read.1.end
    ∙ ap (λ (l : List Record). length (before_gate l)) same

mounted : (file : List ℕ) (recs : List Rec) (at : ℕ) (archive : ArchiveContent) (opened : Opened)
    → IsOpened file recs at → IsRestored (records_in recs) archive opened
    → IsMounted file archive at opened
mounted file recs at archive opened is_opened made =
    record {
      log = made.log;
      opens = record {
        stands = subst (StandsFor file) made.records_are (opened_stands file recs at is_opened);
        encoded = made.encoded;
        accepted = made.accepted;
      };
      represents = made.represents;
      place = gate_is file recs at made.log is_opened made.records_are;
      counted = made.counted;
    }

no_fault : (place : ℕ) → HasFaultAt [] place → ⊥
no_fault place (inl h) = none h.before h.records_are
  where
    none : (before : List LogRecord) → [] ≡ records_of before ++ h.refused ∷ h.after → ⊥
    none [] e = cc
    none (r ∷ before) e = cc
no_fault place (inr h) = none h.before h.records_are
  where
    none : (before : List LogRecord) → [] ≡ records_of (before ++ logged h.command ∷ h.after) → ⊥
    none [] e = cc
    none (r ∷ before) e = cc

kept_file : (file new : List ℕ) (recs : List Rec) (at place : ℕ) → IsOpened file recs at
    → new ≡ opened_file file → HasFaultAt (records_in recs) place → new ≡ file
kept_file file new recs at place (inl short) e fault =
    absurd (no_fault place (subst (λ (l : List Rec). HasFaultAt (records_in l) place) short.1
    fault))
kept_file file new recs at place (inr read) e fault =
    let long : nat_le (length file) 9 ≡ false = grind (arith, nat_tests, read.0) in e
    ∙ ap (λ b. if b then empty_journal else file) long

-- the same of what a disk tells
pub tell_mounted : (seen : Option (List ℕ)) (recs : List Rec) (at : ℕ) (archive : ArchiveContent)
    (opened : Opened) → IfKnown seen (λ file. IsOpened file recs at)
    → IsRestored (records_in recs) archive opened
    → IfKnown seen (λ file. IsMounted file archive at opened)
tell_mounted None recs at archive opened is_opened made = tt
tell_mounted (Some file) recs at archive opened is_opened made =
    mounted file recs at archive opened is_opened made

pub tell_damaged : (seen : Option (List ℕ)) (recs : List Rec) (at place : ℕ)
    → IfKnown seen (λ file. IsOpened file recs at) → HasFaultAt (records_in recs) place
    → IfKnown seen (λ file. Damages file place)
tell_damaged None recs at place opened fault = tt
tell_damaged (Some file) recs at place opened fault =
    inr (record {
      records = records_in recs;
      stands = opened_stands file recs at opened;
      fault = fault;
    })

pub tell_frames : (seen : Option (List ℕ)) (P Q : List ℕ → Type 0)
    → ((file : List ℕ) → P file → Q file) → IfKnown seen P → IfKnown seen Q
tell_frames None P Q weaker told = tt
tell_frames (Some file) P Q weaker told = weaker file told

pub tell_all : (seen : Option (List ℕ)) (P : List ℕ → Type 0) → ((file : List ℕ) → P file)
    → IfKnown seen P
tell_all None P all = tt
tell_all (Some file) P all = all file

pub tell_untouched : (old new : Option (List ℕ)) (recs : List Rec) (at place : ℕ)
    → IfKnown old (λ file. IsOpened file recs at)
    → BothKnown (λ o n. n ≡ opened_file o) old new → HasFaultAt (records_in recs) place → new ≡ old
tell_untouched None None recs at place opened told fault = refl
tell_untouched None (Some new) recs at place opened told fault = absurd told
tell_untouched (Some file) None recs at place opened told fault = absurd told
tell_untouched (Some file) (Some new) recs at place opened told fault =
    ap Some (kept_file file new recs at place opened told fault)

pub tell_cost : (seen : Option (List ℕ)) (recs : List Rec) (at old new : ℕ)
    → IfKnown seen (λ file. IsOpened file recs at) → new ≤ old + length recs
    → IfKnown seen (λ file. (records : List Record) → StandsFor file records
    → new ≤ old + length records)
tell_cost None recs at old new opened cost = tt
tell_cost (Some file) recs at old new opened cost = λ records stands.
    omega (
      arith,
      cost,
      ap (λ (l : List Record). length l)
          (opened_records file records recs at stands opened),
      length-map recs plain_record,
    )

pub tell_cost_open : (seen : Option (List ℕ)) (recs : List Rec) (at old new : ℕ)
    → IfKnown seen (λ file. IsOpened file recs at)
    → ((log : List LogRecord) → records_in recs ≡ records_of log → new ≤ old + replayed_of log)
    → IfKnown seen (λ file. (log : List LogRecord) → Opens file log → new ≤ old + replayed_of log)
tell_cost_open None recs at old new opened cost = tt
tell_cost_open (Some file) recs at old new opened cost = λ log opens.
    cost log (sym (opened_records file (records_of log) recs at opens.stands opened))

pub stands_as : (d : Meaning) (seen : Option (List ℕ)) (recs : List Rec) (at : ℕ) (file : List ℕ)
    (log : List LogRecord) → seen ≡ Some file
    → IfKnown seen (λ f. IsOpened f recs at) → Opens file log → Stands d at (records_in recs)
    → Stands d at (records_of log)
stands_as d seen recs at file log is opened opens stands =
    let here : IsOpened file recs at = subst (λ s. IfKnown s (λ f. IsOpened f recs at)) is opened in
    subst (Stands d at) (sym (opened_records file (records_of log) recs at opens.stands here))
    stands

-- what a read then gives holds these records
pub holds_as : (old new : Meaning) (recs : List Rec) (at : ℕ) (file : List ℕ) (log : List LogRecord)
    → old.seen ≡ Some file → IfKnown old.seen (λ f. IsOpened f recs at)
    → BothKnown (λ o n. n ≡ opened_file o) old.seen new.seen → Opens file log
    → HoldsAt new at (records_of log)
holds_as old new recs at file log is opened told opens =
    let here : IsOpened file recs at = subst (λ s. IfKnown s (λ f. IsOpened f recs at)) is opened in
    held_opened old new at file (records_of log) is told opens.stands
    (gate_is file recs at log here (sym (opened_records file (records_of log) recs at opens.stands
    here)))
