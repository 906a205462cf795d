-- Records that were read, and the commands after the last image carried out or refused.
use Rattle.std.proofs.Common.{◌≡◌, inr, ℕ, ◌+◌, ◌-◌, ◌<◌, List, [], ◌∷◌, ◌++◌}
use Rattle.std.proofs.Common.{length, get_or, take, drop, map, refl, sym, subst, ap, ◌∙◌, arith}
use Rattle.std.proofs.Common.{◌≤◌, length-append, length-drop, append_assoc}
use Rattle.std.proofs.lemmas.List.{length-map, map-append, get_or-drop, take_all}
use Rattle.smo_ops_types.specs.Commands.{PlainCommand, command_of}
use Rattle.smo_ops_spec.specs.Accepts.{command_fault}
use Rattle.journal.specs.Records.{Record, before_gate}
use Rattle.journal.specs.Reading.{records_in, record_of as plain_record, AreInPlace}
use Rattle.journal.specs.declared.rec.Rec.{Rec}
use Rattle.archive_core_file_spec.specs.LogRecords.{LogRecord, logged, record_of, records_of}
use Rattle.archive_core_file_spec.specs.LogRecords.{gate_after}
use Rattle.archive_core_file_spec.specs.LogRecords.{AreEncoded, past_recorded}
use Rattle.archive_core_file_spec.specs.Opening.{HasFaultAt}
use Rattle.archive_core_file_spec.proofs.Records.{no_images}
use Rattle.archive_core_state.specs.ArchiveContents.{ArchiveContent, RepresentsPast}
use Rattle.archive_core_replay.specs.declared.opened.Opened.{Opened}
use Rattle.archive_core_replay.specs.declared.record_reader.ReadRecords.{ReadRecords}
use Rattle.archive_core_replay.specs.Reading.{AreKept, commands_kept}
use Rattle.archive_core_replay.specs.Replaying.{IsStoppedAt, IsReplayed}
use Rattle.archive_core_replay.specs.Restoring.{IsRestored}
use Rattle.archive_core_replay.proofs.Gates.{gate_of}
use Rattle.archive_core_replay.proofs.ReadRecords.{replayed_are, all_accepted, past_after_them}

pub restored : (records : List Record) (kept : ReadRecords) (archive : ArchiveContent)
    (opened : Opened) → (is : AreKept records kept)
    → IsReplayed (past_recorded is.prefix) (commands_kept kept) archive
    → opened.commands ≡ kept.count → opened.replayed ≡ length kept.commands.items
    → IsRestored records archive opened
restored records kept archive opened is replayed count after = record {
  log = is.prefix ++ map logged (commands_kept kept);
  encoded = is.encoded;
  records_are = is.records_are;
  accepted = all_accepted is.prefix is.ends (commands_kept kept) replayed.accepted;
  represents = subst (RepresentsPast archive) (sym (past_after_them is.prefix (commands_kept kept)))
      replayed.represents;
  counted = record {
    commands = count ∙ is.counted;
    replayed = after ∙ sym (length-map kept.commands.items command_of)
        ∙ ap (λ (l : List PlainCommand). length l)
        (sym (replayed_are is.prefix is.ends (commands_kept kept)));
  };
}

-- the records of the last commands, so many
module _ (recs : List Rec) (count len : ℕ) (same : len ≡ count) where
  abbrev cut : List Rec
  cut = take (length recs - (length recs - len)) (drop (length recs - len) recs)

  pub last_are : cut ≡ drop (length recs - count) recs
  last_are = take_all (length recs - (length recs - len)) (drop (length recs - len) recs)
      (omega (arith, length-drop (length recs - len) recs))
      ∙ ap (λ (n : ℕ). drop (length recs - n) recs) same

  pub last_count : count ≤ length recs → count ≡ length cut
  last_count few =
      let all : count ≡ length (drop (length recs - count) recs) =
      omega (arith, few, length-drop (length recs - count) recs) in
      all ∙ sym (ap (λ (l : List Rec). length l) last_are)

-- ---- a command refused

records_before : (before after : List LogRecord)
    → take (length before) (records_of (before ++ after)) ≡ records_of before
records_before [] after = refl
records_before (r ∷ before) after = ap (λ (l : List Record). record_of r ∷ l)
    (records_before before after)

gate_at : (recs : List Rec) (before after : List LogRecord) (r : LogRecord) (place : ℕ)
    → AreInPlace recs → records_in recs ≡ records_of (before ++ r ∷ after)
    → ((d : Rec) → place ≡ (get_or recs (length before) d).at) → place ≡ gate_after before
gate_at [] before after r place places same at =
    absurd (omega (
      arith,
      ap (λ (l : List Record). length l) same,
      length-map (before ++ r ∷ after) record_of,
      length-append before (r ∷ after),
    ))
gate_at (x ∷ recs) before after r place places same at =
    let inside : length before < length (x ∷ recs) =
    omega (
      arith,
      ap (λ (l : List Record). length l) same,
      length-map (before ++ r ∷ after) record_of,
      length-append before (r ∷ after),
      length-map (x ∷ recs) plain_record,
    ) in
    at x ∙ gate_of (x ∷ recs) (length before) x inside places.places
    ∙ ap (λ (l : List Record). length (before_gate l))
    (ap (λ (l : List Record). take (length before) l) same ∙ records_before before (r ∷ after))

pub stopped_fault : (recs : List Rec) (kept : ReadRecords) (place : ℕ)
    → (is : AreKept (records_in recs) kept)
    → IsStoppedAt (past_recorded is.prefix) (commands_kept kept)
    (drop (length recs - length kept.commands.items) recs) place → AreInPlace recs
    → HasFaultAt (records_in recs) place
stopped_fault recs kept place is stops places =
    let before : List LogRecord = is.prefix ++ map logged stops.before in
    let log : is.prefix ++ map logged (commands_kept kept) ≡ before ++ logged stops.command
    ∷ map logged stops.after =
    ap (λ (l : List PlainCommand). is.prefix ++ map logged l) stops.are
    ∙ ap (λ (l : List LogRecord). is.prefix ++ l)
    (map-append logged stops.before (stops.command ∷ stops.after))
    ∙ sym (append_assoc is.prefix (map logged stops.before)
    (logged stops.command ∷ map logged stops.after)) in
    let records_are : records_in recs ≡ records_of
    (before ++ logged stops.command ∷ map logged stops.after) = is.records_are
    ∙ ap records_of log in
    let skipped : length recs - length kept.commands.items ≡ length is.prefix = omega (
      arith,
      ap (λ (l : List Record). length l) is.records_are,
      length-map recs plain_record,
      length-map (is.prefix ++ map logged (commands_kept kept)) record_of,
      length-append is.prefix (map logged (commands_kept kept)),
      length-map (commands_kept kept) logged,
      length-map kept.commands.items command_of,
    ) in
    let number : length recs - length kept.commands.items + length stops.before ≡ length before =
    omega (
      arith,
      skipped,
      length-append is.prefix (map logged stops.before),
      length-map stops.before logged,
    ) in
    inr (record {
      before = before;
      command = stops.command;
      after = map logged stops.after;
      records_are = records_are;
      encoded = subst AreEncoded log is.encoded;
      accepted = all_accepted is.prefix is.ends stops.before stops.accepted;
      no_image = no_images stops.after;
      refusal = stops.refusal;
      refused = ap (λ p. command_fault p stops.command) (past_after_them is.prefix stops.before)
          ∙ stops.refused;
      place_is = gate_at recs before (map logged stops.after) (logged stops.command) place places
          records_are
          (λ d. stops.place_is d ∙ ap (λ (r : Rec). r.at)
          (get_or-drop (length recs - length kept.commands.items) recs (length stops.before) d)
          ∙ ap (λ (n : ℕ). (get_or recs n d).at) number);
    })
