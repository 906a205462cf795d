-- Records read as what they stand for, one after the other.
use Rattle.std.proofs.Common.{◌≡◌, ◌⊎◌, inl, inr, ℕ, zero, suc, ◌+◌, ◌<◌, ◌≤◌, ◌^◌, List, []}
use Rattle.std.proofs.Common.{◌∷◌, ◌++◌, length, get_or, take, drop, map, refl, sym, subst, ◌∙◌, ap}
use Rattle.std.proofs.Common.{add-one, arith, append_assoc, length-append, Bool, true}
use Rattle.std.proofs.lemmas.Bool.{cases_lt}
use Rattle.std.proofs.lemmas.List.{map-append, append-nil, take_all, length-map}
use Rattle.smo_ops_types.specs.Commands.{PlainCommand, command_of}
use Rattle.smo_ops_types.specs.declared.command.Body.{Body}
use Rattle.smo_ops_spec.specs.Past.{beginning}
use Rattle.smo_ops_spec.specs.History.{AllAccepted, past_after}
use Rattle.command_codec_spec.specs.Valid.{IsCommand}
use Rattle.store_image_spec.specs.Images.{Image, IsImage}
use Rattle.store_image_spec.specs.ShownPast.{image_past}
use Rattle.journal.specs.Records.{Record, AreKnown, IsKnown, before_gate}
use Rattle.journal.specs.Reading.{records_in, record_of as plain_record, AreInPlace}
use Rattle.journal.specs.declared.rec.Rec.{Rec}
use Rattle.archive_core_file_spec.specs.LogRecords.{LogRecord, logged, checkpointed, record_of}
use Rattle.archive_core_file_spec.specs.LogRecords.{records_of}
use Rattle.archive_core_file_spec.specs.LogRecords.{gate_after, AreEncoded, commands_in}
use Rattle.archive_core_file_spec.specs.LogRecords.{replayed_in, past_recorded}
use Rattle.archive_core_file_spec.specs.LogRecords.{AreAccepted}
use Rattle.archive_core_file_spec.specs.Opening.{HasNoEncodingAt}
use Rattle.archive_core_file_spec.proofs.Records.{after_append, after_commands, after_image}
use Rattle.archive_core_file_spec.proofs.Records.{accepted_append}
use Rattle.archive_core_file_spec.proofs.Records.{accepted_commands, accepted_image}
use Rattle.archive_core_file_spec.proofs.Records.{all_replayed}
use Rattle.archive_core_file_spec.proofs.Records.{replayed_after}
use Rattle.archive_core_state.specs.ArchiveContents.{ArchiveContent, RepresentsPast}
use Rattle.archive_core_replay.specs.declared.record_reader.ReadRecords.{ReadRecords}
use Rattle.archive_core_replay.specs.Reading.{IsRefusedIn, EndsWithImage, commands_kept}
use Rattle.archive_core_replay.specs.Reading.{AreChecked, AreKept, IsRead}
use Rattle.archive_core_replay.proofs.Gates.{gate_of, ends_before}

-- ---- lists of records

pub encoded_append : (a b : List LogRecord) → AreEncoded a → AreEncoded b → AreEncoded (a ++ b)
encoded_append [] b are_a are_b = are_b
encoded_append (r ∷ a) b are_a are_b = (are_a.0, encoded_append a b are_a.1 are_b)

pub encoded_prefix : (a b : List LogRecord) → AreEncoded (a ++ b) → AreEncoded a
encoded_prefix [] b are = tt
encoded_prefix (r ∷ a) b are = (are.0, encoded_prefix a b are.1)

pub commands_append : (a b : List LogRecord) → commands_in (a ++ b) ≡ commands_in a ++ commands_in b
commands_append [] b = refl
commands_append (logged c ∷ a) b = ap (λ l. c ∷ l) (commands_append a b)
commands_append (checkpointed i ∷ a) b = commands_append a b

-- ---- the record at a place

known_at : (recs : List Rec) (k : ℕ) (d : Rec) → k < length recs → AreKnown (records_in recs)
    → IsKnown (get_or recs k d).kind
known_at [] k d inside known = absurd (omega arith)
known_at (r ∷ recs) zero d inside known = known.0
known_at (r ∷ recs) (suc k) d inside known = known_at recs k d (omega arith) known.2

more_of : (recs : List Rec) (k : ℕ) (d : Rec) → k < length recs
    → take (suc k) (records_in recs) ≡ take k (records_in recs) ++ plain_record (get_or recs k d)
    ∷ []
more_of [] k d inside = absurd (omega arith)
more_of (r ∷ recs) zero d inside = refl
more_of (r ∷ recs) (suc k) d inside = ap (λ (l : List Record). plain_record r ∷ l)
    (more_of recs k d (omega arith))

one_more : (recs : List Rec) (k : ℕ) (d : Rec) → k < length recs
    → take (k + 1) (records_in recs) ≡ take k (records_in recs) ++ plain_record (get_or recs k d)
    ∷ []
one_more recs k d inside = rw add-one (more_of recs k d inside)

parts_of : (recs : List Rec) (k : ℕ) (d : Rec) → k < length recs
    → records_in recs ≡ take k (records_in recs) ++ plain_record (get_or recs k d)
    ∷ drop (suc k) (records_in recs)
parts_of [] k d inside = absurd (omega arith)
parts_of (r ∷ recs) zero d inside = refl
parts_of (r ∷ recs) (suc k) d inside = ap (λ (l : List Record). plain_record r ∷ l)
    (parts_of recs k d (omega arith))

-- ---- one record more

-- they are a log's records
log_with : (records : List Record) (log : List LogRecord) → records ≡ records_of log
    → (r : Record) (l : LogRecord) → r ≡ record_of l
    → records ++ r ∷ [] ≡ records_of (log ++ l ∷ [])
log_with records log are r l e = (λ i. are i ++ e i ∷ []) ∙ sym (map-append record_of log (l ∷ []))

-- records that are kept were checked
pub kept_checked : (records : List Record) (kept : ReadRecords) → AreKept records kept
    → AreChecked records kept.count
kept_checked records kept is = record {
  log = is.prefix ++ map logged (commands_kept kept);
  encoded =
      is.encoded;
  records_are = is.records_are;
  counted = is.counted;
}

pub none_checked : (count : ℕ) → count ≡ 0 → AreChecked [] count
none_checked count is = record { log = []; encoded = tt; records_are = refl; counted = is }

module _ (records : List Record) (count : ℕ) (checked : AreChecked records count) where
  -- a command is counted
  pub command_checked : (r : Record) (c : PlainCommand) → r ≡ record_of (logged c) → IsCommand c
      → AreChecked (records ++ r ∷ []) (count + 1)
  command_checked r c e is = record {
    log = checked.log ++ logged c ∷ [];
    encoded = encoded_append checked.log (logged c ∷ []) checked.encoded (is, tt);
    records_are = log_with records checked.log checked.records_are r (logged c) e;
    counted = ap (λ n. n + 1) checked.counted ∙ sym
        (ap (λ (l : List PlainCommand). length l) (commands_append checked.log (logged c ∷ []))
        ∙ length-append (commands_in checked.log) (c ∷ []));
  }

  -- an image is checked
  pub image_checked : (r : Record) (i : Image) → r ≡ record_of (checkpointed i) → IsImage i
      → AreChecked (records ++ r ∷ []) count
  image_checked r i e is = record {
    log = checked.log ++ checkpointed i ∷ [];
    encoded = encoded_append checked.log (checkpointed i ∷ []) checked.encoded (is, tt);
    records_are = log_with records checked.log checked.records_are r (checkpointed i) e;
    counted = checked.counted ∙ sym
        (ap (λ (l : List PlainCommand). length l) (commands_append checked.log (checkpointed i ∷ [])
        ∙ append-nil (commands_in checked.log)));
  }

  -- an image takes the place of what was kept
  pub image_kept : (new : ReadRecords) (r : Record) (i : Image) → r ≡ record_of (checkpointed i)
      → IsImage i → ((n : ℕ) → RepresentsPast new.state (image_past n i)) → new.commands.items ≡ []
      → new.count ≡ count → AreKept (records ++ r ∷ []) new
  image_kept new r i e is represents items same =
      let prefix : List LogRecord = checked.log ++ checkpointed i ∷ [] in
      let log : prefix ++ map logged (commands_kept new) ≡ prefix =
      ap (λ (l : List (ℕ × Body)). prefix ++ map logged (map command_of l)) items
      ∙ append-nil prefix in
      let all : commands_in prefix ≡ commands_in checked.log =
      commands_append checked.log (checkpointed i ∷ []) ∙ append-nil (commands_in checked.log) in
      record {
        prefix = prefix;
        ends = inr (checked.log, i, refl);
        encoded = subst AreEncoded (sym log) (encoded_append checked.log (checkpointed i ∷ [])
            checked.encoded (is, tt));
        records_are = log_with records checked.log checked.records_are r (checkpointed i) e
            ∙ sym (ap records_of log);
        represents = subst (RepresentsPast new.state) (sym (after_image beginning checked.log i))
            (represents (past_recorded checked.log).commands);
        counted = same ∙ checked.counted ∙ ap (λ (l : List PlainCommand). length l) (sym all)
            ∙ sym (ap (λ (l : List LogRecord). length (commands_in l)) log);
      }

module _ (records : List Record) (old new : ReadRecords) (kept : AreKept records old) where
  abbrev whole : List LogRecord
  whole = kept.prefix ++ map logged (commands_kept old)

  -- a command is kept
  pub command_kept : (r : Record) (c : ℕ × Body) → r ≡ record_of (logged (command_of c))
      → IsCommand (command_of c) → new.state ≡ old.state
      → new.commands.items ≡ old.commands.items ++ c ∷ []
      → new.count ≡ old.count + 1 → AreKept (records ++ r ∷ []) new
  command_kept r c e is state items count =
      let commands : commands_kept new ≡ commands_kept old ++ command_of c ∷ [] =
      ap (λ (l : List (ℕ × Body)). map command_of l) items
      ∙ map-append command_of old.commands.items (c ∷ []) in
      let log : kept.prefix ++ map logged (commands_kept new) ≡ whole ++ logged (command_of c)
      ∷ [] =
      ap (λ (l : List PlainCommand). kept.prefix ++ map logged l) commands
      ∙ ap (λ (l : List LogRecord). kept.prefix ++ l)
      (map-append logged (commands_kept old) (command_of c ∷ []))
      ∙ sym (append_assoc kept.prefix (map logged (commands_kept old))
      (logged (command_of c) ∷ [])) in
      let all : length (commands_in (whole ++ logged (command_of c) ∷ []))
      ≡ length (commands_in whole) + 1 =
      ap (λ (l : List PlainCommand). length l) (commands_append whole (logged (command_of c) ∷ []))
      ∙ length-append (commands_in whole) (command_of c ∷ []) in
      record {
        prefix = kept.prefix;
        ends = kept.ends;
        encoded = subst AreEncoded (sym log) (encoded_append whole (logged (command_of c) ∷ [])
            kept.encoded (is, tt));
        records_are = log_with records whole kept.records_are r (logged (command_of c)) e
            ∙ sym (ap records_of log);
        represents = subst (λ (s : ArchiveContent). RepresentsPast s (past_recorded kept.prefix))
            (sym state) kept.represents;
        counted = count ∙ ap (λ n. n + 1) kept.counted ∙ sym all
            ∙ sym (ap (λ (l : List LogRecord). length (commands_in l)) log);
      }

-- nothing was read
pub none_kept : (kept : ReadRecords) → RepresentsPast kept.state beginning
    → kept.commands.items ≡ [] → kept.count ≡ 0 → AreKept [] kept
none_kept kept represents items count =
    let log : map logged (commands_kept kept) ≡ [] =
    ap (λ (l : List (ℕ × Body)). map logged (map command_of l)) items in record {
      prefix = [];
      ends = inl refl;
      encoded = subst AreEncoded (sym log) tt;
      records_are = sym (ap records_of log);
      represents = represents;
      counted = count ∙ sym (ap (λ (l : List LogRecord). length (commands_in l)) log);
    }

-- ---- in a list

-- so many records were read, the first of them before the last image: all are checked, and from the
-- last image on what it and the commands after it say is kept
pub record AreReadTo (recs : List Rec) (before k : ℕ) (kept : ReadRecords) : Type 0 where
  pub checked : AreChecked (take k (records_in recs)) kept.count
  pub after : (before ≡ 0) ⊎ (before < k) → AreKept (take k (records_in recs)) kept

pub none_read : (recs : List Rec) (before : ℕ) (kept : ReadRecords)
    → RepresentsPast kept.state beginning → kept.commands.items ≡ [] → kept.count ≡ 0
    → AreReadTo recs before 0 kept
none_read recs before kept represents items count =
    record {
      checked = none_checked kept.count count;
      after = λ h. none_kept kept represents items count;
    }

-- where there is an image, the last one stands there
abbrev pub IsLastImage : List Rec → ℕ → Type 0
IsLastImage recs before = 0 < before → (before < length recs)
    × ((d : Rec) → (get_or recs before d).kind ≡ 2)

module _ (recs : List Rec) (before k : ℕ) (d : Rec) (old new : ReadRecords) (is_after : Bool)
    (inside : k < length recs) (after : before ≤ k → is_after ≡ true)
    (last : IsLastImage recs before)
    (reads : IsRead (get_or recs k d) is_after old new) (places : AreInPlace recs)
    (here : AreReadTo recs before k old) where
  abbrev so_far : List Record
  so_far = take k (records_in recs)

  known : IsKnown (get_or recs k d).kind
  known = known_at recs k d inside places.known

  kind_is : 0 < before → k ≤ before → (before ≡ 0) ⊎ (before < k + 1) → (get_or recs k d).kind ≡ 2
  kind_is some le (inl e) = absurd (omega (arith, some, e))
  kind_is some le (inr lt) = let same : before ≡ k = omega (arith, le, lt) in
      subst (λ n. (get_or recs n d).kind ≡ 2) same ((last some).1 d)

  kept_with : (before ≡ 0) ⊎ (before < k + 1)
      → AreKept (so_far ++ plain_record (get_or recs k d) ∷ []) new
  kept_with h = elim (cases_lt 0 before) [
    | inr none ↦ reads.kept (after (omega (arith, none))) known so_far
        (here.after (inl (omega (arith, none))))
    | inl some ↦ elim (cases_lt before k) [
      | inl lt ↦ reads.kept (after (omega (arith, lt))) known so_far (here.after (inr lt))
      | inr le ↦ reads.image (after (omega (arith, some, h, le))) (kind_is some le h) so_far
          here.checked
    ]
  ]

  pub one_more_read : AreReadTo recs before (k + 1) new
  one_more_read = record {
    checked = subst (λ (l : List Record). AreChecked l new.count) (sym (one_more recs k d inside))
        (reads.checked known so_far here.checked);
    after = λ h. subst (λ (l : List Record). AreKept l new) (sym (one_more recs k d inside))
        (kept_with h);
  }

pub all_read : (recs : List Rec) (before k : ℕ) (kept : ReadRecords) → length recs ≤ k
    → IsLastImage recs before → AreReadTo recs before k kept → AreKept (records_in recs) kept
all_read recs before k kept inside last here =
    subst (λ (l : List Record). AreKept l kept)
    (take_all k (records_in recs) (omega (arith, length-map recs plain_record)))
    (here.after reached)
  where
    reached : (before ≡ 0) ⊎ (before < k)
    reached = elim (cases_lt 0 before) [
      | inr none ↦ inl (omega (arith, none))
      | inl some ↦ (let h = (last some).0 in inr (omega (arith, h, inside)))
    ]

-- a payload is none of its kind, after records that were read
pub not_read : (recs : List Rec) (k : ℕ) (d : Rec) (count place : ℕ) → k < length recs
    → AreChecked (take k (records_in recs)) count
    → (IsKnown (get_or recs k d).kind → IsRefusedIn (get_or recs k d).at
    (plain_record (get_or recs k d)) place) → AreInPlace recs
    → HasNoEncodingAt (records_in recs) place
not_read recs k d count place inside is refuses places =
    let refused = refuses (known_at recs k d inside places.known) in
    let log : List LogRecord = is.log in
    let gate : (get_or recs k d).at ≡ gate_after log = gate_of recs k d inside places.places
    ∙ ap (λ (l : List Record). length (before_gate l)) is.records_are in
    let ends = ends_before recs k d inside in
    let room : (get_or recs k d).at + 10 + length (get_or recs k d).payload.items < 2 ^ 64 =
    omega (arith, ends, gate_of recs k d inside places.places, places.short) in
    record {
      before = log;
      refused = plain_record (get_or recs k d);
      after = drop (suc k) (records_in recs);
      records_are = parts_of recs k d inside ∙ ap
          (λ (l : List Record). l ++ plain_record (get_or recs k d)
          ∷ drop (suc k) (records_in recs)) is.records_are;
      encoded = is.encoded;
      within = refused.within;
      is_refused = refused.refused;
      place_is = refused.place_is room ∙ ap (λ (n : ℕ). n + 10 + refused.within) gate;
    }

-- ---- the commands after the last image

module _ (prefix : List LogRecord) (ends : EndsWithImage prefix) where
  by_end : (P : List LogRecord → Type 0) → P []
      → ((before : List LogRecord) → (i : Image) → P (before ++ checkpointed i ∷ [])) → P prefix
  by_end P none some = go ends
    where
      go : EndsWithImage prefix → P prefix
      go (inl e) = subst P (sym e) none
      go (inr e) = subst P (sym e.2) (some e.0 e.1)

  prefix_accepted : AreAccepted beginning prefix
  prefix_accepted = by_end (λ l. AreAccepted beginning l) tt
      (λ before i. accepted_image beginning before i)

  -- they are those that are replayed
  pub replayed_are : (commands : List PlainCommand)
      → replayed_in (prefix ++ map logged commands) ≡ commands
  replayed_are commands = by_end (λ l. replayed_in (l ++ map logged commands) ≡ commands)
      (all_replayed commands)
      (λ before i. ap replayed_in (append_assoc before (checkpointed i ∷ []) (map logged commands))
      ∙ replayed_after before i commands)

  -- where each is accepted, all records are
  pub all_accepted : (commands : List PlainCommand) → AllAccepted (past_recorded prefix) commands
      → AreAccepted beginning (prefix ++ map logged commands)
  all_accepted commands all = accepted_append beginning prefix (map logged commands) prefix_accepted
      (accepted_commands (past_recorded prefix) commands all)

-- the past after them
pub past_after_them : (prefix : List LogRecord) (commands : List PlainCommand)
    → past_recorded (prefix ++ map logged commands) ≡ past_after (past_recorded prefix) commands
past_after_them prefix commands = after_append beginning prefix (map logged commands)
    ∙ after_commands (past_recorded prefix) commands

-- a known kind that is no checkpoint's is a command's
pub other_kind : (kind : ℕ) → IsKnown kind → (kind ≡ 2 → ⊥) → kind ≡ 1
other_kind kind known other = grind (arith, other)
