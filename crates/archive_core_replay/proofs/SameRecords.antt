-- Records replay as many commands, whatever of their kinds they are read as.
use Rattle.std.proofs.Common.{◌≡◌, List, [], ◌∷◌, ◌++◌, length, map, refl, sym, ap, ◌∙◌, arith}
use Rattle.std.specs.Prelude.{Bool, true, false, if◌then◌else◌}
use Rattle.std.proofs.lemmas.List.{length-map}
use Rattle.smo_ops_types.specs.Commands.{PlainCommand, command_of}
use Rattle.store_image_spec.specs.Images.{Image}
use Rattle.journal.specs.Records.{Record}
use Rattle.archive_core_file_spec.specs.LogRecords.{LogRecord, logged, checkpointed, record_of}
use Rattle.archive_core_file_spec.specs.LogRecords.{records_of}
use Rattle.archive_core_file_spec.specs.LogRecords.{commands_in, has_image, replayed_in}
use Rattle.archive_core_file_spec.specs.LogRecords.{replayed_of}
use Rattle.archive_core_file_spec.proofs.RecordsOf.{head_record, tail_records}
use Rattle.archive_core_replay.specs.declared.record_reader.ReadRecords.{ReadRecords}
use Rattle.archive_core_replay.specs.Reading.{AreKept, commands_kept}
use Rattle.archive_core_replay.proofs.ReadRecords.{replayed_are}

-- a command's record is no image's
two_kinds : (c : PlainCommand) (i : Image) → record_of (logged c) ≡ record_of (checkpointed i) → ⊥
two_kinds c i e = let kinds : 1 ≡ 2 = ap (λ (r : Record). r.0) e in omega (arith, kinds)

-- the same records, but for the first
others : (k l : LogRecord) (a b : List LogRecord) → records_of (k ∷ a) ≡ records_of (l ∷ b)
    → records_of a ≡ records_of b
others k l a b e = tail_records (record_of k) (record_of l) (records_of a) (records_of b) e

first : (k l : LogRecord) (a b : List LogRecord) → records_of (k ∷ a) ≡ records_of (l ∷ b)
    → record_of k ≡ record_of l
first k l a b e = head_record (record_of k) (record_of l) (records_of a) (records_of b) e

same_images : (a b : List LogRecord) → records_of a ≡ records_of b → has_image a ≡ has_image b
same_images [] [] e = refl
same_images [] (l ∷ b) e = absurd (cc)
same_images (k ∷ a) [] e = absurd (cc)
same_images (logged c ∷ a) (logged d ∷ b) e = same_images a b (others (logged c) (logged d) a b e)
same_images (logged c ∷ a) (checkpointed j ∷ b) e =
    absurd (two_kinds c j (first (logged c) (checkpointed j) a b e))
same_images (checkpointed i ∷ a) (logged d ∷ b) e =
    absurd (two_kinds d i (sym (first (checkpointed i) (logged d) a b e)))
same_images (checkpointed i ∷ a) (checkpointed j ∷ b) e = refl

same_commands : (a b : List LogRecord) → records_of a ≡ records_of b
    → length (commands_in a) ≡ length (commands_in b)
same_commands [] [] e = refl
same_commands [] (l ∷ b) e = absurd (cc)
same_commands (k ∷ a) [] e = absurd (cc)
same_commands (logged c ∷ a) (logged d ∷ b) e =
    omega (arith, same_commands a b (others (logged c) (logged d) a b e))
same_commands (logged c ∷ a) (checkpointed j ∷ b) e =
    absurd (two_kinds c j (first (logged c) (checkpointed j) a b e))
same_commands (checkpointed i ∷ a) (logged d ∷ b) e =
    absurd (two_kinds d i (sym (first (checkpointed i) (logged d) a b e)))
same_commands (checkpointed i ∷ a) (checkpointed j ∷ b) e =
    same_commands a b (others (checkpointed i) (checkpointed j) a b e)

same_choice : (x y : Bool) (p q r s : List PlainCommand) → x ≡ y → length p ≡ length q
    → length r ≡ length s → length (if x then p else r) ≡ length (if y then q else s)
same_choice true true p q r s e first_two second_two = first_two
same_choice true false p q r s e first_two second_two = absurd (cc)
same_choice false true p q r s e first_two second_two = absurd (cc)
same_choice false false p q r s e first_two second_two = second_two

same_replayed : (a b : List LogRecord) → records_of a ≡ records_of b → replayed_of a ≡ replayed_of b
same_replayed [] [] e = refl
same_replayed [] (l ∷ b) e = absurd (cc)
same_replayed (k ∷ a) [] e = absurd (cc)
same_replayed (logged c ∷ a) (logged d ∷ b) e =
    let same = others (logged c) (logged d) a b e in
    same_choice (has_image a) (has_image b) (replayed_in a) (replayed_in b) (c ∷ commands_in a)
    (d ∷ commands_in b) (same_images a b same) (same_replayed a b same)
    (omega (arith, same_commands a b same))
same_replayed (logged c ∷ a) (checkpointed j ∷ b) e =
    absurd (two_kinds c j (first (logged c) (checkpointed j) a b e))
same_replayed (checkpointed i ∷ a) (logged d ∷ b) e =
    absurd (two_kinds d i (sym (first (checkpointed i) (logged d) a b e)))
same_replayed (checkpointed i ∷ a) (checkpointed j ∷ b) e =
    same_replayed a b (others (checkpointed i) (checkpointed j) a b e)

-- the commands that are kept are those that the records replay
pub kept_replayed : (records : List Record) (kept : ReadRecords) (log : List LogRecord)
    → AreKept records kept → records ≡ records_of log → length kept.commands.items ≡ replayed_of log
kept_replayed records kept log is same =
    sym (length-map kept.commands.items command_of)
    ∙ ap (λ (l : List PlainCommand). length l)
    (sym (replayed_are is.prefix is.ends (commands_kept kept)))
    ∙ same_replayed (is.prefix ++ map logged (commands_kept kept)) log (sym is.records_are ∙ same)
