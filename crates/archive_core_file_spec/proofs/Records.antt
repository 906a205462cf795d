-- Records after one another: what they lead to, and whether they are accepted.
use Rattle.std.proofs.Common.{◌≡◌, ℕ, ◌+◌, List, [], ◌∷◌, ◌++◌, length, map, refl, sym, subst, ap}
use Rattle.std.proofs.Common.{◌∙◌, true, false, arith}
use Rattle.std.specs.Prelude.{if◌then◌else◌}
use Rattle.smo_ops_types.specs.Commands.{PlainBody, changing, evolving, PlainCommand}
use Rattle.smo_ops_spec.specs.History.{AllAccepted, past_after}
use Rattle.smo_ops_spec.specs.Past.{Past, next_past, past_with}
use Rattle.store_image_spec.specs.Images.{Image}
use Rattle.store_image_spec.specs.ShownPast.{image_past}
use Rattle.archive_core_file_spec.specs.LogRecords.{LogRecord, logged, checkpointed, commands_in}
use Rattle.archive_core_file_spec.specs.LogRecords.{has_image}
use Rattle.archive_core_file_spec.specs.LogRecords.{replayed_in, after_record, after_records}
use Rattle.archive_core_file_spec.specs.LogRecords.{AreAccepted}
use Rattle.archive_core_file_spec.specs.LogRecords.{AreSound}
use Rattle.archive_core_file_spec.proofs.Histories.{images_append, none_in_prefix}

-- ---- pasts

pub after_append : (past : Past) (log more : List LogRecord)
    → after_records past (log ++ more) ≡ after_records (after_records past log) more
after_append past [] more = refl
after_append past (r ∷ log) more = after_append (after_record past r) log more

pub after_commands : (past : Past) (commands : List PlainCommand)
    → after_records past (map logged commands) ≡ past_after past commands
after_commands past [] = refl
after_commands past (c ∷ commands) = after_commands (past_with past c) commands

pub after_image : (past : Past) (log : List LogRecord) (i : Image)
    → after_records past (log ++ checkpointed i ∷ [])
    ≡ image_past (after_records past log).commands i
after_image past log i = after_append past log (checkpointed i ∷ [])

one_counted : (past : Past) (stamp : ℕ) (body : PlainBody)
    → (next_past stamp body past).commands ≡ past.commands + 1
one_counted past stamp (changing changes) = refl
one_counted past stamp (evolving op inverse) = refl

pub counted : (past : Past) (log : List LogRecord)
    → (after_records past log).commands ≡ past.commands + length (commands_in log)
counted past [] = omega arith
counted past (checkpointed i ∷ log) = counted (image_past past.commands i) log
counted past (logged c ∷ log) = omega (
  arith,
  counted (past_with past c) log,
  one_counted past c.stamp c.body,
)

-- from the last image on
pub from_image : (past : Past) (log : List LogRecord) (i : Image) (commands : List PlainCommand)
    → after_records past (log ++ checkpointed i ∷ map logged commands)
    ≡ past_after (image_past (past.commands + length (commands_in log)) i) commands
from_image past log i commands =
    after_append past log (checkpointed i ∷ map logged commands)
    ∙ after_commands (image_past (after_records past log).commands i) commands
    ∙ ap (λ n. past_after (image_past n i) commands) (counted past log)

-- ---- the commands after the last image

pub no_images : (commands : List PlainCommand) → has_image (map logged commands) ≡ false
no_images [] = refl
no_images (c ∷ commands) = no_images commands

pub all_commands : (commands : List PlainCommand) → commands_in (map logged commands) ≡ commands
all_commands [] = refl
all_commands (c ∷ commands) = ap (λ l. c ∷ l) (all_commands commands)

pub all_replayed : (commands : List PlainCommand) → replayed_in (map logged commands) ≡ commands
all_replayed [] = refl
all_replayed (c ∷ commands) =
    ap (λ b. if b then replayed_in (map logged commands) else c ∷ commands_in (map logged commands))
    (no_images commands) ∙ ap (λ l. c ∷ l) (all_commands commands)

image_among : (log : List LogRecord) (i : Image) (more : List LogRecord)
    → has_image (log ++ checkpointed i ∷ more) ≡ true
image_among [] i more = refl
image_among (logged c ∷ log) i more = image_among log i more
image_among (checkpointed j ∷ log) i more = refl

pub replayed_after : (log : List LogRecord) (i : Image) (commands : List PlainCommand)
    → replayed_in (log ++ checkpointed i ∷ map logged commands) ≡ commands
replayed_after [] i commands = all_replayed commands
replayed_after (checkpointed j ∷ log) i commands = replayed_after log i commands
replayed_after (logged c ∷ log) i commands =
    ap (λ b. if b then replayed_in (log ++ checkpointed i ∷ map logged commands)
    else c ∷ commands_in (log ++ checkpointed i ∷ map logged commands))
    (image_among log i (map logged commands))
    ∙ replayed_after log i commands

-- ---- acceptance

pub accepted_append : (past : Past) (log more : List LogRecord) → AreAccepted past log
    → AreAccepted (after_records past log) more → AreAccepted past (log ++ more)
accepted_append past [] more all rest = rest
accepted_append past (checkpointed i ∷ log) more all rest =
    accepted_append (image_past past.commands i) log more all rest
accepted_append past (logged c ∷ log) more all rest = (
  (λ none. all.0 (none_in_prefix (has_image log) (has_image more)
      (sym (images_append log more) ∙ none))),
  accepted_append (past_with past c) log more all.1 rest,
)

pub accepted_commands : (past : Past) (commands : List PlainCommand) → AllAccepted past commands
    → AreAccepted past (map logged commands)
accepted_commands past [] all = tt
accepted_commands past (c ∷ commands) all = (
  (λ none. all.0),
  accepted_commands (past_with past c) commands all.1,
)

pub accepted_image : (past : Past) (log : List LogRecord) (i : Image)
    → AreAccepted past (log ++ checkpointed i ∷ [])
accepted_image past [] i = tt
accepted_image past (checkpointed j ∷ log) i = accepted_image (image_past past.commands j) log i
accepted_image past (logged c ∷ log) i = (
  (λ none. absurd (let e : true ≡ false = sym (image_among log i []) ∙ none in cc)),
  accepted_image (past_with past c) log i,
)

-- ---- sound records

pub sound_history : (past : Past) (log : List LogRecord) → AreSound past log
    → AllAccepted past (commands_in log)
sound_history past [] sound = tt
sound_history past (logged c ∷ log) sound = (sound.0, sound_history (past_with past c) log sound.1)
sound_history past (checkpointed i ∷ log) sound = sound_history past log sound.1

pub sound_past : (past : Past) (log : List LogRecord) → AreSound past log
    → after_records past log ≡ past_after past (commands_in log)
sound_past past [] sound = refl
sound_past past (logged c ∷ log) sound = sound_past (past_with past c) log sound.1
sound_past past (checkpointed i ∷ log) sound = ap (λ p. after_records p log) sound.0
    ∙ sound_past past log sound.1

pub sound_accepted : (past : Past) (log : List LogRecord) → AreSound past log → AreAccepted past log
sound_accepted past [] sound = tt
sound_accepted past (logged c ∷ log) sound = (
  (λ none. sound.0),
  sound_accepted (past_with past c) log sound.1,
)
sound_accepted past (checkpointed i ∷ log) sound =
    subst (λ p. AreAccepted p log) (sym sound.0) (sound_accepted past log sound.1)

pub sound_prefix : (past : Past) (log more : List LogRecord) → AreSound past (log ++ more)
    → AreSound past log
sound_prefix past [] more sound = tt
sound_prefix past (logged c ∷ log) more sound =
    (sound.0, sound_prefix (past_with past c) log more sound.1)
sound_prefix past (checkpointed i ∷ log) more sound = (sound.0, sound_prefix past log more sound.1)

pub sound_append : (past : Past) (log more : List LogRecord) → AreSound past log
    → AreSound (after_records past log) more → AreSound past (log ++ more)
sound_append past [] more sound rest = rest
sound_append past (logged c ∷ log) more sound rest =
    (sound.0, sound_append (past_with past c) log more sound.1 rest)
sound_append past (checkpointed i ∷ log) more sound rest = (
  sound.0,
  sound_append past log more sound.1
      (subst (λ p. AreSound (after_records p log) more) sound.0 rest),
)
