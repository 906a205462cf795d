-- The past after any statements is valid, after whatever opening records.
use Rattle.std.proofs.Common.{◌≡◌, ℕ, false, List, [], ◌∷◌, refl, arith}
use Rattle.archive_core_file_spec.specs.LogRecords.{LogRecord, logged, checkpointed, has_image}
use Rattle.archive_core_file_spec.specs.LogRecords.{after_records, AreEncoded, AreAccepted}
use Rattle.store_image_spec.specs.Images.{Image, IsImage}
use Rattle.store_image_spec.specs.ShownPast.{image_past}
use Rattle.smo_ops_spec.specs.ValidPast.{IsPast}
use Rattle.smo_ops_spec.specs.Past.{Past, beginning, past_with}
use Rattle.smo_ops_spec.proofs.PastSteps.{beginning_is_past}
use Rattle.script_parse.specs.Script.{StatementPart, Whole as Text, Skipped}
use Rattle.script_cli_statement.specs.Given.{Given}
use Rattle.script_cli_statement.specs.Replies.{Recorded, recorded}
use Rattle.script_cli.specs.Output.{part_reply, recorded_after}
use Rattle.script_cli_statement.proofs.ReplyPasts.{IsOfScript, command_keeps, reply_keeps}
use Rattle.script_cli.proofs.EncodedConstants.{encoded_valid, named_valid}

pub beginning_is : IsOfScript beginning
beginning_is = record { made = beginning_is_past; ends = omega arith; constants = tt }

module _ (limit : Given) where
  part_keeps : (now : Recorded) (p : StatementPart) → IsOfScript now.past
      → IsOfScript (part_reply limit now p).after.past
  part_keeps now (Text text) h = reply_keeps limit now text h
  part_keeps now Skipped h = h

  keeps : (parts : List StatementPart) (now : Recorded) → IsOfScript now.past
      → IsOfScript (recorded_after limit now parts).past
  keeps [] now h = h
  keeps (p ∷ parts) now h = keeps parts (part_reply limit now p).after (part_keeps now p h)

-- ---- the opening records

-- an image shows one that accepted commands can have made
abbrev pub ImagesShowPasts : Type 0
ImagesShowPasts = (n : ℕ) (i : Image) → IsImage i → IsPast (image_past n i)

module _ (shown : ImagesShowPasts) where
  image_is : (n : ℕ) (i : Image) → IsImage i → IsOfScript (image_past n i)
  image_is n i is = record {
    made = shown n i is;
    ends = is.ends;
    constants =
        named_valid i.versions is.named;
  }

  -- from a past on, or from the first image
  opening_keeps : (log : List LogRecord) (past : Past) → AreEncoded log → AreAccepted past log
      → (has_image log ≡ false → IsOfScript past) → IsOfScript (after_records past log)
  opening_keeps [] past are accepted h = h refl
  opening_keeps (logged c ∷ log) past ((stamp, (writable, named)), later) accepted h =
      opening_keeps log (past_with past c) later accepted.1
      (λ none. command_keeps past c (h none) (stamp, encoded_valid c.body named)
      (accepted.0 none))
  opening_keeps (checkpointed i ∷ log) past are accepted h =
      opening_keeps log (image_past past.commands i) are.1 accepted
      (λ none. image_is past.commands i are.0)

  pub of_script : (limit : Given) (opening : List LogRecord) (parts : List StatementPart)
      → AreEncoded opening → AreAccepted beginning opening
      → IsOfScript (recorded_after limit (recorded opening) parts).past
  of_script limit opening parts are accepted =
      keeps limit parts (recorded opening) (opening_keeps opening beginning are accepted
      (λ none. beginning_is))

  -- it is one that accepted commands make
  pub still_made : (limit : Given) (opening : List LogRecord) (parts : List StatementPart)
      → AreEncoded opening → AreAccepted beginning opening
      → IsPast (recorded_after limit (recorded opening) parts).past
  still_made limit opening parts are accepted = (of_script limit opening parts are accepted).made
