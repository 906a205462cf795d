-- What stands after statements is the past of the records that were put, and the gate after them.
use Rattle.std.proofs.Common.{◌≡◌, ⊎_elim, List, [], ◌∷◌, ◌++◌}
use Rattle.std.proofs.Common.{refl, sym, ap, ◌∙◌, subst, append_assoc}
use Rattle.std.proofs.lemmas.List.{append-nil}
use Rattle.smo_ops_spec.specs.Past.{beginning}
use Rattle.archive_core_file_spec.specs.LogRecords.{LogRecord}
use Rattle.archive_core_file_spec.specs.LogRecords.{past_recorded}
use Rattle.archive_core_file_spec.specs.LogRecords.{AreAccepted, AreSound}
use Rattle.archive_core_file_spec.proofs.Records.{accepted_append, sound_accepted, sound_append}
use Rattle.script_parse.specs.Script.{StatementPart, Whole as Text, Skipped}
use Rattle.script_cli_statement.specs.Given.{Given}
use Rattle.script_cli_statement.specs.Due.{AreRecordsOf, AreFirstOf}
use Rattle.script_cli_statement.specs.Replies.{Recorded, recorded, StandsAfter}
use Rattle.script_cli_statement.proofs.ReplySteps.{IsStep, reply_step, unchanged, none_of}
use Rattle.script_cli_statement.proofs.ReplySteps.{none_first}
use Rattle.script_cli.specs.Output.{part_reply, all_puts, recorded_after}
use Rattle.script_cli.proofs.DueRecords.{records_apart, are_first, first_apart}

pub part_step : (limit : Given) (now : Recorded) (p : StatementPart)
    → IsStep now (part_reply limit now p)
part_step limit now (Text text) = reply_step limit now text
part_step limit now Skipped = unchanged now (part_reply limit now Skipped) refl refl

-- ---- statements one after the other

-- the records are sound after the past
pub first_sound : (limit : Given) (parts : List StatementPart) (now : Recorded)
    (log : List LogRecord) → AreFirstOf (all_puts limit now parts) log → AreSound now.past log
first_sound limit [] now log are = subst (AreSound now.past) (sym (none_first log are)) tt
first_sound limit (p ∷ parts) now log are =
    let reply = part_reply limit now p in
    let step = part_step limit now p in
    ⊎_elim
    (λ first. step.sound log first)
    (λ apart. subst (AreSound now.past) (sym apart.both)
    (sound_append now.past apart.prefix apart.rest
    (step.sound apart.prefix (are_first reply.puts apart.prefix apart.prefix_are))
    (subst (λ past. AreSound past apart.rest) (step.past apart.prefix apart.prefix_are)
    (first_sound limit parts reply.after apart.rest apart.rest_are))))
    (first_apart reply.puts (all_puts limit reply.after parts) log are)

-- what stands after records is the same with none after them
after_none : (opening log : List LogRecord) (now : Recorded) → log ≡ [] → StandsAfter opening now
    → StandsAfter (opening ++ log) now
after_none opening log now none stands = subst (λ (l : List LogRecord). StandsAfter l now)
    (sym (ap (λ (l : List LogRecord). opening ++ l) none ∙ append-nil opening)) stands

recorded_from : (limit : Given) (parts : List StatementPart) (now : Recorded)
    (opening log : List LogRecord) → StandsAfter opening now
    → AreRecordsOf (all_puts limit now parts) log
    → StandsAfter (opening ++ log) (recorded_after limit now parts)
recorded_from limit [] now opening log stands are = after_none opening log now (none_of log are)
    stands
recorded_from limit (p ∷ parts) now opening log stands are =
    let reply = part_reply limit now p in
    let step = part_step limit now p in
    let apart = records_apart reply.puts (all_puts limit reply.after parts) log are in
    subst (λ (l : List LogRecord). StandsAfter l (recorded_after limit reply.after parts))
    (append_assoc opening apart.prefix apart.rest
    ∙ ap (λ (l : List LogRecord). opening ++ l) (sym apart.both))
    (recorded_from limit parts reply.after (opening ++ apart.prefix) apart.rest
    (step.recorded_is opening apart.prefix stands apart.prefix_are) apart.rest_are)

pub first_put_sound : (limit : Given) (opening : List LogRecord) (parts : List StatementPart)
    (log : List LogRecord) → AreFirstOf (all_puts limit (recorded opening) parts) log
    → AreSound (past_recorded opening) log
first_put_sound limit opening parts log are = first_sound limit parts (recorded opening) log are

module _ (limit : Given) (opening : List LogRecord) (parts : List StatementPart)
    (log : List LogRecord) (are : AreRecordsOf (all_puts limit (recorded opening) parts) log) where
  pub recorded_is : StandsAfter (opening ++ log) (recorded_after limit (recorded opening) parts)
  recorded_is = recorded_from limit parts (recorded opening) opening log
      (record { past = refl; at = refl }) are

  pub put_sound : AreSound (past_recorded opening) log
  put_sound = first_put_sound limit opening parts log
      (are_first (all_puts limit (recorded opening) parts) log are)

  pub put_accepted : AreAccepted beginning opening → AreAccepted beginning (opening ++ log)
  put_accepted accepted = accepted_append beginning opening log accepted
      (sound_accepted (past_recorded opening) log put_sound)

  pub still_sound : AreSound beginning opening → AreSound beginning (opening ++ log)
  still_sound sound = sound_append beginning opening log sound put_sound
