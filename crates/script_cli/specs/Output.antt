-- The replies to a script, and what its statements put.
use Rattle.std.specs.Prelude.{ℕ, List, [], ◌∷◌, ◌++◌, ◌||◌, Bool, true, false}
use Rattle.prima_base.specs.declared.refusal.Refusal.TheVariants as refusal
use Rattle.script_parse.specs.Script.{StatementPart, Whole as Text, Skipped, parts_from, tail_of}
use Rattle.script_parse.specs.Script.{ending}
use Rattle.script_parse.specs.declared.mode.Mode.TheVariants.{Plain}
use Rattle.script_parse.specs.declared.splitter.Tail.{Tail}
use Rattle.script_parse.specs.declared.splitter.Tail.TheVariants as tail
use Rattle.answer_text.specs.RefusalTexts.{refusal_text}
use Rattle.script_cli_statement.specs.Due.{Due}
use Rattle.script_cli_statement.specs.Given.{Given}
use Rattle.script_cli_statement.specs.Replies.{Recorded, Reply, reply, refused}

-- the reply to what a script has before a `;`
abbrev pub part_reply : Given → Recorded → StatementPart → Reply
part_reply limit now (Text text) = reply limit now text
part_reply limit now Skipped = refused refusal.TooLong now

-- the line for what stands after the last `;`, if one is due
abbrev pub tail_text : Tail → List ℕ
tail_text tail.Clean = []
tail_text tail.Unfinished = refusal_text refusal.Unfinished
tail_text tail.TooLong = refusal_text refusal.TooLong

abbrev pub tail_is_due : Tail → Bool
tail_is_due tail.Clean = false
tail_is_due tail.Unfinished = true
tail_is_due tail.TooLong = true

-- the statements one after the other: their replies, what is put, what stands after them, and
-- whether an `error` line is among the replies
abbrev pub replies : Given → Recorded → List StatementPart → List ℕ
replies limit now [] = []
replies limit now (p ∷ parts) = (part_reply limit now p).text
    ++ replies limit (part_reply limit now p).after parts

abbrev pub all_puts : Given → Recorded → List StatementPart → List Due
all_puts limit now [] = []
all_puts limit now (p ∷ parts) = (part_reply limit now p).puts
    ++ all_puts limit (part_reply limit now p).after parts

abbrev pub recorded_after : Given → Recorded → List StatementPart → Recorded
recorded_after limit now [] = now
recorded_after limit now (p ∷ parts) = recorded_after limit (part_reply limit now p).after parts

abbrev pub any_error : Given → Recorded → List StatementPart → Bool
any_error limit now [] = false
any_error limit now (p ∷ parts) = (part_reply limit now p).is_error
    || any_error limit (part_reply limit now p).after parts

-- of a script: its statements, what is left after the last `;`, the replies, all that is due, and
-- whether an `error` line is
abbrev pub parts_of : List ℕ → List StatementPart
parts_of script = parts_from Plain [] script

abbrev pub ending_of : List ℕ → Tail
ending_of script = ending (tail_of script)

abbrev pub replies_of : Given → Recorded → List ℕ → List ℕ
replies_of limit now script = replies limit now (parts_of script)

abbrev pub output : Given → Recorded → List ℕ → List ℕ
output limit now script = replies_of limit now script ++ tail_text (ending_of script)

abbrev pub has_error : Given → Recorded → List ℕ → Bool
has_error limit now script = any_error limit now (parts_of script) || tail_is_due (ending_of script)

-- what a script's statements put
abbrev pub script_puts : Given → Recorded → List ℕ → List Due
script_puts limit now script = all_puts limit now (parts_of script)
