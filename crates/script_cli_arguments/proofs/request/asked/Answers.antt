use Rattle.std.proofs.Common.{◌∙◌, inl, inr, None, map, string_bytes}
use Rattle.clap.specs.Matches.{found_of}
use Rattle.clap.specs.Walk.{rows_of}
use Rattle.script_cli_arguments.proofs.Agreement.{asked_where_taken, asked_where_refused}
use Rattle.script_cli_arguments.proofs.Consists.{asked_consist}
use Rattle.script_cli_arguments.proofs.request.asked.Goals as goal

pub returns-in-Ok-clause-asked : goal.returns-in-Ok-clause-asked
returns-in-Ok-clause-asked c =
    c.request_matched.ensures ∙ asked_where_taken c.args.arguments.now
    (rows_of (found_of c.in-Ok.matches))
    c.in-Ok.ensures.fails c.in-Ok.ensures.rows

pub returns-in-Ok-clause-consist : goal.returns-in-Ok-clause-consist
returns-in-Ok-clause-consist c = asked_consist (map string_bytes c.args.arguments.now)
    c.request_matched.result
    (c.request_matched.ensures ∙ asked_where_taken c.args.arguments.now
    (rows_of (found_of c.in-Ok.matches))
    c.in-Ok.ensures.fails c.in-Ok.ensures.rows)

pub returns-clause-asked : goal.returns-clause-asked
returns-clause-asked c = elim c.in-Err.ensures.fails [
  | inl memory ↦ absurd (c.in_default.not-OutOfMemory (c.kind.ensures ∙ memory))
  | inr among ↦ asked_where_refused c.args.arguments.now _ among
]

pub returns-clause-consist : goal.returns-clause-consist
returns-clause-consist c = elim c.in-Err.ensures.fails [
  | inl memory ↦ absurd (c.in_default.not-OutOfMemory (c.kind.ensures ∙ memory))
  | inr among ↦ asked_consist (map string_bytes c.args.arguments.now) None
      (asked_where_refused c.args.arguments.now _ among)
]
