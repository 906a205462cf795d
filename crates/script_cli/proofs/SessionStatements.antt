-- The statements of a script are steps of its sessions, and a COMMIT is answered as an AT is.
use Rattle.std.proofs.Common.{◌≡◌, ◌+◌, ◌-◌, ℕ, Bool, List, [], ◌∷◌, refl, ap}
use Rattle.std.proofs.Common.{sym, ◌∙◌, subst, arith}
use Rattle.std.specs.Prelude.{Some, None}
use Rattle.std.proofs.lemmas.Bool.{eq-eqb}
use Rattle.smo_ops_types.specs.Changes.{PlainChange}
use Rattle.smo_ops_types.specs.Commands.{changing}
use Rattle.smo_ops_spec.specs.First.{unless}
use Rattle.smo_ops_spec.proofs.Firsts.{first_later, first_alone}
use Rattle.smo_ops_spec.specs.Checks.{Fault}
use Rattle.script_cli_statement.specs.ArchiveOnDisk.archive
use Rattle.prima_base.specs.declared.refusal.Refusal.TheVariants.{SchemaMoved}
use Rattle.sessions.specs.Shared.{newest}
use Rattle.sessions.specs.SessionStates.{PlainTransaction}
use Rattle.sessions.specs.Requests.{committing}
use Rattle.sessions.specs.Steps.{command_at, changes_so_far, commit_answer, commit_fault}
use Rattle.sessions.specs.Steps.{changes_fault, fault_of_command, schema_fault}
use Rattle.sessions.specs.Steps.{shared_after}
use Rattle.sessions.specs.Runs.{after, after_all}
use Rattle.script_parse.specs.Script.{StatementPart, Whole as Text, Skipped}
use Rattle.script_cli_statement.specs.ArchiveOnDisk.{need_of}
use Rattle.script_cli_statement.proofs.ArchiveOnDisk.{refused_alike}
use Rattle.script_cli_statement.specs.Due.{command_due, due_length}
use Rattle.script_cli_statement.specs.Given.{Given}
use Rattle.script_cli_statement.specs.SessionLines.{said_text}
use Rattle.script_cli_statement.specs.Replies.{Recorded, Reply, refused_or, world_of, shared_by}
use Rattle.script_cli_statement.specs.Replies.{changes_due, request_reply, put_command}
use Rattle.script_cli_statement.proofs.SessionSteps.{reply_is_step}
use Rattle.script_cli.specs.Output.{part_reply}
use Rattle.script_cli.specs.Stepping.{part_step, steps_of, StatementsAreSteps, IsAnsweredAs}
use Rattle.script_cli.specs.Stepping.{CommitsAreCommands}

part_is_step : (limit : Given) (now : Recorded) (p : StatementPart)
    → world_of limit (part_reply limit now p).after
    ≡ after need_of (world_of limit now) (part_step limit now p)
part_is_step limit now (Text text) = reply_is_step limit now text
part_is_step limit now Skipped = refl

pub statements_are_steps : (limit : Given) → StatementsAreSteps limit
statements_are_steps limit now [] = refl
statements_are_steps limit now (p ∷ parts) =
    statements_are_steps limit (part_reply limit now p).after parts
    ∙ ap (λ w. after_all need_of w (steps_of limit (part_reply limit now p).after parts))
    (part_is_step limit now p)

-- ---- a COMMIT beside an AT

-- what is refused alike is answered alike
answered_alike : (now : Recorded) (f g : Fault) (x y : Reply) → f ≡ g → IsAnsweredAs x y
    → IsAnsweredAs (refused_or f now x) (refused_or g now y)
answered_alike now f g x y same alike = subst
    (λ h. IsAnsweredAs (refused_or f now x) (refused_or h now y)) same (by f)
  where
    by : (h : Fault) → IsAnsweredAs (refused_or h now x) (refused_or h now y)
    by None = alike
    by (Some r) = record { text = refl; puts = refl; past = refl; at = refl; is_error = refl }

module _ (limit : Given) (now : Recorded) (s stamp : ℕ) where
  -- what the sessions say of a command of changes is what the archive says of it
  command_alike : (changes : List PlainChange)
      → fault_of_command need_of (shared_by limit now) (command_at stamp changes)
      ≡ archive.commit_fault now.past now.at limit.limit (command_at stamp changes)
  command_alike changes = sym
      (refused_alike now.past now.at limit.limit stamp (changing changes) tt)

  -- where the version did not move it is refused as the command is
  commit_alike : (t : PlainTransaction) → t.began ≡ newest (shared_by limit now)
      → commit_fault need_of (shared_by limit now) s stamp (Some t)
      ≡ changes_fault need_of (shared_by limit now) stamp t.changes
  commit_alike t still =
      let shared = shared_by limit now in
      let unmoved : schema_fault s (newest shared) (Some t) ≡ None =
      ap (λ (b : Bool). unless b (SchemaMoved t.began (newest shared)))
      (eq-eqb t.began (newest shared) still) in
      first_later (schema_fault s (newest shared) (Some t))
      (changes_fault need_of shared stamp t.changes ∷ []) unmoved
      ∙ first_alone (changes_fault need_of shared stamp t.changes)

  -- all changes are put as the one command
  put_alike : (c : PlainChange) (changes : List PlainChange)
      → changes_so_far (now.sessions.transaction s) ≡ c ∷ changes
      → IsAnsweredAs (request_reply limit s (committing stamp) now)
      (put_command (command_at stamp (c ∷ changes)) now)
  put_alike c changes are =
      let shared = shared_by limit now in
      let command = command_at stamp (c ∷ changes) in
      let next : now.at + need_of command - 1 ≡ now.at + 10 + due_length (command_due command) =
      omega arith in
      record {
        text = ap (λ (l : List PlainChange). said_text (commit_answer stamp l shared)) are;
        puts = ap (changes_due stamp) are;
        past = ap (λ (l : List PlainChange). (shared_after need_of stamp l shared).past) are;
        at = ap (λ (l : List PlainChange). (shared_after need_of stamp l shared).place) are ∙ next;
        is_error = refl;
      }

  commit_answered : (changes : List PlainChange) → (changes ≡ [] → ⊥)
      → changes_so_far (now.sessions.transaction s) ≡ changes
      → IsAnsweredAs (request_reply limit s (committing stamp) now)
      (put_command (command_at stamp changes) now)
  commit_answered [] some are = absurd (some refl)
  commit_answered (c ∷ changes) some are = put_alike c changes are

  some_alike : (changes : List PlainChange) → (changes ≡ [] → ⊥)
      → changes_fault need_of (shared_by limit now) stamp changes
      ≡ archive.commit_fault now.past now.at limit.limit (command_at stamp changes)
  some_alike [] some = absurd (some refl)
  some_alike (c ∷ changes) some = command_alike (c ∷ changes)

pub commits_are_commands : (limit : Given) → CommitsAreCommands limit
commits_are_commands limit now s stamp t is some still = answered_alike now
    (commit_fault need_of (shared_by limit now) s stamp (now.sessions.transaction s))
    (archive.commit_fault now.past now.at limit.limit (command_at stamp t.changes))
    (request_reply limit s (committing stamp) now) (put_command (command_at stamp t.changes) now)
    (ap (commit_fault need_of (shared_by limit now) s stamp) is
    ∙ commit_alike limit now s stamp t still ∙ some_alike limit now s stamp t.changes some)
    (commit_answered limit now s stamp t.changes some (ap changes_so_far is))
