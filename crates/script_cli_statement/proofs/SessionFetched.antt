-- What is said to a FETCH, and what the sessions then have.
use Rattle.std.proofs.Common.{◌≡◌, ℕ, List, refl, sym, ap, ◌∙◌, subst}
use Rattle.std.specs.Prelude.{Bool, true, Option, Some, None, Result, IfOk, OnOk, OnErr}
use Rattle.std.specs.Option.{option_map, unwrap_or}
use Rattle.std.specs.Borrow.{Bor}
use Rattle.std.specs.Io.KnownBytes.{Appends}
use Rattle.prima_io.specs.Moves.{AppendsPrefix}
use Rattle.prima_base.specs.declared.failure.Failed.{Failed}
use Rattle.prima_base.specs.declared.refusal.Refusal.TheVariants.{NoCursor}
use Rattle.smo_ops_spec.specs.Checks.{Fault}
use Rattle.answer_text.specs.Texts.{listing_text}
use Rattle.sessions.specs.declared.vault.KeptRow.{KeptRow}
use Rattle.sessions.specs.Kept.{kept_entries}
use Rattle.sessions.specs.SessionStates.{PlainCursor, PlainSessions, cursor_of}
use Rattle.sessions.specs.Requests.{fetching}
use Rattle.sessions.specs.Steps.{fault_of, cursor_fault}
use Rattle.sessions.specs.Fetching.{ServesFetch, periods_of}
use Rattle.script_cli_vault.specs.Shown.{need_of}
use Rattle.script_cli_statement.specs.Given.{Given}
use Rattle.script_cli_statement.specs.SessionLines.{said_text}
use Rattle.script_cli_statement.specs.Replies.{Recorded, refused_or, shared_by, world_of}
use Rattle.script_cli_statement.specs.Replies.{request_reply, session_reply}
use Rattle.script_cli_statement.specs.declared.reply_kind.ReplyKind.{ReplyKind}
use Rattle.script_cli_statement.specs.declared.reply_kind.ReplyKind.TheVariants.{NoError}
use Rattle.script_cli_statement.specs.StopReasons.{or_write_fault}
use Rattle.script_cli_statement.specs.Responses.{Says}
use Rattle.script_cli_statement.proofs.SessionSaid.{lines_say}

-- whether periods are told; of a cursor that is not open they would be
told_is : (c : Option PlainCursor) (told : Option Bool) → told ≡ option_map (λ c. c.periods) c
    → unwrap_or told true ≡ periods_of c
told_is c told e = ap (λ o. unwrap_or o true) e ∙ by c
  where
    by : (o : Option PlainCursor) → unwrap_or (option_map (λ c. c.periods) o) true ≡ periods_of o
    by None = refl
    by (Some x) = refl

module _ (given : Given) (now : Recorded) (s : ℕ) (name : List ℕ) (count : ℕ)
    (old new : PlainSessions) (same : old ≡ now.sessions) where
  served : (r : Option (Bor (List KeptRow))) → ServesFetch old s name count r new
      → ServesFetch now.sessions s name count r new
  served r h = subst (λ o. ServesFetch o s name count r new) same h

  module _ (r : Option (Bor (List KeptRow))) (h : ServesFetch old s name count r new) where
    module _ (rows : Bor (List KeptRow)) (there : r ≡ Some rows) where
      here : ServesFetch now.sessions s name count (Some rows) new
      here = subst (λ (x : Option (Bor (List KeptRow))).
          ServesFetch now.sessions s name count x new)
          there (served r h)

      pub fetched_says : (u w : Option (List ℕ)) (periods : Bool) (told : Option Bool)
          → told ≡ option_map (λ c. c.periods) (cursor_of old s name)
          → periods ≡ unwrap_or told true → (put : Result ReplyKind Failed)
          → IfOk put (λ p. p ≡ NoError)
          → OnOk put (Appends u w (listing_text periods (kept_entries rows.now)))
          → OnErr put (AppendsPrefix u w (listing_text periods (kept_entries rows.now)))
          → Says (session_reply given s (fetching name count) now) (or_write_fault put) u w
      fetched_says u w periods told e is put ok all part =
          let k = here need_of (shared_by given now) in
          let periods_are : periods ≡ periods_of (cursor_of now.sessions s name) =
          is ∙ told_is (cursor_of old s name) told e
          ∙ ap (λ o. periods_of (cursor_of o s name)) same in
          subst (λ (f : Fault). Says (refused_or f now (request_reply given s (fetching name count)
          now)) (or_write_fault put) u w) (sym k.0)
          (lines_say u w (request_reply given s (fetching name count) now)
          (listing_text periods (kept_entries rows.now)) put refl refl
          (ap (λ b. listing_text b (kept_entries rows.now)) periods_are ∙ ap said_text k.1)
          ok all part)

      pub fetched_leaves : new ≡ (session_reply given s (fetching name count) now).after.sessions
      fetched_leaves = let k = here need_of (shared_by given now) in
          k.2 ∙ ap (λ (f : Fault). (refused_or f now
          (request_reply given s (fetching name count) now)).after.sessions) (sym k.0)

    module _ (missing : r ≡ None) where
      gone : ServesFetch now.sessions s name count None new
      gone = subst (λ (x : Option (Bor (List KeptRow))).
          ServesFetch now.sessions s name count x new)
          missing (served r h)

      pub missing_is : fault_of need_of (world_of given now) s (fetching name count)
          ≡ Some (NoCursor s name)
      missing_is = ap (cursor_fault s name) gone.0

      pub missing_leaves : new ≡ (session_reply given s (fetching name count) now).after.sessions
      missing_leaves = gone.1 ∙ ap (λ (f : Fault). (refused_or f now
          (request_reply given s (fetching name count) now)).after.sessions) (sym missing_is)
