-- What is said to a request of a session, and what the sessions then have.
use Rattle.std.proofs.Common.{◌≡◌, ℕ, false, List, [], refl, sym, ap, ◌∙◌, subst}
use Rattle.std.specs.Prelude.{Option, Some, None, Result, Ok, Err, IfOk, OnOk, OnErr}
use Rattle.std.specs.Io.KnownBytes.{Appends}
use Rattle.prima_io.specs.Moves.{AppendsPrefix, AppendsLess}
use Rattle.prima_io.specs.Causes.{HasCause}
use Rattle.prima_io.proofs.Prefixes.{of_less}
use Rattle.prima_base.specs.declared.failure.Failed.{Failed}
use Rattle.disk_model.specs.Meaning.{IsValid}
use Rattle.disk_model.specs.declared.disk.Disk.{Ghosts}
use Rattle.smo_ops_spec.specs.Checks.{Fault}
use Rattle.script_cli_vault.specs.ArchiveOnDisk.{RepresentsPast, Archive, standing_of, below}
use Rattle.sessions.specs.declared.vault.VaultFault.{VaultFault}
use Rattle.sessions.specs.declared.vault.VaultFault.TheVariants as vault
use Rattle.sessions.specs.SessionStates.{PlainSessions}
use Rattle.sessions.specs.Requests.{Request}
use Rattle.sessions.specs.Steps.{Answer, a_world, fault_of, shared_then}
use Rattle.sessions.specs.Serving.{Serves}
use Rattle.script_cli_vault.specs.Shown.{Shows, need_of}
use Rattle.script_cli_statement.specs.Given.{Given}
use Rattle.script_cli_statement.specs.Puts.{put_for}
use Rattle.script_cli_statement.specs.SessionLines.{said_text}
use Rattle.script_cli_statement.specs.Replies.{Recorded, Reply, refused_or, shared_by, world_of}
use Rattle.script_cli_statement.specs.Replies.{request_due, request_reply, session_reply}
use Rattle.script_cli_statement.specs.declared.reply_kind.ReplyKind.{ReplyKind}
use Rattle.script_cli_statement.specs.declared.reply_kind.ReplyKind.TheVariants.{NoError}
use Rattle.script_cli_statement.specs.declared.stop_reason.StopReason.{StopReason}
use Rattle.script_cli_statement.specs.StopReasons.{or_write_fault, SaidCounted}
use Rattle.script_cli_statement.specs.Responses.{Says, Responds, RepresentsAt}
use Rattle.script_cli_statement.specs.SessionResponses.{without_error, IsFaultOf, IsRefused}
use Rattle.script_cli_statement.proofs.Responding.{says_stands}

-- an archive shows to sessions what it represents
pub shows_at : {D : Type 0} {g : Ghosts D} (a : Archive D g) (given : Given) (now : Recorded)
    → RepresentsAt a given now → Shows a (shared_by given now)
shows_at a given now h = record { past = h.past; place = h.place; limit = h.limit_is }

-- the counts of faults of such a line
pub line_counted : (put : Result (Unit {0}) Failed) (before now : ℕ) → HasCause before now put
    → SaidCounted (without_error put) before now
line_counted (Ok p) before now h = h.kept
line_counted (Err e) before now h = (h.later, h.failed)

module _ (u w : Option (List ℕ)) where
  -- a line was put that is no error
  pub line_says : (reply : Reply) (line : List ℕ) (put : Result (Unit {0}) Failed)
      → reply.is_error ≡ false → reply.puts ≡ [] → line ≡ reply.text
      → OnOk put (Appends u w line) → OnErr put (AppendsLess u w line)
      → Says reply (without_error put) u w
  line_says reply line (Ok p) told none is all part =
      ((λ i. put_for (sym told i) (sym none i)), subst (Appends u w) is all)
  line_says reply line (Err e) told none is all part =
      subst (AppendsPrefix u w) is (of_less u w line part)

  -- or lines
  pub lines_say : (reply : Reply) (lines : List ℕ) (put : Result ReplyKind Failed)
      → reply.is_error ≡ false → reply.puts ≡ [] → lines ≡ reply.text
      → IfOk put (λ p. p ≡ NoError) → OnOk put (Appends u w lines)
      → OnErr put (AppendsPrefix u w lines) → Says reply (or_write_fault put) u w
  lines_say reply lines (Ok p) told none is ok all part =
      (ok ∙ (λ i. put_for (sym told i) (sym none i)), subst (Appends u w) is all)
  lines_say reply lines (Err e) told none is ok all part = subst (AppendsPrefix u w) is part

module _ {A : Type 0} (said : A → Answer) (given : Given) (now : Recorded) (s : ℕ)
    (request : Request) (old new : PlainSessions) (same : old ≡ now.sessions) where
  -- what is served is so of what stands
  pub served : (r : Result A VaultFault)
      → Serves need_of said (a_world (shared_by given now) old) s request r new
      → Serves need_of said (world_of given now) s request r new
  served r h = subst (λ o. Serves need_of said (a_world (shared_by given now) o) s request r new)
      same h

  module _ (x : A) (h : Serves need_of said (a_world (shared_by given now) old) s request (Ok x)
      new) where
    -- its answer is put
    pub answer_says : (u w : Option (List ℕ)) (line : List ℕ) (put : Result (Unit {0}) Failed)
        → request_due now.sessions s request ≡ [] → line ≡ said_text (said x)
        → OnOk put (Appends u w line) → OnErr put (AppendsLess u w line)
        → Says (session_reply given s request now) (without_error put) u w
    answer_says u w line put none is all part =
        let k = served (Ok x) h in
        subst (λ (f : Fault). Says (refused_or f now (request_reply given s request now))
        (without_error put) u w) (sym k.0)
        (line_says u w (request_reply given s request now) line put refl none
        (is ∙ ap said_text k.1) all part)

    -- and the sessions have what it leaves
    pub answer_leaves : new ≡ (session_reply given s request now).after.sessions
    answer_leaves = let k = served (Ok x) h in
        k.2 ∙ ap (λ (f : Fault). (refused_or f now (request_reply given s request
        now)).after.sessions) (sym k.0)

  module _ (e : VaultFault) (h : Serves need_of said (a_world (shared_by given now) old) s request
      (Err e) new) where
    fault_is : (f : VaultFault) → Serves need_of said (world_of given now) s request (Err f) new
        → IsFaultOf (fault_of need_of (world_of given now) s request) f
    fault_is (vault.Refused r) k = k.0
    fault_is vault.NoMemory k = tt
    fault_is vault.Broken k = k
    fault_is vault.Disk k = k

    -- its refusal is that of the reply
    pub fault_so : IsFaultOf (fault_of need_of (world_of given now) s request) e
    fault_so = fault_is e (served (Err e) h)

    kept_where : (f : VaultFault) → IsRefused f
        → Serves need_of said (world_of given now) s request (Err f) new
        → new ≡ (session_reply given s request now).after.sessions
    kept_where (vault.Refused r) is k = k.1 ∙ ap (λ (o : Fault). (refused_or o now
        (request_reply given s request now)).after.sessions) (sym k.0)
    kept_where vault.NoMemory is k = absurd is
    kept_where vault.Broken is k = absurd is
    kept_where vault.Disk is k = absurd is

    -- and the sessions have what they had
    pub fault_leaves : (r : Result ReplyKind StopReason) → OnOk r (IsRefused e)
        → OnOk r (new ≡ (session_reply given s request now).after.sessions)
    fault_leaves (Ok put) is = kept_where e is (served (Err e) h)
    fault_leaves (Err reason) is = tt

-- ---- a request that leaves the archive as it was

module _ {D : Type 0} {g : Ghosts D} (a : Archive D g) (given : Given) (now : Recorded) (s : ℕ)
    (request : Request) (none : request_due now.sessions s request ≡ [])
    (past : (shared_then need_of (world_of given now) s request).past ≡ now.past)
    (place : (shared_then need_of (world_of given now) s request).place ≡ now.at) where
  puts_none : (f : Fault) → (refused_or f now (request_reply given s request now)).puts ≡ []
  puts_none None = none
  puts_none (Some r) = refl

  still_stands : (f : Fault) → RepresentsAt a given now
      → RepresentsAt a given (refused_or f now (request_reply given s request now)).after
  still_stands None h = record {
    past = subst (RepresentsPast (standing_of a)) (sym past) h.past;
    place = h.place ∙ sym place;
    limit_is = h.limit_is;
  }
  still_stands (Some r) h = h

  pub request_responds : (u w : Option (List ℕ)) (result : Result ReplyKind StopReason)
      → IsValid (below a) → RepresentsAt a given now
      → Says (session_reply given s request now) result u w
      → Responds given (session_reply given s request now) result a a u w
  request_responds u w result law h says =
      let fault = fault_of need_of (world_of given now) s request in
      says_stands u w given a (session_reply given s request now) result law
      (still_stands fault h) (puts_none fault) says
