-- What is responded to a COMMIT.
use Rattle.std.proofs.Common.{◌≡◌, ℕ, ◌⊎◌, ⊎_elim, false, List, [], ◌∷◌, refl, sym, ap, ◌∙◌, subst}
use Rattle.std.specs.Prelude.{Option, Some, None, Result, Ok, Err, IfOk, OnOk, OnErr}
use Rattle.std.specs.Io.KnownBytes.{Appends}
use Rattle.prima_io.specs.Moves.{AppendsPrefix, AppendsLess}
use Rattle.prima_base.specs.declared.failure.Failed.{Failed}
use Rattle.prima_base.specs.declared.refusal.Refusal.{Refusal}
use Rattle.disk_model.specs.Meaning.{IsValid}
use Rattle.disk_model.specs.declared.disk.Disk.{Ghosts}
use Rattle.smo_ops_types.specs.Changes.{PlainChange}
use Rattle.smo_ops_types.specs.Commands.{PlainCommand}
use Rattle.smo_ops_spec.specs.Checks.{Fault}
use Rattle.archive_core_file_spec.specs.LogRecords.{logged}
use Rattle.script_cli_vault.specs.ArchiveOnDisk.{Done, Archive, CommitFault, below, place_of}
use Rattle.script_cli_vault.specs.ArchiveOnDisk.commit
use Rattle.answer_text.specs.RefusalTexts.{refusal_text}
use Rattle.answer_text.specs.Texts.{changed_text}
use Rattle.sessions.specs.declared.vault.VaultDone.{VaultDone}
use Rattle.sessions.specs.declared.vault.VaultFault.{VaultFault}
use Rattle.sessions.specs.declared.vault.VaultFault.TheVariants as vault
use Rattle.sessions.specs.SessionStates.{PlainSessions}
use Rattle.sessions.specs.Requests.{committing}
use Rattle.sessions.specs.Shared.{Shared}
use Rattle.sessions.specs.Steps.{a_world, fault_of, command_at, changes_so_far, shared_after}
use Rattle.sessions.specs.Steps.{committed_nothing}
use Rattle.sessions.specs.Serving.{ServesCommit}
use Rattle.script_cli_vault.specs.Answered as answered
use Rattle.script_cli_vault.specs.Answered.{answer_of}
use Rattle.script_cli_vault.specs.Shown.{Shows, IsPutBy, IsGiven, need_of}
use Rattle.script_cli_vault.proofs.Answers.{had_failed}
use Rattle.script_cli_statement.specs.Due.{command_due}
use Rattle.script_cli_statement.specs.Given.{Given}
use Rattle.script_cli_statement.specs.Puts.{put_for}
use Rattle.script_cli_statement.specs.SessionLines.{said_text}
use Rattle.script_cli_statement.specs.Replies.{Recorded, Reply, refused_or, shared_by}
use Rattle.script_cli_statement.specs.Replies.{world_of, changes_due, request_reply, session_reply}
use Rattle.script_cli_statement.specs.declared.reply_kind.ReplyKind.{ReplyKind}
use Rattle.script_cli_statement.specs.declared.reply_kind.ReplyKind.TheVariants.{Command}
use Rattle.script_cli_statement.specs.declared.reply_kind.ReplyKind.TheVariants.{ErrorLine}
use Rattle.script_cli_statement.specs.StopReasons.{or_write_fault}
use Rattle.script_cli_statement.specs.Responses.{Responds, RepresentsAt, PutBetween}
use Rattle.script_cli_statement.specs.SessionResponses.{without_error}
use Rattle.script_cli_statement.specs.Putting.{MayHavePut}
use Rattle.script_cli_statement.proofs.OnePut.{put_one, nothing_between}
use Rattle.script_cli_statement.proofs.Responding.{refused_responds, untouched_between}
use Rattle.script_cli_statement.proofs.Responding.{says_stands}
use Rattle.script_cli_statement.proofs.SessionSaid.{line_says}
use Rattle.script_cli_statement.proofs.SessionSteps.{after_limit}

-- where something is changed one command is due
some_due : (stamp : ℕ) (changes : List PlainChange) → (changes ≡ [] → ⊥)
    → changes_due stamp changes ≡ command_due (command_at stamp changes) ∷ []
some_due stamp [] some = absurd (some refl)
some_due stamp (c ∷ changes) some = refl

module _ {D : Type 0} {g : Ghosts D} (a b : Archive D g) (law : IsValid (below a)) where
  -- the command was put
  put_by : (command : PlainCommand) (done : Done) → IsPutBy a b command (Ok done)
      → PutBetween a b (command_due command ∷ [])
  put_by command done h = (
    logged command ∷ [],
    (refl, tt),
    put_one (below a) (below b) (place_of a) (place_of b) (logged command) law h.encoded h.holds
        h.puts h.acknowledged,
  )

  given_done : (command : PlainCommand) (done : VaultDone) (r : Result Done CommitFault)
      → Ok done ≡ answer_of r → IsPutBy a b command r → PutBetween a b (command_due command ∷ [])
  given_done command done (Ok d) same h = put_by command d h
  given_done command done (Err e) same h = absurd (cc)

  -- no command was: the archive was not called, or its answer is another fault
  given_none : (command : PlainCommand) (e : VaultFault) → (e ≡ vault.Disk → ⊥)
      → (r : Result Done CommitFault) → Err e ≡ answer_of r → IsPutBy a b command r
      → PutBetween a b []
  given_none command e no_disk (Ok d) same h = absurd (cc)
  given_none command e no_disk (Err f) same h =
      let it : e ≡ answered.fault_of f = cc in
      let untouched = h.untouched (λ is. no_disk (it ∙ ap answered.fault_of is)) in
      untouched_between a b law untouched.0 untouched.1

  pub none_given : (command : PlainCommand) (e : VaultFault) → (e ≡ vault.Disk → ⊥)
      → (b ≡ a) ⊎ IsGiven a b command (Err e) → PutBetween a b []
  none_given command e no_disk it = ⊎_elim
      (λ same. subst (λ x. PutBetween a x []) (sym same) (nothing_between a law))
      (λ given. given_none command e no_disk given.answer given.same given.put) it

-- What the sessions had is what stood; `changes` are those of the session's transaction.
module _ {D : Type 0} {g : Ghosts D} (a b : Archive D g) (given : Given) (now : Recorded)
    (s stamp : ℕ) (old new : PlainSessions) (same : old ≡ now.sessions) (u w : Option (List ℕ))
    (law : IsValid (below a)) where
  abbrev changes : List PlainChange
  changes = changes_so_far (now.sessions.transaction s)

  abbrev had : List PlainChange
  had = changes_so_far (old.transaction s)

  abbrev the_reply : Reply
  the_reply = request_reply given s (committing stamp) now

  same_changes : had ≡ changes
  same_changes = ap (λ (it : PlainSessions). changes_so_far (it.transaction s)) same

  due_is : (had ≡ [] → ⊥) → changes_due stamp changes ≡ command_due (command_at stamp changes) ∷ []
  due_is some = some_due stamp changes (λ none. some (same_changes ∙ none))

  given_here : (r : Result VaultDone VaultFault) → IsGiven a b (command_at stamp had) r
      → IsGiven a b (command_at stamp changes) r
  given_here r h = subst (λ (l : List PlainChange). IsGiven a b (command_at stamp l) r)
      same_changes h

  -- the archive represents what is shared after it
  represents_after : Shows b (shared_after need_of stamp changes (shared_by given now))
      → RepresentsAt b given the_reply.after
  represents_after h = record {
    past = h.past;
    place = h.place;
    limit_is = h.limit ∙ after_limit stamp changes (shared_by given now);
  }

  -- all changes were committed as one command
  module _ (done : VaultDone)
      (h : ServesCommit need_of (world_of given now) s stamp (Ok (Some done)) new (Shows b))
      (some : had ≡ [] → ⊥) (it : IsGiven a b (command_at stamp had) (Ok done)) where
    put_all : PutBetween a b the_reply.puts
    put_all = let here = given_here (Ok done) it in subst (PutBetween a b) (sym (due_is some))
        (given_done a b law (command_at stamp changes) done here.answer here.same here.put)

    put_said : (p : Result ReplyKind Failed) → IfOk p (λ x. x ≡ Command)
        → OnOk p (Appends u w (changed_text done.stamp done.gained done.lost))
        → OnErr p (AppendsPrefix u w (changed_text done.stamp done.gained done.lost))
        → Responds given the_reply (or_write_fault p) a b u w
    put_said (Ok p) ok all part = record {
      is = ok ∙ ap (put_for false) (sym (due_is some));
      represents = represents_after h.3;
      puts = put_all;
      text = subst (Appends u w) (ap said_text h.1) all;
    }
    put_said (Err e) ok all part = (subst (AppendsPrefix u w) (ap said_text h.1) part, put_all)

    pub done_responds : (put : Result ReplyKind Failed) → IfOk put (λ p. p ≡ Command)
        → OnOk put (Appends u w (changed_text done.stamp done.gained done.lost))
        → OnErr put (AppendsPrefix u w (changed_text done.stamp done.gained done.lost))
        → Responds given (session_reply given s (committing stamp) now) (or_write_fault put) a b u w
    done_responds put ok all part =
        subst (λ (f : Fault). Responds given (refused_or f now the_reply) (or_write_fault put) a b u
        w) (sym h.0) (put_said put ok all part)

  -- nothing was changed, and there is no command
  pub empty_responds : (put : Result (Unit {0}) Failed) → b ≡ a
      → ServesCommit need_of (world_of given now) s stamp (Ok None) new (Shows b)
      → had ≡ [] → OnOk put (Appends u w (said_text committed_nothing))
      → OnErr put (AppendsLess u w (said_text committed_nothing))
      → Responds given (session_reply given s (committing stamp) now) (without_error put) a b u w
  empty_responds put still h none all part =
      let no_due = ap (changes_due stamp) (sym same_changes ∙ none) in
      let stands = subst (λ (x : Archive D g). RepresentsAt x given the_reply.after) still
      (represents_after h.3) in
      subst (λ (f : Fault). Responds given (refused_or f now the_reply) (without_error put) a b u w)
      (sym h.0)
      (subst (λ (x : Archive D g). Responds given the_reply (without_error put) a x u w) (sym still)
      (says_stands u w given a the_reply (without_error put) law stands no_due
      (line_says u w the_reply (said_text committed_nothing) put refl no_due (ap said_text h.1) all
      part)))

  -- it is refused
  pub refusal_responds : (r : Refusal) (put : Result ReplyKind Failed)
      → ServesCommit need_of (world_of given now) s stamp (Err (vault.Refused r)) new (Shows b)
      → (b ≡ a) ⊎ IsGiven a b (command_at stamp had) (Err (vault.Refused r))
      → IfOk put (λ p. p ≡ ErrorLine) → OnOk put (Appends u w (refusal_text r))
      → OnErr put (AppendsPrefix u w (refusal_text r))
      → Responds given (session_reply given s (committing stamp) now) (or_write_fault put) a b u w
  refusal_responds r put h it ok all part =
      refused_responds u w given now a b r (fault_of need_of (world_of given now) s
      (committing stamp)) the_reply put h.0
      (record { past = h.2.past; place = h.2.place; limit_is = h.2.limit })
      (none_given a b law (command_at stamp had) (vault.Refused r) (λ e. cc) it) ok all part

  -- the disk failed
  pub failed_responds : ServesCommit need_of (world_of given now) s stamp (Err vault.Disk) new
      (Shows b) → (had ≡ [] → ⊥) → IsGiven a b (command_at stamp had) (Err vault.Disk)
      → MayHavePut (below a) (below b) (place_of a)
      (session_reply given s (committing stamp) now).puts
  failed_responds h some it = let here = given_here (Err vault.Disk) it in record {
    what = command_due (command_at stamp changes);
    due_is = ap (λ (f : Fault). (refused_or f now the_reply).puts) h.0 ∙ due_is some;
    its_record = logged (command_at stamp changes);
    is_its = refl;
    encoded = here.put.encoded_so_far (had_failed here.answer (sym here.same));
    puts_it = here.put.puts;
  }

-- ---- what is served, of what stands

module _ (given : Given) (now : Recorded) (s stamp : ℕ) (shows : Shared → Type 0) where
  pub commit_served : (old new : PlainSessions) → old ≡ now.sessions
      → (r : Result (Option VaultDone) VaultFault)
      → ServesCommit need_of (a_world (shared_by given now) old) s stamp r new shows
      → ServesCommit need_of (world_of given now) s stamp r new shows
  commit_served old new same r h = subst (λ o.
      ServesCommit need_of (a_world (shared_by given now) o) s stamp r new shows) same h

  pub commit_leaves : (new : PlainSessions) (answer : Option VaultDone)
      → ServesCommit need_of (world_of given now) s stamp (Ok answer) new shows
      → new ≡ (session_reply given s (committing stamp) now).after.sessions
  commit_leaves new answer h = h.2 ∙ ap (λ (f : Fault). (refused_or f now
      (request_reply given s (committing stamp) now)).after.sessions) (sym h.0)

  pub refusal_leaves : (new : PlainSessions) (r : Refusal)
      → ServesCommit need_of (world_of given now) s stamp (Err (vault.Refused r)) new shows
      → new ≡ (session_reply given s (committing stamp) now).after.sessions
  refusal_leaves new r h = h.1 ∙ ap (λ (f : Fault). (refused_or f now
      (request_reply given s (committing stamp) now)).after.sessions) (sym h.0)
