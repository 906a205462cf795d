-- What was put of a reply.
use Rattle.std.proofs.Common.{◌≡◌, ℕ, Bool, true, false, List, [], ◌∷◌, length, refl, sym, subst}
use Rattle.std.proofs.Common.{ap, ◌∙◌, arith, ◌+◌}
use Rattle.std.specs.Prelude.{Option, Some, None, Result, Ok, Err, IfOk, OnOk, OnErr}
use Rattle.std.specs.Io.KnownBytes.{Appends}
use Rattle.std.proofs.KnownBytes.{Appends-nil}
use Rattle.prima_io.specs.Moves.{AppendsPrefix}
use Rattle.prima_io.specs.Causes.{HasCause}
use Rattle.prima_base.specs.declared.refusal.Refusal.{Refusal}
use Rattle.prima_base.specs.declared.failure.Failed.{Failed}
use Rattle.disk_model.specs.Meaning.{IsValid}
use Rattle.disk_model.specs.declared.disk.Disk.{Ghosts}
use Rattle.smo_ops_spec.specs.Checks.{Fault}
use Rattle.smo_ops_spec.specs.Past.{Past, past_with}
use Rattle.smo_ops_types.specs.Commands.{PlainBody, changing, evolving, PlainCommand}
use Rattle.version_groups.specs.Steps.{rows_gained, rows_lost}
use Rattle.script_cli_vault.specs.ArchiveOnDisk.{Done, version_made, IsDone, Archive}
use Rattle.journal.specs.JournalFiles.{needs}
use Rattle.archive_core_file_spec.specs.LogRecords.{logged, record_of}
use Rattle.store_image_spec.specs.Lengths.{image_length}
use Rattle.script_cli_vault.specs.ArchiveOnDisk.{checkpoint_fault, RepresentsPast, standing_of}
use Rattle.script_cli_vault.specs.ArchiveOnDisk.{disk_of, below, place_of, limit_of, is_broken}
use Rattle.script_cli_vault.specs.ArchiveOnDisk.{commit_fault}
use Rattle.answer_text.specs.RefusalTexts.{refusal_text}
use Rattle.answer_text.specs.Texts.{made_text, checkpoint_text}
use Rattle.script_parse.specs.Statements.{PlainStatement}
use Rattle.script_parse.specs.Reading.{Reading, Blank, Refused, Whole, reading}
use Rattle.script_cli_statement.specs.Given.{Given}
use Rattle.script_cli_statement.specs.Due.{Due, command_due, image_due}
use Rattle.script_cli_statement.specs.Replies.{Recorded, recorded_with, Reply, done_text, answered}
use Rattle.script_cli_statement.specs.Replies.{refused, refused_or, put, body_text, command_text}
use Rattle.script_cli_statement.specs.Replies.{command_reply, checkpoint_reply, statement_reply}
use Rattle.script_cli_statement.specs.Replies.{reading_reply, reply}
use Rattle.script_cli_statement.specs.declared.reply_kind.ReplyKind.{ReplyKind}
use Rattle.script_cli_statement.specs.declared.reply_kind.ReplyKind.TheVariants.{NoError, Command}
use Rattle.script_cli_statement.specs.declared.reply_kind.ReplyKind.TheVariants.{ErrorLine}
use Rattle.script_cli_statement.specs.declared.stop_reason.StopReason.{StopReason}
use Rattle.script_cli_statement.specs.declared.stop_reason.StopReason.TheVariants.{WriteFault}
use Rattle.script_cli_statement.specs.declared.stop_reason.StopReason.TheVariants.{DiskFault}
use Rattle.script_cli_statement.specs.declared.stop_reason.StopReason.TheVariants.{NoMemory}
use Rattle.script_cli_statement.specs.StopReasons.{or_write_fault, StopCounted, SaidCounted}
use Rattle.script_cli_statement.specs.Puts.{put_for}
use Rattle.script_cli_statement.specs.Putting.{HasPut}
use Rattle.script_cli_statement.specs.Responses.{Says, Responds, RepresentsAt, TakesRecords}
use Rattle.script_cli_statement.specs.Responses.{PutBetween}
use Rattle.script_cli_statement.proofs.OnePut.{put_nothing, nothing_between}

-- the line tells what the command did
body_said : (past next : Past) (stamp : ℕ) (body : PlainBody)
    → made_text stamp (rows_gained past body) (rows_lost past body)
    (version_made body (length next.versions)) ≡ body_text stamp body past next
body_said past next stamp (changing changes) = refl
body_said past next stamp (evolving op inverse) = refl

done_said : (past : Past) (command : PlainCommand) (done : Done) → IsDone past command done
    → done_text done ≡ command_text command past (past_with past command)
done_said past command done h =
    let same : done_text done ≡ made_text command.stamp (rows_gained past command.body)
    (rows_lost past command.body) (version_made command.body
    (length (past_with past command).versions))
    = λ i. made_text (h.stamp i) (h.gained i) (h.lost i) (h.version i) in
    same ∙ body_said past (past_with past command) command.stamp command.body

-- nothing was put
pub nothing_put : (at : Option (List ℕ)) (text : List ℕ) → AppendsPrefix at at text
nothing_put at text = ([], text, refl, Appends-nil at)

-- the counts of faults of what calls no disk
pub said_counted : (r : Result ReplyKind Failed) (before now : ℕ) → HasCause before now r
    → SaidCounted (or_write_fault r) before now
said_counted (Ok p) before now h = h.kept
said_counted (Err e) before now h = (h.later, h.failed)

pub reason_counted : (r : Result ReplyKind Failed) (before now disk later : ℕ)
    → HasCause before now r
    → later ≡ disk → StopCounted (or_write_fault r) before now disk later
reason_counted (Ok p) before now disk later h same = (h.kept, same)
reason_counted (Err e) before now disk later h same = ((h.later, h.failed), same)

-- what is said without a disk is counted
pub reason_said : (r : Result ReplyKind StopReason) (before now disk : ℕ) → SaidCounted r before now
    → StopCounted r before now disk disk
reason_said (Ok p) before now disk h = (h, refl)
reason_said (Err WriteFault) before now disk h = (h, refl)
reason_said (Err DiskFault) before now disk h = absurd h
reason_said (Err NoMemory) before now disk h = (h, refl)

module _ (old new : Option (List ℕ)) where
  -- a refusal
  pub refused_says : (fault : Fault) (r : Refusal) (now : Recorded) (reply : Reply)
      (result : Result ReplyKind Failed) → fault ≡ Some r
      → IfOk result (λ put. put ≡ ErrorLine) → OnOk result (Appends old new (refusal_text r))
      → OnErr result (AppendsPrefix old new (refusal_text r))
      → Says (refused_or fault now reply) (or_write_fault result) old new
  refused_says None r now reply result e ok all part = absurd (cc)
  refused_says (Some q) r now reply (Ok b) e ok all part = let same : r ≡ q = cc in
      (ok, subst (λ (x : Refusal). Appends old new (refusal_text x)) same all)
  refused_says (Some q) r now reply (Err stop) e ok all part = let same : r ≡ q = cc in
      subst (λ (x : Refusal). AppendsPrefix old new (refusal_text x)) same part

  -- an answer
  pub answered_says : (fault : Fault) (now : Recorded) (text said : List ℕ)
      (result : Result ReplyKind Failed) → fault ≡ None → said ≡ text
      → IfOk result (λ put. put ≡ NoError) → OnOk result (Appends old new said)
      → OnErr result (AppendsPrefix old new said)
      → Says (refused_or fault now (answered text now)) (or_write_fault result) old new
  answered_says None now text said (Ok b) e same ok all part =
      (ok, subst (λ (t : List ℕ). Appends old new t) same all)
  answered_says None now text said (Err stop) e same ok all part =
      subst (λ (t : List ℕ). AppendsPrefix old new t) same part
  answered_says (Some r) now text said result e same ok all part = absurd (cc)

  -- what is said of a query that is not refused
  pub accepted_says : (fault : Fault) (now : Recorded) (text said : List ℕ)
      (result : Result ReplyKind StopReason) → fault ≡ None → said ≡ text
      → Says (answered said now) result old new
      → Says (refused_or fault now (answered text now)) result old new
  accepted_says None now text said result e same h =
      subst (λ (t : List ℕ). Says (answered t now) result old new) same h
  accepted_says (Some r) now text said result e same h = absurd (cc)

  -- a statement that calls no disk, and leaves the archive as it was
  pub says_stands : {D : Type 0} {g : Ghosts D} (limit : Given) (a : Archive D g) (reply : Reply)
      (result : Result ReplyKind StopReason) → IsValid (below a)
      → RepresentsAt a limit reply.after → reply.puts ≡ [] → Says reply result old new
      → Responds limit reply result a a old new
  says_stands limit a reply (Ok put) law represents none says = record {
    is = says.0;
    represents = represents;
    puts = subst (PutBetween a a) (sym none) (nothing_between a law);
    text = says.1;
  }
  says_stands limit a reply (Err WriteFault) law represents none says =
      (says, subst (PutBetween a a) (sym none) (nothing_between a law))
  says_stands limit a reply (Err DiskFault) law represents none says = absurd says
  says_stands limit a reply (Err NoMemory) law represents none says =
      (says, nothing_between a law)

  module _ {D : Type 0} {g : Ghosts D} (limit : Given) (now : Recorded) (a b : Archive D g) where
    -- the same where all is as it was
    pub says_responds : (reply : Reply) (result : Result ReplyKind StopReason) → IsValid (below a)
        → RepresentsAt a limit now → reply.puts ≡ [] → reply.after ≡ now → Says reply result old new
        → Responds limit reply result a a old new
    says_responds reply result law represents none same says = says_stands limit a reply result
        law (subst (RepresentsAt a limit) (sym same) represents) none says

    -- the record of what is due was put, and then a line
    put_responds : (text said : List ℕ) (due : Due) (told : ReplyKind) (fault : Fault)
        (result : Result ReplyKind Failed) → fault ≡ None → told ≡ put_for false (due ∷ [])
        → said ≡ text
        → RepresentsAt b limit (recorded_with now due) → PutBetween a b (due ∷ [])
        → IfOk result (λ p. p ≡ told) → OnOk result (Appends old new said)
        → OnErr result (AppendsPrefix old new said)
        → Responds limit (refused_or fault now (put text due now)) (or_write_fault result) a b
        old new
    put_responds text said due told None (Ok p) e is same represents puts ok all part =
        record {
          is = ok ∙ is;
          represents = represents;
          puts = puts;
          text =
              subst (λ (t : List ℕ). Appends old new t) same all;
        }
    put_responds text said due told None (Err stop) e is same represents puts ok all part =
        (subst (λ (t : List ℕ). AppendsPrefix old new t) same part, puts)
    put_responds text said due told (Some r) result e is same represents puts ok all part =
        absurd (cc)

    -- an accepted command that was put
    pub done_responds : (command : PlainCommand) (done : Done) (result : Result ReplyKind Failed)
        → commit_fault now.past now.at limit.limit command ≡ None → IsDone now.past command done
        → RepresentsAt b limit (recorded_with now (command_due command))
        → PutBetween a b (command_due command ∷ []) → IfOk result (λ put. put ≡ Command)
        → OnOk result (Appends old new (done_text done))
        → OnErr result (AppendsPrefix old new (done_text done))
        → Responds limit (command_reply limit command now) (or_write_fault result) a b old new
    done_responds command done result e h represents puts ok all part =
        put_responds (command_text command now.past (past_with now.past command)) (done_text done)
        (command_due command) Command (commit_fault now.past now.at limit.limit command) result
        e refl (done_said now.past command done h) represents puts ok all part

    -- a checkpoint that was put
    pub stored_responds : (result : Result ReplyKind Failed)
        → checkpoint_fault now.past now.at limit.limit ≡ None
        → RepresentsAt b limit (recorded_with now (image_due now.past))
        → PutBetween a b (image_due now.past ∷ []) → IfOk result (λ put. put ≡ NoError)
        → OnOk result (Appends old new checkpoint_text)
        → OnErr result (AppendsPrefix old new checkpoint_text)
        → Responds limit (checkpoint_reply limit now) (or_write_fault result) a b old new
    stored_responds result e represents puts ok all part =
        put_responds checkpoint_text checkpoint_text (image_due now.past) NoError
        (checkpoint_fault now.past now.at limit.limit) result e refl refl represents puts ok all
        part

    -- what is refused
    pub refused_responds : (r : Refusal) (fault : Fault) (other : Reply)
        (result : Result ReplyKind Failed) → fault ≡ Some r → RepresentsAt b limit now
        → PutBetween a b []
        → IfOk result (λ put. put ≡ ErrorLine) → OnOk result (Appends old new (refusal_text r))
        → OnErr result (AppendsPrefix old new (refusal_text r))
        → Responds limit (refused_or fault now other) (or_write_fault result) a b old new
    refused_responds r fault other result e represents puts ok all part =
        subst (λ (f : Fault). Responds limit (refused_or f now other) (or_write_fault result) a b
        old new) (sym e) (step result ok all part)
      where
        step : (x : Result ReplyKind Failed) → IfOk x (λ put. put ≡ ErrorLine)
            → OnOk x (Appends old new (refusal_text r))
            → OnErr x (AppendsPrefix old new (refusal_text r))
            → Responds limit (refused r now) (or_write_fault x) a b old new
        step (Ok p) ok all part =
            record { is = ok; represents = represents; puts = puts; text = all }
        step (Err stop) ok all part = (part, puts)

-- ---- what putting a record does

pub fault_here : {D : Type 0} {g : Ghosts D} (a : Archive D g) (limit : Given) (now : Recorded)
    (command : PlainCommand) (fault : Fault) → RepresentsAt a limit now
    → commit_fault now.past (place_of a) (limit_of a) command ≡ fault
    → commit_fault now.past now.at limit.limit command ≡ fault
fault_here a limit now command fault represents e =
    ap (λ n. commit_fault now.past n limit.limit command) (sym represents.place)
    ∙ ap (λ n. commit_fault now.past (place_of a) n command) (sym represents.limit_is) ∙ e

pub checkpoint_fault_here : {D : Type 0} {g : Ghosts D} (a : Archive D g) (limit : Given)
    (now : Recorded) (fault : Fault) → RepresentsAt a limit now
    → checkpoint_fault now.past (place_of a) (limit_of a) ≡ fault
    → checkpoint_fault now.past now.at limit.limit ≡ fault
checkpoint_fault_here a limit now fault represents e =
    ap (λ n. checkpoint_fault now.past n limit.limit) (sym represents.place)
    ∙ ap (λ n. checkpoint_fault now.past (place_of a) n) (sym represents.limit_is) ∙ e

module _ {D : Type 0} {g : Ghosts D} (a b : Archive D g) (limit : Given) (now : Recorded)
    (represents : RepresentsAt a limit now) where
  -- it stands for what is after a command that was put
  pub stands_after : (command : PlainCommand)
      → RepresentsPast (standing_of b) (past_with now.past command)
      → place_of b + 1 ≡ place_of a + needs (record_of (logged command)) → limit_of b ≡ limit_of a
      → RepresentsAt b limit (recorded_with now (command_due command))
  stands_after command h place same = record {
    past = h;
    place =
        omega (arith, place, represents.place);
    limit_is = same ∙ represents.limit_is;
  }

  -- or after an image, whose past is the same
  pub stands_stored : (n : ℕ) → n ≡ image_length now.past → RepresentsPast (standing_of b) now.past
      → place_of b + 1 ≡ place_of a + (11 + n) → limit_of b ≡ limit_of a
      → RepresentsAt b limit (recorded_with now (image_due now.past))
  stands_stored n is h place same = record {
    past = h;
    place =
        omega (arith, place, represents.place, is);
    limit_is = same ∙ represents.limit_is;
  }

  -- it stands as it stood
  pub stands_still : RepresentsPast (standing_of b) now.past → place_of b ≡ place_of a
      → limit_of b ≡ limit_of a → RepresentsAt b limit now
  stands_still h place same = record {
    past = h;
    place = place ∙ represents.place;
    limit_is =
        same ∙ represents.limit_is;
  }

-- no disk was called
pub untouched_between : {D : Type 0} {g : Ghosts D} (a b : Archive D g) → IsValid (below a)
    → disk_of b ≡ disk_of a → place_of b ≡ place_of a → PutBetween a b []
untouched_between {D} {g} a b law disk place = (
  [],
  tt,
  subst (λ d. HasPut (below a) (g.meaning d) (place_of a) (place_of b) []) (sym disk)
      (subst (λ n. HasPut (below a) (below a) (place_of a) n []) (sym place)
      (put_nothing (below a) (place_of a) law)),
)

-- what is not refused puts what is due
pub puts_itself : (now : Recorded) (fault : Fault) (text : List ℕ) (due : Due) → fault ≡ None
    → (refused_or fault now (put text due now)).puts ≡ due ∷ []
puts_itself now fault text due e = ap (λ (f : Fault). (refused_or f now (put text due now)).puts) e

-- it still takes records
pub still_takes : {D : Type 0} {g : Ghosts D} (a : Archive D g) → (is_broken a ≡ true → ⊥)
    → TakesRecords a
still_takes a not_broken = not_true (is_broken a) not_broken
  where
    not_true : (b : Bool) → (b ≡ true → ⊥) → b ≡ false
    not_true true h = absurd (h refl)
    not_true false h = refl

pub on_ok : {T E : Type 0} (r : Result T E) (P : Type 0) → P → OnOk r P
on_ok (Ok x) P p = p
on_ok (Err e) P p = tt

-- ---- a statement's bytes

-- the reply is that to what they are read as
pub reply_is : (limit : Given) (now : Recorded) (text : List ℕ) (r : Reading) → r ≡ reading text
    → reading_reply limit r now ≡ reply limit now text
unfolding reply
reply_is limit now text r e = ap (λ x. reading_reply limit x now) e

module _ {D : Type 0} {g : Ghosts D} (a b : Archive D g) (limit : Given) (now : Recorded)
    (text : List ℕ) (u w : Option (List ℕ)) where
  -- a statement
  pub read_responds : (s : PlainStatement) (result : Result ReplyKind StopReason)
      → Whole s ≡ reading text
      → Responds limit (statement_reply limit s now) result a b u w
      → Responds limit (reply limit now text) result a b u w
  read_responds s result e h = subst (λ y. Responds limit y result a b u w)
      (reply_is limit now text (Whole s) e) h

  -- no statement
  pub blank_responds : Blank ≡ reading text → IsValid (below a) → RepresentsAt a limit now
      → Responds limit (reply limit now text) (Ok NoError) a a u u
  blank_responds e law represents = subst (λ y. Responds limit y (Ok NoError) a a u u)
      (reply_is limit now text Blank e)
      (says_responds u u limit now a a (answered [] now) (Ok NoError) law represents refl refl
      (refl, Appends-nil u))

  -- what is read as no statement is refused
  pub unread_responds : (r : Refusal) (put : Result ReplyKind Failed)
      (said : Result ReplyKind StopReason)
      → Refused r ≡ reading text → said ≡ or_write_fault put → IsValid (below a)
      → RepresentsAt a limit now
      → IfOk put (λ p. p ≡ ErrorLine) → OnOk put (Appends u w (refusal_text r))
      → OnErr put (AppendsPrefix u w (refusal_text r))
      → Responds limit (reply limit now text) said a a u w
  unread_responds r put said e is law represents ok all part =
      subst (λ x. Responds limit (reply limit now text) x a a u w) (sym is)
      (subst (λ y. Responds limit y (or_write_fault put) a a u w)
      (reply_is limit now text (Refused r) e)
      (says_responds u w limit now a a (refused r now) (or_write_fault put) law represents refl refl
      (refused_says u w (Some r) r now (refused r now) put refl ok all part)))

  -- or memory ran out
  pub memory_responds : (reply : Reply) → IsValid (below a)
      → Responds limit reply (Err NoMemory) a a u u
  memory_responds reply law = (refl, nothing_between a law)

-- the counts of faults of what is said without a disk
pub said_reason : (put : Result ReplyKind Failed) (said : Result ReplyKind StopReason)
    (before now disk : ℕ)
    → said ≡ or_write_fault put → HasCause before now put → StopCounted said before now disk disk
said_reason put said before now disk is cause =
    subst (λ x. StopCounted x before now disk disk) (sym is)
    (reason_counted put before now disk disk cause refl)
