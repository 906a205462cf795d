-- How a statement is responded to: the past that the archive represents, what is put, and what is
-- written.
use Rattle.std.specs.Prelude.{◌≡◌, ℕ, false, List, [], Option, Result}
use Rattle.std.specs.Prelude.{Ok, Err, MatchResult}
use Rattle.std.specs.Io.KnownBytes.{Appends}
use Rattle.prima_io.specs.Moves.{AppendsPrefix}
use Rattle.disk_model.specs.declared.disk.Disk.{Ghosts}
use Rattle.archive_core_file_spec.specs.LogRecords.{LogRecord}
use Rattle.script_cli_vault.specs.ArchiveOnDisk.{RepresentsPast, Archive, standing_of, below}
use Rattle.script_cli_vault.specs.ArchiveOnDisk.{place_of, limit_of, is_broken}
use Rattle.script_cli_statement.specs.declared.reply_kind.ReplyKind.{ReplyKind}
use Rattle.script_cli_statement.specs.declared.stop_reason.StopReason.{StopReason}
use Rattle.script_cli_statement.specs.declared.stop_reason.StopReason.TheVariants.{WriteFault}
use Rattle.script_cli_statement.specs.declared.stop_reason.StopReason.TheVariants.{DiskFault}
use Rattle.script_cli_statement.specs.declared.stop_reason.StopReason.TheVariants.{NoMemory}
use Rattle.script_cli_statement.specs.Puts.{put_for}
use Rattle.script_cli_statement.specs.Due.{Due, AreRecordsOf}
use Rattle.script_cli_statement.specs.Given.{Given}
use Rattle.script_cli_statement.specs.Replies.{Recorded, Reply}
use Rattle.script_cli_statement.specs.Putting.{HasPut, MayHavePut}

-- what is put of the reply
abbrev pub put_of : Reply → ReplyKind
put_of reply = put_for reply.is_error reply.puts

-- The whole reply was put, or a prefix of it where the sink failed, and nothing where memory ran
-- out; no disk is called.
abbrev pub Says : Reply → Result ReplyKind StopReason → Option (List ℕ) → Option (List ℕ) → Type 0
Says reply (Ok put) old new = (put ≡ put_of reply) × Appends old new reply.text
Says reply (Err WriteFault) old new = AppendsPrefix old new reply.text
Says reply (Err DiskFault) old new = ⊥
Says reply (Err NoMemory) old new = new ≡ old

module _ {D : Type 0} {g : Ghosts D} where
  -- no call on it has answered that the disk failed
  abbrev pub TakesRecords : Archive D g → Type 0
  TakesRecords archive = is_broken archive ≡ false

  -- the archive represents this past, the next record is put at this place, and the journal may
  -- have as many bytes as are given
  pub record RepresentsAt (archive : Archive D g) (given : Given) (now : Recorded) : Type 0 where
    pub past : RepresentsPast (standing_of archive) now.past
    pub place : place_of archive ≡ now.at
    pub limit_is : limit_of archive ≡ given.limit

  -- records of all that is due were put between two moments of an archive
  abbrev pub PutBetween : Archive D g → Archive D g → List Due → Type 0
  PutBetween old new due = (log : List LogRecord) × AreRecordsOf due log
      × HasPut (below old) (below new) (place_of old) (place_of new) log

  -- A run stopped in this reply. Where the sink failed, what the statement puts had been put; where
  -- the disk failed, nothing of the reply was written, and its record was put or not; where memory
  -- ran out, nothing of the reply was written and nothing was put.
  abbrev pub StopsIn : StopReason → Reply → Archive D g → Archive D g → Option (List ℕ)
      → Option (List ℕ)
      → Type 0
  StopsIn WriteFault reply a b old new = AppendsPrefix old new reply.text
      × PutBetween a b reply.puts
  StopsIn DiskFault reply a b old new = (new ≡ old)
      × MayHavePut (below a) (below b) (place_of a) reply.puts
  StopsIn NoMemory reply a b old new = (new ≡ old) × PutBetween a b []

  -- the whole reply was written, what it puts was put, and the archive represents what is after it
  pub record Replied (limit : Given) (reply : Reply) (put : ReplyKind) (a b : Archive D g)
      (written_old written_new : Option (List ℕ)) : Type 0 where
    pub is : put ≡ put_of reply
    pub represents : RepresentsAt b limit reply.after
    pub puts : PutBetween a b reply.puts
    pub text : Appends written_old written_new reply.text

  -- it was, or the run stopped in it
  abbrev pub Responds : Given → Reply → Result ReplyKind StopReason → Archive D g → Archive D g
      → Option (List ℕ) → Option (List ℕ) → Type 0
  Responds limit reply result a b old new = MatchResult result
      (λ put. Replied limit reply put a b old new) (λ reason. StopsIn reason reply a b old new)
