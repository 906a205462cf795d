-- What the run of a script makes of the bytes that it takes: the statements that end in them are
-- answered.
use Rattle.std.specs.Prelude.{◌≡◌, ℕ, ◌+◌, List, [], ◌∷◌, ◌++◌, length, ◌||◌, Option}
use Rattle.std.specs.Io.KnownBytes.{Appends}
use Rattle.disk_model.specs.declared.disk.Disk.{Ghosts}
use Rattle.sessions.specs.Meaning.{sessions_of}
use Rattle.script_parse.specs.Script.{StatementPart, parts_from, tail_from, ending}
use Rattle.script_parse.specs.declared.splitter.Tail.{Tail}
use Rattle.script_cli_statement.specs.ArchiveOnDisk.{Archive}
use Rattle.script_cli.specs.declared.script_run.ScriptRun.{ScriptRun}
use Rattle.script_cli_statement.specs.declared.stop_reason.StopReason.{StopReason}
use Rattle.script_cli_statement.specs.Due.{commands_due}
use Rattle.script_cli_statement.specs.Given.{Given}
use Rattle.script_cli_statement.specs.Replies.{Recorded, Reply, answered}
use Rattle.script_cli_statement.specs.Responses.{RepresentsAt, PutBetween, StopsIn}
use Rattle.script_cli.specs.Output.{part_reply, replies, all_puts, recorded_after, any_error}

-- the statements that bytes bring, after what the run has of its current one
abbrev pub parts_after : ScriptRun → List ℕ → List StatementPart
parts_after script_run bytes = parts_from script_run.splitter.mode script_run.splitter.kept bytes

-- and what they leave after the last `;`
abbrev pub ending_after : ScriptRun → List ℕ → Tail
ending_after script_run bytes = ending (tail_from script_run.splitter.mode script_run.splitter.kept
    bytes)

-- the reply that is due next: that to the first of these statements, or nothing where there is none
abbrev pub next_reply : Given → Recorded → List StatementPart → Reply
next_reply limit now [] = answered [] now
next_reply limit now (p ∷ parts) = part_reply limit now p

module _ {D : Type 0} {g : Ghosts D} where
  -- the archive and the run's sessions are those that stand
  pub record RepresentsRun (a : Archive D g) (script_run : ScriptRun) (limit : Given)
      (now : Recorded) : Type 0 where
    pub archive : RepresentsAt a limit now
    pub sessions : sessions_of script_run.sessions ≡ now.sessions

  -- one more statement ended
  pub record Answered (limit : Given) (reply : Reply) (old new : ScriptRun) (a b : Archive D g)
      (written_old written_new : Option (List ℕ)) : Type 0 where
    pub splitter : new.splitter ≡ old.splitter
    pub represents : RepresentsRun b new limit reply.after
    pub refused : new.refused ≡ (old.refused || reply.is_error)
    pub puts : PutBetween a b reply.puts
    pub counted : new.puts ≡ old.puts + length (commands_due reply.puts)
    pub wrote : Appends written_old written_new reply.text

  -- the bytes were taken up to the rest, and the statements that ended in them were answered
  pub record Fed (limit : Given) (now : Recorded) (old new : ScriptRun) (a b : Archive D g)
      (bytes rest : List ℕ) (written_old written_new : Option (List ℕ)) : Type 0 where
    pub parts : List StatementPart
    pub cut : (more : List ℕ) → parts_after old (bytes ++ more) ≡ parts
        ++ parts_after new (rest ++ more)
    pub end : (more : List ℕ) → ending_after old (bytes ++ more) ≡ ending_after new (rest ++ more)
    pub represents : RepresentsRun b new limit (recorded_after limit now parts)
    pub refused : new.refused ≡ (old.refused || any_error limit now parts)
    pub puts : PutBetween a b (all_puts limit now parts)
    pub counted : new.puts ≡ old.puts + length (commands_due (all_puts limit now parts))
    pub wrote : Appends written_old written_new (replies limit now parts)

  -- some of these statements were answered whole, and the run stopped in the reply to the next, or
  -- before any other was whole
  pub record Stopped (reason : StopReason) (limit : Given) (now : Recorded)
      (parts : List StatementPart)
      (a b : Archive D g) (written_old written_new : Option (List ℕ)) : Type 0 where
    pub whole : List StatementPart
    pub rest : List StatementPart
    pub are : parts ≡ whole ++ rest
    pub mid : Archive D g
    pub between : Option (List ℕ)
    pub wrote : Appends written_old between (replies limit now whole)
    pub puts : PutBetween a mid (all_puts limit now whole)
    pub stops : StopsIn reason (next_reply limit (recorded_after limit now whole) rest) mid b
        between
        written_new
