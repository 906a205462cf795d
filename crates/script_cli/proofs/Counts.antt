-- Counts of faults after calls that left them as they were.
use Rattle.std.proofs.Common.{◌≡◌, ◌≤◌, ◌∙◌, ℕ, List, subst}
use Rattle.std.specs.Prelude.{Option, Err}
use Rattle.prima_io.specs.Causes.{Rose}
use Rattle.script_cli_statement.specs.declared.stop_reason.StopReason.{StopReason}
use Rattle.script_cli_statement.specs.declared.stop_reason.StopReason.TheVariants as reason
use Rattle.script_cli.specs.declared.status.Status.{Status}
use Rattle.script_cli.specs.declared.status.Status.TheVariants as status
use Rattle.script_cli.specs.declared.script_run.ScriptRun.{ScriptRun}
use Rattle.script_cli_statement.specs.StopReasons.{StopCounted}
use Rattle.script_cli.specs.Driving.{Ends, status_of}
use Rattle.script_cli.specs.Runs.{SourceCounted, SinkCounted, DiskCounted}

-- a fault
pub rose_after : (before between now : ℕ) → between ≡ before → between ≤ now → Rose between now
    → (before ≤ now) × Rose before now
rose_after before between now same later rose =
    (subst (λ n. n ≤ now) same later, subst (λ n. Rose n now) same rose)

-- a stop
pub stop_after : (T U : Type 0) → (h : StopReason) → (s t u d e f : ℕ) → t ≡ s → e ≡ d
    → StopCounted {T = T} (Err h) t u e f → StopCounted {T = U} (Err h) s u d f
stop_after T U reason.WriteFault s t u d e f sink disk h =
    (rose_after s t u sink h.0.0 h.0.1, h.1 ∙ disk)
stop_after T U reason.DiskFault s t u d e f sink disk h =
    (h.0 ∙ sink, rose_after d e f disk h.1.0 h.1.1)
stop_after T U reason.NoMemory s t u d e f sink disk h = (h.0 ∙ sink, h.1 ∙ disk)

-- the counts of a run that stopped
pub sink_stopped : (T : Type 0) → (h : StopReason) → (s t u d e f : ℕ) → t ≡ s
    → StopCounted {T = T} (Err h) t u e f → SinkCounted (status_of h) s u
sink_stopped T reason.WriteFault s t u d e f sink h = rose_after s t u sink h.0.0 h.0.1
sink_stopped T reason.DiskFault s t u d e f sink h = h.0 ∙ sink
sink_stopped T reason.NoMemory s t u d e f sink h = h.0 ∙ sink

pub disk_stopped : (T : Type 0) → (h : StopReason) → (s t u d e f : ℕ) → e ≡ d
    → StopCounted {T = T} (Err h) t u e f → DiskCounted (status_of h) d f
disk_stopped T reason.WriteFault s t u d e f disk h = h.1 ∙ disk
disk_stopped T reason.DiskFault s t u d e f disk h = rose_after d e f disk h.1.0 h.1.1
disk_stopped T reason.NoMemory s t u d e f disk h = h.1 ∙ disk

pub source_stopped : (h : StopReason) (before now : ℕ) → now ≡ before
    → SourceCounted (status_of h) before now
source_stopped reason.WriteFault before now same = same
source_stopped reason.DiskFault before now same = same
source_stopped reason.NoMemory before now same = same

-- a run that came to the script's end has no fault of its source, and none of its disk
pub source_at_end : (ended : Status) (run : ScriptRun) (u v : Option (List ℕ)) (before now : ℕ)
    → Ends ended run u v → now ≡ before → SourceCounted ended before now
source_at_end status.Done run u v before now h same = same
source_at_end status.Refused run u v before now h same = same
source_at_end status.WriteFault run u v before now h same = same
source_at_end status.Words run u v before now h same = absurd h
source_at_end status.ReadFault run u v before now h same = absurd h
source_at_end status.DiskFault run u v before now h same = absurd h
source_at_end (status.NotAJournal place) run u v before now h same = absurd h
source_at_end status.NoMemory run u v before now h same = absurd h
source_at_end status.InputLimit run u v before now h same = absurd h

pub disk_at_end : (ended : Status) (run : ScriptRun) (u v : Option (List ℕ)) (before now : ℕ)
    → Ends ended run u v → now ≡ before → DiskCounted ended before now
disk_at_end status.Done run u v before now h same = same
disk_at_end status.Refused run u v before now h same = same
disk_at_end status.WriteFault run u v before now h same = same
disk_at_end status.Words run u v before now h same = absurd h
disk_at_end status.ReadFault run u v before now h same = absurd h
disk_at_end status.DiskFault run u v before now h same = absurd h
disk_at_end (status.NotAJournal place) run u v before now h same = absurd h
disk_at_end status.NoMemory run u v before now h same = absurd h
disk_at_end status.InputLimit run u v before now h same = absurd h

pub sink_after : (ended : Status) (before between now : ℕ) → between ≡ before
    → SinkCounted ended between now → SinkCounted ended before now
sink_after ended before between now same h = subst (λ n. SinkCounted ended n now) same h
