-- Why a run stops before the end of its script, and the counts of faults then.
use Rattle.std.specs.Prelude.{◌≡◌, ◌≤◌, ℕ, Result, Ok, Err}
use Rattle.prima_io.specs.Causes.{Rose}
use Rattle.prima_base.specs.declared.failure.Failed.{Failed}
use Rattle.script_cli_statement.specs.declared.reply_kind.ReplyKind.{ReplyKind}
use Rattle.script_cli_statement.specs.declared.stop_reason.StopReason.{StopReason}
use Rattle.script_cli_statement.specs.declared.stop_reason.StopReason.TheVariants.{WriteFault}
use Rattle.script_cli_statement.specs.declared.stop_reason.StopReason.TheVariants.{DiskFault}
use Rattle.script_cli_statement.specs.declared.stop_reason.StopReason.TheVariants.{NoMemory}

-- a reply that was not put whole since the sink failed
abbrev pub or_write_fault : Result ReplyKind Failed → Result ReplyKind StopReason
or_write_fault (Ok put) = Ok put
or_write_fault (Err failed) = Err WriteFault

-- the sink's count of faults rose where the sink stopped the run, the disk's where the disk did;
-- and else each is as it was
abbrev pub StopCounted : {T : Type 0} → Result T StopReason → ℕ → ℕ → ℕ → ℕ → Type 0
StopCounted (Ok x) sink_old sink_new disk_old disk_new = (sink_new ≡ sink_old)
    × (disk_new ≡ disk_old)
StopCounted (Err WriteFault) sink_old sink_new disk_old disk_new =
    ((sink_old ≤ sink_new) × Rose sink_old sink_new) × (disk_new ≡ disk_old)
StopCounted (Err DiskFault) sink_old sink_new disk_old disk_new = (sink_new ≡ sink_old)
    × ((disk_old ≤ disk_new) × Rose disk_old disk_new)
StopCounted (Err NoMemory) sink_old sink_new disk_old disk_new = (sink_new ≡ sink_old)
    × (disk_new ≡ disk_old)

-- the same of what calls no disk
abbrev pub SaidCounted : {T : Type 0} → Result T StopReason → ℕ → ℕ → Type 0
SaidCounted (Ok x) old new = new ≡ old
SaidCounted (Err WriteFault) old new = (old ≤ new) × Rose old new
SaidCounted (Err DiskFault) old new = ⊥
SaidCounted (Err NoMemory) old new = new ≡ old
