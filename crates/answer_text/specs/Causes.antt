-- Why a reply was not put whole.
use Rattle.std.specs.Prelude.{◌≡◌, ◌≤◌, ℕ, Result, Err, OnOk}
use Rattle.prima_io.specs.Causes.{Rose}
use Rattle.answer_text.specs.declared.stop.PutStop.{PutStop}
use Rattle.answer_text.specs.declared.stop.PutStop.TheVariants.{WriteFault, NoMemory}

-- the sink's count has not fallen; a stop by the sink has raised it, and all else has left it as it
-- was
pub record HasStopCause {T : Type 0} (before now : ℕ) (result : Result T PutStop) : Type 0 where
  pub later : before ≤ now
  pub kept : OnOk result (now ≡ before)
  pub memory : result ≡ Err NoMemory → now ≡ before
  pub failed : result ≡ Err WriteFault → Rose before now
