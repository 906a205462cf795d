-- The number of a status.
use Rattle.std.specs.Prelude.{ℕ}
use Rattle.script_cli.specs.declared.status.Status.{Status}
use Rattle.script_cli.specs.declared.status.Status.TheVariants.{Done, Refused, Words, ReadFault}
use Rattle.script_cli.specs.declared.status.Status.TheVariants.{WriteFault, DiskFault, NotAJournal}
use Rattle.script_cli.specs.declared.status.Status.TheVariants.{NoMemory, InputLimit}

abbrev pub code_of : Status → ℕ
code_of Done = 0
code_of Refused = 1
code_of Words = 2
code_of ReadFault = 3
code_of WriteFault = 4
code_of DiskFault = 5
code_of (NotAJournal place) = 6
code_of NoMemory = 7
code_of InputLimit = 8
