use Rattle.std.proofs.Common.{◌≡◌, ◌≤◌, ◌-◌}
use Rattle.std.specs.Prelude.{filter}
use Rattle.script_cli_sample.specs.Statements.{numbers, is_hot}
use Rattle.script_cli_sample.proofs.place.next_hot.Given as goal

abbrev pub invariant-cold : goal.invariant-cold
invariant-cold l = (l.i ≤ l.size) × (filter is_hot (numbers l.fn.i l.size)
    ≡ filter is_hot (numbers l.i l.size))

abbrev pub decreases-cold : goal.decreases-cold
decreases-cold l = l.size - l.i
