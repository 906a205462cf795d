use Rattle.std.proofs.Common.{◌≡◌, take}
use Rattle.prima_base.specs.Columns.{names_of}
use Rattle.smo_maps.proofs.name.names_of.Given as goal

abbrev pub invariant-loop-name : goal.invariant-loop-name
invariant-loop-name l = l.names.items ≡ names_of (take l.name-index l.columns)
