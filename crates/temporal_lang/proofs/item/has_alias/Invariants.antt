use Rattle.std.proofs.Common.{◌≡◌, drop}
use Rattle.smo_ops_spec.specs.Preconditions.{among}
use Rattle.temporal_lang_types.specs.Branches.{aliases_of}
use Rattle.temporal_lang.proofs.item.has_alias.Given as goal

abbrev pub invariant-loop-other : goal.invariant-loop-other
invariant-loop-other l = among l.alias (aliases_of l.from)
    ≡ among l.alias (aliases_of (drop l.other-index l.from))
