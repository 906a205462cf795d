use Rattle.std.proofs.Common.{◌≡◌, take, drop}
use Rattle.smo_ops_spec.specs.First.{first_refusal}
use Rattle.temporal_lang_types.specs.Branches.{aliases_of}
use Rattle.temporal_lang_spec.specs.Checking.{item_tests, items_after}
use Rattle.temporal_lang.proofs.item.check_items.Given as goal

abbrev pub invariant-loop-i : goal.invariant-loop-i
invariant-loop-i l = first_refusal (item_tests l.schema l.from)
    ≡ first_refusal (items_after l.schema (aliases_of (take l.i l.from)) (drop l.i l.from))
