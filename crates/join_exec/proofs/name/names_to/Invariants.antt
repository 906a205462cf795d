use Rattle.std.proofs.Common.{◌≡◌, take}
use Rattle.std.specs.List.{filter}
use Rattle.plain_answers_spec.specs.Naming.{is_to, written_names}
use Rattle.cond_expr.specs.References.{borrowed}
use Rattle.join_exec.proofs.name.names_to.Given as goal

abbrev pub invariant-loop-reference : goal.invariant-loop-reference
invariant-loop-reference l = l.names.items ≡ written_names
    (filter (is_to l.atom) (borrowed (take l.reference-index l.references)))
