use Rattle.std.proofs.Common.{◌≡◌, map, drop}
use Rattle.smo_ops_spec.specs.First.{first_refusal}
use Rattle.temporal_lang_spec.specs.Atoms.{sources_of}
use Rattle.temporal_lang_spec.specs.Checking.{reference_test}
use Rattle.cond_expr.specs.References.{borrowed}
use Rattle.temporal_lang.proofs.name.check_references.Given as goal

abbrev pub invariant-loop-reference : goal.invariant-loop-reference
invariant-loop-reference l = first_refusal (map (reference_test (sources_of l.schema l.from))
    (borrowed l.references)) ≡ first_refusal (map (reference_test (sources_of l.schema l.from))
    (borrowed (drop l.reference-index l.references)))
