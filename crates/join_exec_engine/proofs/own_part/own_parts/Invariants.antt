use Rattle.join_exec_spec.specs.Keeping.{borrowed_tests, AreOwnParts}
use Rattle.join_exec_engine.proofs.own_part.own_parts.Given as goal

abbrev pub invariant-loop-part : goal.invariant-loop-part
invariant-loop-part l = AreOwnParts l.columns (borrowed_tests l.parts) (borrowed_tests l.own.items)
