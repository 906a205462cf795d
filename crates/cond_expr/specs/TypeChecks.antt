-- What the checks of a tree answer: its type, or its first fault.
use Rattle.std.specs.Prelude.{◌≡◌, true, Some, None, IsSome, Result, Ok, Err}
use Rattle.prima_base.specs.declared.value.ColType.{ColType}
use Rattle.cond_expr.specs.Trees.{Tree, Test}
use Rattle.cond_expr.specs.Kinds.{Kinds, kind_of, is_typed}
use Rattle.cond_expr.specs.Faults.{references, test_references, first_unknown, untyped}
use Rattle.cond_expr.specs.Faults.{test_untyped, first_of}
use Rattle.cond_expr.specs.declared.fault.TypeFault.{TypeFault}
use Rattle.cond_expr.specs.declared.fault.TypeFault.TheVariants.{NoColumn, WrongType}
use Rattle.cond_expr.specs.declared.fault.TypeFault.TheVariants.{NoMemory}

-- what the check of an expression answers
abbrev pub Checked : Kinds → Tree → Result ColType TypeFault → Type 0
Checked of t (Ok k) = kind_of of t ≡ Some k
Checked of t (Err (NoColumn n)) = first_unknown of (references t) ≡ Some n
Checked of t (Err (WrongType p)) = (first_unknown of (references t) ≡ None)
    × (first_of (untyped of 0 t) ≡ Some p)
Checked of t (Err NoMemory) = IsSome (first_unknown of (references t))

-- what the check of a condition answers
abbrev pub TestChecked : Kinds → Test → Result (Unit {0}) TypeFault → Type 0
TestChecked of c (Ok u) = is_typed of c ≡ true
TestChecked of c (Err (NoColumn n)) = first_unknown of (test_references c) ≡ Some n
TestChecked of c (Err (WrongType p)) = (first_unknown of (test_references c) ≡ None)
    × (first_of (test_untyped of 0 c) ≡ Some p)
TestChecked of c (Err NoMemory) = IsSome (first_unknown of (test_references c))
