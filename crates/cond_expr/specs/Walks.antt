-- What a walk over the nodes of a tree has found: the types of what was walked and the number of
-- the next node, or the number of the first node that has no type.
use Rattle.std.specs.Prelude.{◌≡◌, ℕ, ◌+◌, [], true, false, Some, None, Result, Ok, Err}
use Rattle.cond_expr.specs.declared.expr_type.Typed.{Typed}
use Rattle.cond_expr.specs.declared.expr_type.Parts.{Parts}
use Rattle.cond_expr.specs.Trees.{Tree, Trees, Test, Tests}
use Rattle.cond_expr.specs.Sizes.{nodes_of, trees_nodes, test_nodes, tests_nodes}
use Rattle.cond_expr.specs.Kinds.{Kinds, kind_of, all_text, is_typed, all_typed}
use Rattle.cond_expr.specs.Faults.{untyped, trees_untyped, test_untyped, tests_untyped, first_of}

abbrev pub Walked : Kinds → ℕ → Tree → Result Typed ℕ → Type 0
Walked of at t (Ok r) = record {
  kind : kind_of of t ≡ Some r.kind;
  next : r.next ≡ at + nodes_of t;
  none : untyped of at t ≡ [];
}
Walked of at t (Err p) = record {
  kind : kind_of of t ≡ None;
  first : first_of (untyped of at t) ≡ Some p;
}

abbrev pub TreesWalked : Kinds → ℕ → Trees → Result Parts ℕ → Type 0
TreesWalked of at ts (Ok r) = record {
  kind : all_text of ts ≡ r.texts;
  next : r.next ≡ at + trees_nodes ts;
  none : trees_untyped of at ts ≡ [];
}
TreesWalked of at ts (Err p) = record {
  kind : all_text of ts ≡ false;
  first : first_of (trees_untyped of at ts) ≡ Some p;
}

abbrev pub TestWalked : Kinds → ℕ → Test → Result ℕ ℕ → Type 0
TestWalked of at c (Ok next) = record {
  kind : is_typed of c ≡ true;
  next : next ≡ at + test_nodes c;
  none : test_untyped of at c ≡ [];
}
TestWalked of at c (Err p) = record {
  kind : is_typed of c ≡ false;
  first : first_of (test_untyped of at c) ≡ Some p;
}

abbrev pub TestsWalked : Kinds → ℕ → Tests → Result ℕ ℕ → Type 0
TestsWalked of at cs (Ok next) = record {
  kind : all_typed of cs ≡ true;
  next : next ≡ at + tests_nodes cs;
  none : tests_untyped of at cs ≡ [];
}
TestsWalked of at cs (Err p) = record {
  kind : all_typed of cs ≡ false;
  first : first_of (tests_untyped of at cs) ≡ Some p;
}
