-- The condition that is pushed to an item of a branch, and what is read of the item then.
use Rattle.std.specs.Prelude.{ℕ, ◌+◌, ◌==◌, ◌&&◌, Bool, true, false, List, [], ◌∷◌, map}
use Rattle.std.specs.Prelude.{if◌then◌else◌}
use Rattle.std.specs.List.{filter, list_all}
use Rattle.cond_expr.specs.declared.expr.ColRef.{ColRef}
use Rattle.cond_expr.specs.declared.expr.Whose.TheVariants.{Atom}
use Rattle.cond_expr.specs.Trees.{Tree, column, Test, all_of, Filling, for_atoms, fill_test}
use Rattle.cond_expr.specs.Seen.{tests_of}
use Rattle.cond_expr.specs.Faults.{test_references}
use Rattle.cond_expr.specs.Parts.{parts}
use Rattle.plain_answers_spec.specs.Branches.{PlainBranch}
use Rattle.plain_answers_spec.specs.Naming.{is_to, all_references, names_at}
use Rattle.plain_answers_spec.specs.Reading.{Read}

-- there is one, and each is to this atom
abbrev pub are_own : ℕ → List ColRef → Bool
are_own i [] = false
are_own i (r ∷ rs) = list_all (is_to i) (r ∷ rs)

-- the top-level parts of a condition that name at least one column, and only columns of this atom
abbrev pub own_parts : ℕ → Test → List Test
own_parts i cond = filter (λ t. are_own i (test_references t)) (parts cond)

-- what is said of this atom, said of atom 0
abbrev pub as_first : ℕ → Filling
as_first i = for_atoms (λ j n. if j == i then column (Atom 0) n else column (Atom j) n)

-- their AND, said of atom 0: a condition over the item's own columns
abbrev pub pushed_cond : ℕ → Test → Test
pushed_cond i cond = all_of (tests_of (map (fill_test (as_first i)) (own_parts i cond)))

-- of each of so many atoms, the first of which has this number: the pushed condition, and the
-- columns that are named
abbrev pub pushed_from : {X : Type 0} → ℕ → List X → List Tree → Test → List Read
pushed_from i [] outs cond = []
pushed_from i (x ∷ from) outs cond = record {
  test = pushed_cond i cond;
  names =
      names_at i (all_references outs cond);
} ∷ pushed_from (i + 1) from outs cond

abbrev pub pushed_reads : PlainBranch → List Read
pushed_reads b = pushed_from 0 b.from b.outs b.cond
