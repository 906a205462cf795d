-- The columns that outputs and a condition name, atom by atom.
use Rattle.std.specs.Prelude.{ℕ, ◌+◌, ◌++◌, List, [], ◌∷◌}
use Rattle.std.specs.List.{filter, flat_map}
use Rattle.relations_spec.specs.Sets.{In, set_of}
use Rattle.prima_base.specs.Order.{bytes_cmp}
use Rattle.cond_expr.specs.declared.expr.ColRef.{ColRef}
use Rattle.cond_expr.specs.declared.expr.Whose.TheVariants.{Atom}
use Rattle.cond_expr.specs.Trees.{Tree, Test}
pub use Rattle.cond_expr.specs.References.{is_atom, is_to, written_names}
use Rattle.cond_expr.specs.Faults.{references, test_references}

-- the references of outputs, and then of a condition, in written order
abbrev pub all_references : List Tree → Test → List ColRef
all_references outs cond = flat_map references outs ++ test_references cond

-- the column of the atom with this name is named
abbrev pub IsNamed : ℕ → List ColRef → List ℕ → Type 0
IsNamed i references name = In (record { whose = Atom i; name = name }) references

-- the names, ascending, each once
abbrev pub names_in : List ColRef → List (List ℕ)
names_in references = set_of bytes_cmp (written_names references)

-- those of the references to one atom: the columns of it that are named
abbrev pub names_at : ℕ → List ColRef → List (List ℕ)
names_at i references = names_in (filter (is_to i) references)

-- those of each of so many atoms, the first of which has this number
abbrev pub names_from : {X : Type 0} → ℕ → List X → List ColRef → List (List (List ℕ))
names_from i [] references = []
names_from i (x ∷ atoms) references = names_at i references ∷ names_from (i + 1) atoms references
