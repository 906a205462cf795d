-- References: the atom that one is to, their names, and those that are borrowed from trees.
use Rattle.std.specs.Prelude.{ℕ, ◌==◌, Bool, false, List, map}
use Rattle.std.specs.Borrow.{Bor}
use Rattle.cond_expr.specs.declared.expr.ColRef.{ColRef}
use Rattle.cond_expr.specs.declared.expr.Whose.{Whose}
use Rattle.cond_expr.specs.declared.expr.Whose.TheVariants.{Free, Alias, Atom}

-- it is to this atom
abbrev pub is_atom : ℕ → Whose → Bool
is_atom i Free = false
is_atom i (Alias a) = false
is_atom i (Atom j) = i == j

abbrev pub is_to : ℕ → ColRef → Bool
is_to i r = is_atom i r.whose

-- the name of each reference
abbrev pub written_names : List ColRef → List (List ℕ)
written_names references = map (λ (r : ColRef). r.name) references

-- the references that are borrowed
abbrev pub borrowed : List (Bor ColRef) → List ColRef
borrowed references = map (λ (r : Bor ColRef). r.now) references
