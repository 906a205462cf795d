-- What is so of a query whose counts are within their limits.
use Rattle.std.specs.Prelude.{◌≡◌, ◌≤◌, List, [], ◌∷◌, None, length, ⊤}
use Rattle.prima_base.specs.Limits.{max_nodes, max_branch_tables, max_outputs}
use Rattle.schema_catalog.specs.Tables.{Tables}
use Rattle.cond_expr.specs.Faults.{first_unknown}
use Rattle.temporal_lang_spec.specs.Atoms.{atom_kinds}
use Rattle.temporal_lang_spec.specs.Checking.{branch_references}
use Rattle.cond_expr.specs.Trees.{Tree}
use Rattle.cond_expr.specs.Sizes.{nodes_of, test_nodes}
use Rattle.plain_answers_spec.specs.Branches.{PlainBranch}

-- no branch has more items than a branch may have
abbrev pub HaveFew : List PlainBranch → Type 0
HaveFew [] = ⊤
HaveFew (b ∷ branches) = (length b.from ≤ max_branch_tables) × HaveFew branches

-- no tree has more nodes than a tree may have
abbrev pub AreSmall : List Tree → Type 0
AreSmall [] = ⊤
AreSmall (t ∷ ts) = (nodes_of t ≤ max_nodes) × AreSmall ts

-- no more outputs, and no more nodes of a tree or of the condition, than there may be
pub record IsSmall (b : PlainBranch) : Type 0 where
  pub few : length b.outs ≤ max_outputs
  pub outs : AreSmall b.outs
  pub cond : test_nodes b.cond ≤ max_nodes

abbrev pub AllSmall : List PlainBranch → Type 0
AllSmall [] = ⊤
AllSmall (b ∷ branches) = IsSmall b × AllSmall branches

-- each reference is to a column of its branch's atoms
abbrev pub AllKnown : Tables → List PlainBranch → Type 0
AllKnown tables [] = ⊤
AllKnown tables (b ∷ branches) = (first_unknown (atom_kinds tables b.from) (branch_references b)
    ≡ None) × AllKnown tables branches
