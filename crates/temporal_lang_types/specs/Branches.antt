-- The plain branch that a branch of a query is, and what is so of each query.
use Rattle.std.specs.Prelude.{◌≡◌, ℕ, ◌≤◌, ◌&&◌, Bool, true, List, [], ◌∷◌, map, length, nat_le}
use Rattle.std.specs.Prelude.{nat_lt}
use Rattle.std.specs.List.{list_all}
use Rattle.relations_spec.specs.Spans.{forever}
use Rattle.prima_base.specs.declared.keep.Keep.{Keep}
use Rattle.prima_base.specs.declared.keep.Keep.TheVariants.{Starting, Ending, Lasting, Covering}
use Rattle.prima_base.specs.declared.keep.Keep.TheVariants.{Overlapping}
use Rattle.cond_expr.specs.Seen.{tree, test}
use Rattle.plain_answers_spec.specs.Branches.{Item, PlainBranch, a_branch}
use Rattle.temporal_lang_types.specs.declared.branch.Branch.{Branch}
use Rattle.temporal_lang_types.specs.declared.when.When.{When}
use Rattle.temporal_lang_types.specs.declared.when.When.TheVariants.{Always, AsOf, During}

-- the aliases of the items of a FROM
abbrev pub aliases_of : List Item → List (List ℕ)
aliases_of [] = []
aliases_of (i ∷ from) = i.1 ∷ aliases_of from

abbrev pub branch_of : Branch → PlainBranch
branch_of b = a_branch (map tree b.outs.items) b.from.items (test b.cond)

abbrev pub branches_of : List Branch → List PlainBranch
branches_of branches = map branch_of branches

-- each branch has an output and an item
abbrev pub has_parts : PlainBranch → Bool
has_parts b = nat_le 1 (length b.outs) && nat_le 1 (length b.from)

abbrev pub have_parts : List PlainBranch → Bool
have_parts branches = list_all has_parts branches

-- the end of time is a second bound alone
abbrev pub is_when : When → Bool
is_when Always = true
is_when (AsOf m) = nat_lt m forever
is_when (During a b) = nat_lt a forever

abbrev pub is_keep : Keep → Bool
is_keep (Starting a b) = nat_lt a forever
is_keep (Ending a b) = nat_lt a forever
is_keep (Lasting a b) = nat_lt a forever
is_keep (Covering m) = nat_lt m forever
is_keep (Overlapping a b) = nat_lt a forever

abbrev pub are_keeps : List Keep → Bool
are_keeps keep = list_all is_keep keep

-- what each query keeps
pub record IsQuery (branches : List PlainBranch) (when : When) (keep : List Keep) : Type 0 where
  pub some : 1 ≤ length branches
  pub parts : have_parts branches ≡ true
  pub moments : is_when when ≡ true
  pub bounds : are_keeps keep ≡ true
