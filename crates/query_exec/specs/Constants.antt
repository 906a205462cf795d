-- Queries that have no constants but valid values.
use Rattle.relations_spec.specs.Sets.{In}
use Rattle.cond_expr.specs.Trees.{Tree}
use Rattle.plain_answers_spec.specs.Branches.{PlainBranch}
use Rattle.piece_ir_spec.specs.Constants.{ValidInTree, ValidInTest}
use Rattle.temporal_lang_types.specs.Queries.{PlainQuery}

pub record ValidInBranch (b : PlainBranch) : Type 0 where
  pub outs : (t : Tree) → In t b.outs → ValidInTree t
  pub cond : ValidInTest b.cond

abbrev pub ValidInQuery : PlainQuery → Type 0
ValidInQuery query = (b : PlainBranch) → In b query.branches → ValidInBranch b
