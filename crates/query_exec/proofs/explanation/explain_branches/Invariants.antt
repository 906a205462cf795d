use Rattle.std.proofs.Common.{◌≡◌, take, drop}
use Rattle.version_groups.specs.Groups.{versions_in}
use Rattle.piece_ir_spec.specs.Books.{book_of}
use Rattle.piece_ir.specs.ExplainedPieces.{all_explained}
use Rattle.temporal_lang_types.specs.Branches.{branches_of}
use Rattle.query_exec.specs.Accepted.{MayBranches}
use Rattle.query_exec.specs.QueryPieces.{branches_pieces, AreLeft}
use Rattle.query_exec.proofs.explanation.explain_branches.Given as goal

abbrev pub invariant-loop-branch : goal.invariant-loop-branch
invariant-loop-branch g l = record {
  number : l.number ≡ l.branch-index;
  may : MayBranches (versions_in l.groups) l.route (branches_of (drop l.branch-index l.branches));
  alive : AreLeft (versions_in l.groups) (branches_pieces
      (book_of g.R.Rule.handles g.R.Rule.answers l.book.rules.items)
      (versions_in l.groups) l.route.asked l.route.parts.items 1
      (branches_of (take l.branch-index l.branches))) (all_explained l.pieces.items);
}
