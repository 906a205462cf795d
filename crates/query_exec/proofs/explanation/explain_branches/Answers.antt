use Rattle.std.proofs.Common.{◌≡◌, ◌<◌, ◌+◌, ◌++◌, ℕ, List, [], length, get_or, take, refl, sym, ap}
use Rattle.std.proofs.Common.{subst, ◌∙◌}
use Rattle.std.proofs.lemmas.List.{take_all}
use Rattle.version_groups.specs.Groups.{versions_in}
use Rattle.piece_ir_spec.specs.Books.{book_of}
use Rattle.piece_ir.specs.ExplainedPieces.{PlainExplained, all_explained}
use Rattle.piece_ir.specs.declared.explained.Explained.{Explained}
use Rattle.temporal_lang_types.specs.Branches.{branch_of, branches_of}
use Rattle.temporal_lang_types.specs.declared.branch.Branch.{Branch}
use Rattle.query_exec.specs.QueryPieces.{branch_pieces, branches_pieces, AreLeft}
use Rattle.query_exec.proofs.AliveLaws.{none_over}
use Rattle.query_exec.proofs.BranchRows.{branches_more, may_next_branch}
use Rattle.query_exec.proofs.explanation.explain_branches.Goals as goal

pub loop-branch-init : goal.loop-branch-init
loop-branch-init g c = record {
  number = refl;
  may = c.requires.read;
  alive = subst (λ (es : List Explained). AreLeft (versions_in c.args.groups.now) []
      (all_explained es)) (sym c.new-pieces.ensures.items)
      (none_over (versions_in c.args.groups.now));
}

pub explain_branch-requires-clause-read : goal.explain_branch-requires-clause-read
explain_branch-requires-clause-read g c =
    let bs : List Branch = c.args.branches.now in
    let i : ℕ = c.loop-branch.branch-index in
    let b : Branch = c.branch-item.result in
    let below : i < length bs = c.loop-branch-test.true in
    let is : b ≡ get_or bs i b = c.branch-item.is in
    (may_next_branch bs i b below is (versions_in c.args.groups.now) c.args.route.now
    c.loop-branch.invariant.may).0

pub loop-branch-preserved : goal.loop-branch-preserved
loop-branch-preserved g c =
    let bs : List Branch = c.args.branches.now in
    let i : ℕ = c.loop-branch.branch-index in
    let b : Branch = c.branch-item.result in
    let below : i < length bs = c.loop-branch-test.true in
    let is : b ≡ get_or bs i b = c.branch-item.is in
    let here : c.loop-branch.number + 1 ≡ i + 1 = ap (λ (j : ℕ). j + 1)
    c.loop-branch.invariant.number in
    let so : List PlainExplained = branches_pieces
    (book_of g.R.Rule.handles g.R.Rule.answers c.args.book.now.rules.items)
    (versions_in c.args.groups.now) c.args.route.now.asked c.args.route.now.parts.items 1
    (branches_of (take i bs)) in
    record {
      number = here;
      may = (may_next_branch bs i b below is (versions_in c.args.groups.now) c.args.route.now
          c.loop-branch.invariant.may).1;
      alive = subst (λ (es : List PlainExplained).
          AreLeft (versions_in c.args.groups.now) es
          (all_explained c.explain_branch.new.into.items))
          (ap (λ (n : ℕ). so ++ branch_pieces
          (book_of g.R.Rule.handles g.R.Rule.answers c.args.book.now.rules.items)
          (versions_in c.args.groups.now) c.args.route.now.asked
          c.args.route.now.parts.items n (branch_of b)) here
          ∙ sym (branches_more bs i b below is
          (book_of g.R.Rule.handles g.R.Rule.answers c.args.book.now.rules.items)
          (versions_in c.args.groups.now) c.args.route.now.asked
          c.args.route.now.parts.items))
          (c.in_ok-explain_branch.ensures so c.loop-branch.invariant.alive);
    }

pub returns : goal.returns
returns g c =
    subst (λ (bs : List Branch). AreLeft (versions_in c.args.groups.now)
    (branches_pieces (book_of g.R.Rule.handles g.R.Rule.answers c.args.book.now.rules.items)
    (versions_in c.args.groups.now) c.args.route.now.asked c.args.route.now.parts.items 1
    (branches_of bs)) (all_explained c.loop-branch.pieces.items))
    (take_all c.loop-branch.branch-index c.args.branches.now c.loop-branch-test.false)
    c.loop-branch.invariant.alive
