use Rattle.std.proofs.Common.{◌≡◌, ◌+◌, ◌≤◌, ℕ, true, take, drop}
use Rattle.relations_spec.specs.Sets.{In}
use Rattle.relations_spec.specs.Spans.{covers}
use Rattle.prima_base.specs.Timed.{rows_at}
use Rattle.smo_ops_spec.specs.Past.{Past, tables_of}
use Rattle.smo_ops_versions_spec.specs.Migration.{migrated}
use Rattle.version_groups.specs.Groups.{versions_in}
use Rattle.version_groups.specs.Representation.{Represents}
use Rattle.plain_answers_spec.specs.Branches.{plain}
use Rattle.piece_ir_spec.specs.Books.{book_of}
use Rattle.piece_ir.specs.ExplainedPieces.{PlainExplained}
use Rattle.temporal_lang_types.specs.Branches.{branches_of}
use Rattle.query_exec.specs.Accepted.{MayBranches}
use Rattle.query_exec.specs.QueryPieces.{branches_pieces, alive_of}
use Rattle.query_exec.specs.Borrowed.{BorrowedByBranch, AlwaysBorrowedBy, AllSpare}
use Rattle.query_exec.specs.Reads.{reads_of}
use Rattle.query_exec.proofs.AliveLaws.{Owes, IsLeftOrRead}
use Rattle.query_exec.proofs.branch.answer_branches.Given as goal

abbrev pub invariant-loop-branch : goal.invariant-loop-branch
invariant-loop-branch g l = record {
  may : MayBranches (versions_in l.groups) l.route (branches_of (drop l.branch-index l.branches));
  rows : (past : Past) → Represents l.groups past → (m : ℕ) → covers l.route.slice m ≡ true
      → rows_at l.rows.items m ≡ plain (tables_of past l.route.asked)
      (branches_of (take l.branch-index l.branches)) (migrated past m l.route.asked);
  borrowed : (past : Past) → Represents l.groups past → (number : ℕ)
      → (by_branch : BorrowedByBranch) → AllSpare l.groups by_branch
      (branches_pieces (book_of g.R.Rule.handles g.R.Rule.answers l.book.rules.items)
      (versions_in l.groups) l.route.asked l.route.parts.items number (branches_of l.branches))
      → AlwaysBorrowedBy past l.route.asked by_branch number (branches_of l.branches) l.rows.items
      × AllSpare l.groups by_branch
      (branches_pieces (book_of g.R.Rule.handles g.R.Rule.answers l.book.rules.items)
      (versions_in l.groups) l.route.asked l.route.parts.items (number + l.branch-index)
      (branches_of (drop l.branch-index l.branches)));
  count : (number : ℕ) → Owes l.groups (branches_pieces
      (book_of g.R.Rule.handles g.R.Rule.answers l.book.rules.items)
      (versions_in l.groups) l.route.asked l.route.parts.items (number + l.branch-index)
      (branches_of (drop l.branch-index l.branches))) l.steps
      (l.initial.steps + reads_of l.groups (alive_of (branches_pieces
      (book_of g.R.Rule.handles g.R.Rule.answers l.book.rules.items)
      (versions_in l.groups) l.route.asked l.route.parts.items number (branches_of l.branches))));
  least : (number : ℕ) → (e : PlainExplained) → In e (alive_of (branches_pieces
      (book_of g.R.Rule.handles g.R.Rule.answers l.book.rules.items)
      (versions_in l.groups) l.route.asked l.route.parts.items number (branches_of l.branches)))
      → IsLeftOrRead l.groups
      (branches_pieces (book_of g.R.Rule.handles g.R.Rule.answers l.book.rules.items)
      (versions_in l.groups) l.route.asked l.route.parts.items (number + l.branch-index)
      (branches_of (drop l.branch-index l.branches))) l.initial.steps l.steps e;
  rises : l.initial.steps ≤ l.steps;
}
