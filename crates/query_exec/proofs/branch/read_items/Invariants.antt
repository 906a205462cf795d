use Rattle.std.proofs.Common.{◌≡◌, ◌+◌, ◌≤◌, ℕ, take, drop}
use Rattle.relations_spec.specs.Sets.{In}
use Rattle.cond_expr.specs.References.{borrowed}
use Rattle.cond_expr.specs.Seen.{test}
use Rattle.smo_ops_spec.specs.Past.{Past}
use Rattle.version_groups.specs.Groups.{versions_in}
use Rattle.version_groups.specs.Representation.{Represents}
use Rattle.piece_ir_spec.specs.Books.{book_of}
use Rattle.piece_ir.specs.ExplainedPieces.{PlainExplained}
use Rattle.query_exec.specs.Accepted.{MayItems, AreRead}
use Rattle.query_exec.specs.QueryPieces.{items_pieces, alive_of}
use Rattle.join_exec_engine.specs.Atoms.{AtomsBorrow}
use Rattle.query_exec.specs.Borrowed.{BorrowedByBranch, AllSpare}
use Rattle.query_exec.specs.Reads.{reads_of}
use Rattle.query_exec.proofs.AliveLaws.{Owes, IsLeftOrRead}
use Rattle.query_exec.proofs.branch.read_items.Given as goal

abbrev pub invariant-loop-item : goal.invariant-loop-item
invariant-loop-item g l = record {
  place : l.place ≡ l.item-index;
  may : MayItems (versions_in l.groups) l.route (borrowed l.references) (test l.cond) l.item-index
      (drop l.item-index l.from);
  read : (past : Past) → Represents l.groups past
      → AreRead past l.route (borrowed l.references) (test l.cond) 0 (take l.item-index l.from)
      l.atoms.items;
  all_borrowed : (branch : ℕ) → (by_branch : BorrowedByBranch) → AllSpare l.groups by_branch
      (items_pieces (book_of g.R.Rule.handles g.R.Rule.answers l.book.rules.items)
      (versions_in l.groups) l.route.asked l.route.parts.items (borrowed l.references) (test l.cond)
      branch 0 l.from)
      → AtomsBorrow (by_branch branch) l.atoms.items × AllSpare l.groups by_branch
      (items_pieces (book_of g.R.Rule.handles g.R.Rule.answers l.book.rules.items)
      (versions_in l.groups) l.route.asked l.route.parts.items (borrowed l.references)
      (test l.cond) branch l.item-index (drop l.item-index l.from));
  count : (branch : ℕ) → Owes l.groups (items_pieces
      (book_of g.R.Rule.handles g.R.Rule.answers l.book.rules.items)
      (versions_in l.groups) l.route.asked l.route.parts.items (borrowed l.references)
      (test l.cond) branch l.item-index (drop l.item-index l.from)) l.steps
      (l.initial.steps + reads_of l.groups (alive_of (items_pieces
      (book_of g.R.Rule.handles g.R.Rule.answers l.book.rules.items)
      (versions_in l.groups) l.route.asked l.route.parts.items (borrowed l.references) (test l.cond)
      branch 0 l.from)));
  least : (branch : ℕ) → (e : PlainExplained) → In e (alive_of (items_pieces
      (book_of g.R.Rule.handles g.R.Rule.answers l.book.rules.items)
      (versions_in l.groups) l.route.asked l.route.parts.items (borrowed l.references) (test l.cond)
      branch 0 l.from))
      → IsLeftOrRead l.groups
      (items_pieces (book_of g.R.Rule.handles g.R.Rule.answers l.book.rules.items)
      (versions_in l.groups) l.route.asked l.route.parts.items (borrowed l.references)
      (test l.cond) branch l.item-index (drop l.item-index l.from)) l.initial.steps l.steps e;
  rises : l.initial.steps ≤ l.steps;
}
