use Rattle.std.proofs.Common.{◌≡◌, ◌++◌, List, take, drop}
use Rattle.cond_expr.specs.References.{borrowed}
use Rattle.cond_expr.specs.Seen.{test}
use Rattle.version_groups.specs.Groups.{versions_in}
use Rattle.piece_ir_spec.specs.Books.{book_of}
use Rattle.piece_ir.specs.ExplainedPieces.{PlainExplained, all_explained}
use Rattle.query_exec.specs.Accepted.{MayItems}
use Rattle.query_exec.specs.QueryPieces.{items_pieces, AreLeft}
use Rattle.query_exec.proofs.explanation.explain_items.Given as goal

abbrev pub invariant-loop-item : goal.invariant-loop-item
invariant-loop-item g l = record {
  place : l.place ≡ l.item-index;
  may : MayItems (versions_in l.groups) l.route (borrowed l.references) (test l.cond) l.item-index
      (drop l.item-index l.from);
  alive : (before : List PlainExplained) → AreLeft (versions_in l.groups) before
      (all_explained l.fn.into.items)
      → AreLeft (versions_in l.groups) (before
      ++ items_pieces (book_of g.R.Rule.handles g.R.Rule.answers l.book.rules.items)
      (versions_in l.groups) l.route.asked l.route.parts.items (borrowed l.references)
      (test l.cond) l.branch 0 (take l.item-index l.from)) (all_explained l.into.items);
}
