use Rattle.std.proofs.Common.{◌≤◌, length, take, drop}
use Rattle.smo_ops_types.specs.Commands.{versions_of}
use Rattle.version_groups.specs.Groups.{versions_in}
use Rattle.piece_ir_spec.specs.Books.{book_of}
use Rattle.piece_ir.specs.Shown.{shown_pieces}
use Rattle.piece_ir_spec.specs.UnfoldedPieces.{StandFor}
use Rattle.query_exec.specs.Routes.{LeadAway}
use Rattle.query_exec.specs.Asked.{read_asked}
use Rattle.query_exec.specs.Planned.{ArePlanned}
use Rattle.query_exec.proofs.walk.pieces_along.Given as goal

abbrev pub invariant-loop-part : goal.invariant-loop-part
invariant-loop-part g l = record {
  there : l.walk.version ≤ length (versions_in l.groups);
  way : LeadAway l.asked l.walk.version (drop l.part-index l.parts);
  stand : StandFor (book_of g.R.Rule.handles g.R.Rule.answers l.book.rules.items)
      (versions_of l.versions) l.walk.version l.asked l.fn.table (read_asked l.question)
      (shown_pieces l.walk.pieces.items);
  planned : ArePlanned (book_of g.R.Rule.handles g.R.Rule.answers l.book.rules.items)
      (versions_in l.groups) l.asked l.fn.table (read_asked l.question)
      (take l.part-index l.parts) l.plan.items;
}
