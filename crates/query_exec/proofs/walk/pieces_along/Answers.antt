use Rattle.std.proofs.Common.{◌≡◌, ◌+◌, ◌<◌, ℕ, List, [], ◌∷◌, map, length, get_or, take, drop, sym}
use Rattle.std.proofs.Common.{ap, subst, ◌∙◌, arith}
use Rattle.std.proofs.lemmas.List.{length-map, take_all}
use Rattle.smo_ops_types.specs.Commands.{version_of, versions_of}
use Rattle.smo_ops_types.specs.declared.version.Version.{Version}
use Rattle.smo_ops_spec.specs.Past.{no_tables, tables_from}
use Rattle.version_groups.specs.Groups.{versions_in}
use Rattle.piece_ir_spec.specs.Books.{book_of}
use Rattle.piece_ir_spec.specs.Typed.{AllTyped}
use Rattle.piece_ir.specs.Shown.{shown_pieces}
use Rattle.piece_ir.specs.declared.piece.Piece.{Piece}
use Rattle.piece_ir_spec.specs.Beginnings.{asking, first_piece}
use Rattle.piece_ir_spec.specs.UnfoldedPieces.{StandFor}
use Rattle.piece_ir_spec.proofs.UnfoldedPieceLaws.{stand_first}
use Rattle.rewrite_rules_book.specs.LivingPieces.{AreKnownToLive}
use Rattle.period_split.specs.Splitting.{Part}
use Rattle.query_exec.specs.Routes.{LeadAway}
use Rattle.query_exec.specs.Asked.{read_asked}
use Rattle.query_exec.specs.Planned.{ArePlanned}
use Rattle.query_exec.specs.declared.part_piece.PartPieces.{PartPieces}
use Rattle.query_exec.proofs.ListSteps.{taken_is, among_taken}
use Rattle.query_exec.proofs.PlanLaws.{one_planned, planned_last}
use Rattle.query_exec.proofs.WalkSteps.{next_away, kept_here, ready_here, here_typed, stand_here}
use Rattle.query_exec.proofs.walk.pieces_along.Goals as goal

pub loop-part-init : goal.loop-part-init
loop-part-init g c = record {
  there = omega (arith, c.in_ok-start.ensures.version, c.requires.along.here);
  way = subst (λ (v : ℕ). LeadAway c.args.asked v c.args.parts.now)
      (sym c.in_ok-start.ensures.version) c.requires.along.way;
  stand = stand_first (book_of g.R.Rule.handles g.R.Rule.answers c.args.book.now.rules.items)
      (versions_of c.versions-versions.result.now) c.in_ok-start.start.version
      c.args.asked c.args.table.now (read_asked c.args.question.now)
      (shown_pieces c.in_ok-start.start.pieces.items) c.in_ok-start.ensures.version
      (c.in_ok-start.ensures.pieces ∙ ap (λ (ns : List (List ℕ)).
      first_piece c.args.table.now (asking (read_asked c.args.question.now).test ns) ∷ [])
      c.deref.ensures.value);
  planned = subst (λ (xs : List PartPieces). ArePlanned
      (book_of g.R.Rule.handles g.R.Rule.answers c.args.book.now.rules.items)
      (versions_in c.args.groups.now) c.args.asked c.args.table.now
      (read_asked c.args.question.now) [] xs) (sym c.new-plan.ensures.items) tt;
}

pub to-requires-clause-here : goal.to-requires-clause-here
to-requires-clause-here g c =
    let within = c.loop-part.invariant.there in
    let many = length-map c.args.groups.now.versions version_of in
    let stored = ap (λ (vs : List Version). length vs) c.versions-versions.ensures in
    omega (arith, within, many, stored)

pub to-requires-clause-there : goal.to-requires-clause-there
to-requires-clause-there g c =
    let parts : List Part = c.args.parts.now in
    let i : ℕ = c.loop-part.part-index in
    let p : Part = c.part-item.result in
    let below : i < length parts = c.loop-part-test.true in
    let is : p ≡ get_or parts i p = c.part-item.is in
    let within = c.requires.along.there p (among_taken parts i p below is) in
    let many = length-map c.args.groups.now.versions version_of in
    let stored = ap (λ (vs : List Version). length vs) c.versions-versions.ensures in
    omega (arith, within, many, stored)

pub to-requires-clause-pieces : goal.to-requires-clause-pieces
to-requires-clause-pieces g c =
    let parts : List Part = c.args.parts.now in
    let i : ℕ = c.loop-part.part-index in
    let p : Part = c.part-item.result in
    let below : i < length parts = c.loop-part-test.true in
    let is : p ≡ get_or parts i p = c.part-item.is in
    let same : versions_of c.versions-versions.result.now ≡ versions_in c.args.groups.now =
    ap (λ (vs : List Version). map version_of vs) c.versions-versions.ensures in
    let next = next_away parts i p below is c.args.asked c.loop-part.walk.version
    c.loop-part.invariant.way in
    ready_here c.args.groups.now (book_of g.R.Rule.handles g.R.Rule.answers
    c.args.book.now.rules.items)
    (versions_of c.versions-versions.result.now) same c.args.asked c.args.table.now
    (read_asked c.args.question.now) parts c.requires.along c.loop-part.walk.version
    (shown_pieces c.loop-part.walk.pieces.items) p (among_taken parts i p below is) next.0
    c.loop-part.invariant.stand

pub part_pieces-requires-clause-there : goal.part_pieces-requires-clause-there
part_pieces-requires-clause-there g c =
    let parts : List Part = c.args.parts.now in
    let i : ℕ = c.loop-part.part-index in
    let p : Part = c.part-item.result in
    let below : i < length parts = c.loop-part-test.true in
    let is : p ≡ get_or parts i p = c.part-item.is in
    let within = c.requires.along.there p (among_taken parts i p below is) in
    let many = length-map c.args.groups.now.versions version_of in
    omega (arith, within, many)

pub part_pieces-requires-clause-typed : goal.part_pieces-requires-clause-typed
part_pieces-requires-clause-typed g c =
    let parts : List Part = c.args.parts.now in
    let i : ℕ = c.loop-part.part-index in
    let p : Part = c.part-item.result in
    let below : i < length parts = c.loop-part-test.true in
    let is : p ≡ get_or parts i p = c.part-item.is in
    let next = next_away parts i p below is c.args.asked c.loop-part.walk.version
    c.loop-part.invariant.way in
    let same : versions_of c.versions-versions.result.now ≡ versions_in c.args.groups.now =
    ap (λ (vs : List Version). map version_of vs) c.versions-versions.ensures in
    let stand : StandFor (book_of g.R.Rule.handles g.R.Rule.answers c.args.book.now.rules.items)
    (versions_of c.versions-versions.result.now) p.1 c.args.asked c.args.table.now
    (read_asked c.args.question.now) (shown_pieces c.in_ok-walk.walk.pieces.items) =
    c.in_ok-walk.ensures.pieces c.args.asked c.args.table.now (read_asked c.args.question.now)
    next.0
    (λ on. kept_here c.args.groups.now (book_of g.R.Rule.handles g.R.Rule.answers
    c.args.book.now.rules.items)
    (versions_of c.versions-versions.result.now) same c.args.asked c.args.table.now
    (read_asked c.args.question.now) parts c.requires.along p (among_taken parts i p below is))
    c.loop-part.invariant.stand in
    subst (λ (ps : List Piece). AllTyped (tables_from no_tables (versions_in c.args.groups.now) p.1)
    (shown_pieces ps)) (sym c.deref-in-loop-part.ensures.value)
    (here_typed c.args.groups.now (book_of g.R.Rule.handles g.R.Rule.answers
    c.args.book.now.rules.items)
    (versions_of c.versions-versions.result.now) same c.args.asked c.args.table.now
    (read_asked c.args.question.now) parts c.requires.along c.known.ensures p.1
    (shown_pieces c.in_ok-walk.walk.pieces.items) stand)

pub part_pieces-requires-clause-pruned : goal.part_pieces-requires-clause-pruned
part_pieces-requires-clause-pruned g c =
    subst (λ (ps : List Piece). AreKnownToLive c.in_ok-walk.walk.pruned (shown_pieces ps))
    (sym c.deref-in-loop-part.ensures.value) c.in_ok-walk.walk.living

pub loop-part-preserved : goal.loop-part-preserved
loop-part-preserved g c =
    let parts : List Part = c.args.parts.now in
    let i : ℕ = c.loop-part.part-index in
    let p : Part = c.part-item.result in
    let below : i < length parts = c.loop-part-test.true in
    let is : p ≡ get_or parts i p = c.part-item.is in
    let next = next_away parts i p below is c.args.asked c.loop-part.walk.version
    c.loop-part.invariant.way in
    let same : versions_of c.versions-versions.result.now ≡ versions_in c.args.groups.now =
    ap (λ (vs : List Version). map version_of vs) c.versions-versions.ensures in
    let stand : StandFor (book_of g.R.Rule.handles g.R.Rule.answers c.args.book.now.rules.items)
    (versions_of c.versions-versions.result.now) p.1 c.args.asked c.args.table.now
    (read_asked c.args.question.now) (shown_pieces c.in_ok-walk.walk.pieces.items) =
    c.in_ok-walk.ensures.pieces c.args.asked c.args.table.now (read_asked c.args.question.now)
    next.0
    (λ on. kept_here c.args.groups.now (book_of g.R.Rule.handles g.R.Rule.answers
    c.args.book.now.rules.items)
    (versions_of c.versions-versions.result.now) same c.args.asked c.args.table.now
    (read_asked c.args.question.now) parts c.requires.along p (among_taken parts i p below is))
    c.loop-part.invariant.stand in
    let within = c.requires.along.there p (among_taken parts i p below is) in
    let r = read_asked c.args.question.now in
    let x = c.in_ok-part_pieces.field-0 in
    record {
      there = omega (arith, c.in_ok-walk.ensures.version, within);
      way = subst (λ (v : ℕ). LeadAway c.args.asked v (drop (i + 1) parts))
          (sym c.in_ok-walk.ensures.version) next.1;
      stand = subst (λ (v : ℕ). StandFor (book_of g.R.Rule.handles g.R.Rule.answers
          c.args.book.now.rules.items)
          (versions_of c.versions-versions.result.now) v c.args.asked c.args.table.now
          (read_asked c.args.question.now) (shown_pieces c.in_ok-walk.walk.pieces.items))
          (sym c.in_ok-walk.ensures.version) stand;
      planned = subst (λ (ps : List Part). ArePlanned
          (book_of g.R.Rule.handles g.R.Rule.answers c.args.book.now.rules.items)
          (versions_in c.args.groups.now) c.args.asked c.args.table.now r ps
          c.push.new.self.items) (sym (taken_is parts i p below is))
          (planned_last (book_of g.R.Rule.handles g.R.Rule.answers c.args.book.now.rules.items)
          (versions_in c.args.groups.now) c.args.asked
          c.args.table.now r (take i parts) p c.loop-part.plan.items c.push.new.self.items x
          c.in_ok-push.ensures.items c.loop-part.invariant.planned
          (one_planned (book_of g.R.Rule.handles g.R.Rule.answers c.args.book.now.rules.items)
          (versions_in c.args.groups.now) c.args.asked
          c.args.table.now r p x (shown_pieces c.deref-in-loop-part.result.now)
          c.in_ok-part_pieces.ensures.part
          (ap shown_pieces c.deref-in-loop-part.ensures.value
          ∙ (stand_here c.args.groups.now
          (book_of g.R.Rule.handles g.R.Rule.answers c.args.book.now.rules.items)
          (versions_of c.versions-versions.result.now) same
          c.args.asked c.args.table.now r parts c.requires.along p.1
          (shown_pieces c.in_ok-walk.walk.pieces.items) stand).unfolded)
          c.in_ok-part_pieces.ensures.living c.in_ok-part_pieces.ensures.told));
    }

pub returns : goal.returns
returns g c =
    let parts : List Part = c.args.parts.now in
    subst (λ (ps : List Part). ArePlanned
    (book_of g.R.Rule.handles g.R.Rule.answers c.args.book.now.rules.items)
    (versions_in c.args.groups.now) c.args.asked c.args.table.now
    (read_asked c.args.question.now) ps c.loop-part.plan.items)
    (take_all c.loop-part.part-index c.args.parts.now c.loop-part-test.false)
    c.loop-part.invariant.planned
