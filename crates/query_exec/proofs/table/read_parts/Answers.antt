use Rattle.std.proofs.Common.{◌≡◌, ◌+◌, ◌-◌, ◌<◌, ◌≤◌, ℕ, List, [], length, get_or, take, drop, sym}
use Rattle.std.proofs.Common.{ap, subst, arith}
use Rattle.std.proofs.lemmas.List.{take_all, length-drop}
use Rattle.relations_spec.specs.Sets.{In}
use Rattle.relations_spec.specs.Spans.{Span}
use Rattle.prima_base.specs.declared.timed_row.TimedRow.{TimedRow}
use Rattle.prima_base.specs.Timed.{entries_of}
use Rattle.smo_ops_types.specs.Commands.{PlainVersion}
use Rattle.smo_ops_spec.specs.Past.{Past, no_tables, tables_from, tables_of}
use Rattle.version_groups.specs.Groups.{versions_in}
use Rattle.version_groups.specs.Representation.{Represents}
use Rattle.piece_ir_spec.specs.Typed.{AllTyped}
use Rattle.piece_ir.specs.Shown.{shown_pieces}
use Rattle.piece_ir.specs.declared.piece.Piece.{Piece}
use Rattle.query_pieces_spec.specs.Gathering.{IsGathered}
use Rattle.query_pieces_spec.proofs.Gatherings.{nothing_gathered}
use Rattle.join_exec.proofs.PieceAtoms.{same_versions}
use Rattle.query_exec.specs.declared.part_piece.PartPieces.{PartPieces}
use Rattle.join_exec_spec.specs.BorrowedOutputs.{RowsBorrow}
use Rattle.query_exec.specs.Borrowed.{AllPlainIn}
use Rattle.query_exec.specs.Planned.{planned_spans}
use Rattle.query_exec.specs.Reads.{pieces_read, part_read}
use Rattle.query_exec.specs.Routes.{IsOwn}
use Rattle.query_exec.specs.Runs.{IsRun, IsMeant}
use Rattle.query_exec.proofs.ListSteps.{among_taken}
use Rattle.query_exec.proofs.RunLaws.{among_plan, run_meant, run_plain, run_gathered, run_cost}
use Rattle.query_exec.proofs.RunLaws.{run_within}
use Rattle.query_exec.proofs.RunLaws.{run_least}
use Rattle.query_exec.proofs.TotalLaws.{from_first}
use Rattle.query_exec.proofs.WalkSteps.{within_there}
use Rattle.query_exec.proofs.table.read_parts.Goals as goal

pub runs-init : goal.runs-init
runs-init g c = record {
  within = omega arith;
  rows = λ past represents relation means. subst (λ (rs : List TimedRow).
      IsGathered relation [] (entries_of rs)) (sym c.new-rows.ensures)
      (nothing_gathered relation);
  borrowed = λ which columns h. subst (RowsBorrow which columns) (sym c.new-rows.ensures) tt;
  cost = omega arith;
  least = λ x m. absurd m;
  rises = omega arith;
}

pub read_run-requires : goal.read_run-requires
read_run-requires g c =
    let plan : List PartPieces = c.args.plan.now in
    let i : ℕ = c.runs.at in
    let first : PartPieces = c.index-plan-at.result in
    let below : i < length plan = c.runs-test.true in
    let is : first ≡ get_or plan i first = c.index-plan-at.is in
    let past = c.requires.ready.0 in
    let represents = c.requires.ready.1 in
    let ready = c.requires.ready.2 first (among_taken plan i first below is) in (
      past,
      represents,
      within_there c.args.groups.now past represents first.part ready.0,
      subst (λ (ps : List Piece). AllTyped (tables_of past first.part.1) (shown_pieces ps))
          (sym c.deref.ensures.value) ready.1,
    )

pub returns-in_err-read_run-clause-cost : goal.returns-in_err-read_run-clause-cost
returns-in_err-read_run-clause-cost g c =
    let plan : List PartPieces = c.args.plan.now in
    let i : ℕ = c.runs.at in
    let first : PartPieces = c.index-plan-at.result in
    let below : i < length plan = c.runs-test.true in
    let is : first ≡ get_or plan i first = c.index-plan-at.is in
    let n : ℕ = c.run_of-period.result.1 in
    let here : pieces_read c.args.groups.now first.part.1 (shown_pieces c.deref.result.now)
    ≡ part_read c.args.groups.now first =
    ap (λ (ps : List Piece). pieces_read c.args.groups.now first.part.1 (shown_pieces ps))
    c.deref.ensures.value in
    run_within plan i n first below is c.args.groups.now c.args.steps.now c.runs.steps
    c.read_run.new.steps (pieces_read c.args.groups.now first.part.1
    (shown_pieces c.deref.result.now)) c.runs.invariant.cost c.read_run.ensures.cost here

pub runs-preserved : goal.runs-preserved
runs-preserved g c =
    let kept = c.args.groups.now in
    let plan : List PartPieces = c.args.plan.now in
    let i : ℕ = c.runs.at in
    let first : PartPieces = c.index-plan-at.result in
    let below : i < length plan = c.runs-test.true in
    let is : first ≡ get_or plan i first = c.index-plan-at.is in
    let period : Span = c.run_of-period.result.0 in
    let n : ℕ = c.run_of-period.result.1 in
    let left = length-drop (i + 1) plan in
    let whole : take (length plan - (i + 1)) (drop (i + 1) plan) ≡ drop (i + 1) plan =
    take_all (length plan - (i + 1)) (drop (i + 1) plan) (omega (arith, left)) in
    let fits : n ≤ length (drop (i + 1) plan) =
    subst (λ (rest : List PartPieces). n ≤ length rest) whole c.run_of-period.ensures.within in
    let run : IsRun kept first (take n (drop (i + 1) plan)) period =
    subst (λ (rest : List PartPieces). IsRun kept first (take n rest) period) whole
    c.run_of-period.ensures.run in
    let here : pieces_read kept first.part.1 (shown_pieces c.deref.result.now)
    ≡ part_read kept first =
    ap (λ (ps : List Piece). pieces_read kept first.part.1 (shown_pieces ps))
    c.deref.ensures.value in
    let own : (past : Past) → Represents kept past → (x : PartPieces) → In x plan
    → IsOwn (versions_in kept) x.part × AllTyped (tables_of past x.part.1)
    (shown_pieces x.pieces.items) =
    λ past represents x m.
    let h = c.requires.ready.2 x m in (
      h.0,
      subst (λ (vs : List PlainVersion). AllTyped (tables_from no_tables vs x.part.1)
          (shown_pieces x.pieces.items)) (same_versions kept c.requires.ready.0 past
          c.requires.ready.1
          represents) h.1,
    ) in
    record {
      within = omega (arith, below, fits, left);
      rows = λ past represents relation means.
          run_gathered plan i n first below is kept relation period
          (entries_of c.read_run.new.rows.items) run
          (c.in_ok-read_run.ensures.rows past represents relation
          (λ m inside.
          subst (λ (ps : List Piece). IsMeant kept past first.part.1 (shown_pieces ps) m
          (relation m))
          (sym c.deref.ensures.value)
          (run_meant kept first (take n (drop (i + 1) plan)) period run past represents relation
          (λ x k. own past represents x (among_plan plan i n first below is x k))
          (λ x k. means x (among_plan plan i n first below is x k)) m inside))
          (planned_spans (take i plan)) (c.runs.invariant.rows past represents relation means));
      borrowed = λ which columns h.
          c.in_ok-read_run.ensures.borrowed which columns (subst
          (λ (ps : List Piece). AllPlainIn kept first.part.1 period which columns (shown_pieces ps))
          (sym c.deref.ensures.value)
          (run_plain kept first (take n (drop (i + 1) plan)) period run which columns
          (λ x k. h x (among_plan plan i n first below is x k))))
          (c.runs.invariant.borrowed which columns h);
      cost = run_cost plan i n first below is kept c.args.steps.now c.runs.steps
          c.read_run.new.steps (pieces_read kept first.part.1 (shown_pieces c.deref.result.now))
          c.runs.invariant.cost c.read_run.ensures.cost here;
      least = run_least plan i n first below is kept c.args.steps.now c.runs.steps
          c.read_run.new.steps (pieces_read kept first.part.1 (shown_pieces c.deref.result.now))
          period
          run c.runs.invariant.least c.runs.invariant.rises
          c.in_ok-read_run.ensures.counted here;
      rises = from_first c.args.steps.now c.runs.steps c.read_run.new.steps c.runs.invariant.rises
          c.read_run.ensures.rises;
    }

pub returns-clause-rows : goal.returns-clause-rows
returns-clause-rows g c = λ past represents relation means.
    subst (λ (plan : List PartPieces). IsGathered relation (planned_spans plan)
    (entries_of c.runs.rows.items)) (take_all c.runs.at c.args.plan.now c.runs-test.false)
    (c.runs.invariant.rows past represents relation means)
