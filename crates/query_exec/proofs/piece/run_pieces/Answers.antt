use Rattle.std.proofs.Common.{◌<◌, ◌+◌, List, take, length, sym, ap, subst, ◌∙◌, arith}
use Rattle.relations_spec.proofs.SetLaws.{in_map}
use Rattle.join_exec.specs.Pieces.{stored_meaning}
use Rattle.prima_base.specs.declared.timed_row.TimedRow.{TimedRow}
use Rattle.prima_base.specs.Timed.{rows_at}
use Rattle.join_exec_spec.specs.BorrowedOutputs.{RowBorrows, RowsBorrow}
use Rattle.piece_ir_spec.specs.Pieces.{all_mean, out_trees}
use Rattle.piece_ir.specs.Shown.{piece_of, shown_pieces}
use Rattle.query_pieces_spec.proofs.RunPieces.{none_run}
use Rattle.smo_ops_spec.specs.Past.{tables_of, database_at}
use Rattle.rewrite.proofs.CodeSteps.{typed_at}
use Rattle.query_exec.proofs.BorrowedRows.{piece_borrows, each_joined}
use Rattle.query_exec.proofs.PieceRows.{next_run, none_after, nothing_at, reads_left}
use Rattle.query_exec.proofs.ListSteps.{among_taken}
use Rattle.query_exec.proofs.RunLaws.{piece_meant, next_alike, all_alike}
use Rattle.query_exec.proofs.piece.run_pieces.Goals as goal

pub run_piece-requires : goal.run_piece-requires
run_piece-requires g c =
    let below : c.loop-piece.piece-index < length c.args.pieces.now = omega arith in (
      c.requires.0,
      c.requires.1,
      c.requires.2,
      typed_at (tables_of c.requires.0 c.args.version) c.args.pieces.now c.loop-piece.piece-index
          c.piece-item.result below c.piece-item.is c.requires.3,
    )

pub loop-piece-preserved : goal.loop-piece-preserved
loop-piece-preserved g c =
    let below : c.loop-piece.piece-index < length c.args.pieces.now = omega arith in
    record {
      rows = λ past represents m inside meant h.
          let q = next_alike c.args.groups.now c.args.version h.version m c.args.pieces.now h.pieces
          c.loop-piece.piece-index c.piece-item.result h.alike below c.piece-item.is in
          next_run (tables_of past h.version) (database_at past m)
          (take c.loop-piece.piece-index h.pieces) (take (c.loop-piece.piece-index + 1) h.pieces)
          q.0 c.loop-piece.rows.items c.in_ok-news.news.items c.put_rows.new.rows.items m q.1
          c.in_ok-put_rows.ensures.items
          (c.loop-piece.invariant.rows past represents m inside meant h)
          (piece_meant c.args.groups.now past represents c.args.version
          (shown_pieces c.args.pieces.now) m meant h (rows_at c.in_ok-news.news.items m) q.0
          (c.in_ok-news.ensures.stored m inside ∙ q.2) q.3);
      inside = λ m outside.
          none_after c.loop-piece.rows.items c.in_ok-news.news.items c.put_rows.new.rows.items m
          c.in_ok-put_rows.ensures.items
          (c.loop-piece.invariant.inside m outside) (c.in_ok-news.ensures.inside m outside);
      borrowed = λ which columns h.
          each_joined (RowBorrows which columns) c.loop-piece.rows.items c.in_ok-news.news.items
          c.put_rows.new.rows.items c.in_ok-put_rows.ensures.items
          (c.loop-piece.invariant.borrowed which columns h)
          (piece_borrows (stored_meaning c.args.groups.now c.args.version
          (piece_of c.piece-item.result)) c.args.period c.in_ok-news.news.items
          c.in_ok-news.ensures.stored c.in_ok-news.ensures.inside which columns
          (out_trees (piece_of c.piece-item.result).outs)
          c.have_moments.ensures
          (h (piece_of c.piece-item.result) (in_map piece_of c.piece-item.result c.args.pieces.now
          (among_taken c.args.pieces.now c.loop-piece.piece-index c.piece-item.result below
          c.piece-item.is))) c.in_ok-news.ensures.borrowed);
      count = omega (
        arith,
        c.loop-piece.invariant.count,
        c.in_ok-news.ensures.counted,
        reads_left c.args.pieces.now c.loop-piece.piece-index c.piece-item.result below
            c.piece-item.is c.args.groups.now c.args.version,
      );
      rises = omega (arith, c.loop-piece.invariant.rises, c.run_piece.ensures.rises);
    }

pub loop-piece-init : goal.loop-piece-init
loop-piece-init g c = record {
  rows = λ past represents m inside meant h. ap (λ (rs : List TimedRow). rows_at rs m)
      c.new-rows.ensures ∙ none_run (tables_of past h.version) (database_at past m) m;
  inside = λ m outside. ap (λ (rs : List TimedRow). rows_at rs m) c.new-rows.ensures
      ∙ nothing_at m;
  borrowed = λ which columns h. subst (RowsBorrow which columns) (sym c.new-rows.ensures) tt;
  count = omega arith;
  rises = omega arith;
}

pub returns-in_err-put_rows-clause-cost : goal.returns-in_err-put_rows-clause-cost
returns-in_err-put_rows-clause-cost g c =
    let below : c.loop-piece.piece-index < length c.args.pieces.now = omega arith in
    let left = reads_left c.args.pieces.now c.loop-piece.piece-index c.piece-item.result below
    c.piece-item.is c.args.groups.now c.args.version in
    omega (arith, c.loop-piece.invariant.count, c.in_ok-news.ensures.counted, left)

pub returns-clause-rows : goal.returns-clause-rows
returns-clause-rows g c = λ past represents m inside meant h.
    c.loop-piece.invariant.rows past represents m inside meant h
    ∙ ap (all_mean (tables_of past h.version) (database_at past m))
    (all_alike c.args.groups.now c.args.version h.version m c.args.pieces.now h.pieces
    c.loop-piece.piece-index h.alike (omega arith))
    ∙ h.means
