use Rattle.join_exec_spec.specs.BorrowedOutputs.{RowBorrows}
use Rattle.query_exec.proofs.BorrowedRows.{each_joined}
use Rattle.query_exec.proofs.PieceRows.{part_gathered}
use Rattle.query_exec.proofs.piece.read_run.Goals as goal

pub returns-clause-rows : goal.returns-clause-rows
returns-clause-rows g c = λ past represents relation means spans gathered.
    part_gathered relation spans c.args.run.0 c.args.rows.now.items c.in_ok-news.news.items
    c.put_rows.new.rows.items c.in_ok-put_rows.ensures.items gathered
    (λ m inside. c.in_ok-news.ensures.rows past represents m inside (relation m) (means m inside))
    (λ m outside. c.in_ok-news.ensures.inside m outside)

pub returns-clause-borrowed : goal.returns-clause-borrowed
returns-clause-borrowed g c = λ which columns h l. each_joined (RowBorrows which columns)
    c.args.rows.now.items c.in_ok-news.news.items c.put_rows.new.rows.items
    c.in_ok-put_rows.ensures.items l (c.in_ok-news.ensures.borrowed which columns h)
