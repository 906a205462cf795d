use Rattle.std.proofs.Common.{◌<◌, length, ap, ◌∙◌, arith}
use Rattle.std.proofs.lemmas.List.{take_all}
use Rattle.prima_base.specs.Timed.{entries_of}
use Rattle.prima_base_rows.proofs.Moves.{no_row}
use Rattle.script_cli_vault.proofs.KeptRows.{kept_more}
use Rattle.script_cli_vault.proofs.kept_row.kept_rows.Goals as goal

pub loop-index-preserved : goal.loop-index-preserved
loop-index-preserved c =
    let rows = c.args.rows.now.items in
    let i = c.loop-index.index in
    let here : i < length rows = omega arith in
    kept_more rows c.loop-index.kept.items c.push.new.self.items i _ c.values.result.now here
    c.loop-index.invariant c.in_ok-push.ensures.items c.in_ok-row.ensures
    (c.values.ensures.values no_row) (c.period.ensures.period no_row)

pub returns : goal.returns
returns c = c.loop-index.invariant
    ∙ ap entries_of (take_all c.loop-index.index c.args.rows.now.items (omega arith))
