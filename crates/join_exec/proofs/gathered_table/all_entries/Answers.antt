use Rattle.std.proofs.Common.{◌++◌, ◌∷◌, [], List, take, length, sym, ap, ◌∙◌, arith}
use Rattle.std.proofs.lemmas.List.{map-append}
use Rattle.std.proofs.lemmas.List.Sums.{sum_by-append}
use Rattle.history_store_spec.specs.Store.{Cell, column_of}
use Rattle.join_exec.specs.declared.cursor.Cursor.{Cursor}
use Rattle.join_exec.specs.Gathered.{or_none, columns_in}
use Rattle.join_exec.specs.Reading.{count_in}
use Rattle.join_exec.specs.Walking.{left, all_left, unread}
use Rattle.join_exec.proofs.Picking.{column_there, in_at, next_names, entries_more}
use Rattle.join_exec.proofs.gathered_table.all_entries.Goals as goal

pub unreachable-requires : goal.unreachable-requires
unreachable-requires c =
    let w = c.scan_column.ensures.valid in
    let there = c.requires c.name-item.result (in_at c.args.columns.now c.loop-name.name-index
    c.name-item.result c.loop-name-test.true c.name-item.is) in
    let r = column_there c.args.table.now.columns c.args.table.now.cells c.name-item.result w.width
    there in
    let is = r.1 in
    cc (is, c.in_default.ensures.entries)

pub loop-name-preserved : goal.loop-name-preserved
loop-name-preserved c =
    let name = c.name-item.result in
    let s = c.args.table.now in
    let more = next_names c.args.columns.now c.loop-name.name-index name c.loop-name-test.true
    c.name-item.is in
    let cells = ap or_none (sym c.in-Some.is ∙ c.scan_column.ensures.entries) in
    let count = ap count_in (sym c.in-Some.is ∙ c.scan_column.ensures.entries) in
    record {
      left = rw more (ap all_left c.in_ok-push.ensures.items
          ∙ map-append left c.loop-name.cursors.items _
          ∙ ap (λ (ls : List (List Cell)). ls ++ c.in-Some.entries ∷ []) c.loop-name.invariant.left
          ∙ ap (λ (l : List Cell). columns_in s (take c.loop-name.name-index c.args.columns.now)
          ++ l ∷ []) cells
          ∙ sym (map-append (λ n. or_none (column_of s n))
          (take c.loop-name.name-index c.args.columns.now) (name ∷ [])));
      unread = rw more (ap unread c.in_ok-push.ensures.items
          ∙ sum_by-append (λ (x : Cursor). length x.unread) c.loop-name.cursors.items _
          ∙ (let before = c.loop-name.invariant.unread in
          let after = entries_more s (take c.loop-name.name-index c.args.columns.now) name in
          omega (arith, before, after, count)));
    }
