use Rattle.std.proofs.Common.{◌≡◌, ◌++◌, map, length, drop, ap, sym, subst, ◌∙◌}
use Rattle.std.proofs.lemmas.Iterator.{YieldsList-from_slice, YieldsList-from_zip}
use Rattle.std.proofs.lemmas.Iterator.Adapters.{YieldsList-from_vec}
use Rattle.std.proofs.lemmas.Iterator.Consumers.{YieldsList-turn, YieldsList-end}
use Rattle.std.proofs.lemmas.List.{length_push}
use Rattle.std.specs.Iterator.Adapters.{zip_first, zip_second}
use Rattle.std.specs.Slice.Iter.{iter_rest}
use Rattle.std.specs.Vec.Iter.{into_iter_items, into_iter_len}
use Rattle.store_image_spec.specs.Images.{store_of}
use Rattle.store_image_reader.specs.Seen.{line_seen, stored_seen, lines_seen}
use Rattle.store_image.specs.ImageIn.{bare, CanAllBeMade}
use Rattle.store_image.proofs.RestoredTables.{next_line, next_made, table_more, all_restored}
use Rattle.store_image.proofs.image_source.restored_tables.Goals as goal

pub restored_table-requires : goal.restored_table-requires
restored_table-requires c =
    let lines = c.args.lines.items in
    let due = c.args.due.now in
    let n = length c.loop-kept.yielded in
    let first : zip_first c.into_iter-kept-iterator.result ≡ c.into_iter.result = cc in
    let items = ap into_iter_items first ∙ c.into_iter.ensures.rest in
    let all = ap into_iter_len first ∙ c.into_iter.ensures.len ∙ c.args.lines.ok.0 in
    let places : iter_rest (zip_second c.into_iter-kept-iterator.result) ≡ due = cc in
    let turn = YieldsList-turn (YieldsList-from_zip (YieldsList-from_vec lines items all)
    (YieldsList-from_slice due places)) c.loop-kept.yielded c.loop-kept.kept-iterator
    c.loop-kept.yielded_by c.next.result c.next.new.self (c.in-Some.kept, c.in-Some.line)
    c.in-Some.is c.next.ensures.steps in
    (next_made lines due n c.in-Some.kept c.in-Some.line.now turn.0 turn.1
    c.loop-kept.invariant.valid).0

pub loop-kept-preserved : goal.loop-kept-preserved
loop-kept-preserved c =
    let lines = c.args.lines.items in
    let due = c.args.due.now in
    let n = length c.loop-kept.yielded in
    let first : zip_first c.into_iter-kept-iterator.result ≡ c.into_iter.result = cc in
    let items = ap into_iter_items first ∙ c.into_iter.ensures.rest in
    let all = ap into_iter_len first ∙ c.into_iter.ensures.len ∙ c.args.lines.ok.0 in
    let places : iter_rest (zip_second c.into_iter-kept-iterator.result) ≡ due = cc in
    let turn = YieldsList-turn (YieldsList-from_zip (YieldsList-from_vec lines items all)
    (YieldsList-from_slice due places)) c.loop-kept.yielded c.loop-kept.kept-iterator
    c.loop-kept.yielded_by c.next.result c.next.new.self (c.in-Some.kept, c.in-Some.line)
    c.in-Some.is c.next.ensures.steps in
    let kept = c.in-Some.kept in
    let line = c.in-Some.line.now in
    let push = length_push c.loop-kept.yielded (kept, c.in-Some.line) in
    record {
      so = subst (λ k. map bare c.push.new.self.items
          ++ map store_of (lines_seen (map line_seen (drop k due)) (drop k lines))
          ≡ map store_of (lines_seen (map line_seen due) lines)) (sym push)
          (table_more c.loop-kept.tables.items c.push.new.self.items c.in_ok-restored_table.field-0
          (stored_seen (line_seen line) kept) _ _ c.in_ok-push.ensures.items
          c.in_ok-restored_table.ensures (next_line lines due n kept line turn.0 turn.1)
          ∙ c.loop-kept.invariant.so);
      valid = subst (λ k. CanAllBeMade (map line_seen (drop k due)) (drop k lines)) (sym push)
          (next_made lines due n kept line turn.0 turn.1 c.loop-kept.invariant.valid).1;
    }

pub returns : goal.returns
returns c =
    let lines = c.args.lines.items in
    let due = c.args.due.now in
    let n = length c.loop-kept.yielded in
    let first : zip_first c.into_iter-kept-iterator.result ≡ c.into_iter.result = cc in
    let items = ap into_iter_items first ∙ c.into_iter.ensures.rest in
    let all = ap into_iter_len first ∙ c.into_iter.ensures.len ∙ c.args.lines.ok.0 in
    let places : iter_rest (zip_second c.into_iter-kept-iterator.result) ≡ due = cc in
    let ended = YieldsList-end (YieldsList-from_zip (YieldsList-from_vec lines items all)
    (YieldsList-from_slice due places)) c.loop-kept.yielded c.loop-kept.kept-iterator
    c.loop-kept.yielded_by c.next.result c.next.new.self c.in-None.is c.next.ensures.steps in
    all_restored c.loop-kept.tables.items lines due n _ c.requires.enough ended.1
    c.loop-kept.invariant.so
