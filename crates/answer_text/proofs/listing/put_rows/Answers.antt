use Rattle.std.proofs.Common.{sym}
use Rattle.std.proofs.lemmas.List.{length-map}
use Rattle.std.specs.List.{flat_map}
use Rattle.std.proofs.lemmas.Result.{on_err_weaker}
use Rattle.prima_base.specs.Timed.{entries_of}
use Rattle.answer_text.specs.Texts.{listing_text, row_text}
use Rattle.answer_text.proofs.Gathered.{on_err, more, less_begun, less_longer, less_flushed}
use Rattle.answer_text.proofs.listing.put_rows.Goals as goal

pub returns-in_err-push_rows-clause-part : goal.returns-in_err-push_rows-clause-part
unfolding listing_text
returns-in_err-push_rows-clause-part g c =
    let rows = flat_map (row_text c.args.told) (entries_of c.args.rows.now.items) in
    on_err _ _ (less_longer _ _ rows _ (less_begun _ _ _ _ c.new-line.ensures
    c.in_err-push_rows.ensures.part))

pub returns-in_err-push_count-clause-part : goal.returns-in_err-push_count-clause-part
unfolding listing_text
returns-in_err-push_count-clause-part g c =
    let rows = flat_map (row_text c.args.told) (entries_of c.args.rows.now.items) in
    on_err _ _ (less_longer _ _ rows _ (less_begun _ _ _ _ c.new-line.ensures
    (less_flushed _ _ _ _ _ _ c.in_ok-push_rows.ensures.all c.in_err-push_count.ensures.part)))

pub returns-clause-part : goal.returns-clause-part
unfolding listing_text
returns-clause-part g c =
    let p = more _ _ _ _ _ _ _ _ c.in_ok-push_rows.ensures.all c.in_ok-push_count.ensures.all in
    on_err_weaker c.flush.result (λ q. rw (length-map, sym c.len.ensures)
    (less_begun _ _ _ _ c.new-line.ensures (less_flushed _ _ _ _ _ _ p q))) c.flush.ensures.part
