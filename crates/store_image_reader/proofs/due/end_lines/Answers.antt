use Rattle.std.proofs.Common.{◌≡◌, ◌<◌, length, map, get_or, sym, ap, ◌∙◌, arith}
use Rattle.smo_ops_versions_spec.specs.Lifelines.{Lifeline, last_after, line_after}
use Rattle.store_image_reader.specs.declared.due.DueLine.{DueLine}
use Rattle.smo_ops_operators.specs.Names.{is_one_of}
use Rattle.store_image_reader.specs.Seen.{line_seen}
use Rattle.store_image_rows.proofs.ListPlaces.{same_got}
use Rattle.store_image_reader.proofs.ListPlaces.{changed_up_to, all_changed}
use Rattle.std.proofs.lemmas.List.{length-map}
use Rattle.store_image_reader.proofs.due.end_lines.Goals as goal

pub loop-i-preserved : goal.loop-i-preserved
loop-i-preserved c =
    let lines = c.loop-i.lines in
    let i = c.loop-i.i in
    let h : i < length lines = (let t = c.loop-i-test.true in let n = c.loop-i.auto.lines in
    omega (arith, t, n)) in
    let r = c.index-lines-i-in-loop-i.result in
    let same : get_or lines i r ≡ r = sym c.index-lines-i-in-loop-i.is in
    let also : get_or lines i c.index-lines-i.result ≡ r = sym c.index-lines-i.is
    ∙ same_got lines i c.index-lines-i.result r h c.index-lines-i.is
    c.index-lines-i-in-loop-i.is in
    changed_up_to (line_after (is_one_of c.args.names) c.args.version) line_seen
    (map line_seen c.args.lines.now) lines i r _ h c.index-lines-i-in-loop-i.is
    c.loop-i.invariant
    (ap (λ (d : DueLine). (let l : Lifeline =
    record {
      table = d.table.now;
      first = d.first;
      last = c.after_names.result;
      columns =
          d.columns.now;
    } in l)) same
    ∙ ap (λ o. (let l : Lifeline = record {
      table = r.table.now;
      first = r.first;
      last = o;
      columns = r.columns.now;
    } in l)) (c.after_names.ensures
    ∙ ap (λ (d : DueLine). last_after (is_one_of c.args.names d.table.now) c.args.version
    d.last) also))

pub returns : goal.returns
returns c =
    c.loop-i.invariant
    ∙ all_changed (line_after (is_one_of c.args.names) c.args.version)
    (map line_seen c.args.lines.now) c.loop-i.i
    (let t = c.loop-i-test.false in let n = length-map c.args.lines.now line_seen in
    omega (arith, t, n))
