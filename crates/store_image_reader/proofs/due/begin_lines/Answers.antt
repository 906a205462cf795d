use Rattle.std.proofs.Common.{◌++◌, ℕ, List, map, take, ap, ◌∙◌, append_assoc, arith}
use Rattle.std.specs.List.{filter}
use Rattle.std.specs.FinMap.{entries, len-entries}
use Rattle.std.proofs.lemmas.List.{take_all}
use Rattle.prima_base.specs.Columns.{Column}
use Rattle.smo_ops_versions_spec.specs.Lifelines.{line_begun}
use Rattle.smo_ops_operators.specs.Names.{is_one_of}
use Rattle.store_image_reader.specs.Due.{begun_of}
use Rattle.store_image_reader.specs.Seen.{line_seen}
use Rattle.store_image_reader.proofs.BegunLines.{begun_more}
use Rattle.store_image_reader.proofs.due.begin_lines.Goals as goal

pub loop-place-preserved : goal.loop-place-preserved
loop-place-preserved c =
    let es = entries c.args.schema.now in
    let begun = map (line_begun c.args.version)
    (filter (λ (e : List ℕ × List Column). is_one_of c.args.names e.0)
    (take c.loop-place.place es)) in
    c.in_ok-begin_line.ensures ∙ ap (λ l. l ++ begun_of (is_one_of c.args.names) c.args.version
    c.at.result.now) c.loop-place.invariant
    ∙ append_assoc (map line_seen c.args.lines.now.items) begun
    (begun_of (is_one_of c.args.names) c.args.version c.at.result.now)
    ∙ ap (λ l. map line_seen c.args.lines.now.items ++ l)
    (begun_more (is_one_of c.args.names) c.args.version es c.loop-place.place c.at.result.now
    c.at.ensures.table)

pub returns : goal.returns
returns c =
    let es = entries c.args.schema.now in
    let n = len-entries c.args.schema.now in
    let k = c.len-place-end.ensures.count in
    let t = c.loop-place-test.false in
    c.loop-place.invariant
    ∙ ap (λ l. map line_seen c.args.lines.now.items
    ++ map (line_begun c.args.version) (filter
    (λ (e : List ℕ × List Column). is_one_of c.args.names e.0) l))
    (take_all c.loop-place.place es (omega (arith, n, k, t)))
