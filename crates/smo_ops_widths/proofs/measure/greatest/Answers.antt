use Rattle.std.proofs.Common.{ℕ, List, ap, ◌∙◌, arith}
use Rattle.std.specs.FinMap.{entries, len-entries}
use Rattle.prima_base.specs.Columns.{Column}
use Rattle.smo_ops_widths.specs.Widths.{greatest}
use Rattle.smo_ops_widths.proofs.ShownLaws.{drop_there, none_left}
use Rattle.smo_ops_widths.proofs.measure.greatest.Goals as goal

pub loop-place-preserved : goal.loop-place-preserved
loop-place-preserved c = record {
  most = λ shown s.
      let so = c.loop-place.invariant.most shown s in
      let next = ap (λ (ts : List (List ℕ × List Column)). greatest ts shown)
      (drop_there (entries c.args.schema.now) c.loop-place.place c.at.result.now
      c.at.ensures.table) in
      let one = c.measure_of.ensures.measure shown s in
      let more = c.max-most.ensures in
      omega (arith, so, next, one, more);
  fit =
      (let low = c.loop-place.invariant.fit in
      let one = c.measure_of.ensures.within in
      let more = c.max-most.ensures in omega (arith, low, one, more));
  within =
      (let test = c.loop-place-test.true in
      let count = c.len.ensures.count in omega (arith, test, count));
}

pub returns : goal.returns
returns c = λ shown s.
    let so = c.loop-place.invariant.most shown s in
    let fit = c.loop-place.invariant.fit in
    let test = c.loop-place-test.false in
    let count = c.len.ensures.count ∙ len-entries c.args.schema.now in
    let rest = ap (λ (ts : List (List ℕ × List Column)). greatest ts shown)
    (none_left (entries c.args.schema.now) c.loop-place.place (omega (arith, test, count))) in
    omega (arith, so, fit, rest)
