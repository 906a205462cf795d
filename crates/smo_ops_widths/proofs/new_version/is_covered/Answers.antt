use Rattle.std.proofs.Common.{sym, inl, inr, ◌∙◌, arith}
use Rattle.smo_ops_spec.proofs.TouchedTables.{opposite}
use Rattle.smo_ops_widths.proofs.new_version.is_covered.Goals as goal

pub returns-then-k-eq0 : goal.returns-then-k-eq0
returns-then-k-eq0 c = λ skips. inl (let none = c.if-k-eq0.true in omega (arith, none))

pub returns-then-creates_one : goal.returns-then-creates_one
returns-then-creates_one c = λ skips.
    let some = c.if-k-eq0.false in
    let there = c.requires.there in
    inr (
      c.index.result.now,
      omega (arith, some, there),
      c.index.ensures,
      omega (arith, some),
      inr (sym c.creates_other.ensures ∙ opposite c.creates_other.result skips),
    )

pub returns : goal.returns
returns c = λ skips.
    let some = c.if-k-eq0.false in
    let there = c.requires.there in
    inr (
      c.index.result.now,
      omega (arith, some, there),
      c.index.ensures,
      omega (arith, some),
      inl (sym c.creates_one.ensures ∙ c.if-creates_one.false),
    )
