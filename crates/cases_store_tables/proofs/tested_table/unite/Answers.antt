use Rattle.std.proofs.Common.{ap, arith}
use Rattle.cases_store_tables.proofs.TestedLaws.{all_later, same_before}
use Rattle.cases_store_tables.proofs.tested_table.unite.Goals as goal

pub returns-in_err-prepared-clause-later : goal.returns-in_err-prepared-clause-later
returns-in_err-prepared-clause-later c = λ m l.
    let same = c.prepare_union.ensures.same in
    same_before c.args.stored.now c.prepare_union.new.self m (ap (λ s. s.keys) same)
    (ap (λ s. s.cells) same) (all_later c.args.stored.now c.args.stamp m (omega arith)
    c.requires.before)
