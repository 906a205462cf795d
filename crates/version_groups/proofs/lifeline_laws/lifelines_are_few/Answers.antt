use Rattle.std.proofs.Common.{arith}
use Rattle.version_groups.proofs.FewLifelines.{few_lifelines, few_sizes}
use Rattle.version_groups.proofs.lifeline_laws.lifelines_are_few.Goals as goal

pub returns-clause-versions : goal.returns-clause-versions
returns-clause-versions c = few_lifelines

pub returns-clause-sizes : goal.returns-clause-sizes
returns-clause-sizes c = λ kept past represents.
    let few = few_sizes kept past represents in
    let most = represents.valid.few in
    omega (arith, few, most)
