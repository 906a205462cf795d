use Rattle.version_groups.proofs.EachLifeline.{numbered_where}
use Rattle.version_groups.proofs.LongestRuns.{all_longest}
use Rattle.version_groups.proofs.lifeline_laws.lifelines_are_longest_runs.Goals as goal

pub returns-clause-runs : goal.returns-clause-runs
returns-clause-runs c = λ versions l a i. all_longest versions a l i

pub returns-clause-tables : goal.returns-clause-tables
returns-clause-tables c = λ versions k name a l. numbered_where versions a k name l
