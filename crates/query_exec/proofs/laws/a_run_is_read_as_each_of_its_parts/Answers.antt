use Rattle.query_exec.proofs.RunLaws.{goes_mean, goes_reads}
use Rattle.query_exec.proofs.laws.a_run_is_read_as_each_of_its_parts.Goals as goal

pub returns-clause-rows : goal.returns-clause-rows
returns-clause-rows c = λ kept first more period run x among m inside l.
    goes_mean kept first x (run.each x among) m inside l

pub returns-clause-reads : goal.returns-clause-reads
returns-clause-reads c = λ kept first more period run x among.
    goes_reads kept first x (run.each x among)
