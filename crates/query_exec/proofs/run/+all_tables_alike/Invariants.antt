use Rattle.std.proofs.Common.{length}
use Rattle.query_exec.proofs.run.+all_tables_alike.Given as goal

abbrev pub decreases-all_tables_alike : goal.decreases-all_tables_alike
decreases-all_tables_alike l = length l.names.now
