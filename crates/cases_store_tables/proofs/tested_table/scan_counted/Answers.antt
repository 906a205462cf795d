use Rattle.std.proofs.Common.{ap, map, ◌∙◌}
use Rattle.cases_store_tables.proofs.ScannedLaws.{periods_are}
use Rattle.cases_store_tables.proofs.tested_table.scan_counted.Goals as goal

pub returns-clause-keys : goal.returns-clause-keys
returns-clause-keys g c = c.in_ok-keys.ensures
    ∙ ap (map (λ k. k.period)) c.scan_keys.ensures.entries ∙ periods_are 0 c.args.stored.now.keys

pub returns-clause-valid : goal.returns-clause-valid
returns-clause-valid g c = c.scan_keys.ensures.valid
