use Rattle.journal.specs.RecordLaws.{stands_for_one}
use Rattle.journal.specs.DamageLaws.{not_damaged, damaged_at_one_place}
use Rattle.journal.specs.MountLaws.{opened_stands}
use Rattle.journal.proofs.FileCases.{stands_or_damaged}
use Rattle.journal.proofs.laws.a_file_stands_or_is_damaged.Goals as goal

pub returns-clause-some : goal.returns-clause-some
returns-clause-some c = stands_or_damaged

pub returns-clause-one : goal.returns-clause-one
returns-clause-one c = stands_for_one

pub returns-clause-place : goal.returns-clause-place
returns-clause-place c = damaged_at_one_place

pub returns-clause-apart : goal.returns-clause-apart
returns-clause-apart c = not_damaged

pub returns-clause-opened : goal.returns-clause-opened
returns-clause-opened c = opened_stands
