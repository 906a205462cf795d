use Rattle.archive_core_file_spec.proofs.Files.{opens_or_damaged, opens_once, damaged_once}
use Rattle.archive_core_file_spec.proofs.Files.{never_both}
use Rattle.archive_core_file_spec.proofs.laws.a_file_opens_or_is_damaged.Goals as goal

pub returns-clause-some : goal.returns-clause-some
returns-clause-some c = opens_or_damaged c.an_image_is_what_is_read.ensures.right

pub returns-clause-one : goal.returns-clause-one
returns-clause-one c = opens_once c.an_image_is_what_is_read.ensures.complete

pub returns-clause-place : goal.returns-clause-place
returns-clause-place c = damaged_once c.an_image_is_what_is_read.ensures.complete

pub returns-clause-apart : goal.returns-clause-apart
returns-clause-apart c = never_both c.an_image_is_what_is_read.ensures.complete
