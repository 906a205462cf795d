use Rattle.store_image_spec.proofs.ShownPasts.{is_past, past_holds, table_shown}
use Rattle.store_image_spec.proofs.laws.an_image_shows_a_past.Goals as goal

pub returns-clause-past : goal.returns-clause-past
returns-clause-past c = is_past

pub returns-clause-values : goal.returns-clause-values
returns-clause-values c = past_holds

pub returns-clause-tables : goal.returns-clause-tables
returns-clause-tables c = table_shown
