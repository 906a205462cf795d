use Rattle.std.proofs.Common.{ap, ◌∙◌}
use Rattle.std.specs.Prelude.{Option, None}
use Rattle.std.specs.Option.{option_or}
use Rattle.smo_ops_types.specs.Operators.{partition_table}
use Rattle.smo_ops_spec.specs.Touching.{made_of}
use Rattle.smo_ops_spec.specs.Losses.{Loss, first_loss}
use Rattle.smo_ops_versions_spec.specs.ColumnLosses.{table_loss}
use Rattle.smo_ops_versions_spec.specs.LostNames.{rows_lost}
use Rattle.smo_ops_versions_spec.proofs.LossMaps.{none_or}
use Rattle.smo_ops_versions_spec.proofs.StepLosses.{is_lost, is_kept, is_gone, is_other}
use Rattle.smo_ops_versions_spec.proofs.StepLosses.{common_lost, condition_lost}
use Rattle.smo_ops_versions_spec.proofs.loss_laws.made_tables_are_lost_by_rules.Goals as goal

pub returns-clause-input : goal.returns-clause-input
returns-clause-input c = λ tables op losses n loss m e. is_lost tables op losses n loss
    (ap (λ (o : Option Loss). option_or o (rows_lost tables op losses)) e) m

pub returns-clause-partition : goal.returns-clause-partition
returns-clause-partition c = λ tables r s x t losses n loss m none e.
    is_lost tables (partition_table r s x t) losses n loss
    (ap (λ (o : Option Loss). option_or (option_or o None)
    (rows_lost tables (partition_table r s x t) losses)) none ∙ e) m

pub returns-clause-common : goal.returns-clause-common
returns-clause-common c = λ tables r s t x losses loss no_first no_second e.
    common_lost tables r s t x losses no_first no_second loss e

pub returns-clause-condition : goal.returns-clause-condition
returns-clause-condition c = λ tables r s t x losses loss no_first no_second none e.
    condition_lost tables r s t x losses no_first no_second loss none e

pub returns-clause-else_kept : goal.returns-clause-else_kept
returns-clause-else_kept c = λ tables op losses n m inputs rows. is_kept tables op losses n
    (none_or (first_loss (table_loss losses) (made_of op)) (rows_lost tables op losses) inputs rows)
    m

pub returns-clause-gone : goal.returns-clause-gone
returns-clause-gone c = λ tables op losses n e m. is_gone tables op losses n e m

pub returns-clause-others : goal.returns-clause-others
returns-clause-others c = λ tables op losses n e m. is_other tables op losses n e m
