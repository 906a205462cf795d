use Rattle.std.proofs.Common.{Bool, ap, ◌∙◌}
use Rattle.std.specs.Prelude.{false, Option, None, ◌||◌, if◌then◌else◌}
use Rattle.std.specs.Option.{option_or}
use Rattle.cond_expr.specs.Faults.{references}
use Rattle.smo_ops_types.specs.Operators.{add_column, rename_column}
use Rattle.smo_ops_spec.specs.Touching.{made_of}
use Rattle.smo_ops_spec.specs.Losses.{Loss, first_loss}
use Rattle.smo_ops_spec.proofs.NameLaws.{same_itself}
use Rattle.smo_ops_versions_spec.specs.ColumnLosses.{table_loss, column_loss}
use Rattle.smo_ops_versions_spec.specs.LostNames.{first_named, rows_lost}
use Rattle.smo_ops_versions_spec.proofs.LossMaps.{none_or}
use Rattle.smo_ops_versions_spec.proofs.StepLosses.{column_is, by_inputs}
use Rattle.smo_ops_versions_spec.proofs.loss_laws.made_columns_are_lost_by_rules.Goals as goal

pub returns-clause-column : goal.returns-clause-column
returns-clause-column c = λ tables op losses n columns x m e i inputs rows other.
    column_is tables op losses n columns x m e i
    (none_or (first_loss (table_loss losses) (made_of op)) (rows_lost tables op losses) inputs rows)
    ∙ by_inputs op losses x other

pub returns-clause-added : goal.returns-clause-added
returns-clause-added c = λ tables x e r losses columns after i none.
    column_is tables (add_column x e r) losses r columns x
    (ap (λ (b : Bool). b || false) (same_itself r)) after i
    (ap (λ (o : Option Loss). option_or (option_or o None) None) none)
    ∙ ap (λ (b : Bool). if b then first_named (column_loss losses r) (references e)
    else column_loss losses r x) (same_itself x)

pub returns-clause-renamed : goal.returns-clause-renamed
returns-clause-renamed c = λ tables b r x losses columns after i none.
    column_is tables (rename_column b r x) losses r columns x
    (ap (λ (s : Bool). s || false) (same_itself r)) after i
    (ap (λ (o : Option Loss). option_or (option_or o None) None) none)
    ∙ ap (λ (s : Bool). if s then column_loss losses r b else column_loss losses r x)
    (same_itself x)
