-- The law of losses: what is lost, by names alone, tells how far two databases stay alike.
use Rattle.std.specs.Prelude.{◌≡◌, List, None}
use Rattle.prima_base.specs.declared.value.Value.{Value}
use Rattle.schema_catalog.specs.Tables.{Tables}
use Rattle.schema_catalog.specs.Databases.{Database}
use Rattle.cond_expr.specs.Trees.{constant}
use Rattle.cond_expr.specs.Kinds.{value_kind}
use Rattle.smo_ops_types.specs.Operators.{Operator, add_column}
use Rattle.smo_ops_spec.specs.Losses.{Loss}
use Rattle.smo_ops_spec.specs.After.{op_fault, schema_after, migrate, IsValid}
use Rattle.smo_ops_spec.specs.WaysBack.{FilledColumn}
use Rattle.smo_ops_versions_spec.specs.Migration.{undone}
use Rattle.smo_ops_versions_spec.specs.ColumnLosses.{Losses}
use Rattle.smo_ops_versions_spec.specs.LostNames.{losses_over, losses_filled, losses_undone}
use Rattle.plain_answers_spec.specs.Branches.{PlainBranch, plain}
use Rattle.temporal_lang_spec.specs.Losing.{items_loss}
use Rattle.temporal_lang_losses_spec.specs.Agreeing.{AgreeUpTo}

-- Two databases that agree up to losses agree again behind each step of a way, up to the losses
-- that are told by names alone; and branches none of whose items is lost answer the same over both.
pub record LawOfLosses : Type 0 where
  -- behind an operator that is accepted on the schema
  pub over : (tables : Tables) (op : Operator) (losses : Losses) (a b : Database)
      → IsValid tables → op_fault tables op ≡ None → AgreeUpTo tables losses a b
      → AgreeUpTo (schema_after tables op) (losses_over tables op losses)
      (migrate tables op a) (migrate tables op b)
  -- behind two fillings of one column, one for each database, by any two constants of one type
  pub filled : (tables : Tables) (f : FilledColumn) (loss : Loss) (losses : Losses)
      (a b : Database) (v w : Value)
      → IsValid tables → op_fault tables (add_column f.name (constant v) f.table) ≡ None
      → value_kind v ≡ f.kind → value_kind w ≡ f.kind → AgreeUpTo tables losses a b
      → AgreeUpTo (schema_after tables (add_column f.name (constant v) f.table))
      (losses_filled loss f losses)
      (migrate tables (add_column f.name (constant v) f.table) a)
      (migrate tables (add_column f.name (constant w) f.table) b)
  -- behind the way back over an operator that has none
  pub undone : (before : Tables) (op : Operator) (loss : Loss) (losses : Losses) (a b : Database)
      → op_fault before op ≡ None → AgreeUpTo (schema_after before op) losses a b
      → AgreeUpTo before (losses_undone loss before op losses) (undone loss before op a)
      (undone loss before op b)
  pub alike : (tables : Tables) (losses : Losses) (branches : List PlainBranch) (a b : Database)
      → items_loss losses branches ≡ None → AgreeUpTo tables losses a b
      → plain tables branches a ≡ plain tables branches b
