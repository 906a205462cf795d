-- The tables that any accepted operator makes are given by its views.
use Rattle.std.proofs.Common.{◌≡◌}
use Rattle.std.specs.Prelude.{None}
use Rattle.prima_base.specs.declared.refusal.OpKind.{OpKind}
use Rattle.schema_catalog.specs.Tables.{Tables}
use Rattle.smo_ops_types.specs.Operators.{Operator, nop, create_table, drop_table, rename_table}
use Rattle.smo_ops_types.specs.Operators.{copy_table, merge_table, partition_table, decompose_table}
use Rattle.smo_ops_types.specs.Operators.{join_table, add_column, drop_column, rename_column}
use Rattle.smo_ops_spec.specs.After.{op_fault, IsValid}
use Rattle.piece_ir_spec.specs.Given.{AreViews}
use Rattle.piece_ir_spec.specs.Rules.{HasViews}
use Rattle.piece_ir_spec.specs.OperatorViews.{operator_views}
use Rattle.piece_ir_spec.proofs.OneViews.{rename_table_views, copy_table_views, add_column_views}
use Rattle.piece_ir_spec.proofs.OneViews.{drop_column_views, rename_column_views}
use Rattle.piece_ir_spec.proofs.SplitViews.{nop_views, create_table_views, drop_table_views}
use Rattle.piece_ir_spec.proofs.SplitViews.{merge_table_views, partition_table_views}
use Rattle.piece_ir_spec.proofs.SplitViews.{decompose_table_views}
use Rattle.piece_ir_spec.proofs.JoinViews.{join_table_views}

pub each_views : (tables : Tables) (op : Operator) → IsValid tables → op_fault tables op ≡ None
    → AreViews tables op (operator_views tables op)
each_views tables nop h e = nop_views tables
each_views tables (create_table r cs) h e = create_table_views tables r cs
each_views tables (drop_table r) h e = drop_table_views tables r
each_views tables (rename_table r t) h e = rename_table_views tables r t e
each_views tables (copy_table r t) h e = copy_table_views tables r t e
each_views tables (merge_table r s t) h e = merge_table_views tables r s t e
each_views tables (partition_table r s c t) h e = partition_table_views tables r s t c e
each_views tables (decompose_table r s xs t ys) h e = decompose_table_views tables r s t h xs ys e
each_views tables (join_table r s t c) h e = join_table_views tables r s c h t e
each_views tables (add_column c t r) h e = add_column_views tables r h c t e
each_views tables (drop_column c r) h e = drop_column_views tables r h c e
each_views tables (rename_column b r c) h e = rename_column_views tables r h c b e

pub kind_views : (kind : OpKind) → HasViews kind operator_views
kind_views kind tables op k h e = each_views tables op h e
