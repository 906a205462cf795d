use Rattle.std.proofs.Common.{◌≡◌, [], IfOk, sym, subst}
use Rattle.smo_ops_types.specs.declared.op.Op.{Op}
use Rattle.smo_ops_types.specs.Operators.{operator_of}
use Rattle.piece_ir.specs.Shown.{all_views_of}
use Rattle.piece_ir_spec.specs.OperatorViews.{operator_views}
use Rattle.rewrite_rules.proofs.made_table.made_tables.Goals as goal

pub returns-in-CreateTable : goal.returns-in-CreateTable
returns-in-CreateTable c =
    subst (λ (o : Op). IfOk c.views.result (λ v.
    all_views_of v.items ≡ operator_views c.args.before.now (operator_of o)))
    (sym c.in-CreateTable.is)
    (c.views.ensures c.args.before.now [])

pub returns-in-RenameTable : goal.returns-in-RenameTable
returns-in-RenameTable c =
    subst (λ (o : Op). IfOk c.views-in-RenameTable.result
    (λ v. all_views_of v.items ≡ operator_views c.args.before.now (operator_of o)))
    (sym c.in-RenameTable.is)
    (c.views-in-RenameTable.ensures c.args.before.now)

pub returns-in-CopyTable : goal.returns-in-CopyTable
returns-in-CopyTable c =
    subst (λ (o : Op). IfOk c.views-in-CopyTable.result
    (λ v. all_views_of v.items ≡ operator_views c.args.before.now (operator_of o)))
    (sym c.in-CopyTable.is)
    (c.views-in-CopyTable.ensures c.args.before.now)

pub returns-in-MergeTable : goal.returns-in-MergeTable
returns-in-MergeTable c =
    subst (λ (o : Op). IfOk c.views-in-MergeTable.result
    (λ v. all_views_of v.items ≡ operator_views c.args.before.now (operator_of o)))
    (sym c.in-MergeTable.is)
    (c.views-in-MergeTable.ensures c.args.before.now)

pub returns-in-PartitionTable : goal.returns-in-PartitionTable
returns-in-PartitionTable c =
    subst (λ (o : Op). IfOk c.views-in-PartitionTable.result
    (λ v. all_views_of v.items ≡ operator_views c.args.before.now (operator_of o)))
    (sym c.in-PartitionTable.is)
    (c.views-in-PartitionTable.ensures c.args.before.now)

pub returns-in-DecomposeTable : goal.returns-in-DecomposeTable
returns-in-DecomposeTable c =
    subst (λ (o : Op). IfOk c.views-in-DecomposeTable.result
    (λ v. all_views_of v.items ≡ operator_views c.args.before.now (operator_of o)))
    (sym c.in-DecomposeTable.is)
    (c.views-in-DecomposeTable.ensures c.args.before.now [] [])

pub returns-in-AddColumn : goal.returns-in-AddColumn
returns-in-AddColumn c =
    subst (λ (o : Op). IfOk c.views-in-AddColumn.result
    (λ v. all_views_of v.items ≡ operator_views c.args.before.now (operator_of o)))
    (sym c.in-AddColumn.is)
    (c.views-in-AddColumn.ensures c.args.before.now)

pub returns-in-DropColumn : goal.returns-in-DropColumn
returns-in-DropColumn c =
    subst (λ (o : Op). IfOk c.views-in-DropColumn.result
    (λ v. all_views_of v.items ≡ operator_views c.args.before.now (operator_of o)))
    (sym c.in-DropColumn.is)
    (c.views-in-DropColumn.ensures c.args.before.now [])

pub returns-in-RenameColumn : goal.returns-in-RenameColumn
returns-in-RenameColumn c =
    subst (λ (o : Op). IfOk c.views-in-RenameColumn.result
    (λ v. all_views_of v.items ≡ operator_views c.args.before.now (operator_of o)))
    (sym c.in-RenameColumn.is)
    (c.views-in-RenameColumn.ensures c.args.before.now)
