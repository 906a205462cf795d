use Rattle.std.proofs.Common.{ℕ, List, ap, ◌∙◌}
use Rattle.std.specs.Prelude.{not}
use Rattle.std.specs.List.{filter}
use Rattle.prima_base.specs.Columns.{Column}
use Rattle.schema_catalog.specs.Databases.{cell}
use Rattle.cond_expr.specs.Seen.{tree, test}
use Rattle.smo_ops_spec.specs.OneRow.{Row, meets}
use Rattle.smo_ops_spec.specs.Effects.{columns_of}
use Rattle.smo_ops_spec.specs.Making.{named, without, renamed, with_column, type_of_value, image}
use Rattle.smo_ops_spec.specs.Making.{added_value, moved, join_rows}
use Rattle.smo_maps.proofs.Arms.{arm, if_both}
use Rattle.smo_maps.proofs.map.carry.Goals as goal

pub returns-in-CreateTable : goal.returns-in-CreateTable
returns-in-CreateTable c = arm c.args.before.now c.args.op.now _ c.args.first.now c.args.second.now
    _ _ c.in-CreateTable.is c.requires.accepted
    (c.none-in-CreateTable.ensures.first, c.none-in-CreateTable.ensures.second)

pub returns-in_ok-copied-in-RenameTable : goal.returns-in_ok-copied-in-RenameTable
returns-in_ok-copied-in-RenameTable c = arm c.args.before.now c.args.op.now _ c.args.first.now
    c.args.second.now _ _ c.in-RenameTable.is c.requires.accepted
    (c.one.ensures.first ∙ c.in_ok-copied-in-RenameTable.ensures, c.one.ensures.second)

pub returns-in_ok-copied-in-CopyTable : goal.returns-in_ok-copied-in-CopyTable
returns-in_ok-copied-in-CopyTable c = arm c.args.before.now c.args.op.now _ c.args.first.now
    c.args.second.now _ _ c.in-CopyTable.is c.requires.accepted (
      c.one-in-CopyTable.ensures.first ∙ c.in_ok-copied-in-CopyTable.ensures,
      c.one-in-CopyTable.ensures.second,
    )

pub returns-in_ok-united-in-MergeTable : goal.returns-in_ok-united-in-MergeTable
returns-in_ok-united-in-MergeTable c = arm c.args.before.now c.args.op.now _ c.args.first.now
    c.args.second.now _ _ c.in-MergeTable.is c.requires.accepted (
      c.one-in-MergeTable.ensures.first ∙ c.in_ok-united-in-MergeTable.ensures,
      c.one-in-MergeTable.ensures.second,
    )

pub returns-in-PartitionTable : goal.returns-in-PartitionTable
returns-in-PartitionTable c = if_both c.parted.result c.parted.ensures.yes c.parted.ensures.no
    (λ v yes no.
    arm c.args.before.now c.args.op.now _ c.args.first.now c.args.second.now _ _
    c.in-PartitionTable.is c.requires.accepted (
      yes ∙ ap (λ (cs : List Column). filter (meets cs (test c.in-PartitionTable.cond))
          c.args.first.now) c.columns_of.ensures.columns,
      no ∙ ap (λ (cs : List Column). filter (λ (row : Row).
          not (meets cs (test c.in-PartitionTable.cond) row)) c.args.first.now)
          c.columns_of.ensures.columns,
    ))

pub returns-in_ok-with_names-in-DecomposeTable-2 : goal.returns-in_ok-with_names-in-DecomposeTable-2
returns-in_ok-with_names-in-DecomposeTable-2 c =
    let cs = c.columns_of-columns.result.now in
    arm c.args.before.now c.args.op.now _ c.args.first.now c.args.second.now _ _
    c.in-DecomposeTable.is c.requires.accepted (
      c.in_ok-with_names-in-DecomposeTable.ensures
          ∙ ap (λ (xs : List (List ℕ)). image (named xs cs) (cell cs) c.args.first.now)
          c.deref.ensures.value
          ∙ ap (λ (ds : List Column). image (named c.in-DecomposeTable.left_columns.items ds)
          (cell ds) c.args.first.now) c.columns_of-columns.ensures.columns,
      c.in_ok-with_names-in-DecomposeTable-2.ensures
          ∙ ap (λ (xs : List (List ℕ)). image (named xs cs) (cell cs) c.args.first.now)
          c.deref-in-DecomposeTable.ensures.value
          ∙ ap (λ (ds : List Column). image (named c.in-DecomposeTable.right_columns.items ds)
          (cell ds) c.args.first.now) c.columns_of-columns.ensures.columns,
    )

pub returns-in_ok-joined-in-JoinTable : goal.returns-in_ok-joined-in-JoinTable
returns-in_ok-joined-in-JoinTable c = arm c.args.before.now c.args.op.now _ c.args.first.now
    c.args.second.now _ _ c.in-JoinTable.is c.requires.accepted (
      c.one-in-JoinTable.ensures.first ∙ c.in_ok-joined-in-JoinTable.ensures
          ∙ ap (λ (cs : List Column). join_rows cs c.columns_of-others.result.now
          (test c.in-JoinTable.cond) c.args.first.now c.args.second.now)
          c.columns_of-columns-in-JoinTable.ensures.columns
          ∙ ap (λ (ds : List Column). join_rows
          (columns_of c.args.before.now c.in-JoinTable.left) ds
          (test c.in-JoinTable.cond) c.args.first.now c.args.second.now)
          c.columns_of-others.ensures.columns,
      c.one-in-JoinTable.ensures.second,
    )

pub returns-in_ok-with_value-in-AddColumn : goal.returns-in_ok-with_value-in-AddColumn
returns-in_ok-with_value-in-AddColumn c =
    let kind = type_of_value (columns_of c.args.before.now c.in-AddColumn.table)
    (tree c.in-AddColumn.expr) in
    arm c.args.before.now c.args.op.now _ c.args.first.now c.args.second.now _ _ c.in-AddColumn.is
    c.requires.accepted (
      c.one-in-AddColumn.ensures.first ∙ c.in_ok-with_value-in-AddColumn.ensures kind
          ∙ ap (λ (cs : List Column). image (with_column c.in-AddColumn.column kind cs)
          (added_value cs c.in-AddColumn.column (tree c.in-AddColumn.expr)) c.args.first.now)
          c.columns_of-columns-in-AddColumn.ensures.columns,
      c.one-in-AddColumn.ensures.second,
    )

pub returns-in_ok-without_column-in-DropColumn : goal.returns-in_ok-without_column-in-DropColumn
returns-in_ok-without_column-in-DropColumn c =
    arm c.args.before.now c.args.op.now _ c.args.first.now c.args.second.now _ _ c.in-DropColumn.is
    c.requires.accepted (
      c.one-in-DropColumn.ensures.first ∙ c.in_ok-without_column-in-DropColumn.ensures
          ∙ ap (λ (cs : List Column). image (without c.in-DropColumn.column cs) (cell cs)
          c.args.first.now) c.columns_of-columns-in-DropColumn.ensures.columns,
      c.one-in-DropColumn.ensures.second,
    )

pub returns-in_ok-under_another_name-in-RenameColumn :
    goal.returns-in_ok-under_another_name-in-RenameColumn
returns-in_ok-under_another_name-in-RenameColumn c =
    arm c.args.before.now c.args.op.now _ c.args.first.now c.args.second.now _ _
    c.in-RenameColumn.is c.requires.accepted (
      c.one-in-RenameColumn.ensures.first ∙ c.in_ok-under_another_name-in-RenameColumn.ensures
          ∙ ap (λ (cs : List Column). image
          (renamed c.in-RenameColumn.column c.in-RenameColumn.into cs)
          (moved cs c.in-RenameColumn.column c.in-RenameColumn.into) c.args.first.now)
          c.columns_of-columns-in-RenameColumn.ensures.columns,
      c.one-in-RenameColumn.ensures.second,
    )
