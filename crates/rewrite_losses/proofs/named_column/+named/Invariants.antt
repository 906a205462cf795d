use Rattle.std.proofs.Common.{◌≡◌, map, drop}
use Rattle.std.specs.Option.{option_copied, option_or}
use Rattle.cond_expr.specs.Seen.{tree, test, trees_of, tests_of}
use Rattle.cond_expr.specs.Faults.{trees_references, tests_references}
use Rattle.smo_ops_spec.specs.Touching.{these_names}
use Rattle.smo_ops_versions_spec.specs.LostNames.{first_named}
use Rattle.rewrite_losses.specs.TableLosses.{loss_in_tables}
use Rattle.rewrite_losses.proofs.named_column.+named.Given as goal

abbrev pub invariant-list_loss-loop-part : goal.invariant-list_loss-loop-part
invariant-list_loss-loop-part l =
    option_or l.loss (first_named (loss_in_tables l.losses
    (these_names (option_copied l.tables.first) (option_copied l.tables.second)))
    (trees_references (trees_of (map tree (drop l.part-index l.list)))))
    ≡ first_named (loss_in_tables l.losses
    (these_names (option_copied l.tables.first) (option_copied l.tables.second)))
    (trees_references (trees_of (map tree l.list)))

abbrev pub invariant-conds_loss-loop-part : goal.invariant-conds_loss-loop-part
invariant-conds_loss-loop-part l =
    option_or l.loss (first_named (loss_in_tables l.losses
    (these_names (option_copied l.tables.first) (option_copied l.tables.second)))
    (tests_references (tests_of (map test (drop l.part-index l.list)))))
    ≡ first_named (loss_in_tables l.losses
    (these_names (option_copied l.tables.first) (option_copied l.tables.second)))
    (tests_references (tests_of (map test l.list)))
