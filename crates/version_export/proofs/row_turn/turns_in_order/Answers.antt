use Rattle.std.proofs.Common.{◌∙◌, ap, sym}
use Rattle.version_export.specs.ByListings.{all_listed_of}
use Rattle.version_export.specs.Turns.{commands_of}
use Rattle.version_export.proofs.Turned.{by_turns}
use Rattle.version_export.proofs.RowOrder.{rises, commands_stay}
use Rattle.version_export.proofs.row_turn.turns_in_order.Goals as goal

pub returns-clause-order : goal.returns-clause-order
returns-clause-order c = rises c.put_in_order.new.turns.items c.in_ok-put_in_order.ensures.order

pub returns-clause-commands : goal.returns-clause-commands
returns-clause-commands c =
    commands_stay c.in_ok-turns.turns.items c.put_in_order.new.turns.items
    c.in_ok-put_in_order.ensures.stable
    ∙ ap commands_of c.in_ok-turns.ensures
    ∙ sym (by_turns c.args.first (all_listed_of c.args.tables.now))
