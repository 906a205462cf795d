use Rattle.piece_ir_spec.proofs.BookLaws.{valid_book, has_each}
use Rattle.rewrite_rules_book.proofs.book.known.Goals as goal

pub returns : goal.returns
returns g c =
    valid_book _ _ c.args.rules.now c.all_known.ensures (has_each _ c.args.rules.now c.requires)
