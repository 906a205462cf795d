use Rattle.piece_ir_spec.proofs.BookLaws.{valid_book, has_each}
use Rattle.piece_ir_spec.proofs.piece_laws.valid_rules_make_a_valid_book.Goals as goal

pub returns-clause-valid : goal.returns-clause-valid
returns-clause-valid g c = λ handles answers rules valid has.
    valid_book handles answers rules valid has

pub returns-clause-each : goal.returns-clause-each
returns-clause-each g c = λ handles rules none. has_each handles rules none
