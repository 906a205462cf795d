use Rattle.std.proofs.Common.{◌≡◌, map, subst}
use Rattle.std.specs.Prelude.{None}
use Rattle.piece_ir_spec.specs.Books.{first_missing}
use Rattle.piece_ir_spec.proofs.BookLaws.{has_each}
use Rattle.rewrite_rules_book.proofs.book.RuleBook.new.Goals as goal

pub returns-clause-each : goal.returns-clause-each
returns-clause-each g c =
    has_each _ c.args.rules.items (subst (λ rs. first_missing (map g.R.Rule.handles rs) ≡ None)
    c.deref.ensures.value c.in_ok-check_rules.ensures.each)
