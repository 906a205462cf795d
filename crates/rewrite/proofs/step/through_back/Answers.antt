use Rattle.std.proofs.Common.{◌∙◌, List, sym, ap, subst}
use Rattle.std.specs.Option.{option_map}
use Rattle.smo_ops_types.specs.Operators.{operator_of}
use Rattle.piece_ir_spec.specs.Typed.{AllTyped}
use Rattle.piece_ir_spec.specs.Books.{book_of}
use Rattle.piece_ir.specs.Shown.{shown_pieces}
use Rattle.piece_ir.specs.declared.piece.Piece.{Piece}
use Rattle.piece_ir_spec.specs.Chains.{through}
use Rattle.rewrite.proofs.CodeSteps.{derived_valid, derived_accepted, derived_typed, derived_is}
use Rattle.rewrite.proofs.step.through_back.Goals as goal

pub through-requires-clause-valid : goal.through-requires-clause-valid
through-requires-clause-valid g c =
    derived_valid c.args.before.now (operator_of c.args.op.now) c.requires.valid
    c.requires.columns c.requires.accepted c.args.next.now c.requires.next

pub through-requires-clause-accepted : goal.through-requires-clause-accepted
through-requires-clause-accepted g c =
    derived_accepted c.args.before.now (operator_of c.args.op.now) c.requires.valid
    c.requires.columns c.requires.accepted c.args.next.now (operator_of c.in-Some.back)
    c.requires.next (sym c.in_ok-derived.ensures ∙ ap (option_map operator_of) c.in-Some.is)

pub through-requires-clause-typed : goal.through-requires-clause-typed
through-requires-clause-typed g c =
    derived_typed c.args.before.now (operator_of c.args.op.now) c.requires.valid
    c.requires.columns c.requires.accepted c.args.next.now (operator_of c.in-Some.back)
    (shown_pieces c.deref.result.now) c.requires.next
    (sym c.in_ok-derived.ensures ∙ ap (option_map operator_of) c.in-Some.is)
    (subst (λ (xs : List Piece). AllTyped c.args.before.now (shown_pieces xs))
    (sym c.deref.ensures.value) c.requires.typed)

pub returns-in_ok-news-in-Some-clause-is : goal.returns-in_ok-news-in-Some-clause-is
returns-in_ok-news-in-Some-clause-is g c = λ loss.
    derived_is (book_of g.R.Rule.handles g.R.Rule.answers c.args.book.now.rules.items)
    c.args.before.now c.args.next.now (operator_of c.args.op.now)
    (operator_of c.in-Some.back) (shown_pieces c.args.pieces.items)
    (shown_pieces c.in_ok-news-in-Some.news.items) loss
    c.requires.next (sym c.in_ok-derived.ensures ∙ ap (option_map operator_of) c.in-Some.is)
    (c.in_ok-news-in-Some.ensures.is ∙ ap (λ (xs : List Piece). through
    (book_of g.R.Rule.handles g.R.Rule.answers c.args.book.now.rules.items)
    (operator_of c.in-Some.back) c.args.next.now
    (shown_pieces xs)) c.deref.ensures.value)
