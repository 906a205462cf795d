use Rattle.std.proofs.Common.{false}
use Rattle.lexer_trees_spec.proofs.Singles.{name_correct, natural_correct, moment_correct}
use Rattle.lexer_trees_spec.proofs.Singles.{small_correct, int_correct, literal_correct}
use Rattle.lexer_trees_spec.proofs.Singles.{constant_correct, names_correct}
use Rattle.lexer_trees_spec.proofs.laws.constants_are_read.Goals as goal

pub returns : goal.returns
returns c = record {
  name = λ low d. name_correct low d (λ x. false);
  natural = λ most low d. natural_correct most low d (λ x. false);
  moment = λ low d. moment_correct low d (λ x. false);
  small = λ low d. small_correct low d (λ x. false);
  int = λ low d. int_correct low d (λ x. false);
  literal = λ low d. literal_correct low d (λ x. false);
  constant = λ low d. constant_correct low d (λ x. false);
  names = names_correct;
}
