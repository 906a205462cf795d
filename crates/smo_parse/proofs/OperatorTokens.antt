-- The parts of the operators that have a tree, by name, and the tokens that they are.
use Rattle.std.proofs.Common.{◌≡◌, ℕ, List, [], ◌∷◌, ◌++◌, codes, Some, false, ap, ◌∙◌}
use Rattle.std.proofs.Common.{refl}
use Rattle.smo_ops_types.specs.Operators.{Operator, partition_table, join_table, add_column}
use Rattle.lexer_spec.specs.Lexemes.{Lexeme, word, sign}
use Rattle.lexer_combinators.specs.Grammar.{Grammar, Size}
use Rattle.lexer_combinators.specs.Grammar as grammar
use Rattle.lexer_combinators.specs.Derivations.{Derivation, derivation, after_lexeme, first_of}
use Rattle.lexer_combinators.specs.Derivations.{rest_of, source_of, lexeme_of}
use Rattle.lexer_combinators.proofs.DerivationLaws.{made_value, lexeme_first, lexemes_joined}
use Rattle.lexer_combinators.proofs.DerivationLaws.{size_of_rest, size_of_first, lexeme_says}
use Rattle.lexer_combinators.proofs.DerivationLaws.{lexeme_size, lexeme_alone}
use Rattle.lexer_trees_spec.specs.Constants.{as_name, name_grammar}
use Rattle.lexer_trees_spec.specs.Where.{IsWhere}
use Rattle.smo_parse.specs.Productions.{IsTest, IsTree, IsPartitionTable, IsJoinTable, IsAddColumn}
use Rattle.smo_parse.specs.OperatorParts.{partition_condition, join_condition, column_value}

-- a name, and the token that spells it
pub record Name : Type 0 where
  pub token : Lexeme
  pub name : List ℕ
  pub spells : as_name token ≡ Some name

abbrev pub name_of : Derivation name_grammar → Name
name_of d = record { token = lexeme_of d; name = d.value; spells = lexeme_says d }

-- ---- tokens one after the other

module _ {A : Type 0} {x : Lexeme} {G : Grammar A} (d : Derivation (grammar.lead x G))
    {more : List Lexeme} where
  led_by : (after_lexeme d).lexemes ≡ more → d.lexemes ≡ x ∷ more
  led_by e = lexeme_first d ∙ ap (λ l. x ∷ l) e

module _ {B : Type 0} {H : List ℕ → Grammar B} (d : Derivation (grammar.seq name_grammar H))
    {more : List Lexeme} where
  name_first : (rest_of d).lexemes ≡ more → d.lexemes ≡ lexeme_of (first_of d) ∷ more
  name_first e = lexemes_joined d ∙ ap (λ l. l ++ (rest_of d).lexemes) (lexeme_alone (first_of d))
      ∙ ap (λ l. lexeme_of (first_of d) ∷ l) e

module _ {A B : Type 0} {G : Grammar A} {H : A → Grammar B} (d : Derivation (grammar.seq G H))
    {more : List Lexeme} where
  tree_first : (rest_of d).lexemes ≡ more → d.lexemes ≡ (first_of d).lexemes ++ more
  tree_first e = lexemes_joined d ∙ ap (λ l. (first_of d).lexemes ++ l) e

-- ---- PARTITION TABLE name INTO name WITH cond , name

abbrev pub in_partition : Lexeme → Lexeme → List Lexeme → Lexeme → List Lexeme
in_partition table first condition second = word (codes "PARTITION") ∷ word (codes "TABLE")
    ∷ table ∷ word (codes "INTO") ∷ first ∷ word (codes "WITH")
    ∷ (condition ++ sign (codes ",") ∷ second ∷ [])

pub record PartitionParts (o : Operator) (s : Size) (f : List Lexeme) (c : Derivation IsTest)
    : Type 0 where
  pub table : Name
  pub first : Name
  pub second : Name
  pub operator_is : o ≡ partition_table table.name first.name c.value second.name
  pub size_is : s ≡ c.size
  pub tokens_are : f ≡ in_partition table.token first.token c.lexemes second.token

pub partition_parts : (o : Operator) (s : Size) (f : List Lexeme) (h : IsPartitionTable o s f)
    → PartitionParts o s f (partition_condition o s f h)
partition_parts o s f h =
    let whole : Derivation IsPartitionTable = derivation o s f h in
    let after_partition = after_lexeme whole in
    let from_table = after_lexeme after_partition in
    let after_table = rest_of from_table in
    let from_first = after_lexeme after_table in
    let after_first = rest_of from_first in
    let from_condition = after_lexeme after_first in
    let after_condition = rest_of from_condition in
    let from_second = after_lexeme after_condition in
    let second = source_of from_second in
    record {
      table = name_of (first_of from_table);
      first = name_of (first_of from_first);
      second = name_of second;
      operator_is = made_value from_second;
      size_is = size_of_rest from_table (lexeme_size (first_of from_table))
          ∙ size_of_rest from_first (lexeme_size (first_of from_first))
          ∙ size_of_first from_condition (lexeme_size second);
      tokens_are = led_by whole (led_by after_partition
          (name_first from_table (led_by after_table
          (name_first from_first (led_by after_first
          (tree_first from_condition (led_by after_condition (lexeme_alone second))))))));
    }

-- ---- JOIN TABLE name , name INTO name [ WHERE cond ]

abbrev pub in_join : Lexeme → Lexeme → Lexeme → List Lexeme → List Lexeme
in_join left right into condition = word (codes "JOIN") ∷ word (codes "TABLE") ∷ left
    ∷ sign (codes ",") ∷ right ∷ word (codes "INTO") ∷ into ∷ condition

pub record JoinParts (o : Operator) (s : Size) (f : List Lexeme) (c : Derivation (IsWhere false))
    : Type 0 where
  pub left : Name
  pub right : Name
  pub into : Name
  pub operator_is : o ≡ join_table left.name right.name into.name c.value
  pub size_is : s ≡ c.size
  pub tokens_are : f ≡ in_join left.token right.token into.token c.lexemes

pub join_parts : (o : Operator) (s : Size) (f : List Lexeme) (h : IsJoinTable o s f)
    → JoinParts o s f (join_condition o s f h)
join_parts o s f h =
    let whole : Derivation IsJoinTable = derivation o s f h in
    let after_join = after_lexeme whole in
    let from_left = after_lexeme after_join in
    let after_left = rest_of from_left in
    let from_right = after_lexeme after_left in
    let after_right = rest_of from_right in
    let from_into = after_lexeme after_right in
    let after_into = rest_of from_into in
    record {
      left = name_of (first_of from_left);
      right = name_of (first_of from_right);
      into = name_of (first_of from_into);
      operator_is = made_value after_into;
      size_is = size_of_rest from_left (lexeme_size (first_of from_left))
          ∙ size_of_rest from_right (lexeme_size (first_of from_right))
          ∙ size_of_rest from_into (lexeme_size (first_of from_into));
      tokens_are = led_by whole (led_by after_join
          (name_first from_left (led_by after_left
          (name_first from_right (led_by after_right
          (name_first from_into refl))))));
    }

-- ---- ADD COLUMN name AS expr INTO name

abbrev pub in_add : Lexeme → List Lexeme → Lexeme → List Lexeme
in_add column value table = word (codes "ADD") ∷ word (codes "COLUMN") ∷ column
    ∷ word (codes "AS") ∷ (value ++ word (codes "INTO") ∷ table ∷ [])

pub record AddParts (o : Operator) (s : Size) (f : List Lexeme) (e : Derivation IsTree)
    : Type 0 where
  pub column : Name
  pub table : Name
  pub operator_is : o ≡ add_column column.name e.value table.name
  pub size_is : s ≡ e.size
  pub tokens_are : f ≡ in_add column.token e.lexemes table.token

pub add_parts : (o : Operator) (s : Size) (f : List Lexeme) (h : IsAddColumn o s f)
    → AddParts o s f (column_value o s f h)
add_parts o s f h =
    let whole : Derivation IsAddColumn = derivation o s f h in
    let after_add = after_lexeme whole in
    let from_column = after_lexeme after_add in
    let after_column = rest_of from_column in
    let from_value = after_lexeme after_column in
    let after_value = rest_of from_value in
    let from_table = after_lexeme after_value in
    let table = source_of from_table in
    record {
      column = name_of (first_of from_column);
      table = name_of table;
      operator_is = made_value from_table;
      size_is = size_of_rest from_column (lexeme_size (first_of from_column))
          ∙ size_of_first from_value (lexeme_size table);
      tokens_are = led_by whole (led_by after_add
          (name_first from_column (led_by after_column
          (tree_first from_value (led_by after_value (lexeme_alone table))))));
    }
