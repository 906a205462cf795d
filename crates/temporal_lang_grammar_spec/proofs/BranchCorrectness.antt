-- The readers of branches are good for their grammars.
use Rattle.std.proofs.Common.{◌≡◌, ℕ, Bool, true, false, is_some, Option, Some, None, ◌||◌, List}
use Rattle.std.proofs.Common.{◌++◌, refl, codes}
use Rattle.prima_base.specs.declared.refusal.What.TheVariants.{Outputs, Tables, Branches}
use Rattle.cond_expr.specs.Trees.{Tree, always}
use Rattle.lexer_spec.specs.Lexemes.{Lexeme, word, sign, is_word, is_sign, is_name}
use Rattle.lexer_combinators.specs.Parsing.{IsCorrectParser, Stops, bind, lead, map_to}
use Rattle.lexer_combinators.specs.Grammar.{Size}
use Rattle.lexer_combinators.specs.Grammar as grammar
use Rattle.lexer_trees_spec.specs.Grammar.{IsExpr, IsCond}
use Rattle.lexer_trees_spec.specs.Reader.{outermost, follow_expr}
use Rattle.lexer_trees_spec.specs.Constants.{as_name, name, name_grammar}
use Rattle.lexer_spec.proofs.Cases.{true_false}
use Rattle.lexer_combinators.proofs.Parsing.{correct_follow, bind_correct, bind_lead, lead_correct}
use Rattle.lexer_combinators.proofs.Parsing.{map_correct}
use Rattle.lexer_spec.proofs.LexemeTests.{word_is, word_exact, sign_is, sign_exact}
use Rattle.lexer_combinators.proofs.Alternatives.{stops_never, or_left, or_right, stops_fewer}
use Rattle.lexer_trees_spec.proofs.Singles.{name_correct, maybe_correct}
use Rattle.lexer_combinators.proofs.Fresh.{fresh_correct}
use Rattle.lexer_trees_spec.proofs.Correctness.{outermost_correct}
use Rattle.lexer_trees_spec.specs.Where.{IsFreshWhere, fresh_where, follow_where}
use Rattle.lexer_trees_spec.proofs.Where.{fresh_where_correct}
use Rattle.plain_answers_spec.specs.Branches.{Item, PlainBranch, a_branch}
use Rattle.temporal_lang_grammar_spec.specs.QueryGrammar.{IsOutput, AreOutputs, IsAlias, IsItem}
use Rattle.temporal_lang_grammar_spec.specs.QueryGrammar.{AreItems}
use Rattle.temporal_lang_grammar_spec.specs.QueryGrammar.{IsBranch, AreBranches}
use Rattle.temporal_lang_grammar_spec.specs.QueryReader.{output, outputs, alias, item, items}
use Rattle.temporal_lang_grammar_spec.specs.QueryReader.{branch, branches}
use Rattle.temporal_lang_grammar_spec.specs.QueryReader.{follow_item, follow_items, follow_branch}
use Rattle.temporal_lang_grammar_spec.specs.QueryReader.{follow_branches}
use Rattle.temporal_lang_grammar_spec.proofs.CountedLists.{option_prefix, counted_correct}

-- goes on with nothing
abbrev pub ends : Lexeme → Bool
ends x = false

-- ---- outputs

pub output_correct : IsCorrectParser 0 32 output IsOutput (follow_expr true)
unfolding output
output_correct = fresh_correct 32 (outermost true).expr (IsExpr true) 0 (follow_expr true)
    (outermost_correct true).expr

-- a comma, and what an expression goes on with
abbrev pub follow_outputs : Lexeme → Bool
follow_outputs x = is_sign (codes ",") x || follow_expr true x

pub outputs_correct : IsCorrectParser 0 32 outputs AreOutputs follow_outputs
unfolding outputs
outputs_correct = counted_correct (is_sign (codes ",")) (sign (codes ",")) (sign_is (codes ","))
    (sign_exact (codes ",")) output IsOutput (follow_expr true) output_correct refl Outputs
    (λ s n h. h) 31 refl

-- ---- items

-- what is no name names no alias
not_named : (o : Option (List ℕ)) → is_some o ≡ false → o ≡ None
not_named None e = refl
not_named (Some n) e = true_false e

pub alias_correct : (table : List ℕ) → IsCorrectParser 0 32 (alias table) (IsAlias table)
    follow_item
unfolding alias
alias_correct table = maybe_correct 0 32 as_name table follow_item (λ x e. not_named (as_name x) e)

pub named_correct : (table : List ℕ) → IsCorrectParser {A = Item} 0 32
    (map_to (λ named. (table, named)) (alias table))
    (grammar.map (λ named. (table, named)) (IsAlias table)) follow_item
named_correct table = map_correct 0 32 (λ named. (table, named)) (alias table) (IsAlias table)
    follow_item (alias_correct table)

pub item_correct : IsCorrectParser 0 32 item IsItem follow_item
unfolding item
item_correct = bind_correct 0 32 name _ name_grammar _ ends follow_item (name_correct 0 32 ends)
    named_correct (λ a b s ts rest h stops. stops_never (ts ++ rest))

pub items_correct : IsCorrectParser 0 32 items AreItems follow_items
unfolding items
items_correct = counted_correct (is_sign (codes ",")) (sign (codes ",")) (sign_is (codes ","))
    (sign_exact (codes ",")) item IsItem follow_item item_correct refl Tables (λ s n h. h) 7 refl

-- ---- branches

-- what stops a branch stops its parts
fewer_items : (x : Lexeme) → follow_branch x ≡ false → follow_items x ≡ false
fewer_items x h = or_left (follow_items x) (follow_where true x) h

pub fewer_where : (x : Lexeme) → follow_branch x ≡ false → follow_where true x ≡ false
fewer_where x h = or_right (follow_items x) (follow_where true x) h

-- WHERE is no name
where_no_name : follow_items (word (codes "WHERE")) ≡ false
unfolding is_name
where_no_name = refl

-- items, and the condition
module _ (outs : List Tree) where
  pub after_items : (from : List Item) (b : PlainBranch) (s : Size) (ts rest : List Lexeme)
      → grammar.map (λ c. a_branch outs from c) (IsFreshWhere true) b s ts
      → Stops follow_branch rest → Stops follow_items (ts ++ rest)
  after_items from b s ts rest h stops = option_prefix follow_items always (word (codes "WHERE"))
      (grammar.fresh (IsCond true)) where_no_name h.0 s ts rest h.2
      (stops_fewer follow_items follow_branch fewer_items rest stops)

  pub where_then_correct : (from : List Item)
      → IsCorrectParser 0 32 (map_to (λ c. a_branch outs from c) (fresh_where true))
      (grammar.map (λ c. a_branch outs from c) (IsFreshWhere true)) follow_branch
  where_then_correct from = map_correct 0 32 (λ c. a_branch outs from c) (fresh_where true)
      (IsFreshWhere true) follow_branch (correct_follow 0 32 (fresh_where true) (IsFreshWhere true)
      (follow_where true) follow_branch fewer_where (fresh_where_correct true))

  pub from_correct : IsCorrectParser 0 32 (lead (is_word (codes "FROM"))
      (bind items (λ from. map_to (λ c. a_branch outs from c) (fresh_where true))))
      (grammar.lead (word (codes "FROM")) (grammar.seq AreItems
      (λ from. grammar.map (λ c. a_branch outs from c) (IsFreshWhere true)))) follow_branch
  from_correct = lead_correct (is_word (codes "FROM")) (word (codes "FROM"))
      (word_is (codes "FROM")) (word_exact (codes "FROM")) 0 32 _ _ follow_branch
      (bind_correct 0 32 items _ AreItems _ follow_items follow_branch items_correct
      where_then_correct after_items)

pub branch_correct : IsCorrectParser 0 32 branch IsBranch follow_branch
unfolding branch
branch_correct = lead_correct (is_word (codes "SELECT")) (word (codes "SELECT"))
    (word_is (codes "SELECT")) (word_exact (codes "SELECT")) 0 32 _ _ follow_branch
    (bind_lead 0 32 outputs _ AreOutputs (word (codes "FROM"))
    (λ outs. grammar.seq AreItems (λ from.
    grammar.map (λ c. a_branch outs from c) (IsFreshWhere true))) follow_outputs follow_branch
    refl outputs_correct from_correct)

-- a branch ends before UNION
pub union_ends : follow_branch (word (codes "UNION")) ≡ false
unfolding is_name
union_ends = refl

pub branches_correct : IsCorrectParser 0 32 branches AreBranches follow_branches
unfolding branches
branches_correct = counted_correct (is_word (codes "UNION")) (word (codes "UNION"))
    (word_is (codes "UNION")) (word_exact (codes "UNION")) branch IsBranch follow_branch
    branch_correct union_ends Branches (λ s n h. h) 15 refl
