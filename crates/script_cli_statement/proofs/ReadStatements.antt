-- The constants of operators, bodies and queries that are read are valid.
use Rattle.std.proofs.Common.{◌≡◌, ◌+◌, ℕ, List, [], ◌∷◌, ◌++◌, map, refl, sym, subst, inl, inr}
use Rattle.std.specs.Prelude.{Bool, codes, false, true}
use Rattle.relations_spec.specs.Sets.{In}
use Rattle.prima_base.specs.declared.refusal.What.{What}
use Rattle.prima_base.specs.declared.refusal.What.TheVariants.{Inverse, Outputs, Branches}
use Rattle.cond_expr.specs.Trees.{Test}
use Rattle.smo_ops_types.specs.Operators.{Operator}
use Rattle.smo_ops_types.specs.Commands.{PlainBody}
use Rattle.piece_ir_spec.specs.Constants.{ValidInTree, ValidInTest, ValidInOperator}
use Rattle.piece_ir_spec.specs.Constants.{AllValidInOperators, ValidInEvolution}
use Rattle.lexer_spec.specs.Lexemes.{Lexeme, word, sign}
use Rattle.lexer_combinators.specs.Grammar.{Grammar, Size, AreMore, so_wide}
use Rattle.lexer_combinators.specs.Grammar as grammar
use Rattle.lexer_combinators.specs.Derivations.{Derivation, derivation, after_lexeme, rest_of}
use Rattle.lexer_combinators.specs.Derivations.{element_of, others_of}
use Rattle.lexer_combinators.proofs.DerivationLaws.{given_value, made_value}
use Rattle.lexer_trees_spec.specs.Grammar.{IsExpr, IsCond}
use Rattle.lexer_trees_spec.specs.Where.{IsWhere, IsFreshWhere}
use Rattle.smo_parse.specs.Productions.{IsNop, IsCreateTable, IsDropTable, IsRenameTable}
use Rattle.smo_parse.specs.Productions.{IsCopyTable, IsMergeTable, IsPartitionTable}
use Rattle.smo_parse.specs.Productions.{IsDecomposeTable, IsJoinTable, IsAddColumn, IsDropColumn}
use Rattle.smo_parse.specs.Productions.{IsRenameColumn, IsOperator}
use Rattle.temporal_lang_grammar_spec.specs.QueryGrammar.{counted_grammar, IsOutput, IsBranch}
use Rattle.temporal_lang_grammar_spec.specs.QueryGrammar.{IsAsk, IsFullAsk}
use Rattle.temporal_lang_types.specs.Queries.{PlainQuery}
use Rattle.script_parse.specs.Productions.{IsInBrackets}
use Rattle.script_parse.specs.Productions.{IsOp, AreOps, IsInverse, IsEvolve, AreChanges, IsBody}
use Rattle.script_cli_vault.specs.ArchiveOnDisk.{ValidInBranch, ValidInQuery}
use Rattle.script_cli_statement.proofs.ReadConstants.{AllValid, expr_valid, cond_valid, after}
use Rattle.script_cli_statement.proofs.ReadConstants.{prefix}
use Rattle.script_cli_statement.proofs.ReadConstants.{back}
use Rattle.script_cli_statement.proofs.ReadParts.{Read, value_read, read, led, first, rest, source}
use Rattle.script_cli_statement.proofs.ReadParts.{anew}

-- ---- lists

module _ {A : Type 0} (P : A → Type 0) (sep : Lexeme) (G : A → Size → List Lexeme → Type 0)
    (each : (r : Read G) → P (value_read r)) where
  more_each : (end : ℕ → Size) (j : ℕ) (xs : List A) (s : Size) (ts : List Lexeme) → AllValid ts
      → AreMore sep end G j xs s ts → (x : A) → In x xs → P x
  more_each end j [] s ts l h x m = absurd m
  more_each end j (a ∷ others) s ts l h x (inl e) =
      let element : Derivation G = element_of end j a others h in
      let later : Derivation (AreMore sep end G (j + 1)) = others_of end j a others h in
      let both = after sep (element.lexemes ++ later.lexemes) (subst AllValid h.5 l) in
      let it : Read G = record {
        derived = element;
        valid = prefix element.lexemes later.lexemes both;
      } in
      subst P e (each it)
  more_each end j (a ∷ others) s ts l h x (inr m) =
      let element : Derivation G = element_of end j a others h in
      let later : Derivation (AreMore sep end G (j + 1)) = others_of end j a others h in
      let both = after sep (element.lexemes ++ later.lexemes) (subst AllValid h.5 l) in
      more_each end (j + 1) others later.size later.lexemes
      (back element.lexemes later.lexemes both) later.derives x m

  counted_each : (w : What) (r : Read (counted_grammar sep w G)) → (x : A) → In x (value_read r)
      → P x
  counted_each w r x m = among (subst (In x) (made_value (rest r).derived) m)
    where
      among : In x (value_read (first r) ∷ value_read (source (rest r))) → P x
      among (inl e) = subst P e (each (first r))
      among (inr i) =
          let others = source (rest r) in
          more_each (so_wide w) 1 (value_read others) others.derived.size others.derived.lexemes
          others.valid others.derived.derives x i

-- ---- operators

expr_read : {q : Bool} (r : Read (IsExpr q)) → ValidInTree (value_read r)
expr_read {q} r = expr_valid q r.derived.value r.derived.size r.derived.lexemes r.valid
    r.derived.derives

cond_read : {q : Bool} (r : Read (IsCond q)) → ValidInTest (value_read r)
cond_read {q} r = cond_valid q r.derived.value r.derived.size r.derived.lexemes r.valid
    r.derived.derives

where_valid : (c : Test) (s : Size) (ts : List Lexeme) → AllValid ts → IsWhere false c s ts
    → ValidInTest c
where_valid c s ts l (inl h) = subst ValidInTest (sym h.0) tt
where_valid c s ts l (inr h) =
    let whole : Read (grammar.lead (word (codes "WHERE")) (IsCond false)) = read c s ts l h in
    cond_read (led whole)

operator_valid : (op : Operator) (s : Size) (ts : List Lexeme) → AllValid ts → IsOperator op s ts
    → ValidInOperator op
operator_valid op s ts l (inl h) =
    let whole : Derivation IsNop = derivation op s ts h in
    subst ValidInOperator (sym (given_value (after_lexeme whole))) tt
operator_valid op s ts l (inr (inl h)) =
    let whole : Derivation IsCreateTable = derivation op s ts h in
    let after_table = rest_of (after_lexeme (after_lexeme whole)) in
    let after_columns = rest_of (after_lexeme after_table) in
    subst ValidInOperator (sym (given_value (after_lexeme after_columns))) tt
operator_valid op s ts l (inr (inr (inl h))) =
    let whole : Derivation IsDropTable = derivation op s ts h in
    subst ValidInOperator (sym (made_value (after_lexeme (after_lexeme whole)))) tt
operator_valid op s ts l (inr (inr (inr (inl h)))) =
    let whole : Derivation IsRenameTable = derivation op s ts h in
    let after_table = rest_of (after_lexeme (after_lexeme whole)) in
    subst ValidInOperator (sym (made_value (after_lexeme after_table))) tt
operator_valid op s ts l (inr (inr (inr (inr (inl h))))) =
    let whole : Derivation IsCopyTable = derivation op s ts h in
    let after_table = rest_of (after_lexeme (after_lexeme whole)) in
    subst ValidInOperator (sym (made_value (after_lexeme after_table))) tt
operator_valid op s ts l (inr (inr (inr (inr (inr (inl h)))))) =
    let whole : Derivation IsMergeTable = derivation op s ts h in
    let after_left = rest_of (after_lexeme (after_lexeme whole)) in
    let after_right = rest_of (after_lexeme after_left) in
    subst ValidInOperator (sym (made_value (after_lexeme after_right))) tt
operator_valid op s ts l (inr (inr (inr (inr (inr (inr (inl h))))))) =
    let whole : Read IsPartitionTable = read op s ts l h in
    let after_table = rest (led (led whole)) in
    let after_first = rest (led after_table) in
    let from_condition = led after_first in
    let from_second = led (rest from_condition) in
    subst ValidInOperator (sym (made_value from_second.derived)) (cond_read (first from_condition))
operator_valid op s ts l (inr (inr (inr (inr (inr (inr (inr (inl h)))))))) =
    let whole : Derivation IsDecomposeTable = derivation op s ts h in
    let after_table = rest_of (after_lexeme (after_lexeme whole)) in
    let after_first = rest_of (after_lexeme after_table) in
    subst ValidInOperator (sym (made_value (after_lexeme after_first))) tt
operator_valid op s ts l (inr (inr (inr (inr (inr (inr (inr (inr (inl h))))))))) =
    let whole : Read IsJoinTable = read op s ts l h in
    let after_left = rest (led (led whole)) in
    let after_right = rest (led after_left) in
    let after_into = rest (led after_right) in
    let c = source after_into in
    subst ValidInOperator (sym (made_value after_into.derived))
    (where_valid (value_read c) c.derived.size c.derived.lexemes c.valid c.derived.derives)
operator_valid op s ts l (inr (inr (inr (inr (inr (inr (inr (inr (inr (inl h)))))))))) =
    let whole : Read IsAddColumn = read op s ts l h in
    let after_column = rest (led (led whole)) in
    let from_value = led after_column in
    let from_table = led (rest from_value) in
    subst ValidInOperator (sym (made_value from_table.derived)) (expr_read (first from_value))
operator_valid op s ts l (inr (inr (inr (inr (inr (inr (inr (inr (inr (inr (inl h))))))))))) =
    let whole : Derivation IsDropColumn = derivation op s ts h in
    let after_column = rest_of (after_lexeme (after_lexeme whole)) in
    subst ValidInOperator (sym (made_value (after_lexeme after_column))) tt
operator_valid op s ts l (inr (inr (inr (inr (inr (inr (inr (inr (inr (inr (inr h))))))))))) =
    let whole : Derivation IsRenameColumn = derivation op s ts h in
    let after_column = rest_of (after_lexeme (after_lexeme whole)) in
    let after_table = rest_of (after_lexeme after_column) in
    subst ValidInOperator (sym (made_value (after_lexeme after_table))) tt

op_valid : (r : Read IsOp) → ValidInOperator (value_read r)
op_valid r =
    let op = anew r in
    operator_valid (value_read op) op.derived.size op.derived.lexemes op.valid op.derived.derives

-- of operators of one member each
abbrev OnesAreValid : List Operator → Type 0
OnesAreValid ops = AllValidInOperators (map (λ o. o ∷ []) ops)

all_operators : (ops : List Operator) → ((op : Operator) → In op ops → ValidInOperator op)
    → OnesAreValid ops
all_operators [] h = tt
all_operators (op ∷ ops) h = ((h op (inl refl), tt), all_operators ops (λ x m. h x (inr m)))

inverse_valid : (ops : List Operator) (s : Size) (ts : List Lexeme) → AllValid ts
    → IsInverse ops s ts → OnesAreValid ops
inverse_valid ops s ts l (inl h) = subst OnesAreValid (sym h.0) tt
inverse_valid ops s ts l (inr h) =
    let whole : Read (grammar.lead (word (codes "INVERSE")) AreOps) = read ops s ts l h in
    all_operators ops (counted_each ValidInOperator (word (codes "THEN")) IsOp op_valid Inverse
    (led whole))

pub body_valid : (b : PlainBody) (s : Size) (ts : List Lexeme) → AllValid ts → IsBody b s ts
    → ValidInEvolution b
body_valid b s ts l (inl h) =
    let whole : Read IsEvolve = read b s ts l h in
    let after_op = rest (led whole) in
    let inverse = source after_op in
    subst ValidInEvolution (sym (made_value after_op.derived)) (
      (op_valid (first (led whole)), tt),
      inverse_valid (value_read inverse) inverse.derived.size inverse.derived.lexemes inverse.valid
          inverse.derived.derives,
    )
body_valid b s ts l (inr h) =
    let whole : Derivation AreChanges = derivation b s ts h in
    subst ValidInEvolution (sym (made_value whole)) tt

-- ---- queries

output_valid : (r : Read IsOutput) → ValidInTree (value_read r)
output_valid r = expr_read (anew r)

condition_valid : (c : Test) (s : Size) (ts : List Lexeme) → AllValid ts → IsFreshWhere true c s ts
    → ValidInTest c
condition_valid c s ts l (inl h) = subst ValidInTest (sym h.0) tt
condition_valid c s ts l (inr h) =
    let whole : Read (grammar.lead (word (codes "WHERE")) (grammar.fresh (IsCond true))) =
    read c s ts l h in
    cond_read (anew (led whole))

branch_valid : (r : Read IsBranch) → ValidInBranch (value_read r)
branch_valid r =
    let whole : Read IsBranch = r in
    let from_outputs = led whole in
    let from_items = led (rest from_outputs) in
    let after_items = rest from_items in
    let c = source after_items in
    subst ValidInBranch (sym (made_value after_items.derived)) (record {
      outs = counted_each ValidInTree (sign (codes ",")) IsOutput output_valid Outputs
          (first from_outputs);
      cond = condition_valid (value_read c) c.derived.size c.derived.lexemes c.valid
          c.derived.derives;
    })

pub query_valid : (r : Read IsAsk) → ValidInQuery (value_read r)
query_valid r =
    let whole : Read IsAsk = r in
    let from_branches = rest (led whole) in
    subst ValidInQuery (sym (made_value (rest from_branches).derived))
    (counted_each ValidInBranch (word (codes "UNION")) IsBranch branch_valid Branches
    (first from_branches))

pub full_query_valid : (r : Read IsFullAsk) → ValidInQuery (value_read r)
full_query_valid r =
    let whole : Read IsFullAsk = r in
    let from_branches = rest (led whole) in
    subst ValidInQuery (sym (made_value (rest from_branches).derived))
    (counted_each ValidInBranch (word (codes "UNION")) IsBranch branch_valid Branches
    (first from_branches))

-- what stands in brackets
inside : {G : Grammar PlainQuery} → Read (IsInBrackets G) → Read G
inside r = first (led r)

inside_is : {G : Grammar PlainQuery} (r : Read (IsInBrackets G))
    → value_read r ≡ value_read (inside r)
unfolding inside
inside_is r = given_value (led (rest (led r))).derived

pub bracketed_valid : (r : Read (IsInBrackets IsAsk)) → ValidInQuery (value_read r)
bracketed_valid r = subst ValidInQuery (sym (inside_is r)) (query_valid (inside r))

pub bracketed_full_valid : (r : Read (IsInBrackets IsFullAsk)) → ValidInQuery (value_read r)
bracketed_full_valid r = subst ValidInQuery (sym (inside_is r)) (full_query_valid (inside r))
