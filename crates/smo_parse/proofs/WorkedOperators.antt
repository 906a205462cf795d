-- Worked rows: what lexemes by hand are read as, with the nodes that are counted and what stands
-- after.
use Rattle.std.specs.Prelude.{◌≡◌, ℕ, ◌∷◌, [], ◌++◌, List, pos, negsuc, codes, refl, replicate}
use Rattle.std.proofs.Common.{inl, inr}
use Rattle.prima_base.specs.declared.refusal.What.TheVariants.{Nodes, Depth, Parts}
use Rattle.prima_base.specs.declared.value.Value.TheVariants.{Int}
use Rattle.prima_base.specs.declared.value.ColType.TheVariants.{Int as INT_TYPE, Text as TEXT_TYPE}
use Rattle.cond_expr.specs.declared.expr.Whose.TheVariants.{Atom}
use Rattle.cond_expr.specs.declared.expr.CmpOp.TheVariants.{Eq}
use Rattle.cond_expr.specs.Trees.{Tree, Test, column, constant, length_of, always, compared, all_of}
use Rattle.cond_expr.specs.Trees.{no_tests, a_test}
use Rattle.smo_ops_types.specs.Operators.{Operator, nop, create_table, drop_table, rename_table}
use Rattle.smo_ops_types.specs.Operators.{copy_table, merge_table, partition_table, decompose_table}
use Rattle.smo_ops_types.specs.Operators.{join_table, add_column, drop_column, rename_column}
use Rattle.lexer_spec.specs.Lexemes.{Lexeme, word, number, sign, is_name}
use Rattle.lexer_combinators.specs.Parsing.{Out, Parsed, Unexpected, LimitExceeded, as_many, more}
use Rattle.lexer_combinators.specs.Parsing.{nodes_more}
use Rattle.lexer_combinators.specs.Grammar.{nothing_counted}
use Rattle.lexer_trees_spec.specs.Constants.{name, names}
use Rattle.lexer_trees_spec.specs.Reader.{ref_rest, length_rest, concat_rest, expr, comparison}
use Rattle.lexer_trees_spec.specs.Reader.{bracketed, fact, facts, conj, conjs, cond, outermost}
use Rattle.lexer_trees_spec.specs.Where.{outer_where}
use Rattle.smo_parse.specs.Productions.{IsOperator}
use Rattle.smo_parse.specs.OperatorReader.{operator, column_type, column as a_column, columns}
use Rattle.smo_parse.specs.OperatorReader.{create_rest, drop_table_rest, drop_column_rest}
use Rattle.smo_parse.specs.OperatorReader.{drop_rest, rename_table_rest, rename_column_rest}
use Rattle.smo_parse.specs.OperatorReader.{rename_rest, copy_rest, merge_rest, partition_rest, part}
use Rattle.smo_parse.specs.OperatorReader.{decompose_rest, join_rest, add_rest}

-- ---- lexemes

abbrev NOP : Lexeme
NOP = word (codes "NOP")

abbrev TABLE : Lexeme
TABLE = word (codes "TABLE")

abbrev COLUMN : Lexeme
COLUMN = word (codes "COLUMN")

abbrev INTO : Lexeme
INTO = word (codes "INTO")

abbrev DROP : Lexeme
DROP = word (codes "DROP")

abbrev RENAME : Lexeme
RENAME = word (codes "RENAME")

abbrev THEN : Lexeme
THEN = word (codes "THEN")

abbrev WHERE : Lexeme
WHERE = word (codes "WHERE")

abbrev AND : Lexeme
AND = word (codes "AND")

abbrev TRUE : Lexeme
TRUE = word (codes "TRUE")

abbrev opened : Lexeme
opened = sign (codes "(")

abbrev closed : Lexeme
closed = sign (codes ")")

abbrev comma : Lexeme
comma = sign (codes ",")

abbrev equals : Lexeme
equals = sign (codes "=")

abbrev a : List ℕ
a = codes "a"

abbrev b : List ℕ
b = codes "b"

abbrev c : List ℕ
c = codes "c"

abbrev r : List ℕ
r = codes "r"

abbrev s : List ℕ
s = codes "s"

abbrev t : List ℕ
t = codes "t"

-- lexemes = what reading them as an operator says, where nothing is counted before
abbrev Reads : List Lexeme → Out Operator → Type 0
Reads ts out = operator 0 ts ≡ out

-- ---- operators without trees, which count nothing

plain :
    Reads (NOP ∷ NOP ∷ []) (Parsed nop 0 (NOP ∷ []))
    × Reads (DROP ∷ TABLE ∷ word r ∷ comma ∷ word s ∷ [])
    (Parsed (drop_table r) 0 (comma ∷ word s ∷ []))
    × Reads (RENAME ∷ TABLE ∷ word r ∷ INTO ∷ word t ∷ []) (Parsed (rename_table r t) 0 [])
    × Reads (word (codes "COPY") ∷ TABLE ∷ word r ∷ INTO ∷ word t ∷ [])
    (Parsed (copy_table r t) 0 [])
    × Reads (word (codes "MERGE") ∷ TABLE ∷ word r ∷ comma ∷ word s ∷ INTO ∷ word t ∷ [])
    (Parsed (merge_table r s t) 0 [])
    × Reads (DROP ∷ COLUMN ∷ word c ∷ word (codes "FROM") ∷ word r ∷ [])
    (Parsed (drop_column c r) 0 [])
    × Reads (RENAME ∷ COLUMN ∷ word b ∷ word (codes "IN") ∷ word r ∷ word (codes "TO") ∷ word c
    ∷ []) (Parsed (rename_column b r c) 0 [])
unfolding operator name is_name drop_rest drop_table_rest drop_column_rest rename_rest
    rename_table_rest rename_column_rest copy_rest merge_rest
plain = (refl, refl, refl, refl, refl, refl, refl)

lists :
    Reads (word (codes "CREATE") ∷ TABLE ∷ word t ∷ opened ∷ word a ∷ word (codes "INT") ∷ comma
    ∷ word b ∷ word (codes "TEXT") ∷ closed ∷ THEN ∷ [])
    (Parsed (create_table t ((a, INT_TYPE) ∷ (b, TEXT_TYPE) ∷ [])) 0 (THEN ∷ []))
    × Reads (word (codes "DECOMPOSE") ∷ TABLE ∷ word r ∷ INTO ∷ word s ∷ opened ∷ word a ∷ comma
    ∷ word b ∷ closed ∷ comma ∷ word t ∷ opened ∷ word b ∷ closed ∷ [])
    (Parsed (decompose_table r s (a ∷ b ∷ []) t (b ∷ [])) 0 [])
unfolding operator name names is_name as_many create_rest columns a_column column_type
    decompose_rest part
lists = (refl, refl)

-- ---- operators with trees: the nodes are those of the tree

abbrev join : List Lexeme → List Lexeme
join ts = word (codes "JOIN") ∷ TABLE ∷ word r ∷ comma ∷ word s ∷ INTO ∷ word t ∷ ts

abbrev partition : List Lexeme → List Lexeme
partition ts = word (codes "PARTITION") ∷ TABLE ∷ word r ∷ INTO ∷ word s ∷ word (codes "WITH") ∷ ts

abbrev add : List Lexeme → List Lexeme
add ts = word (codes "ADD") ∷ COLUMN ∷ word c ∷ word (codes "AS") ∷ ts

abbrev col : List ℕ → Tree
col n = column (Atom 0) n

abbrev one : Lexeme
one = number (pos 1)

abbrev is_one : Test
is_one = compared Eq (col a) (constant (Int (pos 1)))

trees :
    Reads (join (THEN ∷ [])) (Parsed (join_table r s t always) 0 (THEN ∷ []))
    × Reads (join (WHERE ∷ TRUE ∷ [])) (Parsed (join_table r s t always) 1 [])
    × Reads (join (WHERE ∷ word a ∷ equals ∷ one ∷ AND ∷ TRUE ∷ comma ∷ []))
    (Parsed (join_table r s t (all_of (a_test is_one (a_test always no_tests)))) 5 (comma ∷ []))
    × Reads (partition (word a ∷ equals ∷ one ∷ comma ∷ word t ∷ []))
    (Parsed (partition_table r s is_one t) 3 [])
    × Reads (add (word (codes "LENGTH") ∷ opened ∷ word a ∷ closed ∷ INTO ∷ word r ∷ []))
    (Parsed (add_column c (length_of (col a)) r) 2 [])
unfolding operator name is_name join_rest outer_where partition_rest add_rest ref_rest length_rest
    expr comparison bracketed fact facts conj conjs cond outermost more nodes_more
trees = (refl, refl, refl, refl, refl)

-- ---- faults: what stands from the first wrong lexeme on

faults :
    Reads [] (Unexpected 0 [])
    × Reads (DROP ∷ word r ∷ []) (Unexpected 0 (word r ∷ []))
    × Reads (DROP ∷ COLUMN ∷ word c ∷ []) (Unexpected 0 [])
    × Reads (word (codes "MERGE") ∷ TABLE ∷ word r ∷ INTO ∷ word t ∷ [])
    (Unexpected 0 (INTO ∷ word t ∷ []))
    × Reads (RENAME ∷ TABLE ∷ word r ∷ INTO ∷ TABLE ∷ []) (Unexpected 0 (TABLE ∷ []))
    × Reads (partition (word a ∷ comma ∷ word t ∷ [])) (Unexpected 1 (comma ∷ word t ∷ []))
    × Reads (add (number (pos 9223372036854775808) ∷ INTO ∷ word r ∷ []))
    (Unexpected 0 (number (pos 9223372036854775808) ∷ INTO ∷ word r ∷ []))
    × Reads (add (number (negsuc 9223372036854775808) ∷ INTO ∷ word r ∷ []))
    (Unexpected 0 (number (negsuc 9223372036854775808) ∷ INTO ∷ word r ∷ []))
unfolding operator name is_name drop_rest drop_column_rest rename_rest rename_table_rest merge_rest
    partition_rest add_rest ref_rest expr comparison fact conj cond outermost
faults = (refl, refl, refl, refl, refl, refl, refl, refl)

-- ---- too much: what stands from the one too many on

abbrev others : List Lexeme
others = comma ∷ one ∷ comma ∷ one ∷ comma ∷ one ∷ comma ∷ one ∷ comma ∷ one ∷ comma ∷ one ∷ comma
    ∷ one ∷ []

too_much :
    Reads (join (WHERE ∷ (replicate 33 opened ++ equals ∷ [])))
    (LimitExceeded Depth 0 (opened ∷ equals ∷ []))
    × Reads (add (word (codes "CONCAT") ∷ opened ∷ one ∷ (others ++ comma ∷ equals ∷ [])))
    (LimitExceeded Parts 9 (comma ∷ equals ∷ []))
    × (operator 254 (add (word (codes "LENGTH") ∷ opened ∷ word a ∷ closed ∷ INTO ∷ word r ∷ []))
    ≡ Parsed (add_column c (length_of (col a)) r) 256 [])
    × (operator 255 (add (word (codes "LENGTH") ∷ opened ∷ word a ∷ closed ∷ INTO ∷ word r ∷ []))
    ≡ LimitExceeded Nodes 256 (word a ∷ closed ∷ INTO ∷ word r ∷ []))
unfolding operator name is_name join_rest outer_where add_rest ref_rest length_rest concat_rest expr
    comparison bracketed fact facts conj conjs cond outermost more nodes_more
too_much = (refl, refl, refl, refl)

-- ---- and by the grammar

abbrev named : (n : List ℕ) → List Lexeme
named n = word n ∷ []

nop_is : IsOperator nop nothing_counted (NOP ∷ [])
nop_is = inl ([], refl, (refl, refl, refl))

dropped_is : IsOperator (drop_table r) nothing_counted (DROP ∷ TABLE ∷ word r ∷ [])
unfolding is_name
dropped_is = inr (inr (inl (
  TABLE ∷ named r,
  refl,
  (named r, refl, (r, refl, (word r, refl, refl, refl))),
)))

-- a JOIN without its WHERE
joined_is : IsOperator (join_table r s t always) nothing_counted (join [])
unfolding is_name
joined_is = inr (inr (inr (inr (inr (inr (inr (inr (inl (
  TABLE ∷ word r ∷ comma ∷ word s ∷ INTO ∷ named t,
  refl,
  (
    word r ∷ comma ∷ word s ∷ INTO ∷ named t,
    refl,
    (
      r,
      nothing_counted,
      nothing_counted,
      named r,
      comma ∷ word s ∷ INTO ∷ named t,
      refl,
      refl,
      (word r, refl, refl, refl),
      (
        word s ∷ INTO ∷ named t,
        refl,
        (
          s,
          nothing_counted,
          nothing_counted,
          named s,
          INTO ∷ named t,
          refl,
          refl,
          (word s, refl, refl, refl),
          (
            named t,
            refl,
            (
              t,
              nothing_counted,
              nothing_counted,
              named t,
              [],
              refl,
              refl,
              (word t, refl, refl, refl),
              (always, refl, inl (refl, refl, refl)),
            ),
          ),
        ),
      ),
    ),
  ),
)))))))))
