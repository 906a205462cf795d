-- The reader of operators is good for their grammar.
use Rattle.std.proofs.Common.{◌≡◌, ℕ, Bool, false, cond, ◌||◌, List, [], ◌∷◌, ◌++◌, inl, inr, refl}
use Rattle.std.proofs.Common.{ap, codes}
use Rattle.prima_base.specs.declared.value.ColType.TheVariants.{Int, Text}
use Rattle.cond_expr.specs.Trees.{always}
use Rattle.smo_ops_types.specs.Operators.{Operator, nop, create_table, drop_table, rename_table}
use Rattle.smo_ops_types.specs.Operators.{copy_table, merge_table, partition_table, decompose_table}
use Rattle.smo_ops_types.specs.Operators.{join_table, add_column, drop_column, rename_column}
use Rattle.lexer_spec.specs.Lexemes.{Lexeme, word, sign, is_word, is_sign, is_one_of}
use Rattle.lexer_combinators.specs.Grammar.{Grammar}
use Rattle.lexer_combinators.specs.Parsing.{Parser, Arm, IsCorrectParser, No, Takes, bind, pure}
use Rattle.lexer_combinators.specs.Parsing.{lead, map_to}
use Rattle.lexer_combinators.specs.Grammar.{Size, nothing_counted}
use Rattle.lexer_combinators.specs.Grammar as grammar
use Rattle.lexer_trees_spec.specs.Reader.{outermost, follow_expr, follow_cond}
use Rattle.lexer_trees_spec.specs.Constants.{name, name_grammar, names, names_grammar}
use Rattle.lexer_combinators.proofs.Parsing.{correct_iff, correct_follow, bind_correct, bind_lead}
use Rattle.lexer_combinators.proofs.Parsing.{lead_correct, map_correct, pure_correct}
use Rattle.lexer_combinators.proofs.Parsing.{choose_correct, option_takes_correct, ArmCorrect}
use Rattle.lexer_spec.proofs.LexemeTests.{word_is, word_exact, sign_is, sign_exact}
use Rattle.lexer_trees_spec.proofs.Singles.{name_correct, names_correct, comma}
use Rattle.lexer_trees_spec.proofs.Correctness.{outermost_correct}
use Rattle.lexer_trees_spec.specs.Where.{IsWhere, outer_where, follow_where}
use Rattle.lexer_trees_spec.proofs.Where.{outer_where_correct}
use Rattle.smo_parse.specs.Productions.{IsType, IsColumn, AreColumns, IsPart, IsTest, IsTree}
use Rattle.smo_parse.specs.Productions.{IsOperator}
use Rattle.smo_parse.specs.OperatorReader.{type_arm, column_type, column, columns, create_rest}
use Rattle.smo_parse.specs.OperatorReader.{drop_table_rest, drop_column_rest, drop_arm, drop_rest}
use Rattle.smo_parse.specs.OperatorReader.{rename_table_rest, rename_column_rest, rename_arm}
use Rattle.smo_parse.specs.OperatorReader.{rename_rest, copy_rest, merge_rest, partition_rest, part}
use Rattle.smo_parse.specs.OperatorReader.{decompose_rest, join_rest, add_rest, operator_arm}
use Rattle.smo_parse.specs.OperatorReader.{operator, follow_operator}
use Rattle.lexer_combinators.proofs.Alternatives.{stops_never, or_left, or_right, NotFirst}
use Rattle.lexer_combinators.proofs.Alternatives.{NotNone, lead_not_none, lead_not_first}
use Rattle.lexer_combinators.proofs.Alternatives.{either_not_none, either_not_first, list_correct}
use Rattle.lexer_combinators.proofs.Alternatives.{last_arm, first_arm}

-- goes on with nothing
abbrev pub ends : Lexeme → Bool
ends x = false

-- a word, or a sign, and what follows it
word_correct : {A : Type 0} (w : List ℕ) (p : Parser A) (G : Grammar A) (follow : Lexeme → Bool)
    → IsCorrectParser 0 32 p G follow → IsCorrectParser 0 32 (lead (is_word w) p)
    (grammar.lead (word w) G) follow
word_correct w p G follow g = lead_correct (is_word w) (word w) (word_is w) (word_exact w) 0 32 p G
    follow g

sign_correct : {A : Type 0} (w : List ℕ) (p : Parser A) (G : Grammar A) (follow : Lexeme → Bool)
    → IsCorrectParser 0 32 p G follow → IsCorrectParser 0 32 (lead (is_sign w) p)
    (grammar.lead (sign w) G) follow
sign_correct w p G follow g = lead_correct (is_sign w) (sign w) (sign_is w) (sign_exact w) 0 32 p G
    follow g

-- a part that ends by itself, and what follows it
single_then : {A B : Type 0} (p : Parser A) (f : A → Parser B) (G : Grammar A) (H : A → Grammar B)
    (follow : Lexeme → Bool) →
    IsCorrectParser 0 32 p G ends → ((a : A) → IsCorrectParser 0 32 (f a) (H a) follow)
    → IsCorrectParser 0 32 (bind p f) (grammar.seq G H) follow
single_then p f G H follow g h = bind_correct 0 32 p f G H ends follow g h
    (λ a b s ts rest k stops. stops_never (ts ++ rest))

-- a name, and what follows it
name_then : {B : Type 0} (f : List ℕ → Parser B) (H : List ℕ → Grammar B) (follow : Lexeme → Bool) →
    ((n : List ℕ) → IsCorrectParser 0 32 (f n) (H n) follow)
    → IsCorrectParser 0 32 (bind name f) (grammar.seq name_grammar H) follow
name_then f H follow h = single_then name f name_grammar H follow (name_correct 0 32 ends) h

-- a name, and no more
last_name : {B : Type 0} (f : List ℕ → B) (follow : Lexeme → Bool)
    → IsCorrectParser 0 32 (map_to f name) (grammar.map f name_grammar) follow
last_name f follow = map_correct 0 32 f name name_grammar follow (name_correct 0 32 follow)

-- ---- parts of operators

type_correct : (follow : Lexeme → Bool) → IsCorrectParser 0 32 column_type IsType follow
unfolding column_type
type_correct follow = choose_correct 0 32 type_arm IsType follow
    (Int, nothing_counted, word (codes "INT") ∷ [], inl ([], refl, (refl, refl, refl)))
    (either_not_none (grammar.lead (word (codes "INT")) (grammar.pure Int))
    (grammar.lead (word (codes "TEXT")) (grammar.pure Text))
    (lead_not_none (word (codes "INT")) (grammar.pure Int))
    (lead_not_none (word (codes "TEXT")) (grammar.pure Text)))
    (λ x. first_arm (is_word (codes "INT")) (word (codes "INT")) (word_is (codes "INT"))
    (word_exact (codes "INT")) 32 (pure Int) (grammar.pure Int) follow
    (pure_correct 0 32 Int follow)
    (λ y. cond (is_word (codes "TEXT") y) (Takes (pure Text)) No)
    (grammar.lead (word (codes "TEXT")) (grammar.pure Text))
    (lead_not_first (is_word (codes "TEXT")) (word (codes "INT")) (word (codes "TEXT"))
    (grammar.pure Text) refl (word_is (codes "TEXT"))) x
    (last_arm (is_word (codes "TEXT")) (word (codes "TEXT")) (word_is (codes "TEXT"))
    (word_exact (codes "TEXT")) 32 (pure Text) (grammar.pure Text) follow
    (pure_correct 0 32 Text follow) x))

pub column_correct : IsCorrectParser 0 32 column IsColumn ends
unfolding column
column_correct = name_then _ _ ends (λ n. map_correct 0 32 (λ k. (n, k)) column_type IsType ends
    (type_correct ends))

columns_correct : IsCorrectParser 0 32 columns AreColumns comma
unfolding columns
columns_correct = list_correct (is_sign (codes ",")) (sign (codes ",")) (sign_is (codes ","))
    (sign_exact (codes ",")) 32 column IsColumn ends column_correct refl

part_correct : (follow : Lexeme → Bool) → IsCorrectParser 0 32 part IsPart follow
unfolding part
part_correct follow = name_then _ _ follow (λ s. sign_correct (codes "(") _ _ follow
    (bind_lead 0 32 names _ names_grammar (sign (codes ")")) (λ xs. grammar.pure (s, xs)) comma
    follow refl (names_correct 32)
    (λ xs. sign_correct (codes ")") (pure (s, xs)) (grammar.pure (s, xs)) follow
    (pure_correct 0 32 (s, xs) follow))))

-- ---- the operators, each after its first word or words

abbrev CreateRest : Grammar Operator
CreateRest = grammar.lead (word (codes "TABLE"))
    (grammar.seq name_grammar (λ r. grammar.lead (sign (codes "("))
    (grammar.seq AreColumns (λ l. grammar.lead (sign (codes ")"))
    (grammar.pure (create_table r l))))))

abbrev DropTableRest : Grammar Operator
DropTableRest = grammar.map (λ r. drop_table r) name_grammar

abbrev DropColumnRest : Grammar Operator
DropColumnRest = grammar.seq name_grammar (λ n.
    grammar.lead (word (codes "FROM")) (grammar.map (λ r. drop_column n r) name_grammar))

abbrev DropRest : Grammar Operator
DropRest = grammar.alt (grammar.lead (word (codes "TABLE")) DropTableRest)
    (grammar.lead (word (codes "COLUMN")) DropColumnRest)

abbrev RenameTableRest : Grammar Operator
RenameTableRest = grammar.seq name_grammar (λ r.
    grammar.lead (word (codes "INTO")) (grammar.map (λ t. rename_table r t) name_grammar))

abbrev RenameColumnRest : Grammar Operator
RenameColumnRest = grammar.seq name_grammar (λ b.
    grammar.lead (word (codes "IN")) (grammar.seq name_grammar
    (λ r. grammar.lead (word (codes "TO")) (grammar.map (λ c. rename_column b r c) name_grammar))))

abbrev RenameRest : Grammar Operator
RenameRest = grammar.alt (grammar.lead (word (codes "TABLE")) RenameTableRest)
    (grammar.lead (word (codes "COLUMN")) RenameColumnRest)

abbrev CopyRest : Grammar Operator
CopyRest = grammar.lead (word (codes "TABLE"))
    (grammar.seq name_grammar (λ r. grammar.lead (word (codes "INTO"))
    (grammar.map (λ t. copy_table r t) name_grammar)))

abbrev MergeRest : Grammar Operator
MergeRest = grammar.lead (word (codes "TABLE"))
    (grammar.seq name_grammar (λ r. grammar.lead (sign (codes ","))
    (grammar.seq name_grammar (λ s. grammar.lead (word (codes "INTO"))
    (grammar.map (λ t. merge_table r s t) name_grammar)))))

abbrev PartitionRest : Grammar Operator
PartitionRest = grammar.lead (word (codes "TABLE"))
    (grammar.seq name_grammar (λ r. grammar.lead (word (codes "INTO"))
    (grammar.seq name_grammar (λ s. grammar.lead (word (codes "WITH"))
    (grammar.seq IsTest (λ c. grammar.lead (sign (codes ","))
    (grammar.map (λ t. partition_table r s c t) name_grammar)))))))

abbrev DecomposeRest : Grammar Operator
DecomposeRest = grammar.lead (word (codes "TABLE"))
    (grammar.seq name_grammar (λ r. grammar.lead (word (codes "INTO"))
    (grammar.seq IsPart (λ p. grammar.lead (sign (codes ","))
    (grammar.map (λ q. decompose_table r p.0 p.1 q.0 q.1) IsPart)))))

abbrev JoinRest : Grammar Operator
JoinRest = grammar.lead (word (codes "TABLE"))
    (grammar.seq name_grammar (λ r. grammar.lead (sign (codes ","))
    (grammar.seq name_grammar (λ s. grammar.lead (word (codes "INTO"))
    (grammar.seq name_grammar (λ t. grammar.map (λ c. join_table r s t c) (IsWhere false)))))))

abbrev AddRest : Grammar Operator
AddRest = grammar.lead (word (codes "COLUMN"))
    (grammar.seq name_grammar (λ n. grammar.lead (word (codes "AS"))
    (grammar.seq IsTree (λ e. grammar.lead (word (codes "INTO"))
    (grammar.map (λ r. add_column n e r) name_grammar)))))

module _ (follow : Lexeme → Bool) where
  pub create_correct : IsCorrectParser 0 32 create_rest CreateRest follow
  unfolding create_rest
  create_correct = word_correct (codes "TABLE") _ _ follow
      (name_then _ _ follow (λ r. sign_correct (codes "(") _ _ follow
      (bind_lead 0 32 columns _ AreColumns (sign (codes ")")) (λ l. grammar.pure (create_table r l))
      comma follow refl columns_correct
      (λ l. sign_correct (codes ")") (pure (create_table r l)) (grammar.pure (create_table r l))
      follow (pure_correct 0 32 (create_table r l) follow)))))

  pub drop_table_correct : IsCorrectParser 0 32 drop_table_rest DropTableRest follow
  unfolding drop_table_rest
  drop_table_correct = last_name (λ r. drop_table r) follow

  pub drop_column_correct : IsCorrectParser 0 32 drop_column_rest DropColumnRest follow
  unfolding drop_column_rest
  drop_column_correct = name_then _ _ follow (λ n.
      word_correct (codes "FROM") _ _ follow (last_name (λ r. drop_column n r) follow))

  pub rename_table_correct : IsCorrectParser 0 32 rename_table_rest RenameTableRest follow
  unfolding rename_table_rest
  rename_table_correct = name_then _ _ follow
      (λ r. word_correct (codes "INTO") _ _ follow (last_name (λ t. rename_table r t) follow))

  pub rename_column_correct : IsCorrectParser 0 32 rename_column_rest RenameColumnRest follow
  unfolding rename_column_rest
  rename_column_correct = name_then _ _ follow
      (λ b. word_correct (codes "IN") _ _ follow
      (name_then _ _ follow (λ r. word_correct (codes "TO") _ _ follow
      (last_name (λ c. rename_column b r c) follow))))

  pub copy_correct : IsCorrectParser 0 32 copy_rest CopyRest follow
  unfolding copy_rest
  copy_correct = word_correct (codes "TABLE") _ _ follow
      (name_then _ _ follow (λ r. word_correct (codes "INTO") _ _ follow
      (last_name (λ t. copy_table r t) follow)))

  pub merge_correct : IsCorrectParser 0 32 merge_rest MergeRest follow
  unfolding merge_rest
  merge_correct = word_correct (codes "TABLE") _ _ follow
      (name_then _ _ follow (λ r. sign_correct (codes ",") _ _ follow
      (name_then _ _ follow (λ s. word_correct (codes "INTO") _ _ follow
      (last_name (λ t. merge_table r s t) follow)))))

  pub partition_correct : IsCorrectParser 0 32 partition_rest PartitionRest follow
  unfolding partition_rest
  partition_correct = word_correct (codes "TABLE") _ _ follow
      (name_then _ _ follow (λ r. word_correct (codes "INTO") _ _ follow
      (name_then _ _ follow (λ s. word_correct (codes "WITH") _ _ follow
      (bind_lead 0 32 (outermost false).cond _ IsTest (sign (codes ","))
      (λ c. grammar.map (λ t. partition_table r s c t) name_grammar) (follow_cond false) follow
      refl (outermost_correct false).cond
      (λ c. sign_correct (codes ",") _ _ follow
      (last_name (λ t. partition_table r s c t) follow)))))))

  pub decompose_correct : IsCorrectParser 0 32 decompose_rest DecomposeRest follow
  unfolding decompose_rest
  decompose_correct = word_correct (codes "TABLE") _ _ follow
      (name_then _ _ follow (λ r. word_correct (codes "INTO") _ _ follow
      (single_then part _ IsPart _ follow (part_correct ends)
      (λ p. sign_correct (codes ",") _ _ follow
      (map_correct 0 32 (λ q. decompose_table r p.0 p.1 q.0 q.1) part IsPart follow
      (part_correct follow))))))

  pub add_correct : IsCorrectParser 0 32 add_rest AddRest follow
  unfolding add_rest
  add_correct = word_correct (codes "COLUMN") _ _ follow
      (name_then _ _ follow (λ n. word_correct (codes "AS") _ _ follow
      (bind_lead 0 32 (outermost false).expr _ IsTree (word (codes "INTO"))
      (λ e. grammar.map (λ r. add_column n e r) name_grammar) (follow_expr false) follow refl
      (outermost_correct false).expr
      (λ e. word_correct (codes "INTO") _ _ follow (last_name (λ r. add_column n e r) follow)))))

join_correct : IsCorrectParser 0 32 join_rest JoinRest (follow_where false)
unfolding join_rest
join_correct = word_correct (codes "TABLE") _ _ (follow_where false)
    (name_then _ _ (follow_where false) (λ r.
    sign_correct (codes ",") _ _ (follow_where false)
    (name_then _ _ (follow_where false) (λ s. word_correct (codes "INTO") _ _ (follow_where false)
    (name_then _ _ (follow_where false) (λ t.
    map_correct 0 32 (λ c. join_table r s t c) (outer_where false) (IsWhere false)
    (follow_where false) (outer_where_correct false)))))))

-- ---- a choice between two words

-- TABLE or COLUMN
abbrev TableOrColumn : Grammar Operator → Grammar Operator → Grammar Operator
TableOrColumn G H = grammar.alt (grammar.lead (word (codes "TABLE")) G)
    (grammar.lead (word (codes "COLUMN")) H)

abbrev table_or_column : Parser Operator → Parser Operator → Lexeme → Arm Operator
table_or_column p q x = cond (is_word (codes "TABLE") x) (Takes p)
    (cond (is_word (codes "COLUMN") x) (Takes q) No)

table_or_column_correct : (p q : Parser Operator) (G H : Grammar Operator) (follow : Lexeme → Bool)
    → IsCorrectParser 0 32 p G follow → IsCorrectParser 0 32 q H follow → (x : Lexeme)
    → ArmCorrect 0 32 (table_or_column p q x) x (TableOrColumn G H) follow
table_or_column_correct p q G H follow gp gq x =
    first_arm (is_word (codes "TABLE")) (word (codes "TABLE")) (word_is (codes "TABLE"))
    (word_exact (codes "TABLE")) 32 p G follow gp
    (λ y. cond (is_word (codes "COLUMN") y) (Takes q) No) (grammar.lead (word (codes "COLUMN")) H)
    (lead_not_first (is_word (codes "COLUMN")) (word (codes "TABLE")) (word (codes "COLUMN")) H refl
    (word_is (codes "COLUMN"))) x
    (last_arm (is_word (codes "COLUMN")) (word (codes "COLUMN")) (word_is (codes "COLUMN"))
    (word_exact (codes "COLUMN")) 32 q H follow gq x)

choice_live : (p : Parser Operator) (G H : Grammar Operator) (follow : Lexeme → Bool)
    → IsCorrectParser 0 32 p G follow → (a : Operator) × (s : Size) × (ts : List Lexeme)
    × TableOrColumn G H a s ts
choice_live p G H follow g = let l = g.live in
    (l.0, l.1, word (codes "TABLE") ∷ l.2, inl (l.2, refl, l.3))

choice_not_none : (G H : Grammar Operator) → NotNone (TableOrColumn G H)
choice_not_none G H = either_not_none (grammar.lead (word (codes "TABLE")) G)
    (grammar.lead (word (codes "COLUMN")) H) (lead_not_none (word (codes "TABLE")) G)
    (lead_not_none (word (codes "COLUMN")) H)

pub drop_correct : (follow : Lexeme → Bool) → IsCorrectParser 0 32 drop_rest DropRest follow
unfolding drop_rest
drop_correct follow = choose_correct 0 32 drop_arm DropRest follow
    (choice_live drop_table_rest DropTableRest DropColumnRest follow (drop_table_correct follow))
    (choice_not_none DropTableRest DropColumnRest)
    (λ x. table_or_column_correct drop_table_rest drop_column_rest DropTableRest DropColumnRest
    follow (drop_table_correct follow) (drop_column_correct follow) x)

pub rename_correct : (follow : Lexeme → Bool) → IsCorrectParser 0 32 rename_rest RenameRest follow
unfolding rename_rest
rename_correct follow = choose_correct 0 32 rename_arm RenameRest follow
    (choice_live rename_table_rest RenameTableRest RenameColumnRest follow
    (rename_table_correct follow)) (choice_not_none RenameTableRest RenameColumnRest)
    (λ x. table_or_column_correct rename_table_rest rename_column_rest RenameTableRest
    RenameColumnRest follow (rename_table_correct follow) (rename_column_correct follow) x)

-- ---- all of them, by their first words

-- a grammar that begins with none but these words
abbrev BeginsWith : List (List ℕ) → Grammar Operator → Type 0
BeginsWith words G = ((w : List ℕ) → is_one_of words w ≡ false → NotFirst G (word w)) × NotNone G

one_word : (v : List ℕ) (G : Grammar Operator) → BeginsWith (v ∷ []) (grammar.lead (word v) G)
one_word v G = (
  λ w e. lead_not_first (is_word v) (word w) (word v) G
      (or_left (is_word v (word w)) false e) (word_is v),
  lead_not_none (word v) G,
)

word_more : (v : List ℕ) (words : List (List ℕ)) (G H : Grammar Operator) → BeginsWith words H
    → BeginsWith (v ∷ words) (grammar.alt (grammar.lead (word v) G) H)
word_more v words G H h = (
  λ w e. either_not_first (word w) (grammar.lead (word v) G) H
      (lead_not_first (is_word v) (word w) (word v) G
      (or_left (is_word v (word w)) (is_one_of words w) e) (word_is v))
      (h.0 w (or_right (is_word v (word w)) (is_one_of words w) e)),
  either_not_none (grammar.lead (word v) G) H (lead_not_none (word v) G) h.1,
)

-- what is left after each word, from the last on
abbrev FromAdd : Grammar Operator
FromAdd = grammar.lead (word (codes "ADD")) AddRest

abbrev FromJoin : Grammar Operator
FromJoin = grammar.alt (grammar.lead (word (codes "JOIN")) JoinRest) FromAdd

abbrev FromDecompose : Grammar Operator
FromDecompose = grammar.alt (grammar.lead (word (codes "DECOMPOSE")) DecomposeRest) FromJoin

abbrev FromPartition : Grammar Operator
FromPartition = grammar.alt (grammar.lead (word (codes "PARTITION")) PartitionRest) FromDecompose

abbrev FromMerge : Grammar Operator
FromMerge = grammar.alt (grammar.lead (word (codes "MERGE")) MergeRest) FromPartition

abbrev FromCopy : Grammar Operator
FromCopy = grammar.alt (grammar.lead (word (codes "COPY")) CopyRest) FromMerge

abbrev FromRename : Grammar Operator
FromRename = grammar.alt (grammar.lead (word (codes "RENAME")) RenameRest) FromCopy

abbrev FromDrop : Grammar Operator
FromDrop = grammar.alt (grammar.lead (word (codes "DROP")) DropRest) FromRename

abbrev FromCreate : Grammar Operator
FromCreate = grammar.alt (grammar.lead (word (codes "CREATE")) CreateRest) FromDrop

abbrev FromNop : Grammar Operator
FromNop = grammar.alt (grammar.lead (word (codes "NOP")) (grammar.pure nop)) FromCreate

add_first : BeginsWith (codes "ADD" ∷ []) FromAdd
add_first = one_word (codes "ADD") AddRest

join_first : BeginsWith (codes "JOIN" ∷ codes "ADD" ∷ []) FromJoin
join_first = word_more (codes "JOIN") (codes "ADD" ∷ []) JoinRest FromAdd add_first

decompose_first : BeginsWith (codes "DECOMPOSE" ∷ codes "JOIN" ∷ codes "ADD" ∷ []) FromDecompose
decompose_first = word_more (codes "DECOMPOSE") (codes "JOIN" ∷ codes "ADD" ∷ []) DecomposeRest
    FromJoin join_first

partition_first : BeginsWith (codes "PARTITION" ∷ codes "DECOMPOSE" ∷ codes "JOIN" ∷ codes "ADD"
    ∷ []) FromPartition
partition_first = word_more (codes "PARTITION")
    (codes "DECOMPOSE" ∷ codes "JOIN" ∷ codes "ADD" ∷ []) PartitionRest FromDecompose
    decompose_first

merge_first : BeginsWith (codes "MERGE" ∷ codes "PARTITION" ∷ codes "DECOMPOSE" ∷ codes "JOIN"
    ∷ codes "ADD" ∷ []) FromMerge
merge_first = word_more (codes "MERGE") (codes "PARTITION" ∷ codes "DECOMPOSE" ∷ codes "JOIN"
    ∷ codes "ADD" ∷ []) MergeRest FromPartition partition_first

copy_first : BeginsWith (codes "COPY" ∷ codes "MERGE" ∷ codes "PARTITION" ∷ codes "DECOMPOSE"
    ∷ codes "JOIN" ∷ codes "ADD" ∷ []) FromCopy
copy_first = word_more (codes "COPY") (codes "MERGE" ∷ codes "PARTITION" ∷ codes "DECOMPOSE"
    ∷ codes "JOIN" ∷ codes "ADD" ∷ []) CopyRest FromMerge merge_first

rename_first : BeginsWith (codes "RENAME" ∷ codes "COPY" ∷ codes "MERGE" ∷ codes "PARTITION"
    ∷ codes "DECOMPOSE" ∷ codes "JOIN" ∷ codes "ADD" ∷ []) FromRename
rename_first = word_more (codes "RENAME") (codes "COPY" ∷ codes "MERGE" ∷ codes "PARTITION"
    ∷ codes "DECOMPOSE" ∷ codes "JOIN" ∷ codes "ADD" ∷ []) RenameRest FromCopy copy_first

drop_first : BeginsWith (codes "DROP" ∷ codes "RENAME" ∷ codes "COPY" ∷ codes "MERGE"
    ∷ codes "PARTITION" ∷ codes "DECOMPOSE" ∷ codes "JOIN" ∷ codes "ADD" ∷ []) FromDrop
drop_first = word_more (codes "DROP") (codes "RENAME" ∷ codes "COPY" ∷ codes "MERGE"
    ∷ codes "PARTITION" ∷ codes "DECOMPOSE" ∷ codes "JOIN" ∷ codes "ADD" ∷ []) DropRest FromRename
    rename_first

create_first : BeginsWith (codes "CREATE" ∷ codes "DROP" ∷ codes "RENAME" ∷ codes "COPY"
    ∷ codes "MERGE" ∷ codes "PARTITION" ∷ codes "DECOMPOSE" ∷ codes "JOIN" ∷ codes "ADD" ∷ [])
    FromCreate
create_first = word_more (codes "CREATE") (codes "DROP" ∷ codes "RENAME" ∷ codes "COPY"
    ∷ codes "MERGE" ∷ codes "PARTITION" ∷ codes "DECOMPOSE" ∷ codes "JOIN" ∷ codes "ADD" ∷ [])
    CreateRest FromDrop drop_first

-- the arms, likewise
abbrev from_add : Lexeme → Arm Operator
from_add x = cond (is_word (codes "ADD") x) (Takes add_rest) No

abbrev from_join : Lexeme → Arm Operator
from_join x = cond (is_word (codes "JOIN") x) (Takes join_rest) (from_add x)

abbrev from_decompose : Lexeme → Arm Operator
from_decompose x = cond (is_word (codes "DECOMPOSE") x) (Takes decompose_rest) (from_join x)

abbrev from_partition : Lexeme → Arm Operator
from_partition x = cond (is_word (codes "PARTITION") x) (Takes partition_rest) (from_decompose x)

abbrev from_merge : Lexeme → Arm Operator
from_merge x = cond (is_word (codes "MERGE") x) (Takes merge_rest) (from_partition x)

abbrev from_copy : Lexeme → Arm Operator
from_copy x = cond (is_word (codes "COPY") x) (Takes copy_rest) (from_merge x)

abbrev from_rename : Lexeme → Arm Operator
from_rename x = cond (is_word (codes "RENAME") x) (Takes rename_rest) (from_copy x)

abbrev from_drop : Lexeme → Arm Operator
from_drop x = cond (is_word (codes "DROP") x) (Takes drop_rest) (from_rename x)

abbrev from_create : Lexeme → Arm Operator
from_create x = cond (is_word (codes "CREATE") x) (Takes create_rest) (from_drop x)

-- a word before others
word_arm : (v : List ℕ) (p : Parser Operator) (G : Grammar Operator)
    → IsCorrectParser 0 32 p G follow_operator
    → (arm : Lexeme → Arm Operator) (H : Grammar Operator) → NotFirst H (word v) →
    (x : Lexeme) → ArmCorrect 0 32 (arm x) x H follow_operator
    → ArmCorrect 0 32 (cond (is_word v x) (Takes p) (arm x)) x
    (grammar.alt (grammar.lead (word v) G) H) follow_operator
word_arm v p G g arm H apart x others = first_arm (is_word v) (word v) (word_is v) (word_exact v) 32
    p G follow_operator g arm H apart x others

module _ (x : Lexeme) where
  add_arm : ArmCorrect 0 32 (from_add x) x FromAdd follow_operator
  add_arm = last_arm (is_word (codes "ADD")) (word (codes "ADD")) (word_is (codes "ADD"))
      (word_exact (codes "ADD")) 32 add_rest AddRest follow_operator (add_correct follow_operator) x

  join_arm : ArmCorrect 0 32 (from_join x) x FromJoin follow_operator
  join_arm = word_arm (codes "JOIN") join_rest JoinRest join_correct from_add FromAdd
      (add_first.0 (codes "JOIN") refl) x add_arm

  decompose_arm : ArmCorrect 0 32 (from_decompose x) x FromDecompose follow_operator
  decompose_arm = word_arm (codes "DECOMPOSE") decompose_rest DecomposeRest
      (decompose_correct follow_operator) from_join FromJoin (join_first.0 (codes "DECOMPOSE") refl)
      x join_arm

  partition_arm : ArmCorrect 0 32 (from_partition x) x FromPartition follow_operator
  partition_arm = word_arm (codes "PARTITION") partition_rest PartitionRest
      (partition_correct follow_operator) from_decompose FromDecompose
      (decompose_first.0 (codes "PARTITION") refl) x decompose_arm

  merge_arm : ArmCorrect 0 32 (from_merge x) x FromMerge follow_operator
  merge_arm = word_arm (codes "MERGE") merge_rest MergeRest (merge_correct follow_operator)
      from_partition FromPartition (partition_first.0 (codes "MERGE") refl) x partition_arm

  copy_arm : ArmCorrect 0 32 (from_copy x) x FromCopy follow_operator
  copy_arm = word_arm (codes "COPY") copy_rest CopyRest (copy_correct follow_operator) from_merge
      FromMerge (merge_first.0 (codes "COPY") refl) x merge_arm

  rename_arms : ArmCorrect 0 32 (from_rename x) x FromRename follow_operator
  rename_arms = word_arm (codes "RENAME") rename_rest RenameRest (rename_correct follow_operator)
      from_copy FromCopy (copy_first.0 (codes "RENAME") refl) x copy_arm

  drop_arms : ArmCorrect 0 32 (from_drop x) x FromDrop follow_operator
  drop_arms = word_arm (codes "DROP") drop_rest DropRest (drop_correct follow_operator) from_rename
      FromRename (rename_first.0 (codes "DROP") refl) x rename_arms

  create_arm : ArmCorrect 0 32 (from_create x) x FromCreate follow_operator
  create_arm = word_arm (codes "CREATE") create_rest CreateRest (create_correct follow_operator)
      from_drop FromDrop (drop_first.0 (codes "CREATE") refl) x drop_arms

  nop_arm : ArmCorrect 0 32 (operator_arm x) x FromNop follow_operator
  nop_arm = word_arm (codes "NOP") (pure nop) (grammar.pure nop)
      (pure_correct 0 32 nop follow_operator) from_create FromCreate
      (create_first.0 (codes "NOP") refl) x create_arm

by_words_correct : IsCorrectParser 0 32 operator FromNop follow_operator
unfolding operator
by_words_correct = choose_correct 0 32 operator_arm FromNop follow_operator
    (nop, nothing_counted, word (codes "NOP") ∷ [], inl ([], refl, (refl, refl, refl)))
    (either_not_none (grammar.lead (word (codes "NOP")) (grammar.pure nop)) FromCreate
    (lead_not_none (word (codes "NOP")) (grammar.pure nop)) create_first.1)
    nop_arm

-- the grammar in the order of the operators, and in the order of their first words
up : (a : Operator) (s : Size) (l : List Lexeme) → FromNop a s l → IsOperator a s l
up a s l (inl h) = inl h
up a s l (inr (inl h)) = inr (inl h)
up a s l (inr (inr (inl (more, e, inl h)))) = inr (inr (inl (more, e, h)))
up a s l (inr (inr (inl (more, e, inr h)))) =
    inr (inr (inr (inr (inr (inr (inr (inr (inr (inr (inl (more, e, h)))))))))))
up a s l (inr (inr (inr (inl (more, e, inl h))))) = inr (inr (inr (inl (more, e, h))))
up a s l (inr (inr (inr (inl (more, e, inr h))))) =
    inr (inr (inr (inr (inr (inr (inr (inr (inr (inr (inr (more, e, h)))))))))))
up a s l (inr (inr (inr (inr (inl h))))) = inr (inr (inr (inr (inl h))))
up a s l (inr (inr (inr (inr (inr (inl h)))))) = inr (inr (inr (inr (inr (inl h)))))
up a s l (inr (inr (inr (inr (inr (inr (inl h))))))) = inr (inr (inr (inr (inr (inr (inl h))))))
up a s l (inr (inr (inr (inr (inr (inr (inr (inl h)))))))) =
    inr (inr (inr (inr (inr (inr (inr (inl h)))))))
up a s l (inr (inr (inr (inr (inr (inr (inr (inr (inl h))))))))) =
    inr (inr (inr (inr (inr (inr (inr (inr (inl h))))))))
up a s l (inr (inr (inr (inr (inr (inr (inr (inr (inr h))))))))) =
    inr (inr (inr (inr (inr (inr (inr (inr (inr (inl h)))))))))

down : (a : Operator) (s : Size) (l : List Lexeme) → IsOperator a s l → FromNop a s l
down a s l (inl h) = inl h
down a s l (inr (inl h)) = inr (inl h)
down a s l (inr (inr (inl h))) = inr (inr (inl (h.0, h.1, inl h.2)))
down a s l (inr (inr (inr (inl h)))) = inr (inr (inr (inl (h.0, h.1, inl h.2))))
down a s l (inr (inr (inr (inr (inl h))))) = inr (inr (inr (inr (inl h))))
down a s l (inr (inr (inr (inr (inr (inl h)))))) = inr (inr (inr (inr (inr (inl h)))))
down a s l (inr (inr (inr (inr (inr (inr (inl h))))))) = inr (inr (inr (inr (inr (inr (inl h))))))
down a s l (inr (inr (inr (inr (inr (inr (inr (inl h)))))))) =
    inr (inr (inr (inr (inr (inr (inr (inl h)))))))
down a s l (inr (inr (inr (inr (inr (inr (inr (inr (inl h))))))))) =
    inr (inr (inr (inr (inr (inr (inr (inr (inl h))))))))
down a s l (inr (inr (inr (inr (inr (inr (inr (inr (inr (inl h)))))))))) =
    inr (inr (inr (inr (inr (inr (inr (inr (inr h))))))))
down a s l (inr (inr (inr (inr (inr (inr (inr (inr (inr (inr (inl h))))))))))) =
    inr (inr (inl (h.0, h.1, inr h.2)))
down a s l (inr (inr (inr (inr (inr (inr (inr (inr (inr (inr (inr h))))))))))) =
    inr (inr (inr (inl (h.0, h.1, inr h.2))))

pub operator_correct : IsCorrectParser 0 32 operator IsOperator follow_operator
operator_correct = correct_iff 0 32 operator FromNop IsOperator follow_operator up down
    by_words_correct
