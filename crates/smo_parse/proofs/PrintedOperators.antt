-- Each operator that can be read, and whose tree is at most 32 deep, prints as a text whose tokens
-- are in the grammar again.
use Rattle.std.proofs.Common.{◌≤◌, false, List, ◌++◌, codes, map, inl, inr, refl, sym, ap, subst}
use Rattle.std.proofs.Common.{arith}
use Rattle.prima_base.specs.declared.refusal.What.{What}
use Rattle.smo_ops_types.specs.Operators.{Operator, nop, merge_table, partition_table}
use Rattle.smo_ops_types.specs.Operators.{decompose_table}
use Rattle.smo_ops_types.specs.Operators.{join_table, rename_column}
use Rattle.lexer_spec.specs.Lexemes.{Lexeme}
use Rattle.lexer_combinators.specs.Grammar.{Grammar}
use Rattle.lexer_combinators.specs.Parsing.{limit}
use Rattle.lexer_combinators.specs.Grammar.{Size}
use Rattle.smo_parse.specs.Productions.{AreColumns, IsPart, IsTest, IsTree, IsNop, IsCreateTable}
use Rattle.smo_parse.specs.Productions.{IsDropTable, IsRenameTable, IsCopyTable, IsMergeTable}
use Rattle.smo_parse.specs.Productions.{IsPartitionTable, IsDecomposeTable, IsJoinTable}
use Rattle.smo_parse.specs.Productions.{IsAddColumn, IsDropColumn, IsRenameColumn, IsOperator}
use Rattle.smo_parse.specs.Texts.{listed, column_text, part_text, expr_text, cond_text}
use Rattle.smo_parse.specs.Texts.{operator_text}
use Rattle.smo_parse.specs.Printed.{tree_depth}
use Rattle.smo_parse.proofs.Spelled.{right4, right6, right8}
use Rattle.smo_parse.proofs.PrintedTrees.{AllValid}
use Rattle.smo_parse.proofs.PrintedParts.{Read, Printed, unlead, left, right, unmap, named}
use Rattle.smo_parse.proofs.PrintedParts.{as_bytes, among, bind_printed, map_printed, name_then}
use Rattle.smo_parse.proofs.PrintedParts.{last_name, word_first, word_next, word_last, comma_next}
use Rattle.smo_parse.proofs.PrintedParts.{spaced_printed, open_next, close_last, tree_printed}
use Rattle.smo_parse.proofs.PrintedParts.{test_printed, where_printed, columns_printed}
use Rattle.smo_parse.proofs.PrintedParts.{part_printed, CREATE, TABLE, DROP, RENAME, COPY, MERGE}
use Rattle.smo_parse.proofs.PrintedParts.{PARTITION, DECOMPOSE, JOIN, ADD, COLUMN, INTO, WITH, AS}
use Rattle.smo_parse.proofs.PrintedParts.{FROM, IN, TO, NOP}
use Rattle.lexer_trees_spec.specs.Where.{IsWhere}

-- an operator of one production
abbrev Prints : Grammar Operator → Operator → Type 0
Prints G o = Printed G 256 o (operator_text o)

nop_prints : (o : Operator) → Read IsNop o → Prints IsNop o
unfolding operator_text
nop_prints o h = let m = unlead _ _ _ h in let P : Operator
    → Type 0 = λ x. Prints IsNop x in subst P (sym m.same.0) (word_last (codes "NOP") 256 nop NOP)

create_prints : (o : Operator) → Read IsCreateTable o → Prints IsCreateTable o
unfolding operator_text
create_prints o h =
    let t = unlead _ _ _ (unlead _ _ _ h) in
    let n = named _ (left _ _ _ t) in
    let m = unlead _ _ _ (right _ _ _ t) in
    let l = columns_printed _ (left _ _ _ m) in
    let e = unlead _ _ _ (right _ _ _ m) in
    let P : Operator → Type 0 = λ x. Prints IsCreateTable x in
    subst P (sym e.same.0)
    (as_bytes IsCreateTable 256 _ _ _ (ap (λ b. codes "CREATE TABLE " ++ b)
    (right4 t.same.0 (codes " (") (listed (map column_text m.same.0)) (codes ")")))
    (word_first (codes "CREATE") _ 256 _ _ CREATE (word_first (codes "TABLE") _ 256 _ _ TABLE
    (name_then _ 256 t.same.0 _ _ n refl (open_next _ 256 _ _
    (bind_printed AreColumns _ 0 256 256 m.same.0 _ (listed (map column_text m.same.0)) _
    (omega arith) refl l (close_last 256 _)))))))

drop_table_prints : (o : Operator) → Read IsDropTable o → Prints IsDropTable o
unfolding operator_text
drop_table_prints o h =
    let m = unlead _ _ _ (unlead _ _ _ h) in
    let n = named _ (unmap _ _ _ m) in
    let P : Operator → Type 0 = λ x. Prints IsDropTable x in
    subst P (sym m.same.1) (word_first (codes "DROP") _ 256 _ _ DROP
    (word_first (codes "TABLE") _ 256 _ _ TABLE (last_name _ 256 m.same.0 n)))

rename_table_prints : (o : Operator) → Read IsRenameTable o → Prints IsRenameTable o
unfolding operator_text
rename_table_prints o h =
    let t = unlead _ _ _ (unlead _ _ _ h) in
    let n = named _ (left _ _ _ t) in
    let m = unlead _ _ _ (right _ _ _ t) in
    let k = named _ (unmap _ _ _ m) in
    let P : Operator → Type 0 = λ x. Prints IsRenameTable x in
    subst P (sym m.same.1)
    (as_bytes IsRenameTable 256 _ _ _ (right4 (codes "RENAME TABLE ") t.same.0 (codes " INTO ")
    m.same.0)
    (word_first (codes "RENAME") _ 256 _ _ RENAME
    (word_first (codes "TABLE") _ 256 _ _ TABLE
    (name_then _ 256 t.same.0 _ _ n refl (word_next (codes "INTO") _ 256 _ _ INTO
    (last_name _ 256 m.same.0 k))))))

copy_prints : (o : Operator) → Read IsCopyTable o → Prints IsCopyTable o
unfolding operator_text
copy_prints o h =
    let t = unlead _ _ _ (unlead _ _ _ h) in
    let n = named _ (left _ _ _ t) in
    let m = unlead _ _ _ (right _ _ _ t) in
    let k = named _ (unmap _ _ _ m) in
    let P : Operator → Type 0 = λ x. Prints IsCopyTable x in
    subst P (sym m.same.1)
    (as_bytes IsCopyTable 256 _ _ _ (right4 (codes "COPY TABLE ") t.same.0 (codes " INTO ")
    m.same.0)
    (word_first (codes "COPY") _ 256 _ _ COPY
    (word_first (codes "TABLE") _ 256 _ _ TABLE
    (name_then _ 256 t.same.0 _ _ n refl (word_next (codes "INTO") _ 256 _ _ INTO
    (last_name _ 256 m.same.0 k))))))

merge_prints : (o : Operator) → Read IsMergeTable o → Prints IsMergeTable o
unfolding operator_text
merge_prints o h =
    let r = unlead _ _ _ (unlead _ _ _ h) in
    let i = named _ (left _ _ _ r) in
    let s = unlead _ _ _ (right _ _ _ r) in
    let j = named _ (left _ _ _ s) in
    let t = unlead _ _ _ (right _ _ _ s) in
    let k = named _ (unmap _ _ _ t) in
    let P : Operator → Type 0 = λ x. Prints IsMergeTable x in
    subst P {x = merge_table r.same.0 s.same.0 t.same.0} (sym t.same.1)
    (as_bytes IsMergeTable 256 _ _ _ (right6 (codes "MERGE TABLE ") r.same.0 (codes ", ") s.same.0
    (codes " INTO ") t.same.0)
    (word_first (codes "MERGE") _ 256 _ _ MERGE
    (word_first (codes "TABLE") _ 256 _ _ TABLE
    (name_then _ 256 r.same.0 _ _ i refl (comma_next _ 256 _ _
    (name_then _ 256 s.same.0 _ _ j refl (word_next (codes "INTO") _ 256 _ _ INTO
    (last_name _ 256 t.same.0 k))))))))

partition_prints : (o : Operator) → tree_depth o ≤ 32 → Read IsPartitionTable o
    → Prints IsPartitionTable o
unfolding operator_text
partition_prints o deep h =
    let r = unlead _ _ _ (unlead _ _ _ h) in
    let i = named _ (left _ _ _ r) in
    let s = unlead _ _ _ (right _ _ _ r) in
    let j = named _ (left _ _ _ s) in
    let c = unlead _ _ _ (right _ _ _ s) in
    let t = unlead _ _ _ (right _ _ _ c) in
    let k = named _ (unmap _ _ _ t) in
    let Q : Operator → Type 0 = λ x. tree_depth x ≤ 32 in
    let y = test_printed c.same.0 (subst Q t.same.1 deep) (left _ _ _ c) in
    let P : Operator → Type 0 = λ x. Prints IsPartitionTable x in
    subst P {x = partition_table r.same.0 s.same.0 c.same.0 t.same.0} (sym t.same.1)
    (as_bytes IsPartitionTable 256 _ _ _ (right8 (codes "PARTITION TABLE ") r.same.0
    (codes " INTO ") s.same.0 (codes " WITH ") (cond_text c.same.0) (codes ", ") t.same.0)
    (word_first (codes "PARTITION") _ 256 _ _ PARTITION
    (word_first (codes "TABLE") _ 256 _ _ TABLE
    (name_then _ 256 r.same.0 _ _ i refl (word_next (codes "INTO") _ 256 _ _ INTO
    (name_then _ 256 s.same.0 _ _ j refl (word_next (codes "WITH") _ 256 _ _ WITH
    (bind_printed IsTest _ 256 0 256 c.same.0 _ (cond_text c.same.0) _ (omega arith) refl y
    (comma_next _ 0 _ _ (last_name _ 0 t.same.0 k))))))))))

decompose_prints : (o : Operator) → Read IsDecomposeTable o → Prints IsDecomposeTable o
unfolding operator_text
decompose_prints o h =
    let r = unlead _ _ _ (unlead _ _ _ h) in
    let i = named _ (left _ _ _ r) in
    let p = unlead _ _ _ (right _ _ _ r) in
    let j = part_printed _ (left _ _ _ p) in
    let q = unlead _ _ _ (right _ _ _ p) in
    let k = part_printed _ (unmap _ _ _ q) in
    let P : Operator → Type 0 = λ x. Prints IsDecomposeTable x in
    subst P {x = decompose_table r.same.0 p.same.0.0 p.same.0.1 q.same.0.0 q.same.0.1}
    (sym q.same.1)
    (as_bytes IsDecomposeTable 256 _ _ _ (right6 (codes "DECOMPOSE TABLE ") r.same.0
    (codes " INTO ") (part_text p.same.0.0 p.same.0.1) (codes ", ")
    (part_text q.same.0.0 q.same.0.1))
    (word_first (codes "DECOMPOSE") _ 256 _ _ DECOMPOSE
    (word_first (codes "TABLE") _ 256 _ _ TABLE
    (name_then _ 256 r.same.0 _ _ i refl (word_next (codes "INTO") _ 256 _ _ INTO
    (bind_printed IsPart _ 0 0 256 p.same.0 _ (part_text p.same.0.0 p.same.0.1) _ (omega arith) refl
    j (comma_next _ 0 _ _ (map_printed _ IsPart 0 q.same.0 (part_text q.same.0.0 q.same.0.1)
    k))))))))

join_prints : (o : Operator) → tree_depth o ≤ 32 → Read IsJoinTable o → Prints IsJoinTable o
unfolding operator_text
join_prints o deep h =
    let r = unlead _ _ _ (unlead _ _ _ h) in
    let i = named _ (left _ _ _ r) in
    let s = unlead _ _ _ (right _ _ _ r) in
    let j = named _ (left _ _ _ s) in
    let t = unlead _ _ _ (right _ _ _ s) in
    let k = named _ (left _ _ _ t) in
    let c = right _ _ _ t in
    let Q : Operator → Type 0 = λ x. tree_depth x ≤ 32 in
    let y = where_printed c.same.0 (subst Q c.same.1 deep) (unmap _ _ _ c) in
    let P : Operator → Type 0 = λ x. Prints IsJoinTable x in
    subst P {x = join_table r.same.0 s.same.0 t.same.0 c.same.0} (sym c.same.1)
    (as_bytes IsJoinTable 256 _ _ _ (right8 (codes "JOIN TABLE ") r.same.0 (codes ", ") s.same.0
    (codes " INTO ") t.same.0 (codes " WHERE ") (cond_text c.same.0))
    (word_first (codes "JOIN") _ 256 _ _ JOIN
    (word_first (codes "TABLE") _ 256 _ _ TABLE
    (name_then _ 256 r.same.0 _ _ i refl (comma_next _ 256 _ _
    (name_then _ 256 s.same.0 _ _ j refl (word_next (codes "INTO") _ 256 _ _ INTO
    (name_then _ 256 t.same.0 _ _ k refl (spaced_printed _ 256 _ _
    (map_printed _ (IsWhere false) 256 c.same.0 _ y))))))))))

add_prints : (o : Operator) → tree_depth o ≤ 32 → Read IsAddColumn o → Prints IsAddColumn o
unfolding operator_text
add_prints o deep h =
    let n = unlead _ _ _ (unlead _ _ _ h) in
    let i = named _ (left _ _ _ n) in
    let e = unlead _ _ _ (right _ _ _ n) in
    let r = unlead _ _ _ (right _ _ _ e) in
    let k = named _ (unmap _ _ _ r) in
    let Q : Operator → Type 0 = λ x. tree_depth x ≤ 32 in
    let y = tree_printed e.same.0 (subst Q r.same.1 deep) (left _ _ _ e) in
    let P : Operator → Type 0 = λ x. Prints IsAddColumn x in
    subst P (sym r.same.1)
    (as_bytes IsAddColumn 256 _ _ _ (right6 (codes "ADD COLUMN ") n.same.0 (codes " AS ")
    (expr_text e.same.0) (codes " INTO ") r.same.0)
    (word_first (codes "ADD") _ 256 _ _ ADD (word_first (codes "COLUMN") _ 256 _ _ COLUMN
    (name_then _ 256 n.same.0 _ _ i refl (word_next (codes "AS") _ 256 _ _ AS
    (bind_printed IsTree _ 256 0 256 e.same.0 _ (expr_text e.same.0) _ (omega arith) refl y
    (word_next (codes "INTO") _ 0 _ _ INTO (last_name _ 0 r.same.0 k))))))))

drop_column_prints : (o : Operator) → Read IsDropColumn o → Prints IsDropColumn o
unfolding operator_text
drop_column_prints o h =
    let n = unlead _ _ _ (unlead _ _ _ h) in
    let i = named _ (left _ _ _ n) in
    let r = unlead _ _ _ (right _ _ _ n) in
    let k = named _ (unmap _ _ _ r) in
    let P : Operator → Type 0 = λ x. Prints IsDropColumn x in
    subst P (sym r.same.1)
    (as_bytes IsDropColumn 256 _ _ _ (right4 (codes "DROP COLUMN ") n.same.0 (codes " FROM ")
    r.same.0)
    (word_first (codes "DROP") _ 256 _ _ DROP
    (word_first (codes "COLUMN") _ 256 _ _ COLUMN
    (name_then _ 256 n.same.0 _ _ i refl (word_next (codes "FROM") _ 256 _ _ FROM
    (last_name _ 256 r.same.0 k))))))

rename_column_prints : (o : Operator) → Read IsRenameColumn o → Prints IsRenameColumn o
unfolding operator_text
rename_column_prints o h =
    let b = unlead _ _ _ (unlead _ _ _ h) in
    let i = named _ (left _ _ _ b) in
    let r = unlead _ _ _ (right _ _ _ b) in
    let j = named _ (left _ _ _ r) in
    let c = unlead _ _ _ (right _ _ _ r) in
    let k = named _ (unmap _ _ _ c) in
    let P : Operator → Type 0 = λ x. Prints IsRenameColumn x in
    subst P {x = rename_column b.same.0 r.same.0 c.same.0} (sym c.same.1)
    (as_bytes IsRenameColumn 256 _ _ _ (right6 (codes "RENAME COLUMN ") b.same.0 (codes " IN ")
    r.same.0 (codes " TO ") c.same.0)
    (word_first (codes "RENAME") _ 256 _ _ RENAME
    (word_first (codes "COLUMN") _ 256 _ _ COLUMN
    (name_then _ 256 b.same.0 _ _ i refl (word_next (codes "IN") _ 256 _ _ IN
    (name_then _ 256 r.same.0 _ _ j refl (word_next (codes "TO") _ 256 _ _ TO
    (last_name _ 256 c.same.0 k))))))))

-- ---- any operator

module _ (o : Operator) (s : Size) (f : List Lexeme) (valid : AllValid f) (few : s.nodes ≤ 256)
    (narrow : (w : What) → s.wide w ≤ limit w) (deep : tree_depth o ≤ 32) where
  of : (G : Grammar Operator) → G o s f → Read G o
  of G h = record { size = s; prefix = f; same = h; valid = valid; few = few; narrow = narrow }

  as_one : (G : Grammar Operator) → ((t : Size) (l : List Lexeme) → G o t l → IsOperator o t l)
      → Prints G o → Prints IsOperator o
  as_one G up p = among G IsOperator 256 o (operator_text o) up p

  pub operator_prints : IsOperator o s f → Prints IsOperator o
  operator_prints (inl h) = as_one IsNop (λ t l k. inl k) (nop_prints o (of IsNop h))
  operator_prints (inr (inl h)) = as_one IsCreateTable (λ t l k. inr (inl k))
      (create_prints o (of IsCreateTable h))
  operator_prints (inr (inr (inl h))) = as_one IsDropTable (λ t l k. inr (inr (inl k)))
      (drop_table_prints o (of IsDropTable h))
  operator_prints (inr (inr (inr (inl h)))) =
      as_one IsRenameTable (λ t l k. inr (inr (inr (inl k))))
      (rename_table_prints o (of IsRenameTable h))
  operator_prints (inr (inr (inr (inr (inl h))))) =
      as_one IsCopyTable (λ t l k. inr (inr (inr (inr (inl k))))) (copy_prints o (of IsCopyTable h))
  operator_prints (inr (inr (inr (inr (inr (inl h)))))) =
      as_one IsMergeTable (λ t l k. inr (inr (inr (inr (inr (inl k))))))
      (merge_prints o (of IsMergeTable h))
  operator_prints (inr (inr (inr (inr (inr (inr (inl h))))))) =
      as_one IsPartitionTable (λ t l k. inr (inr (inr (inr (inr (inr (inl k)))))))
      (partition_prints o deep (of IsPartitionTable h))
  operator_prints (inr (inr (inr (inr (inr (inr (inr (inl h)))))))) =
      as_one IsDecomposeTable (λ t l k. inr (inr (inr (inr (inr (inr (inr (inl k))))))))
      (decompose_prints o (of IsDecomposeTable h))
  operator_prints (inr (inr (inr (inr (inr (inr (inr (inr (inl h))))))))) =
      as_one IsJoinTable (λ t l k. inr (inr (inr (inr (inr (inr (inr (inr (inl k)))))))))
      (join_prints o deep (of IsJoinTable h))
  operator_prints (inr (inr (inr (inr (inr (inr (inr (inr (inr (inl h)))))))))) =
      as_one IsAddColumn (λ t l k. inr (inr (inr (inr (inr (inr (inr (inr (inr (inl k))))))))))
      (add_prints o deep (of IsAddColumn h))
  operator_prints (inr (inr (inr (inr (inr (inr (inr (inr (inr (inr (inl h))))))))))) =
      as_one IsDropColumn (λ t l k. inr (inr (inr
      (inr (inr (inr (inr (inr (inr (inr (inl k)))))))))))
      (drop_column_prints o (of IsDropColumn h))
  operator_prints (inr (inr (inr (inr (inr (inr (inr (inr (inr (inr (inr h))))))))))) =
      as_one IsRenameColumn (λ t l k. inr (inr
      (inr (inr (inr (inr (inr (inr (inr (inr (inr k)))))))))))
      (rename_column_prints o (of IsRenameColumn h))
