-- The lines of commands have tokens that spell the commands.
use Rattle.std.specs.Prelude.{◌≡◌, ◌≤◌, ◌+◌, ℕ, suc, pos, true, false, cond, List, [], ◌∷◌}
use Rattle.std.specs.Prelude.{◌++◌, map, length, zip, codes, nat_le, Some, None, ⊤, decimal}
use Rattle.std.proofs.Common.{refl, sym, ap, subst, ◌∙◌, inl, inr, arith, append_assoc, append-nil}
use Rattle.std.proofs.Math.Nat.{max-le}
use Rattle.std.proofs.lemmas.Bool.Decides.{nat_tests}
use Rattle.prima_base.specs.Bytes.{IsName}
use Rattle.prima_base.specs.declared.value.Value.{Value}
use Rattle.prima_base.specs.declared.value.Value.TheVariants.{Int, Text}
use Rattle.prima_base.specs.declared.value.ColType.{ColType}
use Rattle.prima_base.specs.declared.refusal.What.{What}
use Rattle.prima_base.specs.declared.refusal.What.TheVariants as what
use Rattle.prima_base.specs.Limits.{max_columns}
use Rattle.prima_base.specs.Columns.{Column, IsValid}
use Rattle.schema_catalog.specs.Places.{NamedColumns}
use Rattle.cond_expr.specs.Trees.{Test}
use Rattle.smo_ops_types.specs.Operators.{Operator, create_table}
use Rattle.smo_ops_types.specs.Changes.{PlainChange, insertion, deletion}
use Rattle.smo_ops_types.specs.Commands.{changing, PlainCommand}
use Rattle.smo_ops_spec.specs.Checks.{pair_names}
use Rattle.lexer_spec.specs.Lexemes.{Lexeme, word, number, text}
use Rattle.lexer_combinators.specs.Grammar.{Grammar, Size, nothing_counted, both, no_end, AreMore}
use Rattle.lexer_combinators.specs.Grammar.{fresh_size}
use Rattle.lexer_combinators.specs.Grammar as grammar
use Rattle.lexer_combinators.specs.Parsing.{limit}
use Rattle.lexer_trees_spec.specs.Constants.{name_grammar, names_grammar, constant_grammar}
use Rattle.lexer_trees_spec.specs.Constants.{moment_grammar}
use Rattle.lexer_trees_spec.specs.Where.{IsFreshWhere}
use Rattle.smo_parse.specs.Productions.{IsTest, IsType, IsColumn, AreColumns, IsCreateTable}
use Rattle.smo_parse.specs.Productions.{IsOperator}
use Rattle.smo_parse.specs.TreeTexts.{value_text}
use Rattle.smo_parse.specs.Texts.{more_listed, listed, type_text, column_text, cond_text}
use Rattle.smo_parse.specs.Texts.{operator_text}
use Rattle.smo_parse.proofs.Spellings.{Closing, any_int}
use Rattle.smo_parse.proofs.Spelled.{none, a_space, a_token, an_open, single, join, as_text}
use Rattle.smo_parse.proofs.Spelled.{right3, right4, right5}
use Rattle.smo_parse.proofs.PrintedTrees.{OPEN, CLOSE, THEN, spaced}
use Rattle.smo_parse.proofs.PrintedParts.{Printed, led, bind_printed, map_printed, pure_printed}
use Rattle.smo_parse.proofs.PrintedParts.{as_bytes, among, name_printed, name_then, word_first}
use Rattle.smo_parse.proofs.PrintedParts.{word_next, CREATE, TABLE, INTO, WHERE, FROM}
use Rattle.smo_parse.proofs.PrintedParts.{type_printed, more_closes_all, Comma, map_same}
use Rattle.smo_parse.proofs.PrintedParts.{spaced_printed, open_next, close_last}
use Rattle.script_parse.specs.Productions.{AreSoMany, IsRow, IsInsert, IsDelete}
use Rattle.script_parse.specs.Productions.{IsChange, AreChanges, IsOp, IsInverse, IsEvolve}
use Rattle.script_parse.specs.Productions.{IsBody, IsWrite, IsStatement}
use Rattle.script_parse.specs.Statements.{evolving_by, write}
use Rattle.version_export_past_spec.specs.Rows.{Cell, is_row_of}
use Rattle.version_export_lines_spec.specs.Lines.{cell_values, change_text, then_texts}
use Rattle.version_export_lines_spec.specs.Lines.{changes_text, body_text}
use Rattle.version_export_lines_spec.specs.Lines.{command_text}
use Rattle.version_export_lines_spec.specs.Named.{IsFreeName, AreFreeNames, IsReadable, AreReadable}
use Rattle.version_export_lines_spec.proofs.Conditions.{int_in_range, row_printed}

-- ---- words

pub INSERT : IsName (codes "INSERT")
INSERT = record { some = omega arith; short = omega arith; valid = refl }

pub VALUES : IsName (codes "VALUES")
VALUES = record { some = omega arith; short = omega arith; valid = refl }

pub DELETE : IsName (codes "DELETE")
DELETE = record { some = omega arith; short = omega arith; valid = refl }

pub EVOLVE : IsName (codes "EVOLVE")
EVOLVE = record { some = omega arith; short = omega arith; valid = refl }

pub AT : IsName (codes "AT")
AT = record { some = omega arith; short = omega arith; valid = refl }

-- ---- parts

-- with counts of its own
fresh_printed : {A : Type 0} (G : Grammar A) (a : A) (b : List ℕ) → Printed G 256 a b
    → Printed (grammar.fresh G) 0 a b
fresh_printed G a b p = record {
  size = fresh_size p.size;
  prefix = p.prefix;
  same = (p.size, refl, p.same);
  few = omega arith;
  shallow = p.shallow;
  narrow = narrow;
  spells = p.spells;
}
  where
    narrow : (w : What) → (fresh_size p.size).wide w ≤ limit w
    narrow what.Nodes = max-le p.few (p.narrow what.Nodes)
    narrow what.Depth = p.narrow what.Depth
    narrow what.Parts = p.narrow what.Parts
    narrow what.Tables = p.narrow what.Tables
    narrow what.Branches = p.narrow what.Branches
    narrow what.Outputs = p.narrow what.Outputs
    narrow what.Keeps = p.narrow what.Keeps
    narrow what.Changes = p.narrow what.Changes
    narrow what.Columns = p.narrow what.Columns
    narrow what.Inverse = p.narrow what.Inverse
    narrow what.Versions = p.narrow what.Versions

-- of no nodes is of few
pub few_printed : {A : Type 0} (G : Grammar A) (a : A) (b : List ℕ) → Printed G 0 a b
    → Printed G 256 a b
few_printed G a b p = record {
  size = p.size;
  prefix = p.prefix;
  same = p.same;
  few = (let f = p.few in omega (arith, f));
  shallow = p.shallow;
  narrow = p.narrow;
  spells = p.spells;
}

-- a closing bracket, and what follows it
close_then : {A : Type 0} (G : Grammar A) (a : A) (b : List ℕ) → Closing b → Printed G 0 a b
    → Printed (grammar.lead CLOSE G) 0 a (41 ∷ b)
close_then G a b z p = led CLOSE G 0 a b (41 ∷ b) (λ f s. a_token CLOSE f b refl z s) p

open_first : {A : Type 0} (G : Grammar A) (a : A) (b : List ℕ) → Printed G 0 a b
    → Printed (grammar.lead OPEN G) 0 a (40 ∷ b)
open_first G a b p = led OPEN G 0 a b (40 ∷ b) (λ f s. an_open f b s) p

constant_printed : (v : Value) → IsValid v → Printed constant_grammar 0 v (value_text v)
constant_printed (Int z) h = record {
  size = nothing_counted;
  prefix = number z ∷ [];
  same = (number z, ap (λ b. cond b (Some (Int z)) None) (int_in_range z h), refl, refl);
  few = omega arith;
  shallow = omega arith;
  narrow = λ w. omega arith;
  spells = single (number z) (any_int z (int_in_range z h));
}
constant_printed (Text t) h = record {
  size = nothing_counted;
  prefix = text t ∷ [];
  same = (text t, refl, refl, refl);
  few = omega arith;
  shallow = omega arith;
  narrow = λ w. omega arith;
  spells = single (text t) h;
}

-- ---- lists with commas

module _ {A : Type 0} (G : A → Size → List Lexeme → Type 0) (written : A → List ℕ) where
  abbrev pub AllPrinted : List A → Type 0
  AllPrinted [] = ⊤
  AllPrinted (a ∷ l) = Printed G 0 a (written a) × AllPrinted l

  more_of : (l : List A) (j : ℕ) → AllPrinted l
      → Printed (AreMore Comma no_end G j) 0 l (more_listed (map written l))
  more_of [] j h = record {
    size = nothing_counted;
    prefix = [];
    same = (refl, refl);
    few = omega arith;
    shallow = omega arith;
    narrow = λ w. omega arith;
    spells = none;
  }
  more_of (a ∷ l) j h =
      let p = h.0 in
      let k = more_of l (j + 1) h.1 in
      record {
        size = both p.size k.size;
        prefix = Comma ∷ (p.prefix ++ k.prefix);
        same = (p.size, k.size, p.prefix, k.prefix, refl, refl, p.same, k.same);
        few = (let a = p.few in let b = k.few in omega (arith, a, b));
        shallow = max-le p.shallow k.shallow;
        narrow = λ w. max-le (p.narrow w) (k.narrow w);
        spells = as_text _ _ _ (right3 (codes ", ") (written a) (more_listed (map written l)))
            (a_token Comma _ _ refl refl (a_space _ _
            (join p.prefix k.prefix (written a) (more_listed (map written l)) p.spells k.spells
            (more_closes_all (map written l)))));
      }

  pub list_of : (a : A) (l : List A) → AllPrinted (a ∷ l)
      → Printed (grammar.list Comma G) 0 (a ∷ l) (listed (map written (a ∷ l)))
  list_of a l h = bind_printed G (λ x. grammar.map (λ m. x ∷ m) (AreMore Comma no_end G 0)) 0 0 0 a
      (a ∷ l) (written a) (more_listed (map written l)) (omega arith)
      (more_closes_all (map written l)) h.0
      (map_printed (λ m. a ∷ m) (AreMore Comma no_end G 0) 0 l (more_listed (map written l))
      (more_of l 0 h.1))

-- ---- INSERT

names_of_cells : (cells : List Cell) → AreReadable cells
    → AllPrinted name_grammar (λ n. n) (pair_names cells)
names_of_cells [] h = tt
names_of_cells (c ∷ cells) h = (name_printed 0 c.0 h.0.0, names_of_cells cells h.1)

values_of_cells : (cells : List Cell) → AreReadable cells
    → AllPrinted constant_grammar value_text (cell_values cells)
values_of_cells [] h = tt
values_of_cells (c ∷ cells) h = (constant_printed c.1 h.0.1, values_of_cells cells h.1)

as_many : (cells : List Cell) → length (cell_values cells) ≡ length (pair_names cells)
as_many [] = refl
as_many (c ∷ cells) = ap suc (as_many cells)

again : (cells : List Cell) → zip (pair_names cells) (cell_values cells) ≡ cells
again [] = refl
again (c ∷ cells) = ap (λ l. c ∷ l) (again cells)

module _ (t : List ℕ) (named : IsFreeName t) where
  abbrev cells_of : List Cell → PlainChange
  cells_of cells = insertion t cells

  insert_by_parts : (c : Cell) (cells : List Cell) → AreReadable (c ∷ cells)
      → Printed IsInsert 0 (insertion t (zip (pair_names (c ∷ cells)) (cell_values (c ∷ cells))))
      (codes "INSERT" ++ 32 ∷ (codes "INTO" ++ 32 ∷ (t ++ 32 ∷ 40
      ∷ (listed (map (λ (n : List ℕ). n) (pair_names (c ∷ cells))) ++ 41 ∷ 32 ∷ (codes "VALUES"
      ++ 32 ∷ 40 ∷ (listed (map value_text (cell_values (c ∷ cells))) ++ 41 ∷ []))))))
  insert_by_parts c cells h =
      let names : List (List ℕ) = pair_names (c ∷ cells) in
      let values : List Value = cell_values (c ∷ cells) in
      word_first (codes "INSERT") _ 0 _ _ INSERT (word_first (codes "INTO") _ 0 _ _ INTO
      (name_then _ 0 t _ _ named refl (open_next _ 0 _ _
      (bind_printed names_grammar (λ ns. grammar.lead CLOSE (grammar.lead (word (codes "VALUES"))
      (grammar.map (λ cs. insertion t cs) (IsRow ns)))) 0 0 0 names _
      (listed (map (λ (n : List ℕ). n) names)) _ (omega arith) refl
      (list_of name_grammar (λ n. n) c.0 (pair_names cells) (names_of_cells (c ∷ cells) h))
      (close_then _ _ _ refl (word_next (codes "VALUES") _ 0 _ _ VALUES
      (map_printed (λ cs. insertion t cs) (IsRow names) 0 (zip names values) _
      (open_first _ _ _ (bind_printed (AreSoMany (length names))
      (λ vs. grammar.lead CLOSE (grammar.pure (zip names vs))) 0 0 0 values (zip names values)
      (listed (map value_text values)) (41 ∷ []) (omega arith) refl
      (among (grammar.list Comma constant_grammar) (AreSoMany (length names)) 0 values
      (listed (map value_text values)) (λ s f k. (as_many (c ∷ cells), k))
      (list_of constant_grammar value_text c.1 (cell_values cells)
      (values_of_cells (c ∷ cells) h)))
      (close_last 0 (zip names values)))))))))))

  -- the same bytes
  insert_bytes : (names values : List ℕ)
      → codes "INSERT INTO " ++ (t ++ codes " (" ++ names ++ codes ")") ++ codes " VALUES ("
      ++ values ++ codes ")"
      ≡ codes "INSERT" ++ 32 ∷ (codes "INTO" ++ 32 ∷ (t ++ 32 ∷ 40
      ∷ (names ++ 41 ∷ 32 ∷ (codes "VALUES" ++ 32 ∷ 40 ∷ (values ++ 41 ∷ [])))))
  insert_bytes names values =
      right5 (codes "INSERT INTO ") (t ++ codes " (" ++ names ++ codes ")") (codes " VALUES (")
      values (codes ")")
      ∙ ap (λ l. codes "INSERT INTO " ++ (l ++ (codes " VALUES (" ++ (values ++ codes ")"))))
      (right4 t (codes " (") names (codes ")"))
      ∙ ap (λ l. codes "INSERT INTO " ++ l)
      (append_assoc t (codes " (" ++ (names ++ codes ")"))
      (codes " VALUES (" ++ (values ++ codes ")")))
      ∙ ap (λ l. codes "INSERT INTO " ++ (t ++ 32 ∷ 40 ∷ l))
      (append_assoc names (codes ")") (codes " VALUES (" ++ (values ++ codes ")")))

  pub insert_printed : (cells : List Cell) → 1 ≤ length cells → AreReadable cells
      → Printed IsInsert 0 (insertion t cells) (change_text (insertion t cells))
  insert_printed [] some h = absurd (omega (arith, some))
  insert_printed (c ∷ cells) some h =
      let names : List (List ℕ) = pair_names (c ∷ cells) in
      let P : List Cell → Type 0 = λ cs. Printed IsInsert 0 (insertion t cs)
      (change_text (insertion t (c ∷ cells))) in
      subst P (again (c ∷ cells))
      (as_bytes IsInsert 0 _ _ _ (insert_bytes (listed names)
      (listed (map value_text (cell_values (c ∷ cells))))
      ∙ ap (λ (l : List (List ℕ)). codes "INSERT" ++ 32 ∷ (codes "INTO" ++ 32 ∷ (t ++ 32 ∷ 40
      ∷ (listed l ++ 41 ∷ 32 ∷ (codes "VALUES"
      ++ 32 ∷ 40 ∷ (listed (map value_text (cell_values (c ∷ cells))) ++ 41 ∷ []))))))
      (sym (map_same names)))
      (insert_by_parts c cells h))

  -- ---- DELETE

  pub delete_printed : (cells : List Cell) → 1 ≤ length cells → length cells ≤ max_columns
      → AreReadable cells
      → Printed IsDelete 0 (deletion t (is_row_of cells))
      (change_text (deletion t (is_row_of cells)))
  delete_printed cells some few h =
      let c : Test = is_row_of cells in
      as_bytes IsDelete 0 _ _ _ (right4 (codes "DELETE FROM ") t (codes " WHERE ") (cond_text c))
      (word_first (codes "DELETE") _ 0 _ _ DELETE (word_first (codes "FROM") _ 0 _ _ FROM
      (name_then _ 0 t _ _ named refl
      (map_printed (λ d. deletion t d) (IsFreshWhere false) 0 c _
      (among (grammar.lead (word (codes "WHERE")) (grammar.fresh IsTest)) (IsFreshWhere false) 0 c _
      (λ s f k. inr k)
      (word_next (codes "WHERE") (grammar.fresh IsTest) 0 c (cond_text c) WHERE
      (fresh_printed IsTest c (cond_text c) (row_printed cells some few h))))))))

-- ---- several changes

pub then_closes : (changes : List PlainChange) → Closing (then_texts changes)
then_closes [] = tt
then_closes (c ∷ changes) = refl

then_more : (l : List PlainChange) (j : ℕ) → AllPrinted IsChange change_text l
    → Printed (AreMore (word (codes "THEN")) no_end IsChange j) 0 l (then_texts l)
then_more [] j h = record {
  size = nothing_counted;
  prefix = [];
  same = (refl, refl);
  few = omega arith;
  shallow = omega arith;
  narrow = λ w. omega arith;
  spells = none;
}
then_more (c ∷ l) j h =
    let p = h.0 in
    let k = then_more l (j + 1) h.1 in
    record {
      size = both p.size k.size;
      prefix = word (codes "THEN") ∷ (p.prefix ++ k.prefix);
      same = (p.size, k.size, p.prefix, k.prefix, refl, refl, p.same, k.same);
      few = (let a = p.few in let b = k.few in omega (arith, a, b));
      shallow = max-le p.shallow k.shallow;
      narrow = λ w. max-le (p.narrow w) (k.narrow w);
      spells = as_text _ _ _ (right3 (codes " THEN ") (change_text c) (then_texts l))
          (spaced (codes "THEN") (p.prefix ++ k.prefix) (change_text c ++ then_texts l) THEN
          (join p.prefix k.prefix (change_text c) (then_texts l) p.spells k.spells
          (then_closes l)));
    }

pub changes_printed : (c : PlainChange) (l : List PlainChange)
    → AllPrinted IsChange change_text (c ∷ l)
    → Printed AreChanges 0 (changing (c ∷ l)) (changes_text (c ∷ l))
changes_printed c l h =
    let THENS : Lexeme = word (codes "THEN") in
    map_printed (λ cs. changing cs) (grammar.list (word (codes "THEN")) IsChange) 0 (c ∷ l)
    (changes_text (c ∷ l))
    (bind_printed IsChange (λ x. grammar.map (λ m. x ∷ m)
    (AreMore (word (codes "THEN")) no_end IsChange 0)) 0 0 0 c (c ∷ l) (change_text c)
    (then_texts l) (omega arith) (then_closes l) h.0
    (map_printed (λ m. c ∷ m) (AreMore (word (codes "THEN")) no_end IsChange 0) 0 l (then_texts l)
    (then_more l 0 h.1)))

-- ---- the EVOLVE that creates a table

spaced_type : (k : ColType) → Printed IsType 0 k (32 ∷ type_text k)
spaced_type k = spaced_printed IsType 0 k (type_text k) (type_printed k)

column_of : (c : Column) → IsFreeName c.0 → Printed IsColumn 0 c (column_text c)
column_of c h = as_bytes IsColumn 0 c _ _ (right3 c.0 (codes " ") (type_text c.1))
    (name_then (λ n. grammar.map (λ k. (n, k)) IsType) 0 c.0 c (32 ∷ type_text c.1) h refl
    (map_printed (λ k. (c.0, k)) IsType 0 c.1 (32 ∷ type_text c.1) (spaced_type c.1)))

columns_all : (cs : List Column) → AreFreeNames cs → AllPrinted IsColumn column_text cs
columns_all [] h = tt
columns_all (c ∷ cs) h = (column_of c h.0, columns_all cs h.1)

create_by : (r : List ℕ) (c : Column) (cs : List Column) → IsFreeName r → AreFreeNames (c ∷ cs)
    → Printed IsCreateTable 0 (create_table r (c ∷ cs)) (operator_text (create_table r (c ∷ cs)))
unfolding operator_text
create_by r c cs n h =
    as_bytes IsCreateTable 0 _ _ _ (ap (λ b. codes "CREATE TABLE " ++ b)
    (right4 r (codes " (") (listed (map column_text (c ∷ cs))) (codes ")")))
    (word_first (codes "CREATE") _ 0 _ _ CREATE (word_first (codes "TABLE") _ 0 _ _ TABLE
    (name_then _ 0 r _ _ n refl (open_next _ 0 _ _
    (bind_printed AreColumns (λ columns. grammar.lead CLOSE
    (grammar.pure (create_table r columns))) 0 0 0 (c ∷ cs) _
    (listed (map column_text (c ∷ cs))) _ (omega arith) refl
    (list_of IsColumn column_text c cs (columns_all (c ∷ cs) h)) (close_last 0 _))))))

pub create_printed : (t : NamedColumns) → IsReadable t
    → Printed IsCreateTable 0 (create_table t.0 t.1) (operator_text (create_table t.0 t.1))
create_printed t h = by_columns t.1 h.some h.columns
  where
    by_columns : (cs : List Column) → 1 ≤ length cs → AreFreeNames cs
        → Printed IsCreateTable 0 (create_table t.0 cs) (operator_text (create_table t.0 cs))
    by_columns [] some f = absurd (omega (arith, some))
    by_columns (c ∷ cs) some f = create_by t.0 c cs h.table f

-- an operator, with no inverse
pub evolve_printed : (op : Operator) → Printed IsOperator 256 op (operator_text op)
    → Printed IsEvolve 0 (evolving_by op []) (body_text (evolving_by op []))
evolve_printed op p = word_first (codes "EVOLVE") _ 0 _ _ EVOLVE
    (as_bytes _ 0 _ _ _ (sym (append-nil (operator_text op)))
    (bind_printed IsOp (λ o. grammar.map (λ inverse. evolving_by o inverse) IsInverse) 0 0 0 op
    (evolving_by op []) (operator_text op) [] (omega arith) tt
    (fresh_printed IsOperator op (operator_text op) p)
    (map_printed (λ inverse. evolving_by op inverse) IsInverse 0 [] []
    (among (grammar.pure []) IsInverse 0 [] [] (λ s f k. inl k) (pure_printed 0 [])))))

-- ---- the whole command

moment_fits : (n : ℕ) → n ≤ 18446744073709551614 → nat_le n 18446744073709551614 ≡ true
moment_fits n l = grind (arith, nat_tests, l)

number_fits : (n : ℕ) → n ≤ 18446744073709551614 → nat_le n 18446744073709551615 ≡ true
number_fits n l = grind (arith, nat_tests, l)

moment_printed : (n : ℕ) → n ≤ 18446744073709551614 → Printed moment_grammar 0 n (decimal n)
moment_printed n l = record {
  size = nothing_counted;
  prefix = number (pos n) ∷ [];
  same = (number (pos n), ap (λ b. cond b (Some n) None) (moment_fits n l), refl, refl);
  few = omega arith;
  shallow = omega arith;
  narrow = λ w. omega arith;
  spells = single (number (pos n)) (number_fits n l);
}

pub command_printed : (c : PlainCommand) → c.stamp ≤ 18446744073709551614
    → Printed IsBody 0 c.body (body_text c.body)
    → Printed IsStatement 0 (write c) (command_text c)
command_printed c l p =
    among IsWrite IsStatement 0 (write c) (command_text c) (λ s f k. inl k)
    (as_bytes IsWrite 0 (write c) _ _
    (right4 (codes "AT ") (decimal c.stamp) (codes " ") (body_text c.body))
    (word_first (codes "AT") _ 0 _ _ AT
    (bind_printed moment_grammar (λ stamp. grammar.map
    (λ body. write (record { stamp = stamp; body = body })) IsBody) 0 0 0 c.stamp (write c)
    (decimal c.stamp) (32 ∷ body_text c.body) (omega arith) refl (moment_printed c.stamp l)
    (map_printed (λ body. write (record { stamp = c.stamp; body = body })) IsBody 0 c.body
    (32 ∷ body_text c.body) (spaced_printed IsBody 0 c.body (body_text c.body) p)))))
