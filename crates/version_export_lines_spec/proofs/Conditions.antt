-- The condition of a row is in the grammar.
use Rattle.std.specs.Prelude.{◌≡◌, ◌≤◌, ◌*◌, ℤ, pos, negsuc, true, false, List, [], ◌∷◌, ◌++◌}
use Rattle.std.specs.Prelude.{map, length, codes}
use Rattle.std.proofs.Common.{refl, sym, ap, subst, arith}
use Rattle.std.proofs.lemmas.Bool.Decides.{nat_tests}
use Rattle.std.proofs.lemmas.Int.{ints}
use Rattle.prima_base.specs.declared.value.Value.{Value}
use Rattle.prima_base.specs.declared.value.Value.TheVariants.{Int, Text}
use Rattle.prima_base.specs.declared.refusal.What.{What}
use Rattle.prima_base.specs.Limits.{max_columns}
use Rattle.prima_base.specs.Columns.{IsValid}
use Rattle.cond_expr.specs.declared.expr.CmpOp.TheVariants.{Eq}
use Rattle.cond_expr.specs.Trees.{Tests, constant, all_of, a_test}
use Rattle.cond_expr.specs.Seen.{tests_of}
use Rattle.lexer_spec.specs.Lexemes.{Lexeme, word, number, text, is_int}
use Rattle.lexer_combinators.specs.Grammar.{Size, nothing_counted, both, one_node}
use Rattle.lexer_trees_spec.specs.Grammar as g
use Rattle.lexer_trees_spec.specs.Grammar.{IsExpr, IsFact, AreFacts, IsConj, IsCond, leaf}
use Rattle.lexer_trees_spec.specs.Grammar.{comparison_lexeme}
use Rattle.smo_parse.specs.Texts.{cond_text}
use Rattle.smo_parse.specs.Productions.{IsTest}
use Rattle.smo_parse.proofs.PrintedTrees.{AllValid, AND}
use Rattle.smo_parse.proofs.PrintedParts.{Read, Printed, test_printed}
use Rattle.version_export_past_spec.specs.Rows.{Cell, has_cell, have_cells, is_row_of}
use Rattle.version_export_past_spec.proofs.Acceptance.{row_depth}
use Rattle.version_export_lines_spec.specs.Named.{IsFreeName, AreReadable}

-- ---- constants

pub int_in_range : (z : ℤ) → IsValid (Int z) → is_int z ≡ true
int_in_range (pos n) h = (let l : n ≤ 9223372036854775807 = omega (arith, ints, h.1) in
    grind (arith, nat_tests, l))
int_in_range (negsuc n) h = (let l : n ≤ 9223372036854775807 = omega (arith, ints, h.0) in
    grind (arith, nat_tests, l))

-- what a constant is spelled as
abbrev pub spelling : Value → Lexeme
spelling (Int z) = number z
spelling (Text t) = text t

pub constant_is : (v : Value) → IsValid v → IsExpr false (constant v) leaf (spelling v ∷ [])
constant_is (Int z) h = g.an_int false z (int_in_range z h)
constant_is (Text t) h = g.a_text false t

constant_valid : (v : Value) → IsValid v → AllValid (spelling v ∷ [])
constant_valid (Int z) h = (tt, tt)
constant_valid (Text t) h = (h, tt)

-- ---- COLUMN = VALUE

abbrev cell_spelled : Cell → List Lexeme
cell_spelled c = word c.0 ∷ comparison_lexeme Eq ∷ spelling c.1 ∷ []

abbrev cell_size : Size
cell_size = both leaf (one_node leaf)

cell_is : (c : Cell) → IsFreeName c.0 → IsValid c.1
    → IsFact false (has_cell c) cell_size (cell_spelled c)
cell_is c n v = g.comparison false Eq _ _ leaf leaf (word c.0 ∷ []) (spelling c.1 ∷ [])
    (g.of_atom c.0 n.1) (constant_is c.1 v)

cell_valid : (c : Cell) → IsFreeName c.0 → IsValid c.1 → AllValid (cell_spelled c)
cell_valid c n v = (λ e. n.0, (tt, constant_valid c.1 v))

-- ---- joined by AND

tests_are : (cells : List Cell) → have_cells cells ≡ tests_of (map has_cell cells)
tests_are [] = refl
tests_are (c ∷ cells) = ap (a_test (has_cell c)) (tests_are cells)

-- some more after AND
pub record More (cells : List Cell) : Type 0 where
  pub size : Size
  pub prefix : List Lexeme
  pub same : AreFacts false (map has_cell cells) size prefix
  pub valid : AllValid prefix
  pub few : size.nodes ≡ 3 * length cells
  pub narrow : (w : What) → size.wide w ≡ 0

valid_both : (f g : List Lexeme) → AllValid f → AllValid g → AllValid (f ++ g)
valid_both [] g h k = k
valid_both (x ∷ f) g h k = (h.0, valid_both f g h.1 k)

more_cells : (cells : List Cell) → AreReadable cells → More cells
more_cells [] h = record {
  size = nothing_counted;
  prefix = [];
  same = g.no_fact false;
  valid = tt;
  few = refl;
  narrow = λ w. refl;
}
more_cells (c ∷ cells) h =
    let m = more_cells cells h.1 in
    let few = m.few in
    record {
      size = both cell_size m.size;
      prefix = word (codes "AND") ∷ (cell_spelled c ++ m.prefix);
      same = g.a_fact false (has_cell c) (map has_cell cells) cell_size m.size (cell_spelled c)
          m.prefix (cell_is c h.0.0 h.0.1) m.same;
      valid = (λ e. AND, valid_both (cell_spelled c) m.prefix (cell_valid c h.0.0 h.0.1) m.valid);
      few = omega (arith, few);
      narrow = λ w. (let z = m.narrow w in omega (arith, z));
    }

-- the condition of a row of some columns
row_read : (cells : List Cell) → 1 ≤ length cells → length cells ≤ max_columns → AreReadable cells
    → Read IsTest (is_row_of cells)
row_read [] some few h = absurd (omega (arith, some))
row_read (c ∷ []) some few h = record {
  size = cell_size;
  prefix = cell_spelled c;
  same = g.one_conj false _ _ _ (g.one_fact false _ _ _ (cell_is c h.0.0 h.0.1));
  valid = cell_valid c h.0.0 h.0.1;
  few = omega arith;
  narrow = λ w. omega arith;
}
row_read (c ∷ d ∷ cells) some few h =
    let m = more_cells cells h.1.1 in
    let nodes = m.few in
    record {
      size = both cell_size (one_node (both cell_size m.size));
      prefix = cell_spelled c ++ word (codes "AND") ∷ (cell_spelled d ++ m.prefix);
      same = subst (λ (ts : Tests). IsCond false (all_of (a_test (has_cell c)
          (a_test (has_cell d) ts))) (both cell_size (one_node (both cell_size m.size)))
          (cell_spelled c ++ word (codes "AND") ∷ (cell_spelled d ++ m.prefix)))
          (sym (tests_are cells))
          (g.one_conj false _ _ _ (g.an_and false (has_cell c) (has_cell d) (map has_cell cells)
          cell_size cell_size m.size (cell_spelled c) (cell_spelled d) m.prefix
          (cell_is c h.0.0 h.0.1) (cell_is d h.1.0.0 h.1.0.1) m.same));
      valid = valid_both (cell_spelled c) (word (codes "AND") ∷ (cell_spelled d ++ m.prefix))
          (cell_valid c h.0.0 h.0.1)
          (λ e. AND, valid_both (cell_spelled d) m.prefix (cell_valid d h.1.0.0 h.1.0.1) m.valid);
      few = omega (arith, nodes, few);
      narrow = λ w. (let z = m.narrow w in omega (arith, z));
    }

pub row_printed : (cells : List Cell) → 1 ≤ length cells → length cells ≤ max_columns
    → AreReadable cells → Printed IsTest 256 (is_row_of cells) (cond_text (is_row_of cells))
row_printed cells some few h = test_printed (is_row_of cells)
    (let d = row_depth cells in omega (arith, d)) (row_read cells some few h)
