-- Worked rows: what a query means over one database, which entries are kept, and what is wrong with
-- a query.
use Rattle.std.specs.Prelude.{◌≡◌, true, false, List, [], ◌∷◌, ◌++◌, map, Some, None, refl}
use Rattle.relations_spec.specs.Sets.{set_of}
use Rattle.relations_spec.specs.Spans.{span, forever}
use Rattle.relations_spec.specs.Choices.{choices}
use Rattle.prima_base.specs.declared.keep.Keep.TheVariants.{Starting, Ending, Lasting, Covering}
use Rattle.prima_base.specs.declared.keep.Keep.TheVariants.{Overlapping}
use Rattle.prima_base.specs.declared.refusal.Refusal.TheVariants.{NoTable, NoColumn, Ambiguous}
use Rattle.prima_base.specs.declared.refusal.Refusal.TheVariants.{WrongType, Arity, EmptyPeriod}
use Rattle.prima_base.specs.Order.{row_cmp}
use Rattle.prima_base.specs.Keeping.{keeps}
use Rattle.cond_expr.specs.declared.expr.Whose.TheVariants.{Free, Alias, Atom}
use Rattle.cond_expr.specs.declared.expr.CmpOp.TheVariants.{Eq}
use Rattle.cond_expr.specs.Trees.{column, constant, length_of, always, compared, fill}
use Rattle.cond_expr.specs.Kinds.{kind_of}
use Rattle.smo_ops_spec.specs.First.{first_refusal}
use Rattle.smo_ops_spec.specs.OneRow.{Relation}
use Rattle.temporal_lang_types.specs.declared.when.When.TheVariants.{During}
use Rattle.plain_answers_spec.specs.Branches.{PlainBranch}
use Rattle.plain_answers_spec.specs.Choosing.{answers_over}
use Rattle.cond_expr.specs.AtomColumns.{kinds_of_atoms}
use Rattle.temporal_lang_spec.specs.Atoms.{Source, to_atoms}
use Rattle.temporal_lang_spec.specs.Checking.{whose_fault, branch_types, branch_nodes, arities}
use Rattle.temporal_lang_spec.specs.Checking.{period_tests}
use Rattle.smo_ops_versions_spec.proofs.WorkedWords.{a, b, k, x, y, r, s, t, int, text, at_atom}
use Rattle.smo_ops_versions_spec.proofs.WorkedWords.{a_columns}
use Rattle.smo_ops_versions_spec.proofs.WorkedWords.{ab_columns, kx_columns, ky_columns}

-- r has (1, 'a') and (2, 'b'), s has (1, 5)
abbrev r_rows : Relation
r_rows = (int 1 ∷ text a ∷ []) ∷ (int 2 ∷ text b ∷ []) ∷ []

abbrev s_rows : Relation
s_rows = (int 1 ∷ int 5 ∷ []) ∷ []

-- SELECT r.x, s.y FROM r, s WHERE r.k = s.k
abbrev joining : PlainBranch
joining = record {
  outs = at_atom 0 x ∷ at_atom 1 y ∷ [];
  from = (r, r) ∷ (s, s) ∷ [];
  cond =
      compared Eq (at_atom 0 k) (at_atom 1 k);
}

two_choices : choices (r_rows ∷ s_rows ∷ []) ≡ ((int 1 ∷ text a ∷ []) ∷ (int 1 ∷ int 5 ∷ []) ∷ [])
    ∷ ((int 2 ∷ text b ∷ []) ∷ (int 1 ∷ int 5 ∷ []) ∷ []) ∷ []
two_choices = refl

joined_rows : answers_over (kx_columns ∷ ky_columns ∷ []) (r_rows ∷ s_rows ∷ []) joining.outs
    joining.cond ≡ (text a ∷ int 5 ∷ []) ∷ []
joined_rows = refl

-- SELECT x FROM r UNION SELECT x FROM r r2 WHERE r2.k = 2
abbrev all_x : PlainBranch
all_x = record { outs = at_atom 0 x ∷ []; from = (r, r) ∷ []; cond = always }

abbrev second_x : PlainBranch
second_x = record {
  outs = at_atom 0 x ∷ [];
  from = (r, x) ∷ [];
  cond =
      compared Eq (at_atom 0 k) (constant (int 2));
}

either : set_of row_cmp (answers_over (kx_columns ∷ []) (r_rows ∷ []) all_x.outs all_x.cond
    ++ answers_over (kx_columns ∷ []) (r_rows ∷ []) second_x.outs second_x.cond) ≡ (text a ∷ [])
    ∷ (text b ∷ []) ∷ []
unfolding set_of
either = refl

-- an item of an empty table leaves no choice
no_choice : answers_over (kx_columns ∷ ky_columns ∷ []) (r_rows ∷ [] ∷ []) joining.outs joining.cond
    ≡ []
no_choice = refl

-- of the entries 5 to 8 and 12 to now: ENDING 0 TO 100 keeps the first, LASTING 4 TO now the second
ending_kept : map (keeps (Ending 0 100)) (span 5 8 ∷ span 12 forever ∷ []) ≡ true ∷ false ∷ []
ending_kept = refl

lasting_kept : map (keeps (Lasting 4 forever)) (span 5 8 ∷ span 12 forever ∷ []) ≡ false ∷ true ∷ []
lasting_kept = refl

-- STARTING 5 TO 12 keeps the first, COVERING 7 too; OVERLAPPING 8 TO 12 neither, OVERLAPPING 7 TO
-- now both
starting_kept : map (keeps (Starting 5 12)) (span 5 8 ∷ span 12 forever ∷ []) ≡ true ∷ false ∷ []
starting_kept = refl

covering_kept : map (keeps (Covering 7)) (span 5 8 ∷ span 8 forever ∷ []) ≡ true ∷ false ∷ []
covering_kept = refl

overlapping_kept : map (keeps (Overlapping 8 12)) (span 5 8 ∷ span 12 forever ∷ []) ≡ false ∷ false
    ∷ []
overlapping_kept = refl

overlapping_open : map (keeps (Overlapping 7 forever)) (span 5 8 ∷ span 12 forever ∷ []) ≡ true
    ∷ true ∷ []
overlapping_open = refl

-- FROM r, s: both have k, r alone has x; q is no alias
abbrev two_items : List Source
two_items = record { alias = r; columns = kx_columns } ∷ record { alias = s; columns = ky_columns }
    ∷ []

several_have_it : whose_fault two_items Free k ≡ Some (Ambiguous k)
several_have_it = refl

none_has_it : whose_fault two_items Free a ≡ Some (NoColumn a)
none_has_it = refl

one_has_it : whose_fault two_items Free y ≡ None
one_has_it = refl

no_alias : whose_fault two_items (Alias t) x ≡ Some (NoTable t)
no_alias = refl

not_of_the_alias : whose_fault two_items (Alias s) x ≡ Some (NoColumn x)
not_of_the_alias = refl

no_atom : whose_fault two_items (Atom 0) x ≡ Some (NoColumn x)
no_atom = refl

-- y is the second item's, s.k too, r.k the first's
made_atoms : fill (to_atoms two_items) (column Free y) ≡ at_atom 1 y
made_atoms = refl

made_atoms_by_alias : fill (to_atoms two_items) (column (Alias s) k) ≡ at_atom 1 k
made_atoms_by_alias = refl

-- SELECT a FROM t UNION SELECT LENGTH(a) FROM t: the first branch has two nodes, since its
-- condition is TRUE, and the fault is at the third of the statement
abbrev lengths : PlainBranch
lengths = record { outs = length_of (at_atom 0 a) ∷ []; from = (t, t) ∷ []; cond = always }

abbrev plain_a : PlainBranch
plain_a = record { outs = at_atom 0 a ∷ []; from = (t, t) ∷ []; cond = always }

first_nodes : branch_nodes plain_a ≡ 2
first_nodes = refl

third_node : first_refusal (branch_types (kinds_of_atoms (a_columns ∷ [])) (branch_nodes plain_a)
    lengths) ≡ Some (WrongType 2)
third_node = refl

-- WHERE a = b: the fault is at the comparison, after the one node of SELECT a
compared_node : first_refusal (branch_types (kinds_of_atoms (ab_columns ∷ [])) 0
    (record {
      outs = at_atom 0 a ∷ [];
      from = (t, t) ∷ [];
      cond =
          compared Eq (at_atom 0 a) (at_atom 0 b);
    })) ≡ Some (WrongType 1)
compared_node = refl

-- SELECT a FROM t UNION SELECT b FROM t: an INT and a TEXT
second_differs : first_refusal (arities (map (λ n.
    kind_of (kinds_of_atoms (ab_columns ∷ [])) (at_atom 0 n) ∷ []) (a ∷ b ∷ []))) ≡ Some (Arity 2)
second_differs = refl

-- DURING 5 TO 5 comes before KEEP STARTING 9 TO 3
slice_first : first_refusal (period_tests (During 5 5) (Starting 9 3 ∷ [])) ≡ Some (EmptyPeriod 5 5)
slice_first = refl

keeps_then : first_refusal (period_tests (During 5 6)
    (Covering 4 ∷ Lasting 1 forever ∷ Starting 9 3 ∷ [])) ≡ Some (EmptyPeriod 9 3)
keeps_then = refl
