-- Worked rows: what a branch names of each item, and what it answers over what is read.
use Rattle.std.specs.Prelude.{◌≡◌, ℕ, List, [], ◌∷◌, pos, refl}
use Rattle.std.proofs.Common.{ap, inl, inr}
use Rattle.relations_spec.specs.Sets.{In, set_of}
use Rattle.prima_base.specs.declared.value.Value.{Value}
use Rattle.prima_base.specs.declared.value.Value.TheVariants.{Int}
use Rattle.prima_base.specs.declared.value.ColType.TheVariants.{Int as INT}
use Rattle.prima_base.specs.Order.{row_cmp}
use Rattle.prima_base.specs.Columns.{Column}
use Rattle.cond_expr.specs.declared.expr.Whose.TheVariants.{Atom}
use Rattle.cond_expr.specs.declared.expr.CmpOp.TheVariants.{Eq, Lt}
use Rattle.cond_expr.specs.Trees.{Tree, column, constant, always, compared, all_of, no_tests}
use Rattle.cond_expr.specs.Trees.{a_test, fill_test}
use Rattle.smo_ops_spec.specs.OneRow.{Relation}
use Rattle.plain_answers_spec.specs.Choosing.{answers_over}
use Rattle.plain_answers_spec.specs.Branches.{PlainBranch}
use Rattle.plain_answers_spec.specs.Naming.{all_references, IsNamed, names_from}
use Rattle.plain_answers_spec.specs.Reading.{Read, read_columns, read_rows, said_of, IsPartOf}
use Rattle.plain_answers_spec.specs.Reading.{AreEnough}
use Rattle.cond_expr.specs.Parts.{parts_but_true as parts}
use Rattle.plain_answers_spec.proofs.NameLaws.{in_names_at}

abbrev k : List ℕ
k = 107 ∷ []

abbrev x : List ℕ
x = 120 ∷ []

abbrev y : List ℕ
y = 121 ∷ []

abbrev int : ℕ → Value
int n = Int (pos n)

abbrev at : ℕ → List ℕ → Tree
at i n = column (Atom i) n

-- r (k, x, y) and s (k, x, y)
abbrev columns : List Column
columns = (k, INT) ∷ (x, INT) ∷ (y, INT) ∷ []

abbrev r_rows : Relation
r_rows = (int 1 ∷ int 5 ∷ int 0 ∷ []) ∷ (int 2 ∷ int 9 ∷ int 0 ∷ []) ∷ []

abbrev s_rows : Relation
s_rows = (int 1 ∷ int 0 ∷ int 7 ∷ []) ∷ (int 1 ∷ int 1 ∷ int 7 ∷ []) ∷ (int 2 ∷ int 1 ∷ int 8 ∷ [])
    ∷ []

-- SELECT r.x, s.y FROM r, s WHERE r.k = s.k AND r.x < 6
abbrev joining : PlainBranch
joining = record {
  outs = at 0 x ∷ at 1 y ∷ [];
  from = ([], []) ∷ ([], []) ∷ [];
  cond = all_of (a_test (compared Eq (at 0 k) (at 1 k))
      (a_test (compared Lt (at 0 x) (constant (int 6))) no_tests));
}

-- of r it names k and x, of s k and y
named_of_each : names_from 0 joining.from (all_references joining.outs joining.cond) ≡ (k ∷ x ∷ [])
    ∷ (k ∷ y ∷ []) ∷ []
unfolding set_of
named_of_each = refl

-- x < 6, said of r, is its second part
second_part : parts joining.cond ≡ compared Eq (at 0 k) (at 1 k)
    ∷ fill_test (said_of 0) (compared Lt (at 0 x) (constant (int 6))) ∷ []
second_part = refl

abbrev reads : List Read
reads = record { test = compared Lt (at 0 x) (constant (int 6)); names = k ∷ x ∷ [] }
    ∷ record { test = always; names = k ∷ y ∷ [] } ∷ []

read_here : read_rows reads (columns ∷ columns ∷ []) (r_rows ∷ s_rows ∷ [])
    ≡ ((int 1 ∷ int 5 ∷ []) ∷ []) ∷ ((int 1 ∷ int 7 ∷ []) ∷ (int 2 ∷ int 8 ∷ []) ∷ []) ∷ []
unfolding set_of
read_here = refl

-- that is enough: the selection is a part of the condition, and each column that is named is kept
first_is_a_part : IsPartOf 0 (compared Lt (at 0 x) (constant (int 6))) joining.cond
first_is_a_part t (inl e) = inr (inl (ap (fill_test (said_of 0)) e))
first_is_a_part t (inr m) = absurd m

nothing_is_a_part : IsPartOf 1 always joining.cond
nothing_is_a_part t m = absurd m

kept_of_first : (name : List ℕ) → IsNamed 0 (all_references joining.outs joining.cond) name
    → In name (k ∷ x ∷ [])
unfolding set_of
kept_of_first name h = in_names_at 0 (all_references joining.outs joining.cond) name h

kept_of_second : (name : List ℕ) → IsNamed 1 (all_references joining.outs joining.cond) name
    → In name (k ∷ y ∷ [])
unfolding set_of
kept_of_second name h = in_names_at 1 (all_references joining.outs joining.cond) name h

are_enough : AreEnough 0 reads joining.outs joining.cond
are_enough = (
  record { part = first_is_a_part; keeps = kept_of_first },
  (record { part = nothing_is_a_part; keeps = kept_of_second }, tt),
)

-- and so there are the same answers over what is read and over the whole rows
answers_of_read : set_of row_cmp (answers_over (read_columns reads (columns ∷ columns ∷ []))
    (read_rows reads (columns ∷ columns ∷ []) (r_rows ∷ s_rows ∷ [])) joining.outs joining.cond)
    ≡ (int 5 ∷ int 7 ∷ []) ∷ []
unfolding set_of
answers_of_read = refl

answers_of_whole : set_of row_cmp (answers_over (columns ∷ columns ∷ []) (r_rows ∷ s_rows ∷ [])
    joining.outs joining.cond) ≡ (int 5 ∷ int 7 ∷ []) ∷ []
unfolding set_of
answers_of_whole = refl
