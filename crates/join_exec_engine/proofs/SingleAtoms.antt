-- What is answered over one atom alone.
use Rattle.std.proofs.Common.{◌≡◌, ◌<◌, ◌+◌, ℕ, Bool, true, false, cond, List, [], ◌∷◌}
use Rattle.std.proofs.Common.{◌++◌, map, take, length, get_or, refl, sym, ap, ◌∙◌}
use Rattle.std.proofs.Common.{subst, arith}
use Rattle.std.specs.List.{filter}
use Rattle.std.proofs.lemmas.List.{append-nil, map-append, take_more}
use Rattle.std.proofs.lemmas.List.Concat.{flat_map-append}
use Rattle.relations_spec.specs.Sets.{In, set_of}
use Rattle.relations_spec.specs.Choices.{choices}
use Rattle.relations_spec.specs.Spans.{Span, covers}
use Rattle.relations_spec.specs.Timed.{Entry, held_at, at}
use Rattle.relations_spec.proofs.SetLaws.{in_map, from_map, in_filter, from_filter, in_set}
use Rattle.relations_spec.proofs.SetLaws.{from_set}
use Rattle.relations_spec.proofs.SetLaws.{set_same}
use Rattle.prima_base.specs.declared.value.Value.{Value}
use Rattle.prima_base.specs.declared.timed_row.TimedRow.{TimedRow}
use Rattle.prima_base.specs.Order.{row_cmp}
use Rattle.prima_base.specs.OrderLaws.{row_exact}
use Rattle.prima_base.specs.Timed.{entry_of, entries_of}
use Rattle.cond_expr.specs.declared.expr.Column.{Column}
use Rattle.cond_expr.specs.declared.expr.Expr.{Expr}
use Rattle.cond_expr.specs.Trees.{Tree, Test}
use Rattle.cond_expr.specs.Values.{value}
use Rattle.cond_expr.specs.Seen.{tree}
use Rattle.cond_expr.specs.Rows.{cells}
use Rattle.join_exec_spec.specs.Answering.{one_row, outputs, answer, answers}
use Rattle.join_exec_spec.specs.Choosing.{extended_where}
use Rattle.join_exec_spec.specs.Keeping.{meets, value_at}
use Rattle.join_exec_spec.proofs.HeldPairs.{held_pairs}
use Rattle.join_exec_spec.proofs.JoinLaws.{start_held}
use Rattle.join_exec_engine.specs.InSlice.{in_slice, all_in_slice}
use Rattle.join_exec_levels.proofs.LevelLaws.{told_at, nothing_told, nothing_at}

-- ---- outputs that are the columns

-- one column more
pub column_more : (columns : List Column) (outs : List Expr) (i : ℕ) (out : Expr) (row : List Value)
    → i < length outs → out ≡ get_or outs i out → length outs ≡ length columns
    → length row ≡ length columns
    → map (λ (e : Expr). value (cells columns row) (tree e)) (take i outs) ≡ take i row
    → value (cells columns row) (tree out) ≡ value_at row i
    → map (λ (e : Expr). value (cells columns row) (tree e)) (take (i + 1) outs) ≡ take (i + 1) row
column_more columns outs i out row below is same wide before here =
    let f = λ (e : Expr). value (cells columns row) (tree e) in
    ap (map f) (take_more outs i out below) ∙ map-append f (take i outs) (get_or outs i out ∷ [])
    ∙ ap (λ (l : List Value). l ++ f (get_or outs i out) ∷ []) before
    ∙ ap (λ (v : Value). take i row ++ v ∷ []) (ap f (sym is) ∙ here)
    ∙ sym (take_more row i _ (omega (arith, below, same, wide)))

-- ---- entries in their moments of a slice

-- each row is kept
all_kept : (ys : List (List Value)) → extended_where (λ _ _. true) ([] ∷ []) ys ≡ ys
all_kept [] = refl
all_kept (y ∷ ys) = ap (λ (l : List (List Value)). y ∷ l) (all_kept ys)

whole : Span → List (Entry (List Value))
whole slice = record { item = []; period = slice } ∷ []

in_moments : (slice : Span) (es : List (Entry (List Value))) (m : ℕ) (b : Bool) → covers slice m ≡ b
    → held_at (all_in_slice slice es) m ≡ extended_where (λ _ _. true) (cond b ([] ∷ []) [])
    (held_at es m)
in_moments slice es m b h =
    ap (λ (l : List (Entry (List Value))). held_at l m) (sym (append-nil (all_in_slice slice es)))
    ∙ held_pairs (λ _ _. true) m (record { item = []; period = slice } ∷ []) es
    ∙ ap (λ (ps : List (List Value)). extended_where (λ _ _. true) ps (held_at es m))
    (start_held (record { item = []; period = slice } ∷ []) slice m b refl h)

pub held_in_slice : (slice : Span) (es : List (Entry (List Value))) (m : ℕ) → covers slice m ≡ true
    → held_at (all_in_slice slice es) m ≡ held_at es m
held_in_slice slice es m h = in_moments slice es m true h ∙ all_kept (held_at es m)

pub none_outside : (slice : Span) (es : List (Entry (List Value))) (m : ℕ) → covers slice m ≡ false
    → held_at (all_in_slice slice es) m ≡ []
none_outside slice es m h = in_moments slice es m false h

-- ---- what is answered of rows, and of their relation

module _ (met : List Value → Bool) (make : List Value → List Value) where
  abbrev made : List (List Value) → List (List Value)
  made xs = map make (filter met xs)

  there : (xs ys : List (List Value)) → ((x : List Value) → In x xs → In x ys) → (z : List Value)
      → In z (made xs) → In z (made ys)
  there xs ys h z i =
      let r = from_map make z (filter met xs) i in
      let f = from_filter met r.0 xs r.1 in
      subst (λ (y : List Value). In y (made ys)) r.2
      (in_map make r.0 (filter met ys) (in_filter met r.0 ys (h r.0 f.0) f.1))

  of_set : (xs : List (List Value)) → set_of row_cmp (made xs)
      ≡ set_of row_cmp (made (set_of row_cmp xs))
  of_set xs = set_same row_cmp row_exact (made xs) (made (set_of row_cmp xs)) (record {
    there = there xs (set_of row_cmp xs) (λ x i. in_set row_cmp row_exact x xs i);
    back = there (set_of row_cmp xs) xs (λ x i. from_set row_cmp row_exact x xs i);
  })

-- the choices of one row of one list are its rows
single_choices : (ys : List (List Value)) → map one_row (choices (ys ∷ [])) ≡ ys
single_choices [] = refl
single_choices (y ∷ ys) = ap (λ (x : List Value). x ∷ map one_row (choices (ys ∷ [])))
    (append-nil y) ∙ ap (λ (l : List (List Value)). y ∷ l) (single_choices ys)

module _ (cs : List Column) (outs : List Tree) (c : Test) where
  of_relation : (es : List (Entry (List Value))) (m : ℕ)
      → set_of row_cmp (map (outputs cs outs) (filter (meets cs c) (held_at es m)))
      ≡ set_of row_cmp (map (outputs (cs ++ []) outs)
      (filter (meets (cs ++ []) c) (map one_row (choices (at row_cmp es m ∷ [])))))
  unfolding at
  of_relation es m =
      of_set (meets cs c) (outputs cs outs) (held_at es m)
      ∙ ap (λ (ys : List (List Value)). set_of row_cmp
      (map (outputs cs outs) (filter (meets cs c) ys)))
      (sym (single_choices (set_of row_cmp (held_at es m))))
      ∙ ap (λ (ts : List Column). set_of row_cmp
      (map (outputs ts outs) (filter (meets ts c)
      (map one_row (choices (set_of row_cmp (held_at es m) ∷ [])))))) (sym (append-nil cs))

  pub answered_at : (slice : Span) (es : List (Entry (List Value))) (m : ℕ) → covers slice m ≡ true
      → at row_cmp (answers cs outs c (all_in_slice slice es)) m
      ≡ set_of row_cmp (map (outputs (cs ++ []) outs)
      (filter (meets (cs ++ []) c) (map one_row (choices (at row_cmp es m ∷ [])))))
  answered_at slice es m h =
      told_at cs outs c (all_in_slice slice es) m
      ∙ ap (λ (xs : List (List Value)). set_of row_cmp
      (map (outputs cs outs) (filter (meets cs c) xs))) (held_in_slice slice es m h)
      ∙ of_relation es m

  pub unanswered_at : (slice : Span) (es : List (Entry (List Value))) (m : ℕ)
      → covers slice m ≡ false → at row_cmp (answers cs outs c (all_in_slice slice es)) m ≡ []
  unanswered_at slice es m h = nothing_told cs outs c [] (all_in_slice slice es) m
      (none_outside slice es m h) (nothing_at m)

  -- one row more
  pub row_more : (slice : Span) (before : List TimedRow) (row : TimedRow)
      (start new : List (Entry (List Value)))
      → start ≡ answers cs outs c (all_in_slice slice (entries_of before))
      → new ≡ start ++ answers cs outs c (in_slice slice (entry_of row))
      → new ≡ answers cs outs c (all_in_slice slice (entries_of (before ++ row ∷ [])))
  row_more slice before row start new is made =
      made ∙ ap (λ (l : List (Entry (List Value))).
      l ++ answers cs outs c (in_slice slice (entry_of row))) is
      ∙ sym (flat_map-append (answer cs outs c) (all_in_slice slice (entries_of before))
      (in_slice slice (entry_of row)))
      ∙ ap (answers cs outs c) (
      ap (λ (l : List (Entry (List Value))). all_in_slice slice (entries_of before) ++ l)
      (sym (append-nil (in_slice slice (entry_of row))))
      ∙ sym (flat_map-append (in_slice slice) (entries_of before) (entry_of row ∷ []))
      ∙ ap (all_in_slice slice) (sym (map-append entry_of before (row ∷ []))))
