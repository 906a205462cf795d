-- There are the same answers over what is read as over the whole relations.
use Rattle.std.proofs.Common.{◌≡◌, ◌+◌, ℕ, zero, suc, true, List, [], ◌∷◌, map, refl, sym, ap}
use Rattle.std.proofs.Common.{subst, ◌∙◌, arith}
use Rattle.std.specs.List.{filter, flat_map}
use Rattle.relations_spec.specs.Sets.{In, Same}
use Rattle.relations_spec.specs.Choices.{Chosen}
use Rattle.relations_spec.proofs.SetLaws.{in_map, from_map, in_filter, from_filter, in_flat_map}
use Rattle.relations_spec.proofs.SetLaws.{from_flat_map, in_set, from_set, set_same}
use Rattle.prima_base.specs.declared.value.Value.{Value}
use Rattle.prima_base.specs.Order.{row_cmp}
use Rattle.prima_base.specs.OrderLaws.{row_exact}
use Rattle.prima_base.specs.Columns.{Column, names_of}
use Rattle.schema_catalog.specs.Tables.{Tables}
use Rattle.schema_catalog.specs.Databases.{cell, Database}
use Rattle.cond_expr.specs.declared.expr.ColRef.{ColRef}
use Rattle.cond_expr.specs.declared.expr.Whose.{Whose}
use Rattle.cond_expr.specs.declared.expr.Whose.TheVariants.{Free, Alias, Atom}
use Rattle.cond_expr.specs.Trees.{Tree, Test}
use Rattle.cond_expr.specs.Values.{Cells, value}
use Rattle.cond_expr.specs.Faults.{references, test_references}
use Rattle.cond_expr.proofs.TreeLaws.{value_like, truth_like}
use Rattle.smo_ops_spec.specs.OneRow.{Row, Relation, meets}
use Rattle.smo_ops_spec.specs.Preconditions.{among}
use Rattle.smo_ops_spec.specs.Making.{named}
use Rattle.smo_ops_spec.proofs.NameLaws.{among_in, in_among, in_names}
use Rattle.smo_ops_spec.proofs.MadeRows.{column_named}
use Rattle.smo_ops_spec.proofs.MadeCells.{same_cell}
use Rattle.plain_answers_spec.specs.Choosing.{chosen_cell, chosen_cells, choice_meets, answered}
use Rattle.plain_answers_spec.specs.Choosing.{answers_over}
use Rattle.plain_answers_spec.specs.Branches.{Item, PlainBranch, item_columns, item_rows}
use Rattle.plain_answers_spec.specs.Branches.{branch_answers}
use Rattle.plain_answers_spec.specs.Branches.{plain}
use Rattle.plain_answers_spec.specs.Naming.{all_references, IsNamed, names_from}
use Rattle.plain_answers_spec.specs.Reading.{Read, read_columns, read_rows, AsMany, AreEnough}
use Rattle.plain_answers_spec.specs.Reading.{whole_rows, needed_reads, answers_read, plain_read}
use Rattle.plain_answers_spec.proofs.PlainRows.{in_answers, from_answers}
use Rattle.plain_answers_spec.proofs.PartLaws.{part_met}
use Rattle.plain_answers_spec.proofs.NameLaws.{in_names_at}
use Rattle.cond_expr.proofs.ReferenceLaws.{Each, each_first, each_second, within_each}
use Rattle.cond_expr.proofs.ReferenceLaws.{test_within_each}

-- ---- one row, and a choice of rows, projected

abbrev projected : List (List ℕ) → List Column → Row → Row
projected ns cs row = map (λ (c : Column). cell cs row c.0) (named ns cs)

abbrev all_projected : List Read → List (List Column) → List Row → List Row
all_projected [] columns rows = []
all_projected (r ∷ reads) [] rows = []
all_projected (r ∷ reads) (cs ∷ columns) [] = []
all_projected (r ∷ reads) (cs ∷ columns) (row ∷ rows) =
    projected r.names cs row ∷ all_projected reads columns rows

-- a column that is named and there is among the named ones
still_named : (ns : List (List ℕ)) (cs : List Column) (n : List ℕ) → among n ns ≡ true
    → among n (names_of cs) ≡ true → among n (names_of (named ns cs)) ≡ true
still_named ns cs n e h =
    let c = column_named cs n (among_in n (names_of cs) h) in
    in_among n (names_of (named ns cs)) (subst (λ (x : List ℕ). In x (names_of (named ns cs))) c.2
    (in_names (named ns cs) c.0 (in_filter (λ (d : Column). among d.0 ns) c.0 cs c.1
    (ap (λ (x : List ℕ). among x ns) c.2 ∙ e))))

-- the cell of a named column stays
same_at : (ns : List (List ℕ)) (cs : List Column) (row : Row) (n : List ℕ) → In n ns
    → cell (named ns cs) (projected ns cs row) n ≡ cell cs row n
same_at ns cs row n m = same_cell cs (named ns cs) (cell cs row) row n refl
    (still_named ns cs n (in_among n ns m))

-- ---- places, counted from the first atom and from a later one

first_place : (i : ℕ) → i + 0 ≡ i
first_place i = omega arith

next_place : (i j : ℕ) → i + suc j ≡ i + 1 + j
next_place i j = omega arith

from_nought : (i : ℕ) → 0 + i ≡ i
from_nought i = omega arith

module _ (outs : List Tree) (c : Test) where
  abbrev named_there : ℕ → List ℕ → Type 0
  named_there i n = IsNamed i (all_references outs c) n

  chosen_same : (k : ℕ) (reads : List Read) (columns : List (List Column))
      (relations : List Relation) (rows : List Row)
      → AsMany reads columns → AsMany columns relations → Chosen rows relations
      → AreEnough k reads outs c
      → (j : ℕ) (n : List ℕ) → named_there (k + j) n
      → chosen_cell columns rows j n ≡ chosen_cell (read_columns reads columns)
      (all_projected reads columns rows) j n
  chosen_same k [] [] relations rows a b h e j n m = refl
  chosen_same k [] (cs ∷ columns) relations rows a b h e j n m = absurd a
  chosen_same k (r ∷ reads) [] relations rows a b h e j n m = absurd a
  chosen_same k (r ∷ reads) (cs ∷ columns) [] rows a b h e j n m = absurd b
  chosen_same k (r ∷ reads) (cs ∷ columns) (rel ∷ relations) [] a b h e j n m = absurd h
  chosen_same k (r ∷ reads) (cs ∷ columns) (rel ∷ relations) (row ∷ rows) a b h e zero n m =
      sym (same_at r.names cs row n (e.0.keeps n (subst (λ i. named_there i n) (first_place k) m)))
  chosen_same k (r ∷ reads) (cs ∷ columns) (rel ∷ relations) (row ∷ rows) a b h e (suc j) n m =
      chosen_same (k + 1) reads columns relations rows a b h.1 e.1 j n
      (subst (λ i. named_there i n) (next_place k j) m)

  -- choices of what is read are projections of choices, of which those that meet the condition are
  -- read
  chosen_there : (k : ℕ) (reads : List Read) (columns : List (List Column))
      (relations : List Relation) (rows : List Row)
      → AsMany reads columns → AsMany columns relations → Chosen rows relations
      → AreEnough k reads outs c
      → (all_columns : List (List Column)) (all_rows : List Row)
      → choice_meets all_columns c all_rows ≡ true
      → ((j : ℕ) (n : List ℕ) → chosen_cell all_columns all_rows (k + j) n
      ≡ chosen_cell columns rows j n)
      → Chosen (all_projected reads columns rows) (read_rows reads columns relations)
  chosen_there k [] [] relations rows a b h e all_columns all_rows met at = tt
  chosen_there k [] (cs ∷ columns) relations rows a b h e all_columns all_rows met at = absurd a
  chosen_there k (r ∷ reads) [] relations rows a b h e all_columns all_rows met at = absurd a
  chosen_there k (r ∷ reads) (cs ∷ columns) [] rows a b h e all_columns all_rows met at = absurd b
  chosen_there k (r ∷ reads) (cs ∷ columns) (rel ∷ relations) [] a b h e all_columns all_rows met
      at = absurd h
  chosen_there k (r ∷ reads) (cs ∷ columns) (rel ∷ relations) (row ∷ rows) a b h e all_columns
      all_rows met at =
      let here : (n : List ℕ) → chosen_cell all_columns all_rows k n ≡ cell cs row n =
      λ n. ap (λ i. chosen_cell all_columns all_rows i n) (sym (first_place k)) ∙ at zero n in
      let kept = in_filter (meets cs r.test) row rel h.0
      (part_met all_columns all_rows k cs row here r.test c e.0.part met) in (
        in_set row_cmp row_exact (projected r.names cs row)
            (map (projected r.names cs) (filter (meets cs r.test) rel))
            (in_map (projected r.names cs) row (filter (meets cs r.test) rel) kept),
        chosen_there (k + 1) reads columns relations rows a b h.1 e.1 all_columns all_rows met
            (λ j n. ap (λ i. chosen_cell all_columns all_rows i n) (sym (next_place k j))
            ∙ at (suc j) n),
      )

  chosen_back : (reads : List Read) (columns : List (List Column)) (relations : List Relation)
      (news : List Row)
      → AsMany reads columns → AsMany columns relations
      → Chosen news (read_rows reads columns relations)
      → (rows : List Row) × Chosen rows relations × (all_projected reads columns rows ≡ news)
  chosen_back [] [] [] [] a b h = ([], tt, refl)
  chosen_back [] [] [] (new ∷ news) a b h = absurd h
  chosen_back [] [] (rel ∷ relations) news a b h = absurd b
  chosen_back [] (cs ∷ columns) relations news a b h = absurd a
  chosen_back (r ∷ reads) [] relations news a b h = absurd a
  chosen_back (r ∷ reads) (cs ∷ columns) [] news a b h = absurd b
  chosen_back (r ∷ reads) (cs ∷ columns) (rel ∷ relations) [] a b h = absurd h
  chosen_back (r ∷ reads) (cs ∷ columns) (rel ∷ relations) (new ∷ news) a b h =
      let f = from_map (projected r.names cs) new (filter (meets cs r.test) rel)
      (from_set row_cmp row_exact new (map (projected r.names cs) (filter (meets cs r.test) rel))
      h.0) in
      let k = from_filter (meets cs r.test) f.0 rel f.1 in
      let g = chosen_back reads columns relations news a b h.1 in (
        f.0 ∷ g.0,
        (k.0, g.1),
        ap (λ (x : Row). x ∷ all_projected reads columns g.0) f.2
            ∙ ap (λ (xs : List Row). new ∷ xs) g.2,
      )

  -- a reference to an atom is among the named ones
  is_named : (r : ColRef) → In r (all_references outs c) → (i : ℕ) → r.whose ≡ Atom i
      → named_there i r.name
  is_named r m i e = subst (λ (q : ColRef). In q (all_references outs c))
      (ap (λ (w : Whose). record { whose = w; name = r.name }) e) m

  module _ (reads : List Read) (columns : List (List Column)) (relations : List Relation)
      (a : AsMany reads columns) (b : AsMany columns relations) (e : AreEnough 0 reads outs c) where
    abbrev before : List Row → Cells
    before rows = chosen_cells columns rows

    abbrev after : List Row → Cells
    after rows = chosen_cells (read_columns reads columns) (all_projected reads columns rows)

    abbrev Alike : List Row → Whose → List ℕ → Type 0
    Alike rows w n = before rows w n ≡ after rows w n

    alike : (rows : List Row) → Chosen rows relations → Each (Alike rows) (all_references outs c)
    alike rows h r m = step r.whose refl
      where
        step : (w : Whose) → r.whose ≡ w → before rows w r.name ≡ after rows w r.name
        step Free q = refl
        step (Alias x) q = refl
        step (Atom i) q = chosen_same 0 reads columns relations rows a b h e i r.name
            (subst (λ j. named_there j r.name) (sym (from_nought i)) (is_named r m i q))

    met_alike : (rows : List Row) → Chosen rows relations
        → choice_meets columns c rows ≡ choice_meets (read_columns reads columns) c
        (all_projected reads columns rows)
    met_alike rows h =
        truth_like (Alike rows) (before rows) (after rows) (λ w n q. q) c
        (test_within_each (Alike rows) c (each_second (Alike rows) (flat_map references outs)
        (test_references c) (alike rows h)))

    values_alike : (rows : List Row) (ts : List Tree) → Each (Alike rows) (flat_map references ts)
        → map (value (before rows)) ts ≡ map (value (after rows)) ts
    values_alike rows [] w = refl
    values_alike rows (t ∷ ts) w =
        ap (λ (v : Value). v ∷ map (value (before rows)) ts)
        (value_like (Alike rows) (before rows) (after rows) (λ x n q. q) t
        (within_each (Alike rows) t (each_first (Alike rows) (references t)
        (flat_map references ts) w)))
        ∙ ap (λ (vs : Row). value (after rows) t ∷ vs)
        (values_alike rows ts (each_second (Alike rows) (references t) (flat_map references ts)
        w))

    answer_alike : (rows : List Row) → Chosen rows relations
        → answered columns outs rows ≡ answered (read_columns reads columns) outs
        (all_projected reads columns rows)
    answer_alike rows h = values_alike rows outs
        (each_first (Alike rows) (flat_map references outs) (test_references c) (alike rows h))

    there : (row : Row) → In row (answers_over columns relations outs c)
        → In row (answers_over (read_columns reads columns) (read_rows reads columns relations) outs
        c)
    there row m =
        let g = from_answers columns relations outs c row m in
        in_answers (read_columns reads columns) (read_rows reads columns relations) outs c row
        (record {
          choice = all_projected reads columns g.choice;
          chosen = chosen_there 0 reads columns relations g.choice a b g.chosen e columns g.choice
              g.met
              (λ j n. ap (λ i. chosen_cell columns g.choice i n) (from_nought j));
          met = sym (met_alike g.choice g.chosen) ∙ g.met;
          is = sym (answer_alike g.choice g.chosen) ∙ g.is;
        })

    back : (row : Row) → In row (answers_over (read_columns reads columns)
        (read_rows reads columns relations) outs c) → In row (answers_over columns relations outs c)
    back row m =
        let g = from_answers (read_columns reads columns) (read_rows reads columns relations) outs c
        row m in
        let h = chosen_back reads columns relations g.choice a b g.chosen in
        in_answers columns relations outs c row (record {
          choice = h.0;
          chosen = h.1;
          met = met_alike h.0 h.1 ∙ ap (λ (rows : List Row).
              choice_meets (read_columns reads columns) c rows) h.2 ∙ g.met;
          is = answer_alike h.0 h.1 ∙ ap (λ (rows : List Row).
              answered (read_columns reads columns) outs rows) h.2 ∙ g.is;
        })

    pub same_answers : Same (answers_over (read_columns reads columns)
        (read_rows reads columns relations) outs c) (answers_over columns relations outs c)
    same_answers = record { there = back; back = there }

-- ---- several branches

same_flat : {X : Type 0} (f g : X → List Row) (xs : List X) → ((x : X) → In x xs → Same (f x) (g x))
    → Same (flat_map f xs) (flat_map g xs)
same_flat {X} f g xs h = record {
  there = λ row m. (let a = from_flat_map f row xs m in
      in_flat_map g a.0 row xs a.1 ((h a.0 a.1).there row a.2));
  back = λ row m. (let a = from_flat_map g row xs m in
      in_flat_map f a.0 row xs a.1 ((h a.0 a.1).back row a.2));
}

many_columns : (reads : List Read) (from : List Item) (tables : Tables) → AsMany reads from
    → AsMany reads (item_columns tables from)
many_columns [] [] tables h = tt
many_columns [] (i ∷ from) tables h = absurd h
many_columns (r ∷ reads) [] tables h = absurd h
many_columns (r ∷ reads) (i ∷ from) tables h = many_columns reads from tables h

many_rows : (from : List Item) (tables : Tables) (db : Database)
    → AsMany (item_columns tables from) (item_rows db from)
many_rows [] tables db = tt
many_rows (i ∷ from) tables db = many_rows from tables db

pub same_plain : (tables : Tables) (db : Database) (branches : List PlainBranch)
    (reads : PlainBranch → List Read)
    → ((b : PlainBranch) → In b branches → AsMany (reads b) b.from
    × AreEnough 0 (reads b) b.outs b.cond)
    → plain_read tables reads branches db ≡ plain tables branches db
same_plain tables db branches reads h =
    set_same row_cmp row_exact (flat_map (answers_read tables db reads) branches)
    (flat_map (branch_answers tables db) branches)
    (same_flat (answers_read tables db reads) (branch_answers tables db) branches
    (λ b m. same_answers b.outs b.cond (reads b) (item_columns tables b.from) (item_rows db b.from)
    (many_columns (reads b) b.from tables (h b m).0) (many_rows b.from tables db) (h b m).1))

-- ---- what a branch names

many_needed : {X : Type 0} (k : ℕ) (from : List X) (rs : List ColRef)
    → AsMany (whole_rows (names_from k from rs)) from
many_needed k [] rs = tt
many_needed k (x ∷ from) rs = many_needed (k + 1) from rs

needed_enough : {X : Type 0} (outs : List Tree) (c : Test) (k : ℕ) (from : List X)
    → AreEnough k (whole_rows (names_from k from (all_references outs c))) outs c
needed_enough outs c k [] = tt
needed_enough outs c k (x ∷ from) = (
  record {
    part = λ t m. absurd m;
    keeps = λ n m.
        in_names_at k (all_references outs c) n m;
  },
  needed_enough outs c (k + 1) from,
)

pub is_needed : (b : PlainBranch) → AsMany (needed_reads b) b.from
    × AreEnough 0 (needed_reads b) b.outs b.cond
is_needed b = (
  many_needed 0 b.from (all_references b.outs b.cond),
  needed_enough b.outs b.cond 0 b.from,
)
