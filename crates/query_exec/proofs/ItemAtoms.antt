-- The atoms that are read of items' tables, as a join takes them.
use Rattle.std.proofs.Common.{◌≡◌, ◌+◌, ◌<◌, ◌≤◌, ℕ, true, List, [], ◌∷◌, ◌++◌, length, get_or}
use Rattle.std.proofs.Common.{take, drop, refl, sym, ap, subst, ◌∙◌, append_assoc, append-nil}
use Rattle.std.proofs.Common.{arith}
use Rattle.std.proofs.lemmas.List.{length-map, length-take-le}
use Rattle.relations_spec.specs.Sets.{In, set_of}
use Rattle.relations_spec.specs.Spans.{covers}
use Rattle.relations_spec.specs.Listing.{IsListing}
use Rattle.prima_base.specs.Columns.{Column, names_of}
use Rattle.prima_base.specs.Timed.{rows_at, entries_of}
use Rattle.prima_base.specs.Order.{row_cmp}
use Rattle.prima_base.specs.declared.timed_row.TimedRow.{TimedRow}
use Rattle.cond_expr.specs.declared.expr.ColRef.{ColRef}
use Rattle.cond_expr.specs.declared.expr.Column.{Column as AtomColumn}
use Rattle.cond_expr.specs.Trees.{Tree, Test}
use Rattle.smo_ops_types.specs.Commands.{PlainVersion}
use Rattle.smo_ops_spec.specs.Effects.{columns_of}
use Rattle.smo_ops_spec.specs.Making.{named}
use Rattle.smo_ops_spec.specs.OneRow.{Relation}
use Rattle.smo_ops_spec.proofs.NextSchemas.{ordered_columns}
use Rattle.schema_catalog.specs.Tables.{Tables}
use Rattle.smo_ops_spec.specs.Past.{Past, no_tables, tables_from, tables_of}
use Rattle.smo_ops_versions_spec.specs.Migration.{migrated}
use Rattle.smo_ops_versions_spec.proofs.WayLeads.{valid_at}
use Rattle.version_groups.specs.Groups.{Kept, versions_in}
use Rattle.version_groups.specs.Representation.{Represents}
use Rattle.plain_answers_spec.specs.Choosing.{answers_over}
use Rattle.cond_expr.specs.AtomColumns.{columns_at}
use Rattle.plain_answers_spec.specs.Branches.{Item, PlainBranch, item_columns, item_rows}
use Rattle.plain_answers_spec.specs.Branches.{branch_answers}
use Rattle.plain_answers_spec.specs.Naming.{all_references}
use Rattle.plain_answers_spec.specs.Pushing.{pushed_from, pushed_reads}
use Rattle.plain_answers_spec.specs.Reading.{Read, read_columns, read_rows}
use Rattle.piece_ir_spec.specs.Rules.{Book}
use Rattle.piece_ir.specs.ExplainedPieces.{PlainExplained}
use Rattle.join_exec_spec.specs.Fitting.{Fit, AreOwn}
use Rattle.join_exec.proofs.LeftNames.{names_left}
use Rattle.piece_ir_spec.specs.Beginnings.{IsQuestion}
use Rattle.join_exec_engine.specs.declared.atom.Atom.{Atom}
use Rattle.join_exec_engine.specs.Atoms.{atom_rows, IsNumbered, AreNumbered, HaveAtoms}
use Rattle.period_split.specs.Splitting.{Part}
use Rattle.query_exec.specs.declared.route.Route.{Route}
use Rattle.query_exec.specs.Accepted.{IsRead, AreRead, MayItems}
use Rattle.query_exec.specs.Questions.{own_read, table_read}
use Rattle.query_exec.specs.QueryPieces.{table_pieces, items_pieces, alive_of}
use Rattle.query_exec.specs.Reads.{explained_read, reads_of}
use Rattle.query_exec.specs.Routes.{MayBeRead}
use Rattle.coalesce.proofs.Listed.{listed_at}
use Rattle.query_exec.proofs.TableReads.{listed_fit, read_ascends}
use Rattle.query_exec.proofs.RouteLaws.{from_covering}
use Rattle.query_exec.proofs.AliveLaws.{Owes, owes_less, IsLeftOrRead, left_less}
use Rattle.query_exec.proofs.BranchRows.{pushed_answers}
use Rattle.query_exec.proofs.ListSteps.{left_is, taken_is}

-- the columns are the atom's own, and as many as there are names
pub own_columns : (i : ℕ) (cs : List Column) → AreOwn i (columns_at i cs)
own_columns i [] = tt
own_columns i (c ∷ cs) = (refl, own_columns i cs)

pub made_own : (i : ℕ) (cs : List Column) (columns : List AtomColumn) → columns ≡ columns_at i cs
    → AreOwn i columns
made_own i cs columns e = subst (AreOwn i) (sym e) (own_columns i cs)

pub made_many : (i : ℕ) (cs : List Column) (columns : List AtomColumn) → columns ≡ columns_at i cs
    → length columns ≡ length cs
made_many i cs columns e = ap (λ (xs : List AtomColumn). length xs) e ∙ length-map cs _

-- ---- several items

module _ (past : Past) (route : Route) (outs : List Tree) (c : Test) where
  pub have_atoms : (i : ℕ) (from : List Item) (atoms : List Atom)
      → AreRead past route (all_references outs c) c i from atoms
      → HaveAtoms i (read_columns (pushed_from i from outs c)
      (item_columns (tables_of past route.asked) from)) atoms
  have_atoms i [] [] h = tt
  have_atoms i [] (a ∷ atoms) h = absurd h
  have_atoms i (x ∷ from) [] h = absurd h
  have_atoms i (x ∷ from) (a ∷ atoms) h = (h.0.columns, have_atoms (i + 1) from atoms h.1)

  pub rows_are : (m : ℕ) → covers route.slice m ≡ true
      → (i : ℕ) (from : List Item) (atoms : List Atom)
      → AreRead past route (all_references outs c) c i from atoms
      → atom_rows atoms m
      ≡ read_rows (pushed_from i from outs c) (item_columns (tables_of past route.asked) from)
      (item_rows (migrated past m route.asked) from)
  rows_are m inside i [] [] h = refl
  rows_are m inside i [] (a ∷ atoms) h = absurd h
  rows_are m inside i (x ∷ from) [] h = absurd h
  rows_are m inside i (x ∷ from) (a ∷ atoms) h =
      ap (λ (r : Relation). r ∷ atom_rows atoms m) (h.0.rows m inside)
      ∙ ap (λ (r : List Relation). table_read past route.asked x.0
      (own_read i (all_references outs c) c) m ∷ r) (rows_are m inside (i + 1) from atoms h.1)

module _ (past : Past) (route : Route) (rs : List ColRef) (c : Test) where
  numbered_from : (i j : ℕ) (from : List Item) (atoms : List Atom) → j < i
      → AreRead past route rs c i from atoms → IsNumbered j atoms
  numbered_from i j [] [] l h = tt
  numbered_from i j [] (a ∷ atoms) l h = absurd h
  numbered_from i j (x ∷ from) [] l h = absurd h
  numbered_from i j (x ∷ from) (a ∷ atoms) l h =
      (let e = h.0.number in (
        λ q. omega arith,
        numbered_from (i + 1) j from atoms (omega arith) h.1,
      ))

  pub are_numbered : (i : ℕ) (from : List Item) (atoms : List Atom)
      → AreRead past route rs c i from atoms → AreNumbered atoms
  are_numbered i [] [] h = tt
  are_numbered i [] (a ∷ atoms) h = absurd h
  are_numbered i (x ∷ from) [] h = absurd h
  are_numbered i (x ∷ from) (a ∷ atoms) h = (let e = h.0.number in (
    numbered_from (i + 1) a.number from atoms (omega arith) h.1,
    are_numbered (i + 1) from atoms h.1,
  ))

  -- one atom more
  read_more : (i : ℕ) (from : List Item) (atoms : List Atom) (x : Item) (a : Atom)
      → AreRead past route rs c i from atoms
      → IsRead past route (i + length from) x.0 (own_read (i + length from) rs c) a
      → AreRead past route rs c i (from ++ x ∷ []) (atoms ++ a ∷ [])
  read_more i [] [] x a h k = (
    let e : i + 0 ≡ i = omega arith in
        subst (λ (j : ℕ). IsRead past route j x.0 (own_read j rs c) a) e k,
    tt,
  )
  read_more i [] (b ∷ atoms) x a h k = absurd h
  read_more i (y ∷ from) [] x a h k = absurd h
  read_more i (y ∷ from) (b ∷ atoms) x a h k =
      let e : i + length (y ∷ from) ≡ (i + 1) + length from = omega arith in (
        h.0,
        read_more (i + 1) from atoms x a h.1
            (subst (λ (j : ℕ). IsRead past route j x.0 (own_read j rs c) a) e k),
      )

  pub next_read : (from : List Item) (i : ℕ) (x : Item) (l : i < length from)
      (is : x ≡ get_or from i x) (atoms new : List Atom) (a : Atom) → new ≡ atoms ++ a ∷ []
      → AreRead past route rs c 0 (take i from) atoms → IsRead past route i x.0 (own_read i rs c) a
      → AreRead past route rs c 0 (take (i + 1) from) new
  next_read from i x l is atoms new a e h k =
      let many : length (take i from) ≡ i = length-take-le i from (omega arith) in
      let place : i ≡ 0 + length (take i from) = omega arith in
      subst (λ (ps : List Item). AreRead past route rs c 0 ps new) (sym (taken_is from i x l is))
      (subst (λ (xs : List Atom). AreRead past route rs c 0 (take i from ++ x ∷ []) xs) (sym e)
      (read_more 0 (take i from) atoms x a h (subst
      (λ (j : ℕ). IsRead past route j x.0 (own_read j rs c) a) place k)))

module _ (versions : List PlainVersion) (route : Route) (rs : List ColRef) (c : Test)
    (from : List Item) (i : ℕ) (x : Item) (l : i < length from) (is : x ≡ get_or from i x) where
  pub may_next : MayItems versions route rs c i (drop i from)
      → MayBeRead versions route x.0 (own_read i rs c)
      × MayItems versions route rs c (i + 1) (drop (i + 1) from)
  may_next h = subst (λ (ps : List Item). MayItems versions route rs c i ps) (left_is from i x l is)
      h

module _ (book : Book) (versions : List PlainVersion) (q : ℕ) (parts : List Part) (rs : List ColRef)
    (c : Test) (branch : ℕ) where
  -- the pieces of an item and those after it, and of one item more
  pub items_left : (from : List Item) (i : ℕ) (x : Item) → i < length from → x ≡ get_or from i x
      → items_pieces book versions q parts rs c branch i (drop i from)
      ≡ table_pieces book versions q x.0 (own_read i rs c) branch (i + 1) parts
      ++ items_pieces book versions q parts rs c branch (i + 1) (drop (i + 1) from)
  items_left from i x l is = ap (λ (ps : List Item).
      items_pieces book versions q parts rs c branch i ps) (left_is from i x l is)

  pub item_owes : (kept : Kept) (from : List Item) (i : ℕ) (x : Item) → i < length from
      → x ≡ get_or from i x → (steps all new : ℕ)
      → Owes kept (items_pieces book versions q parts rs c branch i (drop i from)) steps all
      → new ≤ steps + reads_of kept (alive_of (table_pieces book versions q x.0 (own_read i rs c)
      branch (i + 1) parts))
      → Owes kept (items_pieces book versions q parts rs c branch (i + 1) (drop (i + 1) from)) new
      all
  item_owes kept from i x l is steps all new o h =
      owes_less kept (table_pieces book versions q x.0 (own_read i rs c) branch (i + 1)
      parts) (items_pieces book versions q parts rs c branch (i + 1) (drop (i + 1) from)) steps
      all new
      (subst (λ (es : List PlainExplained). Owes kept es steps all)
      (items_left from i x l is) o) h

  -- and what is left to be read of one piece
  pub item_left : (kept : Kept) (from : List Item) (i : ℕ) (x : Item) → i < length from
      → x ≡ get_or from i x → (first steps new : ℕ) (e : PlainExplained) → first ≤ steps
      → steps ≤ new
      → IsLeftOrRead kept (items_pieces book versions q parts rs c branch i (drop i from)) first
      steps e
      → (In e (alive_of (table_pieces book versions q x.0 (own_read i rs c) branch (i + 1) parts))
      → steps + explained_read kept e ≤ new)
      → IsLeftOrRead kept (items_pieces book versions q parts rs c branch (i + 1)
      (drop (i + 1) from)) first new e
  item_left kept from i x l is first steps new e a b o h =
      left_less kept (table_pieces book versions q x.0 (own_read i rs c) branch (i + 1)
      parts) (items_pieces book versions q parts rs c branch (i + 1) (drop (i + 1) from)) first
      steps new e a b
      (subst (λ (es : List PlainExplained). IsLeftOrRead kept es first steps e)
      (items_left from i x l is) o) h

  items_last : (i : ℕ) (from : List Item) (x : Item)
      → items_pieces book versions q parts rs c branch i (from ++ x ∷ [])
      ≡ items_pieces book versions q parts rs c branch i from
      ++ table_pieces book versions q x.0 (own_read (i + length from) rs c) branch
      (i + length from + 1) parts
  items_last i [] x =
      let e : i ≡ i + 0 = omega arith in
      append-nil (table_pieces book versions q x.0 (own_read i rs c) branch (i + 1) parts)
      ∙ ap (λ (j : ℕ). table_pieces book versions q x.0 (own_read j rs c) branch (j + 1) parts) e
  items_last i (y ∷ from) x =
      let e : (i + 1) + length from ≡ i + length (y ∷ from) = omega arith in
      ap (λ (es : List PlainExplained). table_pieces book versions q y.0 (own_read i rs c) branch
      (i + 1) parts ++ es) (items_last (i + 1) from x)
      ∙ sym (append_assoc (table_pieces book versions q y.0 (own_read i rs c) branch (i + 1) parts)
      (items_pieces book versions q parts rs c branch (i + 1) from)
      (table_pieces book versions q x.0 (own_read ((i + 1) + length from) rs c) branch
      ((i + 1) + length from + 1) parts))
      ∙ ap (λ (j : ℕ). items_pieces book versions q parts rs c branch i (y ∷ from)
      ++ table_pieces book versions q x.0 (own_read j rs c) branch (j + 1) parts) e

  pub items_more : (from : List Item) (i : ℕ) (x : Item) → i < length from → x ≡ get_or from i x
      → items_pieces book versions q parts rs c branch 0 (take (i + 1) from)
      ≡ items_pieces book versions q parts rs c branch 0 (take i from)
      ++ table_pieces book versions q x.0 (own_read i rs c) branch (i + 1) parts
  items_more from i x l is =
      let many : length (take i from) ≡ i = length-take-le i from (omega arith) in
      let place : 0 + length (take i from) ≡ i = omega arith in
      ap (λ (ps : List Item). items_pieces book versions q parts rs c branch 0 ps)
      (taken_is from i x l is)
      ∙ items_last 0 (take i from) x
      ∙ ap (λ (j : ℕ). items_pieces book versions q parts rs c branch 0 (take i from)
      ++ table_pieces book versions q x.0 (own_read j rs c) branch (j + 1) parts) place

-- ---- one item

module _ (kept : Kept) (past : Past) (represents : Represents kept past) (route : Route)
    (schema : Tables) (is : schema ≡ tables_from no_tables (versions_in kept) route.asked)
    (place : ℕ) (table : List ℕ) (r again : Read) (given : List (List ℕ))
    (columns : List AtomColumn) (rows : List TimedRow)
    (made : columns ≡ columns_at place (named given (columns_of schema table)))
    (first : given ≡ again.names) (second : again ≡ r)
    (listed : IsListing row_cmp (table_read past route.asked table again) route.slice
    (entries_of rows)) where
  named_so : given ≡ r.names
  named_so = first ∙ ap (λ (x : Read). x.names) second

  pub columns_are : columns ≡ columns_at place
      (named r.names (columns_of (tables_of past route.asked) table))
  columns_are =
      made
      ∙ ap (λ (ns : List (List ℕ)). columns_at place (named ns (columns_of schema table))) named_so
      ∙ ap (λ (t : Tables). columns_at place (named r.names (columns_of t table)))
      (is ∙ ap (λ (vs : List PlainVersion). tables_from no_tables vs route.asked)
      represents.versions)

  listed_names : IsListing row_cmp (table_read past route.asked table r) route.slice
      (entries_of rows)
  listed_names = subst (λ (x : Read). IsListing row_cmp (table_read past route.asked table x)
      route.slice (entries_of rows)) second listed

  pub item_own : AreOwn place columns
  item_own = made_own place (named given (columns_of schema table)) columns made

  pub item_fit : Fit (length columns) (entries_of rows)
  item_fit =
      listed_fit past represents.values route.asked table r route.slice
      (entries_of rows) listed_names
      (length columns)
      (made_many place (named r.names (columns_of (tables_of past route.asked) table)) columns
      columns_are)

  pub item_rows_are : (m : ℕ) → covers route.slice m ≡ true
      → rows_at rows m ≡ table_read past route.asked table r m
  item_rows_are m c =
      let inside = from_covering route.slice m c in
      listed_at (table_read past route.asked table r) route.slice (entries_of rows) listed_names m
      inside.0 inside.1
      (read_ascends past route.asked table r m)

-- the names of its columns are those that are asked for
pub item_names : (kept : Kept) (past : Past) → Represents kept past → (route : Route)
    (table : List ℕ) (r : Read) → MayBeRead (versions_in kept) route table r
    → names_of (named r.names (columns_of (tables_of past route.asked) table)) ≡ r.names
item_names kept past represents route table r may =
    let asked : IsQuestion (tables_of past route.asked) table r =
    subst (λ (vs : List PlainVersion). IsQuestion (tables_from no_tables vs route.asked) table r)
    represents.versions may.question.question in
    names_left r.names (columns_of (tables_of past route.asked) table) asked.ascending
    (ordered_columns (tables_of past route.asked) table
    (valid_at past.versions represents.valid.evolved route.asked).schema) asked.columns

-- ---- the atoms of a branch

module _ (past : Past) (route : Route) (b : PlainBranch) (rs : List ColRef) (from : List Item)
    (atoms : List Atom) (same : rs ≡ all_references b.outs b.cond) (items : from ≡ b.from)
    (read : AreRead past route rs b.cond 0 from atoms) where
  abbrev left : List (List Column)
  left = read_columns (pushed_reads b) (item_columns (tables_of past route.asked) b.from)

  read_here : AreRead past route (all_references b.outs b.cond) b.cond 0 b.from atoms
  read_here =
      subst (λ (f : List Item). AreRead past route (all_references b.outs b.cond) b.cond 0 f atoms)
      items
      (subst (λ (r : List ColRef). AreRead past route r b.cond 0 from atoms) same read)

  pub branch_atoms : HaveAtoms 0 (read_columns (pushed_reads b)
      (item_columns (tables_of past route.asked) b.from)) atoms
  branch_atoms = have_atoms past route b.outs b.cond 0 b.from atoms read_here

  pub branch_rows : (m : ℕ) → covers route.slice m ≡ true → (rows : Relation)
      → rows ≡ set_of row_cmp (answers_over (read_columns (pushed_reads b)
      (item_columns (tables_of past route.asked) b.from)) (atom_rows atoms m) b.outs b.cond)
      → rows ≡ set_of row_cmp (branch_answers (tables_of past route.asked)
      (migrated past m route.asked) b)
  branch_rows m c rows e =
      e
      ∙ ap (λ (r : List Relation). set_of row_cmp (answers_over left r b.outs b.cond))
      (rows_are past route b.outs b.cond m c 0 b.from atoms read_here)
      ∙ pushed_answers (tables_of past route.asked) (migrated past m route.asked) b
