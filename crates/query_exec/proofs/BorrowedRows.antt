-- What is borrowed stays borrowed, from the pieces to the answer.
use Rattle.std.proofs.Common.{◌≡◌, ◌<◌, ◌+◌, ℕ, zero, suc, Bool, true, false, List, [], ◌∷◌}
use Rattle.std.proofs.Common.{◌++◌, map, length, get_or, drop, refl, sym, ap, ◌∙◌, subst}
use Rattle.std.proofs.Common.{inl, inr, arith}
use Rattle.std.specs.Prelude.{Option, ◌⊎◌}
use Rattle.relations_spec.specs.Sets.{In, set_of}
use Rattle.relations_spec.specs.Spans.{Span, covers}
use Rattle.relations_spec.proofs.Held.{in_at, covers_is}
use Rattle.relations_spec.proofs.SetLaws.{in_left, in_right, in_append, in_map, from_map}
use Rattle.relations_spec.proofs.SetLaws.{in_flat_map}
use Rattle.relations_spec.proofs.SetLaws.{from_flat_map, from_set}
use Rattle.prima_base.specs.declared.value.Val.{Val}
use Rattle.prima_base.specs.declared.timed_row.TimedRow.{TimedRow}
use Rattle.prima_base.specs.Order.{shown, row_cmp}
use Rattle.prima_base.specs.OrderLaws.{row_exact}
use Rattle.prima_base.specs.Timed.{entry_of, entries_of, rows_at}
use Rattle.prima_base.specs.Columns.{Column, names_of}
use Rattle.cond_expr.specs.declared.expr.ColRef.{ColRef}
use Rattle.cond_expr.specs.declared.expr.Column.{Column as AtomColumn}
use Rattle.cond_expr.specs.declared.expr.Whose.TheVariants.{Atom as AtAtom}
use Rattle.cond_expr.specs.AtomColumns.{columns_at}
use Rattle.cond_expr.specs.Kinds.{Kinds}
use Rattle.cond_expr.specs.Trees.{Tree, Test}
use Rattle.prima_base.specs.declared.value.ColType.{ColType}
use Rattle.smo_ops_types.specs.Commands.{PlainVersion}
use Rattle.smo_ops_spec.specs.OneRow.{Row, Relation}
use Rattle.smo_ops_spec.specs.Past.{Past, no_tables, tables_from, tables_of}
use Rattle.join_exec_spec.specs.BorrowedOutputs.{EachRow, BorrowedValues, all_values, RowBorrows}
use Rattle.join_exec_spec.specs.BorrowedOutputs.{RowsBorrow, is_plain}
use Rattle.join_exec_spec.specs.BorrowedOutputs.{StaysBorrowed, AllStayBorrowed}
use Rattle.join_exec_spec.proofs.BorrowedLaws.{each_both, each_member, all_members}
use Rattle.coalesce.specs.Joining.{HaveValuesOf}
use Rattle.join_exec_engine.specs.declared.atom.Atom.{Atom}
use Rattle.join_exec_engine.specs.Atoms.{AtomsBorrow}
use Rattle.smo_ops_versions_spec.specs.Migration.{migrated}
use Rattle.version_groups.specs.Groups.{Kept, versions_in}
use Rattle.plain_answers_spec.specs.Branches.{Item, PlainBranch, branch_answers}
use Rattle.plain_answers_spec.specs.Reading.{Read}
use Rattle.piece_ir_spec.specs.Pieces.{PlainPiece, out_names, out_trees}
use Rattle.piece_ir_spec.specs.Rules.{Book, IsValidBook}
use Rattle.piece_ir_spec.specs.Typed.{atom_kinds, typed_names}
use Rattle.piece_ir.specs.Shown.{shown_pieces}
use Rattle.piece_ir.specs.ExplainedPieces.{PlainExplained}
use Rattle.piece_ir_spec.specs.Beginnings.{first_piece, own_column}
use Rattle.piece_ir_spec.specs.Chains.{unfolded_to}
use Rattle.piece_ir_spec.proofs.ReadMoments.{table_output}
use Rattle.period_split.specs.Splitting.{Part}
use Rattle.temporal_lang_types.specs.Branches.{branch_of, branches_of}
use Rattle.temporal_lang_types.specs.declared.branch.Branch.{Branch}
use Rattle.temporal_lang_types.specs.Queries.{PlainQuery}
use Rattle.query_exec.specs.declared.part_piece.PartPieces.{PartPieces}
use Rattle.query_exec.specs.declared.route.Route.{Route}
use Rattle.query_exec.specs.Borrowed.{BorrowedByBranch, SparesRow, Spares, AllSpare, IsAnswered}
use Rattle.query_exec.specs.Borrowed.{IsBorrowedBy, AlwaysBorrowedBy, AreBorrowedBy}
use Rattle.query_exec.specs.Borrowed.{ArePlainIn, IsPlainIn, AllPlainIn}
use Rattle.query_exec.specs.Planned.{ArePlanned, own_pieces, planned_pieces}
use Rattle.query_exec.specs.Questions.{own_read}
use Rattle.query_exec.specs.QueryPieces.{explained_in, part_pieces, table_pieces, items_pieces}
use Rattle.query_exec.specs.QueryPieces.{branch_pieces, branches_pieces, IsAlive}
use Rattle.query_exec.specs.Routes.{IsRoute, MayBeRead}
use Rattle.query_exec.proofs.AliveLaws.{in_alive, planned_alive}
use Rattle.query_exec.proofs.BranchRows.{branches_left}
use Rattle.query_exec.proofs.ListSteps.{left_is}
use Rattle.query_exec.proofs.PlanLaws.{none_lost}

-- ---- rows of a piece

plain_borrows : (which : BorrowedValues) (columns : List AtomColumn) (outs : List Tree)
    (values : List Val)
    → ArePlainIn which columns outs (map shown values) → StaysBorrowed all_values outs values
    → RowBorrows which columns values
plain_borrows which [] [] [] p s = tt
plain_borrows which [] [] (v ∷ values) p s = absurd s
plain_borrows which [] (t ∷ outs) values p s = absurd p
plain_borrows which (c ∷ columns) [] values p s = absurd p
plain_borrows which (c ∷ columns) (t ∷ outs) [] p s = absurd s
plain_borrows which (c ∷ columns) (t ∷ outs) (v ∷ values) p s = (
  λ so. s.0 (p.0 so),
  plain_borrows which columns outs values p.1 s.1,
)

-- rows that are a relation at each moment of a period, and nothing at any other: each shows, at
-- each moment of its own, a row of it
module _ (relation : ℕ → Relation) (period : Span) (rows : List TimedRow)
    (inside : (m : ℕ) → covers period m ≡ true → rows_at rows m ≡ relation m)
    (outside : (m : ℕ) → covers period m ≡ false → rows_at rows m ≡ []) where
  pub row_at : (row : TimedRow) → In row rows → (m : ℕ) → covers row.period m ≡ true
      → (covers period m ≡ true) × In (map shown row.values.items) (relation m)
  row_at row i m held = step (covers period m) refl
    where
      here : In (map shown row.values.items) (rows_at rows m)
      here = (in_at row_cmp row_exact (entries_of rows) (map shown row.values.items) m).1
          (entry_of row, in_map entry_of row rows i, refl, held)

      step : (b : Bool) → covers period m ≡ b
          → (covers period m ≡ true) × In (map shown row.values.items) (relation m)
      step true e =
          (e, subst (λ (r : Relation). In (map shown row.values.items) r) (inside m e) here)
      step false e = absurd (subst (λ (r : Relation). In (map shown row.values.items) r)
          (outside m e) here)

  row_holds : (row : TimedRow) → In row rows → row.period.start < row.period.end
      → (m : ℕ) × (covers period m ≡ true) × In (map shown row.values.items) (relation m)
  row_holds row i some =
      let h = row_at row i row.period.start
      ((covers_is row.period row.period.start).1 (omega arith, some)) in
      (row.period.start, h.0, h.1)

  -- where in each row of it each output whose value is to be borrowed is a plain column, the rows
  -- borrow these
  -- columns
  pub piece_borrows : (which : BorrowedValues) (columns : List AtomColumn) (outs : List Tree)
      → ((row : TimedRow) → In row rows → row.period.start < row.period.end)
      → ((m : ℕ) → covers period m ≡ true → (row : Row) → In row (relation m)
      → ArePlainIn which columns outs row)
      → AllStayBorrowed all_values outs rows → RowsBorrow which columns rows
  piece_borrows which columns outs some plain l =
      all_members (RowBorrows which columns) rows (λ row i.
      let h = row_holds row i (some row i) in
      plain_borrows which columns outs row.values.items
      (plain h.0 h.1 (map shown row.values.items) h.2)
      (each_member (StaysBorrowed all_values outs) rows row i l))

pub each_joined : (so : List Val → Type 0) (old news new : List TimedRow) → new ≡ old ++ news
    → EachRow so old → EachRow so news → EachRow so new
each_joined so old news new e l k = subst (EachRow so) (sym e) (each_both so old news l k)

-- ---- the pieces of a table

-- what is said of each piece that is not dead is said of each that is planned
pub plan_plain : (kept : Kept) (versions : List PlainVersion) (book : Book) (q : ℕ)
    (table : List ℕ) (r : Read) (branch atom : ℕ) (parts : List Part) (plan : List PartPieces)
    (which : BorrowedValues) (columns : List AtomColumn)
    → ArePlanned book versions q table r parts plan
    → ((e : PlainExplained) → IsAlive versions (table_pieces book versions q table r branch atom
    parts) e → IsPlainIn kept which columns e)
    → (x : PartPieces) → In x plan
    → AllPlainIn kept x.part.1 x.part.0 which columns (shown_pieces x.pieces.items)
plan_plain kept versions book q table r branch atom parts plan which columns planned h x m = λ p k.
    h (explained_in branch atom x.part p)
    (in_alive versions (table_pieces book versions q table r branch atom parts)
    (planned_pieces branch atom plan) (explained_in branch atom x.part p)
    (planned_alive versions book q table r branch atom parts plan planned)
    (in_flat_map (own_pieces branch atom) x (explained_in branch atom x.part p) plan m
    (in_map (explained_in branch atom x.part) p (shown_pieces x.pieces.items) k)))

-- ---- outputs and columns of one name

-- outputs with the names of columns, in their order
plain_by_names : (which : BorrowedValues) (place : ℕ) (columns : List Column)
    (outs : List (List ℕ × Tree))
    (row : Row) → out_names outs ≡ names_of columns → SparesRow which place outs row
    → ArePlainIn which (columns_at place columns) (out_trees outs) row
plain_by_names which place [] [] row e s = tt
plain_by_names which place [] (o ∷ outs) row e s = absurd (cc)
plain_by_names which place (c ∷ columns) [] row e s = absurd (cc)
plain_by_names which place (c ∷ columns) (o ∷ outs) [] e s = tt
plain_by_names which place (c ∷ columns) (o ∷ outs) (x ∷ row) e s =
    let first : o.0 ≡ c.0 = cc in
    let more : out_names outs ≡ names_of columns = cc in (
      subst (λ (n : List ℕ). which (AtAtom place) n x ≡ true → is_plain x o.1 ≡ true) first s.0,
      plain_by_names which place columns outs row more s.1,
    )

-- ---- the names of a piece's outputs

names_typed : (of : Kinds) (outs : List (List ℕ × Tree))
    → map (λ (o : List ℕ × Option ColType). o.0) (typed_names of outs) ≡ out_names outs
names_typed of [] = refl
names_typed of (o ∷ outs) = ap (λ (ns : List (List ℕ)). o.0 ∷ ns) (names_typed of outs)

own_names : (names : List (List ℕ)) → out_names (map own_column names) ≡ names
own_names [] = refl
own_names (n ∷ names) = ap (λ (ns : List (List ℕ)). n ∷ ns) (own_names names)

module _ (versions : List PlainVersion) (book : Book) (valid : IsValidBook book) (route : Route)
    (is : IsRoute versions route) (table : List ℕ) (r : Read)
    (may : MayBeRead versions route table r) where
  -- those of a piece of one of the parts are the names that are asked for
  piece_names : (p : Part) → In p route.parts.items → (piece : PlainPiece)
      → In piece (unfolded_to book versions p.1 route.asked (first_piece table r ∷ []))
      → out_names piece.outs ≡ r.names
  piece_names p m piece i =
      let before = atom_kinds (tables_from no_tables versions p.1) piece.atoms in
      let after = atom_kinds (tables_from no_tables versions route.asked) (table ∷ []) in
      sym (names_typed before piece.outs)
      ∙ ap (map (λ (o : List ℕ × Option ColType). o.0))
      (table_output versions may.question.valid book valid p.1 route.asked table r
      may.question.question (none_lost versions route is table r may p m) piece i)
      ∙ names_typed after (map own_column r.names)
      ∙ own_names r.names

  -- so what is to be borrowed of a piece that computes nothing of it is plain in each of its rows
  pub item_plain : (kept : Kept) (columns : List Column) → names_of columns ≡ r.names
      → (branch place : ℕ) (by_branch : BorrowedByBranch) (e : PlainExplained) → IsAlive versions
      (table_pieces book versions route.asked table r branch (place + 1) route.parts.items) e
      → Spares kept by_branch e → IsPlainIn kept (by_branch branch) (columns_at place columns) e
  item_plain kept columns named_so branch place by_branch e alive spares m inside row i =
      let part = from_flat_map (part_pieces book versions route.asked table r branch (place + 1)) e
      route.parts.items alive.among in
      let made = from_map (explained_in branch (place + 1) part.0) e
      (unfolded_to book versions part.0.1 route.asked (first_piece table r ∷ [])) part.2 in
      plain_by_names (by_branch branch) place columns e.piece.outs row
      (subst (λ (x : PlainExplained). out_names x.piece.outs ≡ names_of columns) made.2
      (piece_names part.0 part.1 made.0 made.1 ∙ sym named_so))
      (subst (λ (b : ℕ). SparesRow (by_branch b) place e.piece.outs row)
      (ap (λ (x : PlainExplained). x.branch) (sym made.2))
      (spares place (ap (λ (x : PlainExplained). x.atom) (sym made.2)) m inside row i))

-- ---- pieces of two lists

module _ (kept : Kept) (by_branch : BorrowedByBranch) where
  pub spare_both : (xs ys : List PlainExplained) → AllSpare kept by_branch (xs ++ ys)
      → AllSpare kept by_branch xs × AllSpare kept by_branch ys
  spare_both xs ys h = (
    λ e a. h e (record { among = in_left e xs ys a.among; alive = a.alive }),
    λ e a. h e (record { among = in_right e xs ys a.among; alive = a.alive }),
  )

  module _ (book : Book) (q : ℕ) (parts : List Part) where
    -- of the items that are left, those of the next and of those after it
    pub next_item : (references : List ColRef) (cond : Test) (branch : ℕ) (from : List Item) (i : ℕ)
        (x : Item) → i < length from → x ≡ get_or from i x
        → AllSpare kept by_branch (items_pieces book (versions_in kept) q parts references cond
        branch i
        (drop i from))
        → AllSpare kept by_branch (table_pieces book (versions_in kept) q x.0
        (own_read i references cond)
        branch (i + 1) parts) × AllSpare kept by_branch
        (items_pieces book (versions_in kept) q parts references cond branch (i + 1)
        (drop (i + 1) from))
    next_item references cond branch from i x below is h =
        spare_both (table_pieces book (versions_in kept) q x.0 (own_read i references cond) branch
        (i + 1)
        parts) (items_pieces book (versions_in kept) q parts references cond branch (i + 1)
        (drop (i + 1) from))
        (subst (λ (xs : List Item). AllSpare kept by_branch
        (items_pieces book (versions_in kept) q parts references cond branch i xs))
        (left_is from i x below is) h)

    pub next_branch : (branches : List Branch) (i : ℕ) (b : Branch) → i < length branches
        → b ≡ get_or branches i b → (number : ℕ)
        → AllSpare kept by_branch (branches_pieces book (versions_in kept) q parts (number + i)
        (branches_of (drop i branches)))
        → AllSpare kept by_branch (branch_pieces book (versions_in kept) q parts (number + i)
        (branch_of b)) × AllSpare kept by_branch
        (branches_pieces book (versions_in kept) q parts (number + (i + 1))
        (branches_of (drop (i + 1) branches)))
    next_branch branches i b below is number h =
        let e : (number + i) + 1 ≡ number + (i + 1) = omega arith in
        subst (λ (n : ℕ). AllSpare kept by_branch
        (branch_pieces book (versions_in kept) q parts (number + i) (branch_of b))
        × AllSpare kept by_branch (branches_pieces book (versions_in kept) q parts n
        (branches_of (drop (i + 1) branches)))) e
        (spare_both (branch_pieces book (versions_in kept) q parts (number + i) (branch_of b))
        (branches_pieces book (versions_in kept) q parts ((number + i) + 1)
        (branches_of (drop (i + 1) branches)))
        (subst (λ (es : List PlainExplained). AllSpare kept by_branch es)
        (branches_left branches i b below is book (versions_in kept) q parts (number + i)) h))

-- ---- atoms

with_atom : (which : BorrowedValues) (atoms : List Atom) (a : Atom) → AtomsBorrow which atoms
    → RowsBorrow which a.columns.items a.rows.items → AtomsBorrow which (atoms ++ a ∷ [])
with_atom which [] a l k = (k, tt)
with_atom which (x ∷ atoms) a l k = (l.0, with_atom which atoms a l.1 k)

pub atom_more : (which : BorrowedValues) (atoms new : List Atom) (a : Atom) → new ≡ atoms ++ a ∷ []
    → AtomsBorrow which atoms → RowsBorrow which a.columns.items a.rows.items
    → AtomsBorrow which new
atom_more which atoms new a e l k = subst (AtomsBorrow which) (sym e) (with_atom which atoms a l k)

-- ---- branches

-- each row of a branch is answered at each moment of its period
pub row_answered : (past : Past) (version : ℕ) (slice : Span) (b : PlainBranch)
    (rows : List TimedRow)
    → ((m : ℕ) → covers slice m ≡ true → rows_at rows m
    ≡ set_of row_cmp (branch_answers (tables_of past version) (migrated past m version) b))
    → ((m : ℕ) → covers slice m ≡ false → rows_at rows m ≡ [])
    → (row : TimedRow) → In row rows → (m : ℕ) → covers row.period m ≡ true
    → IsAnswered past version m b (map shown row.values.items)
row_answered past version slice b rows inside outside row i m held =
    from_set row_cmp row_exact (map shown row.values.items)
    (branch_answers (tables_of past version) (migrated past m version) b)
    (row_at (λ n. set_of row_cmp
    (branch_answers (tables_of past version) (migrated past n version) b)) slice rows inside outside
    row i m held).1

module _ (answers : PlainBranch → Row → Type 0) (by_branch : BorrowedByBranch) where
  -- values of one of the branches are so of all of them
  among_branches : (number : ℕ) (branches : List Branch) (i : ℕ) (b : Branch)
      → i < length branches → b ≡ get_or branches i b → (values : List Val)
      → answers (branch_of b) (map shown values)
      → StaysBorrowed (by_branch (number + i)) (branch_of b).outs values
      → IsBorrowedBy answers by_branch number (branches_of branches) values
  among_branches number [] i b below is values a s = absurd (omega arith)
  among_branches number (x ∷ branches) zero b below is values a s =
      let e : number + 0 ≡ number = omega arith in
      inl (
        subst (λ (y : Branch). answers (branch_of y) (map shown values)) is a,
        subst (λ (n : ℕ). StaysBorrowed (by_branch n) (branch_of x).outs values) e
            (subst (λ (y : Branch). StaysBorrowed (by_branch (number + 0)) (branch_of y).outs
            values) is s),
      )
  among_branches number (x ∷ branches) (suc i) b below is values a s =
      let e : number + suc i ≡ (number + 1) + i = omega arith in
      inr (among_branches (number + 1) branches i b (omega arith) is values a
      (subst (λ (n : ℕ). StaysBorrowed (by_branch n) (branch_of b).outs values) e s))

module _ (past : Past) (version : ℕ) (by_branch : BorrowedByBranch) where
  pub branch_more : (number : ℕ) (branches : List Branch) (i : ℕ) (b : Branch)
      → i < length branches → b ≡ get_or branches i b → (old news new : List TimedRow)
      → new ≡ old ++ news
      → AlwaysBorrowedBy past version by_branch number (branches_of branches) old
      → ((row : TimedRow) → In row news → (m : ℕ) → covers row.period m ≡ true
      → IsAnswered past version m (branch_of b) (map shown row.values.items))
      → AllStayBorrowed (by_branch (number + i)) (branch_of b).outs news
      → AlwaysBorrowedBy past version by_branch number (branches_of branches) new
  branch_more number branches i b below is old news new e l a s = λ row k m held.
      step row m held (in_append row old news (subst (λ (rs : List TimedRow). In row rs) e k))
    where
      step : (row : TimedRow) (m : ℕ) → covers row.period m ≡ true → In row old ⊎ In row news
          → IsBorrowedBy (IsAnswered past version m) by_branch number (branches_of branches)
          row.values.items
      step row m held (inl j) = l row j m held
      step row m held (inr j) =
          among_branches (IsAnswered past version m) by_branch number branches i b below is
          row.values.items (a row j m held)
          (each_member (StaysBorrowed (by_branch (number + i)) (branch_of b).outs) news row j s)

-- rows with the values of others, from their first moment on
pub begun_borrowed : (past : Past) (query : PlainQuery) (by_branch : BorrowedByBranch)
    (before after : List TimedRow) → HaveValuesOf before after
    → AlwaysBorrowedBy past query.version by_branch 1 query.branches before
    → AreBorrowedBy past query by_branch after
begun_borrowed past query by_branch before after h l = λ row i.
    let r = h row i in
    subst (IsBorrowedBy (IsAnswered past query.version row.period.start) by_branch 1
    query.branches) r.2 (l r.0 r.1 row.period.start r.3)
