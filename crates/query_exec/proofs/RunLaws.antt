-- Runs: what is read of one is what is read of each of its parts alone.
use Rattle.std.proofs.Common.{◌≡◌, ◌+◌, ◌<◌, ◌≤◌, ℕ, suc, true, List, [], ◌∷◌, ◌++◌, length, get_or}
use Rattle.std.proofs.Common.{take, drop, refl, sym, ap, subst, ◌∙◌, inl, inr, arith, zero, Bool}
use Rattle.std.proofs.Common.{false, if◌then◌else◌}
use Rattle.std.specs.Prelude.{◌⊎◌, Option, Some}
use Rattle.std.specs.Ordering.{is_eq}
use Rattle.std.proofs.Math.Seq.{take-add}
use Rattle.std.proofs.lemmas.Bool.{cases_lt}
use Rattle.std.proofs.lemmas.List.{map-append, take-append-drop, take_all, length-map}
use Rattle.relations_spec.specs.Sets.{In, set_of}
use Rattle.relations_spec.specs.Spans.{Span, covers, forever}
use Rattle.relations_spec.specs.Timed.{Entry, at}
use Rattle.relations_spec.proofs.SetLaws.{from_map, in_left, in_right, in_append}
use Rattle.relations_spec.proofs.Held.{covers_is}
use Rattle.prima_base.specs.Order.{row_cmp, bytes_cmp}
use Rattle.prima_base.specs.Columns.{Column}
use Rattle.smo_ops_types.specs.Commands.{PlainVersion}
use Rattle.smo_ops_spec.specs.OneRow.{Row, Relation}
use Rattle.smo_ops_spec.specs.Past.{Past, tables_of, database_at}
use Rattle.cond_expr.specs.Trees.{Tree, Test}
use Rattle.cond_expr.specs.declared.expr.ColRef.{ColRef}
use Rattle.cond_expr.specs.declared.expr.Column.{Column as AtomColumn}
use Rattle.join_exec_spec.specs.BorrowedOutputs.{BorrowedValues}
use Rattle.history_store.specs.Store.{Store, Cell, named, column_of, relation_at}
use Rattle.version_groups.specs.StoredTables.{rows_stored}
use Rattle.version_groups.specs.Groups.{Kept, versions_in, table_in}
use Rattle.version_groups.specs.Representation.{Represents, IsInForce}
use Rattle.plain_answers_spec.specs.Choosing.{answers_over}
use Rattle.plain_answers_spec.specs.Naming.{all_references, names_at}
use Rattle.piece_ir_spec.specs.Pieces.{PlainPiece, out_trees, means, all_mean}
use Rattle.piece_ir_spec.specs.Typed.{AllTyped}
use Rattle.piece_ir.specs.Shown.{piece_of, shown_pieces}
use Rattle.piece_ir.specs.declared.piece.Piece.{Piece}
use Rattle.query_pieces_spec.specs.Gathering.{HasMoment, IsGathered}
use Rattle.join_exec.specs.Pieces.{columns_stored, stored_columns, stored_rows, stored_meaning}
use Rattle.join_exec.specs.Pieces.{atoms_read, piece_reads}
use Rattle.join_exec.specs.Reading.{count_in, entries_in, reads}
use Rattle.join_exec.proofs.PieceAtoms.{meaning_shown}
use Rattle.query_exec.specs.declared.part_piece.PartPieces.{PartPieces}
use Rattle.query_exec.specs.Borrowed.{AllPlainIn, ArePlainIn}
use Rattle.query_exec.specs.Planned.{planned_spans}
use Rattle.query_exec.specs.Reads.{pieces_read, part_read}
use Rattle.query_exec.specs.Routes.{IsOwn}
use Rattle.query_exec.specs.Runs.{AreAlike, TablesAlike, IsAlike, PiecesAlike, MeanAlike, GoesOn}
use Rattle.query_exec.specs.Runs.{Meet, IsRun, IsMeant}
use Rattle.query_exec.specs.Totals.{total}
use Rattle.query_exec.proofs.ListSteps.{left_is, among_taken}
use Rattle.query_exec.proofs.TotalLaws.{total_joined}
use Rattle.query_exec.proofs.WalkSteps.{within_there}

-- ---- pieces that are alike

module _ (kept : Kept) (from k j : ℕ) where
  columns_alike : (tables others : List (List ℕ)) → TablesAlike kept from k tables j others
      → stored_columns kept k tables ≡ stored_columns kept j others
  columns_alike [] [] h = refl
  columns_alike [] (b ∷ others) h = absurd h
  columns_alike (a ∷ tables) [] h = absurd h
  columns_alike (a ∷ tables) (b ∷ others) h =
      ap (λ (cs : List Column). cs ∷ stored_columns kept k tables) h.0.columns
      ∙ ap (λ (more : List (List Column)). columns_stored (table_in kept j b) ∷ more)
      (columns_alike tables others h.1)

  rows_alike : (tables others : List (List ℕ)) (m : ℕ) → from ≤ m → m < forever
      → TablesAlike kept from k tables j others
      → stored_rows kept k tables m ≡ stored_rows kept j others m
  rows_alike [] [] m l t h = refl
  rows_alike [] (b ∷ others) m l t h = absurd h
  rows_alike (a ∷ tables) [] m l t h = absurd h
  rows_alike (a ∷ tables) (b ∷ others) m l t h =
      ap (λ (r : Relation). r ∷ stored_rows kept k tables m) (h.0.rows m l t)
      ∙ ap (λ (more : List Relation). rows_stored m (table_in kept j b) ∷ more)
      (rows_alike tables others m l t h.1)

  -- they mean the same from the moment on
  pub meaning_alike : (p q : PlainPiece) (m : ℕ) → from ≤ m → m < forever
      → IsAlike kept from k p j q → stored_meaning kept k p m ≡ stored_meaning kept j q m
  meaning_alike p q m l t h =
      ap (λ (cs : List (List Column)). set_of row_cmp
      (answers_over cs (stored_rows kept k p.atoms m) (out_trees p.outs) p.cond))
      (columns_alike p.atoms q.atoms h.atoms)
      ∙ ap (λ (rs : List Relation). set_of row_cmp
      (answers_over (stored_columns kept j q.atoms) rs (out_trees p.outs) p.cond))
      (rows_alike p.atoms q.atoms m l t h.atoms)
      ∙ ap (λ (outs : List (List ℕ × Tree)). set_of row_cmp
      (answers_over (stored_columns kept j q.atoms) (stored_rows kept j q.atoms m)
      (out_trees outs) p.cond)) h.outs
      ∙ ap (λ (cond : Test). set_of row_cmp
      (answers_over (stored_columns kept j q.atoms) (stored_rows kept j q.atoms m)
      (out_trees q.outs) cond)) h.cond

  pub pieces_mean : (ps qs : List PlainPiece) (m : ℕ) → from ≤ m → m < forever
      → PiecesAlike kept from k ps j qs → MeanAlike kept k ps j qs m
  pieces_mean [] [] m l t h = tt
  pieces_mean [] (q ∷ qs) m l t h = absurd h
  pieces_mean (p ∷ ps) [] m l t h = absurd h
  pieces_mean (p ∷ ps) (q ∷ qs) m l t h =
      (meaning_alike p q m l t h.0, pieces_mean ps qs m l t h.1)

  atoms_alike : (rs : List ColRef) (i : ℕ) (tables others : List (List ℕ))
      → TablesAlike kept from k tables j others
      → atoms_read kept j rs i others ≤ atoms_read kept k rs i tables
  atoms_alike rs i [] [] h = omega arith
  atoms_alike rs i [] (b ∷ others) h = absurd h
  atoms_alike rs i (a ∷ tables) [] h = absurd h
  atoms_alike rs i (a ∷ tables) (b ∷ others) h =
      let first = h.0.reads (names_at i rs) in
      let more = atoms_alike rs (i + 1) tables others h.1 in
      omega (arith, first, more)

  -- and no more is read for the second
  piece_alike : (p q : PlainPiece) → IsAlike kept from k p j q
      → piece_reads kept j q ≤ piece_reads kept k p
  piece_alike p q h =
      subst (λ (outs : List (List ℕ × Tree)). atoms_read kept j
      (all_references (out_trees outs) q.cond) 0 q.atoms ≤ piece_reads kept k p) h.outs
      (subst (λ (cond : Test). atoms_read kept j (all_references (out_trees p.outs) cond) 0 q.atoms
      ≤ piece_reads kept k p) h.cond
      (atoms_alike (all_references (out_trees p.outs) p.cond) 0 p.atoms q.atoms h.atoms))

  pub reads_alike : (ps qs : List PlainPiece) → PiecesAlike kept from k ps j qs
      → pieces_read kept j qs ≤ pieces_read kept k ps
  reads_alike [] [] h = omega arith
  reads_alike [] (q ∷ qs) h = absurd h
  reads_alike (p ∷ ps) [] h = absurd h
  reads_alike (p ∷ ps) (q ∷ qs) h =
      let first = piece_alike p q h.0 in
      let more = reads_alike ps qs h.1 in
      omega (arith, first, more)

  -- each of the first has one that it is alike to
  pub partner : (ps qs : List PlainPiece) → PiecesAlike kept from k ps j qs → (p : PlainPiece)
      → In p ps → (q : PlainPiece) × In q qs × IsAlike kept from k p j q
  partner [] qs h p m = absurd m
  partner (x ∷ ps) [] h p m = absurd h
  partner (x ∷ ps) (q ∷ qs) h p (inl e) =
      (q, inl refl, subst (λ (y : PlainPiece). IsAlike kept from k y j q) e h.0)
  partner (x ∷ ps) (q ∷ qs) h p (inr m) =
      let r = partner ps qs h.1 p m in (r.0, inr r.1, r.2)

-- what a table is alike to: itself
alike_itself : (from : ℕ) (o : Option Store) → AreAlike from o o
alike_itself from o = record {
  columns = refl;
  rows = λ m l t. refl;
  reads = λ names. omega arith;
}

tables_themselves : (kept : Kept) (from k : ℕ) (tables : List (List ℕ))
    → TablesAlike kept from k tables k tables
tables_themselves kept from k [] = tt
tables_themselves kept from k (n ∷ tables) =
    (alike_itself from (table_in kept k n), tables_themselves kept from k tables)

pub pieces_themselves : (kept : Kept) (from k : ℕ) (ps : List PlainPiece)
    → PiecesAlike kept from k ps k ps
pieces_themselves kept from k [] = tt
pieces_themselves kept from k (p ∷ ps) = (
  record { atoms = tables_themselves kept from k p.atoms; cond = refl; outs = refl },
  pieces_themselves kept from k ps,
)

-- two tables of one lifeline are alike
pub alike_shared : (from : ℕ) (a b : Option Store) → a ≡ b → AreAlike from a b
alike_shared from a b e = subst (λ (o : Option Store). AreAlike from a o) e (alike_itself from a)

-- two stored tables with the same columns, the same rows from a moment on, and no more of the
-- second
pub alike_stored : (from : ℕ) (a b : Store) → a.columns ≡ b.columns
    → ((m : ℕ) → from ≤ m → m < forever → relation_at a m ≡ relation_at b m)
    → ((names : List (List ℕ)) → reads b names ≤ reads a names) → AreAlike from (Some a) (Some b)
alike_stored from a b c r n = record { columns = c; rows = r; reads = n }

-- ---- how much is stored of two tables

count_least : (name : List ℕ) (columns : List Column) (xs ys : List (List Cell))
    → length xs ≡ length ys → ((i : ℕ) → i < length xs
    → length (get_or ys i []) ≤ length (get_or xs i []))
    → count_in (named name columns ys) ≤ count_in (named name columns xs)
count_least name [] xs ys e h = omega arith
count_least name (c ∷ columns) [] [] e h = omega arith
count_least name (c ∷ columns) [] (y ∷ ys) e h = absurd (omega (arith, e))
count_least name (c ∷ columns) (x ∷ xs) [] e h = absurd (omega (arith, e))
count_least name (c ∷ columns) (x ∷ xs) (y ∷ ys) e h =
    step (is_eq (bytes_cmp c.0 name)) (h 0 (omega arith))
    (count_least name columns xs ys (omega (arith, e)) (λ i l. h (suc i) (omega (arith, l))))
  where
    step : (b : Bool) → length y ≤ length x
        → count_in (named name columns ys) ≤ count_in (named name columns xs)
        → count_in (if b then Some y else named name columns ys)
        ≤ count_in (if b then Some x else named name columns xs)
    step true l r = l
    step false l r = r

entries_least : (a b : Store) → a.columns ≡ b.columns → length a.cells ≡ length b.cells
    → ((i : ℕ) → i < length a.cells → length (get_or b.cells i []) ≤ length (get_or a.cells i []))
    → (names : List (List ℕ)) → entries_in b names ≤ entries_in a names
entries_least a b c e h [] = omega arith
entries_least a b c e h (name ∷ names) =
    let more = entries_least a b c e h names in
    let first : count_in (column_of b name) ≤ count_in (column_of a name) =
    subst (λ (cs : List Column). count_in (named name cs b.cells) ≤ count_in (column_of a name)) c
    (count_least name a.columns a.cells b.cells e h) in
    omega (arith, first, more)

pub reads_least : (a b : Store) → a.columns ≡ b.columns → length b.keys ≤ length a.keys
    → length a.cells ≡ length b.cells
    → ((i : ℕ) → i < length a.cells → length (get_or b.cells i []) ≤ length (get_or a.cells i []))
    → (names : List (List ℕ)) → reads b names ≤ reads a names
reads_least a b c k e h names =
    let more = entries_least a b c e h names in omega (arith, k, more)

-- ---- the pieces of a part that goes on

-- what they mean at the moments of the part
pub goes_mean : (kept : Kept) (first x : PartPieces) → GoesOn kept first x → (m : ℕ)
    → covers x.part.0 m ≡ true → m < forever
    → MeanAlike kept first.part.1 (shown_pieces first.pieces.items) x.part.1
    (shown_pieces x.pieces.items) m
goes_mean kept first x h m c t =
    let inside = (covers_is x.part.0 m).0 c in
    pieces_mean kept x.part.0.start first.part.1 x.part.1 (shown_pieces first.pieces.items)
    (shown_pieces x.pieces.items) m inside.0 t h

-- and what is read for them
pub goes_reads : (kept : Kept) (first x : PartPieces) → GoesOn kept first x
    → part_read kept x ≤ part_read kept first
goes_reads kept first x h = reads_alike kept x.part.0.start first.part.1 x.part.1
    (shown_pieces first.pieces.items) (shown_pieces x.pieces.items) h

-- what one of the pieces means at a moment, and the piece that it is alike to at the version in
-- force
mean_count : (kept : Kept) (k j m : ℕ) (ps qs : List PlainPiece) → MeanAlike kept k ps j qs m
    → length qs ≡ length ps
mean_count kept k j m [] [] h = refl
mean_count kept k j m [] (q ∷ qs) h = absurd h
mean_count kept k j m (p ∷ ps) [] h = absurd h
mean_count kept k j m (p ∷ ps) (q ∷ qs) h = ap suc (mean_count kept k j m ps qs h.1)

pub all_alike : (kept : Kept) (k j m : ℕ) (pieces : List Piece) (qs : List PlainPiece) (i : ℕ)
    → MeanAlike kept k (shown_pieces pieces) j qs m → length pieces ≤ i → take i qs ≡ qs
all_alike kept k j m pieces qs i h l =
    let n = mean_count kept k j m (shown_pieces pieces) qs h in
    let e = length-map pieces piece_of in
    take_all i qs (omega (arith, n, e, l))

pub next_alike : (kept : Kept) (k j m : ℕ) (pieces : List Piece) (qs : List PlainPiece) (i : ℕ)
    (p : Piece) → MeanAlike kept k (shown_pieces pieces) j qs m → i < length pieces
    → p ≡ get_or pieces i p → (q : PlainPiece) × (take (i + 1) qs ≡ take i qs ++ q ∷ [])
    × (stored_meaning kept k (piece_of p) m ≡ stored_meaning kept j q m) × In q qs
next_alike kept k j m [] qs i p h l is = absurd (omega arith)
next_alike kept k j m (x ∷ pieces) [] i p h l is = absurd h
next_alike kept k j m (x ∷ pieces) (q ∷ qs) zero p h l is = (
  q,
  refl,
  subst (λ (y : Piece). stored_meaning kept k (piece_of y) m ≡ stored_meaning kept j q m) (sym is)
      h.0,
  inl refl,
)
next_alike kept k j m (x ∷ pieces) (q ∷ qs) (suc i) p h l is =
    let r = next_alike kept k j m pieces qs i p h.1 (omega (arith, l)) is in
    let one : suc i + 1 ≡ suc (i + 1) = omega arith in (
      r.0,
      ap (λ (n : ℕ). take n (q ∷ qs)) one ∙ ap (λ (xs : List PlainPiece). q ∷ xs) r.1,
      r.2,
      inr r.3,
    )

-- what is stored of a piece that is alike to one at the version in force means what that means
pub piece_meant : (kept : Kept) (past : Past) → Represents kept past
    → (k : ℕ) (ps : List PlainPiece) (m : ℕ) (rows : Relation) (h : IsMeant kept past k ps m rows)
    (meaning : Relation) (q : PlainPiece) → meaning ≡ stored_meaning kept h.version q m
    → In q h.pieces → meaning ≡ means (tables_of past h.version) (database_at past m) q
piece_meant kept past represents k ps m rows h meaning q e among =
    e ∙ meaning_shown kept past h.version represents h.there q m h.force (h.typed q among).there

-- ---- a run that goes on

pub none_more : (kept : Kept) (first : PartPieces) → first.part.0.end ≤ forever
    → IsRun kept first [] first.part.0
none_more kept first ends = record {
  each = λ x m. absurd m;
  within = λ m c. (first.part.0, inl refl, c);
  all = λ m h. alone m h.0 h.1 h.2;
  ends = ends;
}
  where
    alone : (m : ℕ) (s : Span) → In s (first.part.0 ∷ []) → covers s m ≡ true
        → covers first.part.0 m ≡ true
    alone m s (inl e) c = subst (λ (t : Span). covers t m ≡ true) (sym e) c
    alone m s (inr k) c = absurd k

module _ (kept : Kept) (first : PartPieces) (more : List PartPieces) (period : Span)
    (x : PartPieces) (both : Span) (run : IsRun kept first more period) (goes : GoesOn kept first x)
    (meet : Meet period x.part.0 both) where
  spans_on : planned_spans (first ∷ (more ++ x ∷ [])) ≡ planned_spans (first ∷ more) ++ x.part.0
      ∷ []
  spans_on = ap (λ (spans : List Span). first.part.0 ∷ spans)
      (map-append (λ (y : PartPieces). y.part.0) more (x ∷ []))

  each_on : (y : PartPieces) → In y more ⊎ In y (x ∷ []) → GoesOn kept first y
  each_on y (inl k) = run.each y k
  each_on y (inr (inl e)) = subst (GoesOn kept first) e goes
  each_on y (inr (inr k)) = absurd k

  within_on : (m : ℕ) → covers both m ≡ true → (m < period.end) ⊎ (period.end ≤ m)
      → HasMoment (planned_spans (first ∷ more) ++ x.part.0 ∷ []) m
  within_on m c (inl l) =
      let b = (covers_is both m).0 c in
      let begins = meet.begins in
      let h = run.within m ((covers_is period m).1 (omega (arith, begins, b.0), l)) in
      (h.0, in_left h.0 (planned_spans (first ∷ more)) (x.part.0 ∷ []) h.1, h.2)
  within_on m c (inr l) =
      let b = (covers_is both m).0 c in
      let meets = meet.meets in
      let ends = meet.ends in (
        x.part.0,
        in_right x.part.0 (planned_spans (first ∷ more)) (x.part.0 ∷ []) (inl refl),
        (covers_is x.part.0 m).1 (omega (arith, meets, l), omega (arith, ends, b.1)),
      )

  all_on : (m : ℕ) (s : Span) → covers s m ≡ true → In s (planned_spans (first ∷ more))
      ⊎ In s (x.part.0 ∷ []) → covers both m ≡ true
  all_on m s c (inl k) =
      let a = (covers_is period m).0 (run.all m (s, k, c)) in
      let begins = meet.begins in
      let meets = meet.meets in
      let ends = meet.ends in
      let some = meet.second in
      (covers_is both m).1 (omega (arith, begins, a.0), omega (arith, a.1, meets, ends, some))
  all_on m s c (inr (inl e)) =
      let a = (covers_is x.part.0 m).0 (subst (λ (t : Span). covers t m ≡ true) (sym e) c) in
      let begins = meet.begins in
      let meets = meet.meets in
      let ends = meet.ends in
      let some = meet.first in
      (covers_is both m).1 (omega (arith, begins, meets, some, a.0), omega (arith, a.1, ends))
  all_on m s c (inr (inr k)) = absurd k

  pub one_more : IsRun kept first (more ++ x ∷ []) both
  one_more = record {
    each = λ y m. each_on y (in_append y more (x ∷ []) m);
    within = λ m c. subst (λ (spans : List Span). HasMoment spans m) (sym spans_on)
        (within_on m c (cases_lt m period.end));
    all = λ m h. all_on m h.0 h.2 (in_append h.0 (planned_spans (first ∷ more)) (x.part.0 ∷ [])
        (subst (λ (spans : List Span). In h.0 spans) spans_on h.1));
    ends = meet.last;
  }

-- ---- what a run is read for

module _ (kept : Kept) (first : PartPieces) (more : List PartPieces) (period : Span)
    (run : IsRun kept first more period) where
  -- each of its parts goes on from the first, as the first does
  goes : (x : PartPieces) → In x (first ∷ more) → GoesOn kept first x
  goes x (inl e) = subst (GoesOn kept first) e (pieces_themselves kept first.part.0.start
      first.part.1 (shown_pieces first.pieces.items))
  goes x (inr k) = run.each x k

  pub run_reads : (x : PartPieces) → In x (first ∷ more) → part_read kept x ≤ part_read kept first
  run_reads x m = goes_reads kept first x (goes x m)

  in_time : (m : ℕ) → covers period m ≡ true → m < forever
  in_time m c =
      let inside = (covers_is period m).0 c in
      let ends = run.ends in
      omega (arith, inside.1, ends)

  -- at each moment of it the pieces mean what those of the part in which the moment lies mean there
  pub run_meant : (past : Past) → Represents kept past → (relation : ℕ → Relation)
      → ((x : PartPieces) → In x (first ∷ more) → IsOwn (versions_in kept) x.part
      × AllTyped (tables_of past x.part.1) (shown_pieces x.pieces.items))
      → ((x : PartPieces) → In x (first ∷ more) → (m : ℕ) → covers x.part.0 m ≡ true
      → all_mean (tables_of past x.part.1) (database_at past m) (shown_pieces x.pieces.items)
      ≡ relation m)
      → (m : ℕ) → covers period m ≡ true → IsMeant kept past first.part.1
      (shown_pieces first.pieces.items) m (relation m)
  run_meant past represents relation own means m c =
      let s = run.within m c in
      let x = from_map (λ (y : PartPieces). y.part.0) s.0 (first ∷ more) s.1 in
      let inside : covers x.0.part.0 m ≡ true =
      subst (λ (t : Span). covers t m ≡ true) (sym x.2) s.2 in
      record {
        version = x.0.part.1;
        there = within_there kept past represents x.0.part (own x.0 x.1).0;
        force = subst (λ (vs : List PlainVersion). IsInForce vs x.0.part.1 m) represents.versions
            ((own x.0 x.1).0.moments m inside);
        pieces = shown_pieces x.0.pieces.items;
        alike = goes_mean kept first x.0 (goes x.0 x.1) m inside (in_time m c);
        typed = (own x.0 x.1).1;
        means = means x.0 x.1 m inside;
      }

  -- what is plain in the rows of each of its parts is so in those of the run
  pub run_plain : (which : BorrowedValues) (columns : List AtomColumn)
      → ((x : PartPieces) → In x (first ∷ more)
      → AllPlainIn kept x.part.1 x.part.0 which columns (shown_pieces x.pieces.items))
      → AllPlainIn kept first.part.1 period which columns (shown_pieces first.pieces.items)
  run_plain which columns h p i m c row j =
      let s = run.within m c in
      let x = from_map (λ (y : PartPieces). y.part.0) s.0 (first ∷ more) s.1 in
      let inside : covers x.0.part.0 m ≡ true =
      subst (λ (t : Span). covers t m ≡ true) (sym x.2) s.2 in
      let from = x.0.part.0.start in
      let low : from ≤ m = ((covers_is x.0.part.0 m).0 inside).0 in
      let q = partner kept from first.part.1 x.0.part.1 (shown_pieces first.pieces.items)
      (shown_pieces x.0.pieces.items) (goes x.0 x.1) p i in
      subst (λ (outs : List (List ℕ × Tree)). ArePlainIn which columns (out_trees outs) row)
      (sym q.2.outs)
      (h x.0 x.1 q.0 q.1 m inside row
      (subst (λ (r : Relation). In row r)
      (meaning_alike kept from first.part.1 x.0.part.1 p q.0 m low (in_time m c) q.2) j))

-- ---- the runs of a plan, one after the other

in_taken : {X : Type 0} (n : ℕ) (xs : List X) (x : X) → In x (take n xs) → In x xs
in_taken n xs x m = subst (λ ys. In x ys) (take-append-drop n xs)
    (in_left x (take n xs) (drop n xs) m)

module _ (plan : List PartPieces) (i n : ℕ) (first : PartPieces) (l : i < length plan)
    (is : first ≡ get_or plan i first) where
  abbrev more : List PartPieces
  more = take n (drop (i + 1) plan)

  pub taken_run : take (i + (1 + n)) plan ≡ take i plan ++ first ∷ more
  taken_run =
      let one : 1 + n ≡ suc n = omega arith in
      take-add i (1 + n) plan ∙ ap (λ (xs : List PartPieces). take i plan ++ take (1 + n) xs)
      (left_is plan i first l is) ∙ ap (λ (k : ℕ).
      take i plan ++ take k (first ∷ drop (i + 1) plan)) one

  pub among_plan : (x : PartPieces) → In x (first ∷ more) → In x plan
  among_plan x (inl e) = subst (λ (y : PartPieces). In y plan) e (among_taken plan i first l is)
  among_plan x (inr k) =
      subst (λ (ys : List PartPieces). In x ys) (take-append-drop i plan)
      (in_right x (take i plan) (drop i plan)
      (subst (λ (ys : List PartPieces). In x ys) (sym (left_is plan i first l is))
      (inr (in_taken n (drop (i + 1) plan) x k))))

  -- what is gathered
  pub run_gathered : (kept : Kept) (relation : ℕ → Relation) (period : Span)
      (entries : List (Entry Row)) → IsRun kept first more period
      → IsGathered relation (planned_spans (take i plan) ++ period ∷ []) entries
      → IsGathered relation (planned_spans (take (i + (1 + n)) plan)) entries
  run_gathered kept relation period entries run g = record {
    only = g.only;
    all = λ s m x t c k. step s (in_append s (planned_spans (take i plan))
        (planned_spans (first ∷ more)) (subst (λ (spans : List Span). In s spans) spans m)) x t c k;
  }
    where
      spans : planned_spans (take (i + (1 + n)) plan) ≡ planned_spans (take i plan)
          ++ planned_spans (first ∷ more)
      spans = ap planned_spans taken_run ∙ map-append (λ (y : PartPieces). y.part.0) (take i plan)
          (first ∷ more)

      step : (s : Span) → In s (planned_spans (take i plan)) ⊎ In s (planned_spans (first ∷ more))
          → (x : Row) (t : ℕ) → covers s t ≡ true → In x (relation t) → In x (at row_cmp entries t)
      step s (inl m) x t c k = g.all s (in_left s (planned_spans (take i plan)) (period ∷ []) m) x t
          c k
      step s (inr m) x t c k = g.all period (in_right period (planned_spans (take i plan))
          (period ∷ []) (inl refl)) x t (run.all t (s, m, c)) k

  -- what was read is at most what there is for the parts
  pub run_cost : (kept : Kept) (old now new here : ℕ)
      → now ≤ old + total (part_read kept) (take i plan) → new ≤ now + here
      → here ≡ part_read kept first
      → new ≤ old + total (part_read kept) (take (i + (1 + n)) plan)
  run_cost kept old now new here a b e =
      let s : total (part_read kept) (take (i + (1 + n)) plan)
      ≡ total (part_read kept) (take i plan) + total (part_read kept) (first ∷ more) =
      ap (total (part_read kept)) taken_run ∙ total_joined (part_read kept) (take i plan)
      (first ∷ more) in
      omega (arith, s, a, b, e)

  pub run_within : (kept : Kept) (old now new here : ℕ)
      → now ≤ old + total (part_read kept) (take i plan) → new ≤ now + here
      → here ≡ part_read kept first → new ≤ old + total (part_read kept) plan
  run_within kept old now new here a b e =
      let h = run_cost kept old now new here a b e in
      let s : total (part_read kept) (take (i + (1 + n)) plan) + total (part_read kept)
      (drop (i + (1 + n)) plan) ≡ total (part_read kept) plan =
      sym (total_joined (part_read kept) (take (i + (1 + n)) plan) (drop (i + (1 + n)) plan))
      ∙ ap (total (part_read kept)) (take-append-drop (i + (1 + n)) plan) in
      omega (arith, s, h)

  -- and at least what there is for each
  pub run_least : (kept : Kept) (old now new here : ℕ) (period : Span)
      → IsRun kept first more period → ((x : PartPieces) → In x (take i plan)
      → old + part_read kept x ≤ now) → old ≤ now
      → new ≡ now + here → here ≡ part_read kept first → (x : PartPieces)
      → In x (take (i + (1 + n)) plan) → old + part_read kept x ≤ new
  run_least kept old now new here period run before a e h x m =
      step (in_append x (take i plan) (first ∷ more)
      (subst (λ (ys : List PartPieces). In x ys) taken_run m))
    where
      step : In x (take i plan) ⊎ In x (first ∷ more) → old + part_read kept x ≤ new
      step (inl k) = (let b = before x k in omega (arith, b, e))
      step (inr k) = (let b = run_reads kept first more period run x k in omega (arith, b, a, e, h))
