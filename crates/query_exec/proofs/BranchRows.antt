-- What branches answer, one after the other.
use Rattle.std.proofs.Common.{◌≡◌, ◌+◌, ◌<◌, ◌≤◌, ℕ, List, [], ◌∷◌, ◌++◌, length, get_or, take}
use Rattle.std.proofs.Common.{drop, refl, sym, ap, subst, ◌∙◌, inl, inr, append-nil, append_assoc}
use Rattle.std.proofs.Common.{arith}
use Rattle.std.specs.Prelude.{◌⊎◌}
use Rattle.std.specs.List.{flat_map}
use Rattle.std.proofs.lemmas.List.{map-append, length-map, length-take-le}
use Rattle.relations_spec.specs.Sets.{In, set_of}
use Rattle.relations_spec.specs.Timed.{Entry, at}
use Rattle.relations_spec.proofs.SetLaws.{in_left, in_right, in_append, in_set, from_set}
use Rattle.relations_spec.proofs.SetLaws.{in_flat_map}
use Rattle.relations_spec.proofs.SetLaws.{from_flat_map, one_list, set_ascends}
use Rattle.relations_spec.proofs.Held.{in_at, at_ascends}
use Rattle.prima_base.specs.declared.timed_row.TimedRow.{TimedRow}
use Rattle.prima_base.specs.Order.{row_cmp}
use Rattle.prima_base.specs.OrderLaws.{row_exact}
use Rattle.prima_base.specs.Timed.{entries_of, rows_at}
use Rattle.schema_catalog.specs.Tables.{Tables}
use Rattle.schema_catalog.specs.Databases.{Database}
use Rattle.smo_ops_types.specs.Commands.{PlainVersion}
use Rattle.smo_ops_spec.specs.OneRow.{Row, Relation}
use Rattle.plain_answers_spec.specs.Branches.{PlainBranch, branch_answers, plain}
use Rattle.plain_answers_spec.specs.Pushing.{pushed_reads}
use Rattle.plain_answers_spec.specs.Reading.{answers_read}
use Rattle.plain_answers_spec.proofs.ReadLaws.{same_plain}
use Rattle.plain_answers_spec.proofs.PushedParts.{is_pushed}
use Rattle.temporal_lang_types.specs.Branches.{branch_of, branches_of}
use Rattle.temporal_lang_types.specs.declared.branch.Branch.{Branch}
use Rattle.query_pieces_spec.proofs.Gatherings.{of_either, of_first, of_second}
use Rattle.piece_ir_spec.specs.Rules.{Book}
use Rattle.piece_ir.specs.ExplainedPieces.{PlainExplained}
use Rattle.period_split.specs.Splitting.{Part}
use Rattle.query_exec.specs.declared.route.Route.{Route}
use Rattle.query_exec.specs.Accepted.{MayBranch, MayBranches}
use Rattle.query_exec.specs.QueryPieces.{branch_pieces, branches_pieces, alive_of}
use Rattle.query_exec.specs.Reads.{explained_read, reads_of}
use Rattle.query_exec.proofs.AliveLaws.{Owes, owes_less, IsLeftOrRead, left_less}
use Rattle.version_groups.specs.Groups.{Kept}
use Rattle.query_exec.proofs.ListSteps.{left_is, taken_is}
use Rattle.query_exec.proofs.PieceRows.{joined_entries}

-- over what is read of its tables a branch answers what it answers over the whole ones
pub pushed_answers : (tables : Tables) (db : Database) (b : PlainBranch)
    → set_of row_cmp (answers_read tables db pushed_reads b)
    ≡ set_of row_cmp (branch_answers tables db b)
pushed_answers tables db b =
    ap (λ (rows : List Row). set_of row_cmp rows)
    (sym (append-nil (answers_read tables db pushed_reads b)))
    ∙ same_plain tables db (b ∷ []) pushed_reads (λ x k. is_pushed x)
    ∙ ap (λ (rows : List Row). set_of row_cmp rows) (append-nil (branch_answers tables db b))

-- ---- entries of several answers

module _ {X : Type 0} (f : X → List Row) where
  pub none_answered : (m : ℕ) → at row_cmp [] m ≡ set_of row_cmp (flat_map f [])
  none_answered m =
      one_list row_cmp row_exact (at row_cmp [] m) (set_of row_cmp (flat_map f []))
      (at_ascends row_cmp row_exact [] m) (set_ascends row_cmp row_exact []) (record {
        there = λ x k. absurd ((in_at row_cmp row_exact [] x m).0 k).1;
        back = λ x k. absurd (from_set row_cmp row_exact x [] k);
      })

  pub more_answered : (xs : List X) (x : X) (a b : List (Entry Row)) (m : ℕ)
      → at row_cmp a m ≡ set_of row_cmp (flat_map f xs) → at row_cmp b m ≡ set_of row_cmp (f x)
      → at row_cmp (a ++ b) m ≡ set_of row_cmp (flat_map f (xs ++ x ∷ []))
  more_answered xs x a b m e g =
      one_list row_cmp row_exact (at row_cmp (a ++ b) m)
      (set_of row_cmp (flat_map f (xs ++ x ∷ []))) (at_ascends row_cmp row_exact (a ++ b) m)
      (set_ascends row_cmp row_exact (flat_map f (xs ++ x ∷ []))) (record {
        there = λ y k. in_set row_cmp row_exact y (flat_map f (xs ++ x ∷ []))
            (there y (of_either a b y m k));
        back = λ y k. (let h = from_flat_map f y (xs ++ x ∷ [])
            (from_set row_cmp row_exact y (flat_map f (xs ++ x ∷ [])) k) in
            back y h.0 h.2 (in_append h.0 xs (x ∷ []) h.1));
      })
    where
      there : (y : Row) → In y (at row_cmp a m) ⊎ In y (at row_cmp b m)
          → In y (flat_map f (xs ++ x ∷ []))
      there y (inl k) =
          let h = from_flat_map f y xs (from_set row_cmp row_exact y (flat_map f xs)
          (subst (λ (r : Relation). In y r) e k)) in
          in_flat_map f h.0 y (xs ++ x ∷ []) (in_left h.0 xs (x ∷ []) h.1) h.2
      there y (inr k) = in_flat_map f x y (xs ++ x ∷ []) (in_right x xs (x ∷ []) (inl refl))
          (from_set row_cmp row_exact y (f x) (subst (λ (r : Relation). In y r) g k))

      back : (y : Row) (z : X) → In y (f z) → In z xs ⊎ In z (x ∷ []) → In y (at row_cmp (a ++ b) m)
      back y z i (inl k) = of_first a b y m (subst (λ (r : Relation). In y r) (sym e)
          (in_set row_cmp row_exact y (flat_map f xs) (in_flat_map f z y xs k i)))
      back y z i (inr (inl s)) =
          of_second a b y m (subst (λ (r : Relation). In y r) (sym g)
          (in_set row_cmp row_exact y (f x) (subst (λ (w : X). In y (f w)) (sym s) i)))
      back y z i (inr (inr k)) = absurd k

-- the pieces of one branch more
branches_last : (book : Book) (versions : List PlainVersion) (q : ℕ) (parts : List Part) (n : ℕ)
    (bs : List PlainBranch) (b : PlainBranch)
    → branches_pieces book versions q parts n (bs ++ b ∷ [])
    ≡ branches_pieces book versions q parts n bs
    ++ branch_pieces book versions q parts (n + length bs) b
branches_last book versions q parts n [] b =
    let e : n ≡ n + 0 = omega arith in
    append-nil (branch_pieces book versions q parts n b)
    ∙ ap (λ (k : ℕ). branch_pieces book versions q parts k b) e
branches_last book versions q parts n (c ∷ bs) b =
    let e : (n + 1) + length bs ≡ n + length (c ∷ bs) = omega arith in
    ap (λ (es : List PlainExplained). branch_pieces book versions q parts n c ++ es)
    (branches_last book versions q parts (n + 1) bs b)
    ∙ sym (append_assoc (branch_pieces book versions q parts n c)
    (branches_pieces book versions q parts (n + 1) bs)
    (branch_pieces book versions q parts ((n + 1) + length bs) b))
    ∙ ap (λ (k : ℕ). branches_pieces book versions q parts n (c ∷ bs)
    ++ branch_pieces book versions q parts k b) e

module _ (branches : List Branch) (i : ℕ) (b : Branch) (l : i < length branches)
    (is : b ≡ get_or branches i b) where
  taken_branches : branches_of (take (i + 1) branches) ≡ branches_of (take i branches)
      ++ branch_of b ∷ []
  taken_branches = ap branches_of (taken_is branches i b l is)
      ∙ map-append branch_of (take i branches) (b ∷ [])

  -- the rows of one branch more
  pub next_branch : (tables : Tables) (db : Database) (old news new : List TimedRow) (m : ℕ)
      → new ≡ old ++ news → rows_at old m ≡ plain tables (branches_of (take i branches)) db
      → rows_at news m ≡ set_of row_cmp (branch_answers tables db (branch_of b))
      → rows_at new m ≡ plain tables (branches_of (take (i + 1) branches)) db
  next_branch tables db old news new m e f g =
      ap (λ (es : List (Entry Row)). at row_cmp es m) (joined_entries old news new e)
      ∙ more_answered (branch_answers tables db) (branches_of (take i branches)) (branch_of b)
      (entries_of old) (entries_of news) m f g
      ∙ ap (λ (bs : List PlainBranch). plain tables bs db) (sym taken_branches)

  pub branches_left : (book : Book) (versions : List PlainVersion) (q : ℕ) (parts : List Part)
      (n : ℕ)
      → branches_pieces book versions q parts n (branches_of (drop i branches))
      ≡ branch_pieces book versions q parts n (branch_of b)
      ++ branches_pieces book versions q parts (n + 1) (branches_of (drop (i + 1) branches))
  branches_left book versions q parts n = ap (λ (bs : List Branch).
      branches_pieces book versions q parts n (branches_of bs)) (left_is branches i b l is)

  pub branch_owes : (kept : Kept) (book : Book) (versions : List PlainVersion) (q : ℕ)
      (parts : List Part) (number : ℕ) (steps all new : ℕ)
      → Owes kept (branches_pieces book versions q parts (number + i)
      (branches_of (drop i branches))) steps all
      → new ≤ steps + reads_of kept (alive_of (branch_pieces book versions q parts (number + i)
      (branch_of b)))
      → Owes kept (branches_pieces book versions q parts (number + (i + 1))
      (branches_of (drop (i + 1) branches))) new all
  branch_owes kept book versions q parts number steps all new o h =
      let e : (number + i) + 1 ≡ number + (i + 1) = omega arith in
      subst (λ (n : ℕ). Owes kept (branches_pieces book versions q parts n
      (branches_of (drop (i + 1) branches))) new all) e
      (owes_less kept (branch_pieces book versions q parts (number + i) (branch_of b))
      (branches_pieces book versions q parts ((number + i) + 1)
      (branches_of (drop (i + 1) branches))) steps all new
      (subst (λ (es : List PlainExplained). Owes kept es steps all)
      (branches_left book versions q parts (number + i)) o) h)

  pub branch_left : (kept : Kept) (book : Book) (versions : List PlainVersion) (q : ℕ)
      (parts : List Part) (number : ℕ) (first steps new : ℕ) (e : PlainExplained) → first ≤ steps
      → steps ≤ new
      → IsLeftOrRead kept (branches_pieces book versions q parts (number + i)
      (branches_of (drop i branches))) first steps e
      → (In e (alive_of (branch_pieces book versions q parts (number + i) (branch_of b)))
      → steps + explained_read kept e ≤ new)
      → IsLeftOrRead kept (branches_pieces book versions q parts (number + (i + 1))
      (branches_of (drop (i + 1) branches))) first new e
  branch_left kept book versions q parts number first steps new e x y o h =
      let s : (number + i) + 1 ≡ number + (i + 1) = omega arith in
      subst (λ (n : ℕ). IsLeftOrRead kept
      (branches_pieces book versions q parts n (branches_of (drop (i + 1) branches))) first new
      e) s
      (left_less kept (branch_pieces book versions q parts (number + i) (branch_of b))
      (branches_pieces book versions q parts ((number + i) + 1)
      (branches_of (drop (i + 1) branches))) first steps new e x y
      (subst (λ (es : List PlainExplained). IsLeftOrRead kept es first steps e)
      (branches_left book versions q parts (number + i)) o) h)

  pub branches_more : (book : Book) (versions : List PlainVersion) (q : ℕ) (parts : List Part)
      → branches_pieces book versions q parts 1 (branches_of (take (i + 1) branches))
      ≡ branches_pieces book versions q parts 1 (branches_of (take i branches))
      ++ branch_pieces book versions q parts (i + 1) (branch_of b)
  branches_more book versions q parts =
      let many : length (take i branches) ≡ i = length-take-le i branches (omega (arith, l)) in
      let mapped : length (branches_of (take i branches)) ≡ length (take i branches) =
      length-map (take i branches) branch_of in
      let place : 1 + length (branches_of (take i branches)) ≡ i + 1 =
      omega (arith, many, mapped) in
      ap (branches_pieces book versions q parts 1) taken_branches
      ∙ branches_last book versions q parts 1 (branches_of (take i branches)) (branch_of b)
      ∙ ap (λ (n : ℕ). branches_pieces book versions q parts 1 (branches_of (take i branches))
      ++ branch_pieces book versions q parts n (branch_of b)) place

  pub may_next_branch : (versions : List PlainVersion) (route : Route)
      → MayBranches versions route (branches_of (drop i branches))
      → MayBranch versions route (branch_of b)
      × MayBranches versions route (branches_of (drop (i + 1) branches))
  may_next_branch versions route h = subst (λ (bs : List Branch).
      MayBranches versions route (branches_of bs)) (left_is branches i b l is) h
