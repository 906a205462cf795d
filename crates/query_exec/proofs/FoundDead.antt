-- The few values that are tried find the dead pieces of a query whose constants are valid, and no
-- others.
use Rattle.std.proofs.Common.{◌≡◌, ◌+◌, ℕ, Bool, true, false, cond, List, [], ◌∷◌, map, refl}
use Rattle.std.proofs.Common.{sym, ap, subst, ◌∙◌, inl, inr}
use Rattle.std.specs.Prelude.{◌==◌, not, None, if◌then◌else◌}
use Rattle.std.specs.FinMap.{get}
use Rattle.relations_spec.specs.Sets.{In}
use Rattle.relations_spec.proofs.SetLaws.{in_append, from_map, from_flat_map, from_filter}
use Rattle.prima_base.specs.Columns.{IsValid}
use Rattle.schema_catalog.specs.Tables.{Tables}
use Rattle.cond_expr.specs.declared.expr.Whose.{Whose}
use Rattle.cond_expr.specs.declared.expr.Whose.TheVariants.{Free, Alias, Atom}
use Rattle.cond_expr.specs.Trees.{Tree, column, Test, always, fill_test}
use Rattle.cond_expr.specs.Faults.{test_references}
use Rattle.cond_expr.specs.Parts.{parts, Bound}
use Rattle.smo_ops_types.specs.Commands.{PlainVersion}
use Rattle.smo_ops_spec.specs.ValidPast.{IsPast}
use Rattle.smo_ops_spec.specs.Past.{Past, no_tables, tables_from, tables_of}
use Rattle.smo_ops_versions_spec.specs.LostTables.{lost_tables}
use Rattle.plain_answers_spec.specs.Branches.{Item, PlainBranch}
use Rattle.plain_answers_spec.specs.Naming.{all_references}
use Rattle.plain_answers_spec.specs.Pushing.{are_own, own_parts, as_first, pushed_cond, pushed_from}
use Rattle.plain_answers_spec.specs.Pushing.{pushed_reads}
use Rattle.plain_answers_spec.specs.Reading.{Read}
use Rattle.cond_expr_dead.specs.Tried.{HaveValidLimits, is_killed}
use Rattle.cond_expr_dead.proofs.BoundLaws.{IsBound, on_left, on_right, bound_is}
use Rattle.cond_expr_dead.proofs.DeadLaws.{killed_is_dead, dead_is_killed}
use Rattle.piece_ir_spec.specs.Constants.{ValidInTree, ValidInTest, ValidInPiece, ValidInVersions}
use Rattle.piece_ir_spec.specs.Pieces.{PlainPiece}
use Rattle.piece_ir_spec.specs.Rules.{Book, IsValidBook}
use Rattle.piece_ir_spec.specs.Typed.{IsTyped, atom_kinds}
use Rattle.piece_ir_spec.proofs.ValidConstants.{for_atoms_valid, fill_test_valid, part_valid}
use Rattle.piece_ir_spec.proofs.ValidConstants.{tests_valid}
use Rattle.piece_prune.specs.DeadPieces.{IsDeadPiece, lives}
use Rattle.piece_ir.specs.ExplainedPieces.{PlainExplained}
use Rattle.piece_ir_spec.specs.Beginnings.{IsQuestion, first_piece}
use Rattle.piece_ir_spec.specs.Chains.{unfolded_to}
use Rattle.piece_ir_spec.specs.Reading.{AreQuestions, Suffices}
use Rattle.piece_ir_spec.proofs.ReadMoments.{table_typed, table_valid}
use Rattle.temporal_lang_spec.specs.Accepted.{fault_of_query}
use Rattle.temporal_lang_spec.specs.Atoms.{Source, sources_of, to_atoms, branch_with_atoms}
use Rattle.temporal_lang_spec.specs.Atoms.{with_atoms}
use Rattle.temporal_lang_types.specs.Queries.{PlainQuery}
use Rattle.query_pieces_spec.specs.Piecewise.{asked_branches}
use Rattle.query_pieces_spec.proofs.ReadByPieces.{pushed_enough}
use Rattle.period_split.specs.Splitting.{Part}
use Rattle.query_exec.specs.Constants.{ValidInQuery}
use Rattle.query_exec.specs.QueryPieces.{explained_in, part_pieces, table_pieces, items_pieces}
use Rattle.query_exec.specs.QueryPieces.{branch_pieces, branches_pieces, all_pieces, AreAlive}
use Rattle.query_exec.specs.QueryPieces.{none_alive, one_dead, one_alive, ArePieces, alive_of}
use Rattle.query_exec.specs.QueryPieces.{living_pieces}
use Rattle.query_exec.specs.Questions.{own_read}
use Rattle.query_exec.proofs.QueryParts.{asked_parts, NoneLost, none_lost}

-- ---- one piece

limit_valid : (t : Test) (b : Bound) → IsBound t b → ValidInTest t → IsValid b.limit
limit_valid t b (on_left c) h = h.1
limit_valid t b (on_right o i n v) h = h.0

limits_valid : (c : Test) → ValidInTest c → HaveValidLimits (parts c)
limits_valid c h t b m e = limit_valid t b (bound_is t b e)
    (part_valid (always ∷ []) true_valid c t h m)
  where
    true_valid : (d : Test) → In d (always ∷ []) → ValidInTest d
    true_valid d (inl i) = subst ValidInTest i tt
    true_valid d (inr i) = absurd i

from_not : (b : Bool) → not b ≡ false → b ≡ true
from_not true e = refl
from_not false e = absurd (cc)

module _ (tables : Tables) (p : PlainPiece) (typed : IsTyped tables p) where
  dead_found : lives p ≡ false → IsDeadPiece tables p
  dead_found e = killed_is_dead (atom_kinds tables p.atoms) p.cond typed.cond
      (from_not (is_killed p.cond) e)

  none_found : ValidInPiece p → lives p ≡ true → ¬ IsDeadPiece tables p
  none_found h e d =
      let k = dead_is_killed (atom_kinds tables p.atoms) p.cond typed.cond
      (limits_valid p.cond h.cond) d in
      let n : false ≡ true = sym (ap not k) ∙ e in
      cc

-- ---- several pieces, each over its version

module _ (versions : List PlainVersion) where
  -- well-typed, with valid constants
  record IsClear (e : PlainExplained) : Type 0 where
    pub typed : IsTyped (tables_from no_tables versions e.version) e.piece
    pub valid : ValidInPiece e.piece

  abbrev AllClear : List PlainExplained → Type 0
  AllClear es = (e : PlainExplained) → In e es → IsClear e

  all_alive : (es : List PlainExplained) → AllClear es → AreAlive versions es (alive_of es)
  all_alive [] h = none_alive
  all_alive (e ∷ es) h = step (lives e.piece) refl (h e (inl refl))
      (all_alive es (λ x m. h x (inr m)))
    where
      step : (b : Bool) → lives e.piece ≡ b → IsClear e → AreAlive versions es (alive_of es)
          → AreAlive versions (e ∷ es) (cond b (e ∷ alive_of es) (alive_of es))
      step true q c a = one_alive e es (alive_of es)
          (none_found (tables_from no_tables versions e.version) e.piece c.typed c.valid q) a
      step false q c a = one_dead e es (alive_of es)
          (dead_found (tables_from no_tables versions e.version) e.piece c.typed q) a

-- ---- what is pushed

first_valid : (i : ℕ) (w : Whose) (n : List ℕ) → ValidInTree (as_first i w n)
first_valid i = for_atoms_valid (λ j n. if j == i then column (Atom 0) n else column (Atom j) n)
    (λ j n. step (j == i) j n)
  where
    step : (b : Bool) (j : ℕ) (n : List ℕ) → ValidInTree
        (if b then column (Atom 0) n else column (Atom j) n)
    step true j n = tt
    step false j n = tt

pushed_valid : (i : ℕ) (c : Test) → ValidInTest c → ValidInTest (pushed_cond i c)
pushed_valid i c h = tests_valid (map (fill_test (as_first i)) (own_parts i c)) each
  where
    true_valid : (d : Test) → In d (always ∷ []) → ValidInTest d
    true_valid d (inl e) = subst ValidInTest e tt
    true_valid d (inr m) = absurd m

    each : (t : Test) → In t (map (fill_test (as_first i)) (own_parts i c)) → ValidInTest t
    each t m =
        let f = from_map (fill_test (as_first i)) t (own_parts i c) m in
        let g = from_filter (λ d. are_own i (test_references d)) f.0 (parts c) f.1 in
        subst ValidInTest f.2 (fill_test_valid (as_first i) (first_valid i) f.0
        (part_valid (always ∷ []) true_valid c f.0 h g.0))

atoms_valid : (sources : List Source) (w : Whose) (n : List ℕ) → ValidInTree (to_atoms sources w n)
atoms_valid sources Free n = tt
atoms_valid sources (Alias a) n = tt
atoms_valid sources (Atom i) n = tt

-- ---- a query

module _ (book : Book) (valid : IsValidBook book) (past : Past) (is : IsPast past)
    (kept : ValidInVersions past.versions) (query : PlainQuery)
    (accepted : fault_of_query past query ≡ None) (constants : ValidInQuery query) where
  abbrev q : ℕ
  q = query.version

  abbrev its_parts : List Part
  its_parts = asked_parts past query

  table_clear : (table : List ℕ) (r : Read) (branch atom : ℕ)
      → IsQuestion (tables_of past q) table r
      → ((p : Part) → In p its_parts → get (lost_tables past.versions p.1 q) table ≡ None)
      → ValidInTest r.test → AllClear past.versions
      (table_pieces book past.versions q table r branch atom its_parts)
  table_clear table r branch atom asked none h e m =
      let f = from_flat_map (part_pieces book past.versions q table r branch atom) e its_parts m in
      let g = from_map (explained_in branch atom f.0) e
      (unfolded_to book past.versions f.0.1 q (first_piece table r ∷ [])) f.2 in
      subst (IsClear past.versions) g.2 (record {
        typed = table_typed past.versions is.evolved book valid f.0.1 q table r asked (none f.0 f.1)
            g.0 g.1;
        valid = table_valid past.versions is.evolved book valid f.0.1 q table r asked (none f.0 f.1)
            kept h g.0 g.1;
      })

  items_clear : (outs : List Tree) (c : Test) (n i : ℕ) (from : List Item)
      → AreQuestions (tables_of past q) from (pushed_from i from outs c) → NoneLost past query from
      → ValidInTest c
      → AllClear past.versions (items_pieces book past.versions q its_parts (all_references outs c)
      c n i from)
  items_clear outs c n i [] asked none h e m = absurd m
  items_clear outs c n i (x ∷ from) asked none h e m =
      elim (in_append e (table_pieces book past.versions q x.0
      (own_read i (all_references outs c) c) n (i + 1) its_parts)
      (items_pieces book past.versions q its_parts (all_references outs c) c n (i + 1) from) m) [
        | inl k ↦ table_clear x.0 (own_read i (all_references outs c) c) n (i + 1) asked.0
            (none x (inl refl)) (pushed_valid i c h) e k
        | inr k ↦ items_clear outs c n (i + 1) from asked.1 (λ y l. none y (inr l)) h e k
      ]

  branches_clear : (n : ℕ) (bs : List PlainBranch)
      → ((b : PlainBranch) → In b bs → Suffices (tables_of past q) (pushed_reads b) b)
      → ((b : PlainBranch) → In b bs → NoneLost past query b.from)
      → ((b : PlainBranch) → In b bs → ValidInTest b.cond)
      → AllClear past.versions (branches_pieces book past.versions q its_parts n bs)
  branches_clear n [] s none h e m = absurd m
  branches_clear n (b ∷ bs) s none h e m =
      elim (in_append e (branch_pieces book past.versions q its_parts n b)
      (branches_pieces book past.versions q its_parts (n + 1) bs) m) [
        | inl k ↦ items_clear b.outs b.cond n 0 b.from (s b (inl refl)).asked (none b (inl refl))
            (h b (inl refl)) e k
        | inr k ↦ branches_clear (n + 1) bs (λ x l. s x (inr l)) (λ x l. none x (inr l))
            (λ x l. h x (inr l)) e k
      ]

  branch_valid : (b : PlainBranch) → In b (asked_branches past query) → ValidInTest b.cond
  branch_valid b m =
      let f = from_map (branch_with_atoms (tables_of past q)) b query.branches m in
      let s = sources_of (tables_of past q) f.0.from in
      subst (λ (x : PlainBranch). ValidInTest x.cond) f.2
      (fill_test_valid (to_atoms s) (atoms_valid s) f.0.cond (constants f.0 f.1).cond)

  pub are_pieces : ArePieces book past.versions (with_atoms (tables_of past q) query)
      (living_pieces book past.versions (with_atoms (tables_of past q) query))
  are_pieces =
      all_alive past.versions (all_pieces book past.versions (with_atoms (tables_of past q) query))
      (branches_clear 1 (asked_branches past query) (pushed_enough past query accepted)
      (none_lost past query is accepted) branch_valid)
