-- The pieces that are told of a query mean what is asked of its items' tables.
use Rattle.std.proofs.Common.{◌≡◌, ◌+◌, ℕ, List, [], ◌∷◌, map, refl, sym, ap, subst, ◌∙◌}
use Rattle.std.proofs.Common.{inl, inr}
use Rattle.std.specs.Prelude.{None}
use Rattle.std.specs.FinMap.{get}
use Rattle.relations_spec.specs.Sets.{In}
use Rattle.relations_spec.proofs.SetLaws.{from_map}
use Rattle.cond_expr.specs.Trees.{Tree, Test}
use Rattle.smo_ops_types.specs.Commands.{PlainVersion}
use Rattle.smo_ops_spec.specs.ValidPast.{IsPast}
use Rattle.smo_ops_spec.specs.ValidValues.{PastHolds}
use Rattle.smo_ops_spec.specs.Past.{Past, no_tables, tables_from, tables_of}
use Rattle.smo_ops_versions_spec.specs.LostTables.{lost_tables}
use Rattle.plain_answers_spec.specs.Branches.{Item, PlainBranch}
use Rattle.plain_answers_spec.specs.Naming.{all_references}
use Rattle.plain_answers_spec.specs.Pushing.{pushed_from, pushed_reads}
use Rattle.plain_answers_spec.specs.Reading.{Read}
use Rattle.piece_ir_spec.specs.Pieces.{PlainPiece, all_mean}
use Rattle.piece_ir_spec.specs.Rules.{Book, IsValidBook}
use Rattle.piece_ir_spec.specs.Beginnings.{IsQuestion, first_piece}
use Rattle.piece_ir_spec.specs.Chains.{unfolded_to}
use Rattle.piece_ir_spec.specs.Reading.{AreQuestions, Suffices}
use Rattle.piece_ir_spec.proofs.ReadMoments.{table_means}
use Rattle.piece_prune.specs.DeadPieces.{IsDeadPiece, LeavesLiving, none_left, a_dead_one}
use Rattle.piece_prune.specs.DeadPieces.{a_living_one}
use Rattle.piece_prune.proofs.Pruned.{mean_the_same}
use Rattle.piece_ir.specs.ExplainedPieces.{PlainExplained}
use Rattle.temporal_lang_spec.specs.Accepted.{fault_of_query}
use Rattle.temporal_lang_spec.specs.Atoms.{with_atoms}
use Rattle.temporal_lang_types.specs.Queries.{PlainQuery}
use Rattle.query_pieces_spec.specs.Piecewise.{asked_branches}
use Rattle.query_pieces_spec.proofs.ReadByPieces.{pushed_enough}
use Rattle.period_split.specs.Splitting.{Part}
use Rattle.query_exec.specs.QueryPieces.{explained_in, part_pieces, table_pieces, items_pieces}
use Rattle.query_exec.specs.QueryPieces.{branch_pieces, branches_pieces, AreAlive, none_alive}
use Rattle.query_exec.specs.QueryPieces.{one_dead, one_alive, ArePieces}
use Rattle.query_exec.specs.Questions.{own_read}
use Rattle.query_exec.specs.ToldMeanings.{pieces_alone, AreOfPart, AreOfTable, no_part, a_part}
use Rattle.query_exec.specs.ToldMeanings.{AreOfItems, no_item, an_item, AreOfBranches}
use Rattle.query_exec.specs.ToldMeanings.{no_branch, a_branch, MeanWhatIsAsked}
use Rattle.query_exec.proofs.AliveLaws.{halved}
use Rattle.query_exec.proofs.QueryParts.{asked_parts, NoneLost, none_lost}

-- ---- over the version of one part

module _ (versions : List PlainVersion) (branch atom : ℕ) (p : Part) where
  record LivingOf (ps : List PlainPiece) (es : List PlainExplained) : Type 0 where
    pub living : List PlainPiece
    pub are : LeavesLiving (tables_from no_tables versions p.1) ps living
    pub is : es ≡ map (explained_in branch atom p) living

  more_dead : (x : PlainPiece) (ps : List PlainPiece) (es : List PlainExplained)
      → IsDeadPiece (tables_from no_tables versions p.1) x → LivingOf ps es
      → LivingOf (x ∷ ps) es
  more_dead x ps es d h =
      record { living = h.living; are = a_dead_one x ps h.living d h.are; is = h.is }

  more_living : (x : PlainPiece) (ps : List PlainPiece) (es : List PlainExplained)
      → ¬ IsDeadPiece (tables_from no_tables versions p.1) x → LivingOf ps es
      → LivingOf (x ∷ ps) (explained_in branch atom p x ∷ es)
  more_living x ps es n h =
      record {
        living = x ∷ h.living;
        are = a_living_one x ps h.living n h.are;
        is = ap (λ (zs : List PlainExplained). explained_in branch atom p x ∷ zs) h.is;
      }

  from_alive : (ps : List PlainPiece) (es : List PlainExplained)
      → AreAlive versions (map (explained_in branch atom p) ps) es → LivingOf ps es
  from_alive [] es none_alive = record { living = []; are = none_left; is = refl }
  from_alive (x ∷ ps) es (one_dead e xs alive d h) =
      more_dead x ps alive d (from_alive ps alive h)
  from_alive (x ∷ ps) es (one_alive e xs alive n h) =
      more_living x ps alive n (from_alive ps alive h)

  alone_again : (ps : List PlainPiece) → pieces_alone (map (explained_in branch atom p) ps) ≡ ps
  alone_again [] = refl
  alone_again (x ∷ ps) = ap (λ (zs : List PlainPiece). x ∷ zs) (alone_again ps)

  each_told : (ps : List PlainPiece) (es : List PlainExplained)
      → es ≡ map (explained_in branch atom p) ps → (e : PlainExplained) → In e es
      → e ≡ explained_in branch atom p e.piece
  each_told ps es is e m =
      let f = from_map (explained_in branch atom p) e ps
      (subst (λ (zs : List PlainExplained). In e zs) is m) in
      subst (λ (y : PlainExplained). y ≡ explained_in branch atom p y.piece) f.2 refl

-- ---- of one table, of items, and of branches

module _ (book : Book) (valid : IsValidBook book) (past : Past) (is : IsPast past)
    (holds : PastHolds past) (query : PlainQuery) where
  abbrev q : ℕ
  q = query.version

  abbrev its_parts : List Part
  its_parts = asked_parts past query

  module _ (table : List ℕ) (r : Read) (asked : IsQuestion (tables_of past q) table r)
      (branch atom : ℕ) where
    of_part : (p : Part) → get (lost_tables past.versions p.1 q) table ≡ None
        → (es : List PlainExplained)
        → AreAlive past.versions (part_pieces book past.versions q table r branch atom p) es
        → AreOfPart past.versions q table r branch atom p es
    of_part p none es h =
        let ps = unfolded_to book past.versions p.1 q (first_piece table r ∷ []) in
        let l = from_alive past.versions branch atom p ps es h in
        record {
          each = each_told past.versions branch atom p l.living es l.is;
          mean = λ db v.
              let tables = tables_from no_tables past.versions p.1 in
              ap (λ (xs : List PlainExplained). all_mean tables db (pieces_alone xs)) l.is
              ∙ ap (all_mean tables db) (alone_again past.versions branch atom p l.living)
              ∙ mean_the_same tables db v ps l.living l.are
              ∙ table_means past.versions is.evolved book valid p.1 q table r asked none
              holds.versions db v;
        }

    of_table : (parts : List Part)
        → ((p : Part) → In p parts → get (lost_tables past.versions p.1 q) table ≡ None)
        → (es : List PlainExplained)
        → AreAlive past.versions (table_pieces book past.versions q table r branch atom parts) es
        → AreOfTable past.versions q table r branch atom parts es
    of_table [] none es none_alive = no_part
    of_table (p ∷ parts) none es h =
        let hs = halved past.versions (part_pieces book past.versions q table r branch atom p)
        (table_pieces book past.versions q table r branch atom parts) es h in
        subst (λ (zs : List PlainExplained).
        AreOfTable past.versions q table r branch atom (p ∷ parts) zs) (sym hs.both)
        (a_part p parts hs.first hs.second (of_part p (none p (inl refl)) hs.first hs.left)
        (of_table parts (λ x m. none x (inr m)) hs.second hs.right))

  of_items : (outs : List Tree) (c : Test) (n i : ℕ) (from : List Item)
      → AreQuestions (tables_of past q) from (pushed_from i from outs c)
      → NoneLost past query from → (es : List PlainExplained)
      → AreAlive past.versions (items_pieces book past.versions q its_parts (all_references outs c)
      c n i from) es
      → AreOfItems past.versions q its_parts (all_references outs c) c n i from es
  of_items outs c n i [] asked none es none_alive = no_item i
  of_items outs c n i (x ∷ from) asked none es h =
      let hs = halved past.versions (table_pieces book past.versions q x.0
      (own_read i (all_references outs c) c) n (i + 1) its_parts)
      (items_pieces book past.versions q its_parts (all_references outs c) c n (i + 1) from) es
      h in
      subst (λ (zs : List PlainExplained). AreOfItems past.versions q its_parts
      (all_references outs c) c n i (x ∷ from) zs) (sym hs.both)
      (an_item i x from hs.first hs.second
      (of_table x.0 (own_read i (all_references outs c) c) asked.0 n (i + 1) its_parts
      (none x (inl refl)) hs.first hs.left)
      (of_items outs c n (i + 1) from asked.1 (λ y m. none y (inr m)) hs.second hs.right))

  of_branches : (n : ℕ) (bs : List PlainBranch)
      → ((b : PlainBranch) → In b bs → Suffices (tables_of past q) (pushed_reads b) b)
      → ((b : PlainBranch) → In b bs → NoneLost past query b.from) → (es : List PlainExplained)
      → AreAlive past.versions (branches_pieces book past.versions q its_parts n bs) es
      → AreOfBranches past.versions q its_parts n bs es
  of_branches n [] enough none es none_alive = no_branch n
  of_branches n (b ∷ bs) enough none es h =
      let hs = halved past.versions (branch_pieces book past.versions q its_parts n b)
      (branches_pieces book past.versions q its_parts (n + 1) bs) es h in
      subst (λ (zs : List PlainExplained). AreOfBranches past.versions q its_parts n (b ∷ bs) zs)
      (sym hs.both)
      (a_branch n b bs hs.first hs.second
      (of_items b.outs b.cond n 0 b.from (enough b (inl refl)).asked (none b (inl refl)) hs.first
      hs.left)
      (of_branches (n + 1) bs (λ x m. enough x (inr m)) (λ x m. none x (inr m)) hs.second
      hs.right))

  pub told_mean : fault_of_query past query ≡ None → (es : List PlainExplained)
      → ArePieces book past.versions (with_atoms (tables_of past q) query) es
      → MeanWhatIsAsked past.versions (with_atoms (tables_of past q) query) es
  told_mean accepted es h =
      of_branches 1 (asked_branches past query) (pushed_enough past query accepted)
      (none_lost past query is accepted) es h
