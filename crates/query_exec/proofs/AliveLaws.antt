-- The pieces that are not dead, of several lists; and what is read for them.
use Rattle.std.proofs.Common.{◌≡◌, ◌+◌, ◌≤◌, ℕ, true, false, cond, List, [], ◌∷◌, ◌++◌, map, refl}
use Rattle.std.proofs.Common.{sym, ap, subst, ◌∙◌, inl, inr, arith}
use Rattle.std.specs.List.{filter}
use Rattle.std.specs.Prelude.{◌⊎◌}
use Rattle.std.proofs.lemmas.List.Elements.{filter-append}
use Rattle.relations_spec.specs.Sets.{In}
use Rattle.relations_spec.proofs.SetLaws.{in_append, from_map, from_flat_map}
use Rattle.smo_ops_types.specs.Commands.{PlainVersion}
use Rattle.smo_ops_spec.specs.Past.{no_tables, tables_from}
use Rattle.plain_answers_spec.specs.Reading.{Read}
use Rattle.version_groups.specs.Groups.{Kept}
use Rattle.piece_ir_spec.specs.Pieces.{PlainPiece}
use Rattle.piece_ir_spec.specs.Rules.{Book}
use Rattle.piece_ir.specs.Shown.{shown_pieces}
use Rattle.piece_prune.specs.DeadPieces.{IsDeadPiece, LeavesLiving, none_left, a_dead_one}
use Rattle.piece_prune.specs.DeadPieces.{a_living_one, lives}
use Rattle.piece_ir.specs.ExplainedPieces.{PlainExplained}
use Rattle.piece_ir_spec.specs.Beginnings.{first_piece}
use Rattle.piece_ir_spec.specs.Chains.{unfolded_to}
use Rattle.period_split.specs.Splitting.{Part}
use Rattle.join_exec.specs.Pieces.{piece_reads}
use Rattle.query_exec.specs.declared.part_piece.PartPieces.{PartPieces}
use Rattle.query_exec.specs.QueryPieces.{explained_in, part_pieces, table_pieces, AreAlive}
use Rattle.query_exec.specs.QueryPieces.{none_alive, one_dead, one_alive, IsAlive, alive_of}
use Rattle.query_exec.specs.QueryPieces.{AreLeft}
use Rattle.query_exec.specs.Planned.{IsPlanned, ArePlanned, own_pieces, planned_pieces}
use Rattle.query_exec.specs.Reads.{pieces_read, part_read, explained_read, reads_of}
use Rattle.query_exec.specs.Totals.{total}
use Rattle.query_exec.proofs.TotalLaws.{total_joined, total_member}

-- those of two lists, one after the other
pub record Halves (versions : List PlainVersion) (xs ys alive : List PlainExplained) : Type 0 where
  pub first : List PlainExplained
  pub second : List PlainExplained
  pub both : alive ≡ first ++ second
  pub left : AreAlive versions xs first
  pub right : AreAlive versions ys second

module _ (versions : List PlainVersion) where
  pub alive_joined : (xs ys first second : List PlainExplained) → AreAlive versions xs first
      → AreAlive versions ys second → AreAlive versions (xs ++ ys) (first ++ second)
  alive_joined xs ys first second none_alive k = k
  alive_joined xs ys first second (one_dead e es alive d h) k =
      one_dead e (es ++ ys) (alive ++ second) d (alive_joined es ys alive second h k)
  alive_joined xs ys first second (one_alive e es alive n h) k =
      one_alive e (es ++ ys) (alive ++ second) n (alive_joined es ys alive second h k)

  more_dead : (e : PlainExplained) (xs ys alive : List PlainExplained)
      → IsDeadPiece (tables_from no_tables versions e.version) e.piece → Halves versions xs ys alive
      → Halves versions (e ∷ xs) ys alive
  more_dead e xs ys alive d h = record {
    first = h.first;
    second = h.second;
    both = h.both;
    left =
        one_dead e xs h.first d h.left;
    right = h.right;
  }

  more_alive : (e : PlainExplained) (xs ys alive : List PlainExplained)
      → ¬ IsDeadPiece (tables_from no_tables versions e.version) e.piece
      → Halves versions xs ys alive
      → Halves versions (e ∷ xs) ys (e ∷ alive)
  more_alive e xs ys alive n h =
      record {
        first = e ∷ h.first;
        second = h.second;
        both =
            ap (λ (es : List PlainExplained). e ∷ es) h.both;
        left = one_alive e xs h.first n h.left;
        right = h.right;
      }

  pub halved : (xs ys alive : List PlainExplained) → AreAlive versions (xs ++ ys) alive
      → Halves versions xs ys alive
  halved [] ys alive h = record {
    first = [];
    second = alive;
    both = refl;
    left = none_alive;
    right = h;
  }
  halved (x ∷ xs) ys alive (one_dead e es rest d h) = more_dead x xs ys rest d (halved xs ys rest h)
  halved (x ∷ xs) ys alive (one_alive e es rest n h) =
      more_alive x xs ys rest n (halved xs ys rest h)

  -- each piece that is not dead is in the list of these
  pub alive_in : (es alive : List PlainExplained) (e : PlainExplained) → AreAlive versions es alive
      → IsAlive versions es e → In e alive
  alive_in es alive e none_alive h = absurd h.among
  alive_in es alive e (one_dead x xs rest d k) h =
      elim h.among [
        | inl is ↦ absurd (h.alive (subst (λ (y : PlainExplained).
            IsDeadPiece (tables_from no_tables versions y.version) y.piece) is d))
        | inr m ↦ alive_in xs rest e k (record { among = m; alive = h.alive })
      ]
  alive_in es alive e (one_alive x xs rest n k) h =
      elim h.among [
        | inl is ↦ inl is
        | inr m ↦ inr (alive_in xs rest e k (record { among = m; alive = h.alive }))
      ]

  pub in_alive : (es alive : List PlainExplained) (e : PlainExplained) → AreAlive versions es alive
      → In e alive → IsAlive versions es e
  in_alive es alive e none_alive m = absurd m
  in_alive es alive e (one_dead x xs rest d k) m =
      (let h = in_alive xs rest e k m in record { among = inr h.among; alive = h.alive })
  in_alive es alive e (one_alive x xs rest n k) m =
      elim m [
        | inl is ↦ record {
          among = inl is;
          alive =
              subst (λ (y : PlainExplained). ¬ IsDeadPiece
              (tables_from no_tables versions y.version) y.piece) is n;
        }
        | inr l ↦ (let h = in_alive xs rest e k l in
            record { among = inr h.among; alive = h.alive })
      ]

  -- pieces over the version of one part
  pub living_alive : (branch atom : ℕ) (p : Part) (ps living : List PlainPiece)
      → LeavesLiving (tables_from no_tables versions p.1) ps living
      → AreAlive versions (map (explained_in branch atom p) ps)
      (map (explained_in branch atom p) living)
  living_alive branch atom p ps living none_left = none_alive
  living_alive branch atom p ps living (a_dead_one x xs left d h) =
      one_dead (explained_in branch atom p x) (map (explained_in branch atom p) xs)
      (map (explained_in branch atom p) left) d (living_alive branch atom p xs left h)
  living_alive branch atom p ps living (a_living_one x xs left n h) =
      one_alive (explained_in branch atom p x) (map (explained_in branch atom p) xs)
      (map (explained_in branch atom p) left) n (living_alive branch atom p xs left h)

  module _ (book : Book) (q : ℕ) (table : List ℕ) (r : Read) (branch atom : ℕ) where
    own_alive : (p : Part) (x : PartPieces) → IsPlanned book versions q table r p x
        → AreAlive versions (part_pieces book versions q table r branch atom p)
        (own_pieces branch atom x)
    own_alive p x h =
        subst (λ (own : Part). AreAlive versions (part_pieces book versions q table r branch atom p)
        (map (explained_in branch atom own) (shown_pieces x.pieces.items))) (sym h.part)
        (living_alive branch atom p (unfolded_to book versions p.1 q (first_piece table r ∷ []))
        (shown_pieces x.pieces.items) h.living)

    -- what is planned are the pieces
    pub planned_alive : (parts : List Part) (plan : List PartPieces)
        → ArePlanned book versions q table r parts plan
        → AreAlive versions (table_pieces book versions q table r branch atom parts)
        (planned_pieces branch atom plan)
    planned_alive [] [] h = none_alive
    planned_alive [] (x ∷ plan) h = absurd h
    planned_alive (p ∷ parts) [] h = absurd h
    planned_alive (p ∷ parts) (x ∷ plan) h =
        alive_joined (part_pieces book versions q table r branch atom p)
        (table_pieces book versions q table r branch atom parts) (own_pieces branch atom x)
        (planned_pieces branch atom plan)
        (own_alive p x h.0) (planned_alive parts plan h.1)

-- ---- the same, by the function

-- pieces over the version of one part
own_told : (branch atom : ℕ) (p : Part) (ps : List PlainPiece)
    → map (explained_in branch atom p) (filter lives ps)
    ≡ alive_of (map (explained_in branch atom p) ps)
own_told branch atom p [] = refl
own_told branch atom p (x ∷ ps) =
    elim (lives x) as (λ b. map (explained_in branch atom p)
    (cond b (x ∷ filter lives ps) (filter lives ps))
    ≡ cond b (explained_in branch atom p x ∷ alive_of (map (explained_in branch atom p) ps))
    (alive_of (map (explained_in branch atom p) ps))) [
      | true ↦ ap (λ (es : List PlainExplained). explained_in branch atom p x ∷ es)
          (own_told branch atom p ps)
      | false ↦ own_told branch atom p ps
    ]

-- of two lists
alive_append : (xs ys : List PlainExplained) → alive_of (xs ++ ys) ≡ alive_of xs ++ alive_of ys
alive_append xs ys = filter-append (λ (e : PlainExplained). lives e.piece) xs ys

told_joined : (xs ys first second : List PlainExplained) → first ≡ alive_of xs
    → second ≡ alive_of ys → first ++ second ≡ alive_of (xs ++ ys)
told_joined xs ys first second e f =
    ap (λ (es : List PlainExplained). es ++ second) e
    ∙ ap (λ (es : List PlainExplained). alive_of xs ++ es) f
    ∙ sym (alive_append xs ys)

module _ (versions : List PlainVersion) where
  pub none_over : AreLeft versions [] []
  none_over = record { alive = none_alive; told = refl }

  pub left_joined : (xs ys first second : List PlainExplained) → AreLeft versions xs first
      → AreLeft versions ys second → AreLeft versions (xs ++ ys) (first ++ second)
  left_joined xs ys first second h k = record {
    alive =
        alive_joined versions xs ys first second h.alive k.alive;
    told =
        told_joined xs ys first second h.told k.told;
  }

  module _ (book : Book) (q : ℕ) (table : List ℕ) (r : Read) (branch atom : ℕ) where
    plan_told : (parts : List Part) (plan : List PartPieces)
        → ArePlanned book versions q table r parts plan
        → planned_pieces branch atom plan ≡ alive_of
        (table_pieces book versions q table r branch atom parts)
    plan_told [] [] h = refl
    plan_told [] (x ∷ plan) h = absurd h
    plan_told (p ∷ parts) [] h = absurd h
    plan_told (p ∷ parts) (x ∷ plan) h =
        told_joined (part_pieces book versions q table r branch atom p)
        (table_pieces book versions q table r branch atom parts) (own_pieces branch atom x)
        (planned_pieces branch atom plan)
        (ap (λ (own : Part). map (explained_in branch atom own) (shown_pieces x.pieces.items))
        h.0.part
        ∙ ap (map (explained_in branch atom p)) h.0.told
        ∙ own_told branch atom p (unfolded_to book versions p.1 q (first_piece table r ∷ [])))
        (plan_told parts plan h.1)

    -- what is planned are the pieces, by both
    pub planned_left : (parts : List Part) (plan : List PartPieces)
        → ArePlanned book versions q table r parts plan
        → AreLeft versions (table_pieces book versions q table r branch atom parts)
        (planned_pieces branch atom plan)
    planned_left parts plan h = record {
      alive =
          planned_alive versions book q table r branch atom parts plan h;
      told =
          plan_told parts plan h;
    }

-- ---- what is read

module _ (kept : Kept) where
  own_read : (branch atom : ℕ) (p : Part) (ps : List PlainPiece)
      → reads_of kept (map (explained_in branch atom p) ps) ≡ pieces_read kept p.1 ps
  own_read branch atom p [] = refl
  own_read branch atom p (x ∷ ps) = ap (λ (n : ℕ). piece_reads kept p.1 x + n)
      (own_read branch atom p ps)

  pub planned_read : (branch atom : ℕ) (plan : List PartPieces)
      → reads_of kept (planned_pieces branch atom plan) ≡ total (part_read kept) plan
  planned_read branch atom [] = refl
  planned_read branch atom (x ∷ plan) =
      total_joined (explained_read kept) (own_pieces branch atom x)
      (planned_pieces branch atom plan)
      ∙ ap (λ (n : ℕ). n + reads_of kept (planned_pieces branch atom plan))
      (own_read branch atom x.part (shown_pieces x.pieces.items))
      ∙ ap (λ (n : ℕ). part_read kept x + n) (planned_read branch atom plan)

  -- a plan reads what its pieces read
  pub plan_cost : (versions : List PlainVersion) (book : Book) (q : ℕ) (table : List ℕ) (r : Read)
      (branch atom : ℕ) (parts : List Part) (plan : List PartPieces)
      → ArePlanned book versions q table r parts plan → total (part_read kept) plan
      ≡ reads_of kept (alive_of (table_pieces book versions q table r branch atom parts))
  plan_cost versions book q table r branch atom parts plan h =
      sym (planned_read branch atom plan)
      ∙ ap (reads_of kept) (plan_told versions book q table r branch atom parts plan h)

  -- for each piece of the table that is not dead there is a part of the plan for which as much is
  -- read
  pub plan_least : (versions : List PlainVersion) (book : Book) (q : ℕ) (table : List ℕ) (r : Read)
      (branch atom : ℕ) (parts : List Part) (plan : List PartPieces)
      → ArePlanned book versions q table r parts plan → (e : PlainExplained)
      → In e (alive_of (table_pieces book versions q table r branch atom parts))
      → (x : PartPieces) × In x plan × (explained_read kept e ≤ part_read kept x)
  plan_least versions book q table r branch atom parts plan h e a =
      let among : In e (planned_pieces branch atom plan) =
      subst (λ (es : List PlainExplained). In e es)
      (sym (plan_told versions book q table r branch atom parts plan h)) a in
      let x = from_flat_map (own_pieces branch atom) e plan among in
      let p = from_map (explained_in branch atom x.0.part) e (shown_pieces x.0.pieces.items) x.2 in (
        x.0,
        x.1,
        subst (λ (y : PlainExplained). explained_read kept y ≤ part_read kept x.0) p.2
            (total_member (piece_reads kept x.0.part.1) (shown_pieces x.0.pieces.items) p.0 p.1),
      )

  -- a piece that is not dead is still to be read, or as much was read as there is for it
  abbrev pub IsLeftOrRead : List PlainExplained → ℕ → ℕ → PlainExplained → Type 0
  IsLeftOrRead left first steps e = In e (alive_of left)
      ⊎ (first + explained_read kept e ≤ steps)

  -- after the first of them
  pub left_less : (xs ys : List PlainExplained) (first steps new : ℕ) (e : PlainExplained)
      → first ≤ steps → steps ≤ new → IsLeftOrRead (xs ++ ys) first steps e
      → (In e (alive_of xs) → steps + explained_read kept e ≤ new)
      → IsLeftOrRead ys first new e
  left_less xs ys first steps new e a b (inr k) here = inr (omega (arith, a, b, k))
  left_less xs ys first steps new e a b (inl h) here =
      elim (in_append e (alive_of xs) (alive_of ys)
      (subst (λ (es : List PlainExplained). In e es) (alive_append xs ys) h)) [
        | inl m ↦ (let k = here m in inr (omega (arith, a, b, k)))
        | inr m ↦ inl m
      ]

  -- and at last
  pub all_read : (first steps : ℕ) (e : PlainExplained) → IsLeftOrRead [] first steps e
      → first + explained_read kept e ≤ steps
  all_read first steps e (inl h) = absurd h
  all_read first steps e (inr k) = k

  -- what may still be read: for those of these pieces that are not dead
  abbrev pub Owes : List PlainExplained → ℕ → ℕ → Type 0
  Owes left steps all = steps + reads_of kept (alive_of left) ≤ all

  -- at first, and after the first of them
  pub owes_all : (xs : List PlainExplained) (steps : ℕ)
      → Owes xs steps (steps + reads_of kept (alive_of xs))
  owes_all xs steps = omega arith

  pub owes_less : (xs ys : List PlainExplained) (steps all new : ℕ) → Owes (xs ++ ys) steps all
      → new ≤ steps + reads_of kept (alive_of xs) → Owes ys new all
  owes_less xs ys steps all new o h =
      let sum : reads_of kept (alive_of (xs ++ ys))
      ≡ reads_of kept (alive_of xs) + reads_of kept (alive_of ys) =
      ap (reads_of kept) (alive_append xs ys)
      ∙ total_joined (explained_read kept) (alive_of xs) (alive_of ys) in
      omega (arith, sum, h, o)

  pub owes_within : (xs : List PlainExplained) (steps all : ℕ) → Owes xs steps all → steps ≤ all
  owes_within xs steps all o = omega (arith, o)
