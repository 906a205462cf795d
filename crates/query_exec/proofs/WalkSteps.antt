-- Walks along the parts of a slice.
use Rattle.std.proofs.Common.{◌≡◌, ◌+◌, ◌<◌, ◌≤◌, ℕ, true, List, [], ◌∷◌, length, get_or, drop, sym}
use Rattle.std.proofs.Common.{subst, inl, inr, arith}
use Rattle.std.specs.Prelude.{None}
use Rattle.std.specs.FinMap.{get}
use Rattle.relations_spec.specs.Sets.{In}
use Rattle.relations_spec.specs.Spans.{covers}
use Rattle.version_groups.specs.Groups.{Kept, versions_in}
use Rattle.version_groups.specs.Representation.{Represents, IsInForce}
use Rattle.version_groups.proofs.OwnMoments.{own_version}
use Rattle.smo_ops_types.specs.Commands.{PlainVersion}
use Rattle.smo_ops_spec.specs.Past.{Past, no_tables, tables_from, tables_of, database_at}
use Rattle.smo_ops_versions_spec.specs.LostTables.{lost_tables}
use Rattle.plain_answers_spec.specs.Reading.{Read}
use Rattle.piece_ir_spec.specs.Pieces.{PlainPiece, all_mean}
use Rattle.piece_ir_spec.specs.Typed.{AllTyped}
use Rattle.piece_ir_spec.specs.Rules.{Book, IsValidBook}
use Rattle.piece_ir_spec.specs.UnfoldedPieces.{MayBeAsked, StandFor}
use Rattle.piece_ir_spec.proofs.UnfoldedPieceLaws.{stand_typed}
use Rattle.smo_ops_versions_spec.proofs.MappedTables.{none_forward}
use Rattle.rewrite.specs.WalkedPieces.{LeadsAway, AreAway}
use Rattle.period_split.specs.Splitting.{Part, AscendFrom}
use Rattle.query_exec.specs.declared.route.Route.{Route}
use Rattle.query_exec.specs.Questions.{table_read}
use Rattle.query_exec.specs.Routes.{DescendFrom, IsOwn, IsRoute, MayBeRead, LeadAway, AreAlong}
use Rattle.query_exec.proofs.ListSteps.{left_is}
use Rattle.query_exec.proofs.TableReads.{standing_means}

-- the next part of those that lead away
pub next_away : (parts : List Part) (i : ℕ) (p : Part) → i < length parts → p ≡ get_or parts i p
    → (asked v : ℕ) → LeadAway asked v (drop i parts)
    → LeadsAway asked v p.1 × LeadAway asked p.1 (drop (i + 1) parts)
next_away parts i p l is asked v h =
    subst (λ (ps : List Part). LeadAway asked v ps) (left_is parts i p l is) h

-- parts of ever earlier versions lead away from one that is not earlier than these
descend_away : (asked v : ℕ) (parts : List Part) → v ≤ asked → DescendFrom v parts
    → LeadAway asked v parts
descend_away asked v [] l h = tt
descend_away asked v (p ∷ parts) l h =
    let first = h.0 in (
      record { back = λ m. l; on = λ m. absurd (omega (arith, first, m)) },
      descend_away asked p.1 parts (omega (arith, first, l)) h.1,
    )

descend_below : (asked v : ℕ) (parts : List Part) → v ≤ asked → DescendFrom v parts
    → (p : Part) → In p parts → p.1 ≤ asked
descend_below asked v [] l h p i = absurd i
descend_below asked v (x ∷ parts) l h p (inl e) =
    let first = h.0 in
    subst (λ (y : Part). y.1 ≤ asked) e (omega (arith, first, l))
descend_below asked v (x ∷ parts) l h p (inr i) =
    let first = h.0 in
    descend_below asked x.1 parts (omega (arith, first, l)) h.1 p i

-- parts of ever later versions lead away from one that is not later than these
ascend_away : (asked v low : ℕ) (parts : List Part) → asked ≤ v → v ≤ low → AscendFrom low parts
    → LeadAway asked v parts
ascend_away asked v low [] a l h = tt
ascend_away asked v low (p ∷ parts) a l h =
    let first = h.0.version in
    let after : p.1 ≤ p.1 + 1 = omega arith in (
      record { back = λ m. absurd (omega (arith, first, l, m)); on = λ m. a },
      ascend_away asked p.1 (p.1 + 1) parts (omega (arith, first, l, a)) after h.1,
    )

module _ (versions : List PlainVersion) (route : Route) (is : IsRoute versions route)
    (table : List ℕ) (r : Read) (may : MayBeRead versions route table r) where
  -- so a walk from the asked version comes to the earlier parts, and one to the later
  pub back_along : AreAlong versions route.asked table r route.earlier.items
  back_along = record {
    question = may.question;
    here = is.asked;
    way = descend_away route.asked route.asked route.earlier.items (omega arith) is.back;
    there = λ p i. (is.earlier p i).there;
    kept = λ p i. none_forward versions p.1 route.asked table
        (descend_below route.asked route.asked route.earlier.items (omega arith) is.back p i);
  }

  pub on_along : AreAlong versions route.asked table r route.later.items
  on_along = record {
    question = may.question;
    here = is.asked;
    way = ascend_away route.asked route.asked (route.asked + 1) route.later.items (omega arith)
        (omega arith) is.on;
    there = λ p i. (is.later p i).there;
    kept = may.kept;
  }

module _ (kept : Kept) (past : Past) (represents : Represents kept past) where
  -- the pieces that stand at a part's version mean at its moments what is read of the table
  pub means_there : (book : Book) → IsValidBook book
      → (q : ℕ) (table : List ℕ) (r : Read) (ps : List PlainPiece) (p : Part)
      → MayBeAsked (versions_in kept) q table r → IsOwn (versions_in kept) p
      → StandFor book (versions_in kept) p.1 q table r ps → (m : ℕ) → covers p.0 m ≡ true
      → all_mean (tables_of past p.1) (database_at past m) ps ≡ table_read past q table r m
  means_there book valid q table r ps p may own stand m c =
      standing_means book valid past represents.valid represents.values q p.1 m table r ps
      (subst (λ (vs : List PlainVersion). MayBeAsked vs q table r) represents.versions may).question
      (subst (λ (vs : List PlainVersion). StandFor book vs p.1 q table r ps) represents.versions
      stand)
      (own_version past represents.valid p.1 m (subst (λ (vs : List PlainVersion). p.1 ≤ length vs)
      represents.versions own.there)
      (subst (λ (vs : List PlainVersion). IsInForce vs p.1 m) represents.versions
      (own.moments m c)))

  pub typed_there : (v : ℕ) (ps : List PlainPiece)
      → AllTyped (tables_from no_tables (versions_in kept) v) ps → AllTyped (tables_of past v) ps
  typed_there v ps h = subst (λ (vs : List PlainVersion). AllTyped (tables_from no_tables vs v) ps)
      represents.versions h

  pub within_there : (p : Part) → IsOwn (versions_in kept) p → p.1 ≤ length past.versions
  within_there p own = subst (λ (vs : List PlainVersion). p.1 ≤ length vs) represents.versions
      own.there

module _ (kept : Kept) (book : Book) (versions : List PlainVersion)
    (same : versions ≡ versions_in kept) (asked : ℕ) (table : List ℕ) (r : Read)
    (parts : List Part) (along : AreAlong (versions_in kept) asked table r parts) where
  asked_here : MayBeAsked versions asked table r
  asked_here = subst (λ (vs : List PlainVersion). MayBeAsked vs asked table r) (sym same)
      along.question

  pub kept_here : (p : Part) → In p parts → get (lost_tables versions p.1 asked) table ≡ None
  kept_here p i = subst (λ (vs : List PlainVersion).
      get (lost_tables vs p.1 asked) table ≡ None) (sym same) (along.kept p i)

  pub ready_here : (v : ℕ) (ps : List PlainPiece) (p : Part) → In p parts → LeadsAway asked v p.1
      → StandFor book versions v asked table r ps → AreAway book versions v p.1 ps
  ready_here v ps p i way h = record {
    asked = asked;
    table = table;
    read = r;
    way = way;
    question = asked_here;
    kept = λ on. kept_here p i;
    stand = h;
  }

  pub here_typed : IsValidBook book → (v : ℕ) (ps : List PlainPiece)
      → StandFor book versions v asked table r ps
      → AllTyped (tables_from no_tables (versions_in kept) v) ps
  here_typed valid v ps h =
      subst (λ (vs : List PlainVersion). AllTyped (tables_from no_tables vs v) ps) same
      (stand_typed book versions v asked table r valid ps asked_here h)

  pub stand_here : (v : ℕ) (ps : List PlainPiece) → StandFor book versions v asked table r ps
      → StandFor book (versions_in kept) v asked table r ps
  stand_here v ps h = subst (λ (vs : List PlainVersion). StandFor book vs v asked table r ps)
      same h
