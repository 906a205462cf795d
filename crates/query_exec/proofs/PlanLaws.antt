-- What is planned for a table: it can be read, and means what is asked.
use Rattle.std.proofs.Common.{◌≡◌, ◌+◌, ◌<◌, ◌≤◌, ℕ, true, List, [], ◌∷◌, ◌++◌, length, get_or}
use Rattle.std.proofs.Common.{take, reverse, refl, sym, ap, subst, ◌∙◌, inl, inr, arith}
use Rattle.std.specs.Prelude.{◌⊎◌, None}
use Rattle.std.specs.FinMap.{get}
use Rattle.std.specs.List.{filter}
use Rattle.std.proofs.lemmas.List.{map-append, reverse-append}
use Rattle.relations_spec.specs.Sets.{In}
use Rattle.relations_spec.specs.Spans.{Span, covers}
use Rattle.relations_spec.proofs.SetLaws.{in_append}
use Rattle.schema_catalog.specs.Tables.{Tables}
use Rattle.schema_catalog.specs.Databases.{IsDatabase}
use Rattle.smo_ops_types.specs.Commands.{PlainVersion}
use Rattle.smo_ops_spec.specs.Past.{Past, no_tables, tables_from, tables_of, version_at}
use Rattle.smo_ops_spec.specs.Past.{database_at}
use Rattle.smo_ops_versions_spec.specs.LostTables.{lost_tables}
use Rattle.version_groups.specs.Groups.{Kept, versions_in}
use Rattle.version_groups.specs.Representation.{Represents, IsInForce}
use Rattle.version_groups.proofs.OwnMoments.{own_version}
use Rattle.plain_answers_spec.specs.Reading.{Read}
use Rattle.piece_ir_spec.specs.Pieces.{PlainPiece, all_mean}
use Rattle.piece_ir_spec.specs.Typed.{AllTyped}
use Rattle.piece_ir_spec.specs.Rules.{Book, IsValidBook}
use Rattle.piece_ir.specs.Shown.{shown_pieces}
use Rattle.piece_prune.specs.DeadPieces.{LeavesLiving, none_left, a_dead_one, a_living_one, lives}
use Rattle.piece_prune.proofs.Pruned.{mean_the_same}
use Rattle.piece_ir_spec.specs.Beginnings.{first_piece}
use Rattle.piece_ir_spec.specs.Chains.{unfolded_to}
use Rattle.piece_ir_spec.specs.UnfoldedPieces.{StandFor}
use Rattle.smo_ops_versions_spec.proofs.MappedTables.{none_forward}
use Rattle.piece_ir_spec.proofs.UnfoldedPieceLaws.{stand_typed}
use Rattle.period_split.specs.Splitting.{Part}
use Rattle.query_exec.specs.declared.part_piece.PartPieces.{PartPieces}
use Rattle.query_exec.specs.declared.route.Route.{Route}
use Rattle.query_exec.specs.Planned.{IsPlanned, ArePlanned, planned_spans}
use Rattle.query_exec.specs.Questions.{table_read}
use Rattle.query_exec.specs.Routes.{DescendFrom, IsOwn, spans_of, IsRoute, MayBeRead}
use Rattle.query_exec.proofs.ListSteps.{taken_is}
use Rattle.query_exec.proofs.WalkSteps.{means_there, typed_there}

-- ---- lists of what is planned

module _ (book : Book) (versions : List PlainVersion) (q : ℕ) (table : List ℕ) (r : Read) where
  pub planned_joined : (ps qs : List Part) (xs ys : List PartPieces)
      → ArePlanned book versions q table r ps xs → ArePlanned book versions q table r qs ys
      → ArePlanned book versions q table r (ps ++ qs) (xs ++ ys)
  planned_joined [] qs [] ys h k = k
  planned_joined [] qs (x ∷ xs) ys h k = absurd h
  planned_joined (p ∷ ps) qs [] ys h k = absurd h
  planned_joined (p ∷ ps) qs (x ∷ xs) ys h k = (h.0, planned_joined ps qs xs ys h.1 k)

  pub one_planned : (p : Part) (x : PartPieces) (ps : List PlainPiece) → x.part ≡ p
      → ps ≡ unfolded_to book versions p.1 q (first_piece table r ∷ [])
      → LeavesLiving (tables_from no_tables versions p.1) ps (shown_pieces x.pieces.items)
      → shown_pieces x.pieces.items ≡ filter lives ps → IsPlanned book versions q table r p x
  one_planned p x ps e u h told = record {
    part = e;
    living = subst (λ (us : List PlainPiece).
        LeavesLiving (tables_from no_tables versions p.1) us (shown_pieces x.pieces.items)) u h;
    told = told ∙ ap (filter lives) u;
  }

  pub planned_last : (ps : List Part) (p : Part) (xs new : List PartPieces) (x : PartPieces)
      → new ≡ xs ++ x ∷ [] → ArePlanned book versions q table r ps xs
      → IsPlanned book versions q table r p x
      → ArePlanned book versions q table r (ps ++ p ∷ []) new
  planned_last ps p xs new x e h k =
      subst (λ (all : List PartPieces). ArePlanned book versions q table r (ps ++ p ∷ []) all)
      (sym e) (planned_joined ps (p ∷ []) xs (x ∷ []) h (k, tt))

  -- each of them is that of one of the parts
  pub record Its (parts : List Part) (x : PartPieces) : Type 0 where
    pub part : Part
    pub among : In part parts
    pub is : IsPlanned book versions q table r part x

  further : (p : Part) (parts : List Part) (x : PartPieces) → Its parts x → Its (p ∷ parts) x
  further p parts x h = record { part = h.part; among = inr h.among; is = h.is }

  pub its_part : (parts : List Part) (plan : List PartPieces)
      → ArePlanned book versions q table r parts plan → (x : PartPieces) → In x plan → Its parts x
  its_part [] [] h x m = absurd m
  its_part [] (y ∷ plan) h x m = absurd h
  its_part (p ∷ parts) [] h x m = absurd h
  its_part (p ∷ parts) (y ∷ plan) h x (inl e) =
      record {
        part = p;
        among = inl refl;
        is =
            subst (λ (z : PartPieces). IsPlanned book versions q table r p z) e h.0;
      }
  its_part (p ∷ parts) (y ∷ plan) h x (inr m) = further p parts x (its_part parts plan h.1 x m)

  pub planned_over : (parts : List Part) (plan : List PartPieces)
      → ArePlanned book versions q table r parts plan → planned_spans plan ≡ spans_of parts
  planned_over [] [] h = refl
  planned_over [] (x ∷ plan) h = absurd h
  planned_over (p ∷ parts) [] h = absurd h
  planned_over (p ∷ parts) (x ∷ plan) h =
      ap (λ (own : Part). own.0 ∷ planned_spans plan) h.0.part
      ∙ ap (λ (spans : List Span). p.0 ∷ spans) (planned_over parts plan h.1)

-- the moments of one part more
pub spans_step : (plan : List PartPieces) (i : ℕ) (x : PartPieces) → i < length plan
    → x ≡ get_or plan i x → planned_spans (take i plan) ++ x.part.0 ∷ []
    ≡ planned_spans (take (i + 1) plan)
spans_step plan i x l is = sym (ap planned_spans (taken_is plan i x l is)
    ∙ map-append (λ (y : PartPieces). y.part.0) (take i plan) (x ∷ []))

-- ---- what lives is well-typed

pub still_typed : (tables : Tables) (ps living : List PlainPiece) → AllTyped tables ps
    → LeavesLiving tables ps living → AllTyped tables living
still_typed tables ps living t none_left x m = absurd m
still_typed tables ps living t (a_dead_one p rest left d h) x m =
    still_typed tables rest left (λ y k. t y (inr k)) h x m
still_typed tables ps living t (a_living_one p rest left n h) x (inl e) = t x (inl e)
still_typed tables ps living t (a_living_one p rest left n h) x (inr m) =
    still_typed tables rest left (λ y k. t y (inr k)) h x m

-- ---- the parts of a route

module _ {X : Type 0} where
  reversed : (x : X) (xs : List X) → reverse (x ∷ xs) ≡ reverse xs ++ x ∷ []
  reversed x xs = reverse-append (x ∷ []) xs

  from_reversed : (z : X) (xs : List X) → In z (reverse xs) → In z xs
  from_reversed z [] m = m
  from_reversed z (x ∷ xs) m = step (from_reversed z xs)
      (in_append z (reverse xs) (x ∷ []) (subst (λ (ys : List X). In z ys) (reversed x xs) m))
    where
      step : (In z (reverse xs) → In z xs) → In z (reverse xs) ⊎ In z (x ∷ []) → In z (x ∷ xs)
      step more (inl k) = inr (more k)
      step more (inr (inl e)) = inl e
      step more (inr (inr k)) = absurd k

pub planned_reversed : (book : Book) (versions : List PlainVersion) (q : ℕ) (table : List ℕ)
    (r : Read) (parts : List Part) (plan : List PartPieces)
    → ArePlanned book versions q table r parts plan
    → ArePlanned book versions q table r (reverse parts) (reverse plan)
planned_reversed book versions q table r [] [] h = tt
planned_reversed book versions q table r [] (x ∷ plan) h = absurd h
planned_reversed book versions q table r (p ∷ parts) [] h = absurd h
planned_reversed book versions q table r (p ∷ parts) (x ∷ plan) h =
    subst (λ (ps : List Part). ArePlanned book versions q table r ps (reverse (x ∷ plan)))
    (sym (reversed p parts))
    (subst (λ (xs : List PartPieces). ArePlanned book versions q table r (reverse parts ++ p ∷ [])
    xs) (sym (reversed x plan))
    (planned_joined book versions q table r (reverse parts) (p ∷ []) (reverse plan) (x ∷ [])
    (planned_reversed book versions q table r parts plan h.1) (h.0, tt)))

pub below : (high : ℕ) (parts : List Part) → DescendFrom high parts → (p : Part) → In p parts
    → p.1 ≤ high
below high [] h p m = absurd m
below high (x ∷ parts) h p (inl e) = subst (λ (y : Part). y.1 ≤ high) e h.0
below high (x ∷ parts) h p (inr m) = (let first = h.0 in let rest = below x.1 parts h.1 p m in
    omega (arith, first, rest))

module _ (versions : List PlainVersion) (route : Route) (is : IsRoute versions route)
    (table : List ℕ) (r : Read) (may : MayBeRead versions route table r) where
  -- the table is lost from none of their versions
  pub none_lost : (p : Part) → In p route.parts.items
      → get (lost_tables versions p.1 route.asked) table ≡ None
  none_lost p m = step (in_append p (reverse route.earlier.items) route.later.items
      (subst (λ (ps : List Part). In p ps) is.order m))
    where
      step : In p (reverse route.earlier.items) ⊎ In p route.later.items
          → get (lost_tables versions p.1 route.asked) table ≡ None
      step (inl k) = none_forward versions p.1 route.asked table
          (below route.asked route.earlier.items is.back p (from_reversed p route.earlier.items k))
      step (inr k) = may.kept p k

  pub stands : (book : Book) (p : Part) → In p route.parts.items
      → StandFor book versions p.1 route.asked table r
      (unfolded_to book versions p.1 route.asked (first_piece table r ∷ []))
  stands book p m = record { kept = none_lost p m; unfolded = refl }

-- ---- a plan

module _ (kept : Kept) (past : Past) (represents : Represents kept past) (book : Book)
    (valid : IsValidBook book) (route : Route) (is : IsRoute (versions_in kept) route)
    (table : List ℕ) (r : Read)
    (may : MayBeRead (versions_in kept) route table r) (plan : List PartPieces)
    (planned : ArePlanned book (versions_in kept) route.asked table r route.parts.items
    plan) where
  abbrev its : (x : PartPieces) → In x plan → Its book (versions_in kept) route.asked table r
      route.parts.items x
  its x m = its_part book (versions_in kept) route.asked table r route.parts.items plan planned x m

  all_pieces : Part → List PlainPiece
  all_pieces p = unfolded_to book (versions_in kept) p.1 route.asked (first_piece table r ∷ [])

  -- it may be read
  pub plan_ready : (x : PartPieces) → In x plan → IsOwn (versions_in kept) x.part
      × AllTyped (tables_of past x.part.1) (shown_pieces x.pieces.items)
  plan_ready x m =
      let h = its x m in
      let typed : AllTyped (tables_from no_tables (versions_in kept) h.part.1)
      (shown_pieces x.pieces.items) =
      still_typed (tables_from no_tables (versions_in kept) h.part.1)
      (unfolded_to book (versions_in kept) h.part.1 route.asked (first_piece table r ∷ []))
      (shown_pieces x.pieces.items)
      (stand_typed book (versions_in kept) h.part.1 route.asked table r valid
      (unfolded_to book (versions_in kept) h.part.1 route.asked (first_piece table r ∷ []))
      may.question
      (stands (versions_in kept) route is table r may book h.part h.among)) h.is.living in
      subst (λ (p : Part). IsOwn (versions_in kept) p
      × AllTyped (tables_of past p.1) (shown_pieces x.pieces.items)) (sym h.is.part) (
        is.each h.part h.among,
        typed_there kept past represents h.part.1 (shown_pieces x.pieces.items)
            typed,
      )

  -- and at the moments of each part it means what is asked of the table
  its_meaning : (p : Part) → In p route.parts.items → (living : List PlainPiece)
      → LeavesLiving (tables_from no_tables (versions_in kept) p.1)
      (unfolded_to book (versions_in kept) p.1 route.asked (first_piece table r ∷ [])) living
      → (m : ℕ) → covers p.0 m ≡ true → all_mean (tables_of past p.1) (database_at past m) living
      ≡ table_read past route.asked table r m
  its_meaning p i living a m c =
      let own = is.each p i in
      let force : version_at past m ≡ p.1 =
      own_version past represents.valid p.1 m (subst (λ (vs : List PlainVersion). p.1 ≤ length vs)
      represents.versions own.there)
      (subst (λ (vs : List PlainVersion). IsInForce vs p.1 m) represents.versions
      (own.moments m c)) in
      mean_the_same (tables_of past p.1) (database_at past m)
      (record {
        database = subst (λ (v : ℕ). IsDatabase (tables_of past v) (database_at past m))
            force (represents.valid.each m);
        values = represents.values.databases m;
      })
      (unfolded_to book (versions_in kept) p.1 route.asked (first_piece table r ∷ [])) living
      (subst (λ (vs : List PlainVersion). LeavesLiving (tables_from no_tables vs p.1)
      (unfolded_to book (versions_in kept) p.1 route.asked (first_piece table r ∷ [])) living)
      represents.versions a)
      ∙ means_there kept past represents book valid route.asked table r
      (unfolded_to book (versions_in kept) p.1 route.asked (first_piece table r ∷ [])) p
      may.question own
      (stands (versions_in kept) route is table r may book p i) m c

  pub plan_means : (x : PartPieces) → In x plan → (m : ℕ) → covers x.part.0 m ≡ true
      → all_mean (tables_of past x.part.1) (database_at past m) (shown_pieces x.pieces.items)
      ≡ table_read past route.asked table r m
  plan_means x k m c =
      let h = its x k in
      subst (λ (p : Part). covers p.0 m ≡ true
      → all_mean (tables_of past p.1) (database_at past m) (shown_pieces x.pieces.items)
      ≡ table_read past route.asked table r m) (sym h.is.part)
      (its_meaning h.part h.among (shown_pieces x.pieces.items) h.is.living m) c
