-- The steps of the code that takes pieces along the versions.
use Rattle.std.proofs.Common.{◌≡◌, ◌+◌, ◌-◌, ◌≤◌, ◌<◌, ℕ, suc, List, [], ◌∷◌, ◌++◌, map, take, drop}
use Rattle.std.proofs.Common.{length, get_or, drop-cons, add-one, append_assoc, refl, sym, ap}
use Rattle.std.proofs.Common.{subst, ◌∙◌, ⊎_elim, arith}
use Rattle.std.specs.Prelude.{◌==◌, true, false, Option, Some, None}
use Rattle.std.specs.FinMap.{get}
use Rattle.std.proofs.lemmas.List.{map-append, take_all}
use Rattle.relations_spec.specs.Sets.{In}
use Rattle.relations_spec.proofs.SetLaws.{in_map, in_append}
use Rattle.schema_catalog.specs.Tables.{Tables}
use Rattle.smo_ops_types.specs.Operators.{Operator, operator_of, operators_of, evolution_of}
use Rattle.smo_ops_types.specs.Operators.{evolutions_of}
use Rattle.smo_ops_types.specs.declared.op.Op.{Op}
use Rattle.smo_ops_types.specs.declared.version.Version.{Version}
use Rattle.smo_ops_types.specs.Commands.{PlainVersion, version_of}
use Rattle.smo_ops_spec.specs.After.{op_fault, schema_after, IsValid, HaveFewNodes}
use Rattle.smo_ops_spec.specs.Evolutions.{schema_after_each, AllOperatorsAccepted}
use Rattle.smo_ops_spec.specs.Inverses.{inverse_fault}
use Rattle.smo_ops_spec.specs.Past.{no_tables, tables_from}
use Rattle.smo_ops_spec.specs.ValidPast.{AreVersions}
use Rattle.smo_ops_spec.proofs.ValidInverses.{accepted_leads_back}
use Rattle.smo_ops_spec.proofs.NextSchemas.{next_is_valid}
use Rattle.smo_ops_spec.proofs.OneMembers.{members_of_ones, schema_after_ones}
use Rattle.smo_ops_spec.specs.Losses.{Loss}
use Rattle.smo_ops_versions_spec.proofs.WayLeads.{valid_at, step_leads}
use Rattle.smo_ops_spec.specs.WaysBack.{WayBack, by_inverse, by_filling, no_way, way_back_over}
use Rattle.smo_ops_spec.specs.WaysBack.{blank, filled_with, operator_of_way, derived}
use Rattle.smo_ops_versions_spec.specs.TableColumns.{HaveColumns}
use Rattle.smo_ops_versions_spec.specs.Steps.{taken_back, Lead}
use Rattle.smo_ops_versions_spec.specs.Ways.{step_by, step_back, back_over, over_version}
use Rattle.smo_ops_versions_spec.specs.Ways.{back_over_version}
use Rattle.smo_ops_versions_spec.specs.LostTables.{lost_tables}
use Rattle.smo_ops_versions_spec.specs.ColumnLosses.{table_loss}
use Rattle.smo_ops_versions_spec.specs.LostNames.{lost_names}
use Rattle.smo_ops_versions_spec.proofs.MappedTables.{not_mapped}
use Rattle.piece_ir_spec.specs.Pieces.{PlainPiece}
use Rattle.piece_ir_spec.specs.Typed.{IsTyped, AllTyped}
use Rattle.piece_ir_spec.specs.Rules.{Book, IsValidBook}
use Rattle.piece_ir.specs.Shown.{piece_of, shown_pieces}
use Rattle.piece_ir.specs.declared.piece.Piece.{Piece}
use Rattle.piece_ir_spec.specs.Chains.{through, brought, through_each}
use Rattle.piece_ir_spec.specs.Chains.{to_previous, to_next}
use Rattle.piece_ir_spec.proofs.ChainSteps.{all_typed}
use Rattle.rewrite_rules_book.specs.LivingPieces.{AllLiving}
use Rattle.rewrite_losses.proofs.Places.{in_at}
use Rattle.rewrite_losses.proofs.Sides.{here, sides}

-- ---- one operator

module _ (book : Book) (op : Operator) (before : Tables) where
  abbrev gone : List Piece → List PlainPiece
  gone ps = through book op before (shown_pieces ps)

  pub more : (all news pieces : List Piece) (i : ℕ) (p : Piece) (goal : List PlainPiece)
      → i < length pieces → p ≡ get_or pieces i p → shown_pieces news ≡ book op before (piece_of p)
      → shown_pieces all ++ gone (drop i pieces) ≡ goal
      → shown_pieces (all ++ news) ++ gone (drop (i + 1) pieces) ≡ goal
  more all news pieces i p goal l e is so =
      let d : drop i pieces ≡ p ∷ drop (suc i) pieces = drop-cons pieces i p l
      ∙ ap (λ (x : Piece). x ∷ drop (suc i) pieces) (sym e) in
      ap (λ (xs : List PlainPiece). xs ++ gone (drop (i + 1) pieces)) (map-append piece_of all news)
      ∙ append_assoc (shown_pieces all) (shown_pieces news) (gone (drop (i + 1) pieces))
      ∙ ap (λ (xs : List PlainPiece). shown_pieces all ++ (xs ++ gone (drop (i + 1) pieces))) is
      ∙ ap (λ (k : ℕ). shown_pieces all ++ (book op before (piece_of p) ++ gone (drop k pieces)))
      (add-one i)
      ∙ sym (ap (λ (xs : List Piece). shown_pieces all ++ gone xs) d)
      ∙ so

  pub more_of : (all news after pieces : List Piece) (i : ℕ) (p : Piece) (goal : List PlainPiece)
      → i < length pieces → p ≡ get_or pieces i p → shown_pieces news ≡ book op before (piece_of p)
      → after ≡ all ++ news → shown_pieces all ++ gone (drop i pieces) ≡ goal
      → shown_pieces after ++ gone (drop (i + 1) pieces) ≡ goal
  more_of all news after pieces i p goal l e is so h =
      ap (λ (xs : List Piece). shown_pieces xs ++ gone (drop (i + 1) pieces)) so
      ∙ more all news pieces i p goal l e is h

-- what is put after pieces that live lives with them
pub more_live : (all news after : List Piece) → after ≡ all ++ news
    → AllLiving (shown_pieces all) → AllLiving (shown_pieces news) → AllLiving (shown_pieces after)
more_live all news after so first second p m =
    ⊎_elim (λ k. first p k) (λ k. second p k)
    (in_append p (shown_pieces all) (shown_pieces news)
    (subst (λ (ps : List PlainPiece). In p ps) (ap shown_pieces so ∙ map-append piece_of all news)
    m))

pub when_empty : (n : ℕ) → true ≡ (n == 0) → n ≡ 0
when_empty n e = grind (arith, e)

pub when_some : (n : ℕ) → false ≡ (n == 0) → n ≡ 0 → ⊥
when_some n e z = grind (arith, e, z)

pub has_one : (n : ℕ) → false ≡ (n == 0) → 0 < n
has_one n e = grind (arith, e)

pub typed_at : (tables : Tables) (pieces : List Piece) (i : ℕ) (p : Piece) → i < length pieces
    → p ≡ get_or pieces i p → AllTyped tables (shown_pieces pieces) → IsTyped tables (piece_of p)
typed_at tables pieces i p l e h = h (piece_of p) (in_map piece_of p pieces (in_at pieces i p l e))

-- ---- operators one after the other

each_typed : (book : Book) → IsValidBook book
    → (tables : Tables) (ops : List Operator) (ps : List PlainPiece) → IsValid tables
    → AllOperatorsAccepted tables ops → AllTyped (schema_after_each tables ops) ps
    → AllTyped tables (through_each book tables ops ps)
each_typed book valid tables [] ps good a y = y
each_typed book valid tables (op ∷ ops) ps good a y =
    all_typed book valid tables op good a.0 (through_each book (schema_after tables op) ops ps)
    (each_typed book valid (schema_after tables op) ops ps (next_is_valid tables op good a.0) a.1 y)

-- the first of operators that are all accepted is
pub first_accepted : (tables : Tables) (ops : List Op) (op : Op) → 1 ≤ length ops
    → op ≡ get_or ops 0 op → AllOperatorsAccepted tables (operators_of ops)
    → op_fault tables (operator_of op) ≡ None
first_accepted tables [] op l e a = absurd (omega arith)
first_accepted tables (x ∷ xs) op l e a = ap (λ (o : Op). op_fault tables (operator_of o)) e ∙ a.0

-- the operators after the first are fewer, and have few nodes where all have
pub rest_shorter : (ops : List Op) → 1 ≤ length ops
    → length (take (length ops - 1) (drop 1 ops)) < length ops
rest_shorter [] l = absurd (omega arith)
rest_shorter (x ∷ xs) l =
    let rest : take (length (x ∷ xs) - 1) (drop 1 (x ∷ xs)) ≡ xs =
    take_all (length (x ∷ xs) - 1) xs (omega arith) in
    subst (λ (ys : List Op). length ys < length (x ∷ xs)) (sym rest) (omega arith)

pub rest_few : (ops : List Op) → 1 ≤ length ops → HaveFewNodes (operators_of ops)
    → HaveFewNodes (operators_of (take (length ops - 1) (drop 1 ops)))
rest_few [] l f = absurd (omega arith)
rest_few (x ∷ xs) l f =
    let rest : take (length (x ∷ xs) - 1) (drop 1 (x ∷ xs)) ≡ xs =
    take_all (length (x ∷ xs) - 1) xs (omega arith) in
    subst (λ (ys : List Op). HaveFewNodes (operators_of ys)) (sym rest) f.1

-- the operators after the first lead on from the tables after it
module _ (tables next : Tables) (op : Op) where
  pub rest_accepted : (ops : List Op) → 1 ≤ length ops → op ≡ get_or ops 0 op
      → AllOperatorsAccepted tables (operators_of ops) → next ≡ schema_after tables (operator_of op)
      → AllOperatorsAccepted next (operators_of (take (length ops - 1) (drop 1 ops)))
  rest_accepted [] l e a n = absurd (omega arith)
  rest_accepted (x ∷ xs) l e a n =
      let rest : take (length (x ∷ xs) - 1) (drop 1 (x ∷ xs)) ≡ xs =
      take_all (length (x ∷ xs) - 1) xs (omega arith) in
      let now : next ≡ schema_after tables (operator_of x) = n
      ∙ ap (λ (o : Op). schema_after tables (operator_of o)) e in
      subst (λ (ys : List Op). AllOperatorsAccepted next (operators_of ys)) (sym rest)
      (subst (λ (t : Tables). AllOperatorsAccepted t (operators_of xs)) (sym now) a.1)

  pub rest_led : (ops : List Op) (ps : List PlainPiece) → 1 ≤ length ops → op ≡ get_or ops 0 op
      → AllTyped (schema_after_each tables (operators_of ops)) ps
      → next ≡ schema_after tables (operator_of op)
      → AllTyped (schema_after_each next (operators_of (take (length ops - 1) (drop 1 ops)))) ps
  rest_led [] ps l e y n = absurd (omega arith)
  rest_led (x ∷ xs) ps l e y n =
      let rest : take (length (x ∷ xs) - 1) (drop 1 (x ∷ xs)) ≡ xs =
      take_all (length (x ∷ xs) - 1) xs (omega arith) in
      let now : next ≡ schema_after tables (operator_of x) = n
      ∙ ap (λ (o : Op). schema_after tables (operator_of o)) e in
      subst (λ (ys : List Op). AllTyped (schema_after_each next (operators_of ys)) ps) (sym rest)
      (subst (λ (t : Tables). AllTyped (schema_after_each t (operators_of xs)) ps) (sym now) y)

pub rest_typed : (book : Book) → IsValidBook book
    → (tables next : Tables) (ops : List Op) (op : Op) (ps news : List PlainPiece) → IsValid tables
    → 1 ≤ length ops → op ≡ get_or ops 0 op
    → AllOperatorsAccepted tables (operators_of ops)
    → AllTyped (schema_after_each tables (operators_of ops)) ps
    → next ≡ schema_after tables (operator_of op)
    → news ≡ through_each book next (operators_of (take (length ops - 1) (drop 1 ops))) ps
    → AllTyped (schema_after tables (operator_of op)) news
rest_typed book valid tables next [] op ps news good l e a y n is = absurd (omega arith)
rest_typed book valid tables next (x ∷ xs) op ps news good l e a y n is =
    let short : length xs ≤ length (x ∷ xs) - 1 = omega arith in
    let rest : take (length (x ∷ xs) - 1) (drop 1 (x ∷ xs)) ≡ xs =
    take_all (length (x ∷ xs) - 1) xs short in
    let same : operator_of op ≡ operator_of x = ap operator_of e in
    let now : next ≡ schema_after tables (operator_of x) = n ∙ ap (schema_after tables) same in
    let all : news ≡ through_each book (schema_after tables (operator_of x)) (operators_of xs) ps
    = is ∙ ap (λ (ys : List Op). through_each book next (operators_of ys) ps) rest
    ∙ ap (λ (t : Tables). through_each book t (operators_of xs) ps) now in
    subst (λ (o : Operator). AllTyped (schema_after tables o) news) (sym same)
    (subst (λ (qs : List PlainPiece). AllTyped (schema_after tables (operator_of x)) qs) (sym all)
    (each_typed book valid (schema_after tables (operator_of x)) (operators_of xs) ps
    (next_is_valid tables (operator_of x) good a.0) a.1 y))

pub all_are : (book : Book) (tables next : Tables) (ops : List Op) (op : Op)
    (ps news all : List PlainPiece) → 1 ≤ length ops → op ≡ get_or ops 0 op
    → next ≡ schema_after tables (operator_of op)
    → news ≡ through_each book next (operators_of (take (length ops - 1) (drop 1 ops))) ps
    → all ≡ through book (operator_of op) tables news
    → all ≡ through_each book tables (operators_of ops) ps
all_are book tables next [] op ps news all l e n is so = absurd (omega arith)
all_are book tables next (x ∷ xs) op ps news all l e n is so =
    let short : length xs ≤ length (x ∷ xs) - 1 = omega arith in
    let rest : take (length (x ∷ xs) - 1) (drop 1 (x ∷ xs)) ≡ xs =
    take_all (length (x ∷ xs) - 1) xs short in
    let same : operator_of op ≡ operator_of x = ap operator_of e in
    let now : next ≡ schema_after tables (operator_of x) = n ∙ ap (schema_after tables) same in
    so ∙ ap (λ (o : Operator). through book o tables news) same
    ∙ ap (through book (operator_of x) tables)
    (is ∙ ap (λ (ys : List Op). through_each book next (operators_of ys) ps) rest
    ∙ ap (λ (t : Tables). through_each book t (operators_of xs) ps) now)

-- ---- back over one operator, where no inverse is named

module _ (before : Tables) (op : Operator) (loss : Loss) where
  leads_by : (w : WayBack) → Lead (schema_after before op) (step_by loss before op w ∷ []) before
      → (d : Operator) → operator_of_way w ≡ Some d
      → (op_fault (schema_after before op) d ≡ None)
      × (schema_after (schema_after before op) d ≡ before)
  leads_by (by_inverse e) l d q = (let same : e ≡ d = cc in
      subst (λ (x : Operator). (op_fault (schema_after before op) x ≡ None)
      × (schema_after (schema_after before op) x ≡ before)) same (l.0.accepted, l.2))
  leads_by (by_filling f) l d q = (let same : filled_with blank f ≡ d = cc in
      subst (λ (x : Operator). (op_fault (schema_after before op) x ≡ None)
      × (schema_after (schema_after before op) x ≡ before)) same (l.0.accepted, l.2))
  leads_by no_way l d q = absurd (cc)

  through_by : (book : Book) (ps : List PlainPiece) (w : WayBack) (d : Operator)
      → operator_of_way w ≡ Some d
      → through book d (schema_after before op) ps ≡ brought book (step_by loss before op w) ps
  through_by book ps (by_inverse e) d q = (let same : d ≡ e = cc in
      ap (λ (x : Operator). through book x (schema_after before op) ps) same)
  through_by book ps (by_filling f) d q = (let same : d ≡ filled_with blank f = cc in
      ap (λ (x : Operator). through book x (schema_after before op) ps) same)
  through_by book ps no_way d q = absurd (cc)

  stays_by : (book : Book) (ps : List PlainPiece) (w : WayBack) → operator_of_way w ≡ None
      → ps ≡ brought book (step_by loss before op w) ps
  stays_by book ps (by_inverse e) q = absurd (cc)
  stays_by book ps (by_filling f) q = absurd (cc)
  stays_by book ps no_way q = refl

module _ (before : Tables) (op : Operator) (good : IsValid before) (have : HaveColumns before)
    (accepted : op_fault before op ≡ None) where
  pub derived_accepted : (next : Tables) (d : Operator) → next ≡ schema_after before op
      → derived before op ≡ Some d → op_fault next d ≡ None
  derived_accepted next d n q = subst (λ (t : Tables). op_fault t d ≡ None) (sym n)
      (leads_by before op (0, 1) (way_back_over before op)
      (step_leads (0, 1) before op good have accepted) d q).0

  pub derived_valid : (next : Tables) → next ≡ schema_after before op → IsValid next
  derived_valid next n = subst IsValid (sym n) (next_is_valid before op good accepted)

  pub derived_typed : (next : Tables) (d : Operator) (ps : List PlainPiece)
      → next ≡ schema_after before op → derived before op ≡ Some d → AllTyped before ps
      → AllTyped (schema_after next d) ps
  derived_typed next d ps n q y = subst (λ (t : Tables). AllTyped t ps)
      (sym (ap (λ (t : Tables). schema_after t d) n
      ∙ (leads_by before op (0, 1) (way_back_over before op)
      (step_leads (0, 1) before op good have accepted) d q).1)) y

pub derived_is : (book : Book) (before next : Tables) (op d : Operator) (ps news : List PlainPiece)
    (loss : Loss) → next ≡ schema_after before op → derived before op ≡ Some d
    → news ≡ through book d next ps → news ≡ brought book (step_back loss before op) ps
derived_is book before next op d ps news loss n q is =
    is ∙ ap (λ (t : Tables). through book d t ps) n
    ∙ through_by before op loss book ps (way_back_over before op) d q

pub nothing_is : (book : Book) (before : Tables) (op : Operator) (ps : List PlainPiece)
    (loss : Loss) → derived before op ≡ None → ps ≡ brought book (step_back loss before op) ps
nothing_is book before op ps loss q = stays_by before op loss book ps (way_back_over before op) q

-- ---- a table that is not mapped is not lost

pub not_lost : (versions : List PlainVersion) (v q : ℕ) (n : List ℕ) (o : Option Loss)
    → o ≡ table_loss (lost_names versions v q) n → o ≡ None
    → get (lost_tables versions v q) n ≡ None
not_lost versions v q n o e h = not_mapped versions v q n (sym e ∙ h)

-- ---- one version

module _ (vs : List Version) (are : AreVersions None no_tables (map version_of vs)) (k : ℕ)
    (v : Version) (l : k < length vs) (e : v ≡ get_or vs k v) where
  abbrev pub all : List PlainVersion
  all = map version_of vs

  abbrev pub at : ℕ → Tables
  at j = tables_from no_tables (map version_of vs) j

  pub step_typed : (before : Tables) (ps : List PlainPiece) → before ≡ at k
      → AllTyped (at (k + 1)) ps → AllTyped (schema_after before (operator_of v.op)) ps
  step_typed before ps b y =
      subst (λ (t : Tables). AllTyped t ps) ((sides vs are k v l e).next
      ∙ (sides vs are k v l e).tables
      ∙ ap (λ (t : Tables). schema_after t (operator_of v.op)) (sym b)) y

  pub step_is : (book : Book) (before : Tables) (ps news : List PlainPiece) → before ≡ at k
      → news ≡ through book (operator_of v.op) before ps
      → news ≡ to_previous book (map version_of vs) k ps
  step_is book before ps news b is =
      is ∙ ap (λ (t : Tables). through book (operator_of v.op) t ps) b
      ∙ ap (λ o. taken_back (brought book) (over_version (at k) o) ps) (sym (here vs are k v l e))

  -- to the next version

  pub back_valid : IsValid v.schema
  back_valid = subst IsValid (sides vs are k v l e).next (valid_at all are (k + 1))

  pub back_typed : (ps : List PlainPiece) → (length v.inverse.items ≡ 0 → ⊥) → AllTyped (at k) ps
      → AllTyped (schema_after_each v.schema (operators_of v.inverse.items)) ps
  back_typed ps some y = step v.inverse.items some (sides vs are k v l e).inverse
    where
      step : (ops : List Op) → (length ops ≡ 0 → ⊥)
          → inverse_fault (at k) (evolution_of v.op) (evolutions_of ops) ≡ None
          → AllTyped (schema_after_each v.schema (operators_of ops)) ps
      step [] s i = absurd (s refl)
      step (x ∷ inverse) s i =
          subst (λ (t : Tables). AllTyped t ps)
          (sym (ap (λ (t : Tables). schema_after_each t (operators_of (x ∷ inverse)))
          (sides vs are k v l e).tables
          ∙ sym (schema_after_ones (schema_after (at k) (operator_of v.op))
          (operators_of (x ∷ inverse)))
          ∙ (accepted_leads_back (at k) (evolution_of v.op) (evolution_of x) (evolutions_of inverse)
          i).1)) y

  named_back : (book : Book) (ps : List PlainPiece) (ops : List Op)
      → (length ops ≡ 0 → ⊥) → through_each book v.schema (operators_of ops) ps
      ≡ taken_back (brought book) (back_over (k + 1) (at k) (evolution_of v.op) v.schema
      (evolutions_of ops)) ps
  named_back book ps [] h = absurd (h refl)
  named_back book ps (x ∷ ops) h =
      ap (λ (members : List Operator). through_each book v.schema members ps)
      (sym (members_of_ones (operators_of (x ∷ ops))))

  pub back_is : (book : Book) (ps news : List PlainPiece) → (length v.inverse.items ≡ 0 → ⊥)
      → news ≡ through_each book v.schema (operators_of v.inverse.items) ps
      → news ≡ to_next book (map version_of vs) k ps
  back_is book ps news some is =
      is ∙ named_back book ps v.inverse.items some
      ∙ ap (λ o. taken_back (brought book) (back_over_version (k + 1) (at k) o) ps)
      (sym (here vs are k v l e))

  -- where none is named
  pub unnamed_is : (book : Book) (before : Tables) (ps news : List PlainPiece) → before ≡ at k
      → length v.inverse.items ≡ 0
      → news ≡ brought book (step_back (k + 1, 1) before (operator_of v.op)) ps
      → news ≡ to_next book (map version_of vs) k ps
  unnamed_is book before ps news b none is =
      is ∙ ap (λ (t : Tables). brought book (step_back (k + 1, 1) t (operator_of v.op)) ps) b
      ∙ step v.inverse.items none
      ∙ ap (λ o. taken_back (brought book) (back_over_version (k + 1) (at k) o) ps)
      (sym (here vs are k v l e))
    where
      step : (ops : List Op) → length ops ≡ 0
          → brought book (step_back (k + 1, 1) (at k) (operator_of v.op)) ps
          ≡ taken_back (brought book) (back_over (k + 1) (at k) (evolution_of v.op) v.schema
          (evolutions_of ops)) ps
      step [] z = refl
      step (x ∷ ops) z = absurd (omega arith)
