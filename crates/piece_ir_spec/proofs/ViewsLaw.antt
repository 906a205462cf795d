-- To unfold by the views of an operator keeps the law of a rule.
use Rattle.std.specs.Prelude.{◌≡◌, ℕ, List, [], ◌∷◌, Bool, true, false, ◌||◌, Option, None, map}
use Rattle.std.specs.Prelude.{is_some, if◌then◌else◌}
use Rattle.std.specs.Option.{unwrap_or}
use Rattle.std.specs.FinMap.{get, contains_key}
use Rattle.std.proofs.Common.{refl, sym, ap, subst, ◌∙◌, inl, inr}
use Rattle.relations_spec.specs.Sets.{In}
use Rattle.relations_spec.specs.Choices.{Chosen, choices}
use Rattle.relations_spec.proofs.SetLaws.{from_map}
use Rattle.relations_spec.proofs.ChoiceLaws.{from_choices}
use Rattle.prima_base.specs.declared.refusal.OpKind.{OpKind}
use Rattle.prima_base.specs.Columns.{Column}
use Rattle.prima_base.specs.OrderLaws.{same_is}
use Rattle.schema_catalog.specs.Tables.{Tables}
use Rattle.schema_catalog.specs.Databases.{DatabaseEntry, Database, IsDatabase}
use Rattle.smo_ops_types.specs.Operators.{Operator}
use Rattle.smo_ops_spec.specs.OneRow.{Row, Relation, same}
use Rattle.smo_ops_spec.specs.OperatorKinds.{operator_kind}
use Rattle.smo_ops_spec.specs.Effects.{columns_of, rows_of, rows_under}
use Rattle.smo_ops_spec.specs.Preconditions.{among}
use Rattle.smo_ops_spec.specs.OperatorTable.{Made, line, made_names}
use Rattle.smo_ops_spec.specs.Touching.{makes, consumes, made_of}
use Rattle.smo_ops_spec.specs.After.{op_fault, schema_after, migrate, IsValid}
use Rattle.smo_ops_spec.proofs.NameLaws.{same_turned}
use Rattle.smo_ops_spec.proofs.TouchedTables.{table_stays, entry_stays, table_gone, made_is_there}
use Rattle.smo_ops_spec.proofs.TouchedTables.{made_is_migrated}
use Rattle.piece_ir_spec.specs.Pieces.{PlainPiece}
use Rattle.piece_ir_spec.specs.Typed.{AreThere, IsTyped, output_types}
use Rattle.piece_ir_spec.specs.Views.{PlainView, whole, Views, views_of}
use Rattle.piece_ir_spec.specs.Unfolding.{unfolded, unfoldings}
use Rattle.piece_ir_spec.specs.Given.{Picks, HasOutputs, AreGiven, IsTypedView, IsGivenBy}
use Rattle.piece_ir_spec.specs.Given.{EachGivenBy}
use Rattle.piece_ir_spec.specs.Given.{AreViews}
use Rattle.piece_ir_spec.specs.Rules.{sources_of, KeepsMeaning, IsValidRule, by_views, HasViews}
use Rattle.piece_ir_spec.specs.Constants.{ValidInOperator, ValidInView, ValidInPiece, ValidInPieces}
use Rattle.piece_ir_spec.proofs.AtomKinds.{kinds_at}
use Rattle.piece_ir_spec.proofs.ValidConstants.{unfolded_valid, chosen_valid}
use Rattle.piece_ir_spec.proofs.UnfoldedMeaning.{AreMade, same_meaning}
use Rattle.piece_ir_spec.proofs.UnfoldedTypes.{unfolded_typed, unfolded_outputs, atom_from}

-- ---- a whole table

module _ (t : Tables) (db : Database) (a : List ℕ) where
  whole_there : (row : Row) → In row (rows_under (get db a))
      → (v : PlainView) × (choice : List Row) × In v (whole a ∷ []) × Picks t db v choice
      × HasOutputs t (columns_of t a) v choice row
  whole_there row m = (
    whole a,
    row ∷ [],
    inl refl,
    record { chosen = (m, tt); met = refl },
    record { is = λ n i. refl },
  )

  whole_row : (choice : List Row) → Picks t db (whole a) choice → (row : Row)
      × In row (rows_under (get db a)) × HasOutputs t (columns_of t a) (whole a) choice row
  whole_row [] p = absurd p.chosen
  whole_row (r ∷ []) p = (r, p.chosen.0, record { is = λ n i. refl })
  whole_row (r ∷ s ∷ choice) p = absurd p.chosen.1

  whole_back : (v : PlainView) → In v (whole a ∷ []) → (choice : List Row) → Picks t db v choice
      → (row : Row) × In row (rows_under (get db a)) × HasOutputs t (columns_of t a) v choice row
  whole_back v (inl e) =
      subst (λ (x : PlainView). (choice : List Row) → Picks t db x choice → (row : Row)
      × In row (rows_under (get db a)) × HasOutputs t (columns_of t a) x choice row) e whole_row
  whole_back v (inr m) = absurd m

  whole_given : AreGiven t db (columns_of t a) (rows_under (get db a)) (whole a ∷ [])
  whole_given = record { there = whole_there; back = whole_back }

whole_is_there : (t : Tables) (a : List ℕ) → contains_key t a ≡ true → AreThere t (a ∷ [])
whole_is_there t a h n (inl e) = subst (λ (x : List ℕ). contains_key t x ≡ true) e h
whole_is_there t a h n (inr m) = absurd m

whole_is_typed : (t : Tables) (a : List ℕ) → contains_key t a ≡ true
    → IsTypedView t (columns_of t a) (whole a)
whole_is_typed t a h = record {
  there = whole_is_there t a h;
  parts = λ c m. absurd m;
  outs = λ n k e. kinds_at (columns_of t a ∷ []) 0 n ∙ e;
}

whole_typed : (t : Tables) (a : List ℕ) → contains_key t a ≡ true → (v : PlainView)
    → In v (whole a ∷ []) → IsTypedView t (columns_of t a) v
whole_typed t a h v (inl e) = subst (IsTypedView t (columns_of t a)) e (whole_is_typed t a h)
whole_typed t a h v (inr m) = absurd m

-- ---- the views of a table

-- those of a made table are those of one that the operator makes under this name
record Found (tables : Tables) (op : Operator) (made : List Made) (views : List PlainView)
    (a : List ℕ) : Type 0 where
  pub one : Made
  pub of : In one made
  pub name : one.name ≡ a
  pub named : List ℕ × List PlainView
  pub given : IsGivenBy tables op one named
  pub is : named.1 ≡ views

found : (tables : Tables) (op : Operator) (made : List Made) (views : Views)
    → EachGivenBy tables op made views → (a : List ℕ)
    → among a (made_names made) ≡ true → Found tables op made (views_of views a) a
found tables op [] views g a e = absurd (cc)
found tables op (m ∷ made) [] g a e = absurd g
found tables op (m ∷ made) (w ∷ views) g a e =
    step (same a m.name) refl e (found tables op made views g.1 a)
  where
    named_as : (b : Bool) → same a m.name ≡ b → same w.0 a ≡ b
    named_as b q = ap (λ (x : List ℕ). same x a) g.0.name ∙ same_turned m.name a ∙ q

    step : (b : Bool) → same a m.name ≡ b → (b || among a (made_names made)) ≡ true
        → (among a (made_names made) ≡ true → Found tables op made (views_of views a) a)
        → Found tables op (m ∷ made) (if same w.0 a then w.1 else views_of views a) a
    step true q f more = record {
      one = m;
      of = inl refl;
      name = sym (same_is a m.name q);
      named = w;
      given = g.0;
      is = sym (ap (λ b. if b then w.1 else views_of views a) (named_as true q));
    }
    step false q f more =
        let k = more f in
        let other : views_of views a ≡ (if same w.0 a then w.1 else views_of views a) =
        sym (ap (λ b. if b then w.1 else views_of views a) (named_as false q)) in
        record {
          one = k.one;
          of = inr k.of;
          name = k.name;
          named = k.named;
          given = k.given;
          is =
              k.is ∙ other;
        }

none_made : (tables : Tables) (op : Operator) (made : List Made) (views : Views)
    → EachGivenBy tables op made views → (a : List ℕ)
    → among a (made_names made) ≡ false → whole a ∷ [] ≡ views_of views a
none_made tables op [] [] g a e = refl
none_made tables op [] (w ∷ views) g a e = absurd g
none_made tables op (m ∷ made) [] g a e = absurd g
none_made tables op (m ∷ made) (w ∷ views) g a e =
    step (same a m.name) refl e (none_made tables op made views g.1 a)
  where
    step : (b : Bool) → same a m.name ≡ b → (b || among a (made_names made)) ≡ false
        → (among a (made_names made) ≡ false → whole a ∷ [] ≡ views_of views a)
        → whole a ∷ [] ≡ (if same w.0 a then w.1 else views_of views a)
    step true q f more = absurd (cc)
    step false q f more =
        let named : same w.0 a ≡ false = ap (λ (x : List ℕ). same x a) g.0.name
        ∙ same_turned m.name a ∙ q in
        more f ∙ sym (ap (λ b. if b then w.1 else views_of views a) named)

-- ---- the tables after an operator

module _ (tables : Tables) (op : Operator) (views : Views) (accepted : op_fault tables op ≡ None)
    (given : AreViews tables op views) where
  abbrev vs : List ℕ → List PlainView
  vs = views_of views

  kept_apart : (a : List ℕ) → makes tables op a ≡ false
      → contains_key (schema_after tables op) a ≡ true → consumes tables op a ≡ false
  kept_apart a e h = step (consumes tables op a) refl
    where
      step : (b : Bool) → consumes tables op a ≡ b → consumes tables op a ≡ false
      step true q = absurd (let g = table_gone tables op a e q in
          let f : contains_key (schema_after tables op) a ≡ false = ap is_some g in cc)
      step false q = q

  abbrev stays : (a : List ℕ) → makes tables op a ≡ false
      → contains_key (schema_after tables op) a ≡ true
      → get (schema_after tables op) a ≡ get tables a
  stays a e h = table_stays tables op a e (kept_apart a e h)

  made_columns : (m : Made) (a : List ℕ) → In m (line tables op).made → m.name ≡ a
      → m.columns ≡ columns_of (schema_after tables op) a
  made_columns m a i e =
      sym (ap (λ (o : Option (List Column)). unwrap_or o []) (made_is_there tables op m accepted i))
      ∙ ap (columns_of (schema_after tables op)) e

  made_rows : (db : Database) (m : Made) (a : List ℕ) → In m (line tables op).made → m.name ≡ a
      → rows_of (m.entry db) ≡ rows_under (get (migrate tables op db) a)
  made_rows db m a i e =
      sym (ap rows_under (made_is_migrated tables op db m accepted i))
      ∙ ap (λ (n : List ℕ). rows_under (get (migrate tables op db) n)) e

  -- each table after is given by its views
  table_given : (db : Database) → IsDatabase tables db → (a : List ℕ)
      → contains_key (schema_after tables op) a ≡ true
      → AreGiven tables db (columns_of (schema_after tables op) a)
      (rows_under (get (migrate tables op db) a)) (vs a)
  table_given db d a h = step (makes tables op a) refl
    where
      step : (b : Bool) → makes tables op a ≡ b
          → AreGiven tables db (columns_of (schema_after tables op) a)
          (rows_under (get (migrate tables op db) a)) (vs a)
      step true q =
          let f = found tables op (line tables op).made views given a q in
          subst (λ (x : List PlainView). AreGiven tables db (columns_of (schema_after tables op) a)
          (rows_under (get (migrate tables op db) a)) x) f.is
          (subst (λ (x : Relation). AreGiven tables db (columns_of (schema_after tables op) a) x
          f.named.1) (made_rows db f.one a f.of f.name)
          (subst (λ (x : List Column). AreGiven tables db x (rows_of (f.one.entry db)) f.named.1)
          (made_columns f.one a f.of f.name) (f.given.rows db d)))
      step false q =
          let c = kept_apart a q h in
          subst (λ (x : List PlainView). AreGiven tables db (columns_of (schema_after tables op) a)
          (rows_under (get (migrate tables op db) a)) x)
          (none_made tables op (line tables op).made views given a q)
          (subst (λ (x : Option DatabaseEntry).
          AreGiven tables db (columns_of (schema_after tables op) a) (rows_under x)
          (whole a ∷ [])) (sym (entry_stays tables op a q db c))
          (subst (λ (x : Option (List Column)).
          AreGiven tables db (unwrap_or x []) (rows_under (get db a)) (whole a ∷ []))
          (sym (stays a q h)) (whole_given tables db a)))

  table_typed : (a : List ℕ) → contains_key (schema_after tables op) a ≡ true → (v : PlainView)
      → In v (vs a) → IsTypedView tables (columns_of (schema_after tables op) a) v
  table_typed a h = step (makes tables op a) refl
    where
      step : (b : Bool) → makes tables op a ≡ b → (v : PlainView) → In v (vs a)
          → IsTypedView tables (columns_of (schema_after tables op) a) v
      step true q v m =
          let f = found tables op (line tables op).made views given a q in
          subst (λ (x : List Column). IsTypedView tables x v) (made_columns f.one a f.of f.name)
          (f.given.typed v (subst (λ (x : List PlainView). In v x) (sym f.is) m))
      step false q v m =
          subst (λ (x : Option (List Column)). IsTypedView tables (unwrap_or x []) v)
          (sym (stays a q h))
          (whole_typed tables a (sym (ap is_some (stays a q h)) ∙ h) v
          (subst (λ (x : List PlainView). In v x)
          (sym (none_made tables op (line tables op).made views given a q)) m))

  whole_atom : (a n : List ℕ) (v : PlainView) → In v (whole a ∷ []) → In n v.atoms → In n (a ∷ [])
  whole_atom a n v (inl e) m = subst (λ (x : PlainView). In n x.atoms) (sym e) m
  whole_atom a n v (inr i) m = absurd i

  -- each atom of a view of a table is a source table of it
  table_sources : (a : List ℕ) (v : PlainView) → In v (vs a) → (n : List ℕ) → In n v.atoms
      → In n (sources_of tables op a)
  table_sources a v m n i = step (makes tables op a) refl
    where
      step : (b : Bool) → makes tables op a ≡ b → In n (if b then made_of op else a ∷ [])
      step true q =
          let f = found tables op (line tables op).made views given a q in
          f.given.inputs v (subst (λ (x : List PlainView). In v x) (sym f.is) m) n i
      step false q = whole_atom a n v (subst (λ (x : List PlainView). In v x)
          (sym (none_made tables op (line tables op).made views given a q)) m) i

  whole_valid : (a : List ℕ) (v : PlainView) → In v (whole a ∷ []) → ValidInView v
  whole_valid a v (inl e) = subst ValidInView e
      (record { parts = λ c m. absurd m; outs = λ o m. absurd m })
  whole_valid a v (inr m) = absurd m

  -- the constants of each view of a table are valid
  table_valid : ValidInOperator op → (a : List ℕ) (v : PlainView) → In v (vs a) → ValidInView v
  table_valid h a v m = step (makes tables op a) refl
    where
      step : (b : Bool) → makes tables op a ≡ b → ValidInView v
      step true q =
          let f = found tables op (line tables op).made views given a q in
          f.given.constants h v (subst (λ (x : List PlainView). In v x) (sym f.is) m)
      step false q = whole_valid a v (subst (λ (x : List PlainView). In v x)
          (sym (none_made tables op (line tables op).made views given a q)) m)

  module _ (p : PlainPiece) (typed : IsTyped (schema_after tables op) p) where
    all_made : (db : Database) → IsDatabase tables db → (atoms : List (List ℕ))
        → AreThere (schema_after tables op) atoms
        → AreMade tables db (schema_after tables op) (migrate tables op db) vs atoms
    all_made db d [] h = tt
    all_made db d (a ∷ atoms) h = (
      record {
        given = table_given db d a (h a (inl refl));
        typed =
            table_typed a (h a (inl refl));
      },
      all_made db d atoms (λ n m. h n (inr m)),
    )

    abbrev news : List PlainPiece
    news = unfoldings views p

    of_unfolding : (q : PlainPiece) → In q news → (sel : List PlainView)
        × Chosen sel (map vs p.atoms) × (unfolded p sel ≡ q)
    of_unfolding q m = let f = from_map (unfolded p) q (choices (map vs p.atoms)) m in
        (f.0, from_choices f.0 (map vs p.atoms) f.1, f.2)

    view_typed : (a : List ℕ) → In a p.atoms → (v : PlainView) → In v (vs a)
        → IsTypedView tables (columns_of (schema_after tables op) a) v
    view_typed a m = table_typed a (typed.there a m)

    sources : (q : PlainPiece) → In q news → (n : List ℕ) → In n q.atoms → (a : List ℕ)
        × In a p.atoms × In n (sources_of tables op a)
    sources q m n i =
        let f = of_unfolding q m in
        let g = atom_from tables (schema_after tables op) vs p.atoms f.0 f.1 n
        (subst (λ (x : PlainPiece). In n x.atoms) (sym f.2) i) in
        (g.0, g.2, table_sources g.0 g.1 g.3 n g.4)

    valid_news : ValidInOperator op → ValidInPiece p → ValidInPieces news
    valid_news h k q m =
        let f = of_unfolding q m in
        subst ValidInPiece f.2 (unfolded_valid p f.0 k
        (chosen_valid vs (table_valid h) p.atoms f.0 f.1))

    pub keeps_meaning : KeepsMeaning tables op p (unfoldings views p)
    keeps_meaning = record {
      law = λ db d. same_meaning tables db (schema_after tables op) (migrate tables op db) vs p
          (all_made db d.database p.atoms typed.there) typed;
      typed = λ q m. (let f = of_unfolding q m in
          subst (IsTyped tables) f.2 (unfolded_typed tables (schema_after tables op) vs p view_typed
          typed f.0 f.1));
      outputs = λ q m. (
          let f = of_unfolding q m in
          subst (λ (x : PlainPiece). output_types tables x
          ≡ output_types (schema_after tables op) p) f.2
          (unfolded_outputs tables (schema_after tables op) vs p view_typed typed f.0 f.1)
          );
      sources = sources;
      constants = valid_news;
    }

-- rules that unfold by the views of their operators are valid
pub views_valid : (kind : OpKind) (views : Tables → Operator → Views) → HasViews kind views
    → IsValidRule kind (by_views views)
views_valid kind views has = record {
  keeps = λ tables op p k good accepted typed.
      keeps_meaning tables op (views tables op) accepted (has tables op k good accepted) p typed;
}

-- what such a rule answers keeps the meaning, however it is written
pub answer_keeps : (kind : OpKind) (views : Tables → Operator → Views) → HasViews kind views
    → (tables : Tables) (op : Operator) (p : PlainPiece) (answer : List PlainPiece)
    → operator_kind op ≡ kind → IsValid tables → op_fault tables op ≡ None
    → IsTyped (schema_after tables op) p → answer ≡ by_views views op tables p
    → KeepsMeaning tables op p answer
answer_keeps kind views has tables op p answer k good accepted typed is =
    subst (KeepsMeaning tables op p) (sym is)
    (keeps_meaning tables op (views tables op) accepted (has tables op k good accepted) p typed)
