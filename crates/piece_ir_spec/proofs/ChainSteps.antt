-- One step of the way of pieces: through an operator, through the operators of an inverse, and back
-- where none is named.
use Rattle.std.proofs.Common.{◌≡◌, ℕ, Bool, true, false, List, [], ◌∷◌, refl, sym, ap, subst, ◌∙◌}
use Rattle.std.proofs.Common.{inl, inr}
use Rattle.std.specs.Prelude.{cond, is_some, Option, Some, None}
use Rattle.std.specs.Option.{option_or, option_map}
use Rattle.std.specs.FinMap.{get, contains_key}
use Rattle.relations_spec.specs.Sets.{In}
use Rattle.relations_spec.proofs.SetLaws.{from_map, from_flat_map}
use Rattle.prima_base.specs.declared.value.ColType.{ColType}
use Rattle.schema_catalog.specs.Tables.{Tables}
use Rattle.schema_catalog.specs.Databases.{DatabaseEntry, Rows, Lost, Database}
use Rattle.smo_ops_types.specs.Operators.{Operator}
use Rattle.smo_ops_spec.specs.Effects.{rows_under}
use Rattle.smo_ops_spec.specs.OperatorTable.{Made, line, made_names}
use Rattle.smo_ops_spec.specs.Touching.{makes, consumes, made_of}
use Rattle.smo_ops_spec.specs.Losses.{IsDatabaseWithLosses, Loss, loss_of, loss_in, first_loss}
use Rattle.smo_ops_spec.specs.After.{op_fault, schema_after, migrate, IsValid}
use Rattle.smo_ops_spec.specs.ValidValues.{OperatorHolds, HoldsValues}
use Rattle.smo_ops_spec.proofs.NameLaws.{among_in}
use Rattle.smo_ops_spec.proofs.LossLaws.{losses_handed_on}
use Rattle.smo_ops_spec.proofs.TouchedTables.{entry_stays, table_stays, table_gone}
use Rattle.smo_ops_spec.proofs.MigratedDatabases.{migrated_with_losses}
use Rattle.smo_ops_spec.proofs.ValueLaws.{migrated_values}
use Rattle.smo_ops_versions_spec.specs.LostAsEmpty.{entry_emptied, whole}
use Rattle.smo_ops_spec.specs.WaysBack.{blank, filled_with}
use Rattle.smo_ops_versions_spec.specs.Steps.{Step, carrying, filling, undoing, tables_before}
use Rattle.smo_ops_versions_spec.specs.Steps.{tables_behind, taken}
use Rattle.smo_ops_versions_spec.specs.Steps.{taken_back, IsLawful, Lead, AllSteps, StepHolds}
use Rattle.smo_ops_versions_spec.specs.Migration.{undone, stepped}
use Rattle.smo_ops_versions_spec.proofs.WayDatabases.{unnamed_at, unmade, unnamed_database}
use Rattle.smo_ops_versions_spec.proofs.WayValues.{blank_is_valid}
use Rattle.smo_ops_versions_spec.proofs.WholeDatabases.{whole_at, same_when_whole}
use Rattle.piece_ir_spec.specs.Pieces.{PlainPiece, all_mean}
use Rattle.piece_ir_spec.specs.Typed.{AllTyped, output_types}
use Rattle.piece_ir_spec.specs.Constants.{ValidInOperator, ValidInPieces}
use Rattle.piece_ir_spec.specs.Rules.{Book, IsValidBook, sources_of}
use Rattle.piece_ir_spec.specs.Chains.{through, brought, NoneLost}
use Rattle.piece_ir_spec.proofs.PieceLaws.{AgreeAt, same_meaning, same_types, same_outputs}
use Rattle.piece_ir_spec.proofs.PieceLaws.{each_so}
use Rattle.piece_ir_spec.proofs.HeldValues.{whole_valid, undone_holds, StepIsValid}

-- the outputs' names and types that pieces have
abbrev pub Outputs : Type 0
Outputs = List (List ℕ × Option ColType)

-- each piece has these
abbrev pub AllOutput : Tables → Outputs → List PlainPiece → Type 0
AllOutput tables outs ps = (p : PlainPiece) → In p ps → output_types tables p ≡ outs

-- databases go from the tables t to the tables u, and pieces from u to t: what the new pieces mean
-- over a database is what the old ones mean over that which it becomes, wherever none of their
-- tables is lost there; and then none of the new ones' is lost before. Of values it is said where H
-- holds: that the constants on the way that come into rows are valid; and of the pieces' constants
-- where K holds: that all on the way are
pub record IsStep (H K : Type 0) (t u : Tables) (f : Database → Database) (g : List PlainPiece
    → List PlainPiece) : Type 0 where
  pub keeps : (db : Database) → IsDatabaseWithLosses t db → IsDatabaseWithLosses u (f db)
  pub values : H → (db : Database) → HoldsValues db → HoldsValues (f db)
  pub typed : (db : Database) (ps : List PlainPiece) → IsDatabaseWithLosses t db → AllTyped u ps
      → NoneLost (f db) ps → AllTyped t (g ps)
  pub none : (db : Database) (ps : List PlainPiece) → IsDatabaseWithLosses t db → AllTyped u ps
      → NoneLost (f db) ps → NoneLost db (g ps)
  pub outputs : (db : Database) (ps : List PlainPiece) (outs : Outputs) → IsDatabaseWithLosses t db
      → AllTyped u ps → NoneLost (f db) ps → AllOutput u outs ps → AllOutput t outs (g ps)
  pub law : H → (db : Database) (ps : List PlainPiece) → IsDatabaseWithLosses t db → HoldsValues db
      → AllTyped u ps → NoneLost (f db) ps → all_mean t db (g ps) ≡ all_mean u (f db) ps
  pub constants : K → (db : Database) (ps : List PlainPiece) → IsDatabaseWithLosses t db
      → AllTyped u ps → NoneLost (f db) ps → ValidInPieces ps → ValidInPieces (g ps)

pub no_step : (H K : Type 0) (t : Tables) → IsStep H K t t (λ db. db) (λ ps. ps)
no_step H K t = record {
  keeps = λ db h. h;
  values = λ x db h. h;
  typed = λ db ps h y n. y;
  none = λ db ps h y n. n;
  outputs = λ db ps outs h y n o. o;
  law = λ x db ps h w y n. refl;
  constants = λ k db ps h y n c. c;
}

pub both_steps : (H K : Type 0) (t u w : Tables) (f : Database → Database) (g : List PlainPiece
    → List PlainPiece) (f' : Database → Database) (g' : List PlainPiece → List PlainPiece)
    → IsStep H K t u f g → IsStep H K u w f' g' → IsStep H K t w (λ db. f' (f db)) (λ ps. g (g' ps))
both_steps H K t u w f g f' g' a b = record {
  keeps = λ db h. b.keeps (f db) (a.keeps db h);
  values = λ x db h. b.values x (f db) (a.values x db h);
  typed = λ db ps h y n. a.typed db (g' ps) h (b.typed (f db) ps (a.keeps db h) y n)
      (b.none (f db) ps (a.keeps db h) y n);
  none = λ db ps h y n. a.none db (g' ps) h (b.typed (f db) ps (a.keeps db h) y n)
      (b.none (f db) ps (a.keeps db h) y n);
  outputs = λ db ps outs h y n o.
      a.outputs db (g' ps) outs h (b.typed (f db) ps (a.keeps db h) y n)
      (b.none (f db) ps (a.keeps db h) y n) (b.outputs (f db) ps outs (a.keeps db h) y n o);
  law = λ x db ps h v y n.
      a.law x db (g' ps) h v (b.typed (f db) ps (a.keeps db h) y n)
      (b.none (f db) ps (a.keeps db h) y n)
      ∙ b.law x (f db) ps (a.keeps db h) (a.values x db v) y n;
  constants = λ k db ps h y n c.
      a.constants k db (g' ps) h (b.typed (f db) ps (a.keeps db h) y n)
      (b.none (f db) ps (a.keeps db h) y n) (b.constants k (f db) ps (a.keeps db h) y n c);
}

-- ---- over an operator

-- what is lost has no rows, and may be taken for what has none
whole_is : (x : Option DatabaseEntry) → rows_under (option_map entry_emptied x) ≡ rows_under x
whole_is None = refl
whole_is (Some (Rows rows)) = refl
whole_is (Some (Lost k i)) = refl

whole_rows : (db : Database) (n : List ℕ) → rows_under (get (whole db) n) ≡ rows_under (get db n)
whole_rows db n = ap rows_under (whole_at db n) ∙ whole_is (get db n)

none_first : (loss : List ℕ → Option Loss) (names : List (List ℕ)) → first_loss loss names ≡ None
    → (n : List ℕ) → In n names → loss n ≡ None
none_first loss [] e n m = absurd m
none_first loss (x ∷ names) e n m = step (λ h i. none_first loss names h n i) (loss x) refl e m
  where
    step : (first_loss loss names ≡ None → In n names → loss n ≡ None) → (o : Option Loss)
        → loss x ≡ o → option_or o (first_loss loss names) ≡ None → In n (x ∷ names) → loss n ≡ None
    step more (Some l) q h i = absurd (cc)
    step more None q h (inl s) = subst (λ (y : List ℕ). loss y ≡ None) s q
    step more None q h (inr i) = more h i

module _ (tables : Tables) (op : Operator) (accepted : op_fault tables op ≡ None)
    (db : Database) where
  made_one : (n : List ℕ) → makes tables op n ≡ true → (m : Made) × In m (line tables op).made
      × (m.name ≡ n)
  made_one n e = from_map (λ (m : Made). m.name) n (line tables op).made
      (among_in n (made_names (line tables op).made) e)

  -- a made table that is not lost is made of none that is
  whole_inputs : (m : Made) → In m (line tables op).made
      → loss_in (migrate tables op db) m.name ≡ None → (n : List ℕ) → In n (made_of op)
      → loss_in db n ≡ None
  whole_inputs m i e n j = none_first (loss_in db) (made_of op)
      (sym (losses_handed_on tables op db m accepted i) ∙ e) n j

  -- a table after the operator that is not made stays
  stays_there : (n : List ℕ) → makes tables op n ≡ false
      → contains_key (schema_after tables op) n ≡ true → consumes tables op n ≡ false
  stays_there n e there = step (consumes tables op n) refl
    where
      step : (b : Bool) → consumes tables op n ≡ b → consumes tables op n ≡ false
      step true q = absurd (let g = table_gone tables op n e q in let s = ap is_some g in cc)
      step false q = q

  -- a source table of a table that is not lost is not lost
  whole_sources : (n : List ℕ) → contains_key (schema_after tables op) n ≡ true
      → loss_in (migrate tables op db) n ≡ None
      → (s : List ℕ) → In s (sources_of tables op n) → loss_in db s ≡ None
  whole_sources n there e s j = step (makes tables op n) refl j
    where
      step : (b : Bool) → makes tables op n ≡ b → In s (cond b (made_of op) (n ∷ []))
          → loss_in db s ≡ None
      step true q i = (let m = made_one n q in
          whole_inputs m.0 m.1 (ap (loss_in (migrate tables op db)) m.2 ∙ e) s i)
      step false q (inl i) =
          subst (λ (x : List ℕ). loss_in db x ≡ None) i
          (sym (ap loss_of (entry_stays tables op n q db (stays_there n q there))) ∙ e)
      step false q (inr i) = absurd i

module _ (book : Book) (valid : IsValidBook book) (tables : Tables) (op : Operator)
    (good : IsValid tables) (accepted : op_fault tables op ≡ None) where
  abbrev answer : PlainPiece → List PlainPiece
  answer p = book op tables p

  pub all_typed : (ps : List PlainPiece) → AllTyped (schema_after tables op) ps
      → AllTyped tables (through book op tables ps)
  all_typed ps y = λ q m. (let f = from_flat_map answer q ps m in
      (valid.keeps tables op f.0 good accepted (y f.0 f.1)).typed q f.2)

  none_before : (db : Database) (ps : List PlainPiece) → AllTyped (schema_after tables op) ps
      → NoneLost (migrate tables op db) ps → NoneLost db (through book op tables ps)
  none_before db ps y none = λ q m n i.
      let f = from_flat_map answer q ps m in
      let s = (valid.keeps tables op f.0 good accepted (y f.0 f.1)).sources q f.2 n i in
      whole_sources tables op accepted db s.0 ((y f.0 f.1).there s.0 s.1) (none f.0 f.1 s.0 s.1) n
      s.2

  outputs_before : (ps : List PlainPiece) (outs : Outputs) → AllTyped (schema_after tables op) ps
      → AllOutput (schema_after tables op) outs ps
      → AllOutput tables outs (through book op tables ps)
  outputs_before ps outs y o = λ q m.
      let f = from_flat_map answer q ps m in
      (valid.keeps tables op f.0 good accepted (y f.0 f.1)).outputs q f.2 ∙ o f.0 f.1

  same_answer : (db : Database) (ps : List PlainPiece) → IsDatabaseWithLosses tables db
      → HoldsValues db → AllTyped (schema_after tables op) ps → NoneLost (migrate tables op db) ps
      → all_mean tables db (through book op tables ps)
      ≡ all_mean (schema_after tables op) (migrate tables op db) ps
  same_answer db ps h w y none =
      same_meaning tables tables db (whole db) (through book op tables ps)
      (λ q m n i. record { columns = refl; rows = sym (whole_rows db n) })
      ∙ each_so tables (schema_after tables op) (whole db) (migrate tables op (whole db)) answer ps
      (λ p m. (valid.keeps tables op p good accepted (y p m)).law (whole db)
      (whole_valid tables db h w))
      ∙ same_meaning (schema_after tables op) (schema_after tables op)
      (migrate tables op (whole db)) (migrate tables op db) ps
      (λ p m n i. record {
        columns = refl;
        rows =
            ap rows_under (same_when_whole tables op accepted db n (none p m n i));
      })

  constants_before : (ps : List PlainPiece) → AllTyped (schema_after tables op) ps
      → ValidInOperator op → ValidInPieces ps → ValidInPieces (through book op tables ps)
  constants_before ps y h c = λ q m.
      let f = from_flat_map answer q ps m in
      (valid.keeps tables op f.0 good accepted (y f.0 f.1)).constants h (c f.0 f.1) q f.2

  pub operator_step : (H K : Type 0) → (H → OperatorHolds op) → (K → ValidInOperator op)
      → IsStep H K tables (schema_after tables op) (migrate tables op) (through book op tables)
  operator_step H K holds kept = record {
    keeps = λ db h. migrated_with_losses tables op db good.schema accepted h;
    values = λ x db h. migrated_values tables op db (holds x) h;
    typed = λ db ps h y n. all_typed ps y;
    none = λ db ps h y n. none_before db ps y n;
    outputs = λ db ps outs h y n o. outputs_before ps outs y o;
    law = λ x db ps h w y n. same_answer db ps h w y n;
    constants = λ k db ps h y n c. constants_before ps y (kept k) c;
  }

-- ---- back over an operator with no inverse: the pieces stay

module _ (loss : Loss) (before : Tables) (op : Operator)
    (accepted : op_fault before op ≡ None) where
  abbrev gone_back : Database → Database
  gone_back db = undone loss before op db

  -- a table that is not lost was not consumed
  not_consumed : (db : Database) (n : List ℕ) → loss_in (gone_back db) n ≡ None
      → consumes before op n ≡ false
  not_consumed db n e = step (consumes before op n) refl
      (sym (ap loss_of (unnamed_at loss before op accepted db n)) ∙ e)
    where
      step : (b : Bool) → consumes before op n ≡ b
          → loss_of (cond b (Some (Lost loss.0 loss.1)) (cond (makes before op n) None (get db n)))
          ≡ None
          → consumes before op n ≡ false
      step true q h = absurd (cc)
      step false q h = q

  -- nor is it made; so it is as before
  as_before : (db : Database) (n : List ℕ) → contains_key before n ≡ true
      → loss_in (gone_back db) n ≡ None → get (gone_back db) n ≡ get db n
  as_before db n there e =
      let c = not_consumed db n e in
      let m = unmade loss before op accepted n there c in
      unnamed_at loss before op accepted db n
      ∙ ap (λ b. cond b (Some (Lost loss.0 loss.1)) (cond (makes before op n) None (get db n))) c
      ∙ ap (λ (b : Bool). cond b None (get db n)) m

  same_table : (db : Database) (n : List ℕ) → contains_key before n ≡ true
      → loss_in (gone_back db) n ≡ None → get before n ≡ get (schema_after before op) n
  same_table db n there e =
      let c = not_consumed db n e in
      sym (table_stays before op n (unmade loss before op accepted n there c) c)

  -- it is as it is after the operator
  alike_before : (db : Database) (n : List ℕ) → contains_key before n ≡ true
      → loss_in (gone_back db) n ≡ None → AgreeAt (schema_after before op) before db (gone_back db)
      n
  alike_before db n there e = record {
    columns = sym (same_table db n there e);
    rows =
        sym (ap rows_under (as_before db n there e));
  }

  pub undone_step : (H K : Type 0) → IsStep H K (schema_after before op) before
      (undone loss before op)
      (λ ps. ps)
  undone_step H K = record {
    keeps = λ db h. unnamed_database loss before op accepted db h;
    values = λ x db h. undone_holds loss before op db accepted h;
    typed = λ db ps h y none p m. same_types before (schema_after before op) p
        (λ n i. same_table db n ((y p m).there n i) (none p m n i)) (y p m);
    none = λ db ps h y none p m n i. sym (ap loss_of
        (as_before db n ((y p m).there n i) (none p m n i))) ∙ none p m n i;
    outputs = λ db ps outs h y none o p m. sym
        (same_outputs before (schema_after before op) p
        (λ n i. same_table db n ((y p m).there n i) (none p m n i))) ∙ o p m;
    law = λ x db ps h w y none. same_meaning (schema_after before op) before db
        (undone loss before op db) ps (λ p m n i.
        alike_before db n ((y p m).there n i) (none p m n i));
    constants = λ k db ps h y none c. c;
  }

-- ---- over steps

module _ (book : Book) (valid : IsValidBook book) (H K : Type 0) where
  one_step : (s : Step) → IsLawful s → (H → StepHolds s) → (K → StepIsValid s)
      → IsStep H K (tables_before s) (tables_behind s) (stepped s) (brought book s)
  one_step (carrying tables op) l holds kept =
      operator_step book valid tables op l.valid l.accepted H K holds kept
  one_step (filling loss tables f) l holds kept =
      operator_step book valid tables (filled_with blank f) l.valid l.accepted H K
      (λ x. blank_is_valid f.kind) (λ x. blank_is_valid f.kind)
  one_step (undoing loss tables op) l holds kept = undone_step loss tables op l.accepted H K

  pub steps_step : (before after : Tables) (steps : List Step) → Lead before steps after
      → (H → AllSteps StepHolds steps) → (K → AllSteps StepIsValid steps)
      → IsStep H K before after (taken stepped steps) (taken_back (brought book) steps)
  steps_step before after [] l holds kept =
      subst (λ t. IsStep H K before t (λ db. db) (λ ps. ps)) l (no_step H K before)
  steps_step before after (s ∷ steps) l holds kept =
      subst (λ t. IsStep H K t after (taken stepped (s ∷ steps))
      (taken_back (brought book) (s ∷ steps))) (sym l.1)
      (both_steps H K (tables_before s) (tables_behind s) after (stepped s) (brought book s)
      (taken stepped steps) (taken_back (brought book) steps)
      (one_step s l.0 (λ x. (holds x).0) (λ k. (kept k).0))
      (steps_step (tables_behind s) after steps l.2 (λ x. (holds x).1) (λ k. (kept k).1)))
